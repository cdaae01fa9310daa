-- `Page::mark_end` meets its contract: the newline has room behind any mark, and ends its line. Assumes nothing.
use Rattle.text.specs.Lines.{answer_end}
use Rattle.text.specs.Room.{said_room}
use Rattle.text.proofs.PutLaws.{put_then, room_left}
use Rattle.text.proofs.Page.mark_end.Goals as goal

pub put-requires : goal.put-requires
put-requires c = room_left said_room 1 c.mark.ensures.put c.mark.ensures.few c.requires

pub returns-clause-put : goal.returns-clause-put
unfolding answer_end
returns-clause-put c = put_then c.mark.ensures.put c.put.ensures.put
