-- `turns::answer` meets its contract: each request is answered by its own step, and a question leaves the arrays as they are. Assumes nothing.
use Rattle.steps.proofs.SeenLaws.{ask_seen, room_seen}
use Rattle.turns.proofs.AnswerLaws.{started, called, returned, taken_back, asked-standing, asked-room}
use Rattle.turns.proofs.answer.Goals as goal

pub enter-requires : goal.enter-requires
enter-requires c = let ok = c.requires in
    (ok.0, ok.1)

pub returns-in-Start : goal.returns-in-Start
returns-in-Start c = λ net run. started net _ _ c.in-Start.is (c.enter.ensures net run)

pub enter-requires-in-Call : goal.enter-requires-in-Call
enter-requires-in-Call c = let ok = c.requires in
    (ok.0, ok.1)

pub returns-in-Call : goal.returns-in-Call
returns-in-Call c = λ net run. called net _ _ _ c.in-Call.is (c.enter-in-Call.ensures net run)

pub leave-requires : goal.leave-requires
leave-requires c = let ok = c.requires in
    (ok.0, _, ok.1)

pub returns-in-Return : goal.returns-in-Return
returns-in-Return c = λ net run. returned net _ c.in-Return.is (c.leave.ensures net _ run)

pub returns-in-TakeBack : goal.returns-in-TakeBack
returns-in-TakeBack c = λ net run. taken_back net _ c.in-TakeBack.is (c.take_back.ensures net _ _ _ _ _ run)

-- A question
pub ask-requires : goal.ask-requires
ask-requires c = let ok = c.requires in
    (ok.0, ask_seen ok.1)

pub returns-in-Ask : goal.returns-in-Ask
returns-in-Ask c = λ net run. asked-standing net run _ c.in-Ask.is (c.ask.ensures net (ask_seen run))

-- A room
pub room-requires : goal.room-requires
room-requires c = let ok = c.requires in
    (ok.0, room_seen ok.1)

pub returns-in-Room : goal.returns-in-Room
returns-in-Room c = λ net run. asked-room net run _ _ c.in-Room.is (c.room.ensures net (room_seen run))
