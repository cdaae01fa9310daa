-- `net::call` meets its contract: it is the command of its request. Assumes nothing.
use mathlib.Core.Path.{refl}
use Rattle.net.proofs.call.Goals as goal

pub command-requires : goal.command-requires
command-requires c = (_, refl)

pub returns : goal.returns
returns c = c.command.ensures _ refl
