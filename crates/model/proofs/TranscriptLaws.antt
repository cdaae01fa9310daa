-- The transcript's turns are enough, since each uses a byte at least; and the net behind its lines is one that commands alone have made, so that every theorem
-- about runs speaks of it: it keeps the rules, and is safe under an accepted plan. Assumes nothing.
use Prim.Native.Nat.{ℕ, zero, suc, ◌+◌, ◌<◌}
use native.Mathlib.Omega.{arith}
use mathlib.Core.Path.{◌≡◌, refl, sym, ap, subst, ◌∙◌}
use mathlib.Core.List.{List, [], ◌∷◌, ◌++◌}
use lib.ListN.{length}
use Rattle.model.specs.House.{Next, lacking, unknown, cut, whole, next}
use Rattle.model.specs.Plan.{Record}
use Rattle.model.specs.Reading.{PlanOk}
use Rattle.model.specs.Net.{Core, empty_net}
use Rattle.model.specs.NetRules.{Keeps}
use Rattle.model.specs.Command.{Command, step, run}
use Rattle.model.specs.Text.{Text}
use Rattle.model.specs.Transcript.{Request, command, question, room_question, command_kinds, request, line, after, lines_by, lines}
use Rattle.model.specs.Demands.{Safe}
use Rattle.model.proofs.HouseLaws.{whole_length}
use Rattle.model.proofs.StepLaws.{run_keeps, empty_keeps}
use Rattle.model.proofs.Demands.{safe_after}

-- one turn more makes no difference
pub lines_enough : (turns : ℕ) (net : Core) (at commands : ℕ) (bytes : List ℕ) → length bytes < turns
    → lines turns net at commands bytes ≡ lines (suc turns) net at commands bytes
unfolding lines
lines_enough zero net at commands bytes h = absurd (omega arith)
lines_enough (suc turns) net at commands bytes h = go (next command_kinds bytes) refl (lines_enough turns)
  where
    go : (n : Next) → next command_kinds bytes ≡ n
        → ((m : Core) (a c : ℕ) (bs : List ℕ) → length bs < turns → lines turns m a c bs ≡ lines (suc turns) m a c bs)
        → lines_by (lines turns) net at commands n ≡ lines_by (lines (suc turns)) net at commands n
    go lacking e rest = refl
    go unknown e rest = refl
    go cut e rest = refl
    go (whole kind body bs) e rest =
        ap (λ (t : Text). line net (request kind body) ++ t)
        (rest (after net (request kind body)) (at + suc (length body)) (suc commands) bs (omega (arith, whole_length command_kinds bytes kind body bs e)))

-- what a record does to the net, commands do
abbrev pub commands_of : Request → List Command
commands_of (command c) = c ∷ []
commands_of (question ticket) = []
commands_of (room_question s k) = []

pub after_run : (net : Core) (r : Request) → after net r ≡ run net (commands_of r)
unfolding after
after_run net (command c) = refl
after_run net (question ticket) = refl
after_run net (room_question s k) = refl

-- the net behind some records of a transcript
abbrev pub behind : Core → List Request → Core
behind net [] = net
behind net (r ∷ rest) = behind (after net r) rest

abbrev pub all_commands : List Request → List Command
all_commands [] = []
all_commands (r ∷ rest) = commands_of r ++ all_commands rest

run_on : (net : Core) (xs ys : List Command) → run net (xs ++ ys) ≡ run (run net xs) ys
run_on net [] ys = refl
run_on net (x ∷ xs) ys = run_on (step net x).core xs ys

pub reached : (net : Core) (rs : List Request) → behind net rs ≡ run net (all_commands rs)
reached net [] = refl
reached net (r ∷ rest) =
    ap (λ (m : Core). behind m rest) (after_run net r) ∙ reached (run net (commands_of r)) rest ∙ sym (run_on net (commands_of r) (all_commands rest))

-- "so the bench program never prints 19": the net behind any records keeps the rules; and it is safe
pub transcript_keeps : (plan : List Record) → PlanOk plan → (rs : List Request) → Keeps (behind (empty_net plan) rs)
transcript_keeps plan ok rs =
    subst Keeps (sym (reached (empty_net plan) rs)) (run_keeps (empty_net plan) (empty_keeps plan ok.records) (all_commands rs))

pub transcript_safe : (plan : List Record) → PlanOk plan → (rs : List Request) → Safe (behind (empty_net plan) rs)
transcript_safe plan ok rs =
    subst Safe (sym (reached (empty_net plan) rs)) (safe_after (empty_net plan) (empty_keeps plan ok.records) ok (all_commands rs))
