-- What the callers of `prepare` bring and take: the words of the call edges are those of the plan, and a rule that is broken is none of a sound net. Assumes
-- nothing.
use Prim.Native.Nat.{ℕ}
use native.Mathlib.Omega.{arith}
use mathlib.Core.Path.{◌≡◌, ◌∙◌}
use mathlib.Core.List.{List}
use lib.ListN.{length}
use Rattle.std.specs.Prelude.{Result, Ok, Err}
use Rattle.ids.specs.Limits.{nodes}
use Rattle.model.specs.Plan.{has_edge}
use Rattle.model.specs.PlanValue.{records_of}
use Rattle.links.specs.Rows.{RowsTell}
use Rattle.faults.specs.Seen.{Edging}
use Rattle.value.specs.View.{broken, rule_number, rule_told}
use Rattle.value.specs.declared.Net.{Net}
use Rattle.value.specs.declared.NetRule.{NetRule}
use Rattle.moves.specs.declared.Running.{Running as Run}
use Rattle.entry.specs.Entry.{Prepares}

pub edging : (net : Net) {edges : List ℕ} → length edges ≡ nodes → RowsTell edges (has_edge (records_of net.plan)) → Edging (records_of net.plan) edges
edging net whole tells = record { whole = whole; tells = tells }

above_0 : (rule : NetRule) → rule_number rule ≡ 0 → ⊥
above_0 NetRule.Plan e = omega arith
above_0 NetRule.Tickets e = omega arith
above_0 NetRule.Nodes e = omega arith
above_0 NetRule.Parents e = omega arith
above_0 NetRule.Counts e = omega arith
above_0 NetRule.Sites e = omega arith
above_0 NetRule.Waiting e = omega arith
above_0 NetRule.TooManyOpen e = omega arith

pub rule_breaks : (net : Net) (rule : NetRule) → rule_number rule ≡ broken net → broken net ≡ 0 → ⊥
rule_breaks net rule is sound = above_0 rule (is ∙ sound)

-- the answer tells the rule that is broken, or none
pub rule_told_is : (net : Net) (edges : List ℕ) (run : Run) (r : Result Unit NetRule) → Prepares net edges run r → rule_told r ≡ broken net
rule_told_is net edges run (Ok kept) says = says.fault
rule_told_is net edges run (Err rule) says = says
