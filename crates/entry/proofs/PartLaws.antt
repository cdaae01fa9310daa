-- The rules on the counts of the value and on the plan, one behind the other: the plan's test is as the model has it. Assumes nothing.
use Prim.Native.Nat.{◌≤◌}
use mathlib.Core.Path.{◌≡◌, sym, ap, ◌∙◌}
use mathlib.Core.Bool.{Bool, ◌&&◌}
use borrow.Author.Tests.{le-leb}
use Rattle.std.specs.Prelude.{Result, Ok, Err}
use Rattle.ids.specs.Limits.{most_open, most_edges}
use Rattle.model.specs.Plan.{six, passes}
use Rattle.model.specs.PlanValue.{records_of}
use Rattle.model.specs.declared.Plan.{Plan}
use Rattle.audit.specs.Audits.{records_pass}
use Rattle.value.specs.declared.Net.{Net}
use Rattle.value.specs.declared.NetRule.{NetRule}
use Rattle.entry.specs.Entry.{RecordRule, PlanRules}
use Rattle.entry.proofs.BrokenLaws.{plan_fails}

pub pass_is : (p : Plan) → p.edges ≤ most_edges → records_pass p ≡ passes six (records_of p)
unfolding records_pass
pass_is p h = ap (λ (b : Bool). b && passes six (records_of p)) (le-leb p.edges most_edges h)

pub records_last : (net : Net) → net.plan.edges ≤ most_edges → net.used ≤ most_open → (r : Result Unit NetRule) → RecordRule net.plan r → PlanRules net r
records_last net edges calls (Ok kept) says =
    record { edges_few = edges; calls_few = calls; pass = sym (pass_is net.plan edges) ∙ says.0; sized = says.1 }
records_last net edges calls (Err rule) says = says.1 ∙ plan_fails net edges calls (sym (pass_is net.plan edges) ∙ says.0)
