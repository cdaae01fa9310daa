-- The first line for a plan, as the model has it for a reading and as it is made from what `plan::read` answers. Assumes nothing.
use Rattle.std.specs.Prelude.{ℕ, length, Result, Ok, Err}
use Rattle.model.specs.Plan.{sites_of, listed, edges}
use Rattle.model.specs.PlanValue.{records_of, refusal_number}
use Rattle.model.specs.Reading.{Reading, accepted, refused_at}
use Rattle.model.specs.Text.{Text, plan_line, plan_refused_line}
use Rattle.model.specs.declared.Plan.{Plan}
use Rattle.model.specs.declared.PlanRead.{PlanRead}
use Rattle.model.specs.declared.ReadFault.{ReadFault}

-- "The first line is `plan`, sites, nodes, edges, plan bytes, or `plan R`, refusal, offset"
abbrev pub heading : Reading → Text
heading (accepted rs used) = plan_line (length (sites_of rs)) (length (listed rs)) (edges rs) used
heading (refused_at number offset) = plan_refused_line number offset

-- the sites and the nodes that a plan's value holds, whoever made it

unfoldable pub site_count : Plan → ℕ
site_count p = length (sites_of (records_of p))

unfoldable pub node_count : Plan → ℕ
node_count p = length (listed (records_of p))

-- the line of an answer and the plan beside it
abbrev pub answer_line : Result ℕ ReadFault → Plan → Text
answer_line (Ok used) p = plan_line (site_count p) (node_count p) p.edges used
answer_line (Err fault) p = plan_refused_line (refusal_number fault.why) fault.offset

unfoldable pub first_text : PlanRead → Text
first_text r = answer_line r.answer r.plan
