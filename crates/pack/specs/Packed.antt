-- What is handed back of the calls that a table holds. For the contracts of `pack`. Assumes nothing.
use Rattle.std.specs.Prelude.{◌≡◌, List, Result, Ok}
use Rattle.model.specs.PlanValue.{records_of}
use Rattle.model.specs.Net.{Call}
use Rattle.model.specs.Steady.{Firm}
use Rattle.model.specs.Command.{Answer, Outcome}
use Rattle.model.specs.declared.Plan.{Plan}
use Rattle.model.specs.declared.Refusal.{Refusal}
use Rattle.table.specs.declared.Table.{Table}
use Rattle.text.specs.declared.Printed.{Printed}
use Rattle.text.specs.Lines.{accepted_told, shown_told, of_answer}
use Rattle.value.specs.Handed.{value_of, answer_value, outcome_value}
use Rattle.value.specs.declared.CommandAnswer.{CommandAnswer}
use Rattle.value.specs.declared.Commanded.{Commanded}
use Rattle.value.specs.declared.Net.{Net}
use Rattle.apart.specs.Apart.{Joining}

-- the table holds calls that keep every rule but perhaps the one on waiting calls
pub record Packing (plan : Plan) (cs : List Call) (t : Table) : Type 0 where
  pub joining : Joining (records_of plan) cs t.tickets t.parents t.keys t.nodes t.used
  pub firm : Firm (records_of plan) cs

abbrev pub Packable : Plan → Table → Type 0
Packable plan t = (cs : List Call) × Packing plan cs t

abbrev pub Packs : Plan → Table → Net → Type 0
Packs plan t net = (cs : List Call) → Packing plan cs t → net ≡ value_of plan cs

-- Answers

abbrev pub AnswerTold : Printed → CommandAnswer → Type 0
AnswerTold said r = (a : Answer) → accepted_told said ≡ of_answer a → Ok r ≡ answer_value a

-- the table holds the calls after a command
pub record Handing (net : Net) (after : Outcome) (what : Result Printed Refusal) (t : Table) : Type 0 where
  pub says : shown_told what ≡ of_answer after.answer
  pub packing : Packing net.plan after.core.calls t

abbrev pub Handable : Net → Result Printed Refusal → Table → Type 0
Handable net what t = (after : Outcome) × Handing net after what t

abbrev pub Hands : Net → Result Printed Refusal → Table → Commanded → Type 0
Hands net what t r = (after : Outcome) → Handing net after what t → r ≡ outcome_value net after
