-- A run keeps the plan, so that what the arrays hold behind it is packed over the plan that came in; and its promise has one solution. Assumes nothing.
use Prim.Native.Nat.{ℕ, ◌-◌}
use mathlib.Core.Path.{◌≡◌, refl, sym, ap, subst, ◌∙◌}
use mathlib.Core.Logic.{⊎_elim}
use mathlib.Core.List.{List}
use lib.ListN.{length}
use lib.Dec.{eqb}
use borrow.Author.Tests.{eqb-true, eqb-false}
use Rattle.lists.proofs.CountLaws.{true_or_false}
use Rattle.text.proofs.PutLaws.{put_long}
use Rattle.model.specs.Plan.{Record}
use Rattle.model.specs.PlanValue.{records_of}
use Rattle.model.specs.Net.{Core}
use Rattle.model.specs.Text.{Text}
use Rattle.model.specs.Transcript.{Request, command, question, room_question, after}
use Rattle.model.proofs.StepLaws.{step_plan}
use Rattle.moves.specs.Held.{Arrays, Held, arrays_of}
use Rattle.moves.specs.declared.Running.{Running as Run}
use Rattle.steps.specs.Running.{Running}
use Rattle.runs.specs.Went.{Went, nowhere, further, Stops, RunStands}
use Rattle.runs.specs.declared.Stop.{Stop}
use Rattle.decode.specs.Asked.{asked}
use Rattle.value.specs.View.{core_of, broken, rule_number}
use Rattle.value.specs.Handed.{value_of}
use Rattle.value.specs.declared.Net.{Net}
use Rattle.value.specs.declared.NetRule.{NetRule}
use Rattle.pack.specs.Packed.{Packing}
use Rattle.entry.proofs.ReadyLaws.{rule_breaks}
use Rattle.transcript.specs.Ran.{halt_of, untouched, NetRuns}
use Rattle.transcript.specs.declared.Halt.{Halt}
use Rattle.transcript.specs.declared.NetRan.{NetRan}

after_plan : (net : Core) (q : Request) → (after net q).plan ≡ net.plan
unfolding after
after_plan net (command c) = step_plan net c
after_plan net (question t) = refl
after_plan net (room_question s k) = refl

went_plan : {bytes : List ℕ} {size : ℕ} {first : Core} {from : ℕ} {net : Core} {at commands : ℕ} {lines : Text}
    → Went bytes size first from net at commands lines → net.plan ≡ first.plan
went_plan nowhere = refl
went_plan (further {net = net} went room q behind e) = after_plan net (asked q) ∙ went_plan went

pub run_packing : (net : Net) {bytes : List ℕ} {size from : ℕ} {core : Core} {at commands : ℕ} {lines : Text}
    → Went bytes size (core_of net) from core at commands lines → {run : Run} {most-of places levels edges : List ℕ}
    → Running core (arrays_of run) run.table.used most-of places levels edges → Packing net.plan core.calls run.table
unfolding core_of
run_packing net {core = core} went {run} running =
    let h : Held (records_of net.plan) core.calls (arrays_of run) run.table.used =
    subst (λ (rs : List Record). Held rs core.calls (arrays_of run) run.table.used) (went_plan went) running.held
    in
    record {
      joining =
          record {
            of_tickets = h.of_tickets;
            of_parents = h.of_parents;
            of_keys = h.of_keys;
            of_nodes = h.of_nodes;
            count = h.count;
            few = h.firm.few;
          };
      firm = h.firm;
    }

-- What is handed back

pub refused_run : (net : Net) (rule : NetRule) → rule_number rule ≡ broken net → {bytes : List ℕ} {from : ℕ} {text : List ℕ}
    → NetRuns net bytes from text text (untouched net from)
refused_run net rule is = record { refuses = λ _. (refl, refl); runs = λ sound. absurd (rule_breaks net rule is sound) }

pub ran_on : (net : Net) → 0 ≡ broken net → {b : Arrays} {used : ℕ} {most-of places levels edges bytes : List ℕ}
    {from at commands : ℕ} {old new : List ℕ} {to : ℕ} {why : Stop} {got : Net} {halt : Halt}
    → (on : RunStands (core_of net) b used most-of places levels edges bytes from at commands old new to) → Stops bytes at (length new - to) why
    → got ≡ value_of net.plan on.net.calls → halt ≡ halt_of why
    → NetRuns net bytes from old new (record { net = got; at = at; to = to; commands = commands; why = halt })
ran_on net none {why = why} on stops same says =
    record {
      refuses = λ bad. absurd (bad (sym none));
      runs = λ _.
          record {
            core = on.net;
            lines = on.lines;
            went = on.went;
            net_is = same;
            written = on.written;
            why = why;
            stops = stops;
            why_is = says;
          };
    }

-- the text stays as long as it was
pub text_long : {net : Net} {bytes : List ℕ} {from : ℕ} {old new : List ℕ} {r : NetRan} → NetRuns net bytes from old new r → length new ≡ length old
text_long {net} says =
    ⊎_elim (λ e. put_long (says.runs (eqb-true (broken net) 0 e)).written) (λ e. ap length (says.refuses (eqb-false (broken net) 0 e)).1)
    (true_or_false (eqb (broken net) 0))
