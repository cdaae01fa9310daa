-- A command's step over the arrays: where they hold the open calls after it, they hold the net after it; a refused command leaves them as they are.
-- Assumes nothing.
use Prim.Native.Nat.{ℕ}
use mathlib.Core.Path.{◌≡◌, sym, ap, subst, ◌∙◌}
use mathlib.Core.List.{List}
use Rattle.model.specs.Net.{Call, Core}
use Rattle.model.specs.NetRules.{Keeps}
use Rattle.model.specs.Command.{Command, Answer, refused, fault, Outcome, step}
use Rattle.model.proofs.StepLaws.{refused_step, step_keeps}
use Rattle.moves.specs.Held.{Arrays, Held}
use Rattle.std.specs.Prelude.{Result, Err}
use Rattle.model.specs.declared.Refusal.{Refusal}
use Rattle.model.specs.Refusal.{refusal_told}
use Rattle.model.proofs.RefusalLaws.{told_named}
use Rattle.text.specs.declared.Printed.{Printed}
use Rattle.text.specs.Lines.{shown_told, Shown, a_refusal, of_answer}
use Rattle.steps.specs.Running.{Running, Stepped}

-- the net with these open calls, and an answer
abbrev pub outcome : Core → List Call → Answer → Outcome
outcome net cs answer = record { core = record { plan = net.plan; calls = cs }; answer = answer }

module _ {net : Core} {a : Arrays} {used : ℕ} {most-of places levels edges : List ℕ} (run : Running net a used most-of places levels edges)
    (c : Command) where
  pub runs_after : (cs : List Call) (answer : Answer) → step net c ≡ outcome net cs answer → {b : Arrays} {used-after : ℕ} {what : Shown}
      → what ≡ of_answer answer → Held net.plan cs b used-after → Stepped (step net c) b used-after what most-of places levels edges
  runs_after cs answer e {b} {used-after} {what} says held =
      subst (λ (o : Outcome). Stepped o b used-after what most-of places levels edges) (sym e)
      (record {
        says = says;
        runs_on = record { keeps = subst (λ (o : Outcome). Keeps o.core) e (step_keeps net run.keeps c); held = held; planned = run.planned };
      })

  pub refused_runs : (number : ℕ) → number ≡ fault net c → (number ≡ 0 → ⊥) → Stepped (step net c) a used (a_refusal number) most-of places levels edges
  refused_runs number e apart = runs_after net.calls (refused (fault net c)) (refused_step net c (λ q. apart (e ∙ q))) (ap a_refusal e) run.held

-- the count of open calls, otherwise told
pub stepped_at : {after : Outcome} {b : Arrays} {used-after : ℕ} {what : Shown} {most-of places levels edges : List ℕ} → (counted : ℕ) → counted ≡ used-after
    → Stepped after b used-after what most-of places levels edges → Stepped after b counted what most-of places levels edges
stepped_at {after} {b} {used-after} {what} {most-of} {places} {levels} {edges} counted e w =
    subst (λ (n : ℕ). Stepped after b n what most-of places levels edges) (sym e) w

-- a refusal that is handed on
pub handed_on : {net : Core} {a : Arrays} {used : ℕ} {most-of places levels edges : List ℕ} → Running net a used most-of places levels edges → (c : Command)
    (why : Refusal) → refusal_told why ≡ fault net c → (answered : Result Printed Refusal) → answered ≡ Err why
    → Stepped (step net c) a used (shown_told answered) most-of places levels edges
handed_on {net} {a} {used} {most-of} {places} {levels} {edges} run c why told answered is =
    subst (λ (r : Result Printed Refusal). Stepped (step net c) a used (shown_told r) most-of places levels edges) (sym is)
    (refused_runs run c (refusal_told why) told (told_named why).1)
