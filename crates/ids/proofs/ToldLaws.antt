-- The tellings of the constructors' answers are injective, so that a promise through one determines the answer: the telling's length shows
-- the case, and its last entry the number. Assumes nothing.
use mathlib.Core.Path.{◌≡◌, refl, ap}
use Rattle.std.specs.Prelude.{ℕ, Option, Some, None}
use Rattle.ids.specs.Made.{told_made, told_made_site, told_made_node, told_made_level, told_made_ticket}
use Rattle.ids.specs.declared.Site.{Site}
use Rattle.ids.specs.declared.Node.{Node}
use Rattle.ids.specs.declared.Level.{Level}
use Rattle.ids.specs.declared.Ticket.{Ticket}

-- of any type whose number says which value it is
pub made_injective : {T : Type 0} (number : T → ℕ) (refusal : ℕ) → ((s t : T) → number s ≡ number t → s ≡ t)
    → (x y : Option T) → told_made number refusal x ≡ told_made number refusal y → x ≡ y
made_injective number refusal same (Some s) (Some t) e = let q : number s ≡ number t = cc in ap Some (same s t q)
made_injective number refusal same (Some s) None e = cc
made_injective number refusal same None (Some t) e = cc
made_injective number refusal same None None e = refl

pub made_site_injective : (x y : Option Site) → told_made_site x ≡ told_made_site y → x ≡ y
made_site_injective = made_injective _ _ (λ s t q. ap (λ (n : ℕ). record { 0 = n }) q)

pub made_node_injective : (x y : Option Node) → told_made_node x ≡ told_made_node y → x ≡ y
made_node_injective = made_injective _ _ (λ s t q. ap (λ (n : ℕ). record { 0 = n }) q)

pub made_level_injective : (x y : Option Level) → told_made_level x ≡ told_made_level y → x ≡ y
made_level_injective = made_injective _ _ (λ s t q. ap (λ (n : ℕ). record { 0 = n }) q)

pub made_ticket_injective : (x y : Option Ticket) → told_made_ticket x ≡ told_made_ticket y → x ≡ y
made_ticket_injective = made_injective _ _ (λ s t q. ap (λ (n : ℕ). record { 0 = n }) q)
