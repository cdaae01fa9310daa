-- The tellings of the site book's and the commands' answers are injective, so that a promise through one determines the answer: the telling's entries show the
-- case and its values. Assumes nothing.
use mathlib.Core.Path.{◌≡◌, refl, ap, ap₂}
use Prim.Native.Nat.{ℕ}
use native.Mathlib.Omega.{arith}
use Rattle.model.specs.Answers.{level_number, told_level, told_admission, told_room}
use Rattle.model.specs.Command.{Answer, refused, active, waiting, ended, told, Standing, is-running, is-waiting, not_open, told_standing}
use Rattle.model.specs.Command.{Roomed, has_room, room_refused, told_roomed}
use Rattle.std.specs.Prelude.{Option, Some, None, Result, Ok, Err}
use Rattle.ids.specs.declared.Level.{Level}
use Rattle.model.specs.declared.Highest.{Highest}
use Rattle.model.specs.declared.SiteRefused.{SiteRefused}
use Rattle.model.specs.declared.Admission.{Admission}
use Rattle.model.specs.declared.RoomRefused.{RoomRefused}

pub number_injective : (x y : Option Level) → level_number x ≡ level_number y → x ≡ y
number_injective (Some l) (Some m) e = let q : l.0 ≡ m.0 = omega (arith, e) in ap (λ (n : ℕ). Some (record { 0 = n })) q
number_injective (Some l) None e = absurd (omega (arith, e))
number_injective None (Some m) e = absurd (omega (arith, e))
number_injective None None e = refl

pub level_injective : (x y : Result Highest SiteRefused) → told_level x ≡ told_level y → x ≡ y
level_injective (Ok h) (Ok i) e =
    let q : level_number h.level ≡ level_number i.level = cc in
    let r : h.stood ≡ i.stood = cc in
    ap₂ (λ (l : Option Level) (n : ℕ). Ok (record { level = l; stood = n })) (number_injective h.level i.level q) r
level_injective (Ok h) (Err w) e = cc
level_injective (Err v) (Ok i) e = cc
level_injective (Err v) (Err w) e = refl

pub admission_injective : (x y : Result Admission SiteRefused) → told_admission x ≡ told_admission y → x ≡ y
admission_injective (Ok Admission.Admitted) (Ok Admission.Admitted) e = refl
admission_injective (Ok Admission.Admitted) (Ok (Admission.Waits l)) e = let z : ◌≡◌ {A = ℕ} 1 0 = cc in absurd (omega arith)
admission_injective (Ok Admission.Admitted) (Err w) e = cc
admission_injective (Ok (Admission.Waits k)) (Ok Admission.Admitted) e = let z : ◌≡◌ {A = ℕ} 0 1 = cc in absurd (omega arith)
admission_injective (Ok (Admission.Waits k)) (Ok (Admission.Waits l)) e =
    let q : k.0 ≡ l.0 = cc in ap (λ (n : ℕ). Ok (Admission.Waits (record { 0 = n }))) q
admission_injective (Ok (Admission.Waits k)) (Err w) e = cc
admission_injective (Err v) (Ok Admission.Admitted) e = cc
admission_injective (Err v) (Ok (Admission.Waits l)) e = cc
admission_injective (Err v) (Err w) e = refl

pub room_injective : (x y : Result ℕ RoomRefused) → told_room x ≡ told_room y → x ≡ y
room_injective (Ok n) (Ok m) e = let q : n ≡ m = cc in ap Ok q
room_injective (Ok n) (Err RoomRefused.NoSuchLevel) e = cc
room_injective (Ok n) (Err RoomRefused.Site) e = cc
room_injective (Err RoomRefused.NoSuchLevel) (Ok m) e = cc
room_injective (Err RoomRefused.NoSuchLevel) (Err RoomRefused.NoSuchLevel) e = refl
room_injective (Err RoomRefused.NoSuchLevel) (Err RoomRefused.Site) e = let z : ◌≡◌ {A = ℕ} 30 255 = cc in absurd (omega arith)
room_injective (Err RoomRefused.Site) (Ok m) e = cc
room_injective (Err RoomRefused.Site) (Err RoomRefused.NoSuchLevel) e = let z : ◌≡◌ {A = ℕ} 255 30 = cc in absurd (omega arith)
room_injective (Err RoomRefused.Site) (Err RoomRefused.Site) e = refl

pub told_injective : (x y : Answer) → told x ≡ told y → x ≡ y
told_injective (refused n) (refused m) e = let q : n ≡ m = cc in ap refused q
told_injective (refused n) active e = cc
told_injective (refused n) (waiting l) e = cc
told_injective (refused n) (ended u) e = cc
told_injective active (refused m) e = cc
told_injective active active e = refl
told_injective active (waiting l) e = let z : ◌≡◌ {A = ℕ} 1 0 = cc in absurd (omega arith)
told_injective active (ended u) e = cc
told_injective (waiting k) (refused m) e = cc
told_injective (waiting k) active e = let z : ◌≡◌ {A = ℕ} 0 1 = cc in absurd (omega arith)
told_injective (waiting k) (waiting l) e = let q : k ≡ l = cc in ap waiting q
told_injective (waiting k) (ended u) e = let z : ◌≡◌ {A = ℕ} 0 2 = cc in absurd (omega arith)
told_injective (ended t) (refused m) e = cc
told_injective (ended t) active e = cc
told_injective (ended t) (waiting l) e = let z : ◌≡◌ {A = ℕ} 2 0 = cc in absurd (omega arith)
told_injective (ended t) (ended u) e = let q : t ≡ u = cc in ap ended q

pub standing_injective : (x y : Standing) → told_standing x ≡ told_standing y → x ≡ y
standing_injective is-running is-running e = refl
standing_injective is-running is-waiting e = let z : ◌≡◌ {A = ℕ} 1 0 = cc in absurd (omega arith)
standing_injective is-running not_open e = let z : ◌≡◌ {A = ℕ} 1 2 = cc in absurd (omega arith)
standing_injective is-waiting is-running e = let z : ◌≡◌ {A = ℕ} 0 1 = cc in absurd (omega arith)
standing_injective is-waiting is-waiting e = refl
standing_injective is-waiting not_open e = let z : ◌≡◌ {A = ℕ} 0 2 = cc in absurd (omega arith)
standing_injective not_open is-running e = let z : ◌≡◌ {A = ℕ} 2 1 = cc in absurd (omega arith)
standing_injective not_open is-waiting e = let z : ◌≡◌ {A = ℕ} 2 0 = cc in absurd (omega arith)
standing_injective not_open not_open e = refl

pub roomed_injective : (x y : Roomed) → told_roomed x ≡ told_roomed y → x ≡ y
roomed_injective (has_room n) (has_room m) e = let q : n ≡ m = cc in ap has_room q
roomed_injective (has_room n) (room_refused m) e = cc
roomed_injective (room_refused n) (has_room m) e = cc
roomed_injective (room_refused n) (room_refused m) e = let q : n ≡ m = cc in ap room_refused q
