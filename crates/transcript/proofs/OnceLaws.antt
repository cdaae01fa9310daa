-- The promise of a run has one solution: two ways of the same length are the same, a way that stopped can't be gone further, and what stops it is decided by
-- the room first. Assumes nothing.
use Prim.Native.Nat.{ℕ, ◌+◌, ◌-◌, ◌≤◌, ◌<◌}
use native.Mathlib.Omega.{arith}
use mathlib.Core.Path.{◌≡◌, refl, sym, ap, subst, ◌∙◌}
use mathlib.Core.Logic.{⊎_elim}
use mathlib.Core.List.{List}
use lib.ListN.{length}
use Rattle.std.specs.Prelude.{Result, Ok}
use lib.Seq.{sets}
use lib.Dec.{eqb}
use borrow.Author.Tests.{eqb-true, eqb-false}
use Rattle.lists.proofs.CountLaws.{lt_or_ge, true_or_false}
use Rattle.model.specs.Net.{Core}
use Rattle.model.specs.Text.{Text}
use Rattle.text.specs.Room.{line_room}
use Rattle.text.proofs.PutLaws.{put_long}
use Rattle.decode.specs.Asked.{request_at}
use Rattle.decode.specs.declared.Request.{Request}
use Rattle.decode.specs.declared.Unread.{Unread}
use Rattle.runs.specs.Went.{Went, nowhere, further, Stops, full, no_command, stop_of}
use Rattle.value.specs.View.{core_of, broken}
use Rattle.value.specs.Handed.{value_of}
use Rattle.value.specs.declared.Net.{Net}
use Rattle.transcript.specs.Ran.{halt_of, RanOn, NetRuns}
use Rattle.transcript.specs.declared.Halt.{Halt}
use Rattle.transcript.specs.declared.NetRan.{NetRan}

-- a place on the way from which it went on
record Passed (bytes : List ℕ) (size : ℕ) (first : Core) (from n : ℕ) : Type 0 where
  pub net : Core
  pub at : ℕ
  pub lines : Text
  pub way : Went bytes size first from net at n lines
  pub room : length lines + line_room ≤ size
  pub request : Request
  pub behind : ℕ
  pub there : Ok (request, behind) ≡ request_at bytes at

module _ {bytes : List ℕ} {size : ℕ} {first : Core} {from : ℕ} where
  -- two ways of the same length
  same_way : {net other : Core} {at to n m : ℕ} {lines texts : Text} → Went bytes size first from net at n lines → Went bytes size first from other to m texts
      → n ≡ m → (net ≡ other) × (at ≡ to) × (lines ≡ texts)
  same_way nowhere nowhere e = (refl, refl, refl)
  same_way nowhere (further w room q b e) k = absurd (omega arith)
  same_way (further w room q b e) nowhere k = absurd (omega arith)
  same_way (further {at = at} w room q b e) (further {at = to} v space p d f) k =
      let yet = same_way w v (omega arith) in
      let there : ◌≡◌ {A = Result (Request × ℕ) Unread} (Ok (q, b)) (Ok (p, d)) = e ∙ ap (request_at bytes) yet.1 ∙ sym f in
      let pair : ◌≡◌ {A = Request × ℕ} (q, b) (p, d) = cc in
      let asks : q ≡ p = ap (λ (f : Request × ℕ). f.0) pair in
      let behind : b ≡ d = ap (λ (f : Request × ℕ). f.1) pair in
      let same_net = yet.0 in
      let same_lines = yet.2 in
      (cc, behind, cc)

  passed : {net : Core} {at m : ℕ} {lines : Text} → Went bytes size first from net at m lines → (n : ℕ) → n < m → Passed bytes size first from n
  passed nowhere n h = absurd (omega arith)
  passed (further {commands = commands} {lines = lines} w room q b e) n h =
      ⊎_elim (λ (p : n < commands). passed w n p)
      (λ (p : commands ≤ n).
      let same : commands ≡ n = omega arith in
      subst (Passed bytes size first from) same (record { net = _; at = _; lines = _; way = w; room = room; request = q; behind = b; there = e }))
      (lt_or_ge n commands)

-- a run that stopped went no further
module _ {net : Net} {bytes : List ℕ} {from : ℕ} {old : List ℕ} where
  no_further : {new : List ℕ} {r : NetRan} → RanOn net bytes from old new r → Passed bytes (length old) (core_of net) from r.commands → ⊥
  no_further {new} {r} ran on = go ran.stops
    where
      same : (on.net ≡ ran.core) × (on.at ≡ r.at) × (on.lines ≡ ran.lines)
      same = same_way on.way ran.went refl

      go : Stops bytes r.at (length new - r.to) ran.why → ⊥
      go (full low e) = omega (arith, low, on.room, ap length same.2, ran.written.end_is, put_long ran.written)
      go (no_command fits none e) = none on.request on.behind (on.there ∙ ap (request_at bytes) same.1)

  module _ {new newer : List ℕ} {r q : NetRan} (ran : RanOn net bytes from old new r) (also : RanOn net bytes from old newer q) where
    same_count : r.commands ≡ q.commands
    same_count =
        ⊎_elim (λ (h : r.commands < q.commands). absurd (no_further ran (passed also.went r.commands h)))
        (λ (h : q.commands ≤ r.commands).
        ⊎_elim (λ (l : q.commands < r.commands). absurd (no_further also (passed ran.went q.commands l)))
        (λ (l : r.commands ≤ q.commands). omega arith)
        (lt_or_ge q.commands r.commands))
        (lt_or_ge r.commands q.commands)

    ways : (ran.core ≡ also.core) × (r.at ≡ q.at) × (ran.lines ≡ also.lines)
    ways = same_way ran.went also.went same_count

    same_to : r.to ≡ q.to
    same_to = omega (arith, ran.written.end_is, also.written.end_is, ap length ways.2)

    same_text : new ≡ newer
    same_text = ran.written.written ∙ ap (sets old 0) ways.2 ∙ sym also.written.written

    same_why : ran.why ≡ also.why
    same_why = go ran.stops also.stops
      where
        go : Stops bytes r.at (length new - r.to) ran.why → Stops bytes q.at (length newer - q.to) also.why → ran.why ≡ also.why
        go (full low e) (full low' f) = e ∙ sym f
        go (full low e) (no_command fits none f) = absurd (omega (arith, low, fits, same_to, ap length same_text))
        go (no_command fits none e) (full low f) = absurd (omega (arith, low, fits, same_to, ap length same_text))
        go (no_command fits none e) (no_command fits' none' f) = e ∙ ap (λ (at : ℕ). stop_of (request_at bytes at)) ways.1 ∙ sym f

same_ran : {n m : Net} {a b c d e f : ℕ} {h k : Halt} → n ≡ m → a ≡ b → c ≡ d → e ≡ f → h ≡ k
    → ◌≡◌ {A = NetRan} (record { net = n; at = a; to = c; commands = e; why = h }) (record { net = m; at = b; to = d; commands = f; why = k })
same_ran p q r s t = cc

-- whatever the net
pub run_once : (net : Net) {bytes : List ℕ} {from : ℕ} {old new newer : List ℕ} (r q : NetRan) → NetRuns net bytes from old new r
    → NetRuns net bytes from old newer q → (r ≡ q) × (new ≡ newer)
run_once net {bytes} {from} {old} {new} {newer} r q runs also =
    ⊎_elim
    (λ e.
    let sound = eqb-true (broken net) 0 e in
    let a = runs.runs sound in
    let b = also.runs sound in (
      same_ran (a.net_is ∙ ap (λ (c : Core). value_of net.plan c.calls) (ways a b).0 ∙ sym b.net_is) (ways a b).1 (same_to a b) (same_count a b)
          (a.why_is ∙ ap halt_of (same_why a b) ∙ sym b.why_is),
      same_text a b,
    ))
    (λ e.
    let bad = eqb-false (broken net) 0 e in
    let a = runs.refuses bad in
    let b = also.refuses bad in
    (a.0 ∙ sym b.0, a.1 ∙ sym b.1))
    (true_or_false (eqb (broken net) 0))
