-- The lines of a run are the transcript's: the lines from where it began are those it wrote and then the lines from where it stands. So a run that stops at no
-- whole command wrote all of them but the last. Assumes nothing.
use Prim.Native.Nat.{ℕ, zero, suc, ◌+◌, ◌<◌}
use native.Mathlib.Omega.{arith}
use native.Mathlib.Numerals.{add-one}
use mathlib.Core.Path.{◌≡◌, refl, sym, ap, ap₂, ◌∙◌}
use mathlib.Core.List.{List, [], ◌∷◌, ◌++◌, append_assoc}
use lib.ListN.{length, drop, length-drop}
use lib.Seq.{drop-drop, drop-append_seam}
use Rattle.model.specs.House.{Next, lacking, unknown, cut, whole, next}
use Rattle.model.specs.Net.{Core}
use Rattle.model.specs.Text.{Text, done_line, bad_line}
use Rattle.model.specs.Transcript as transcript
use Rattle.model.specs.Transcript.{command_kinds, request, line, after, lines_by, lines}
use Rattle.model.proofs.HouseLaws.{whole_split}
use Rattle.model.proofs.TranscriptLaws.{lines_enough}
use Rattle.decode.specs.Asked.{asked, request_at, request_from, request_of}
use Rattle.decode.specs.declared.Request.{Request}
use Rattle.std.specs.Prelude.{Ok}
use Rattle.decode.proofs.AskedLaws.{asked-request}
use Rattle.runs.specs.Went.{Went, nowhere, further, stop_of}
use Rattle.runs.specs.declared.Stop.{Stop}
use Rattle.runs.proofs.WentLaws.{same_found, behind_inside}

-- what the decoder found, in the model's words
pub record WholeRequest (bytes : List ℕ) (at : ℕ) (q : Request) (behind : ℕ) : Type 0 where
  pub kind : ℕ
  pub body : List ℕ
  pub found : next command_kinds (drop at bytes) ≡ whole kind body (drop behind bytes)
  pub asked_is : asked q ≡ request kind body
  pub behind_is : behind ≡ at + suc (length body)

pub whole_found : (bytes : List ℕ) (at : ℕ) (q : Request) (behind : ℕ) → Ok (q, behind) ≡ request_at bytes at → WholeRequest bytes at q behind
whole_found bytes at q behind e = go (next command_kinds (drop at bytes)) refl e
  where
    go : (n : Next) → next command_kinds (drop at bytes) ≡ n → Ok (q, behind) ≡ request_from n at → WholeRequest bytes at q behind
    go lacking is e = let z : ◌≡◌ {A = ℕ} 0 1 = cc in absurd (omega arith)
    go unknown is e = let z : ◌≡◌ {A = ℕ} 0 1 = cc in absurd (omega arith)
    go cut is e = let z : ◌≡◌ {A = ℕ} 0 1 = cc in absurd (omega arith)
    go (whole kind body rest) is e =
        let same-request = (same_found e).0 in
        let same_place = (same_found e).1 in
        let there : rest ≡ drop behind bytes
        = sym (drop-append_seam (kind ∷ body) rest)
        ∙ ap (drop (suc (length body))) (sym (whole_split command_kinds (drop at bytes) kind body rest is))
        ∙ drop-drop (suc (length body)) at bytes
        ∙ ap (λ (n : ℕ). drop n bytes) (sym same_place) in
        record {
          kind = kind;
          body = body;
          found = is ∙ ap (whole kind body) there;
          asked_is = ap asked same-request ∙ asked-request kind body;
          behind_is = same_place;
        }

-- The transcript opens

opens : (turns : ℕ) (net : Core) (at count : ℕ) (bytes : List ℕ)
    → lines (suc turns) net at count bytes ≡ lines_by (lines turns) net at count (next command_kinds bytes)
unfolding lines
opens turns net at count bytes = refl

turn_tells : (bytes : List ℕ) (net : Core) (at count : ℕ) (q : Request) (behind : ℕ) → Ok (q, behind) ≡ request_at bytes at
    → (turns : ℕ) → length bytes < turns
    → lines turns net at count (drop at bytes) ≡ line net (asked q) ++ lines turns (after net (asked q)) behind (count + 1) (drop behind bytes)
turn_tells bytes net at count q behind e zero h = absurd (omega arith)
turn_tells bytes net at count q behind e (suc turns) h =
    let w = whole_found bytes at q behind e in
    let r = request w.kind w.body in
    let fewer : length (drop behind bytes) < turns = omega (arith, length-drop behind bytes, behind_inside bytes at q behind e) in
    opens turns net at count (drop at bytes)
    ∙ ap (lines_by (lines turns) net at count) w.found
    ∙ ap (λ (t : Text). line net r ++ t) (lines_enough turns (after net r) (at + suc (length w.body)) (suc count) (drop behind bytes) fewer)
    ∙ ap (λ (p : transcript.Request). line net p ++ lines (suc turns) (after net p) (at + suc (length w.body)) (suc count) (drop behind bytes))
    (sym w.asked_is)
    ∙ ap₂ (λ (to n : ℕ). line net (asked q) ++ lines (suc turns) (after net (asked q)) to n (drop behind bytes))
    (sym w.behind_is)
    (sym (add-one count))

pub lines_went : {bytes : List ℕ} {size : ℕ} {first : Core} {from : ℕ} {net : Core} {at commands : ℕ} {text : Text}
    → Went bytes size first from net at commands text
    → (turns count : ℕ) → length bytes < turns
    → lines turns first from count (drop from bytes) ≡ text ++ lines turns net at (count + commands) (drop at bytes)
lines_went {bytes} {size} {first} {from} nowhere turns count h =
    let same : count ≡ count + 0 = omega arith in
    ap (λ (n : ℕ). lines turns first from n (drop from bytes)) same
lines_went {bytes} {size} {first} {from} (further {net = net} {at = at} {commands = commands} {lines = text} went room q behind e) turns count h =
    let told = line net (asked q) in
    let counted : count + commands + 1 ≡ count + (commands + 1) = omega arith in
    lines_went went turns count h
    ∙ ap (λ (t : Text). text ++ t) (turn_tells bytes net at (count + commands) q behind e turns h)
    ∙ sym (append_assoc text told (lines turns (after net (asked q)) behind (count + commands + 1) (drop behind bytes)))
    ∙ ap (λ (n : ℕ). (text ++ told) ++ lines turns (after net (asked q)) behind n (drop behind bytes)) counted

-- The last line

-- none where the lines have no more room
abbrev pub last_line : Stop → ℕ → ℕ → Text
last_line Stop.Full at commands = []
last_line Stop.End at commands = done_line commands
last_line Stop.Cut at commands = bad_line 1 at
last_line Stop.Unknown at commands = bad_line 2 at

-- "The last line is `done` .. or `bad`": a run that stops at no whole command wrote every line but the last
pub run_tells : {bytes : List ℕ} {size : ℕ} {first : Core} {from : ℕ} {net : Core} {at commands : ℕ} {text : Text}
    → Went bytes size first from net at commands text
    → ((q : Request) (behind : ℕ) → Ok (q, behind) ≡ request_at bytes at → ⊥)
    → lines (suc (length bytes)) first from 0 (drop from bytes) ≡ text ++ last_line (stop_of (request_at bytes at)) at commands
run_tells {bytes} {first} {from} {net} {at} {commands} {text} went none-whole =
    lines_went went (suc (length bytes)) 0 (omega arith)
    ∙ ap (λ (t : Text). text ++ t) (opens (length bytes) net at (0 + commands) (drop at bytes) ∙ go (next command_kinds (drop at bytes)) none-whole)
  where
    same : 0 + commands ≡ commands
    same = omega arith

    go : (n : Next) → ((q : Request) (behind : ℕ) → Ok (q, behind) ≡ request_from n at → ⊥)
        → lines_by (lines (length bytes)) net at (0 + commands) n ≡ last_line (stop_of (request_from n at)) at commands
    go lacking none_there = ap done_line same
    go unknown none_there = refl
    go cut none_there = refl
    go (whole kind body rest) none_there = absurd (none_there (request_of kind body) (at + suc (length body)) refl)
