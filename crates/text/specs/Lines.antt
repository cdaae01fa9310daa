-- The items and lines that `text` writes, in the model's words. Assumes nothing.
use Rattle.std.specs.Prelude.{ℕ, ◌/◌, ◌%◌, [], ◌∷◌, ◌++◌, Option, Some, None, Result, Ok, Err}
use Rattle.model.specs.Command.{Answer, refused, active, waiting, ended, Standing, is-running, is-waiting, not_open, Roomed, has_room, room_refused}
use Rattle.model.specs.Text.{Text, digit, spaced, refusal_text, newline}
use Rattle.model.specs.Refusal.{refusal_told}
use Rattle.model.specs.declared.Refusal.{Refusal}
use Rattle.text.specs.declared.BadInput.{BadInput}
use Rattle.text.specs.declared.Mark.{Mark}
use Rattle.text.specs.declared.Printed.{Printed}

-- what stands on a line for an answer: a letter, a number, `R` and a refusal's number, or `W` and a level
pub data Shown : Type 0 where
  a_letter : ℕ → Shown
  a_number : ℕ → Shown
  a_refusal : ℕ → Shown
  a_level : ℕ → Shown

-- each answer by the letters of document 01, "The bench program"
abbrev pub accepted_told : Printed → Shown
accepted_told Printed.Active = a_letter 71
accepted_told (Printed.Waits k) = a_level k
accepted_told Printed.Running = a_letter 65
accepted_told Printed.Waiting = a_letter 87
accepted_told Printed.Absent = a_letter 78
accepted_told (Printed.Number n) = a_number n

abbrev pub shown_told : Result Printed Refusal → Shown
shown_told (Ok said) = accepted_told said
shown_told (Err why) = a_refusal (refusal_told why)

-- the same of any letter, number, refusal and level
abbrev pub mark_told : Mark → Shown
mark_told (Mark.Letter b) = a_letter b
mark_told (Mark.Number n) = a_number n
mark_told (Mark.Refusal n) = a_refusal n
mark_told (Mark.Level k) = a_level k

-- the model's answers as they are printed: `G`, `W` and a level, a number; `A`, `W`, `N`; or `R` and a number

abbrev pub of_answer : Answer → Shown
of_answer (refused n) = a_refusal n
of_answer active = a_letter 71
of_answer (waiting k) = a_level k
of_answer (ended t) = a_number t

abbrev pub of_standing : Standing → Shown
of_standing is-running = a_letter 65
of_standing is-waiting = a_letter 87
of_standing not_open = a_letter 78

abbrev pub of_room : Roomed → Shown
of_room (has_room n) = a_number n
of_room (room_refused n) = a_refusal n

-- "`bad`, 1 (cut) or 2 (unknown kind)"
abbrev pub bad_number : BadInput → ℕ
bad_number BadInput.Cut = 1
bad_number BadInput.Unknown = 2

-- the two digits of a number below 100, the first a 0 where it is below 10
unfoldable pub pair_text : ℕ → Text
pair_text n = digit (n / 10) ∷ digit (n % 10) ∷ []

-- an answer: a letter, a number, `R` and a refusal number, or `W` and a level
unfoldable pub printed : Shown → Text
printed (a_letter b) = 32 ∷ b ∷ []
printed (a_number n) = spaced n
printed (a_refusal n) = refusal_text n
printed (a_level k) = 32 ∷ 87 ∷ spaced k

-- an answer ends its line
unfoldable pub answer_end : Shown → Text
answer_end what = printed what ++ newline

-- a line with one number, as `S` ticket and the answer
unfoldable pub line_text : ℕ → ℕ → Shown → Text
line_text letter first what = (letter ∷ spaced first) ++ answer_end what

-- a line with two numbers, as `C` parent ticket and the answer
unfoldable pub line2_text : ℕ → ℕ → ℕ → Shown → Text
line2_text letter first second what = (letter ∷ spaced first) ++ spaced second ++ answer_end what

-- a line with one number or two
abbrev pub asked_text : ℕ → ℕ → Option ℕ → Shown → Text
asked_text letter first None what = line_text letter first what
asked_text letter first (Some second) what = line2_text letter first second what
