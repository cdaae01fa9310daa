-- The program case of document 01, "The bench program": its input and its output. Assumes nothing.
use Rattle.std.specs.Prelude.{ℕ, List, [], ◌∷◌, ◌++◌}
use Rattle.model.specs.Text.{Text, ascii}

-- a site of three threads, and nodes of levels 0, 1 and 2
abbrev pub case_plan : List ℕ
case_plan =
    (0x01 ∷ 0x00 ∷ 0x03 ∷ [])
    ++ (0x02 ∷ 0x00 ∷ 0x00 ∷ 0x00 ∷ [])
    ++ (0x02 ∷ 0x01 ∷ 0x00 ∷ 0x01 ∷ [])
    ++ (0x02 ∷ 0x02 ∷ 0x00 ∷ 0x02 ∷ [])
    ++ (0x04 ∷ [])

-- three starts, a return, a start that waits, a return that admits it, and a question
abbrev pub case_commands : List ℕ
case_commands =
    (0x10 ∷ 0x00 ∷ 0x01 ∷ 0x00 ∷ [])
    ++ (0x10 ∷ 0x00 ∷ 0x02 ∷ 0x01 ∷ [])
    ++ (0x10 ∷ 0x00 ∷ 0x03 ∷ 0x01 ∷ [])
    ++ (0x12 ∷ 0x00 ∷ 0x01 ∷ [])
    ++ (0x10 ∷ 0x00 ∷ 0x04 ∷ 0x02 ∷ [])
    ++ (0x12 ∷ 0x00 ∷ 0x02 ∷ [])
    ++ (0x13 ∷ 0x00 ∷ 0x04 ∷ [])

abbrev pub case_output : Text
case_output =
    ascii "plan 1 3 0 16\n"
    ++ ascii "S 1 G\n"
    ++ ascii "S 2 G\n"
    ++ ascii "S 3 G\n"
    ++ ascii "E 1 0\n"
    ++ ascii "S 4 W 1\n"
    ++ ascii "E 2 4\n"
    ++ ascii "Q 4 A\n"
    ++ ascii "done 7\n"
