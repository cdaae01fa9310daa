-- The program case of document 01: the text that the definitions give for its input is its output, byte for byte, as the checker evaluates them.
-- Assumes nothing.
use mathlib.Core.Path.{◌≡◌, refl}
use mathlib.Core.List.{◌++◌}
use Rattle.lists.specs.Pick.{any, found, without, changed}
use Rattle.lists.specs.Count.{last}
use Rattle.model.specs.Site.{A, lawful, raised, may_admit, full, blocking}
use Rattle.model.specs.House.{next}
use Rattle.model.specs.Plan.{threads, place, has_edge, edges, follows, in_range, known, level_below, room_for, record_fault, site_steps, listed}
use Rattle.model.specs.Plan.{closed_backwards, loops, self_depends, end_fault, bytes_of}
use Rattle.model.specs.Reading.{read, read_on}
use Rattle.model.specs.Net.{has_node, site_of, level_of, has, is_child, has_child, is_on, active_on, waits_on, counts, admissible, in_the_way, newcomer}
use Rattle.model.specs.Net.{opened, closed, may_wake, to_wake, woken}
use Rattle.model.specs.Command.{fault, opening, serving, step, ask}
use Rattle.model.specs.Text.{decimal_in, decimal, spaced, answer_text, standing_text, command_text, ask_text, plan_line, done_line}
use Rattle.model.specs.Transcript.{request, line, after, lines, transcript}
use Rattle.model.specs.ProgramCase.{case_plan, case_commands, case_output}

pub program_case : transcript (case_plan ++ case_commands) ≡ case_output
unfolding any found without changed last A lawful raised may_admit full blocking next threads place has_edge edges follows in_range known level_below room_for record_fault
    site_steps listed closed_backwards loops self_depends end_fault bytes_of read read_on has_node site_of level_of has is_child has_child is_on active_on
    waits_on counts admissible in_the_way newcomer opened closed may_wake to_wake woken fault opening serving step ask decimal_in decimal spaced answer_text standing_text
    command_text ask_text plan_line done_line request line after lines transcript
program_case = refl
