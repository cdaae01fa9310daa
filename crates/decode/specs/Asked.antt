-- The request at an offset, for the contracts of `decode`, and what the model calls it. Assumes nothing.
use Rattle.std.specs.Prelude.{ℕ, suc, ◌+◌, Option, Some, None, Result, Ok, Err, cond, List, length, get_or, drop, eqb}
use Rattle.std.proofs.Math.Option.{Option as Maybe, none, some}
use Rattle.model.specs.House.{Next, lacking, unknown, cut, whole, next}
use Rattle.model.specs.Command.{start, call, return, take_back}
use Rattle.model.specs.Transcript as transcript
use Rattle.model.specs.Transcript.{command, question, room_question, command_kinds, word}
use Rattle.decode.specs.declared.Request.{Request}
use Rattle.decode.specs.declared.Unread.{Unread}

-- the length that the table of kinds has
abbrev pub size_told : Option ℕ → Maybe ℕ
size_told None = none
size_told (Some size) = some size

-- a record's kind and body
abbrev pub request_of : ℕ → List ℕ → Request
request_of kind body =
    cond (eqb kind 0x10) (Request.Start (get_or body 2 0) (word body 0))
    (cond (eqb kind 0x11) (Request.Call (get_or body 4 0) (word body 0) (word body 2))
    (cond (eqb kind 0x12) (Request.Return (word body 0))
    (cond (eqb kind 0x13) (Request.Ask (word body 0))
    (cond (eqb kind 0x15) (Request.TakeBack (word body 0)) (Request.Room (get_or body 0 0) (get_or body 1 0))))))

abbrev pub request_from : Next → ℕ → Result (Request × ℕ) Unread
request_from lacking at = Err Unread.End
request_from unknown at = Err Unread.Unknown
request_from cut at = Err Unread.Cut
request_from (whole kind body rest) at = Ok (request_of kind body, at + suc (length body))

-- what stands at an offset
abbrev pub request_at : List ℕ → ℕ → Result (Request × ℕ) Unread
request_at bytes at = request_from (next command_kinds (drop at bytes)) at

-- the model's request
abbrev pub asked : Request → transcript.Request
asked (Request.Start node ticket) = command (start ticket node)
asked (Request.Call node parent ticket) = command (call parent ticket node)
asked (Request.Return ticket) = command (return ticket)
asked (Request.Ask ticket) = question ticket
asked (Request.Room site level) = room_question site level
asked (Request.TakeBack ticket) = command (take_back ticket)
