-- The reader of some lent bytes that stands at an offset. Assumes nothing.
use Rattle.std.specs.Prelude.{ℕ, List}
use Rattle.std.specs.Borrow.{Bor}
use Rattle.reader.specs.declared.Reader.{Reader}

abbrev pub reader_at : Bor (List ℕ) → ℕ → Reader
reader_at bytes at = record { bytes = bytes; at = at }
