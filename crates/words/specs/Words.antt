-- A word as a set of nodes: node n is in it where bit n is set. Assumes nothing.
use Rattle.std.specs.Prelude.{ℕ, ◌-◌, ◌/◌, ◌%◌, ◌^◌, Bool, cond, eqb, ltb}
use Rattle.std.specs.Int.Bits.{bit_and, bit_or}
use Rattle.ids.specs.Limits.{nodes}
use Rattle.lists.specs.Count.{first}

unfoldable pub member : ℕ → ℕ → Bool
member word n = eqb (word / 2 ^ n % 2) 1

-- one node more
unfoldable pub inserted : ℕ → ℕ → ℕ
inserted word n = cond (ltb n nodes) (bit_or word (2 ^ n)) word

-- the least node of a set; of the empty one 64, which is no node
unfoldable pub least : ℕ → ℕ
least word = first nodes (member word)

-- the set without it
unfoldable pub without_least : ℕ → ℕ
without_least word = bit_and word (word - 1)

-- of one set those that are not in another
unfoldable pub difference : ℕ → ℕ → ℕ
difference word other = bit_and word ((2 ^ nodes - 1) - other)
