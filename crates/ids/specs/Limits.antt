-- The limits of document 01, as the definitions name them. The constructors' promises tie them to the associated constants of the types.
-- Assumes nothing.
use Rattle.std.specs.Prelude.{ℕ}

-- "Sites are numbered 0 to 15"
abbrev pub sites : ℕ
sites = 16

-- "each with 1 to 64 threads"; so a level is below 64
abbrev pub most_threads : ℕ
most_threads = 64

-- "Nodes are numbered 0 to 63"
abbrev pub nodes : ℕ
nodes = 64

-- "0 means no ticket"
abbrev pub no_ticket : ℕ
no_ticket = 0

-- "At most 256 call edges"
abbrev pub most_edges : ℕ
most_edges = 256

-- "At most 256 open calls in the net"
abbrev pub most_open : ℕ
most_open = 256
