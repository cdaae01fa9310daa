-- The useless libraries of document 01, "How tight the promises are", as what they answer to a run of commands, and a run on which each differs.
-- Assumes nothing.
use Rattle.std.specs.Prelude.{ℕ, List, [], ◌∷◌}
use Rattle.model.specs.Plan.{site, node}
use Rattle.model.specs.Net.{Core, empty_net}
use Rattle.model.specs.Command.{Command, start, Answer, refused, active, step}

-- "One refusing all commands", with whatever number
abbrev pub refusing : (Command → ℕ) → Core → List Command → List Answer
refusing why net [] = []
refusing why net (c ∷ rest) = refused (why c) ∷ refusing why net rest

-- "one answering 'active' always"
abbrev pub always_active : Core → List Command → List Answer
always_active net [] = []
always_active net (c ∷ rest) = active ∷ always_active net rest

-- "and one leaving the state alone"
abbrev pub forgetful : Core → List Command → List Answer
forgetful net [] = []
forgetful net (c ∷ rest) = (step net c).answer ∷ forgetful net rest

-- "One that serves the first command and pretends afterwards"
abbrev pub pretending : Core → List Command → List Answer
pretending net [] = []
pretending net (c ∷ rest) = (step net c).answer ∷ always_active net rest

-- a site of one thread with a node, and two starts of it: the second waits
abbrev pub small_net : Core
small_net = empty_net (node 0 0 0 ∷ site 0 1 ∷ [])

abbrev pub two_starts : List Command
two_starts = start 1 0 ∷ start 2 0 ∷ []
