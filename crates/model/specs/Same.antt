-- Two nets that differ in the places of their calls alone: the same plan, the same calls in any order, and the same waiting order at each site. "Table
-- places don't count." Assumes nothing.
use Rattle.std.specs.Prelude.{ℕ, ◌≡◌, Bool}
use Rattle.lists.specs.Pick.{count}
use Rattle.model.specs.Net.{Call, Core, waiting_order}

pub record Same (a b : Core) : Type 0 where
  pub plans : a.plan ≡ b.plan
  -- every test is passed by as many
  pub calls : (f : Call → Bool) → count f a.calls ≡ count f b.calls
  pub orders : (s : ℕ) → waiting_order a.plan a.calls s ≡ waiting_order b.plan b.calls s
