-- `tree::descend` meets its contract: where no tree can be built the site is refused, and once it is built the root's slack says whether the
-- site is lawful and where the walk ends. Assumes nothing.
use mathlib.Core.Path.{ap, ◌∙◌}
use Rattle.lists.proofs.CountLaws.{never_both}
use Rattle.std.specs.Prelude.{Ok}
use Rattle.tree.proofs.DescentLaws.{uncounted_refused, root_refuses, root_stays, root_walks}
use Rattle.tree.proofs.descend.Goals as goal

pub returns-then-not-countable : goal.returns-then-not-countable
returns-then-not-countable c = uncounted_refused _ _ (λ k. never_both (c.countable.ensures.1 k) c.if-not-countable.true)

pub returns-then-root-lt-NO_SLACK : goal.returns-then-root-lt-NO_SLACK
returns-then-root-lt-NO_SLACK c = root_refuses _ _ (c.countable.ensures.0 c.if-not-countable.false) _ _ c.build.ensures c.if-root-lt-NO_SLACK.true

pub returns-then-root-gt-NO_SLACK : goal.returns-then-root-gt-NO_SLACK
returns-then-root-gt-NO_SLACK c = root_stays _ _ (c.countable.ensures.0 c.if-not-countable.false) _ _ c.build.ensures c.if-root-lt-NO_SLACK.false c.if-root-gt-NO_SLACK.true

pub returns : goal.returns
returns c = ap Ok c.walk.ensures
    ∙ root_walks _ _ (c.countable.ensures.0 c.if-not-countable.false) _ _ c.build.ensures c.if-root-lt-NO_SLACK.false c.if-root-gt-NO_SLACK.false
