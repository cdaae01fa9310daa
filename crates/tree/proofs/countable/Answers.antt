-- `tree::countable` meets its contract: each test is a part of `TreeCounts`, and where all hold the whole is. Assumes nothing.
use native.Mathlib.Omega.{arith}
use borrow.Author.Tests.{leb-true, le-leb}
use Rattle.model.proofs.SiteLaws.{A_end}
use mathlib.Core.Path.{◌≡◌}
use Rattle.ids.specs.Limits.{most_threads}
use Rattle.model.specs.Site.{A}
use Rattle.tree.proofs.countable.Goals as goal

pub returns : goal.returns
returns c = let T = c.args.threads in
    let a = c.args.counts.now in
    let none = A_end a most_threads (omega arith) in
    let within : A a T ≡ 0 = omega (arith, c.calls_in.ensures, c.if-calls_in-ne0.false) in (
      λ e.
          record {
            some = omega (arith, c.if-threads-eq0.false);
            most = omega arith;
            long = omega arith;
            within = within;
            few = omega (arith, leb-true c.calls_in-2.result T e, c.calls_in-2.ensures);
          },
      λ k. le-leb c.calls_in-2.result T (omega (arith, k.few, c.calls_in-2.ensures)),
    )
