-- `text::Page::puts` meets its contract: each turn puts one byte more behind those before it. Assumes nothing.
use native.Mathlib.Omega.{arith}
use mathlib.Core.Path.{refl, sym, ◌∙◌}
use Rattle.std.proofs.Common.{length-take-le}
use Rattle.std.proofs.Math.Seq.{take_all}
use Rattle.text.proofs.PutLaws.{put_none, put_then, put_as, put_long, take_next}
use Rattle.text.proofs.Page.puts.Goals as goal

pub loop-byte-init : goal.loop-byte-init
loop-byte-init c = (omega arith, refl, put_none _ _ (omega arith))

pub put-requires : goal.put-requires
put-requires c = omega (arith, c.requires, put_long c.loop-byte.invariant.2, c.loop-byte.invariant.2.end_is, length-take-le c.loop-byte.byte-index c.args.bytes.now (omega arith))

pub loop-byte-preserved : goal.loop-byte-preserved
loop-byte-preserved c = (
  omega arith,
  c.put.ensures.same_reference ∙ c.loop-byte.invariant.1,
  put_as (sym (take_next c.args.bytes.now c.loop-byte.byte-index (omega arith))) (put_then c.loop-byte.invariant.2 c.put.ensures.put),
)

pub returns-clause-same_reference : goal.returns-clause-same_reference
returns-clause-same_reference c = c.loop-byte.invariant.1

pub returns-clause-put : goal.returns-clause-put
returns-clause-put c = put_as (take_all _ _ (omega arith)) c.loop-byte.invariant.2
