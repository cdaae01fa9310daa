-- `writing::put_record` meets its contract: in each arm the record is known, and the bytes are its own. Assumes nothing.
use native.Mathlib.Omega.{arith}
use mathlib.Core.Path.{◌≡◌, sym, ap}
use lib.ListN.{length}
use Rattle.model.specs.Plan.{bytes_of}
use Rattle.model.specs.declared.PlanRecord.{PlanRecord}
use Rattle.text.proofs.PutLaws.{put_as}
use Rattle.writing.specs.Writes.{record_bytes}
use Rattle.writing.proofs.put_record.Goals as goal

long : {r q : PlanRecord} → r ≡ q → length (record_bytes r) ≡ length (record_bytes q)
long e = ap (λ (r : PlanRecord). length (record_bytes r)) e

pub puts-requires : goal.puts-requires
unfolding bytes_of
puts-requires c = omega (arith, c.requires, long c.in-Site.is)

pub puts-requires-in-Node : goal.puts-requires-in-Node
unfolding bytes_of
puts-requires-in-Node c = omega (arith, c.requires, long c.in-Node.is)

pub puts-requires-in-Edge : goal.puts-requires-in-Edge
unfolding bytes_of
puts-requires-in-Edge c = omega (arith, c.requires, long c.in-Edge.is)

pub returns-in-Site-clause-put : goal.returns-in-Site-clause-put
unfolding bytes_of
returns-in-Site-clause-put c = put_as (sym (ap record_bytes c.in-Site.is)) c.puts.ensures.put

pub returns-in-Node-clause-put : goal.returns-in-Node-clause-put
unfolding bytes_of
returns-in-Node-clause-put c = put_as (sym (ap record_bytes c.in-Node.is)) c.puts-in-Node.ensures.put

pub returns-in-Edge-clause-put : goal.returns-in-Edge-clause-put
unfolding bytes_of
returns-in-Edge-clause-put c = put_as (sym (ap record_bytes c.in-Edge.is)) c.puts-in-Edge.ensures.put
