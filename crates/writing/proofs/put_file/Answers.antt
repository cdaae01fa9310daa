-- `writing::put_file` meets its contract: the sites, the nodes, the edges and the end record are the file's parts. Assumes nothing.
use Prim.Native.Nat.{◌+◌, ◌≤◌}
use native.Mathlib.Omega.{arith}
use mathlib.Core.List.{◌++◌}
use lib.ListN.{length}
use Rattle.ids.specs.Limits.{sites, nodes, most_edges}
use Rattle.model.specs.Writing.{plan_file}
use Rattle.model.specs.declared.Plan.{Plan}
use Rattle.text.specs.Put.{Puts}
use Rattle.text.specs.Room.{HasRoom}
use Rattle.text.specs.declared.Page.{Page}
use Rattle.text.proofs.PutLaws.{put_then, put_as, put_long}
use Rattle.writing.specs.Writes.{sites_bytes, nodes_bytes, edges_bytes}
use Rattle.writing.proofs.FrontLaws.{file_parts, part_lengths}
use Rattle.writing.proofs.put_file.Goals as goal

module _ (p : Plan) (old : Page) (few : p.edges ≤ most_edges) (room : HasRoom old (length (plan_file p))) where
  -- what the parts take, seen from the entry
  parts : HasRoom old (length (sites_bytes p sites) + length (nodes_bytes p nodes) + length (edges_bytes p p.edges) + 1)
  parts = omega (arith, part_lengths p few, room)

  -- the room behind each part
  module _ (first : Page) (sites_put : Puts old (sites_bytes p sites) first) where
    nodes_room : HasRoom first (length (nodes_bytes p nodes))
    nodes_room = omega (arith, parts, sites_put.end_is, put_long sites_put)

    module _ (second : Page) (nodes_put : Puts first (nodes_bytes p nodes) second) where
      edges_room : HasRoom second (length (edges_bytes p p.edges))
      edges_room = omega (arith, parts, sites_put.end_is, nodes_put.end_is, put_long (put_then sites_put nodes_put))

      module _ (third : Page) (edges_put : Puts second (edges_bytes p p.edges) third) where
        -- all records
        records : Puts old (sites_bytes p sites ++ nodes_bytes p nodes ++ edges_bytes p p.edges) third
        records = put_then (put_then sites_put nodes_put) edges_put

        end_room : HasRoom third 1
        end_room = omega (arith, parts, sites_put.end_is, nodes_put.end_is, edges_put.end_is, put_long records)

pub put_sites-requires : goal.put_sites-requires
put_sites-requires c = omega (arith, parts c.args.plan.now c.args.page.now c.requires.few c.requires.room)

pub put_nodes-requires : goal.put_nodes-requires
put_nodes-requires c = nodes_room c.args.plan.now c.args.page.now c.requires.few c.requires.room c.put_sites.new.page c.put_sites.ensures.put

pub put_edges-requires-clause-room : goal.put_edges-requires-clause-room
put_edges-requires-clause-room c =
    edges_room c.args.plan.now c.args.page.now c.requires.few c.requires.room c.put_sites.new.page c.put_sites.ensures.put c.put_nodes.new.page
    c.put_nodes.ensures.put

pub put_record-requires : goal.put_record-requires
put_record-requires c =
    end_room c.args.plan.now c.args.page.now c.requires.few c.requires.room c.put_sites.new.page c.put_sites.ensures.put c.put_nodes.new.page
    c.put_nodes.ensures.put c.put_edges.new.page c.put_edges.ensures.put

pub returns-clause-put : goal.returns-clause-put
returns-clause-put c =
    let all =
    records c.args.plan.now c.args.page.now c.requires.few c.requires.room c.put_sites.new.page c.put_sites.ensures.put c.put_nodes.new.page
    c.put_nodes.ensures.put c.put_edges.new.page c.put_edges.ensures.put in
    put_as (file_parts c.args.plan.now c.requires.few) (put_then all c.put_record.ensures.put)
