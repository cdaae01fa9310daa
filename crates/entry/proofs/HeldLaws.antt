-- What the table holds as the rules are tested: the calls' numbers, their keys, the plan's own arrays, and at the end the whole net. Assumes nothing.
use Prim.Native.Nat.{ℕ, ◌≤◌}
use native.Mathlib.Omega.{arith}
use mathlib.Core.Path.{◌≡◌, refl, sym, ap, subst, ◌∙◌}
use mathlib.Core.Bool.{true, not}
use mathlib.Core.List.{List, Memᴰ}
use Rattle.std.specs.Prelude.{Result, Ok, Err}
use Rattle.ids.specs.Limits.{most_open}
use Rattle.lists.specs.Tabled.{tabled}
use Rattle.lists.proofs.CountLaws.{denied}
use Rattle.lists.proofs.PickLaws.{all_at}
use Rattle.model.specs.PlanValue.{Sized, records_of}
use Rattle.model.specs.Net.{Call, has_node}
use Rattle.model.specs.NetRules.{parent_kept, could_go, all_lawful}
use Rattle.model.specs.Steady.{Firm}
use Rattle.model.specs.declared.Plan.{Plan}
use Rattle.model.proofs.HeldLaws.{threads_of}
use Rattle.model.proofs.NetRuleLaws.{differ-is, not_0_is, sites-all}
use Rattle.table.specs.declared.Table.{Table}
use Rattle.moves.specs.declared.Running.{Running as Run}
use Rattle.moves.specs.Held.{arrays, RoomsTell}
use Rattle.model.specs.Net.{counts}
use Rattle.faults.specs.Seen.{Listing, Edging}
use Rattle.steps.specs.Running.{Staffed, Planned, Running}
use Rattle.value.specs.View.{core_of}
use Rattle.value.specs.declared.Net.{Net}
use Rattle.value.specs.declared.NetRule.{NetRule}
use Rattle.value.proofs.NodeLaws.{listed_there, node_inside, site_there, level_there}
use Rattle.apart.proofs.ApartLaws.{first-length}
use Rattle.tally.specs.Tally.{Counting, CanRoom}
use Rattle.rules.specs.Rules.{CallsCounted, TicketsSeen, NodesSeen, AllParentsSeen, SettledSeen}
use Rattle.entry.specs.Entry.{PlanKept, NumberTested, NumberKept, Tabled, CallTested, CallKept, SitesRun, SiteRules, Prepared, Prepares}
use Rattle.entry.proofs.BrokenLaws.{rs, cs, core}

-- The plan's arrays

module _ (p : Plan) (sized : Sized p) where
  pub listing : Listing (records_of p) p.places
  listing = record { whole = sized.places; tells = λ n. sym (listed_there p sized n) }

  pub staffed : Staffed (records_of p) p.threads
  staffed = record { whole = sized.threads; each = λ s h. sym (threads_of p sized s) }

  pub planned : {edges : List ℕ} → Edging (records_of p) edges → Planned (records_of p) p.threads p.places p.levels edges
  planned edging =
      record {
        staffed = staffed;
        listing = listing;
        places_are = λ n known. sym (site_there p sized n known);
        levels_whole = sized.levels;
        levels_are = λ n known. sym (level_there p sized n known);
        edging = edging;
      }

module _ (net : Net) where
  counted : net.used ≤ most_open → CallsCounted (cs net) net.used
  counted few = record { count = sym (first-length net.calls net.used); few = omega (arith, first-length net.calls net.used) }

  pub tickets_seen : {t : Table} → NumberTested net t → TicketsSeen (cs net) t.tickets t.used
  tickets_seen {t} ok =
      record {
        counted = subst (CallsCounted (cs net)) (sym ok.counted) (counted ok.plan_kept.calls_few);
        of_tickets = ok.numbers.of_tickets;
      }

  pub nodes_seen : {t : Table} → NumberTested net t → NodesSeen (rs net) (cs net) t.nodes t.used net.plan.places
  nodes_seen {t} ok =
      record {
        counted = subst (CallsCounted (cs net)) (sym ok.counted) (counted ok.plan_kept.calls_few);
        of_nodes = ok.numbers.of_nodes;
        listing = listing net.plan ok.plan_kept.sized;
      }

  pub known : NumberKept net → (c : Call) → Memᴰ c (cs net) → has_node (rs net) c.node ≡ true
  known k = all_at (λ c. has_node (rs net) c.node) (cs net) k.nodes_are

  module _ {t : Table} {edges : List ℕ} (ok : CallTested net t edges) where
    plan_kept : PlanKept net
    plan_kept = ok.number_kept.plan_kept

    all-counted : CallsCounted (cs net) t.used
    all-counted = subst (CallsCounted (cs net)) (sym ok.tabled.counted) (counted plan_kept.calls_few)

    pub parents-seen : AllParentsSeen (rs net) (cs net) t.tickets t.parents t.keys t.nodes t.used edges
    parents-seen =
        record {
          seen =
              record {
                counted = all-counted;
                of_tickets = ok.tabled.numbers.of_tickets;
                of_keys = ok.tabled.of_keys;
                of_nodes = ok.tabled.numbers.of_nodes;
                edging = ok.edging;
                inside = λ c m. node_inside net.plan plan_kept.sized c.node (known ok.number_kept c m);
              };
          of_parents = ok.tabled.numbers.of_parents;
        }

    pub counting : Counting (rs net) (cs net) t.keys t.nodes t.used net.plan.places net.plan.levels
    counting =
        record {
          placing =
              record {
                pass = plan_kept.pass;
                places_whole = plan_kept.sized.places;
                levels_whole = plan_kept.sized.levels;
                nodes_inside = λ n h. node_inside net.plan plan_kept.sized n h;
                places_are = λ n h. sym (site_there net.plan plan_kept.sized n h);
                levels_are = λ n h. sym (level_there net.plan plan_kept.sized n h);
              };
          of_keys = ok.tabled.of_keys;
          of_nodes = ok.tabled.numbers.of_nodes;
          count = all-counted.count;
          few = all-counted.few;
          known = known ok.number_kept;
        }

  pub can_room : CallKept net → CanRoom (rs net) (cs net) net.counts net.plan.threads
  can_room k =
      record {
        pass = k.number_kept.plan_kept.pass;
        known = known k.number_kept;
        told = k.told;
        threads_whole = k.number_kept.plan_kept.sized.threads;
        threads_are = λ s h. sym (threads_of net.plan k.number_kept.plan_kept.sized s);
      }

  module _ (k : CallKept net) (lawful_are : all_lawful (core net) ≡ true) where
    firm : Firm (rs net) (cs net)
    firm =
        record {
          pass = k.number_kept.plan_kept.pass;
          differ = differ-is (core net) (counts (rs net) (cs net)) k.number_kept.tickets_are;
          none_0 = not_0_is (core net) (counts (rs net) (cs net)) k.number_kept.tickets_are;
          known = known k.number_kept;
          kept = all_at (parent_kept (rs net) (cs net)) (cs net) k.parents_are;
          law = sites-all (core net) (counts (rs net) (cs net)) k.number_kept.plan_kept.pass lawful_are;
          few = (counted k.number_kept.plan_kept.calls_few).few;
        }

    pub settled-seen : {t : Table} {rooms : List ℕ} → Tabled net t → RoomsTell (rs net) (counts (rs net) (cs net)) rooms
        → SettledSeen (rs net) (cs net) t.keys rooms t.used net.plan.threads
    settled-seen tabled told =
        record {
          count = tabled.counted ∙ (counted k.number_kept.plan_kept.calls_few).count;
          of_keys = tabled.of_keys;
          of_rooms = told;
          firm = firm;
          threads_whole = k.number_kept.plan_kept.sized.threads;
          threads_are = λ s h. sym (threads_of net.plan k.number_kept.plan_kept.sized s);
        }

  -- nothing is broken: the run holds the net
  pub runs : {t : Table} {run : Run} {edges : List ℕ} → CallKept net → Tabled net t → SitesRun net t run → Edging (rs net) edges → Prepared net run edges
  unfolding core_of
  runs {t} {run} {edges} k tabled sites edging =
      record {
        fault = sites.fault;
        counted = ap (λ (u : Table). u.used) sites.same ∙ tabled.counted;
        runs =
            subst
            (λ (u : Table). Running (core_of net) (arrays u.tickets u.parents u.keys u.nodes run.rooms.left) u.used net.plan.threads net.plan.places
            net.plan.levels edges) (sym sites.same) table_runs;
      }
    where
      f : Firm (rs net) (cs net)
      f = firm k sites.kept.lawful_are

      table_runs : Running (core_of net) (arrays t.tickets t.parents t.keys t.nodes run.rooms.left) t.used net.plan.threads net.plan.places net.plan.levels
          edges
      table_runs =
          record {
            keeps =
                record {
                  plan_passes = f.pass;
                  tickets_differ = f.differ;
                  no_ticket_0 = f.none_0;
                  nodes_known = f.known;
                  parents_kept = f.kept;
                  counts_kept = λ s h. refl;
                  sites_lawful = f.law;
                  settled = λ c m.
                      denied (could_go (rs net) (cs net) c) (could_go (rs net) (cs net) c) refl
                      (all_at (λ d. not (could_go (rs net) (cs net) d)) (cs net) sites.kept.settled_are c m);
                  few_open = f.few;
                };
            held =
                record {
                  of_tickets = tabled.numbers.of_tickets;
                  of_parents = tabled.numbers.of_parents;
                  of_keys = tabled.of_keys;
                  of_nodes = tabled.numbers.of_nodes;
                  of_rooms = sites.kept.of_rooms;
                  count = tabled.counted ∙ (counted k.number_kept.plan_kept.calls_few).count;
                  firm = f;
                };
            planned = planned net.plan k.number_kept.plan_kept.sized edging;
          }

  pub prepared : (old new : Run) {edges : List ℕ} → CallKept net → Tabled net old.table → Edging (rs net) edges → (r : Result Unit NetRule)
      → SiteRules net old new r → Prepares net edges new r
  prepared old new k held edging (Ok kept) says = runs k held says edging
  prepared old new k held edging (Err rule) says = says
