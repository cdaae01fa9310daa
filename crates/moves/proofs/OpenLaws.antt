-- What `moves::open` does to the arrays: the newcomer's numbers are stored behind the others, and the rooms lose one where it is active. From the laws of the
-- arrays and of the rooms. Assumes nothing.
use Prim.Native.Nat.{ℕ, suc, ◌+◌, ◌*◌, ◌≤◌, ◌<◌}
use native.Mathlib.Omega.{arith}
use mathlib.Core.Path.{◌≡◌, refl, sym, ap, subst, ◌∙◌}
use mathlib.Core.Bool.{Bool, true, false, ◌&&◌, cond}
use mathlib.Core.List.{List, [], ◌∷◌}
use lib.ListN.{length, set, length-append}
use lib.Dec.{ltb, eqb}
use borrow.Author.Tests.{lt-ltb, le-ltb, eq-eqb, ne_eqb}
use Rattle.ids.specs.Limits.{sites, most_threads, most_open}
use Rattle.lists.specs.Count.{first, last}
use Rattle.lists.specs.Fill.{Filled, renewed}
use Rattle.model.specs.Site.{lawful, raised, blocking}
use Rattle.model.specs.Plan.{Record, threads}
use Rattle.model.specs.Net.{Call, site_of, level_of, is_on, active_on, counts, admissible, in_the_way, limit_at, newcomer, opened}
use Rattle.model.proofs.PlaceLaws.{threads_most, site_small, level_small, level_below-threads}
use Rattle.model.proofs.CountsLaws.{more, counts-length, counts-opened}
use Rattle.model.proofs.AdmitLaws.{admissible-limit}
use Rattle.model.proofs.FirmLaws.{opened_firm, more_lawful}
use Rattle.rooms.specs.Rooms.{no_room, one_less, Taking, Limited}
use Rattle.moves.specs.Held.{Tells, key_of, room_byte, RoomsTell, Arrays, arrays, Held, Placed, CanOpen}
use Rattle.moves.proofs.RoomLaws.{limited, rooms_limit, rooms_blocking, taking, rooms-taken}
use Rattle.moves.proofs.TableLaws.{tells_opened, tells_opened_0}

-- The limit of a site

module _ {rs : List Record} {cs : List Call} {a : Arrays} {used site most : ℕ} (held : Held rs cs a used) (inside : site < sites)
    (threads_are : most ≡ threads rs site) where
  pub site_limited : Limited a.rooms (most_threads * site) most
  site_limited =
      subst (Limited a.rooms (most_threads * site)) (sym threads_are)
      (limited rs (counts rs cs) a.rooms held.of_rooms site inside (threads_most rs held.firm.pass site))

  pub site_limit : first most (no_room a.rooms (most_threads * site)) ≡ limit_at rs cs site
  unfolding limit_at
  site_limit =
      ap (λ (T : ℕ). first T (no_room a.rooms (most_threads * site))) threads_are
      ∙ rooms_limit rs (counts rs cs) a.rooms held.of_rooms site inside (threads_most rs held.firm.pass site) (held.firm.law site)

-- A node's site and level, and the limit there

module _ {rs : List Record} {cs : List Call} {a : Arrays} {used : ℕ} (held : Held rs cs a used) {node site level most : ℕ}
    (placed : Placed rs node site level most) where
  pub site_inside : site < sites
  site_inside = omega (arith, placed.site_is, site_small rs held.firm.pass node placed.known)

  pub level_inside : level < most_threads
  level_inside = omega (arith, placed.level_is, level_small rs held.firm.pass node)

  pub limit_fits : Limited a.rooms (most_threads * site) most
  limit_fits = site_limited held site_inside placed.threads_are

  limit_means : first most (no_room a.rooms (most_threads * site)) ≡ limit_at rs cs site
  limit_means = site_limit held site_inside placed.threads_are

  -- below the limit, and only there, the node's call may be admitted
  decides : admissible rs cs node ≡ ltb level (limit_at rs cs site)
  decides =
      admissible-limit rs held.firm.pass cs held.firm.law node
      ∙ ap (λ (s : ℕ). ltb (level_of rs node) (limit_at rs cs s)) (sym placed.site_is)
      ∙ ap (λ (l : ℕ). ltb l (limit_at rs cs site)) (sym placed.level_is)

  pub lets_in : (limit : ℕ) → limit ≡ first most (no_room a.rooms (most_threads * site)) → level < limit → admissible rs cs node ≡ true
  lets_in limit e h = decides ∙ lt-ltb level (limit_at rs cs site) (omega (arith, limit_means))

  pub holds_back : (limit : ℕ) → limit ≡ first most (no_room a.rooms (most_threads * site)) → limit ≤ level → admissible rs cs node ≡ false
  holds_back limit e h = decides ∙ le-ltb level (limit_at rs cs site) (omega (arith, limit_means))

  pub level_under : level < threads rs site
  level_under =
      omega (arith, level_below-threads rs held.firm.pass node placed.known, placed.level_is, ap (threads rs) placed.site_is)

  pub level_long : level < length (counts rs cs site)
  level_long = omega (arith, level_inside, counts-length rs site cs)

  pub take_fits : admissible rs cs node ≡ true → Taking a.rooms (most_threads * site) level
  take_fits e =
      taking rs (counts rs cs) a.rooms held.of_rooms site site_inside (threads_most rs held.firm.pass site) level level_under level_long
      (subst (λ (l : ℕ). lawful (threads rs site) (raised (counts rs cs site) l) ≡ true) (sym placed.level_is)
      (more_lawful rs cs held.firm.pass held.firm.law node site placed.known e true (λ q. sym placed.site_is)))

-- The arrays afterwards

module _ {rs : List Record} {cs : List Call} {a : Arrays} {used parent ticket node site level most : ℕ}
    (ok : CanOpen rs cs a used parent ticket node site level most) where
  abbrev new : Call
  new = newcomer rs cs parent ticket node

  used_inside : length cs < most_open
  used_inside = ok.fits.room_left

  -- an array whose number the newcomer does not wait for
  stored : (g : Call → ℕ) (numbers : List ℕ) (v : ℕ) → Tells g cs numbers → v ≡ g new → Tells g (opened rs cs parent ticket node) (set numbers used v)
  unfolding opened
  stored g numbers v t e = tells_opened new used v t ok.held.count used_inside e

  more_used : used + 1 ≡ length (opened rs cs parent ticket node)
  unfolding opened
  more_used = omega (arith, ok.held.count, length-append cs (new ∷ []))

  counts-after : (s : ℕ) → counts rs (opened rs cs parent ticket node) s ≡ more (active_on rs s new) (counts rs cs s) (level_of rs node)
  unfolding opened newcomer
  counts-after s = counts-opened rs s ok.held.firm.pass cs new

  -- with its key and the rooms
  opened-held : (keys rooms : List ℕ) → Tells (key_of rs) (opened rs cs parent ticket node) keys
      → RoomsTell rs (counts rs (opened rs cs parent ticket node)) rooms
      → Held rs (opened rs cs parent ticket node)
      (arrays (set a.tickets used ticket) (set a.parents used parent) keys (set a.nodes used node) rooms) (used + 1)
  unfolding newcomer
  opened-held keys rooms of_keys of_rooms =
      record {
        of_tickets = stored (λ c. c.ticket) a.tickets ticket ok.held.of_tickets refl;
        of_parents = stored (λ c. c.parent) a.parents parent ok.held.of_parents refl;
        of_keys = of_keys;
        of_nodes = stored (λ c. c.node) a.nodes node ok.held.of_nodes refl;
        of_rooms = of_rooms;
        count = more_used;
        firm = opened_firm rs cs ok.held.firm parent ticket node ok.fits;
      }

  -- the newcomer is active at its own site alone
  counts_here : admissible rs cs node ≡ true → counts rs (opened rs cs parent ticket node) site ≡ raised (counts rs cs site) level
  unfolding active_on is_on newcomer
  counts_here e =
      counts-after site
      ∙ ap (λ (b : Bool). more (b && admissible rs cs node) (counts rs cs site) (level_of rs node)) (eq-eqb (site_of rs node) site (sym ok.placed.site_is))
      ∙ ap (λ (b : Bool). more b (counts rs cs site) (level_of rs node)) e
      ∙ ap (raised (counts rs cs site)) (sym ok.placed.level_is)

  counts_there : (s : ℕ) → (s ≡ site → ⊥) → counts rs (opened rs cs parent ticket node) s ≡ counts rs cs s
  unfolding active_on is_on newcomer
  counts_there s apart =
      counts-after s
      ∙ ap (λ (b : Bool). more (b && admissible rs cs node) (counts rs cs s) (level_of rs node))
      (ne_eqb (site_of rs node) s (λ q. apart (sym q ∙ sym ok.placed.site_is)))

  -- and nowhere where it waits
  counts_waiting : admissible rs cs node ≡ false → (s : ℕ) → counts rs (opened rs cs parent ticket node) s ≡ counts rs cs s
  unfolding active_on is_on newcomer
  counts_waiting e s =
      counts-after s
      ∙ ap (λ (b : Bool). more (eqb (site_of rs node) s && b) (counts rs cs s) (level_of rs node)) e ∙ go (eqb (site_of rs node) s)
    where
      go : (b : Bool) → more (b && false) (counts rs cs s) (level_of rs node) ≡ counts rs cs s
      go true = refl
      go false = refl

  -- what is in its way then, as the rooms show it afterwards
  pub waits_for : admissible rs cs node ≡ false → (b : Arrays) (used-after : ℕ) → Held rs (opened rs cs parent ticket node) b used-after
      → last (suc level) (no_room b.rooms (most_threads * site)) ≡ in_the_way rs cs node
  unfolding in_the_way
  waits_for e b used-after held =
      rooms_blocking rs (counts rs (opened rs cs parent ticket node)) b.rooms held.of_rooms site (site_inside ok.held ok.placed)
      (threads_most rs held.firm.pass site) (held.firm.law site) level (level_under ok.held ok.placed)
      ∙ ap (λ (c : List ℕ). blocking (threads rs site) c level) (counts_waiting e site)
      ∙ ap (λ (s : ℕ). blocking (threads rs s) (counts rs cs s) level) ok.placed.site_is
      ∙ ap (blocking (threads rs (site_of rs node)) (counts rs cs (site_of rs node))) ok.placed.level_is

  pub opened_active : admissible rs cs node ≡ true → (rooms : List ℕ)
      → Filled (renewed one_less a.rooms) (most_threads * site) (most_threads * site + (level + 1)) a.rooms rooms
      → Held rs (opened rs cs parent ticket node)
      (arrays (set a.tickets used ticket) (set a.parents used parent) a.keys (set a.nodes used node) rooms) (used + 1)
  unfolding opened newcomer key_of
  opened_active e rooms filled =
      let f = ok.held.firm in
      let inside = site_inside ok.held ok.placed in
      opened-held a.keys rooms
      (tells_opened_0 new ok.held.of_keys (ap (λ (b : Bool). cond b 0 (most_threads * site_of rs node + level_of rs node + 1)) e))
      (rooms-taken rs (counts rs cs) a.rooms ok.held.of_rooms site inside (threads_most rs f.pass site) level
      (level_under ok.held ok.placed) (level_long ok.held ok.placed) rooms (counts rs (opened rs cs parent ticket node)) filled
      counts_there (counts_here e))

  pub opened_waiting : admissible rs cs node ≡ false → (base : ℕ) → base ≡ most_threads * site
      → Held rs (opened rs cs parent ticket node)
      (arrays (set a.tickets used ticket) (set a.parents used parent) (set a.keys used (base + level + 1))
      (set a.nodes used node) a.rooms)
      (used + 1)
  unfolding newcomer key_of
  opened_waiting e base base_is =
      opened-held (set a.keys used (base + level + 1)) a.rooms
      (stored (key_of rs) a.keys (base + level + 1) ok.held.of_keys key_is)
      (record {
        whole = ok.held.of_rooms.whole;
        each = λ s k hs hk. ok.held.of_rooms.each s k hs hk ∙ ap (λ (b : List ℕ). room_byte (threads rs s) b k) (sym (counts_waiting e s));
      })
    where
      key_is : base + level + 1 ≡ cond (admissible rs cs node) 0 (most_threads * site_of rs node + level_of rs node + 1)
      key_is = rw e (omega (arith, base_is, ap (λ (s : ℕ). most_threads * s) ok.placed.site_is, ok.placed.level_is))
