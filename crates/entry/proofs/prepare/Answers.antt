-- `entry::prepare` meets its contract: the parts one behind the other, and behind them all the run holds the net. The keys are made behind the rules on the numbers,
-- so that a net that breaks these costs none. Assumes nothing.
use Prim.Native.Nat.{ℕ}
use mathlib.Core.Path.{sym, subst, ◌∙◌}
use mathlib.Core.List.{List}
use Rattle.table.specs.Places.{Padded}
use Rattle.apart.proofs.ApartLaws.{numbers_beside}
use Rattle.entry.specs.Entry.{Tabled}
use Rattle.entry.proofs.HeldLaws.{known, prepared}
use Rattle.entry.proofs.prepare.Goals.{After-keys}
use Rattle.entry.proofs.prepare.Goals as goal

pub keys-requires-clause-keyless : goal.keys-requires-clause-keyless
keys-requires-clause-keyless c = let no = c.requires.blank.0 in
    subst (λ (keys : List ℕ). Padded keys 0) (sym c.numbers.ensures.keyless)
    (subst (λ (used : ℕ). Padded c.args.running.now.table.keys used) no.none_open no.keys_table)

-- the table behind its keys
tabled : (c : After-keys) → Tabled c.args.net.now c.keys.new.table
tabled c =
    record {
      numbers = numbers_beside c.args.net.now c.keys.ensures.beside c.numbers.ensures.numbered;
      of_keys = c.keys.ensures.keyed (known c.args.net.now c.in_ok-number_rules.ensures);
      counted = c.keys.ensures.beside.same_count ∙ c.numbers.ensures.counted;
    }

pub call_rules-requires : goal.call_rules-requires
call_rules-requires c =
    record {
      number_kept = c.in_ok-number_rules.ensures;
      tabled = tabled (goal.at.call_rules-requires c).After-keys;
      edging = c.requires.edged;
    }

pub site_rules-requires : goal.site_rules-requires
site_rules-requires c =
    record {
      call_kept = c.in_ok-call_rules.ensures;
      tabled = tabled (goal.at.site_rules-requires c).After-keys;
      unlimited = c.requires.blank.1;
    }

pub returns : goal.returns
returns c =
    prepared c.args.net.now (record { table = c.keys.new.table; rooms = c.args.running.now.rooms }) _ c.in_ok-call_rules.ensures
    (tabled (goal.at.returns c).After-keys) c.requires.edged _ c.site_rules.ensures
