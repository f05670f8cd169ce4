-- What CREATE TABLE makes of a book that has no trail.
use Rattle.sql_making.proofs.Names.{◌≡◌, ◌∙◌, ℕ, true, sym, subst, arith, length, column, Ghosts, Held, state, ExecutesAllInside, [], Ok, refl, ap, map, Row, Trees, State, ExecutesIn, CreateTable, Layout, Made, Moved, book_schema, KeepsRows, understood}
use Rattle.sqlite_tied.specs.Compute.{everything}
use Rattle.sql_schema.specs.Schema.{matter_tree, seat_tree, entry_tree, journal_tree, firm_line_tree, exception_tree, balance_tree, act_text, act_table, act_tree}
use Rattle.sql_schema.specs.Bare.{bare_schema}
use Rattle.sql_tables.specs.Rows.{head_in, seat_in, entry_in, movement_in, firm_line_in, exception_in, balance_in, act_in}
use Rattle.sql_tables.specs.Lists.{lists_in}
use Rattle.sql_tables.specs.Standing.{versions_in}
use Rattle.sql_making.specs.Bare.{bare_lists, IsBareBook, IsExtended}
use Rattle.sql_making.proofs.Parts.{IsFirst}
use Rattle.sql_making.proofs.Whole.{turn}
use Rattle.sql_making.proofs.Creates.{runs_in_batch}
use Rattle.sql_making.proofs.MovedCreates.{Creates, HasCreated, creates}

extends : (l : Layout) → Creates (bare_schema l) act_text (book_schema l)
unfolding understood everything Rattle.sqlite_schema.specs.Names.same_name
extends Made = record { table = record (act_table Made) { tree = 0 }; is = refl; plain = (refl, refl); defined = refl; made = refl; unneeded = refl }
extends Moved = record { table = record (act_table Made) { tree = 0 }; is = refl; plain = (refl, refl); defined = refl; made = refl; unneeded = refl }

-- the tables that were there hold what they held
pub record AreAlike (l : Layout) (db next : Trees) : Type 0 where
  pub heads : next (matter_tree l) ≡ db (matter_tree l)
  pub seats : next (seat_tree l) ≡ db (seat_tree l)
  pub entries : next (entry_tree l) ≡ db (entry_tree l)
  pub movements : next (journal_tree l) ≡ db (journal_tree l)
  pub firm_lines : next (firm_line_tree l) ≡ db (firm_line_tree l)
  pub exceptions : next (exception_tree l) ≡ db (exception_tree l)
  pub balances : next (balance_tree l) ≡ db (balance_tree l)

pub alike : (l : Layout) (db next : Trees) → KeepsRows (bare_schema l).tables db next → AreAlike l db next
alike Made db next k = record {
  heads = k.1.0;
  seats = k.1.1.0;
  entries = k.1.1.1.0;
  movements = k.1.1.1.1.0;
  firm_lines = k.1.1.1.1.1.1.0;
  exceptions = k.1.1.1.1.1.1.1.0;
  balances = k.1.1.1.1.1.1.1.1.0;
}
alike Moved db next k = record {
  heads = k.1.1.1.1.1.1.1.1.1.0;
  seats = k.1.1.1.1.1.1.1.1.1.1.0;
  entries = k.1.1.1.1.1.1.1.1.1.1.1.0;
  movements = k.1.1.1.1.0;
  firm_lines = k.1.1.1.1.1.1.0;
  exceptions = k.1.1.1.1.1.1.1.0;
  balances = k.1.1.1.1.1.1.1.1.0;
}

same_lists : (l : Layout) (db next : Trees) → KeepsRows (bare_schema l).tables db next → next (act_tree l) ≡ [] → lists_in l next ≡ bare_lists l db
same_lists l db next k none =
    let same = alike l db next k in λ i. record {
      heads = map head_in (same.heads i);
      seats = map seat_in (same.seats i);
      entries = map entry_in (same.entries i);
      movements = map movement_in (same.movements i);
      firm_lines = map firm_line_in (same.firm_lines i);
      exceptions = map exception_in (same.exceptions i);
      balances = map balance_in (same.balances i);
      acts = map act_in (none i);
    }

same_version : (l : Layout) (db next : Trees) → KeepsRows (bare_schema l).tables db next → versions_in l next ≡ versions_in l db
same_version Made db next k = ap (map (λ (r : Row). column r 1)) k.0
same_version Moved db next k = ap (map (λ (r : Row). column r 1)) k.0

pub is_extended : (l : Layout) (old new : State) (count : ℕ) → IsBareBook l old.now → ExecutesIn true act_text [] old new (Ok count) → IsExtended l old.now new.now
is_extended l old new count bare h =
    let has = bare.schema in
    let it = creates (bare_schema l) act_text (book_schema l) (extends l) old new count has h in
    let w = runs_in_batch act_text old new (bare_schema l) has CreateTable (extends l).is (extends l).plain count h in
    record { book = record { schema = it.schema_is; version = same_version l old.now.trees new.now.trees it.others ∙ bare.version }; rows = it.others; lists = same_lists l old.now.trees new.now.trees it.others (empty l it); listed = w.sound }
  where
    empty : (l : Layout) → HasCreated (bare_schema l) (book_schema l) old.now new.now → new.now.trees (act_tree l) ≡ []
    empty Made it = it.empty
    empty Moved it = it.empty

alone_first : IsFirst act_text act_text []
unfolding everything
alone_first = record { some = omega arith; front = refl; after = refl }

module _ {S : Type 0} (g : Ghosts S) (new : Held S) where
  pub extended : (old : Held S) → ExecutesAllInside g 0 act_text old new (Ok tt) → (l : Layout) → IsBareBook l (state g old).now → IsExtended l (state g old).now (state g new).now
  unfolding ExecutesAllInside
  extended old h l bare =
      let ran = turn g new act_text act_text [] old alone_first (length act_text, h) in
      subst (λ (x : Held S). IsExtended l (state g old).now (state g x).now) (sym ran.3.1.1) (is_extended l (state g old) (state g ran.0) ran.1 bare ran.2.runs)
