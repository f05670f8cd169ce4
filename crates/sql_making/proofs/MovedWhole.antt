-- What the whole text makes of a database of version 1.
use Rattle.sql_making.proofs.Names.{◌≡◌, ℕ, ℤ, true, List, [], ◌∷◌, map, length, Ok, refl, sym, ap, subst, ◌∙◌, AllByRecursion, Value, Int, Row, column, Ghosts, Trees, Schema, map-map, Database, IsDatabase, ExecutesAllInside, Held, state, State, ExecutesIn, Moved, book_schema, version_now, Head, head_row, head_in, Seat, seat_row, seat_in, Entry, entry_row, entry_in, SeatsHold, EntriesHold, MovementsHold, FirmLinesHold, ExceptionsHold, BalancesHold, old_schema, version_then, move_text, version_set_part, after_acts_made, after_heads_emptied, old_head_row, old_head_in, numbered_versions, IsOldBook, IsMoved, movement_in, firm_line_in, exception_in, balance_in}
use Rattle.sql_tables.proofs.Others.{now_holds, now_read}
use Rattle.sql_tables.specs.Rows.{Act, act_row, act_in}
use Rattle.sql_making.proofs.NewBook.{holds_none}
use Rattle.sql_making.proofs.Parts.{IsFirst}
use Rattle.sql_making.proofs.Whole.{Turns, turn}
use Rattle.sql_making.proofs.MovedCreates.{Creates, HasCreated, creates}
use Rattle.sql_making.proofs.MovedParts.{heads_made_first, seats_made_first, entries_made_first, acts_made_first, heads_copied_first, seats_copied_first, entries_copied_first, entries_emptied_first, seats_emptied_first, heads_emptied_first, version_set_first}
use Rattle.sql_making.proofs.MovedStages as stage
use Rattle.sql_making.proofs.Changes.{IsElsewhere, Fills, Clears}
use Rattle.sql_making.proofs.Tables.{TableRows, table_rows, others_kept}
use Rattle.sql_making.proofs.Steps.{new_head_row, copies_heads, copies_seats, copies_entries, empties_entries, empties_seats, empties_heads}
use Rattle.sql_making.proofs.Version.{sets_version, sets_listed}

-- the tables of version 1, and four that are empty
abbrev start : Trees → TableRows
start db = record (table_rows db) { heads = []; seats = []; entries = []; acts = [] }

-- a head that was read from a row of version 1 is that of the row that was made of it
heads_of : (rows : List Row) → map new_head_row (map old_head_in rows) ≡ map head_row (map old_head_in rows)
heads_of rows = map-map new_head_row old_head_in rows ∙ sym (map-map head_row old_head_in rows)

module _ {S : Type 0} (g : Ghosts S) (new : Held S) where
  -- after a CREATE TABLE
  record Made (schema after : Schema) (rest : List ℕ) (old : Held S) : Type 0 where
    at : Held S
    created : HasCreated schema after (state g old).now (state g at).now
    turns : Turns g new rest at

  make : {text part rest : List ℕ} {schema after : Schema} → Creates schema part after → IsFirst text part rest → (old : Held S) → (state g old).now.schema ≡ schema → Turns g new text old → Made schema after rest old
  make {text} {part} {rest} {schema} {after} it is old has turns =
      let ran = turn g new text part rest old is turns in
      record { at = ran.0; created = creates schema part after it (state g old) (state g ran.0) ran.1 has ran.2.runs; turns = ran.3 }

  -- the text is left to run on a database with these rows in its tables
  record Left (text : List ℕ) (rows : TableRows) : Type 0 where
    at : Held S
    has : (state g at).now.schema ≡ book_schema Moved
    holds : table_rows (state g at).now.trees ≡ rows
    turns : Turns g new text at

  begins : (old : Held S) → (state g old).now.schema ≡ old_schema → Turns g new move_text old → Left after_acts_made (start (state g old).now.trees)
  begins old has turns =
      let one = make stage.heads_made heads_made_first old has turns in
      let two = make stage.seats_made seats_made_first one.at one.created.schema_is one.turns in
      let three = make stage.entries_made entries_made_first two.at two.created.schema_is two.turns in
      let four = make stage.acts_made acts_made_first three.at three.created.schema_is three.turns in
      let a = one.created.others in
      let b = two.created.others in
      let c = three.created.others in
      let d = four.created.others in
      record {
        at = four.at;
        has = four.created.schema_is;
        turns = four.turns;
        holds = rows_start (state g old).now.trees (state g one.at).now.trees (state g two.at).now.trees (state g three.at).now.trees (state g four.at).now.trees a b c d one.created.empty two.created.empty three.created.empty four.created.empty;
      }
    where
      rows_start : (db one two three four : Trees) → AllByRecursion (λ t. one t.tree ≡ db t.tree) old_schema.tables → AllByRecursion (λ t. two t.tree ≡ one t.tree) stage.with_matter.tables
          → AllByRecursion (λ t. three t.tree ≡ two t.tree) stage.with_seat.tables → AllByRecursion (λ t. four t.tree ≡ three t.tree) stage.with_entry.tables → one 13 ≡ [] → two 14 ≡ [] → three 16 ≡ [] → four 18 ≡ [] → table_rows four ≡ start db
      rows_start db one two three four a b c d x y z w =
          λ i. record {
            book = (d.0 ∙ c.0 ∙ b.0 ∙ a.0) i;
            old_heads = (d.1.0 ∙ c.1.0 ∙ b.1.0 ∙ a.1.0) i;
            old_seats = (d.1.1.0 ∙ c.1.1.0 ∙ b.1.1.0 ∙ a.1.1.0) i;
            old_entries = (d.1.1.1.0 ∙ c.1.1.1.0 ∙ b.1.1.1.0 ∙ a.1.1.1.0) i;
            movements = (d.1.1.1.1.0 ∙ c.1.1.1.1.0 ∙ b.1.1.1.1.0 ∙ a.1.1.1.1.0) i;
            counts = (d.1.1.1.1.1.0 ∙ c.1.1.1.1.1.0 ∙ b.1.1.1.1.1.0 ∙ a.1.1.1.1.1.0) i;
            firm_lines = (d.1.1.1.1.1.1.0 ∙ c.1.1.1.1.1.1.0 ∙ b.1.1.1.1.1.1.0 ∙ a.1.1.1.1.1.1.0) i;
            exceptions = (d.1.1.1.1.1.1.1.0 ∙ c.1.1.1.1.1.1.1.0 ∙ b.1.1.1.1.1.1.1.0 ∙ a.1.1.1.1.1.1.1.0) i;
            balances = (d.1.1.1.1.1.1.1.1.0 ∙ c.1.1.1.1.1.1.1.1.0 ∙ b.1.1.1.1.1.1.1.1.0 ∙ a.1.1.1.1.1.1.1.1.0) i;
            heads = (d.1.1.1.1.1.1.1.1.1.0 ∙ c.1.1.1.1.1.1.1.1.1.0 ∙ b.1.1.1.1.1.1.1.1.1.0 ∙ x) i;
            seats = (d.1.1.1.1.1.1.1.1.1.1.0 ∙ c.1.1.1.1.1.1.1.1.1.1.0 ∙ y) i;
            entries = (d.1.1.1.1.1.1.1.1.1.1.1.0 ∙ z) i;
            acts = w i;
          }

  -- one table has other rows after a statement, and what is known of them
  record Next (rest : List ℕ) (rows : TableRows) (put : TableRows → List Row → TableRows) (tree : ℕ) (Does : Trees → Trees → Type 0) : Type 0 where
    from : Trees
    was : table_rows from ≡ rows
    to : Trees
    does : Does from to
    left : Left rest (put rows (to tree))

  next : {text part rest : List ℕ} {rows : TableRows} → IsFirst text part rest → (tree : ℕ) (put : TableRows → List Row → TableRows) → ((a b : Database) → IsElsewhere tree a b → table_rows b.trees ≡ put (table_rows a.trees) (b.trees tree))
      → (Does : Trees → Trees → Type 0) → ((a b : State) (count : ℕ) → a.now.schema ≡ book_schema Moved → ExecutesIn true part [] a b (Ok count) → IsElsewhere tree a.now b.now × Does a.now.trees b.now.trees)
      → Left text rows → Next rest rows put tree Does
  next {text} {part} {rest} {rows} is tree put but Does does l =
      let ran = turn g new text part rest l.at is l.turns in
      let a = state g l.at in
      let b = state g ran.0 in
      let did = does a b ran.1 l.has ran.2.runs in
      record {
        from = a.now.trees;
        was = l.holds;
        to = b.now.trees;
        does = did.1;
        left = record { at = ran.0; has = did.0.schema; holds = but a.now b.now did.0 ∙ ap (λ t. put t (b.now.trees tree)) l.holds; turns = ran.3 };
      }

  -- the last statement leaves a database that lists what it holds
  listed_last : {rows : TableRows} → Left after_heads_emptied rows → IsDatabase (state g new).now
  listed_last l =
      let ran = turn g new after_heads_emptied version_set_part [] l.at version_set_first l.turns in
      subst (λ (x : Held S). IsDatabase (state g x).now) (sym ran.3.1.1) (sets_listed (state g l.at) (state g ran.0) ran.1 l.has ran.2.runs)

  pub is_moved : (old : Held S) → IsOldBook (state g old).now → ExecutesAllInside g 0 move_text old new (Ok tt)
      → IsMoved (state g old).now (state g new).now
  unfolding ExecutesAllInside
  is_moved old book h =
      let db = (state g old).now.trees in
      let last = (state g new).now.trees in
      let a = next heads_copied_first 13 (λ t v. record t { heads = v }) (others_kept 13)
      (Fills (λ (x : Head). x.no) old_head_row new_head_row 1 13) copies_heads (begins old book.schema (length move_text, h)) in
      let b = next seats_copied_first 14 (λ t v. record t { seats = v }) (others_kept 14)
      (Fills (λ (x : Seat). x.id) seat_row seat_row 2 14) copies_seats a.left in
      let c = next entries_copied_first 16 (λ t v. record t { entries = v }) (others_kept 16)
      (Fills (λ (x : Entry). x.id) entry_row entry_row 4 16) copies_entries b.left in
      let d = next entries_emptied_first 4 (λ t v. record t { old_entries = v }) (others_kept 4)
      (Clears (λ (x : Entry). x.id) entry_row 4) empties_entries c.left in
      let e = next seats_emptied_first 2 (λ t v. record t { old_seats = v }) (others_kept 2)
      (Clears (λ (x : Seat). x.id) seat_row 2) empties_seats d.left in
      let f = next heads_emptied_first 1 (λ t v. record t { old_heads = v }) (others_kept 1)
      (Clears (λ (x : Head). x.no) old_head_row 1) empties_heads e.left in
      let k = next version_set_first 0 (λ t v. record t { book = v }) (others_kept 0)
      (λ x y. (id : ℤ) (v : Value) → numbered_versions x ≡ (Int id ∷ v ∷ []) ∷ []
      → map (λ (r : Row). column r 1) (y 0) ≡ Int version_now ∷ []) sets_version f.left in
      let end : new ≡ k.left.at = k.left.turns.1.1 in
      let schema = ap (λ (x : Held S). (state g x).now.schema) end ∙ k.left.has in
      let now = ap (λ (x : Held S). table_rows (state g x).now.trees) end ∙ k.left.holds in
      let version = ap (λ (t : TableRows). map (λ (r : Row). column r 1) t.book) now
      ∙ k.does book.id (Int version_then)
      (ap (λ (t : TableRows). map (λ (r : Row). column r 0 ∷ column r 1 ∷ []) t.book) k.was ∙ book.version) in
      let movements = ap (λ (t : TableRows). t.movements) now in
      let firm_lines = ap (λ (t : TableRows). t.firm_lines) now in
      let exceptions = ap (λ (t : TableRows). t.exceptions) now in
      let balances = ap (λ (t : TableRows). t.balances) now in
      let counts = ap (λ (t : TableRows). t.counts) now in
      let acts : last 18 ≡ [] = ap (λ (t : TableRows). t.acts) now in
      record {
        book = record { schema = schema; version = version };
        listed = listed_last f.left;
        keeps = record {
          movements = movements;
          firm_lines = firm_lines;
          exceptions = exceptions;
          balances = balances;
          counts = counts;
        };
        same = λ s.
            let hs = map old_head_in (db 1) in
            let ss = map seat_in (db 2) in
            let es = map entry_in (db 4) in
            let heads : last 13 ≡ map head_row hs = ap (λ (t : TableRows). t.heads) now
            ∙ a.does hs (ap (λ (t : TableRows). t.old_heads) a.was ∙ s.heads.stored) s.heads.rise (ap (λ (t : TableRows). t.heads) a.was)
            ∙ heads_of (db 1) in
            let seats : last 14 ≡ db 2 = ap (λ (t : TableRows). t.seats) now
            ∙ b.does ss (ap (λ (t : TableRows). t.old_seats) b.was ∙ s.seats.stored) s.seats.rise (ap (λ (t : TableRows). t.seats) b.was)
            ∙ sym s.seats.stored in
            let entries : last 16 ≡ db 4 = ap (λ (t : TableRows). t.entries) now
            ∙ c.does es (ap (λ (t : TableRows). t.old_entries) c.was ∙ s.entries.stored) s.entries.rise (ap (λ (t : TableRows). t.entries) c.was)
            ∙ sym s.entries.stored in
            let heads_read : map head_in (last 13) ≡ hs = now_read head_in (λ _. refl) heads in
            record {
              stands = record {
                schema = schema;
                version = version;
                heads = now_holds (λ _. refl) hs heads s.heads.rise;
                seats = subst SeatsHold (sym seats) s.seats;
                entries = subst EntriesHold (sym entries) s.entries;
                movements = subst MovementsHold (sym movements) s.movements;
                firm_lines = subst FirmLinesHold (sym firm_lines) s.firm_lines;
                exceptions = subst ExceptionsHold (sym exceptions) s.exceptions;
                balances = subst BalancesHold (sym balances) s.balances;
                acts = holds_none act_row act_in (λ (x : Act). x.seq) _ acts;
              };
              lists = λ i. record {
                heads = heads_read i;
                seats = map seat_in (seats i);
                entries = map entry_in (entries i);
                movements = map movement_in (movements i);
                firm_lines = map firm_line_in (firm_lines i);
                exceptions = map exception_in (exceptions i);
                balances = map balance_in (balances i);
                acts = map act_in (acts i);
              };
              seats = seats;
              entries = entries;
              no_old_heads = ap (λ (t : TableRows). t.old_heads) now
                  ∙ f.does hs (ap (λ (t : TableRows). t.old_heads) f.was ∙ s.heads.stored) s.heads.rise;
              no_old_seats = ap (λ (t : TableRows). t.old_seats) now
                  ∙ e.does ss (ap (λ (t : TableRows). t.old_seats) e.was ∙ s.seats.stored) s.seats.rise;
              no_old_entries = ap (λ (t : TableRows). t.old_entries) now
                  ∙ d.does es (ap (λ (t : TableRows). t.old_entries) d.was ∙ s.entries.stored) s.entries.rise;
            };
      }
