-- A change of one table leaves the others standing. Written by tools/book-tables.
use Rattle.std.proofs.Common.{◌≡◌, ◌≢◌, inl, inr, ℕ, ℤ, ◌==◌, true, false, [], ◌∷◌, List, map, cond, refl, sym, ap, subst, ◌∙◌, arith}
use Rattle.std.specs.List.{AllByRecursion}
use Rattle.std.proofs.lemmas.Bool.{cases_Bool}
use Rattle.std.proofs.lemmas.Bool.Decides.{nat_tests}
use Rattle.sqlite_value.specs.declared.value.Value.TheVariants.{Int}
use Rattle.sqlite_value.specs.Order.{Row, column}
use Rattle.sqlite_trees.specs.Tree.{Trees}
use Rattle.sqlite_keyed.specs.Keyed.{IsKeyedBy}
use Rattle.sqlite_keyed.proofs.ListLemmas.{all_weaker, map_back}
use Rattle.sqlite.specs.Effect.{Database, IsDatabase}
use Rattle.sql_schema.specs.declared.layout.Layout.{Layout}
use Rattle.sql_schema.specs.declared.layout.Layout.TheVariants.{Made, Moved}
use Rattle.sql_schema.specs.Schema.{book_schema, version_now, book_tree, sequence_tree, matter_tree, seat_tree, entry_tree, journal_tree, firm_line_tree, exception_tree, balance_tree, act_tree}
use Rattle.sql_tables.specs.Standing.{Holds, Stands, KeepsOthers, Changed, versions_in, HeadsHold, SeatsHold, EntriesHold, MovementsHold, FirmLinesHold, ExceptionsHold, BalancesHold, ActsHold}
use Rattle.sql_tables.specs.Rows.{Head, head_row, head_in, Seat, seat_row, seat_in, Entry, entry_row, entry_in, Movement, movement_row, movement_in, FirmLine, firm_line_row, firm_line_in, Exception, exception_row, exception_in, Balance, balance_row, balance_in, Act, act_row, act_in}
use Rattle.sql_tables.specs.Lists.{Lists, lists_in}
use Rattle.sql_tables.proofs.KindLemmas.{Put}

-- the rows of each table
record Seen : Type 0 where
  pub book : List Row
  pub heads : List Row
  pub seats : List Row
  pub entries : List Row
  pub movements : List Row
  pub firm_lines : List Row
  pub exceptions : List Row
  pub balances : List Row
  pub acts : List Row

abbrev seen : Layout → Trees → Seen
seen l db = record {
  book = db (book_tree l);
  heads = db (matter_tree l);
  seats = db (seat_tree l);
  entries = db (entry_tree l);
  movements = db (journal_tree l);
  firm_lines = db (firm_line_tree l);
  exceptions = db (exception_tree l);
  balances = db (balance_tree l);
  acts = db (act_tree l);
}

abbrev lists_of : Seen → Lists
lists_of s = record {
  heads = map head_in s.heads;
  seats = map seat_in s.seats;
  entries = map entry_in s.entries;
  movements = map movement_in s.movements;
  firm_lines = map firm_line_in s.firm_lines;
  exceptions = map exception_in s.exceptions;
  balances = map balance_in s.balances;
  acts = map act_in s.acts;
}

-- those of each hold the records of its kind
record AreHeld (s : Seen) : Type 0 where
  pub heads : HeadsHold s.heads
  pub seats : SeatsHold s.seats
  pub entries : EntriesHold s.entries
  pub movements : MovementsHold s.movements
  pub firm_lines : FirmLinesHold s.firm_lines
  pub exceptions : ExceptionsHold s.exceptions
  pub balances : BalancesHold s.balances
  pub acts : ActsHold s.acts

-- the tables with the rows of one of them changed
abbrev pub with_rows : Trees → ℕ → List Row → Trees
with_rows db tree rows t = cond (t == tree) rows (db t)

same_table : (t tree : ℕ) → (t == tree) ≡ true → t ≡ tree
same_table t tree is = grind (arith, nat_tests)

other_table : (t tree : ℕ) → (t == tree) ≡ false → t ≢ tree
other_table t tree is = grind (arith, nat_tests)

pub one_kept : (t tree : ℕ) (db next : Trees) → (t ≢ tree → next t ≡ db t) → next t ≡ with_rows db tree (next tree) t
one_kept t tree db next kept = elim (cases_Bool (t == tree)) [
  | inl b ↦ rw b (ap next (same_table t tree b))
  | inr b ↦ rw b (kept (other_table t tree b))
]

each_kept : (l : Layout) (tree : ℕ) (db next : Database) → KeepsOthers l tree db next
    → AllByRecursion (λ t. (t.tree == sequence_tree l) ≡ false
    → next.trees t.tree ≡ with_rows db.trees tree (next.trees tree) t.tree) (book_schema l).tables
each_kept l tree db next o =
    all_weaker _ _ (λ t kept apart. one_kept t.tree tree db.trees next.trees
    (λ other. kept other (other_table t.tree (sequence_tree l) apart))) (book_schema l).tables o

others_kept : (l : Layout) (tree : ℕ) (db next : Database) → KeepsOthers l tree db next
    → seen l next.trees ≡ seen l (with_rows db.trees tree (next.trees tree))
others_kept Made tree db next o = let k = each_kept Made tree db next o in λ i. record {
  book = k.0 refl i;
  heads = k.1.0 refl i;
  seats = k.1.1.0 refl i;
  entries = k.1.1.1.0 refl i;
  movements = k.1.1.1.1.0 refl i;
  firm_lines = k.1.1.1.1.1.1.0 refl i;
  exceptions = k.1.1.1.1.1.1.1.0 refl i;
  balances = k.1.1.1.1.1.1.1.1.0 refl i;
  acts = k.1.1.1.1.1.1.1.1.1.0 refl i;
}
others_kept Moved tree db next o = let k = each_kept Moved tree db next o in λ i. record {
  book = k.0 refl i;
  heads = k.1.1.1.1.1.1.1.1.1.0 refl i;
  seats = k.1.1.1.1.1.1.1.1.1.1.0 refl i;
  entries = k.1.1.1.1.1.1.1.1.1.1.1.0 refl i;
  movements = k.1.1.1.1.0 refl i;
  firm_lines = k.1.1.1.1.1.1.0 refl i;
  exceptions = k.1.1.1.1.1.1.1.0 refl i;
  balances = k.1.1.1.1.1.1.1.1.0 refl i;
  acts = k.1.1.1.1.1.1.1.1.1.1.1.1.0 refl i;
}

-- only the rows of that table are others
rows_put : (l : Layout) (db : Trees) (rows : List Row)
    → (seen l (with_rows db (matter_tree l) rows) ≡ record (seen l db) { heads = rows })
    × (seen l (with_rows db (seat_tree l) rows) ≡ record (seen l db) { seats = rows })
    × (seen l (with_rows db (entry_tree l) rows) ≡ record (seen l db) { entries = rows })
    × (seen l (with_rows db (journal_tree l) rows) ≡ record (seen l db) { movements = rows })
    × (seen l (with_rows db (firm_line_tree l) rows) ≡ record (seen l db) { firm_lines = rows })
    × (seen l (with_rows db (exception_tree l) rows) ≡ record (seen l db) { exceptions = rows })
    × (seen l (with_rows db (balance_tree l) rows) ≡ record (seen l db) { balances = rows })
    × (seen l (with_rows db (act_tree l) rows) ≡ record (seen l db) { acts = rows })
rows_put Made db rows = (refl, refl, refl, refl, refl, refl, refl, refl)
rows_put Moved db rows = (refl, refl, refl, refl, refl, refl, refl, refl)

-- rows that stand for a list, with rising keys
pub now_read : {X : Type 0} {to_row : X → Row} (of_row : Row → X) (back : (x : X) → of_row (to_row x) ≡ x)
    {rows : List Row} {xs : List X} → rows ≡ map to_row xs → map of_row rows ≡ xs
now_read {X} {to_row} of_row back {rows} {xs} is = ap (map of_row) is ∙ map_back to_row of_row back xs

pub now_holds : {X : Type 0} {to_row : X → Row} {of_row : Row → X} {key : X → ℤ} (back : (x : X) → of_row (to_row x) ≡ x)
    {rows : List Row} (xs : List X) → rows ≡ map to_row xs → IsKeyedBy key xs → Holds to_row of_row key rows
now_holds {X} {to_row} {of_row} {key} back {rows} xs is up =
    let read = now_read of_row back is in
    record { stored = is ∙ ap (map to_row) (sym read); rise = subst (IsKeyedBy key) (sym read) up }

-- what is known of a statement that changed one table
abbrev pub IsAlone : {X : Type 0} (l : Layout) (tree : ℕ) (to_row : X → Row) (now : List X) → Lists → Database → Database → Type 0
IsAlone l tree to_row now lists db next = Changed l tree to_row now db next × Stands l next × (lists_in l next.trees ≡ lists) × IsDatabase next

module _ (l : Layout) {db next : Database} (s : Stands l db) where
  -- all stands, if the table that was changed holds what it is to hold
  alone : {X : Type 0} {tree : ℕ} {to_row : X → Row} (of_row : Row → X) {key : X → ℤ} {xs : List X}
      → ((x : X) → of_row (to_row x) ≡ x) → (lists : List X → Lists) → Put l tree to_row key xs db next
      → {now : Seen} → seen l (with_rows db.trees tree (next.trees tree)) ≡ now → now.book ≡ db.trees (book_tree l)
      → lists_of now ≡ lists (map of_row (next.trees tree)) → (Holds to_row of_row key (next.trees tree) → AreHeld now)
      → IsAlone l tree to_row xs (lists xs) db next
  alone {tree = tree} of_row {xs = xs} back lists p {now} put book are held =
      let same = others_kept l tree db next p.changed.others ∙ put in
      let schema = p.changed.schema in
      let version : versions_in l next.trees ≡ Int version_now ∷ [] =
      ap (λ (s : Seen). map (λ (r : Row). column r 1) s.book) same ∙ ap (map (λ (r : Row). column r 1)) book ∙ s.version in
      let held = subst AreHeld (sym same) (held (now_holds back xs p.changed.rows p.rise)) in
      (p.changed, assumption, ap lists_of same ∙ are ∙ ap lists (now_read of_row back p.changed.rows), p.changed.listed)

  pub heads_did : {now : List Head} → Put l (matter_tree l) head_row (λ (x : Head). x.no) now db next
      → IsAlone l (matter_tree l) head_row now (record (lists_in l db.trees) { heads = now }) db next
  heads_did p =
      alone head_in (λ _. refl) (λ xs. record (lists_in l db.trees) { heads = xs }) p
      (rows_put l db.trees (next.trees (matter_tree l))).0 refl refl (λ held. assumption (held, s))

  pub seats_did : {now : List Seat} → Put l (seat_tree l) seat_row (λ (x : Seat). x.id) now db next
      → IsAlone l (seat_tree l) seat_row now (record (lists_in l db.trees) { seats = now }) db next
  seats_did p =
      alone seat_in (λ _. refl) (λ xs. record (lists_in l db.trees) { seats = xs }) p
      (rows_put l db.trees (next.trees (seat_tree l))).1 refl refl (λ held. assumption (held, s))

  pub entries_did : {now : List Entry} → Put l (entry_tree l) entry_row (λ (x : Entry). x.id) now db next
      → IsAlone l (entry_tree l) entry_row now (record (lists_in l db.trees) { entries = now }) db next
  entries_did p =
      alone entry_in (λ _. refl) (λ xs. record (lists_in l db.trees) { entries = xs }) p
      (rows_put l db.trees (next.trees (entry_tree l))).2 refl refl (λ held. assumption (held, s))

  pub movements_did : {now : List Movement} → Put l (journal_tree l) movement_row (λ (x : Movement). x.seq) now db next
      → IsAlone l (journal_tree l) movement_row now (record (lists_in l db.trees) { movements = now }) db next
  movements_did p =
      alone movement_in (λ _. refl) (λ xs. record (lists_in l db.trees) { movements = xs }) p
      (rows_put l db.trees (next.trees (journal_tree l))).3 refl refl (λ held. assumption (held, s))

  pub firm_lines_did : {now : List FirmLine} → Put l (firm_line_tree l) firm_line_row (λ (x : FirmLine). x.seq) now db next
      → IsAlone l (firm_line_tree l) firm_line_row now (record (lists_in l db.trees) { firm_lines = now }) db next
  firm_lines_did p =
      alone firm_line_in (λ _. refl) (λ xs. record (lists_in l db.trees) { firm_lines = xs }) p
      (rows_put l db.trees (next.trees (firm_line_tree l))).4 refl refl (λ held. assumption (held, s))

  pub exceptions_did : {now : List Exception} → Put l (exception_tree l) exception_row (λ (x : Exception). x.id) now db next
      → IsAlone l (exception_tree l) exception_row now (record (lists_in l db.trees) { exceptions = now }) db next
  exceptions_did p =
      alone exception_in (λ _. refl) (λ xs. record (lists_in l db.trees) { exceptions = xs }) p
      (rows_put l db.trees (next.trees (exception_tree l))).5 refl refl (λ held. assumption (held, s))

  pub balances_did : {now : List Balance} → Put l (balance_tree l) balance_row (λ (x : Balance). x.id) now db next
      → IsAlone l (balance_tree l) balance_row now (record (lists_in l db.trees) { balances = now }) db next
  balances_did p =
      alone balance_in (λ _. refl) (λ xs. record (lists_in l db.trees) { balances = xs }) p
      (rows_put l db.trees (next.trees (balance_tree l))).6 refl refl (λ held. assumption (held, s))

  pub acts_did : {now : List Act} → Put l (act_tree l) act_row (λ (x : Act). x.seq) now db next
      → IsAlone l (act_tree l) act_row now (record (lists_in l db.trees) { acts = now }) db next
  acts_did p =
      alone act_in (λ _. refl) (λ xs. record (lists_in l db.trees) { acts = xs }) p
      (rows_put l db.trees (next.trees (act_tree l))).7 refl refl (λ held. assumption (held, s))
