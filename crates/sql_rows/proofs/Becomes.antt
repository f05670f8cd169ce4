-- What a change of one matter's rows makes of the firm for which the tables stand.
use Rattle.sql_rows.proofs.Names.{◌≡◌, ℕ, ℤ, pos, List, [], ◌++◌, map, find, Option, Some, None, refl, sym, ap, subst, ◌∙◌, AllByRecursion, IsKeyedBy, all_weaker, Head, Entry, Rows, unopened, Sound, Figures, Kept, Part, IsWhole, AreKept, AreNumbered, entries_kept, no_figures, MatterChange, IsChange, changed, edited, head_after, seats_after, of, after_change, kept_movements, joined_movement, with_dismissals, unopened-sound, rows_in, IsKeptAs, AreKeptWhole, put_head, is_head, seats_of, entries_of, Lists, head_columns, AreMeant, HasHeadAt, IsWrittenMovement, IsWrittenDismissal, dismissal_from, firm_from, matters_from, part_from, head_from, figures_from, seat_from, kept_from, movement_from, head_at, ◌∷◌, cond_both, nat_lt, ◌==◌, IsKeptWhole, KeptMatter, sort_by, rows_kept, arith, ints, nat_tests}
use Rattle.matter_parts.specs.declared.edit.Edit.TheVariants as edit
use Rattle.trust_store.proofs.KeptMatters.{change_in, kept-whole, written_firm}
use Rattle.sql_tables.specs.Rows as table
use Rattle.sql_rows.proofs.Acts.{AreActsAfter}
use Rattle.sql_rows.proofs.HeadOrder.{key}
use Rattle.sql_rows.proofs.Heads.{heads_put, rows_at, found_number, part_found, HasDays, written_put_head, has_put_head, still_has_head}
use Rattle.sql_rows.proofs.KeyedRows.{none_of}
use Rattle.sql_rows.proofs.Placed.{EntriesPlaced, SeatsPlaced}
use Rattle.sql_rows.proofs.Seats.{no_seats}

-- The matter before.

-- the totals that are kept with the head, or none
abbrev pub figures_found : Option table.Head → Figures
figures_found None = no_figures
figures_found (Some h) = figures_from h

-- what the tables keep of a matter, whether it has a head or not
abbrev pub part_at : ℕ → Lists → Part
part_at m a = record {
  head = head_at m a;
  seats = map seat_from (seats_of (pos m) a.seats);
  figures = figures_found (find (is_head (pos m)) a.heads);
  kept = map kept_from (entries_of (pos m) a.entries);
}

nothing_whole : IsWhole (record { head = None; seats = []; figures = no_figures; kept = [] }) unopened
nothing_whole = grind (arith, ints, nat_tests)

-- it is whole for the matter's rows
pub whole_at : (a : Lists) (m : ℕ) → IsKeyedBy key a.heads → AreMeant a
    → IsWhole (part_at m a) (rows_in m (matters_from a))
whole_at a m up meant = cases (find (is_head (pos m)) a.heads) refl
  where
    cases : (o : Option table.Head) → find (is_head (pos m)) a.heads ≡ o
        → IsWhole (part_at m a) (rows_in m (matters_from a))
    cases None none =
        let entries : entries_of (pos m) a.entries ≡ [] =
        ap (sort_by table.entry_cmp) (none_of (λ (e : table.Entry). e.matter) a.heads (pos m) a.entries none
        meant.entered) in
        rw (rows_at a m up meant.written.heads, none, no_seats a.heads (pos m) a.seats none meant.seated, entries)
        nothing_whole
    cases (Some h) found =
        rw (found, ← found_number a m h found) (part_found a m h up meant.written.heads meant.matters found)

-- and they are sound
pub sound_in : (m : ℕ) (ks : List KeptMatter) → AllByRecursion IsKeptWhole ks → Sound (rows_in m ks)
sound_in m [] all = unopened-sound
sound_in m (k ∷ ks) all = cond_both (nat_lt k.number m) (rows_in m ks) _ Sound (λ _. sound_in m ks all.1)
    (λ _. cond_both (k.number == m) (rows_kept k.matter) unopened Sound (λ _. all.0.sound) (λ _. unopened-sound))

-- a change of the firm's is one of its rows
pub change_at : (a : Lists) (m : ℕ) (c : MatterChange) → AreMeant a → IsChange (of m (firm_from a)) c
    → IsChange (rows_in m (matters_from a)) c
change_at a m c meant may =
    change_in m (matters_from a) _ _ _ _ _ _ (firm_from a) c meant.matters.ascends refl may

-- The matter after a change of its head and seats.

-- these are kept entries of a matter with these entries
pub record AreEntries (ks : List Kept) (es : List Entry) : Type 0 where
  pub own : AreKept ks es
  pub entries : entries_kept ks ≡ es
  pub numbered : AreNumbered 1 ks

-- none are those of a matter without entries
pub no_entries : AreEntries [] []
no_entries = record { own = λ n k there. absurd (cc); entries = refl; numbered = tt }

-- what is kept of whole rows is that of their entries
pub whole_entries : (part : Part) (rows : Rows) → IsWhole part rows → AreEntries part.kept rows.entries
whole_entries part rows w = record { own = w.part.kept; entries = w.entries; numbered = w.numbered }

-- with the head, the seats and the totals that the change says
pub whole_after : (new : Part) (rows : Rows) (c : MatterChange) → IsChange rows c
    → new.head ≡ head_after rows.head c.edit c.last → new.seats ≡ seats_after rows.seats c.edit
    → new.figures ≡ c.moves.figures
    → AreEntries new.kept (edited rows.entries c.edit) → IsWhole new (changed c rows)
whole_after new rows c may head seats figures are = grind (arith, ints, nat_tests, edited)

-- The rows of the other tables.

-- of other matters the seats and the entries stay; all are written ones, of matters with a head
pub record ArePlaced (m : ℕ) (a : Lists) (seats : List table.Seat) (entries : List table.Entry)
    (movements : List table.Movement) : Type 0 where
  pub seats_placed : SeatsPlaced m a.seats seats
  pub entries_placed : EntriesPlaced m a.entries entries
  pub movements_written : AllByRecursion IsWrittenMovement movements

-- the lists with another head of a matter, and other seats, entries and movements
abbrev pub with_matter : Lists → table.Head → List table.Seat → List table.Entry → List table.Movement → Lists
with_matter a new seats entries movements = record a {
  heads = put_head new a.heads;
  seats = seats;
  entries = entries;
  movements = movements;
}

-- The firm after the steps.

-- what the steps of a change of a matter make of its rows: with the acts after the change they stand for the firm after
-- it, and the exceptions and the acts stay
pub record AreRowsMade (m : ℕ) (c : MatterChange) (a b : Lists) : Type 0 where
  pub firm : (acts : List table.Act) → AreActsAfter m c.act c.edit a.acts acts
      → firm_from (record b { acts = acts }) ≡ after_change m c (firm_from a)
  pub meant : (acts : List table.Act) → AreActsAfter m c.act c.edit a.acts acts → AreMeant (record b { acts = acts })
  pub exceptions : b.exceptions ≡ a.exceptions
  pub acts : b.acts ≡ a.acts

-- the head and the rows behind it are put in
module _ (m : ℕ) (c : MatterChange) (a : Lists) (h : Head) (seats : List table.Seat) (entries : List table.Entry)
    (movements : List table.Movement) where
  abbrev new : table.Head
  new = head_columns m h c.moves.figures

  abbrev end : Lists
  end = with_matter a new seats entries movements

  -- the firm is that after the change, with the acts after it, and its matters are whole
  matter_becomes : IsKeyedBy key a.heads → AreMeant a → IsChange (of m (firm_from a)) c
      → (c.edit ≡ edit.Nothing → ⊥) → ArePlaced m a seats entries movements
      → IsWhole (part_from end new) (changed c (rows_in m (matters_from a)))
      → map movement_from movements
      ≡ kept_movements m c.edit (map movement_from a.movements ++ joined_movement m c.movement)
      → ((acts : List table.Act) → AreActsAfter m c.act c.edit a.acts acts
      → firm_from (record end { acts = acts }) ≡ after_change m c (firm_from a))
      × AreKeptWhole (matters_from end)
  matter_becomes up meant may some placed whole moved =
      let ks = matters_from a in
      let here : IsChange (rows_in m ks) c = change_at a m c meant may in
      let kept : IsKeptAs m (changed c (rows_in m ks)) ks (matters_from end) = record {
        part = part_from end new;
        whole = whole;
        kept = heads_put a end m new up meant.written.heads refl refl (λ x other. λ i. record {
          head = Some (head_from x);
          seats = map seat_from (placed.seats_placed.others x.no other i);
          figures = figures_from x;
          kept = map kept_from (placed.entries_placed.others x.no other i);
        });
      } in (
        (λ acts acted.
            ap (λ (xs : List table.Act). with_dismissals (map dismissal_from xs) (firm_from (record end { acts = acts })))
            acted.dismissed
            ∙ written_firm m c ks (matters_from end) _ _ _ _ _ _ _ _ meant.matters.ascends here kept moved acted.shown
            (firm_from a) some refl),
        kept-whole m (changed c (rows_in m ks)) ks (matters_from end) here.sound kept meant.matters,
      )

  -- tables with these rows and the acts after the change stand for the firm after it, where the matter's rows are those
  -- after it
  pub matter_done : (b : Lists) → b ≡ end → IsKeyedBy key a.heads → AreMeant a → IsChange (of m (firm_from a)) c
      → (c.edit ≡ edit.Nothing → ⊥) → HasDays h → ArePlaced m a seats entries movements
      → IsWhole (part_from end new) (changed c (rows_in m (matters_from a)))
      → map movement_from movements
      ≡ kept_movements m c.edit (map movement_from a.movements ++ joined_movement m c.movement)
      → AreRowsMade m c a b
  matter_done b same up meant may some days placed whole moved =
      let done = matter_becomes up meant may some placed whole moved in
      let here : HasHeadAt end.heads (pos m) = has_put_head new a.heads in
      let still : (k : ℤ) → HasHeadAt a.heads k → HasHeadAt end.heads k = still_has_head new a.heads in
      let rows : (acts : List table.Act) → AreActsAfter m c.act c.edit a.acts acts → AreMeant (record end { acts = acts }) =
      λ acts acted. record {
        written = record {
          heads = written_put_head m h c.moves.figures a.heads days meant.written.heads;
          seats = placed.seats_placed.written;
          entries = placed.entries_placed.written;
          movements = placed.movements_written;
          firm_lines = meant.written.firm_lines;
          exceptions = meant.written.exceptions;
          balances = meant.written.balances;
          acts = acted.written;
          dismissals = subst (AllByRecursion IsWrittenDismissal) (sym acted.dismissed) meant.written.dismissals;
        };
        matters = done.1;
        seated = placed.seats_placed.headed end.heads here
            (all_weaker (λ (s : table.Seat). HasHeadAt a.heads s.matter)
            (λ (s : table.Seat). HasHeadAt end.heads s.matter) (λ s has. still s.matter has) a.seats meant.seated);
        entered = placed.entries_placed.headed end.heads here
            (all_weaker (λ (e : table.Entry). HasHeadAt a.heads e.matter)
            (λ (e : table.Entry). HasHeadAt end.heads e.matter) (λ e has. still e.matter has) a.entries meant.entered);
      } in
      subst (AreRowsMade m c a) (sym same) (record { firm = done.0; meant = rows; exceptions = refl; acts = refl })
