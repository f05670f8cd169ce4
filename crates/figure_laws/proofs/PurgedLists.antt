-- Purging changes none of the lists of entries as of a day that is not before the close.
use Rattle.figure_laws.proofs.Names.{◌≡◌, ℕ, ◌+◌, Bool, false, List, [], ◌∷◌, ◌++◌, Option, Some, None, refl, sym, ap, ◌∙◌, subst, nat_lt, AllByRecursion, filter, flat_map, flat_map-append, Head, Seat, Entry, Rows, Sound, Covered, EntryLine, Row, HeadRow, SeatRow, EntryRow, Firm, of, pairs, head_pairs, seat_pairs, entry_pairs, put, FirmSound, booked_on, is_in_transit, is_outstanding, line_where, early_lines, Edit, changed_by, purged_by, with_acts, acts_without, acted, after_change, after_edit, IsClear, IsClosedBy, AreListsLeft, PurgeChangesNoList}
use Rattle.trust_matter.specs.edit.Edit.TheVariants as edit
use Rattle.firm_figures.proofs.ClosedBy.{IsUnlisted, closed-unlisted}

-- A list of lines of rows, where those of one matter have none.
module _ (lines_in : ℕ × Row → List EntryLine) (head-none : (m : ℕ) (h : Head) → lines_in (m, HeadRow h) ≡ []) (seat-none : (m : ℕ) (t : Seat) → lines_in (m, SeatRow t) ≡ []) (IsLeftOut : Entry → Type 0) (entry-none : (m n : ℕ) (e : Entry) → IsLeftOut e → lines_in (m, EntryRow n e) ≡ []) where
  abbrev lines : List (ℕ × Row) → List EntryLine
  lines xs = flat_map lines_in xs

  head-lines : (m : ℕ) (o : Option Head) → lines (head_pairs m o) ≡ []
  head-lines m None = refl
  head-lines m (Some h) = rw (head-none m h) refl

  seat-lines : (m : ℕ) (ss : List Seat) → lines (seat_pairs m ss) ≡ []
  seat-lines m [] = refl
  seat-lines m (t ∷ ss) = rw (seat-none m t) (seat-lines m ss)

  entry-lines : (m n : ℕ) (es : List Entry) → AllByRecursion IsLeftOut es → lines (entry_pairs m n es) ≡ []
  entry-lines m n [] none = refl
  entry-lines m n (e ∷ es) none = rw (entry-none m n e none.0) (entry-lines m (n + 1) es none.1)

  own-lines : (m : ℕ) (rows : Rows) → AllByRecursion IsLeftOut rows.entries → lines (pairs m rows) ≡ []
  own-lines m rows none =
      flat_map-append lines_in (head_pairs m rows.head) (seat_pairs m rows.seats ++ entry_pairs m 1 rows.entries)
      ∙ (λ i. head-lines m rows.head i ++ (flat_map-append lines_in (seat_pairs m rows.seats) (entry_pairs m 1 rows.entries) ∙ (λ j. seat-lines m rows.seats j ++ entry-lines m 1 rows.entries none j)) i)

  put-lines : (m : ℕ) (rows : Rows) (joined : List (ℕ × Row)) → AllByRecursion IsLeftOut rows.entries → lines (put m rows joined) ≡ lines (filter (λ p. nat_lt p.0 m) joined) ++ lines (filter (λ p. nat_lt m p.0) joined)
  put-lines m rows joined none =
      flat_map-append lines_in (filter (λ p. nat_lt p.0 m) joined) (pairs m rows ++ filter (λ p. nat_lt m p.0) joined)
      ∙ ap (λ ys. lines (filter (λ p. nat_lt p.0 m) joined) ++ ys) (flat_map-append lines_in (pairs m rows) (filter (λ p. nat_lt m p.0) joined) ∙ ap (λ ys. ys ++ lines (filter (λ p. nat_lt m p.0) joined)) (own-lines m rows none))

  same-lines : (m : ℕ) (rows : Rows) (firm : Firm) → FirmSound firm → rows.entries ≡ [] → AllByRecursion IsLeftOut (of m firm).entries → lines (put m rows firm.rows) ≡ lines firm.rows
  same-lines m rows firm sound empty none =
      put-lines m rows firm.rows (rw empty tt)
      ∙ (sym (put-lines m (of m firm) firm.rows none) ∙ ap lines (sound.in_order.rows m))

waiting-none : (p : ℕ) (test : Entry → Bool) (m n : ℕ) (e : Entry) → test e ≡ false → line_where test booked_on (m, EntryRow n e) ≡ []
waiting-none p test m n e is = rw is refl

early-none : (p m n : ℕ) (e : Entry) → IsUnlisted p e → early_lines p (m, EntryRow n e) ≡ []
early-none p m n e is = rw (is.early, is.back) refl

clear-changes-no_list : Covered → (p m : ℕ) (rows : Rows) (firm : Firm) → FirmSound firm → IsClosedBy p (of m firm).head → IsClear rows → AreListsLeft p firm (purged_by m rows firm)
clear-changes-no_list law p m rows firm sound closed is =
    let none = closed-unlisted p law (of m firm) (sound.matters m) closed in
    record {
      transit = same-lines (line_where (is_in_transit p) booked_on) (λ k h. refl) (λ k t. refl) (IsUnlisted p) (λ k n e u. waiting-none p (is_in_transit p) k n e u.transit) m rows firm sound is.none none;
      out = same-lines (line_where (is_outstanding p) booked_on) (λ k h. refl) (λ k t. refl) (IsUnlisted p) (λ k n e u. waiting-none p (is_outstanding p) k n e u.out) m rows firm sound is.none none;
      early = same-lines (early_lines p) (λ k h. refl) (λ k t. refl) (IsUnlisted p) (λ k n e u. early-none p k n e u) m rows firm sound is.none none;
      exceptions = refl;
    }

pub purge-changes-no_list : Covered → PurgeChangesNoList
purge-changes-no_list law p m change firm sound closed purge =
    let left : Rows = changed_by (edit.Purge purge.day) change.last (of m firm) in
    let same : after_change m change firm ≡ with_acts (acts_without m firm.acts) (purged_by m left firm) =
    ap (λ (e : Edit). acted m e change.act (after_edit m e change.last firm)) purge.clears in
    let clear : IsClear left = record { none = refl; sound = subst (λ (e : Edit). Sound (changed_by e change.last (of m firm))) purge.clears purge.fits.sound } in
    let kept = clear-changes-no_list law p m left firm sound closed clear in
    subst (AreListsLeft p firm) (sym same)
    (record { transit = kept.transit; out = kept.out; early = kept.early; exceptions = kept.exceptions })
