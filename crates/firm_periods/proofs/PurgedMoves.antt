-- A purge changes no list of days on which no purged matter was open.
use Rattle.firm_periods.proofs.Names.{◌≡◌, ℕ, zero, suc, ◌+◌, ◌≤◌, Bool, true, false, cond, List, [], ◌∷◌, ◌++◌, Option, Some, None, refl, sym, ap, ◌∙◌, subst, arith, nat_lt, flat_map, filter, list_any, nat_tests, AllByRecursion, recursion_from_All, filter_passes, all-map, Covered, IsBy, IsHeaded, IsAtRestIfClosed, Sound, days_of, Head, Seat, Entry, Rows, MatterChange, Edit, changed_by, Row, HeadRow, SeatRow, EntryRow, Firm, acted, acts_without, after_change, after_edit, purged_by, with_acts, of, pairs, put, head_pairs, seat_pairs, entry_pairs, FirmSound, IsClosedBy, IsPurge, is_in_transit, is_outstanding, passing, flat_map-append, in_order}
use Rattle.trust_matter.specs.edit.Edit.TheVariants as edit
use Rattle.firm_rows.proofs.Trail.{sound-trail}
use Rattle.firm_rows.proofs.Changed.{of_other-purged_by}
use Rattle.firm_rows.proofs.Kept.{stays-sound}
use Rattle.firm_figures.proofs.ClosedBy.{all-later, apart-left, purged_head-left}
use Rattle.firm_figures.proofs.OpenedAfter.{DoesNotWait, IsLater, apart-waits, opened-later}
use Rattle.firm_figures.specs.Purged.{IsOpenedAfter}
use Rattle.matter_rows.specs.Rows.{closed_on, purged_head}
use Rattle.trust_base.specs.Periods.{Span}
use Rattle.std.proofs.Common.{inl, inr, ◌<◌}
use Rattle.std.proofs.lemmas.Bool.{cases_Bool, false≢true}
use Rattle.std.specs.Prelude.{IsSome, nat_le, ◌⊎◌}
use Rattle.firm_periods.specs.declared.moved.Moved.{Moved}
use Rattle.firm_periods.specs.declared.moved.NamedMove.{NamedMove}
use Rattle.firm_periods.specs.Named.{booking_of, client_in_head, is_disbursed_within, is_day_from, is_earlier, is_purged_within, is_received_within, is_row_purged_within, moves_of, moves_where, named, named_in, own_moved, own_named, row_named, PurgeChangesNoPeriodLeft, PurgeChangesNoWaitingLeft}
use Rattle.firm_periods.proofs.ClientsNamed.{names-own}
use Rattle.std.specs.Prelude.{map, ◌||◌, ◌≢◌}

-- The rows of one matter, where none of its entries is picked.

pub flat-same : {A B : Type 0} (f g : A → List B) (xs : List A) → AllByRecursion (λ x. f x ≡ g x) xs → flat_map f xs ≡ flat_map g xs
flat-same f g [] all = refl
flat-same f g (x ∷ xs) all = λ i. all.0 i ++ flat-same f g xs all.1 i

module _ (pick : Entry → List Moved) (firm : Firm) where
  abbrev lines : List (ℕ × Row) → List NamedMove
  lines xs = flat_map (row_named pick firm) xs

  none-flat : {A B : Type 0} (f : A → List B) → (xs : List A) → xs ≡ [] → flat_map f xs ≡ []
  none-flat f xs is = ap (flat_map f) is

  entries-none : (m n : ℕ) (es : List Entry) → AllByRecursion (λ e. pick e ≡ []) es → lines (entry_pairs m n es) ≡ []
  entries-none m n [] none = refl
  entries-none m n (e ∷ es) none = (λ i. flat_map (named (client_in_head (of m firm).head) m n e) (none.0 i) ++ entries-none m (n + 1) es none.1 i)

  seats-none : (m : ℕ) (ss : List Seat) (rest : List (ℕ × Row)) → lines (seat_pairs m ss ++ rest) ≡ lines rest
  seats-none m [] rest = refl
  seats-none m (s ∷ ss) rest = seats-none m ss rest

  head-none : (m : ℕ) (o : Option Head) (rest : List (ℕ × Row)) → lines (head_pairs m o ++ rest) ≡ lines rest
  head-none m None rest = refl
  head-none m (Some h) rest = refl

  pairs-none : (m : ℕ) (rows : Rows) → AllByRecursion (λ e. pick e ≡ []) rows.entries → lines (pairs m rows) ≡ []
  pairs-none m rows none = head-none m rows.head (seat_pairs m rows.seats ++ entry_pairs m 1 rows.entries) ∙ (seats-none m rows.seats (entry_pairs m 1 rows.entries) ∙ entries-none m 1 rows.entries none)

  -- what is put there says nothing
  put-none : (m : ℕ) (rows : Rows) (xs : List (ℕ × Row)) → AllByRecursion (λ e. pick e ≡ []) rows.entries
      → lines (put m rows xs) ≡ lines (passing (λ x. nat_lt x m) xs) ++ lines (passing (λ x. nat_lt m x) xs)
  put-none m rows xs none =
      flat_map-append (row_named pick firm) (passing (λ x. nat_lt x m) xs) (pairs m rows ++ passing (λ x. nat_lt m x) xs)
      ∙ ap (λ vs. lines (passing (λ x. nat_lt x m) xs) ++ vs)
      (flat_map-append (row_named pick firm) (pairs m rows) (passing (λ x. nat_lt m x) xs) ∙ ap (λ vs. vs ++ lines (passing (λ x. nat_lt m x) xs)) (pairs-none m rows none))

pub passes : (t : ℕ → Bool) (xs : List (ℕ × Row)) → AllByRecursion (λ q. t q.0 ≡ true) (passing t xs)
passes t xs = recursion_from_All _ _ (filter_passes (λ (q : ℕ × Row). t q.0) xs)

pub less-apart : (a b : ℕ) → nat_lt a b ≡ true → a ≢ b
less-apart a b is same = grind (arith, nat_tests)

pub more-apart : (a b : ℕ) → nat_lt b a ≡ true → a ≢ b
more-apart a b is same = grind (arith, nat_tests)

row-same : (pick : Entry → List Moved) (before after : Firm) (q : ℕ × Row) → of q.0 after ≡ of q.0 before → row_named pick after q ≡ row_named pick before q
row-same pick before after (m, HeadRow h) is = refl
row-same pick before after (m, SeatRow s) is = refl
row-same pick before after (m, EntryRow n e) is = ap (λ (r : Rows). flat_map (named (client_in_head r.head) m n e) (pick e)) is

module _ (pick : Entry → List Moved) (m day last : ℕ) (firm : Firm) (sound : FirmSound firm) (sound_after : FirmSound (purged_by m (changed_by (edit.Purge day) last (of m firm)) firm)) (none : AllByRecursion (λ e. pick e ≡ []) (of m firm).entries) where
  abbrev left : Rows
  left = changed_by (edit.Purge day) last (of m firm)

  abbrev after : Firm
  after = purged_by m left firm

  others : (t : ℕ → Bool) → ((a : ℕ) → t a ≡ true → a ≢ m) → flat_map (row_named pick after) (passing t firm.rows) ≡ flat_map (row_named pick firm) (passing t firm.rows)
  others t apart =
      flat-same (row_named pick after) (row_named pick firm) (passing t firm.rows)
      (all-map (λ q. t q.0 ≡ true) (λ q. row_named pick after q ≡ row_named pick firm q) (passing t firm.rows)
      (λ q is. row-same pick firm after q (of_other-purged_by q.0 m left firm (apart q.0 is))) (passes t firm.rows))

  pub same-named : named_in pick None after.rows ≡ named_in pick None firm.rows
  same-named =
      names-own pick after sound_after
      ∙ (put-none pick after m left firm.rows tt
      ∙ ((λ i. others (λ x. nat_lt x m) (λ a is. less-apart a m is) i ++ others (λ x. nat_lt m x) (λ a is. more-apart a m is) i)
      ∙ (sym (put-none pick firm m (of m firm) firm.rows none)
      ∙ (ap (flat_map (row_named pick firm)) (sound.in_order.rows m) ∙ sym (names-own pick firm sound)))))

-- The entries of a matter that was closed by a day.

closed-by-days : (p : ℕ) (rows : Rows) → Sound rows → IsClosedBy p rows.head → AllByRecursion (IsBy p) rows.entries
closed-by-days p rows sound closed = cases rows.head sound.headed closed
  where
    with_day : (h : Head) (c : Option ℕ) → IsAtRestIfClosed h c rows.entries → (day : ℕ) → c ≡ Some day → day ≤ p → AllByRecursion (IsBy p) rows.entries
    with_day h None rest day is le = absurd (cc)
    with_day h (Some close) rest day is le = let same : close ≡ day = cc in all-later p close rows.entries (omega (arith, same, le)) rest.by_close

    cases : (o : Option Head) → IsHeaded o rows.seats rows.entries → IsClosedBy p o → AllByRecursion (IsBy p) rows.entries
    cases None headed closed = absurd (let none = closed.1.0 in (cc))
    cases (Some h) headed closed = with_day h h.closed headed.1 closed.0 closed.1.0 closed.1.1

received-none : (k to : ℕ) (e : Entry) → IsBy k e → filter (is_received_within (suc k) to) (moves_of e) ≡ []
unfolding days_of
received-none k to e is = grind (arith, nat_tests)

disbursed-none : (k to : ℕ) (e : Entry) → IsBy k e → filter (is_disbursed_within (suc k) to) (moves_of e) ≡ []
unfolding days_of
disbursed-none k to e is = grind (arith, nat_tests)

-- nor is anything of an entry that was made after the period
received-later : (from to : ℕ) (e : Entry) → IsLater to e → filter (is_received_within from to) (moves_of e) ≡ []
received-later from to e is = grind (arith, nat_tests, is.made, is.rising)

disbursed-later : (from to : ℕ) (e : Entry) → IsLater to e → filter (is_disbursed_within from to) (moves_of e) ≡ []
disbursed-later from to e is = grind (arith, nat_tests, is.made, is.rising)

-- A purged matter that was not open in a period.

-- it was closed before the period, or opened after it
pub IsApart : Span → Option Head → Type 0
IsApart s o = ((k : ℕ) × ((s.from ≡ suc k) × IsClosedBy k o)) ⊎ IsOpenedAfter s.to o

day-before : (from : ℕ) (c : Option ℕ) → is_day_from from c ≡ false → IsSome c → (k : ℕ) × ((from ≡ suc k) × ((day : ℕ) × ((c ≡ Some day) × (day ≤ k))))
day-before from None late some = absurd (false≢true some)
day-before zero (Some day) late some = absurd (grind (arith, nat_tests))
day-before (suc k) (Some day) late some = (k, (refl, (day, (refl, grind (arith, nat_tests)))))

apart-from : (s : Span) (m day last : ℕ) (o : Option Head) → IsSome (closed_on o)
    → list_any (is_row_purged_within s) (head_pairs m (purged_head o day last)) ≡ false → IsApart s o
unfolding IsApart
apart-from s m day last None closed none = absurd (false≢true closed)
apart-from s m day last (Some h) closed none = elim (cases_Bool (nat_le h.opened s.to)) [
  | inl by ↦ inl (day-before s.from h.closed (before by) closed)
  | inr after ↦ inr (not-by after)
]
  where
    before : nat_le h.opened s.to ≡ true → is_day_from s.from h.closed ≡ false
    before by = let late : (is_day_from s.from h.closed || false) ≡ false = rw by at none in grind (arith, late)

    not-by : nat_le h.opened s.to ≡ false → s.to < h.opened
    not-by is = grind (arith, nat_tests)

pub apart-within : (s : Span) (m : ℕ) (change : MatterChange) (firm : Firm) → IsPurge m firm change
    → is_purged_within s (after_change m change firm) ≡ false → IsApart s (of m firm).head
unfolding is_purged_within
apart-within s m change firm purge whole =
    let left = purged_head-left (is_row_purged_within s) m change firm purge whole in
    apart-from s m purge.day change.last (of m firm).head left.0 left.1

-- what a test lets through of no entry of days by the one before the period, nor of one made after it
pub none-apart : (s : Span) (P : Entry → Type 0) (rows : Rows) → Sound rows → IsApart s rows.head
    → ((k : ℕ) → s.from ≡ suc k → (e : Entry) → IsBy k e → P e) → ((e : Entry) → IsLater s.to e → P e)
    → AllByRecursion P rows.entries
unfolding IsApart
none-apart s P rows sound apart before behind = elim apart [
  | inl closed ↦
      all-map (IsBy closed.0) P rows.entries (before closed.0 closed.1.0) (closed-by-days closed.0 rows sound closed.1.1)
  | inr opened ↦ all-map (IsLater s.to) P rows.entries behind (opened-later s.to rows sound opened)
]

module _ (law : Covered) (m : ℕ) (change : MatterChange) (firm : Firm) (sound : FirmSound firm) (purge : IsPurge m firm change) where
  abbrev made : Firm
  made = purged_by m (changed_by (edit.Purge purge.day) change.last (of m firm)) firm

  same : after_change m change firm ≡ with_acts (acts_without m firm.acts) made
  same = ap (λ (e : Edit). acted m e change.act (after_edit m e change.last firm)) purge.clears

  sound_made : FirmSound made
  sound_made =
      sound-trail firm.acts firm.dismissals (with_acts (acts_without m firm.acts) made)
      (subst FirmSound same (stays-sound law m change firm sound purge.fits))

  named-left : (pick : Entry → List Moved) → AllByRecursion (λ e. pick e ≡ []) (of m firm).entries → named_in pick None (after_change m change firm).rows ≡ named_in pick None firm.rows
  named-left pick none = ap (λ (f : Firm). named_in pick None f.rows) same ∙ same-named pick m purge.day change.last firm sound sound_made none

  own-left : (after_change m change firm).firm_lines ≡ firm.firm_lines
  own-left = ap (λ (f : Firm). f.firm_lines) same

  where-left : (test : Moved → Bool) → AllByRecursion (λ e. filter test (moves_of e) ≡ []) (of m firm).entries → moves_where test (after_change m change firm) ≡ moves_where test firm
  where-left test none = λ i. named-left (λ e. filter test (moves_of e)) none i ++ map own_named (filter (λ l. test (own_moved l)) (own-left i))

pub period-left : Covered → PurgeChangesNoPeriodLeft
period-left law s m change firm sound purge whole =
    let apart = apart-within s m change firm purge whole in
    let rows = of m firm in (
      ap (in_order is_earlier)
          (where-left law m change firm sound purge (is_received_within s.from s.to)
          (none-apart s _ rows (sound.matters m) apart
          (λ k from e is. rw from (received-none k s.to e is)) (received-later s.from s.to))),
      ap (in_order is_earlier)
          (where-left law m change firm sound purge (is_disbursed_within s.from s.to)
          (none-apart s _ rows (sound.matters m) apart
          (λ k from e is. rw from (disbursed-none k s.to e is)) (disbursed-later s.from s.to))),
    )

waits-none : (b : Bool) (vs : List Moved) → b ≡ false → cond b (booking_of vs) [] ≡ []
waits-none b vs is = ap (λ c. cond c (booking_of vs) []) is

pub waiting-left : Covered → PurgeChangesNoWaitingLeft
waiting-left law p m change firm sound purge whole =
    let none = apart-waits p law (of m firm) (sound.matters m) (apart-left p m change firm purge whole) in (
      ap (in_order is_earlier) (named-left law m change firm sound purge (λ e. cond (is_in_transit p e) (booking_of (moves_of e)) []) (all-map (DoesNotWait p) _ (of m firm).entries (λ e u. waits-none (is_in_transit p e) (moves_of e) u.transit) none)),
      ap (in_order is_earlier) (named-left law m change firm sound purge (λ e. cond (is_outstanding p e) (booking_of (moves_of e)) []) (all-map (DoesNotWait p) _ (of m firm).entries (λ e u. waits-none (is_outstanding p e) (moves_of e) u.out) none)),
    )
