-- A matter that was closed by a day stands on none of that day's lists; and when a purged one was closed.
use Rattle.firm_figures.proofs.Names.{◌≡◌, ℕ, ◌≤◌, Bool, false, List, [], ◌∷◌, Option, Some, None, ap, subst, arith, pos, ◌≤ℤ◌, ◌||◌, nat_lt, AllByRecursion, IsSome, filter, list_any, ints, nat_tests, Head, Entry, Rows, purged_head, closed_on, held_share, pending_share, held_deposit, held, pending, days_of, IsBy, IsRanged, IsHeaded, IsAtRest, IsAtRestIfClosed, Sound, Covered, Row, Firm, of, head_pairs, seat_pairs, entry_pairs, pairs, put, is_in_transit, is_outstanding, is_banked_early, is_back_early, Edit, IsPlace, MatterChange, changed_by, purged_by, with_acts, acts_without, acted, after_change, after_edit, IsClosedBy, IsOpenedAfter, IsPurge, is_day_after, is_period_purged, is_purged_after, is_purged_at, is_row_purged_at, inl, inr, refl, ◌<◌, ◌⊎◌, nat_le, cases_Bool}
use Rattle.std.proofs.lemmas.Bool.{false≢true}
use Rattle.std.proofs.lemmas.List.Folds.{list_any-append}
use Rattle.trust_matter.specs.edit.Edit.TheVariants as edit

-- What is held, and what waits, is never below zero.

held-least : (e : Entry) → pos 0 ≤ℤ held_share e
unfolding held_share
held-least e = grind (arith, ints, held_deposit)

all-held-least : (es : List Entry) → pos 0 ≤ℤ held es
all-held-least [] = omega (arith, ints)
all-held-least (e ∷ es) = omega (arith, ints, held-least e, all-held-least es)

pub pending-least : (e : Entry) → pos 0 ≤ℤ pending_share e
unfolding pending_share
pending-least e = grind (arith, ints, nat_tests)

pub all-pending-least : (es : List Entry) → pos 0 ≤ℤ pending es
all-pending-least [] = omega (arith, ints)
all-pending-least (e ∷ es) = omega (arith, ints, pending-least e, all-pending-least es)

-- The entries of a matter that was closed by the day.
module _ (p : ℕ) where
  by-later : (day : ℕ) (ds : List ℕ) → day ≤ p → AllByRecursion (λ d. d ≤ day) ds → AllByRecursion (λ d. d ≤ p) ds
  by-later day [] le all = tt
  by-later day (d ∷ ds) le all = (omega (arith, le, all.0), by-later day ds le all.1)

  pub all-later : (day : ℕ) (es : List Entry) → day ≤ p → AllByRecursion (IsBy day) es → AllByRecursion (IsBy p) es
  all-later day [] le all = tt
  all-later day (e ∷ es) le all = (by-later day (days_of e) le all.0, all-later day es le all.1)

  pub record IsUnlisted (e : Entry) : Type 0 where
    pub transit : is_in_transit p e ≡ false
    pub out : is_outstanding p e ≡ false
    pub early : is_banked_early p e ≡ false
    pub back : is_back_early p e ≡ false

  unlisted : (e : Entry) → IsBy p e → IsRanged e → held_share e ≡ pos 0 → pending_share e ≡ pos 0 → IsUnlisted e
  unfolding held_share days_of pending_share
  unlisted e days ranged held_none none = grind (arith, ints, nat_tests)

  all-unlisted : (es : List Entry) → AllByRecursion (IsBy p) es → AllByRecursion IsRanged es → held es ≡ pos 0 → pending es ≡ pos 0 → AllByRecursion IsUnlisted es
  all-unlisted [] days ranged held_none none = tt
  all-unlisted (e ∷ es) days ranged held_none none =
      let h : held_share e ≡ pos 0 = omega (arith, ints, held_none, held-least e, all-held-least es) in
      let hs : held es ≡ pos 0 = omega (arith, ints, held_none, held-least e, all-held-least es) in
      let q : pending_share e ≡ pos 0 = omega (arith, ints, none, pending-least e, all-pending-least es) in
      let qs : pending es ≡ pos 0 = omega (arith, ints, none, pending-least e, all-pending-least es) in
      (unlisted e days.0 ranged.0 h q, all-unlisted es days.1 ranged.1 hs qs)

  pub closed-unlisted : Covered → (rows : Rows) → Sound rows → IsClosedBy p rows.head → AllByRecursion IsUnlisted rows.entries
  closed-unlisted law rows sound closed = cases rows.head sound.headed closed
    where
      at-rest : (h : Head) (day : ℕ) → IsAtRest h day rows.entries → day ≤ p → AllByRecursion IsUnlisted rows.entries
      at-rest h day rest le =
          let least = law rows.entries sound.backed in
          let empty = rest.empty in
          all-unlisted rows.entries (all-later day rows.entries le rest.by_close) sound.backed.ranged (omega (arith, ints, empty, least.held, least.total)) rest.none_waits

      with_day : (h : Head) (c : Option ℕ) → IsAtRestIfClosed h c rows.entries → (day : ℕ) → c ≡ Some day → day ≤ p → AllByRecursion IsUnlisted rows.entries
      with_day h None rest day is le = absurd (cc)
      with_day h (Some close) rest day is le = let same : close ≡ day = cc in at-rest h close rest (omega (arith, same, le))

      cases : (o : Option Head) → IsHeaded o rows.seats rows.entries → IsClosedBy p o → AllByRecursion IsUnlisted rows.entries
      cases None headed closed = absurd (let none = closed.1.0 in (cc))
      cases (Some h) headed closed = with_day h h.closed headed.1 closed.0 closed.1.0 closed.1.1

-- When a purged matter was closed.

or-first : (a b : Bool) → (a || b) ≡ false → a ≡ false
or-first a b is = grind arith

or-second : (a b : Bool) → (a || b) ≡ false → b ≡ false
or-second a b is = grind arith

-- of the rows that are put, too, none passes
none-put : (t : ℕ × Row → Bool) (m : ℕ) (rows : Rows) (joined : List (ℕ × Row)) → list_any t (put m rows joined) ≡ false → list_any t (head_pairs m rows.head) ≡ false
none-put t m rows joined none =
    grind (arith, nat_tests, filter, nat_lt, seat_pairs, entry_pairs, or-second, pairs, list_any-append, or-first)

-- a matter that is no such one once it is purged was closed by the day
closed-by : (p m day last : ℕ) (o : Option Head) → IsSome (closed_on o) → list_any (is_purged_after p) (head_pairs m (purged_head o day last)) ≡ false → IsClosedBy p o
closed-by p m day last o closed none = grind (arith, nat_tests, false≢true, is_day_after, or-first, nat_lt)

-- where no head of the firm passes a test after a purge, that of the purged matter does not
pub purged_head-left : (t : ℕ × Row → Bool) (m : ℕ) (change : MatterChange) (firm : Firm) (purge : IsPurge m firm change)
    → list_any t (after_change m change firm).rows ≡ false
    → IsSome (closed_on (of m firm).head)
    × (list_any t (head_pairs m (purged_head (of m firm).head purge.day change.last)) ≡ false)
purged_head-left t m change firm purge whole =
    let left : Rows = changed_by (edit.Purge purge.day) change.last (of m firm) in
    let same : after_change m change firm ≡ with_acts (acts_without m firm.acts) (purged_by m left firm) =
    ap (λ (e : Edit). acted m e change.act (after_edit m e change.last firm)) purge.clears in
    let none : list_any t (put m left firm.rows) ≡ false = subst (λ (f : Firm). list_any t f.rows ≡ false) same whole in
    let place : IsPlace (of m firm) (edit.Purge purge.day) = subst (IsPlace (of m firm)) purge.clears purge.fits.place in
    (place.0, none-put t m left firm.rows none)

-- after a purge no matter that was closed after the day is purged, and so not this one
pub closed-left : (p m : ℕ) (change : MatterChange) (firm : Firm) → IsPurge m firm change → is_period_purged p (after_change m change firm) ≡ false → IsClosedBy p (of m firm).head
unfolding is_period_purged
closed-left p m change firm purge whole =
    let left = purged_head-left (is_purged_after p) m change firm purge whole in
    closed-by p m purge.day change.last (of m firm).head left.0 left.1

-- a purged matter that was not open as of the day was closed by it, or opened after it
apart-by : (p m day last : ℕ) (o : Option Head) → IsSome (closed_on o)
    → list_any (is_row_purged_at p) (head_pairs m (purged_head o day last)) ≡ false
    → IsClosedBy p o ⊎ IsOpenedAfter p o
apart-by p m day last None closed none = absurd (false≢true closed)
apart-by p m day last (Some h) closed none = elim (cases_Bool (nat_le h.opened p)) [
  | inl by ↦ inl (closed-by p m day last (Some h) closed (rw by at none))
  | inr after ↦ inr (not-by after)
]
  where
    not-by : nat_le h.opened p ≡ false → p < h.opened
    not-by is = grind (arith, nat_tests)

pub apart-left : (p m : ℕ) (change : MatterChange) (firm : Firm) → IsPurge m firm change
    → is_purged_at p (after_change m change firm) ≡ false
    → IsClosedBy p (of m firm).head ⊎ IsOpenedAfter p (of m firm).head
unfolding is_purged_at
apart-left p m change firm purge whole =
    let left = purged_head-left (is_row_purged_at p) m change firm purge whole in
    apart-by p m purge.day change.last (of m firm).head left.0 left.1
