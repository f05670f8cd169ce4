-- A matter that was opened after a day had moved nothing by it, and nothing of it waited then.
use Rattle.firm_figures.proofs.Names.{◌≡◌, ℕ, ◌<◌, ◌≤◌, ◌⊎◌, false, List, [], ◌∷◌, Option, Some, None, inl, inr, refl, arith, pos, AllByRecursion, ints, nat_tests, Head, Entry, Rows, events_of, IsHeaded, Sound, Covered, sum_of, is_in_transit, is_outstanding, IsClosedBy, IsOpenedAfter}
use Rattle.std.proofs.Common.{map}
use Rattle.matter_rows.specs.Rows.{book_day}
use Rattle.matter_rows.specs.Sound.{AreRising, IsRising}
use Rattle.firm_figures.proofs.Shares.{ledger_by}
use Rattle.firm_figures.proofs.ClosedBy.{IsUnlisted, closed-unlisted}

module _ (p : ℕ) where
  -- the entry was made after the day, and each change of it came later
  pub record IsLater (e : Entry) : Type 0 where
    pub made : p < book_day e
    pub rising : IsRising e

  all-later : (from : ℕ) (es : List Entry) → p < from → AreRising from (map book_day es) → AllByRecursion IsRising es
      → AllByRecursion IsLater es
  all-later from [] after made rising = tt
  all-later from (e ∷ es) after made rising =
      let later : p < book_day e = omega (arith, made.0) in
      (record { made = later; rising = rising.0 }, all-later (book_day e) es later made.1 rising.1)

  pub opened-later : (rows : Rows) → Sound rows → IsOpenedAfter p rows.head → AllByRecursion IsLater rows.entries
  opened-later rows sound opened = cases rows.head sound.headed opened
    where
      cases : (o : Option Head) → IsHeaded o rows.seats rows.entries → IsOpenedAfter p o → AllByRecursion IsLater rows.entries
      cases None headed opened = absurd opened
      cases (Some h) headed opened = all-later h.opened rows.entries opened headed.0.made headed.0.changed

  -- on none of the lists of what waits as of the day
  pub record DoesNotWait (e : Entry) : Type 0 where
    pub transit : is_in_transit p e ≡ false
    pub out : is_outstanding p e ≡ false

  later-waits : (e : Entry) → IsLater e → DoesNotWait e
  later-waits e later = grind (arith, nat_tests, later.made, later.rising)

  later-moves : (e : Entry) → IsLater e → ledger_by p e ≡ pos 0
  unfolding events_of
  later-moves e later = grind (arith, ints, nat_tests, later.made, later.rising)

  pub moves-none : (es : List Entry) → AllByRecursion IsLater es → sum_of (ledger_by p) es ≡ pos 0
  moves-none [] all = refl
  moves-none (e ∷ es) all = omega (arith, ints, later-moves e all.0, moves-none es all.1)

  all-wait-not : {P : Entry → Type 0} (es : List Entry) → ((e : Entry) → P e → DoesNotWait e) → AllByRecursion P es
      → AllByRecursion DoesNotWait es
  all-wait-not [] each all = tt
  all-wait-not (e ∷ es) each all = (each e all.0, all-wait-not es each all.1)

  -- either way, of a matter that was not open as of the day nothing waits
  pub apart-waits : Covered → (rows : Rows) → Sound rows → IsClosedBy p rows.head ⊎ IsOpenedAfter p rows.head
      → AllByRecursion DoesNotWait rows.entries
  apart-waits law rows sound apart = elim apart [
    | inl closed ↦
        all-wait-not {P = IsUnlisted p} rows.entries (λ e u. record { transit = u.transit; out = u.out })
        (closed-unlisted p law rows sound closed)
    | inr opened ↦ all-wait-not {P = IsLater} rows.entries later-waits (opened-later rows sound opened)
  ]
