-- What holds of each matter, and of the firm's own money, holds of all together.
use Rattle.firm_rows.proofs.Names.{◌≡◌, ℕ, zero, suc, Bool, true, false, cond, List, [], ◌∷◌, map, take, refl, sym, ap, ◌∙◌, subst, arith, ℤ, pos, ◌+ℤ◌, ◌≤ℤ◌, filter, ints, Entry, ledger, Event, Covered, Movement, FirmLine, sum_of, Row, of, event_of, line_event, is_of_firm, firm_events, ledger_share, row_share, SoundIsSolvent}
use Rattle.firm_rows.proofs.Sums.{sum-least, sum-same}
use Rattle.firm_rows.proofs.Told.{share-events}
use Rattle.firm_rows.proofs.Agree.{of_row, rows-entries, events_share, split, of_matters, matter_of, matter-at, own-part, own-lines, agree}
use Rattle.firm_rows.proofs.Kept.{ledger-least}

-- The joined rows.

pub shares-ledger : (es : List Entry) → sum_of ledger_share es ≡ ledger es
shares-ledger [] = refl
shares-ledger (e ∷ es) = omega (arith, ints, shares-ledger es)

pub row-share : (r : Row) → of_row ledger_share r ≡ row_share r
row-share r = grind (arith, ints)

amount : Event → ℤ
amount e = e.amount

row-events : (r : Row) → of_row (events_share amount) r ≡ row_share r
unfolding amount
row-events r = grind (arith, ints, share-events)

-- The firm's own movements.

-- those up to a place are the lines up to one
firm-take : (k : ℕ) (vs : List Movement) (ls : List FirmLine) → firm_events vs ≡ map line_event ls → (j : ℕ) × (firm_events (take k vs) ≡ map line_event (take j ls))
firm-take zero vs ls is = (0, refl)
firm-take (suc k) [] ls is = (0, refl)
firm-take (suc k) (v ∷ vs) ls is = cases (is_of_firm v.owner) (firm-take k vs) ls is
  where
    cases : (b : Bool) → ((ls : List FirmLine) → firm_events vs ≡ map line_event ls → (j : ℕ) × (firm_events (take k vs) ≡ map line_event (take j ls))) → (ls : List FirmLine) → map event_of (cond b (v ∷ filter (λ v. is_of_firm v.owner) vs) (filter (λ v. is_of_firm v.owner) vs)) ≡ map line_event ls → (j : ℕ) × (map event_of (cond b (v ∷ filter (λ v. is_of_firm v.owner) (take k vs)) (filter (λ v. is_of_firm v.owner) (take k vs))) ≡ map line_event (take j ls))
    cases true more [] is = absurd (cc)
    cases true more (l ∷ ls) is =
        let again = more ls (cc) in
        let here : event_of v ≡ line_event l = cc in
        (suc again.0, λ i. here i ∷ again.1 i)
    cases false more ls is = more ls is

-- All together.

pub sound-solvent : Covered → SoundIsSolvent
unfolding amount
sound-solvent law firm sound =
    record {
      ledgers = subst (λ z. pos 0 ≤ℤ z) (sum-same (λ (p : ℕ × Row). of_row ledger_share p.1) (λ (p : ℕ × Row). row_share p.1) firm.rows (λ p. row-share p.1)) (sum-least (λ p. p.0) (λ p. of_row ledger_share p.1) firm.rows (λ m. subst (λ z. pos 0 ≤ℤ z) (sym (rows-entries ledger_share m firm.rows ∙ shares-ledger (of m firm).entries)) (ledger-least law (of m firm) (sound.matters m))));
      journal = λ k.
          let matters = sum-least (λ v. matter_of amount v.owner) (of_matters amount) (take k firm.movements) (λ m. subst (λ z. pos 0 ≤ℤ z) (sym (matter-at amount m (take k firm.movements))) (sound.covered m k)) in
          let part = firm-take k firm.movements firm.firm_lines sound.own in
          let own = own-part amount (take k firm.movements) ∙ (ap (sum_of amount) part.1 ∙ own-lines amount (take part.0 firm.firm_lines)) in
          omega (arith, ints, split amount (take k firm.movements), matters, own, (sound.within part.0).0);
      agree = agree amount firm sound ∙ ap (λ z. z +ℤ sum_of (λ l. amount (line_event l)) firm.firm_lines) (sum-same (λ (p : ℕ × Row). of_row (events_share amount) p.1) (λ (p : ℕ × Row). row_share p.1) firm.rows (λ p. row-events p.1));
    }
