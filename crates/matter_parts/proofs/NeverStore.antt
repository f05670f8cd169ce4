-- Store is never answered for a part of backed rows.
use Rattle.matter_parts.proofs.Names.{◌≡◌, ℕ, Bool, true, List, [], Option, Some, None, ◌⊎◌, arith, length, Entry, passes, names, funds, is_against, is_fee, is_settled, Rows, entry_at, target, fund_no, against_no, AreBacked, Edit, TotalsAfter, AreSmallTotals, EditMoved, NoneMoved, Part, no_figures, IsPart, is_held_or_none, held, Seat}
use Rattle.matter_rows.specs.declared.payment.Fund.{Fund}
use Rattle.matter_rows.specs.declared.claim.Against.{Against}
use Rattle.matter_parts.specs.declared.edit.Edit.TheVariants as edit
use Rattle.matter_parts.proofs.Existence.{IsKeptOrNone, small-figures, small-none, exist-append, exist-exchange, held-kept}
use Rattle.matter_parts.proofs.Editing.{MayEdit, backed-none}
use Rattle.matter_parts.proofs.Moved.{figures-none}

passes-some : (kind : Entry → Bool) (o : Option Entry) → passes kind o ≡ true → (e : Entry) × (o ≡ Some e)
passes-some kind o h = grind (arith)

fund-there : (es : List Entry) (f : Fund) → funds es f ≡ true → (fund_no f ≡ 0) ⊎ ((e : Entry) × (entry_at es (fund_no f) ≡ Some e))
fund-there es f h = grind (arith, passes-some, is_fee, is_settled)

against-there : (es : List Entry) (f : Against) → is_against es f ≡ true → (against_no f ≡ 0) ⊎ ((e : Entry) × (entry_at es (against_no f) ≡ Some e))
against-there es f h = grind (arith, passes-some, is_fee)

target-there : (es : List Entry) (r : Entry) → names es r ≡ true → (target r ≡ 0) ⊎ ((e : Entry) × (entry_at es (target r) ≡ Some e))
unfolding names
target-there es r h = grind (arith, fund-there, against-there)

named-kept : (m : Part) (es : List Entry) (r : Entry) (t : ℕ) → m.figures.entries ≡ length es → names es r ≡ true → is_held_or_none m t ≡ true → (target r ≡ 0) ⊎ (target r ≡ t) → IsKeptOrNone m (target r)
named-kept m es r t few named held h1 = grind (arith, target-there, held-kept)

-- no entry is written
no-entry : (m : Part) (rows : Rows) → AreBacked rows.entries → IsPart m rows → ((v : TotalsAfter) → AreSmallTotals v → NoneMoved m v → ⊥) → ⊥
no-entry m rows s p no-move =
    let small = small-figures m.figures rows.entries p.figures s in
    no-move (record { figures = m.figures; left = 0; other = None })
    (record { figures = small; left = omega arith; other = small-none }) assumption

pub never-store : (m : Part) (rows : Rows) (t n : ℕ) (e : Edit) → AreBacked rows.entries → IsPart m rows → MayEdit rows.entries t n e → is_held_or_none m t ≡ true → is_held_or_none m n ≡ true → ((v : TotalsAfter) → AreSmallTotals v → EditMoved m e v → ⊥) → ⊥
never-store m rows t n edit.Nothing s p may ht hn = no-entry m rows s p
never-store m rows t n (edit.Open o) s p may ht hn = no-entry m rows s p
never-store m rows t n (edit.Seat x) s p may ht hn = no-entry m rows s p
never-store m rows t n (edit.Unseat q) s p may ht hn = no-entry m rows s p
never-store m rows t n (edit.Close d) s p may ht hn = no-entry m rows s p
never-store m rows t n (edit.Purge d) s p may ht hn = λ no-move.
    no-move (record { figures = no_figures; left = 0; other = None })
    (record { figures = small-figures no_figures [] figures-none backed-none; left = omega arith; other = small-none })
    assumption
never-store m rows t n (edit.Append x) s p may ht hn = λ no-move.
    let v = exist-append m rows.entries x p.figures p.kept s may.0 may.1 (named-kept m rows.entries x.entry t p.figures.entries may.1.named ht may.2) in
    no-move v.0 v.1 v.2
never-store m rows t n (edit.Exchange x) s p may ht hn = λ no-move.
    let own = held-kept m rows.entries x.number may.0 p.figures.entries may.1.at (rw may.3 hn) in
    let v = exist-exchange m rows.entries x may.0 own.0 p.figures p.kept s may.1 own.1 (named-kept m rows.entries x.entry t p.figures.entries may.1.named ht may.2) in
    no-move v.0 v.1 v.2
