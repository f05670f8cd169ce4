-- A matter that is made of whole rows, entry by entry.
use Rattle.matter_rows.proofs.Names.{zero, suc, ◌≡◌, ℕ, ◌+◌, ◌<◌, List, [], ◌∷◌, length, get_or, refl, ap, sym, ◌∙◌, arith, Some, eqb, nat_tests, Entry, entry_at}

-- entry i + 1 is that of place i
pub entry-at : (es : List Entry) (i : ℕ) (d : Entry) → i < length es → entry_at es (i + 1) ≡ Some (get_or es i d)
entry-at [] i d inside = absurd (omega arith)
entry-at (x ∷ es) zero d inside = refl
entry-at (x ∷ es) (suc i) d inside = grind (arith, nat_tests, eqb, (entry-at es i d))

pub entry-at-place : (es : List Entry) (i : ℕ) (e : Entry) → i < length es → e ≡ get_or es i e → entry_at es (i + 1) ≡ Some e
entry-at-place es i e inside at = entry-at es i e inside ∙ ap Some (sym at)
