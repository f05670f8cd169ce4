-- What a part of rows is decided on is what the rows are.
use Rattle.matter_parts.proofs.Names.{zero, suc, ◌≡◌, ℕ, ◌==◌, ◌||◌, ltb, true, List, [], ◌∷◌, length, refl, sym, arith, Some, None, pos, is_some, nat_tests, Entry, left_of, left_in, entry_at, none-past, Kept, kept_in, IsEntryOf, AreKept, entry_in, left_kept}

-- no entry has number 0
none-zero : (es : List Entry) → entry_at es 0 ≡ None
none-zero [] = refl
none-zero (e ∷ es) = none-zero es

-- an entry that is held is that of the rows, with what is left of it
pub held-entry : (ks : List Kept) (count n : ℕ) (es : List Entry) → AreKept ks es → count ≡ length es → (n == 0 || (is_some (kept_in ks n) || ltb count n)) ≡ true → (entry_in (kept_in ks n) ≡ entry_at es n) × (left_kept (kept_in ks n) ≡ left_in es n (entry_at es n))
held-entry ks count n es kept few h =
    let kept-n : (k : Kept) → kept_in ks n ≡ Some k → IsEntryOf es n k = kept n in
    elim (kept_in ks n) as (λ o. ((k : Kept) → o ≡ Some k → IsEntryOf es n k) → (n == 0 || (is_some o || ltb count n)) ≡ true → (entry_in o ≡ entry_at es n) × (left_kept o ≡ left_in es n (entry_at es n))) [
      | None ↦ λ q g.
          let gone : entry_at es n ≡ None =
          elim n as (λ m. (m == 0 || ltb count m) ≡ true → entry_at es m ≡ None) [
            | zero ↦ λ _. none-zero es
            | suc m ↦ λ t. none-past es (suc m) (grind (arith, nat_tests))
          ] g in
          (sym gone, rw gone refl)
      | Some k ↦ λ q g.
          let is = q k refl in
          let at : entry_at es n ≡ Some k.entry = is.there in
          let rest : pos k.left ≡ left_of es n k.entry = is.left in
          (sym at, rw at rest)
    ] kept-n h
