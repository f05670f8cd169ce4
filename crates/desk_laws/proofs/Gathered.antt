-- What is gathered from a firm's rows, where an entry of a matter stands in the place of another.
use Rattle.desk_laws.proofs.Names.{◌≡◌, subst, ℕ, ◌+◌, ◌-◌, true, false, cond, List, [], ◌∷◌, ◌++◌, Option, Some, refl, arith, eqb, nat_lt, filter, flat_map, eqb-true, Head, Entry, Rows, entry_at, seen_on, with_entry, within, changed_by, EntryRow, HeadRow, Row, entry_pairs, head_pairs, pairs, put, ints, nat_tests}
use Rattle.std.proofs.lemmas.Grind.{flat_map-append}
use Rattle.matter_parts.specs.declared.edit.Edit.TheVariants as edit

-- a relation of what is gathered that each list has to itself, and that goes on behind each other
module _ {B : Type 0} (f : ℕ × Row → List B) (R : List B → List B → Type 0) (same : (xs : List B) → R xs xs) (both : (a b c d : List B) → R a b → R c d → R (a ++ c) (b ++ d)) where
  abbrev Gathered : List (ℕ × Row) → List (ℕ × Row) → Type 0
  Gathered xs ys = R (flat_map f xs) (flat_map f ys)

  joined_gathered : (a b c d : List (ℕ × Row)) → Gathered a b → Gathered c d → Gathered (a ++ c) (b ++ d)
  joined_gathered a b c d first second = grind (arith, ints, nat_tests, flat_map, flat_map-append)

  entries_gathered : (m first n number : ℕ) (es : List Entry) (old new : Entry) → entry_at es n ≡ Some old
      → number + 1 ≡ first + n → R (f (m, EntryRow number new)) (f (m, EntryRow number old))
      → Gathered (entry_pairs m first (with_entry es n new)) (entry_pairs m first es)
  entries_gathered m first n number [] old new at place one = absurd (cc)
  entries_gathered m first n number (x ∷ es) old new at place one =
      let low = (within (x ∷ es) n old at).0 in
      elim (eqb n 1) as (λ b. eqb n 1 ≡ b → cond b (Some x) (entry_at es (n - 1)) ≡ Some old
      → Gathered (entry_pairs m first (cond b (new ∷ es) (x ∷ with_entry es (n - 1) new)))
      (entry_pairs m first (x ∷ es))) [
        | true ↦ λ test is.
            let first_one = eqb-true n 1 test in
            let made : old ≡ x = cc in
            let number_is : number ≡ first = omega (arith, place, first_one) in
            let here : R (f (m, EntryRow first new)) (f (m, EntryRow first x)) =
            subst (λ (k : ℕ). R (f (m, EntryRow k new)) (f (m, EntryRow k x))) number_is
            (subst (λ (e : Entry). R (f (m, EntryRow number new)) (f (m, EntryRow number e))) made one) in
            let rest = flat_map f (entry_pairs m (first + 1) es) in
            both (f (m, EntryRow first new)) (f (m, EntryRow first x)) rest rest here (same rest)
        | false ↦ λ test is.
            let next : number + 1 ≡ first + 1 + (n - 1) = omega (arith, place, low) in
            both (f (m, EntryRow first x)) (f (m, EntryRow first x)) _ _ (same (f (m, EntryRow first x)))
            (entries_gathered m (first + 1) (n - 1) number es old new is next one)
      ] refl at

  heads_gathered : (m last : ℕ) (head : Option Head)
      → ((h g : Head) → R (f (m, HeadRow h)) (f (m, HeadRow g)))
      → Gathered (head_pairs m (seen_on head last)) (head_pairs m head)
  heads_gathered m last head heads = grind (arith, ints, nat_tests)

  pairs_gathered : (m n last : ℕ) (rows : Rows) (old new : Entry) → entry_at rows.entries n ≡ Some old
      → R (f (m, EntryRow n new)) (f (m, EntryRow n old)) → ((h g : Head) → R (f (m, HeadRow h)) (f (m, HeadRow g)))
      → Gathered (pairs m (changed_by (edit.Exchange (record { number = n; entry = new })) last rows)) (pairs m rows)
  pairs_gathered m n last rows old new at one heads =
      grind (arith, ints, nat_tests, joined_gathered, heads_gathered, entries_gathered)

  -- where the one entry is put for the other
  pub put_gathered : (m n last : ℕ) (joined : List (ℕ × Row)) (rows : Rows) (old new : Entry)
      → entry_at rows.entries n ≡ Some old → R (f (m, EntryRow n new)) (f (m, EntryRow n old))
      → ((h g : Head) → R (f (m, HeadRow h)) (f (m, HeadRow g)))
      → Gathered (put m (changed_by (edit.Exchange (record { number = n; entry = new })) last rows) joined)
      (put m rows joined)
  put_gathered m n last joined rows old new at one heads =
      grind (arith, ints, nat_tests, filter, nat_lt, pairs, joined_gathered, pairs_gathered)
