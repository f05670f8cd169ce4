-- The texts that name an entry.
use Rattle.statement_csv.proofs.Names.{◌≡◌, ℕ, List, ◌∷◌, ◌++◌, length, drop, slice_index, slice_range, Some, option_and_then, option_map, IfSome, refl, sym, ap, ◌∙◌, arith, cases_Bool, entry_of, entry_text, matter_of, matter_text, entry_named, entry_of_texts, named, reference_text, drop-drop, drop_more, length-drop, take-append-drop, take_all}
use Rattle.byte_streams.specs.Digits.{fixed_digits}
use Rattle.trust_base.specs.Limits.{IsEntryNo, IsMatterNo}
use Rattle.trust_base.proofs.EntryFacts.{entry_of-is}
use Rattle.trust_base.proofs.ReadFacts.{matter_of-is, number-text}

-- twelve bytes are their parts
twelve : (r : List ℕ) → length r ≡ 12 → r ≡ slice_index r 0 ∷ (slice_range r 1 7 ++ slice_index r 7 ∷ slice_range r 8 12)
twelve r e =
    drop_more r 0 0 (omega arith)
    ∙ ap (λ (t : List ℕ). slice_index r 0 ∷ t)
    (sym (take-append-drop 6 (drop 1 r))
    ∙ ap (λ (t : List ℕ). slice_range r 1 7 ++ t)
    (drop-drop 6 1 r ∙ drop_more r 7 0 (omega arith)
    ∙ ap (λ (t : List ℕ). slice_index r 7 ∷ t) (sym (take_all 4 (drop 8 r) (omega (arith, length-drop 8 r))))))

-- an entry that two texts name has them as its texts
texts-named : (mt et bs : List ℕ) → 77 ∷ (mt ++ 45 ∷ et) ≡ bs → IfSome (entry_of_texts mt et) (λ n. reference_text n.matter n.entry ≡ bs)
texts-named mt et bs whole = grind (arith, matter_of, entry_of, number-text, option_and_then, option_map)

-- a text that names an entry is the reference of that entry
pub named-text : (bs : List ℕ) → IfSome (entry_named bs) (λ n. reference_text n.matter n.entry ≡ bs)
unfolding entry_named
named-text bs = grind (arith, cases_Bool, twelve, texts-named)

-- the reference of an entry names it
parts-named : (m e : ℕ) → entry_named (reference_text m e) ≡ entry_of_texts (matter_text m) (entry_text e)
unfolding entry_named fixed_digits
parts-named m e = refl

pub named-found : (m e : ℕ) → IsMatterNo m → IsEntryNo e → entry_named (reference_text m e) ≡ Some (named m e)
named-found m e is_matter is_entry =
    let matter = matter_of-is (Some m) (matter_text m) is_matter refl tt in
    let entry = entry_of-is (Some e) (entry_text e) is_entry refl tt in
    parts-named m e ∙ rw (sym matter, sym entry) refl
