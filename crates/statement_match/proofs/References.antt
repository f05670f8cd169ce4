-- The reference of an entry is one of a bank's texts.
use Rattle.statement_match.proofs.Names.{◌≡◌, ◌∙◌, ℕ, zero, suc, ◌+◌, ◌/◌, ◌%◌, true, [], ◌∷◌, length, length-append, refl, arith, list_all, and_from, le-leb, list_all-append, is_bank_text, is_printed_byte, reference_text, ints, nat_tests}
use Rattle.byte_streams.specs.Digits.{fixed_digits}
use Rattle.byte_streams.proofs.FixedFacts.{length-fixed}

digit_printed : (n : ℕ) → is_printed_byte (48 + n % 10) ≡ true
digit_printed n = and_from _ _ (le-leb 0x20 (48 + n % 10) (omega arith)) (le-leb (48 + n % 10) 0x7E (omega arith))

digits_printed : (k n : ℕ) → list_all is_printed_byte (fixed_digits k n) ≡ true
unfolding fixed_digits
digits_printed zero n = refl
digits_printed (suc k) n =
    list_all-append is_printed_byte (fixed_digits k (n / 10)) ((48 + n % 10) ∷ [])
    ∙ and_from _ _ (digits_printed k (n / 10)) (and_from _ _ (digit_printed n) refl)

pub reference_is_text : (m e : ℕ) → is_bank_text (reference_text m e) ≡ true
unfolding is_bank_text
reference_is_text m e =
    grind (arith, ints, nat_tests, length-fixed, length-append, length, list_all-append, and_from, digits_printed, le-leb)
