-- A dismissal is read back from its columns: its line is, from the one text that holds it.
use Rattle.sql_rows.proofs.Names.{◌≡◌, ℕ, ℤ, pos, ◌≤◌, Bool, true, false, not, ◌&&◌, cond, List, [], ◌∷◌, ◌++◌, map, Some, refl, sym, ap, ◌∙◌, arith, ints, nat_tests, AllByRecursion, map-append, all-append, Line, Dismissal, IsBankLine, IsField, IsWrittenDismissal, after_tab, before_tab, behind, dismissal_columns, dismissal_from, line_column, line_from, tab}
use Rattle.std.specs.Prelude.{zero, suc, ◌<◌, ◌+◌, ◌-◌, ◌/◌, ◌%◌, ◌^◌, ◌==◌, negsuc, unwrap_or, nat_le, length, if◌then◌else◌}
use Rattle.std.specs.Fmt.{decimal}
use Rattle.std.specs.List.{list_all, prefix_len}
use Rattle.std.proofs.Common.{drop, take, true≢false}
use Rattle.std.proofs.lemmas.List.{take_all}
use Rattle.std.proofs.lemmas.Bool.{and_from, and_parts, false≢true}
use Rattle.std.proofs.lemmas.Bool.Decides.{Decides-eqb}
use Rattle.std.specs.Str.Parse.{AllDigits}
use Rattle.std.proofs.lemmas.Str.Parse.{digit_at}
use Rattle.std.proofs.lemmas.List.Folds.{list_all-append}
use Rattle.std.proofs.lemmas.Fmt.{decimal_is_IsNumeral}
use Rattle.byte_streams.specs.Digits.{fixed_digits}
use Rattle.trust_values.specs.Limits.{IsBankAmount, IsDay, month_day_of, month_of, year_of}
use Rattle.trust_values.specs.Texts.{amount_text, bank_amount_of, day_of, day_text, end_text, signed_text}
use Rattle.trust_values.proofs.DayFacts.{day_of_is}
use Rattle.trust_values.proofs.SignedFacts.{bank_amount_of_is}
use Rattle.trust_base.specs.BankTexts.{IsBankText, is_bank_text, is_printed_byte}
use Rattle.trust_base.specs.declared.limits.TheConstants.{MAX_BANK_TEXT}
use Rattle.sql_tables.specs.Rows as table
use Rattle.sql_rows.specs.Dismissals.{IsDismissal, is_plain}
use Rattle.sql_rows.specs.Standing.{DismissalsReadBack}

-- A field ends at its tab.
pub field_ends : (xs ys : List ℕ) → IsField xs → (before_tab (xs ++ tab ∷ ys) ≡ xs) × (after_tab (xs ++ tab ∷ ys) ≡ ys)
field_ends [] ys is = (refl, refl)
field_ends (x ∷ xs) ys is =
    let parts = and_parts (not (x == tab)) _ is in
    cases (x == tab) parts.0 (field_ends xs ys parts.1)
  where
    cases : (b : Bool) → not b ≡ true
        → (before_tab (xs ++ tab ∷ ys) ≡ xs) × (after_tab (xs ++ tab ∷ ys) ≡ ys)
        → ((if b then [] else x ∷ before_tab (xs ++ tab ∷ ys)) ≡ x ∷ xs)
        × ((if b then xs ++ tab ∷ ys else after_tab (xs ++ tab ∷ ys)) ≡ ys)
    cases true plain rest = absurd (false≢true plain)
    cases false plain rest = (ap (λ l. x ∷ l) rest.0, rest.1)

-- What a search for the first tab finds.

pub before_is : (xs : List ℕ) → take (prefix_len is_plain xs) xs ≡ before_tab xs
before_is [] = refl
before_is (x ∷ xs) = cases (x == tab) (before_is xs)
  where
    cases : (b : Bool) → take (prefix_len is_plain xs) xs ≡ before_tab xs
        → take (cond (not b) (1 + prefix_len is_plain xs) 0) (x ∷ xs) ≡ (if b then [] else x ∷ before_tab xs)
    cases true rest = refl
    cases false rest =
        let on : 1 + prefix_len is_plain xs ≡ suc (prefix_len is_plain xs) = omega arith in
        ap (λ k. take k (x ∷ xs)) on ∙ ap (λ l. x ∷ l) rest

pub after_is : (xs : List ℕ)
    → take (length xs - (prefix_len is_plain xs + 1)) (drop (prefix_len is_plain xs + 1) xs) ≡ after_tab xs
after_is [] = refl
after_is (x ∷ xs) = cases (x == tab) (prefix_len is_plain xs) (after_is xs)
  where
    cases : (b : Bool) (n : ℕ) → take (length xs - (n + 1)) (drop (n + 1) xs) ≡ after_tab xs
        → take (length (x ∷ xs) - (cond (not b) (1 + n) 0 + 1)) (drop (cond (not b) (1 + n) 0 + 1) (x ∷ xs))
        ≡ (if b then xs else after_tab xs)
    cases true n rest =
        let less : length (x ∷ xs) - (0 + 1) ≡ length xs = omega arith in
        ap (λ k. take k xs) less ∙ take_all (length xs) xs (omega arith)
    cases false n rest =
        let on : (1 + n) + 1 ≡ suc (n + 1) = omega arith in
        let less : length (x ∷ xs) - ((1 + n) + 1) ≡ length xs - (n + 1) = omega arith in
        (λ i. take (less i) (drop (on i) (x ∷ xs))) ∙ rest

pub all_plain : (xs : List ℕ) → prefix_len is_plain xs ≡ length xs → IsField xs
all_plain [] none = refl
all_plain (x ∷ xs) none = cases (x == tab) (all_plain xs) none
  where
    cases : (b : Bool) → (prefix_len is_plain xs ≡ length xs → IsField xs)
        → cond (not b) (1 + prefix_len is_plain xs) 0 ≡ length (x ∷ xs) → (not b && list_all is_plain xs) ≡ true
    cases true rest h = absurd (omega (arith, h))
    cases false rest h = rest (omega (arith, h))

-- what is before the first tab and what is behind it make the text, if it has one
field_joins : (xs : List ℕ) → (prefix_len is_plain xs ≡ length xs → ⊥) → before_tab xs ++ tab ∷ after_tab xs ≡ xs
field_joins [] some = absurd (some refl)
field_joins (x ∷ xs) some = cases (x == tab) refl some (field_joins xs)
  where
    cases : (b : Bool) → (x == tab) ≡ b → (cond (not b) (1 + prefix_len is_plain xs) 0 ≡ length (x ∷ xs) → ⊥)
        → ((prefix_len is_plain xs ≡ length xs → ⊥) → before_tab xs ++ tab ∷ after_tab xs ≡ xs)
        → (if b then [] else x ∷ before_tab xs) ++ tab ∷ (if b then xs else after_tab xs) ≡ x ∷ xs
    cases true is some rest = ap (λ b. b ∷ xs) (sym ((Decides-eqb x tab).0 is))
    cases false is some rest = ap (λ l. x ∷ l) (rest (λ same. some (omega (arith, same))))

pub joined_by : (xs : List ℕ) (n : ℕ) → n ≡ prefix_len is_plain xs → (n == length xs) ≡ false
    → take n xs ++ tab ∷ take (length xs - (n + 1)) (drop (n + 1) xs) ≡ xs
joined_by xs n is some =
    ap (λ k. take k xs ++ tab ∷ take (length xs - (k + 1)) (drop (k + 1) xs)) is
    ∙ (λ i. before_is xs i ++ tab ∷ after_is xs i)
    ∙ field_joins xs (λ same. true≢false (sym ((Decides-eqb n (length xs)).1 (is ∙ same)) ∙ some))

-- Fields.

printed_plain : (b : ℕ) → is_printed_byte b ≡ true → not (b == tab) ≡ true
printed_plain b is = grind (arith, ints, nat_tests)

digit_plain : (b : ℕ) → 48 ≤ b → not (b == tab) ≡ true
digit_plain b is = grind (arith, ints, nat_tests)

end_field : (n : ℕ) → IsField (end_text n)
end_field n = grind (arith, ints, nat_tests)

fields_joined : (xs ys : List ℕ) → IsField xs → IsField ys → IsField (xs ++ ys)
fields_joined xs ys is also = list_all-append is_plain xs ys ∙ and_from _ _ is also

digit_field : (n : ℕ) → IsField ((48 + n % 10) ∷ [])
digit_field n = grind (arith, ints, nat_tests)

digits_field : (k n : ℕ) → IsField (fixed_digits k n)
unfolding fixed_digits
digits_field zero n = refl
digits_field (suc k) n =
    fields_joined (fixed_digits k (n / 10)) ((48 + n % 10) ∷ []) (digits_field k (n / 10)) (digit_field n)

pub day_field : (n : ℕ) → IsField (day_text n)
day_field n =
    fields_joined (fixed_digits 4 (year_of n))
    (45 ∷ (fixed_digits 2 (month_of n) ++ 45 ∷ fixed_digits 2 (month_day_of n))) (digits_field 4 (year_of n))
    (fields_joined (fixed_digits 2 (month_of n)) (45 ∷ fixed_digits 2 (month_day_of n)) (digits_field 2 (month_of n))
    (digits_field 2 (month_day_of n)))

printed_field : (xs : List ℕ) → list_all is_printed_byte xs ≡ true → IsField xs
printed_field [] is = refl
printed_field (x ∷ xs) is =
    let parts = and_parts (is_printed_byte x) _ is in
    and_from _ _ (printed_plain x parts.0) (printed_field xs parts.1)

pub bank_field : (xs : List ℕ) → IsBankText xs → IsField xs
unfolding is_bank_text
bank_field xs is = printed_field xs (and_parts (nat_le (length xs) MAX_BANK_TEXT) _ is).1

numeral_field : (ds : List ℕ) → AllDigits 10 ds → IsField ds
numeral_field [] all = refl
numeral_field (d ∷ ds) all =
    let low = digit_at (d ∷ ds) 0 all (omega arith) in
    and_from _ _ (digit_plain d low.0) (numeral_field ds all.1)

size_field : (n : ℕ) → n < 2 ^ 64 → IsField (amount_text n)
size_field n small =
    fields_joined (decimal (n / 100)) (end_text (n % 100))
    (numeral_field (decimal (n / 100)) (decimal_is_IsNumeral (n / 100) (omega arith)).0.1) (end_field (n % 100))

pub amount_field : (z : ℤ) → IsBankAmount z → IsField (signed_text z)
amount_field (pos n) is = size_field n (omega arith)
amount_field (negsuc n) is = size_field (suc n) (omega arith)

-- The values of fields.

pub day_back : (d : ℕ) → IsDay d → day_of (day_text d) ≡ Some d
day_back d is = sym (day_of_is (Some d) (day_text d) is refl tt)

pub amount_back : (z : ℤ) → IsBankAmount z → bank_amount_of (signed_text z) ≡ Some z
amount_back z is = sym (bank_amount_of_is (Some z) (signed_text z) is refl tt)

-- A line.

-- a text that begins with a field and a tab
pub record IsParted (field rest text : List ℕ) : Type 0 where
  pub ends : IsField text → ⊥
  pub before : before_tab text ≡ field
  pub after : after_tab text ≡ rest

parted : (xs ys text : List ℕ) → IsField xs → xs ++ tab ∷ ys ≡ text → IsParted xs ys text
parted xs ys text is same =
    let found = field_ends xs ys is in record {
      ends = λ none. false≢true (and_parts (list_all is_plain xs) (list_all is_plain (tab ∷ ys))
          (sym (list_all-append is_plain xs (tab ∷ ys)) ∙ ap (list_all is_plain) same ∙ none)).1;
      before = ap before_tab (sym same) ∙ found.0;
      after = ap after_tab (sym same) ∙ found.1;
    }

-- what is behind a field of a line
abbrev behind_bank_ref : Line → List ℕ
behind_bank_ref l = signed_text l.amount ++ tab ∷ l.text

abbrev behind_reference : Line → List ℕ
behind_reference l = l.bank_ref ++ tab ∷ behind_bank_ref l

abbrev behind_date : Line → List ℕ
behind_date l = l.reference ++ tab ∷ behind_reference l

-- the fields of a line are those of its text
pub record AreParted (l : Line) (text : List ℕ) : Type 0 where
  pub date : IsParted (day_text l.date) (behind_date l) text
  pub reference : IsParted l.reference (behind_reference l) (behind 1 text)
  pub bank_ref : IsParted l.bank_ref (behind_bank_ref l) (behind 2 text)
  pub amount : IsParted (signed_text l.amount) l.text (behind 3 text)

pub line_parted : (l : Line) (text : List ℕ) → IsBankLine l → line_column l ≡ text → AreParted l text
line_parted l text (dated, referred, banked, amounts, words) same =
    let one = parted (day_text l.date) (behind_date l) text (day_field l.date) same in
    let two =
    parted l.reference (behind_reference l) (behind 1 text) (bank_field l.reference referred) (sym one.after) in
    let three = parted l.bank_ref (behind_bank_ref l) (behind 2 text) (bank_field l.bank_ref banked) (sym two.after) in
    let four = parted (signed_text l.amount) l.text (behind 3 text) (amount_field l.amount amounts) (sym three.after) in
    record { date = one; reference = two; bank_ref = three; amount = four }

pub line_back : (l : Line) → IsBankLine l → line_from (line_column l) ≡ l
line_back l (dated, referred, banked, amounts, said) =
    let parts = line_parted l (line_column l) (dated, referred, banked, amounts, said) refl in
    let date = ap (λ t. unwrap_or (day_of t) 0) parts.date.before ∙ ap (λ o. unwrap_or o 0) (day_back l.date dated) in
    let amount = ap (λ t. unwrap_or (bank_amount_of t) (pos 0)) parts.amount.before
    ∙ ap (λ o. unwrap_or o (pos 0)) (amount_back l.amount amounts) in
    let reference = parts.reference.before in
    let bank_ref = parts.bank_ref.before in
    let words = parts.amount.after in
    λ i. record { date = date i; reference = reference i; bank_ref = bank_ref i; amount = amount i; text = words i }

-- a line with a text is the only one
pub only_line : (a b : Line) (text : List ℕ) → IsBankLine a → IsBankLine b → line_column a ≡ text → line_column b ≡ text
    → a ≡ b
only_line a b text is also one other =
    sym (line_back a is) ∙ ap line_from (one ∙ sym other) ∙ line_back b also

-- the text of a line, from its fields
pub line_joined :
    (l : Line) (text date behind1 behind2 behind3 amount : List ℕ)
    → day_text l.date ≡ date → signed_text l.amount ≡ amount → date ++ tab ∷ behind1 ≡ text
    → l.reference ++ tab ∷ behind2 ≡ behind1 → l.bank_ref ++ tab ∷ behind3 ≡ behind2 → amount ++ tab ∷ l.text ≡ behind3
    → line_column l ≡ text
line_joined l text date behind1 behind2 behind3 amount dated amounts one two three four =
    (λ i. dated i ++ tab ∷ (l.reference ++ tab ∷ (l.bank_ref ++ tab ∷ (amounts i ++ tab ∷ l.text))))
    ∙ ap (λ t. date ++ tab ∷ (l.reference ++ tab ∷ (l.bank_ref ++ tab ∷ t))) four
    ∙ ap (λ t. date ++ tab ∷ (l.reference ++ tab ∷ t)) three ∙ ap (λ t. date ++ tab ∷ t) two ∙ one

-- The columns of a dismissal give it back, whatever its number.
pub dismissal_back : (d : Dismissal) (seq : ℤ) → IsBankLine d.line
    → dismissal_from (record (dismissal_columns d) { seq = seq }) ≡ d
dismissal_back d seq is = λ i. record { day = d.day; line = line_back d.line is i }

-- a dismissal is the one that its columns stand for
pub dismissal_read :
    (d : Dismissal) (row : table.Act) → IsDismissal d → dismissal_columns d ≡ row → d ≡ dismissal_from row
dismissal_read d row is same = sym (dismissal_back d (pos 0) is.1) ∙ ap dismissal_from same

-- One that is added.

pub dismissals_added : (d : Dismissal) (seq : ℤ) (xs : List table.Act) → IsBankLine d.line
    → map dismissal_from (xs ++ record (dismissal_columns d) { seq = seq } ∷ []) ≡ map dismissal_from xs ++ d ∷ []
dismissals_added d seq xs is =
    map-append dismissal_from xs (record (dismissal_columns d) { seq = seq } ∷ [])
    ∙ ap (λ x. map dismissal_from xs ++ x ∷ []) (dismissal_back d seq is)

pub written_dismissal_added : (d : Dismissal) (seq : ℤ) (xs : List table.Act) → IsBankLine d.line
    → AllByRecursion IsWrittenDismissal xs
    → AllByRecursion IsWrittenDismissal (xs ++ record (dismissal_columns d) { seq = seq } ∷ [])
written_dismissal_added d seq xs is all =
    all-append IsWrittenDismissal xs _ all (sym (ap dismissal_columns (dismissal_back d seq is)), tt)

pub dismissals_back : DismissalsReadBack
dismissals_back d is = dismissal_back d (pos 0) is.1
