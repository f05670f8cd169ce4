-- What the text of a number of dollars looks like.
use Rattle.trust_values.proofs.Names.{◌≡◌, ◌≢◌, ℕ, ◌<◌, ◌^◌, List, length, get_or, arith, Result, Ok, true, decimal, IsUtf8, IsNumeralModel, numerals_by_value, tells_digits, digit_at, parse_plain, parse_gives, decimal_is_IsNumeral, decimal_digit, first_decimal, IsAscii-decimal, decimal-digits_value, starts_plainly}
use Rattle.std.specs.Str.Parse.{AllDigits, digits_value, ParsesUnsigned}
use Rattle.std.proofs.lemmas.Str.{IsUtf8-from_ascii}

-- std's own words for digits and their value
pub own : IsNumeralModel (AllDigits 10) (digits_value 10)
own = numerals_by_value (AllDigits 10) tells_digits

pub record IsWholeText (bs : List ℕ) (n : ℕ) : Type 0 where
  pub utf8 : IsUtf8 bs
  pub nonempty : 0 < length bs
  pub no_sign : get_or bs 0 0 ≢ 43
  pub lone_zero : get_or bs 0 0 ≡ 48 → length bs ≡ 1
  pub digits : AllDigits 10 bs
  pub value : digits_value 10 bs ≡ n

lone : (n : ℕ) → n < 2 ^ 64 → get_or (decimal n) 0 0 ≡ 48 → length (decimal n) ≡ 1
lone n small e = grind (arith, decimal_digit, first_decimal)

pub decimal_shape : (n : ℕ) (bs : List ℕ) → n < 2 ^ 64 → decimal n ≡ bs → IsWholeText bs n
decimal_shape n bs small e =
    let (numeral, value) = decimal_is_IsNumeral n small in
    let first = digit_at (decimal n) 0 numeral.1 numeral.0 in
    rw (← e) (record {
      utf8 = IsUtf8-from_ascii (decimal n) (IsAscii-decimal n small);
      nonempty = numeral.0;
      no_sign = λ s. omega arith;
      lone_zero = lone n small;
      digits = numeral.1;
      value = value;
    })

-- what the test of the start says
pub plain-facts : (bs : List ℕ) → starts_plainly bs ≡ true → (0 < length bs) × (get_or bs 0 0 ≢ 43) × (get_or bs 0 0 ≡ 48 → length bs ≡ 1)
plain-facts bs e = grind arith

pub plain_test : (n : ℕ) (bs : List ℕ) → n < 2 ^ 64 → decimal n ≡ bs → starts_plainly bs ≡ true
plain_test n bs le e = grind (arith, decimal_shape)

-- a text that parses is that of its value
pub parsed_text : {E : Type 0} (bs : List ℕ) (r : Result ℕ E) (v : ℕ) → ParsesUnsigned 64 10 bs r → r ≡ Ok v → starts_plainly bs ≡ true → decimal v ≡ bs
parsed_text bs r v p e plainly =
    let (some, plain, single) = plain-facts bs plainly in
    let h = rw e at (parse_plain own 64 bs r p plain) in
    rw h.1 (decimal-digits_value own bs h.0.0 some single h.0.2)

-- a text of a number of dollars parses
pub text_parses : {E : Type 0} (bs : List ℕ) (r : Result ℕ E) (n : ℕ) → ParsesUnsigned 64 10 bs r → IsWholeText bs n → n < 2 ^ 64 → r ≡ Ok n
text_parses bs r n p w le = let e = w.value in rw (← e) (parse_gives own 64 bs r p w.digits w.nonempty (omega arith))

-- what the code cites

pub ruleset whole_facts = (plain_test, decimal_shape, text_parses, parsed_text)
