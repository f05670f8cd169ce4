-- Persons, labels, references and texts of lines are UTF-8.
use Rattle.json_bodies.proofs.Names.{◌≡◌, ℕ, zero, suc, List, [], ◌∷◌, Bool, true, ◌<◌, rules, arith, IsUtf8, IsAscii, is_utf8, and_parts}
use Rattle.std.specs.List.{list_all}
use Rattle.std.proofs.lemmas.Bool.Decides.{nat_tests}
use Rattle.std.proofs.lemmas.Str.{IsUtf8-from_is_utf8, IsUtf8-from_ascii}
use Rattle.trust_base.specs.Names.{IsLabel, IsPerson, is_label_text, is_person_text, is_person_byte}
use Rattle.trust_base.specs.BankTexts.{IsBankText, IsLineText, is_bank_text, is_line_text, is_printed_byte}

IsAscii-list_all : (p : ℕ → Bool) → ((b : ℕ) → p b ≡ true → b < 128) → (bs : List ℕ) → list_all p bs ≡ true → IsAscii bs
IsAscii-list_all p low [] h i = search rules
IsAscii-list_all p low (b ∷ bs) h zero = low b (and_parts (p b) (list_all p bs) h).0
IsAscii-list_all p low (b ∷ bs) h (suc i) = IsAscii-list_all p low bs (and_parts (p b) (list_all p bs) h).1 i

low-person : (b : ℕ) → is_person_byte b ≡ true → b < 128
low-person b h = grind (arith, nat_tests)

low-printed : (b : ℕ) → is_printed_byte b ≡ true → b < 128
low-printed b h = grind (arith, nat_tests)

pub utf8_label : (bs : List ℕ) → IsLabel bs → IsUtf8 bs
unfolding is_label_text
utf8_label bs h = let text : is_utf8 bs ≡ true = grind arith in IsUtf8-from_is_utf8 bs text

pub utf8_person : (bs : List ℕ) → IsPerson bs → IsUtf8 bs
unfolding is_person_text
utf8_person bs h =
    let bytes : list_all is_person_byte bs ≡ true = grind arith in
    IsUtf8-from_ascii bs (IsAscii-list_all is_person_byte low-person bs bytes)

pub utf8_bank_text : (bs : List ℕ) → IsBankText bs → IsUtf8 bs
unfolding is_bank_text
utf8_bank_text bs h =
    let bytes : list_all is_printed_byte bs ≡ true = grind arith in
    IsUtf8-from_ascii bs (IsAscii-list_all is_printed_byte low-printed bs bytes)

pub utf8_line_text : (bs : List ℕ) → IsLineText bs → IsUtf8 bs
unfolding is_line_text
utf8_line_text bs h = let text : is_utf8 bs ≡ true = grind arith in IsUtf8-from_is_utf8 bs text

pub ruleset line_texts = (utf8_bank_text, utf8_line_text)
