-- The lines of one matter among those of others.
use Rattle.cashier.proofs.Names.{◌≡◌, ◌∙◌, ◌&&◌, ℕ, Bool, true, false, cond, List, [], ◌∷◌, length, Option, Some, None, Result, Err, refl, sym, ap, arith, ◌==◌, nat_tests, filter, Firm, of, concerns, is_the, names, ask_of, asked_of, by_cashier, dismissing, dismissing_in, heard_as, heard_of, is_dismissal, of_matter, of_verb, text_at, verb_in, OwnRecordsAlone, lines_at, lines_from, names_matter, record_step, reply_line, ints}
use Rattle.byte_streams.proofs.FixedFacts.{length-fixed}
use Rattle.trust_base.proofs.ReadFacts.{number-none}
use Rattle.trust_base.specs.Texts.{matter_of, matter_text}
use Rattle.statement_csv.specs.Lines.{line_of_texts}
use Rattle.trust_base.specs.declared.line.Line.{Line}
use Rattle.trust_base.specs.declared.refusal.Field.{Field}
use Rattle.trust_base.specs.declared.refusal.Field.TheVariants as field
use Rattle.trust_matter.specs.declared.ask.Ask.{Ask}
use Rattle.day_sheet.proofs.RecordFacts.{record-silent}
use Rattle.trust_desk.proofs.Own.{same-reply_by_rows}
use Rattle.trust_desk.proofs.OwnRows.{other-rows, same-rows}
use Rattle.day_sheet.specs.declared.record.Verb.{Verb}

-- ---- the matter of a record is that of what the desk hears

of_cashier : (m n : ℕ) (asked : Result Ask Field) → names m (heard_as (by_cashier n asked) (Some n)) ≡ is_the m (Some n)
of_cashier m n asked = grind (arith, ints, nat_tests)

of_read : (m : ℕ) (read : Option ℕ) (asked : Result Ask Field) → names m (heard_as (of_matter read asked) read) ≡ is_the m read
of_read m read asked = grind (arith, ints, nat_tests, of_cashier)

of_some : (m : ℕ) (verb : Option Verb) (fields : List (List ℕ)) → names m (heard_as (of_verb verb fields) (matter_of (text_at fields 1))) ≡ names_matter m fields
of_some m verb fields = grind (arith, ints, nat_tests, of_read, matter_of, text_at, ask_of)

-- an empty text is no matter's
six_is_none : (n : ℕ) → n ≡ 6 → n ≡ 0 → ⊥
six_is_none n six none = absurd (omega (arith, six, none))

no_text : (m : ℕ) → matter_text m ≡ [] → ⊥
no_text m e = six_is_none (length (matter_text m)) (length-fixed 6 m) (ap length e)

none_named : matter_of [] ≡ None
none_named = number-none _ _ _ [] (λ m low high e. no_text m e)

-- a record that dismisses a line names no matter, and its second field is none
dismissed_named : (m : ℕ) (b : Bool) (line : Option Line) → names m (heard_as (cond b (dismissing line) (Err field.Record)) None) ≡ false
dismissed_named m b line = grind (arith, ints, nat_tests)

formed_named : (m : ℕ) (a b : Bool) (second : List ℕ) (line : Option Line) → names m (heard_as (cond (a && (length second == 0) && b) (dismissing line) (Err field.Record)) (matter_of second)) ≡ is_the m (matter_of second)
formed_named m false b second line = refl
formed_named m true b [] line = rw none_named (dismissed_named m b line)
formed_named m true b (x ∷ xs) line = let longer : (length (x ∷ xs) == 0) ≡ false =
    grind (arith, nat_tests) in rw longer refl

same_matter : (m : ℕ) (fields : List (List ℕ)) → names m (heard_of fields) ≡ names_matter m fields
unfolding heard_of asked_of
same_matter m fields = grind (arith, ints, nat_tests, names, matter_of, text_at, formed_named, length, of_some)

-- and so is the matter that it concerns
concerned_by_cashier : (m n : ℕ) (asked : Result Ask Field) → concerns m (heard_as (by_cashier n asked) (Some n)) ≡ is_the m (Some n)
concerned_by_cashier m n asked = grind (arith, ints, nat_tests)

concerned_read : (m : ℕ) (read : Option ℕ) (asked : Result Ask Field) → concerns m (heard_as (of_matter read asked) read) ≡ is_the m read
concerned_read m read asked = grind (arith, ints, nat_tests, concerned_by_cashier)

concerned_some : (m : ℕ) (verb : Option Verb) (fields : List (List ℕ)) → concerns m (heard_as (of_verb verb fields) (matter_of (text_at fields 1))) ≡ names_matter m fields
concerned_some m verb fields = grind (arith, ints, nat_tests, concerned_read, matter_of, text_at, ask_of)

dismissed_concern : (m : ℕ) (b : Bool) (line : Option Line) → concerns m (heard_as (cond b (dismissing line) (Err field.Record)) None) ≡ false
dismissed_concern m b line = grind (arith, ints, nat_tests)

formed_concern : (m : ℕ) (a b : Bool) (second : List ℕ) (line : Option Line) → concerns m (heard_as (cond (a && (length second == 0) && b) (dismissing line) (Err field.Record)) (matter_of second)) ≡ is_the m (matter_of second)
formed_concern m false b second line = refl
formed_concern m true b [] line = rw none_named (dismissed_concern m b line)
formed_concern m true b (x ∷ xs) line = let longer : (length (x ∷ xs) == 0) ≡ false =
    grind (arith, nat_tests) in rw longer refl

same_concern : (m : ℕ) (fields : List (List ℕ)) → concerns m (heard_of fields) ≡ names_matter m fields
unfolding heard_of asked_of
same_concern m fields = cases (is_dismissal fields)
  where
    cases : (b : Bool) → concerns m (heard_as (cond b (dismissing_in fields) (of_verb (verb_in fields) fields)) (matter_of (text_at fields 1))) ≡ names_matter m fields
    cases true = formed_concern m (length fields == 8) (length (text_at fields 2) == 0) (text_at fields 1) (line_of_texts (text_at fields 3) (text_at fields 4) (text_at fields 5) (text_at fields 6) (text_at fields 7))
    cases false = concerned_some m (verb_in fields) fields

-- ---- one record

own_line : (m day : ℕ) (f g : Firm) (r : List (List ℕ)) → names_matter m r ≡ true → of m f ≡ of m g
    → reply_line (record_step day f r).reply ≡ reply_line (record_step day g r).reply
own_line m day f g r e same = ap reply_line (same-reply_by_rows m day f g (heard_of r) (same_matter m r ∙ e) (record-silent m day r) same)

own_firm : (m day : ℕ) (f g : Firm) (r : List (List ℕ)) → of m f ≡ of m g → of m (record_step day f r).firm ≡ of m (record_step day g r).firm
own_firm m day f g r same = same-rows m day f g (heard_of r) same

other_firm : (m day : ℕ) (f g : Firm) (r : List (List ℕ)) → names_matter m r ≡ false → of m f ≡ of m g → of m (record_step day f r).firm ≡ of m g
other_firm m day f g r e same = other-rows m day f (heard_of r) (same_concern m r ∙ e) ∙ same

-- ---- all records

-- the lines at the records of a matter are those of these records run alone
solo : (m day : ℕ) (records : List (List (List ℕ))) (f g : Firm) → of m f ≡ of m g
    → lines_at (names_matter m) records (lines_from day f records) ≡ lines_from day g (filter (names_matter m) records)
solo m day [] f g same = refl
solo m day (r ∷ rest) f g same =
    grind (arith, ints, nat_tests, of, filter, own_line, own_firm, other_firm, (solo m day rest))

pub own_records-alone : OwnRecordsAlone
own_records-alone m day f g a b same own =
    solo m day a f g same ∙ ap (lines_from day g) own ∙ sym (solo m day b g g refl)
