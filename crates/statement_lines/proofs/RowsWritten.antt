-- What a writer holds after a record.
use Rattle.statement_lines.proofs.Names.{◌≡◌, ◌≢◌, ◌∙◌, sym, ap, subst, ℕ, true, false, List, [], ◌∷◌, ◌++◌, append-nil, append_assoc, Option, Some, refl, Rows, Adds, Holds, text_of, arith, ints, nat_tests}
use Rattle.std.specs.Io.KnownBytes.{Appends}
use Rattle.std.proofs.lemmas.Grind.{flat_map-append}
use Rattle.csv.specs.Writing.{default_writer, escaped, field_text, fields_text, fields_written, has_written, is_blank, row_text, text_written, with_flexible, writer_setup}
use Rattle.csv.specs.declared.writer.QuoteStyle.TheVariants as style
use Rattle.csv.specs.declared.writer.Writer.{Writer}

-- A writer of records of any length writes what the default writer writes.

escaped-same : (x : List ℕ) → escaped (with_flexible default_writer true) x ≡ escaped default_writer x
unfolding escaped
escaped-same [] = refl
escaped-same (b ∷ rest) = rw (escaped-same rest) refl

field_text-same : (x : List ℕ) → field_text (with_flexible default_writer true) x ≡ field_text default_writer x
field_text-same x = rw (escaped-same x) refl

fields_text-same : (fields : List (List ℕ))
    → fields_text (with_flexible default_writer true) fields ≡ fields_text default_writer fields
unfolding fields_text
fields_text-same [] = refl
fields_text-same (x ∷ rest) = rw (field_text-same x, fields_text-same rest) refl

is_blank-same : (fields : List (List ℕ))
    → is_blank (with_flexible default_writer true) fields ≡ is_blank default_writer fields
unfolding is_blank
is_blank-same fields = grind (arith, ints, nat_tests, field_text-same)

row_text-same : (fields : List (List ℕ))
    → row_text (with_flexible default_writer true) fields ≡ row_text default_writer fields
row_text-same fields = grind (arith, ints, nat_tests, is_blank-same, field_text-same, fields_text-same)

appended : (known : Option (List ℕ)) (text bs : List ℕ) → Appends (Some text) known bs → known ≡ Some (text ++ bs)
appended known text bs h = grind (arith, ints, nat_tests)

-- one more record was written
pub holds-more : {W : Type 0} (contents : W → Option (List ℕ)) (a b : Writer W) (fields : List (List ℕ))
    → ((fields_written a ≡ 0) → (has_written a ≡ false) → ((writer_setup a).style ≢ style.NonNumeric)
    → Appends (text_written contents a) (text_written contents b) (row_text (writer_setup a) fields))
    → fields_written b ≡ 0 → has_written b ≡ false → writer_setup b ≡ writer_setup a
    → (text : List ℕ) → Holds contents a text → Holds contents b (text ++ text_of (fields ∷ []))
holds-more contents a b fields bytes starts fresh same text h =
    grind (arith, ints, nat_tests, appended, row_text-same, append-nil)

-- records were added after others
pub adds-more : {W : Type 0} (contents : W → Option (List ℕ)) (a b c : Writer W) (first second : Rows)
    → Adds contents a b first → Adds contents b c second → Adds contents a c (first ++ second)
adds-more contents a b c first second one two text h =
    let parts : (text ++ text_of first) ++ text_of second ≡ text ++ text_of (first ++ second) =
    append_assoc text (text_of first) (text_of second)
    ∙ ap (λ t. text ++ t) (sym (flat_map-append (row_text default_writer) first second)) in
    subst (λ t. Holds contents c t) parts (two (text ++ text_of first) (one text h))

-- no record was added
pub adds-none : {W : Type 0} (contents : W → Option (List ℕ)) (a : Writer W) → Adds contents a a []
adds-none contents a text h = rw (append-nil text) h
