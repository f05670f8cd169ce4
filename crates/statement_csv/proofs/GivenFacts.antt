-- What was given of a statement.
use Rattle.statement_csv.proofs.Names.{◌≡◌, ◌≤◌, ◌+◌, ℕ, Bool, true, false, List, [], ◌∷◌, ◌++◌, length, take, drop, Option, Some, None, refl, sym, ap, ◌∙◌, arith, inl, add-zero, cases_Bool, Keeps, rows-more, ReadRecord, Reached, default_config, has_failed, reader_source, reader_state, records, source_of, strip_bom, is_header, items_after_header, items_from, IsHeldBack, left_of, GivesWithin, HasRead, Records, Stands, items_left, records_left, unread, Item, Ready, reader_trim, took_first, GivesRecord, IsLive}
use Rattle.std.proofs.Common.{length-append, length-drop}
use Rattle.std.specs.Prelude.{option_map}
use Rattle.csv.specs.declared.parser.State.TheVariants as st
use Rattle.csv.specs.declared.reader.Trim.TheVariants as trim
use Rattle.statement_csv.proofs.ReadingFacts.{read-gives}
use Rattle.byte_streams.specs.CsvRecords.{rest_records}
use Rattle.byte_streams.proofs.CsvFronts.{front-records, length-strip_bom, rest-all, strip_bom-front}

kept : (known : Option (List ℕ)) (bytes : List ℕ) → Keeps (Some bytes) known → known ≡ Some bytes
kept known bytes h = grind (arith)

-- a statement of which nothing was read
pub stands-start : (whole known : Option (List ℕ)) (rdr : Records) → Keeps whole known → unread rdr ≡ option_map strip_bom known → reader_state rdr ≡ st.StartRecord → Stands whole true 1 rdr
unfolding Reached
stands-start whole known rdr keeps source state = grind (arith, kept, length-strip_bom)

-- the bytes that a CSV reader holds stand before those that its reader has left
source-long : (b : Records) (z rest : List ℕ) → source_of left_of b ≡ Some z → b.bom_checked ≡ true → left_of (reader_source b) ≡ Some rest → length rest ≤ length z
source-long b z rest source checked left = grind (arith, cases_Bool, has_failed, drop, take, length-append)

-- one more record was read
pub read-more : (whole : Option (List ℕ)) (a b : Records) (rows : List (List (List ℕ))) (f : List (List ℕ)) → a.config ≡ default_config → ReadRecord left_of a b true f
    → IsHeldBack whole (reader_source b).left → HasRead whole rows a → HasRead whole (rows ++ (f ∷ [])) b
read-more whole a b rows f config r held read bytes is =
    let (rest, source, long, reached) = read bytes is in
    let (z, at_z, further) = rows-more left_of a b f default_config st.StartRecord (strip_bom bytes) rest rows config source reached r in
    let (given, most, left) = held bytes is in
    let behind = source-long b z (drop given bytes) at_z r.1 left in
    (z, at_z, omega (arith, length-drop given bytes), further)

-- what a read of a record gives: a reader that can go on, the first of the records that were left, and one record more
-- of the statement
pub record IsRead (whole : Option (List ℕ)) (a b : Records) (found : Bool) (f : List (List ℕ)) : Type 0 where
  pub live : IsLive b
  pub gives : GivesRecord (records_left a) (records_left b) found f
  pub more : found ≡ true → (rows : List (List (List ℕ))) → HasRead whole rows a → HasRead whole (rows ++ (f ∷ [])) b

pub is-read : (whole : Option (List ℕ)) (a b : Records) (found : Bool) (f : List (List ℕ)) → IsLive a
    → (reader_trim a ≡ trim.None → Ready a → ReadRecord left_of a b found f) → (reader_trim a ≡ trim.None → took_first b ≡ true)
    → IsHeldBack whole (reader_source b).left → IsRead whole a b found f
is-read whole a b found f live reads first held =
    let read = reads live.trim live.ready in
    record {
      live = record { trim = read.3 ∙ live.trim; config = read.2 ∙ live.config; ready = inl (first live.trim) };
      gives = read-gives a b found f live.config read;
      more = λ is rows. read-more whole a b rows f live.config (rw is at read) held;
    }

-- the header was read
pub stands-header : (whole : Option (List ℕ)) (number : ℕ) (a b : Records) (f : List (List ℕ)) → is_header f ≡ true
    → ((rows : List (List (List ℕ))) → HasRead whole rows a → HasRead whole (rows ++ (f ∷ [])) b) → Stands whole true number a → Stands whole false number b
stands-header whole number a b f header more stands = (f, [], header, stands.0, more [] stands.1)

-- the record of an item was read
pub stands-item : (whole : Option (List ℕ)) (number : ℕ) (a b : Records) (f : List (List ℕ))
    → ((rows : List (List (List ℕ))) → HasRead whole rows a → HasRead whole (rows ++ (f ∷ [])) b) → Stands whole false number a → Stands whole false (number + 1) b
stands-item whole number a b f more stands =
    let (header, rows, is, count, read) = stands in
    (header, rows ++ (f ∷ []), is, omega (arith, count, length-append rows (f ∷ [])), more (header ∷ rows) read)

items_from-append : (n : ℕ) (xs ys : List (List (List ℕ))) → items_from n (xs ++ ys) ≡ items_from n xs ++ items_from (n + length xs) ys
unfolding items_from
items_from-append n [] ys = rw (add-zero n) refl
items_from-append n (x ∷ xs) ys = grind (arith, (items_from-append (n + 1) xs ys))

header-items : (header : List (List ℕ)) (rows : List (List (List ℕ))) → is_header header ≡ true → items_after_header 1 (header ∷ rows) ≡ Some (items_from 1 rows)
header-items header rows is = rw is refl

-- what was given, where the header and some records were read
pub gives-within : (whole : Option (List ℕ)) (number : ℕ) (rdr : Records) → Stands whole false number rdr → GivesWithin whole (option_map (items_left false number) (records_left rdr))
gives-within whole number rdr stands bytes told =
    let (header, rows, is, count, read) = stands in
    let (rest, source, long, reached) = read bytes told in
    let (front, joins, of_front) = front-records (strip_bom bytes) rest (header ∷ rows) (reader_state rdr) reached in
    let (size, place, stripped) = strip_bom-front bytes front rest joins in
    let all = rest-all st.StartRecord (reader_state rdr) (strip_bom bytes) rest (header ∷ rows) reached in
    let left = rest_records (reader_state rdr) rest in (
      items_from number left,
      ap (λ (known : Option (List ℕ)). option_map (items_left false number) (option_map (rest_records (reader_state rdr)) known)) source,
      record {
        given = items_from 1 rows;
        size = size;
        within = omega (arith, long, place);
        front = ap (λ (text : List ℕ). items_after_header 1 (records default_config text)) stripped ∙ ap (items_after_header 1) of_front ∙ header-items header rows is;
        whole = ap (items_after_header 1) all ∙ header-items header (rows ++ left) is ∙ ap (λ (its : List Item). Some its) (items_from-append 1 rows left ∙ ap (λ (n : ℕ). items_from 1 rows ++ items_from n left) (sym count));
      },
    )
