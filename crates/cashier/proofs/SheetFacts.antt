-- What the lines of a sheet are, record after record.
use Rattle.cashier.proofs.Names.{◌≡◌, ◌⊎◌, ◌∙◌, ◌<◌, ◌≤◌, ◌+◌, ◌++◌, nat_lt, IfSome, ◌∷◌, ◌&&◌, ◌||◌, not, ℕ, Bool, true, false, List, [], length, take, Option, Some, None, Result, Ok, Err, inl, inr, refl, sym, ap, arith, append_assoc, length-append, Appends-nil, Appends-trans, nat_tests, append-nil, take-append-le, Appends, concat, Refusal, Store, Memory, Firm, Steps, firm_step, Heard, is_fault_body, is_fault_reply, refused, Body, Refused, Reply, heard_of, Cut, CutsLine, Ends, LargeEnds, Leaves, RunEnds, sheet_records, all_accepted, body_line, end_of, firm_from, is_accepting, lines_from, ran_by, ran_refused, record_step, refusal_line, reply_line, RecordEnds, SheetEnd, MAX_FILE_BYTES, ints}
use Rattle.std.specs.Prelude.{MatchBool}
use Rattle.std.proofs.Math.Seq.{take-append-add, take-append_seam}
use Rattle.trust_base.specs.Refusals.{is_fault}
use Rattle.day_sheet.proofs.RecordFacts.{steps-fault}
use Rattle.cashier.specs.declared.sheet.SheetEnd.TheVariants as end

-- ---- parts of a text that is written piece after piece

-- a proper front of a text was written
abbrev pub IsCut : Option (List ℕ) → Option (List ℕ) → List ℕ → Type 0
IsCut old new text = (n : ℕ) × (n < length text) × Appends old new (take n text)

pub cut-first : (old new : Option (List ℕ)) (text more : List ℕ) → IsCut old new text → IsCut old new (text ++ more)
cut-first old new text more x4 = grind (arith, ints, nat_tests, take, take-append-le, length-append)

pub cut-later : (old mid new : Option (List ℕ)) (text more : List ℕ) → Appends old mid text → IsCut mid new more → IsCut old new (text ++ more)
cut-later old mid new text more before (n, less, part) =
    let size = length-append text more in
    (length text + n, omega arith, rw (take-append-add text more n) (Appends-trans old mid new text (take n more) before part))

-- ---- lines

concat-append : (xs ys : List (List ℕ)) → concat (xs ++ ys) ≡ concat xs ++ concat ys
concat-append [] ys = refl
concat-append (x ∷ xs) ys = ap (λ (rest : List ℕ). x ++ rest) (concat-append xs ys) ∙ sym (append_assoc x (concat xs) (concat ys))

pub concat-push : (xs : List (List ℕ)) (line : List ℕ) → concat (xs ++ line ∷ []) ≡ concat xs ++ line
concat-push xs line = concat-append xs (line ∷ []) ∙ ap (λ (end : List ℕ). concat xs ++ end) (append-nil line)

pub lines-push : (day : ℕ) (firm : Firm) (past : List (List (List ℕ))) (r : List (List ℕ))
    → lines_from day firm (past ++ r ∷ []) ≡ lines_from day firm past ++ reply_line (record_step day (firm_from day firm past) r).reply ∷ []
lines-push day firm [] r = refl
lines-push day firm (p ∷ past) r = ap (λ (lines : List (List ℕ)). reply_line (record_step day firm p).reply ∷ lines) (lines-push day (record_step day firm p).firm past r)

pub firm-push : (day : ℕ) (firm : Firm) (past : List (List (List ℕ))) (r : List (List ℕ))
    → firm_from day firm (past ++ r ∷ []) ≡ (record_step day (firm_from day firm past) r).firm
firm-push day firm [] r = refl
firm-push day firm (p ∷ past) r = firm-push day (record_step day firm p).firm past r

pub accepted-push : (day : ℕ) (firm : Firm) (past : List (List (List ℕ))) (r : List (List ℕ))
    → all_accepted day firm (past ++ r ∷ []) ≡ (all_accepted day firm past && is_accepting (record_step day (firm_from day firm past) r).reply.body)
accepted-push day firm [] r = grind (arith, ints, nat_tests, is_accepting, record_step)
accepted-push day firm (p ∷ past) r =
    grind (arith, ints, nat_tests, (accepted-push day (record_step day firm p).firm past r))

-- the records so far are the first of all
pub first_records : (all past rest : List (List (List ℕ))) → past ++ rest ≡ all → take (length past) all ≡ past
first_records all past rest e = rw (← e) (take-append_seam past rest)

-- ---- what replies say

pub steps-plain : (day : ℕ) (firm after : Firm) (h : Heard) (reply : Reply) → is_fault_reply reply ≡ false → Steps day firm h reply after
    → (reply ≡ (firm_step day firm h).reply) × (after ≡ (firm_step day firm h).firm)
steps-plain day firm after h reply e steps = rw e at steps

-- an end of the run, where it did not go on
abbrev stopped_by : SheetEnd → Result Bool SheetEnd
stopped_by e = Err e

pub err-same : (x y : SheetEnd) → stopped_by x ≡ stopped_by y → x ≡ y
err-same x y e = cc

-- a record that lets the run go on tells of no fault, and says whether it was accepted
goes-refused : (r : Refusal) (accepted : Bool) → Ok accepted ≡ ran_refused r → (is_fault r ≡ false) × (false ≡ accepted)
goes-refused r accepted e = grind (arith, ints, nat_tests)

pub goes-body : (b : Body) (accepted : Bool) → Ok accepted ≡ ran_by b → (is_fault_body b ≡ false) × (is_accepting b ≡ accepted)
goes-body b accepted e = grind (arith, ints, nat_tests, goes-refused)

-- a reply that ends the run is the refusal of a fault
abbrev pub IsStop : SheetEnd → Body → Type 0
IsStop e b = ((e ≡ end.Store) × (b ≡ Refused Store)) ⊎ ((e ≡ end.NoMemory) × (b ≡ Refused Memory))

stop-refused : (r : Refusal) (e : SheetEnd) → Err e ≡ ran_refused r → IsStop e (Refused r)
stop-refused r e same = grind (arith, ints, nat_tests, err-same)

pub stop-body : (b : Body) (e : SheetEnd) → Err e ≡ ran_by b → IsStop e b
stop-body b e same = grind (arith, ints, nat_tests, stop-refused)

-- ---- one more record

not-and : (a b : Bool) → (not a || not b) ≡ not (a && b)
not-and a b = grind (arith, ints, nat_tests)

abbrev pub SoFar : ℕ → Firm → List (List (List ℕ)) → Firm → Option (List ℕ) → Option (List ℕ) → Bool → Type 0
SoFar day before past firm old new refused =
    Appends old new (concat (lines_from day before past)) × (firm ≡ firm_from day before past) × (refused ≡ not (all_accepted day before past))

so_far-more : (day : ℕ) (before firm after : Firm) (past : List (List (List ℕ))) (r : List (List ℕ)) (old mid new : Option (List ℕ)) (reply : Reply) (off on : Bool)
    → SoFar day before past firm old mid off → Steps day firm (heard_of r) reply after → is_fault_reply reply ≡ false
    → Appends mid new (reply_line reply) → on ≡ (off || not (is_accepting reply.body)) → SoFar day before (past ++ r ∷ []) after old new on
so_far-more day before firm after past r old mid new reply off on (written, is, was) steps plain sent now =
    let went = rw is at steps in
    let (same, left) = steps-plain day (firm_from day before past) after (heard_of r) reply plain went in
    let all = all_accepted day before past in
    let lines = ap concat (lines-push day before past r) ∙ concat-push (lines_from day before past) (reply_line (record_step day (firm_from day before past) r).reply) in
    let text = lines ∙ ap (λ (x : Reply). concat (lines_from day before past) ++ reply_line x) (sym same) in (
      rw text (Appends-trans old mid new (concat (lines_from day before past)) (reply_line reply) written sent),
      left ∙ sym (firm-push day before past r),
      now ∙ ap (λ (b : Bool). b || not (is_accepting reply.body)) was ∙ not-and all (is_accepting reply.body)
          ∙ ap not (ap (λ (x : Reply). all && is_accepting x.body) same ∙ sym (accepted-push day before past r)),
    )

-- ---- where a run stops

abbrev pub cut-at : (all past left rest : List (List (List ℕ))) (r : List (List ℕ)) → past ++ left ≡ all → left ≡ r ∷ rest → Cut all
cut-at all past left rest r e first = record { past = past; here = r; later = rest; parts = rw first at e }

-- a record that was answered by a fault: its line is written, and nothing is changed
stops : (day : ℕ) (before firm after : Firm) (past : List (List (List ℕ))) (r : List (List ℕ)) (old mid new : Option (List ℕ)) (reply : Reply) (off : Bool) (fault : Refusal)
    → SoFar day before past firm old mid off → Steps day firm (heard_of r) reply after → reply.body ≡ Refused fault → is_fault fault ≡ true
    → Appends mid new (reply_line reply) → Leaves day before past (refusal_line fault) after old new
stops day before firm after past r old mid new reply off fault (written, is, was) steps body e sent =
    let line : reply_line reply ≡ refusal_line fault = ap (body_line reply.status) body in
    record {
      written = Appends-trans old mid new _ _ written (rw line at sent);
      firm = steps-fault day firm after r reply (ap is_fault_body body ∙ e) steps ∙ is;
    }

-- a part of a record's line
cuts-line : (day : ℕ) (before firm after : Firm) (past : List (List (List ℕ))) (r : List (List ℕ)) (old mid new : Option (List ℕ)) (reply : Reply) (off : Bool)
    → SoFar day before past firm old mid off → Steps day firm (heard_of r) reply after → IsCut mid new (reply_line reply) → CutsLine day before past r after old new
cuts-line day before firm after past r old mid new reply off (written, is, was) steps (n, less, part) = record {
  reply = reply;
  steps = rw is at steps;
  count = n;
  proper = less;
  written = Appends-trans old mid new _ _ written part;
}

-- how far the run of a sheet is, once one more record let it go on
pub record-goes : (day : ℕ) (before firm after : Firm) (past : List (List (List ℕ))) (r : List (List ℕ)) (old mid new : Option (List ℕ)) (off accepted : Bool)
    → SoFar day before past firm old mid off → RecordEnds day firm r after mid new (Ok accepted) → SoFar day before (past ++ r ∷ []) after old new (off || not accepted)
record-goes day before firm after past r old mid new off accepted so (inl w) =
    let (plain, is) = goes-body w.reply.body accepted w.goes in
    so_far-more day before firm after past r old mid new w.reply off (off || not accepted) so w.steps plain w.written (ap (λ (a : Bool). off || not a) (sym is))
record-goes day before firm after past r old mid new off accepted so (inr (e, cut)) = cc

-- how it ended, where that record ended it
pub record-stops : (day : ℕ) (before firm after : Firm) (all past left rest : List (List (List ℕ))) (r : List (List ℕ)) (old mid new : Option (List ℕ)) (off : Bool) (e : SheetEnd)
    → past ++ left ≡ all → left ≡ r ∷ rest → SoFar day before past firm old mid off → RecordEnds day firm r after mid new (Err e) → RunEnds day before all after old new e
record-stops day before firm after all past left rest r old mid new off e parts first so (inl w) =
    let cut = cut-at all past left rest r parts first in
    elim (stop-body w.reply.body e w.goes) [
      | inl by ↦ rw by.0 (cut, stops day before firm after past r old mid new w.reply off Store so w.steps by.1 refl w.written)
      | inr by ↦ rw by.0 (inr (cut, stops day before firm after past r old mid new w.reply off Memory so w.steps by.1 refl w.written))
    ]
record-stops day before firm after all past left rest r old mid new off e parts first so (inr (is, cut)) =
    rw (← err-same end.WriteFault e (sym is)) (cut-at all past left rest r parts first, cuts-line day before firm after past r old mid new cut.reply off so cut.steps (cut.count, cut.proper, cut.written))

-- whole lines of the first records
pub leaves-past : (day : ℕ) (before firm : Firm) (past : List (List (List ℕ))) (old new : Option (List ℕ)) (off : Bool)
    → SoFar day before past firm old new off → Leaves day before past [] firm old new
leaves-past day before firm past old new off (written, is, was) = record { written = rw (append-nil (concat (lines_from day before past))) written; firm = is }

pub leaves-first : (day : ℕ) (before firm : Firm) (all past left : List (List (List ℕ))) (old new : Option (List ℕ)) (off : Bool) → past ++ left ≡ all
    → SoFar day before past firm old new off → (k : ℕ) × Leaves day before (take k all) [] firm old new
leaves-first day before firm all past left old new off e so =
    (length past, rw (first_records all past left e) (leaves-past day before firm past old new off so))

-- at the end of the records all were run
pub past-all : (all past left : List (List (List ℕ))) → past ++ left ≡ all → left ≡ [] → past ≡ all
past-all all past left e none = sym (append-nil past) ∙ rw none at e

-- whether all was accepted, by what was kept of it
all-refused : (all : Bool) → true ≡ not all → all ≡ false
all-refused all e = grind (arith, ints, nat_tests)

none-refused : (all : Bool) → false ≡ not all → all ≡ true
none-refused all e = grind (arith, ints, nat_tests)

pub ended-whole : (day : ℕ) (before after : Firm) (all : List (List (List ℕ))) (old new : Option (List ℕ)) (refused : Bool) (e : SheetEnd) → e ≡ end_of refused
    → Leaves day before all [] after old new → refused ≡ not (all_accepted day before all) → RunEnds day before all after old new e
ended-whole day before after all old new true e is leaves was = rw is (leaves, all-refused _ was)
ended-whole day before after all old new false e is leaves was = rw is (leaves, none-refused _ was)

-- ---- a whole sheet, of bytes that are known or not

pub ends-run : (known : Option (List ℕ)) (items : List ℕ) (day : ℕ) (before after : Firm) (old new : Option (List ℕ)) (e : SheetEnd)
    → IfSome known (λ all. (items ≡ all) × (length all ≤ MAX_FILE_BYTES)) → RunEnds day before (sheet_records items) after old new e
    → IfSome known (λ bytes. Ends day before bytes after old new e)
ends-run None items day before after old new e read h = tt
ends-run (Some bytes) items day before after old new e (same, short) h =
    let within : nat_lt MAX_FILE_BYTES (length bytes) ≡ false = grind (arith, nat_tests) in
    rw within (rw same at h)

pub ends-large : (known : Option (List ℕ)) (day : ℕ) (firm : Firm) (old new : Option (List ℕ)) (e : SheetEnd)
    → IfSome known (λ all. MAX_FILE_BYTES < length all) → LargeEnds firm firm old new e → IfSome known (λ bytes. Ends day firm bytes firm old new e)
ends-large known day firm old new e long h = grind (arith, ints, nat_tests, nat_lt, length)

-- memory ran out before a record was run
by-size : (is_large : Bool) (Large Small : Type 0) → Large → Small → MatchBool is_large Large Small
by-size true Large Small large small = large
by-size false Large Small large small = small

pub ends-unread : (known : Option (List ℕ)) (day : ℕ) (firm : Firm) (text : Option (List ℕ)) → IfSome known (λ bytes. Ends day firm bytes firm text text end.NoMemory)
ends-unread None day firm text = tt
ends-unread (Some bytes) day firm text =
    by-size (nat_lt MAX_FILE_BYTES (length bytes)) (LargeEnds firm firm text text end.NoMemory) (RunEnds day firm (sheet_records bytes) firm text text end.NoMemory)
    (Appends-nil text, refl) (inl (leaves-first day firm firm (sheet_records bytes) [] (sheet_records bytes) text text false refl (Appends-nil text, refl, refl)))
