-- How a statement's bytes are given.
use Rattle.statement_csv.proofs.Names.{◌≡◌, ◌≤◌, ◌+◌, ℕ, List, [], ◌++◌, length, drop, Option, Some, None, refl, sym, ap, subst, ◌∙◌, add-zero, arith, drop-drop, drop_at, length-append, length-drop, Consumes, IsAtEnd, prepend_known, MAX_FILE_BYTES, IsAfter, IsHeldBack, IsReading, IsWithin, beyond, ints, nat_tests}
use Rattle.statement_csv.specs.declared.item.Course.{Course}
use Rattle.statement_csv.specs.declared.item.Course.TheVariants as course

-- the bytes that a read gave come after those that were given before
pub after-more : (whole old new : Option (List ℕ)) (given : ℕ) (bs : List ℕ) → IsAfter whole old given → Consumes old new bs → IsAfter whole new (given + length bs)
after-more whole old new given bs after took bytes is = by old new (after bytes is).0 took
  where
    by : (old new : Option (List ℕ)) → old ≡ Some (drop given bytes) → Consumes old new bs → (new ≡ Some (drop (given + length bs) bytes)) × (given + length bs ≤ length bytes)
    by None new e took = cc
    by (Some xs) None e took = absurd took
    by (Some xs) (Some ys) e took =
        let front : drop given bytes ≡ bs ++ ys = cc in
        let rest : drop (given + length bs) bytes ≡ ys = sym (drop-drop (length bs) given bytes) ∙ ap (drop (length bs)) front ∙ drop_at bs ys (length bs) refl in
        let size : length (drop given bytes) ≡ length bs + length ys = ap length front ∙ length-append bs ys in
        let within = (after bytes is).1 in
        (ap (λ (zs : List ℕ). Some zs) (sym rest), omega (arith, length-drop given bytes))

-- a statement that ended is no longer than what was given
pub within-end : (whole rest : Option (List ℕ)) (given : ℕ) → IsAfter whole rest given → given ≤ MAX_FILE_BYTES → IsAtEnd rest → IsWithin whole
within-end whole rest given after most end bytes is = by rest (after bytes is).0 end
  where
    by : (rest : Option (List ℕ)) → rest ≡ Some (drop given bytes) → IsAtEnd rest → length bytes ≤ MAX_FILE_BYTES
    by None e end = cc
    by (Some xs) e end =
        let none : drop given bytes ≡ [] = cc in
        let size : length (drop given bytes) ≡ 0 = ap length none in
        omega (arith, length-drop given bytes)

-- nothing in front of known bytes
pub front-none : (known : Option (List ℕ)) → prepend_known [] known ≡ known
front-none known = grind (arith)

-- while more bytes may come, what is left is what the reader underneath has left
after-open : (whole rest : Option (List ℕ)) (given : ℕ) → IsReading whole rest given course.Open → IsAfter whole rest given
after-open whole rest given reading = rw front-none at reading.after

-- bytes that were given within the greatest length
pub given-more : (whole old new : Option (List ℕ)) (given n : ℕ) (now : Course) (bs : List ℕ) → now ≡ course.Open → IsReading whole old given now → Consumes old new bs
    → n ≡ length bs → given + n ≤ MAX_FILE_BYTES → IsReading whole new (given + n) now
given-more whole old new given n now bs is_open reading took size most =
    let before = after-open whole old given (subst (λ (k : Course). IsReading whole old given k) is_open reading) in
    let more = after-more whole old new given bs before took in
    grind (arith, ints, nat_tests, front-none)

-- the reader ended within the greatest length
pub given-end : (whole old new : Option (List ℕ)) (given : ℕ) (now : Course) → now ≡ course.Open → IsReading whole old given now → Consumes old new [] → IsAtEnd new
    → IsReading whole new given course.Ended
given-end whole old new given now is_open reading took end =
    let before = after-open whole old given (subst (λ (k : Course). IsReading whole old given k) is_open reading) in
    let after : IsAfter whole new given = rw add-zero at (after-more whole old new given [] before took) in
    record { after = rw front-none after; most = reading.most; tells = (end, within-end whole new given after reading.most end) }

-- whatever the course, what was given is a front of the statement
pub held-back : (whole rest left : Option (List ℕ)) (given : ℕ) (now : Course) → IsReading whole rest given now → left ≡ prepend_known (beyond now) rest → IsHeldBack whole left
held-back whole rest left given now reading is bytes told = (given, reading.most, is ∙ (reading.after bytes told).0)
