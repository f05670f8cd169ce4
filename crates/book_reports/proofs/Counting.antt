-- How many heads and entries the joined rows of matters have.
use Rattle.std.proofs.Common.{◌≡◌, ℕ, ◌+◌, Bool, List, [], ◌∷◌, ◌++◌, length, Option, Some, None, cond, arith}
use Rattle.std.proofs.lemmas.List.{length-map}
use Rattle.std.specs.Prelude.{count_by, is_some}
use Rattle.std.proofs.lemmas.List.Sums.{sum_by-append}
use Rattle.matter_rows.specs.declared.head.Head.{Head}
use Rattle.matter_rows.specs.declared.seat.Seat.{Seat}
use Rattle.matter_rows.specs.declared.entry.Entry.{Entry}
use Rattle.matter_rows.specs.Rows.{Rows}
use Rattle.firm_rows.specs.Firm.{EntryRow, Row, entry_pairs, head_pairs, pairs, seat_pairs}
use Rattle.trust_store.specs.declared.plain.KeptMatter.{KeptMatter}
use Rattle.trust_store.specs.Kept.{joined, rows_kept}
use Rattle.book_reports.specs.Checking.{entry_count, is_entry, is_head, matter_count}

-- a count over lists joined end to end
count-append : (p : ℕ × Row → Bool) (xs ys : List (ℕ × Row)) → count_by p (xs ++ ys) ≡ count_by p xs + count_by p ys
count-append p xs ys = sum_by-append (λ x. cond (p x) 1 0) xs ys

-- The rows of one matter.

one-head : (m : ℕ) (h : Option Head) → matter_count (head_pairs m h) ≡ cond (is_some h) 1 0
one-head m None = omega arith
one-head m (Some h) = omega arith

seats-no_heads : (m : ℕ) (ss : List Seat) → matter_count (seat_pairs m ss) ≡ 0
seats-no_heads m [] = omega arith
seats-no_heads m (s ∷ ss) = omega (arith, seats-no_heads m ss)

entries-no_heads : (m n : ℕ) (es : List Entry) → matter_count (entry_pairs m n es) ≡ 0
entries-no_heads m n [] = omega arith
entries-no_heads m n (e ∷ es) = omega (arith, entries-no_heads m (n + 1) es)

head-no_entries : (m : ℕ) (h : Option Head) → entry_count (head_pairs m h) ≡ 0
head-no_entries m None = omega arith
head-no_entries m (Some h) = omega arith

seats-no_entries : (m : ℕ) (ss : List Seat) → entry_count (seat_pairs m ss) ≡ 0
seats-no_entries m [] = omega arith
seats-no_entries m (s ∷ ss) = omega (arith, seats-no_entries m ss)

each-entry : (m n : ℕ) (es : List Entry) → entry_count (entry_pairs m n es) ≡ length es
each-entry m n [] = omega arith
each-entry m n (e ∷ es) =
    let one : entry_count ((m, EntryRow n e) ∷ []) ≡ 1 = omega arith in
    let split : entry_count (entry_pairs m n (e ∷ es)) ≡ entry_count ((m, EntryRow n e) ∷ []) + entry_count (entry_pairs m (n + 1) es) = count-append (λ p. is_entry p.1) ((m, EntryRow n e) ∷ []) (entry_pairs m (n + 1) es) in
    omega (arith, split, one, each-entry m (n + 1) es)

abbrev test-head : ℕ × Row → Bool
test-head p = is_head p.1

abbrev test-entry : ℕ × Row → Bool
test-entry p = is_entry p.1

heads-of : (m : ℕ) (rows : Rows) → matter_count (pairs m rows) ≡ cond (is_some rows.head) 1 0
heads-of m rows =
    omega (arith, count-append test-head (head_pairs m rows.head) (seat_pairs m rows.seats ++ entry_pairs m 1 rows.entries), count-append test-head (seat_pairs m rows.seats) (entry_pairs m 1 rows.entries), one-head m rows.head, seats-no_heads m rows.seats, entries-no_heads m 1 rows.entries)

entries-of : (m : ℕ) (rows : Rows) → entry_count (pairs m rows) ≡ length rows.entries
entries-of m rows =
    omega (arith, count-append test-entry (head_pairs m rows.head) (seat_pairs m rows.seats ++ entry_pairs m 1 rows.entries), count-append test-entry (seat_pairs m rows.seats) (entry_pairs m 1 rows.entries), head-no_entries m rows.head, seats-no_entries m rows.seats, each-entry m 1 rows.entries)

-- One matter more.

pub heads-more : (k : KeptMatter) (ks : List KeptMatter) → matter_count (joined (k ∷ ks)) ≡ cond (is_some k.matter.head) 1 0 + matter_count (joined ks)
heads-more k ks =
    omega (arith, count-append test-head (pairs k.number (rows_kept k.matter)) (joined ks), heads-of k.number (rows_kept k.matter))

pub entries-more : (k : KeptMatter) (ks : List KeptMatter) → entry_count (joined (k ∷ ks)) ≡ length k.matter.kept + entry_count (joined ks)
entries-more k ks =
    omega (arith, count-append test-entry (pairs k.number (rows_kept k.matter)) (joined ks), entries-of k.number (rows_kept k.matter), length-map k.matter.kept (λ x. x.entry))
