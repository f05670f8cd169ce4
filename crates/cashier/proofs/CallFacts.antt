-- What one run over a desk after another leaves of its book.
use Rattle.cashier.proofs.Names.{◌≡◌, ℕ, Seen, Counts, IsAny, IsSame, KeepsBook, arith, ints, nat_tests}

-- a book of which nothing was asked
pub book-alone : (b : Seen) → KeepsBook IsSame b b
book-alone b = grind (arith, ints, nat_tests)

-- what a call of the desk leaves, by what its answer counts
pub book-kept : {counted : ℕ → ℕ} {Told : ℕ → ℕ → Type 0} {old new : Seen}
    → ((before after : ℕ) → after ≡ counted before → Told before after)
    → KeepsBook (Counts counted) old new → KeepsBook Told old new
book-kept tells h = grind (arith, ints, nat_tests)

-- what leaves its book standing, where the count may be any that is told of
pub book-standing : {Told : ℕ → ℕ → Type 0} {old new : Seen}
    → ((before after : ℕ) → Told before after) → KeepsBook IsAny old new → KeepsBook Told old new
book-standing tells h = grind (arith, ints, nat_tests)

-- one after another, where the first met no fault
pub book-then : {Told : ℕ → ℕ → Type 0} {old mid new : Seen}
    → KeepsBook IsSame old mid → KeepsBook Told mid new → KeepsBook Told old new
book-then a b = grind (arith, ints, nat_tests)
