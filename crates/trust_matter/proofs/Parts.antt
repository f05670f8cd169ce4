-- What a part of rows is decided on is what the rows are.
use Rattle.trust_matter.proofs.Names.{AllByRecursion, AreFigures, Ask, Bool, Edit, Entry, Facts, Head, IsMade, IsPart, IsStepOf, List, MatterChange, Option, Part, Rows, Seat, Sound, arith, change-is, entry_at, entry_in, facts_of, held-entry, holds_for, ints, kept_at, kept_facts, ledger, left_in, names, pos, total-covered, total_kept, true, ℕ, ℤ, ◌&&◌, ◌+◌, ◌≡◌, nat_tests, IsChange}

abbrev facts : Option Head → List Seat → ℕ → ℤ → ℤ → ℤ → Option Entry → Option Entry → ℤ → Facts
facts h s n a b w e o l = record { head = h; seats = s; count = n; available = a; ledger = b; pending = w; entry = e; other = o; left = l }

pub both : (a b : Bool) → (a && b) ≡ true → (a ≡ true) × (b ≡ true)
both a b h = grind (arith, ints)

facts-alike : (h h' : Option Head) (s s' : List Seat) (n n' : ℕ) (a a' b b' w w' : ℤ) (e e' : Option Entry) (o o' : Option Entry) (l l' : ℤ) →
    h ≡ h' → s ≡ s' → n ≡ n' → a ≡ a' → b ≡ b' → w ≡ w' → e ≡ e' → o ≡ o' → l ≡ l' →
    facts h s n a b w e o l ≡ facts h' s' n' a' b' w' e' o' l'
facts-alike h h' s s' n n' a a' b b' w w' e e' o o' l l' p1 p2 p3 p4 p5 p6 p7 p8 p9 = cc

-- a change that is made of an edit of the rows is one of them
pub made-is : (m : Part) (rows : Rows) (t n last : ℕ) (e : Edit) (c : MatterChange) → IsPart m rows → Sound rows
    → IsStepOf rows t n e last → IsMade m e last c → IsChange rows c
made-is m rows t n last e c p s step made = grind (arith, ints, (change-is m rows t n c p s))

-- the ledger by the totals is the ledger added up anew
ledger-same : (m : Part) (es : List Entry) → AllByRecursion (λ e. names es e ≡ true) es → AreFigures m.figures es → pos (total_kept m.figures + m.figures.held) ≡ ledger es
ledger-same m es named f = grind (arith, ints, total-covered)

-- the facts by what is kept are the facts by the rows
pub facts-same : (m : Part) (rows : Rows) (ask : Ask) → AllByRecursion (λ e. names rows.entries e ≡ true) rows.entries → IsPart m rows → holds_for m ask ≡ true → kept_facts m ask ≡ facts_of rows ask
facts-same m rows ask named p h =
    grind (arith, ints, nat_tests, both, entry_in, kept_at, held-entry, facts-alike, ledger-same, entry_at, left_in)
