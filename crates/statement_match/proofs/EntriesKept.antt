-- All entries that stand in some way to a line are among those of its amount, those of its reference, those that it
-- shows, or those of a day.
use Rattle.statement_match.proofs.Names.{◌≡◌, Bool, ℕ, ℤ, negsuc, ◌==◌, true, neg_ℤ, List, inl, inr, ◌⊎◌, nat_le, nat_lt, unsigned_abs, filter, and_parts, eq-eqb, bytes_eq-Decides, Line, amount_key, day_key, entry_key, reference_key, text_key, elements, is_shown, has_amount_back, has_its_amount, names, stands, fits, shows, BookEntry, Narrows, filtered, filtered_kept, Bor, arith, ints, nat_tests}
use Rattle.statement_lines.specs.declared.relation.Relation.{Relation}
use Rattle.statement_lines.specs.declared.relation.Relation.TheVariants as relation

-- What entries of its amount, and those that it names, have.

unsigned_abs-neg : (x : ℤ) → unsigned_abs (neg_ℤ x) ≡ unsigned_abs x
unsigned_abs-neg x = grind (arith, ints, nat_tests, negsuc)

its_amount : (line : Line) (e : BookEntry) → has_its_amount line e ≡ true → (entry_key e == amount_key line) ≡ true
its_amount line e is = grind (arith, ints, nat_tests, eq-eqb, entry_key, amount_key, unsigned_abs)

back_amount : (line : Line) (e : BookEntry) → has_amount_back line e ≡ true → (entry_key e == amount_key line) ≡ true
back_amount line e is = grind (arith, ints, nat_tests, and_parts, eq-eqb, unsigned_abs, unsigned_abs-neg)

pub named_alike : (line : Line) (e : BookEntry) → names line e ≡ true
    → (reference_key e == text_key 0 line.reference) ≡ true
named_alike line e is = grind (arith, ints, nat_tests, eq-eqb, reference_key, text_key, bytes_eq-Decides)

-- The entries among which those that stand in a way to a line are.

abbrev among : Relation → Line → BookEntry → Bool
among relation.OfItsAmount line e = entry_key e == amount_key line
among relation.MaybeReturned line e = entry_key e == amount_key line
among relation.Named line e = reference_key e == text_key 0 line.reference
among relation.NamedAgain line e = reference_key e == text_key 0 line.reference
among relation.NamedOfAnotherAmount line e = reference_key e == text_key 0 line.reference
among (relation.HeldOn day) line e = day_key e == day
among _ line e = is_shown line e

narrows : (r : Relation) (today : ℕ) (line : Line) → Narrows (stands r today line) (among r line)
unfolding stands fits
narrows r today line e is =
    grind (arith, ints, nat_tests, its_amount, and_parts, back_amount, named_alike, names, nat_le, shows, nat_lt)

-- The entries found.

module _ (r : Relation) (today : ℕ) (line : Line) (entries : List BookEntry) (found : List (ℕ × Bor BookEntry)) where
  -- all that stand so are among those found
  abbrev Kept : Type 0
  Kept = filter (stands r today line) (elements found) ≡ filter (stands r today line) entries

  kept : elements found ≡ filter (among r line) entries → Kept
  kept same = filtered (stands r today line) (among r line) (narrows r today line) found entries same

  pub amount_kept : (r ≡ relation.OfItsAmount) ⊎ (r ≡ relation.MaybeReturned)
      → elements found ≡ filter (λ e. entry_key e == amount_key line) entries → Kept
  amount_kept is same = kept (elim is [ inl a ↦ rw a same | inr a ↦ rw a same ])

  pub named_kept : (r ≡ relation.Named) ⊎ ((r ≡ relation.NamedAgain) ⊎ (r ≡ relation.NamedOfAnotherAmount))
      → elements found ≡ filter (λ e. reference_key e == text_key 0 line.reference) entries → Kept
  named_kept is same =
      kept (elim is [ inl a ↦ rw a same | inr b ↦ elim b [ inl a ↦ rw a same | inr a ↦ rw a same ] ])

  pub shown_kept : (r ≡ relation.Fitted) ⊎ ((r ≡ relation.NotWaiting) ⊎ ((r ≡ relation.IssuedAfter)
      ⊎ (r ≡ relation.OfAnotherAmount)))
      → filter (is_shown line) (elements found) ≡ filter (is_shown line) entries → Kept
  shown_kept is same = grind (arith, ints, nat_tests, filtered_kept, stands, among, narrows)

  pub held_kept : (day : ℕ) → r ≡ relation.HeldOn day → elements found ≡ filter (λ e. day_key e == day) entries → Kept
  held_kept day is same = kept (rw is same)
