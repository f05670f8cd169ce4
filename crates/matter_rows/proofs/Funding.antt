-- Payments from claims stay behind the settling, where an entry is added or exchanged.
use Rattle.matter_rows.proofs.Names.{AllByRecursion, ◌≡◌, ℕ, ◌≤◌, true, List, [], ◌∷◌, ◌++◌, arith, Option, Some, eqb, false≢true, nat_tests, Entry, names, is_settled, passes, entry_at, with_entry, as_made, book_day, IsBy, IsFundedInTime, settlement_day, days_of}
use Rattle.matter_rows.proofs.Entries.{entry_at-append, entry_at-with, none-past, all-at, all-append, all-with}

pub settlement-before : (last : ℕ) (es : List Entry) (k : ℕ) (o : Option Entry) → entry_at es k ≡ o → AllByRecursion (IsBy last) es → settlement_day o ≤ last
unfolding days_of
settlement-before last es k o at by = grind (arith, nat_tests, all-at)

-- An entry is added, on no day before the last.

in_time-append : (es : List Entry) (x e : Entry) → names es e ≡ true → IsFundedInTime es e → IsFundedInTime (es ++ x ∷ []) e
unfolding names
in_time-append es x e named h = grind (arith, nat_tests, entry_at-append, eqb, none-past, passes, false≢true)

new-in_time : (last : ℕ) (es : List Entry) (x : Entry) → AllByRecursion (IsBy last) es → last ≤ book_day x → IsFundedInTime es x
new-in_time last es x by later = grind (arith, nat_tests, settlement-before)

-- facts about an entry of the list, from two about it
all-two : (P Q R : Entry → Type 0) (es : List Entry) → ((e : Entry) → P e → Q e → R e) → AllByRecursion P es → AllByRecursion Q es → AllByRecursion R es
all-two P Q R [] f h g = tt
all-two P Q R (e ∷ es) f h g = (f e h.0 g.0, all-two P Q R es f h.1 g.1)

pub funded-added : (last : ℕ) (es : List Entry) (x : Entry) → AllByRecursion (λ e. names es e ≡ true) es → AllByRecursion (IsFundedInTime es) es → AllByRecursion (IsBy last) es → names es x ≡ true → last ≤ book_day x → AllByRecursion (IsFundedInTime (es ++ x ∷ [])) (es ++ x ∷ [])
funded-added last es x named h by here later =
    let fs = es ++ x ∷ [] in
    all-append (IsFundedInTime fs) es x
    (all-two (λ e. names es e ≡ true) (IsFundedInTime es) (IsFundedInTime fs) es (in_time-append es x) named h)
    (in_time-append es x x here (new-in_time last es x by later))

-- An entry is exchanged: what was settled stays so, from no later day.

in_time-with : (es : List Entry) (n : ℕ) (old x e : Entry) → entry_at es n ≡ Some old → (is_settled old ≡ true → settlement_day (Some x) ≤ settlement_day (Some old)) → names es e ≡ true → IsFundedInTime es e → IsFundedInTime (with_entry es n x) e
unfolding names
in_time-with es n old x e at same named h = grind (arith, nat_tests, entry_at-with, eqb, passes)

same-made : (es : List Entry) (old x : Entry) → as_made x ≡ as_made old → IsFundedInTime es old → IsFundedInTime es x
same-made es old x made h = grind (arith, nat_tests)

pub funded-exchanged : (es : List Entry) (n : ℕ) (old x : Entry) → AllByRecursion (λ e. names es e ≡ true) es → AllByRecursion (IsFundedInTime es) es → entry_at es n ≡ Some old → as_made x ≡ as_made old → names es x ≡ true → (is_settled old ≡ true → settlement_day (Some x) ≤ settlement_day (Some old)) → AllByRecursion (IsFundedInTime (with_entry es n x)) (with_entry es n x)
funded-exchanged es n old x named h at made here same =
    let fs = with_entry es n x in
    all-with (IsFundedInTime fs) es n x
    (all-two (λ e. names es e ≡ true) (IsFundedInTime es) (IsFundedInTime fs) es (λ e. in_time-with es n old x e at same) named h)
    (in_time-with es n old x x at same here (same-made es old x made (all-at (IsFundedInTime es) es n old h at)))
