-- The example rows are sound.
use Rattle.matter_laws.proofs.Names.{AreBacked, Entry, List, Some, Sound, [], arith, available_share, days_of, disputed_share, draw, entry_at, eqb, held_share, ints, left_of, names, nat_tests, pending_share, pos, rules, total_share, within, worth, ℕ, ◌+◌, ◌-◌, ◌∷◌, ◌≡◌, ◌≤ℤ◌}
use Rattle.trust_matter.specs.Examples.{every_state, in_every_state, all_paid_out, closed_at_rest, Balance}

-- what is left of each entry of the list, whose first has the number n, is not below zero
abbrev LeftsFrom : List Entry → ℕ → List Entry → Type 0
LeftsFrom es n [] = Unit {0}
LeftsFrom es n (e ∷ some) = (pos 0 ≤ℤ left_of es n e) × LeftsFrom es (n + 1) some

lefts-at : (es : List Entry) (k n : ℕ) (some : List Entry) (i : ℕ) (e : Entry) → k + i ≡ n → LeftsFrom es (k + 1) some
    → entry_at some i ≡ Some e → pos 0 ≤ℤ left_of es n e
lefts-at es k n [] i e is h at = absurd (cc)
lefts-at es k n (x ∷ some) i e is h at =
    grind (arith, ints, nat_tests, eqb, within, (lefts-at es (k + 1) n some (i - 1) e))

lefts-all : (es : List Entry) → LeftsFrom es 1 es → (n : ℕ) (e : Entry) → entry_at es n ≡ Some e → pos 0 ≤ℤ left_of es n e
lefts-all es h n e at = lefts-at es 0 n es n e (omega arith) h at

available-every : pos 0 ≤ℤ pos 45500
available-every = omega (arith, ints)

lefts-every : LeftsFrom every_state 1 every_state
unfolding worth draw
lefts-every = search rules

backed-every : AreBacked every_state
unfolding names available_share
backed-every = grind (arith, ints, nat_tests, rules, available-every, lefts-all, lefts-every)

pub sound-every : Sound in_every_state
unfolding days_of
sound-every = grind (arith, ints, nat_tests, rules, backed-every)

pub balance-every : Balance every_state 5000 45500 10000 14000 24000 93500
unfolding held_share available_share disputed_share total_share worth draw
balance-every = assumption

available-paid : pos 0 ≤ℤ pos 0
available-paid = omega (arith, ints)

lefts-paid : LeftsFrom all_paid_out 1 all_paid_out
unfolding worth draw
lefts-paid = search rules

backed-paid : AreBacked all_paid_out
unfolding names available_share
backed-paid = grind (arith, ints, nat_tests, rules, available-paid, lefts-all, lefts-paid)

pub sound-closed : Sound closed_at_rest
unfolding days_of held_share total_share pending_share
sound-closed = grind (arith, ints, nat_tests, rules, backed-paid)

pub balance-closed : Balance all_paid_out 0 0 0 0 0 0
unfolding held_share available_share disputed_share total_share worth draw
balance-closed = assumption
