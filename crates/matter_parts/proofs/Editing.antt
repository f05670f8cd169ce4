-- Edits of backed entries that leave them backed.
use Rattle.matter_parts.proofs.Names.{◌≡◌, ℕ, ◌+◌, ◌<◌, List, [], length, arith, rules, Some, eqb, ◌⊎◌, pos, ◌+ℤ◌, ◌-ℤ◌, ◌≤ℤ◌, ints, nat_tests, Entry, entry_at, draw, draw_on, target, worth, available_share, left_of, names, AreBacked, MayAdd, MayTake, Edit}
use Rattle.trust_base.specs.Limits.{IsAmount}
use Rattle.matter_rows.specs.declared.deposit.Deposit.{Deposit}
use Rattle.matter_rows.specs.declared.deposit.DepositState.TheVariants as deposit
use Rattle.matter_rows.specs.declared.entry.Entry.TheVariants as entry
use Rattle.matter_parts.specs.declared.edit.Edit.TheVariants as edit

pub left-drawn : (es : List Entry) (x : Entry) → ((e : Entry) → entry_at es (target x) ≡ Some e → pos 0 ≤ℤ (left_of es (target x) e -ℤ draw x)) → ((n : ℕ) (e : Entry) → entry_at es n ≡ Some e → pos 0 ≤ℤ left_of es n e) → (n : ℕ) (e : Entry) → entry_at es n ≡ Some e → pos 0 ≤ℤ (left_of es n e -ℤ draw_on n x)
left-drawn es x enough lefts n e h = grind (arith, ints, nat_tests, eqb)

pub left-moved : (es : List Entry) (old new : Entry) → target old ≡ target new → ((e : Entry) → entry_at es (target new) ≡ Some e → pos 0 ≤ℤ ((left_of es (target new) e +ℤ draw old) -ℤ draw new)) → ((n : ℕ) (e : Entry) → entry_at es n ≡ Some e → pos 0 ≤ℤ left_of es n e) → (n : ℕ) (e : Entry) → entry_at es n ≡ Some e → pos 0 ≤ℤ ((left_of es n e +ℤ draw_on n old) -ℤ draw_on n new)
left-moved es old new t enough lefts n e h = grind (arith, ints, nat_tests, eqb)

-- A deposit.

pub deposit-may : (es : List Entry) (d : Deposit) → AreBacked es → d.state ≡ deposit.Held → length es < 9_999 → IsAmount d.amount → MayAdd es (entry.Deposit d)
unfolding names draw worth available_share
deposit-may es d s held room few = grind (arith, ints, nat_tests, worth, left-drawn)

-- The edits.

abbrev pub MayEdit : List Entry → ℕ → ℕ → Edit → Type 0
MayEdit es t n (edit.Append x) = (x.number ≡ length es + 1) × MayAdd es x.entry × ((target x.entry ≡ 0) ⊎ (target x.entry ≡ t))
MayEdit es t n (edit.Exchange x) = (old : Entry) × MayTake es x.number old x.entry × ((target x.entry ≡ 0) ⊎ (target x.entry ≡ t)) × (x.number ≡ n)
MayEdit es t n edit.Nothing = Unit {0}
MayEdit es t n (edit.Open o) = Unit {0}
MayEdit es t n (edit.Seat s) = Unit {0}
MayEdit es t n (edit.Unseat p) = Unit {0}
MayEdit es t n (edit.Close d) = Unit {0}
MayEdit es t n (edit.Purge d) = Unit {0}

pub backed-none : AreBacked []
backed-none = record { few = omega arith; ranged = tt; named = tt; available = search rules; left = λ n e there. absurd (cc) }
