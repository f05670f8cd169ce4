-- Where nothing is pending, disputed or kept apart, nothing waits.
use Rattle.std.proofs.Common.{Bool, List, Some, [], arith, cond, false, not, refl, true, ℕ, ◌+◌, ◌≤◌, ◌∙◌, ◌∷◌, ◌≡◌}
use Rattle.std.proofs.lemmas.Bool.Decides.{nat_tests}
use Rattle.std.proofs.lemmas.Int.{ints}
use Rattle.std.specs.List.{AllByRecursion}
use Rattle.std.specs.Prelude.{pos, ◌+ℤ◌, ◌≤ℤ◌}
use Rattle.matter_rows.specs.declared.entry.Entry.{Entry}
use Rattle.matter_rows.specs.declared.entry.Entry.TheVariants as entry
use Rattle.matter_rows.specs.declared.claim.Claim.{Claim}
use Rattle.matter_rows.specs.declared.claim.Against.{Against}
use Rattle.matter_rows.specs.declared.claim.Against.TheVariants as against
use Rattle.matter_rows.specs.declared.claim.ClaimState.{ClaimState}
use Rattle.matter_rows.specs.declared.payment.PaymentState.{PaymentState}
use Rattle.matter_rows.specs.Rows.{Rows, entry_at, is_proposed_state}
use Rattle.matter_rows.specs.Shares.{apart, has_settled, pending_payment}
unfoldable use Rattle.matter_rows.specs.Shares.{disputed_share, pending_share}
use Rattle.matter_rows.specs.Balances.{claims, disputed, is_general_claim, left_in, left_of, lefts_from, pending}
use Rattle.matter_rows.specs.Sound.{IsRanged, Sound}
use Rattle.matter_rows.proofs.Lefts.{claim-left}
use Rattle.matter_rows.proofs.Sums.{total-within}
use Rattle.matter_parts.specs.Parts.{IsWhole, Part, kept_at, left_kept}
use Rattle.matter_parts.proofs.AllKept.{whole-all}
use Rattle.matter_parts.proofs.Parts.{held-entry}
use Rattle.json_bodies.specs.Listed.{waiting_from, waiting_in, waiting_object, waits}

-- the entries from number n on
abbrev At : List Entry → ℕ → List Entry → Type 0
At all n [] = Unit {0}
At all n (e ∷ es) = (entry_at all n ≡ Some e) × At all (n + 1) es

at-behind : (x : Entry) (all : List Entry) (n : ℕ) (es : List Entry) → 1 ≤ n → At all n es → At (x ∷ all) (n + 1) es
at-behind x all n [] le at = tt
at-behind x all n (e ∷ es) le at = (grind (arith, nat_tests), at-behind x all (n + 1) es (omega arith) at.1)

at-whole : (es : List Entry) → At es 1 es
at-whole [] = tt
at-whole (e ∷ es) = (refl, at-behind e es 1 es (omega arith) (at-whole es))

pending-least : (e : Entry) → pos 0 ≤ℤ pending_share e
unfolding pending_share
pending-least e = grind (arith, ints)

disputed-least : (e : Entry) → pos 0 ≤ℤ disputed_share e
unfolding disputed_share
disputed-least e = grind (arith, ints)

-- what is left of claims on the general fund
lefts-least : (all : List Entry) (n : ℕ) (es : List Entry) → ((k : ℕ) (e : Entry) → entry_at all k ≡ Some e → pos 0 ≤ℤ left_of all k e) → At all n es → pos 0 ≤ℤ lefts_from is_general_claim all n es
lefts-least all n [] least at = omega (arith, ints)
lefts-least all n (e ∷ es) least at = cases (is_general_claim e) (least n e at.0) (lefts-least all (n + 1) es least at.1)
  where
    cases : (b : Bool) → pos 0 ≤ℤ left_of all n e → pos 0 ≤ℤ lefts_from is_general_claim all (n + 1) es → pos 0 ≤ℤ (cond b (left_of all n e) (pos 0) +ℤ lefts_from is_general_claim all (n + 1) es)
    cases true here rest = omega (arith, ints, here, rest)
    cases false here rest = omega (arith, ints, rest)

not-taken : {A : Type 0} (b : Bool) (xs ys : A) → b ≡ false → cond b xs ys ≡ ys
not-taken true xs ys is = absurd (cc)
not-taken false xs ys is = refl

-- no entry waits
proposed-pends : (s : PaymentState) → is_proposed_state s ≡ true → pending_payment s ≡ pos 1
proposed-pends s is = grind (arith, ints)

open-apart : (s : ClaimState) (a : ℕ) → not (has_settled s) ≡ true → apart s a ≡ pos a
open-apart s a is = grind (arith, ints)

module _ (rows : Rows) (sound : Sound rows) (none : pending rows.entries ≡ pos 0) (undisputed : disputed rows.entries ≡ pos 0) where
  payment-rests : (n : ℕ) (e : Entry) → entry_at rows.entries n ≡ Some e → pending_share e ≤ℤ pos 0
  payment-rests n e at = let is = total-within pending_share rows.entries n e pending-least at in omega (arith, ints, is, none)

  claim-rests : (n : ℕ) (e : Entry) → entry_at rows.entries n ≡ Some e → disputed_share e ≤ℤ pos 0
  claim-rests n e at = let is = total-within disputed_share rows.entries n e disputed-least at in omega (arith, ints, is, undisputed)

  open-left : (n : ℕ) (c : Claim) (who : List ℕ) → entry_at rows.entries n ≡ Some (entry.Claim c) → c.against ≡ against.General who → not (has_settled c.state) ≡ true → left_of rows.entries n (entry.Claim c) ≡ pos c.amount
  open-left n c who at on is = let left = claim-left rows n c who sound at on in grind (arith, ints)

  rests : (n : ℕ) (e : Entry) → IsRanged e → entry_at rows.entries n ≡ Some e → cond (is_general_claim e) (left_of rows.entries n e) (pos 0) ≤ℤ pos 0 → waits e ≡ false
  unfolding pending_share disputed_share
  rests n (entry.Deposit d) ranged at left = refl
  rests n (entry.Payment p) ranged at left = let is = payment-rests n (entry.Payment p) at in grind (arith, ints, proposed-pends)
  rests n (entry.Fee f) ranged at left = refl
  rests n (entry.Claim c) ranged at left = cases c.against refl (not (has_settled c.state)) refl
    where
      cases : (o : Against) → c.against ≡ o → (b : Bool) → not (has_settled c.state) ≡ b → not (has_settled c.state) ≡ false
      cases o on false is = is
      cases (against.General who) on true is = absurd (let all = open-left n c who at on is in let most = ranged.amount in grind (arith, ints))
      cases (against.Fee k) on true is = absurd (let all = open-apart c.state c.amount is in let most = ranged.amount in let few = claim-rests n (entry.Claim c) at in grind (arith, ints))

  none-from : (m n : ℕ) (es : List Entry) → At rows.entries n es → AllByRecursion IsRanged es → lefts_from is_general_claim rows.entries n es ≡ pos 0 → waiting_from m rows n es ≡ []
  none-from m n [] at ranged zero = refl
  none-from m n (e ∷ es) at ranged zero = not-taken (waits e) (waiting_object m rows n e ∷ waiting_from m rows (n + 1) es) _ (rests n e ranged.0 at.0 here) ∙ none-from m (n + 1) es at.1 ranged.1 after
    where
      rest : pos 0 ≤ℤ lefts_from is_general_claim rows.entries (n + 1) es
      rest = lefts-least rows.entries (n + 1) es sound.backed.left at.1

      first : pos 0 ≤ℤ cond (is_general_claim e) (left_of rows.entries n e) (pos 0)
      first = bool (is_general_claim e) (sound.backed.left n e at.0)
        where
          bool : (b : Bool) → pos 0 ≤ℤ left_of rows.entries n e → pos 0 ≤ℤ cond b (left_of rows.entries n e) (pos 0)
          bool true is = is
          bool false is = omega (arith, ints)

      here : cond (is_general_claim e) (left_of rows.entries n e) (pos 0) ≤ℤ pos 0
      here = omega (arith, ints, zero, rest)

      after : lefts_from is_general_claim rows.entries (n + 1) es ≡ pos 0
      after = omega (arith, ints, zero, rest, first)

pub idle-waits : (m : ℕ) (rows : Rows) → Sound rows → pending rows.entries ≡ pos 0 → disputed rows.entries ≡ pos 0 → claims rows.entries ≡ pos 0 → waiting_in m rows ≡ []
idle-waits m rows sound none undisputed unclaimed =
    none-from rows sound none undisputed m 1 rows.entries (at-whole rows.entries) sound.backed.ranged unclaimed

-- What is left of an entry, of a matter that has all entries loaded.

pub whole_left : (m : Part) (rows : Rows) (n : ℕ) → IsWhole m rows → left_kept (kept_at m n) ≡ left_in rows.entries n (entry_at rows.entries n)
whole_left m rows n w = (held-entry m.kept m.figures.entries n rows.entries w.part.kept w.part.figures.entries (grind (arith, nat_tests, whole-all))).1
