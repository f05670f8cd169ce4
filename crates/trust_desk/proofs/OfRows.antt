-- What is answered by what is kept of a matter is the answer of its rows.
use Rattle.trust_desk.proofs.Names.{pos, ◌≡◌, ℕ, Bool, true, cond, List, Option, Some, None, refl, rules, sym, ap, ◌∙◌, eqb-true, Entry, PaymentState, Ask, Caller, Numbered, Kept, Rows, entry_at, Asked, Facts, number_named, facts_of, is_repeat, Part, IsPart, kept_at, entry_in, is_held_or_none, HoldsOn, holds_for, MatterChange, changed, changed_by, IsDecided, cancelled, decided, edit_on, rows_after, with_claim, with_payment, receipt_body, entry_body, Body, made_text, shown_text, body_of, said, success_of, replied, reply_of, status_of_edit, arith, ints, nat_tests, Edit, found_passes}
use Rattle.std.proofs.Common.{◌==◌}
use Rattle.matter_rows.specs.declared.claim.ClaimState.{ClaimState}
use Rattle.trust_matter.specs.declared.ask.Ask.TheVariants as ask
use Rattle.matter_parts.specs.declared.edit.Edit.TheVariants as edit
use Rattle.trust_matter.specs.Step.{after}
use Rattle.matter_parts.proofs.Parts.{held-entry}
use Rattle.trust_matter.proofs.Parts.{both}

-- The entry that an ask names.

module _ (m n : ℕ) (part : Part) (rows : Rows) (is : IsPart part rows) where
  number_is : (k : Kept) → kept_at part n ≡ Some k → k.number ≡ n
  number_is k at = eqb-true k.number n (found_passes (λ (x : Kept). x.number == n) part.kept k at)

  -- as it was made
  pub kept-made : (k : Kept) → kept_at part n ≡ Some k → receipt_body m k.number k.entry ≡ made_text m n (entry_at rows.entries n)
  kept-made k at = (λ i. receipt_body m (number_is k at i) k.entry) ∙ ap (made_text m n) (sym (is.kept n k at).there)

  -- as it is
  pub kept-shown : (k : Kept) → kept_at part n ≡ Some k
      → entry_body m k.number k.entry (pos k.left) ≡ shown_text m n rows.entries (entry_at rows.entries n)
  kept-shown k at =
      (λ i. entry_body m (number_is k at i) k.entry ((is.kept n k at).left i))
      ∙ ap (shown_text m n rows.entries) (sym (is.kept n k at).there)

  -- there is none
  pub none-there : is_held_or_none part n ≡ true → kept_at part n ≡ None → entry_at rows.entries n ≡ None
  none-there held none =
      sym (held-entry part.kept part.figures.entries n rows.entries is.kept is.figures.entries held).0 ∙ ap entry_in none

-- it is still loaded, or does not exist, behind a change
pub held-on : (part new : Part) (ask : Ask) → HoldsOn part new → holds_for part ask ≡ true → is_held_or_none new (number_named ask) ≡ true
held-on part new ask on holds = grind (arith, ints, nat_tests, both, entry_in, kept_at)

-- The status.

cancelled-status : (n : ℕ) (e : Option Entry) (day : ℕ) → status_of_edit (cancelled n e day) ≡ 200
cancelled-status n e day = grind (arith, ints, nat_tests)

payment-status : (n : ℕ) (e : Option Entry) (next : PaymentState → PaymentState) → status_of_edit (with_payment n e next) ≡ 200
payment-status n e next = grind (arith, ints, nat_tests)

claim-status : (n : ℕ) (e : Option Entry) (next : ClaimState) → status_of_edit (with_claim n e next) ≡ 200
claim-status n e next = grind (arith, ints, nat_tests)

append-status : (again : Bool) (x : Numbered) → status_of_edit (cond again edit.Nothing (edit.Append x)) ≡ cond again 200 201
append-status again x = grind (arith, ints, nat_tests)

-- 201 where something is made
status-same : (f : Facts) (caller : Caller) (day : ℕ) (a : Ask)
    → status_of_edit (decided f (record { caller = caller; ask = a; day = day }))
    ≡ success_of a (is_repeat f (record { caller = caller; ask = a; day = day }))
status-same f caller day ask.Show = refl
status-same f caller day _ = search (rules, append-status, cancelled-status, payment-status, claim-status)

pub other-status : (e : Edit) → ((x : _) → e ≡ edit.Open x → ⊥) → ((x : _) → e ≡ edit.Append x → ⊥) → status_of_edit e ≡ 200
other-status e open_ append = grind (arith, ints, nat_tests)

-- The reply.

pub replied-so : (m : ℕ) (rows : Rows) (a : Asked) (c : MatterChange) (text : List ℕ) (body : Body) (status : ℕ) → IsDecided rows a c
    → text ≡ body_of m (changed c rows) a.ask → body ≡ said a.ask text → status ≡ status_of_edit c.edit
    → record { status = status; body = body } ≡ reply_of m rows a
replied-so m rows a c text body status d texts says told =
    let left : changed c rows ≡ rows_after rows a = (λ i. changed_by (d.edit i) (d.last i) rows) ∙ sym (ap (λ o. after o (edit_on rows a) a.day rows) d.accepted) in
    let statuses : status ≡ success_of a.ask (is_repeat (facts_of rows a.ask) a) = told ∙ (ap status_of_edit d.edit ∙ status-same (facts_of rows a.ask) a.caller a.day a.ask) in
    grind (arith, ints, nat_tests, said, body_of, replied)
