-- Each matter's dossier in a step of the firm is that of its own machine.
use Rattle.std.proofs.Common.{◌≡◌, ◌≢◌, ℕ, Bool, true, false, List, [], ◌∷◌, ◌++◌, Option, Some, None, refl, sym, ap, ◌∙◌, subst}
use Rattle.std.specs.List.{list_any}
use Rattle.std.specs.Prelude.{MatchBool, ◌==◌}
use Rattle.std.proofs.lemmas.Bool.{cond_both, eqb-false, eqb-true}
use Rattle.trust_base.specs.declared.line.Line.{Line}
use Rattle.trust_base.specs.declared.refusal.Refusal.{Refusal}
use Rattle.matter_parts.specs.Changes.{last_after}
use Rattle.trust_matter.specs.declared.bank_line.BankLine.{BankLine}
use Rattle.trust_matter.specs.declared.line_verdict.LineEffect.{LineEffect}
use Rattle.trust_matter.specs.declared.line_verdict.LineEffect.TheVariants as told
use Rattle.trust_matter.specs.Facts.{Asked}
use Rattle.trust_matter.specs.LineStep.{line_on}
use Rattle.trust_matter.specs.Step.{act_on, edit_on, refusal}
use Rattle.firm_rows.proofs.Changed.{of-after_edit, of_other-after_edit}
use Rattle.firm_rows.specs.declared.ledger.BalanceKind.{BalanceKind}
use Rattle.firm_rows.specs.declared.ledger.BalanceKind.TheVariants as kind
use Rattle.firm_rows.specs.declared.ledger.Verdict.{Verdict}
use Rattle.firm_rows.specs.declared.ledger.Verdict.TheVariants as own
use Rattle.firm_rows.specs.Firm.{Firm, of}
use Rattle.firm_rows.specs.FirmChange.{after, by_balance, by_firm_line}
use Rattle.statement_csv.specs.declared.item.Item.{Item}
use Rattle.statement_csv.specs.declared.item.Item.TheVariants as item
use Rattle.trail_laws.specs.Dossier.{Dossier, dossier_after, dossier_after_line}
use Rattle.trail_laws.proofs.Added.{dossier-by-line}
use Rattle.trust_desk.proofs.OwnActs.{acts-asked, acts-other, acts-told}
use Rattle.trust_desk.proofs.OwnRows.{of-after_asked}
use Rattle.trust_desk.proofs.OwnItems.{none-front, none-items}
use Rattle.trust_desk.specs.Acts.{dossier_of}
use Rattle.trust_desk.specs.Dismissing.{dismiss_refusal, dismissed_unless}
use Rattle.trust_desk.specs.declared.requests.Reply.{Reply}
use Rattle.trust_desk.specs.FirmStep.{IsStopped, KindStopped, Steps, after_ask, after_asked, firm_step, kind_step}
use Rattle.trust_desk.specs.Heard.{Heard, Kind, OfMatter, OfActs, OfItems, Dismisses, OnlyTold, OnlyShown, NotRead, Own, OwnAsk, OwnActs, OwnLine, OwnRefusal, asked_on, is_the, kind_concerns, kind_of, kind_own, own_if, own_of_item, own_of_items}
use Rattle.trust_desk.specs.Isolation.{KeepsOthers}
use Rattle.trust_desk.specs.ItemStep.{after_item, after_items, after_told, balance_on, firm_line_on, names_item, told_act}
use Rattle.trust_desk.specs.Replies.{is_fault_reply}
use Rattle.trust_desk.specs.Solo.{own_dossier, solo_dossier}

-- An ask is seen in its matter, and in no other.

own-asked : (m : ℕ) (a : Asked) (firm : Firm) → dossier_of m (after_ask m a firm) ≡ dossier_after (dossier_of m firm) a
own-asked m a firm =
    λ i. record {
      rows = of-after_asked (refusal (of m firm) a) m a firm i;
      acts = acts-asked (refusal (of m firm) a) m a firm i;
    }

other-asked : (o : Option Refusal) (n m : ℕ) (a : Asked) (firm : Firm) → n ≢ m → dossier_of n (after_asked o m a firm) ≡ dossier_of n firm
other-asked None n m a firm apart =
    let e = edit_on (of m firm) a in
    let last = last_after (of m firm).head e a.day in
    λ i. record {
      rows = of_other-after_edit n m e last firm apart i;
      acts = acts-other n m e last (act_on (of m firm) a) firm apart i;
    }
other-asked (Some r) n m a firm apart = refl

-- A line likewise.

own-told : (l : BankLine) (day : ℕ) (v : LineEffect) (firm : Firm) → line_on (of l.matter firm) l day ≡ v
    → dossier_of l.matter (after_told l day v firm) ≡ dossier-by-line (dossier_of l.matter firm) (told_act l day firm) v
own-told l day (told.Applied d) firm is =
    λ i. record {
      rows = of-after_edit l.matter d.edit d.last firm i;
      acts = acts-told l day (told.Applied d) firm is i;
    }
own-told l day told.Repeat firm is = refl
own-told l day (told.Unmatched r) firm is = refl

own-line : (l : BankLine) (day : ℕ) (firm : Firm)
    → dossier_of l.matter (after_item day firm (item.OfMatter l)) ≡ dossier_after_line (dossier_of l.matter firm) l day
own-line l day firm = own-told l day (line_on (of l.matter firm) l day) firm refl

other-told : (n : ℕ) (l : BankLine) (day : ℕ) (v : LineEffect) (firm : Firm) → n ≢ l.matter → dossier_of n (after_told l day v firm) ≡ dossier_of n firm
other-told n l day (told.Applied d) firm apart =
    λ i. record {
      rows = of_other-after_edit n l.matter d.edit d.last firm apart i;
      acts = acts-other n l.matter d.edit d.last (Some (told_act l day firm)) firm apart i;
    }
other-told n l day told.Repeat firm apart = refl
other-told n l day (told.Unmatched r) firm apart = refl

-- A balance, and a line of the firm's own, are seen in none.

balance-none : (m : ℕ) (k : BalanceKind) (line : Line) (v : Verdict) (firm : Firm) → dossier_of m (after (by_balance k line v) firm) ≡ dossier_of m firm
balance-none m k line own.Applied firm = refl
balance-none m k line own.Repeat firm = refl
balance-none m k line own.Unmatched firm = refl

firm_line-none : (m : ℕ) (line : Line) (v : Verdict) (firm : Firm) → dossier_of m (after (by_firm_line line v) firm) ≡ dossier_of m firm
firm_line-none m line own.Applied firm = refl
firm_line-none m line own.Repeat firm = refl
firm_line-none m line own.Unmatched firm = refl

-- Items.

pub own-item : (m day : ℕ) (firm : Firm) (it : Item) → dossier_of m (after_item day firm it) ≡ solo_dossier (dossier_of m firm) (own_of_item m day it)
own-item m day firm (item.Opening line) = balance-none m kind.Opening line (balance_on firm kind.Opening line day) firm
own-item m day firm (item.Closing line) = balance-none m kind.Closing line (balance_on firm kind.Closing line day) firm
own-item m day firm (item.OfMatter l) =
    cond_both (l.matter == m) (OwnLine l day ∷ []) []
    (λ owns. dossier_of m (after_item day firm (item.OfMatter l)) ≡ solo_dossier (dossier_of m firm) owns)
    (λ same. subst (λ (k : ℕ). dossier_of k (after_item day firm (item.OfMatter l)) ≡ dossier_after_line (dossier_of k firm) l day) (eqb-true l.matter m same) (own-line l day firm))
    (λ other. other-told m l day (line_on (of l.matter firm) l day) firm (λ same. eqb-false l.matter m other (sym same)))
own-item m day firm (item.OfFirm line) = firm_line-none m line (firm_line_on firm line day) firm
own-item m day firm (item.Stray line) = refl
own-item m day firm (item.Unreadable number) = refl

pub solo-append : (p : Dossier) (xs ys : List Own) → solo_dossier p (xs ++ ys) ≡ solo_dossier (solo_dossier p xs) ys
solo-append p [] ys = refl
solo-append p (x ∷ xs) ys = solo-append (own_dossier p x) xs ys

own-items : (m day : ℕ) (firm : Firm) (items : List Item) → dossier_of m (after_items day firm items) ≡ solo_dossier (dossier_of m firm) (own_of_items m day items)
own-items m day firm [] = refl
own-items m day firm (it ∷ items) =
    own-items m day (after_item day firm it) items
    ∙ (ap (λ (p : Dossier). solo_dossier p (own_of_items m day items)) (own-item m day firm it)
    ∙ sym (solo-append (dossier_of m firm) (own_of_item m day it) (own_of_items m day items)))

-- A step.

dismissed-none : (m day : ℕ) (o : Option Refusal) (line : Line) (firm : Firm) → dossier_of m (dismissed_unless day o line firm) ≡ dossier_of m firm
dismissed-none m day None line firm = refl
dismissed-none m day (Some r) line firm = refl

-- what is only asked for, and what is refused, leave it
left-none : (b : Bool) (own : Own) (p : Dossier) → own_dossier p own ≡ p → p ≡ solo_dossier p (own_if b own)
left-none true own p same = sym same
left-none false own p same = refl

pub kind-dossier : (m day : ℕ) (firm : Firm) (k : Kind) → dossier_of m (kind_step day firm k).firm ≡ solo_dossier (dossier_of m firm) (kind_own m day k)
kind-dossier m day firm (OfMatter n caller ask) =
    let a = asked_on day caller ask in
    cond_both (n == m) (OwnAsk a ∷ []) []
    (λ owns. dossier_of m (after_ask n a firm) ≡ solo_dossier (dossier_of m firm) owns)
    (λ same. subst (λ (k : ℕ). dossier_of k (after_ask n a firm) ≡ dossier_after (dossier_of k firm) a) (eqb-true n m same) (own-asked n a firm))
    (λ other. other-asked (refusal (of n firm) a) m n a firm (λ same. eqb-false n m other (sym same)))
kind-dossier m day firm (OfActs n caller) = left-none (n == m) (OwnActs caller day) (dossier_of m firm) refl
kind-dossier m day firm (OfItems refused items) = own-items m day firm items
kind-dossier m day firm (Dismisses caller line) = dismissed-none m day (dismiss_refusal caller line firm) line firm
kind-dossier m day firm (OnlyTold text) = refl
kind-dossier m day firm (OnlyShown json) = refl
kind-dossier m day firm (NotRead named r) = left-none (is_the m named) (OwnRefusal r) (dossier_of m firm) refl

-- What does not concern a matter.

pub none-own : (m day : ℕ) (k : Kind) → kind_concerns m k ≡ false → kind_own m day k ≡ []
none-own m day (OfMatter n caller ask) other = ap (λ b. own_if b (OwnAsk (asked_on day caller ask))) other
none-own m day (OfActs n caller) other = ap (λ b. own_if b (OwnActs caller day)) other
none-own m day (OfItems refused items) other = none-items m day items other
none-own m day (Dismisses caller line) other = refl
none-own m day (OnlyTold text) other = refl
none-own m day (OnlyShown json) other = refl
none-own m day (NotRead named r) other = ap (λ b. own_if b (OwnRefusal r)) other

-- what was stopped leaves its dossier
pub stopped-other : (m day : ℕ) (firm new : Firm) (k : Kind) → KindStopped day firm k new → kind_concerns m k ≡ false → dossier_of m new ≡ dossier_of m firm
stopped-other m day firm new (OfItems refused items) is other =
    let left = is.1 in
    let whole : list_any (names_item m) (left.front ++ is.0) ≡ false = ap (list_any (names_item m)) left.parts ∙ other in
    ap (dossier_of m) left.leaves
    ∙ (own-items m day firm left.front
    ∙ ap (solo_dossier (dossier_of m firm)) (none-items m day left.front (none-front m left.front is.0 whole)))
stopped-other m day firm new _ is other = ap (dossier_of m) is

pub made-other : (m day : ℕ) (firm : Firm) (k : Kind) → kind_concerns m k ≡ false → dossier_of m (kind_step day firm k).firm ≡ dossier_of m firm
made-other m day firm k other = kind-dossier m day firm k ∙ ap (solo_dossier (dossier_of m firm)) (none-own m day k other)

-- nor does a step, whatever stopped it
pub keeps-others : (day : ℕ) (firm new : Firm) (h : Heard) (reply : Reply) → Steps day firm h reply new → KeepsOthers firm h new
keeps-others day firm new h reply step m other = cases (is_fault_reply reply) step
  where
    cases : (b : Bool) → MatchBool b (IsStopped day firm h reply new) ((reply ≡ (firm_step day firm h).reply) × (new ≡ (firm_step day firm h).firm)) → dossier_of m new ≡ dossier_of m firm
    cases true is = stopped-other m day firm new (kind_of h) is.leaves other
    cases false is = ap (dossier_of m) is.1 ∙ made-other m day firm (kind_of h) other
