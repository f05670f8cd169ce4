-- What is dismissed is kept: by each step, and by every run.
use Rattle.desk_laws.proofs.Names.{◌≡◌, inl, inr, ℕ, true, false, List, [], ◌∷◌, ◌++◌, Option, Some, None, refl, sym, ap, ◌∙◌, append-nil, append_assoc, MatchBool, Line, Refusal, BankLine, LineEffect, Asked, line_on, refusal, BalanceKind, Verdict, Firm, of, after, by_balance, by_firm_line, Item, Reply, after_told, after_item, after_items, balance_on, firm_line_on, Heard, Kind, OfMatter, OfItems, Dismisses, OnlyTold, OnlyShown, NotRead, kind_of, asked_on, dismiss_refusal, dismiss_reply, dismissed_unless, is_fault_reply, refused, after_asked, firm_step, kind_step, IsStopped, KindStopped, Steps, Runs}
use Rattle.trust_base.specs.declared.refusal.Refusal.TheVariants.{Store, Memory}
use Rattle.trust_matter.specs.declared.line_verdict.LineEffect.TheVariants as told
use Rattle.firm_rows.specs.declared.dismissal.Dismissal.{Dismissal}
use Rattle.firm_rows.specs.declared.ledger.BalanceKind.TheVariants as kind
use Rattle.firm_rows.specs.declared.ledger.Verdict.TheVariants as own
use Rattle.firm_rows.proofs.Trail.{edit-leaves-dismissals}
use Rattle.statement_csv.specs.declared.item.Item.TheVariants as item
use Rattle.trust_desk.specs.FirmStep.{IsFaultReply}
use Rattle.trust_desk.specs.Heard.{OfActs}
use Rattle.desk_laws.specs.Dismissed.{RunsKeepDismissals, StepsKeepDismissals, dismissed_in, dismissed_on, kind_dismisses, refusal_told, told_dismissed, unless_refused}
use Rattle.desk_laws.proofs.OnceRuns.{items-keep}

-- An item dismisses nothing.

told-leaves : (l : BankLine) (day : ℕ) (e : LineEffect) (firm : Firm) → (after_told l day e firm).dismissals ≡ firm.dismissals
told-leaves l day (told.Applied e) firm = edit-leaves-dismissals l.matter e.edit e.last firm
told-leaves l day told.Repeat firm = refl
told-leaves l day (told.Unmatched r) firm = refl

balance-leaves : (k : BalanceKind) (line : Line) (v : Verdict) (firm : Firm) → (after (by_balance k line v) firm).dismissals ≡ firm.dismissals
balance-leaves k line own.Applied firm = refl
balance-leaves k line own.Repeat firm = refl
balance-leaves k line own.Unmatched firm = refl

firm_line-leaves : (line : Line) (v : Verdict) (firm : Firm) → (after (by_firm_line line v) firm).dismissals ≡ firm.dismissals
firm_line-leaves line own.Applied firm = refl
firm_line-leaves line own.Repeat firm = refl
firm_line-leaves line own.Unmatched firm = refl

item-leaves : (day : ℕ) (firm : Firm) (it : Item) → (after_item day firm it).dismissals ≡ firm.dismissals
item-leaves day firm (item.Opening line) = balance-leaves kind.Opening line (balance_on firm kind.Opening line day) firm
item-leaves day firm (item.Closing line) = balance-leaves kind.Closing line (balance_on firm kind.Closing line day) firm
item-leaves day firm (item.OfMatter l) = told-leaves l day (line_on (of l.matter firm) l day) firm
item-leaves day firm (item.OfFirm line) = firm_line-leaves line (firm_line_on firm line day) firm
item-leaves day firm (item.Stray line) = refl
item-leaves day firm (item.Unreadable number) = refl

items-leave : (day : ℕ) (firm : Firm) (items : List Item) → (after_items day firm items).dismissals ≡ firm.dismissals
items-leave day firm items =
    items-keep (λ f. f.dismissals ≡ firm.dismissals) (λ d f it is. item-leaves d f it ∙ is) day firm items refl

-- A step.

asked-leaves : (o : Option Refusal) (m : ℕ) (a : Asked) (firm : Firm) → (after_asked o m a firm).dismissals ≡ firm.dismissals
asked-leaves None m a firm = edit-leaves-dismissals m _ _ firm
asked-leaves (Some r) m a firm = refl

none-more : (firm new : Firm) → new.dismissals ≡ firm.dismissals → new.dismissals ≡ firm.dismissals ++ []
none-more firm new same = same ∙ sym (append-nil firm.dismissals)

dismissed-kept : (o : Option Refusal) (day : ℕ) (line : Line) (firm : Firm)
    → (dismissed_unless day o line firm).dismissals ≡ firm.dismissals ++ unless_refused o (record { day = day; line = line })
dismissed-kept None day line firm = refl
dismissed-kept (Some r) day line firm = sym (append-nil firm.dismissals)

kind-keeps : (day : ℕ) (firm : Firm) (k : Kind)
    → (kind_step day firm k).firm.dismissals ≡ firm.dismissals ++ kind_dismisses (λ caller line. dismiss_refusal caller line firm) day k
kind-keeps day firm (OfMatter m caller ask) =
    let a = asked_on day caller ask in
    none-more firm (after_asked (refusal (of m firm) a) m a firm) (asked-leaves (refusal (of m firm) a) m a firm)
kind-keeps day firm (OfActs m caller) = none-more firm firm refl
kind-keeps day firm (OfItems why items) = none-more firm (after_items day firm items) (items-leave day firm items)
kind-keeps day firm (Dismisses caller line) = dismissed-kept (dismiss_refusal caller line firm) day line firm
kind-keeps day firm (OnlyTold text) = none-more firm firm refl
kind-keeps day firm (OnlyShown json) = none-more firm firm refl
kind-keeps day firm (NotRead named r) = none-more firm firm refl

pub steps-keep-dismissals : StepsKeepDismissals
steps-keep-dismissals day firm h = kind-keeps day firm (kind_of h)

-- By the reply.

abbrev kind_told : ℕ → Reply → Kind → List Dismissal
kind_told day reply k = kind_dismisses (λ caller line. refusal_told reply.body) day k

refused-told : (o : Option Refusal) → refusal_told (dismiss_reply o).body ≡ o
refused-told None = refl
refused-told (Some r) = refl

told-by-step : (day : ℕ) (firm : Firm) (k : Kind)
    → kind_dismisses (λ caller line. dismiss_refusal caller line firm) day k ≡ kind_told day (kind_step day firm k).reply k
told-by-step day firm (OfMatter m caller ask) = refl
told-by-step day firm (OfActs m caller) = refl
told-by-step day firm (OfItems why items) = refl
told-by-step day firm (Dismisses caller line) =
    ap (λ o. unless_refused o (record { day = day; line = line })) (sym (refused-told (dismiss_refusal caller line firm)))
told-by-step day firm (OnlyTold text) = refl
told-by-step day firm (OnlyShown json) = refl
told-by-step day firm (NotRead named r) = refl

-- what is stopped dismisses nothing
stopped-leaves : (day : ℕ) (firm new : Firm) (k : Kind) → KindStopped day firm k new → new.dismissals ≡ firm.dismissals
stopped-leaves day firm new (OfItems why items) stop =
    ap (λ (f : Firm). f.dismissals) stop.1.leaves ∙ items-leave day firm stop.1.front
stopped-leaves day firm new _ stop = ap (λ (f : Firm). f.dismissals) stop

none-told : (day : ℕ) (r : Refusal) (k : Kind) → kind_told day (refused r) k ≡ []
none-told day r (OfMatter m caller ask) = refl
none-told day r (OfActs m caller) = refl
none-told day r (OfItems why items) = refl
none-told day r (Dismisses caller line) = refl
none-told day r (OnlyTold text) = refl
none-told day r (OnlyShown json) = refl
none-told day r (NotRead named why) = refl

stopped-told : (day : ℕ) (reply : Reply) (k : Kind) → IsFaultReply reply → kind_told day reply k ≡ []
stopped-told day reply k (inl is) = ap (λ r. kind_told day r k) is ∙ none-told day Store k
stopped-told day reply k (inr is) = ap (λ r. kind_told day r k) is ∙ none-told day Memory k

step-keeps : (day : ℕ) (firm new : Firm) (h : Heard) (reply : Reply) → Steps day firm h reply new
    → new.dismissals ≡ firm.dismissals ++ told_dismissed day h reply
step-keeps day firm new h reply =
    elim (is_fault_reply reply) as (λ b. MatchBool b (IsStopped day firm h reply new) ((reply ≡ (firm_step day firm h).reply) × (new ≡ (firm_step day firm h).firm)) → new.dismissals ≡ firm.dismissals ++ told_dismissed day h reply) [
      | true ↦ λ stopped.
          none-more firm new (stopped-leaves day firm new (kind_of h) stopped.leaves)
          ∙ ap (λ ds. firm.dismissals ++ ds) (sym (stopped-told day reply (kind_of h) stopped.says))
      | false ↦ λ is.
          ap (λ (f : Firm). f.dismissals) is.1
          ∙ (steps-keep-dismissals day firm h
          ∙ ap (λ ds. firm.dismissals ++ ds) (told-by-step day firm (kind_of h) ∙ ap (λ r. kind_told day r (kind_of h)) (sym is.0)))
    ]

-- A run.

then : (firm mid new : Firm) (xs ys : List Dismissal) → mid.dismissals ≡ firm.dismissals ++ xs → new.dismissals ≡ mid.dismissals ++ ys
    → new.dismissals ≡ firm.dismissals ++ (xs ++ ys)
then firm mid new xs ys first second =
    second ∙ (ap (λ ds. ds ++ ys) first ∙ append_assoc firm.dismissals xs ys)

run-keeps : (day : ℕ) (firm new : Firm) (hs : List Heard) (replies : List Reply) → Runs day firm hs replies new
    → new.dismissals ≡ firm.dismissals ++ dismissed_in day hs replies
run-keeps day firm new [] [] run = none-more firm new (ap (λ (f : Firm). f.dismissals) run)
run-keeps day firm new (h ∷ hs) (reply ∷ replies) run =
    then firm run.0 new (told_dismissed day h reply) (dismissed_in day hs replies)
    (step-keeps day firm run.0 h reply run.1) (run-keeps day run.0 new hs replies run.2)
run-keeps day firm new _ _ run = absurd run

pub runs-keep-dismissals : RunsKeepDismissals
runs-keep-dismissals firm new [] run = none-more firm new (ap (λ (f : Firm). f.dismissals) run)
runs-keep-dismissals firm new (r ∷ runs) run =
    then firm run.0 new (dismissed_in r.day r.heard r.replies) (dismissed_on runs)
    (run-keeps r.day firm run.0 r.heard r.replies run.1) (runs-keep-dismissals run.0 new runs run.2)
