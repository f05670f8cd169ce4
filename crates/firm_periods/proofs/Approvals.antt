-- What the sink of approvals stores of a firm are the payments of its period, each with who approved it.
use Rattle.firm_periods.proofs.Names.{◌≡◌, ℕ, Bool, true, false, cond, List, [], ◌∷◌, ◌++◌, map, Option, Some, None, refl, sym, ap, ◌∙◌, append-nil, append_assoc, arith, ◌&&◌, ◌||◌, fold, flat_map, list_any, Row, HeadRow, SeatRow, EntryRow, Firm, in_order, IsStrictWeakOrder, ranks_by}
use Rattle.std.proofs.lemmas.Cmp.{on_total, nat_cmp_total}
use Rattle.matter_rows.specs.Rows.{is_number}
use Rattle.trail_laws.specs.Signed.{is_approval}
use Rattle.matter_rows.specs.declared.act.Caller.{Caller}
use Rattle.firm_rows.specs.declared.matter_act.MatterAct.{MatterAct}
use Rattle.firm_periods.specs.declared.approvals_sink.IssuedPayment.{IssuedPayment}
use Rattle.std.specs.Prelude.{◌==◌}
use Rattle.trust_base.specs.Periods.{Span}
use Rattle.firm_periods.specs.Named.{is_head_purged_within, is_purged_within, is_row_purged_within}
use Rattle.firm_periods.specs.Approvals.{ApprovalsAreKept, ApprovalsKept, approvals_kept, approved_by, approver_in, approves_in, is_issued_earlier, issued_in_row, issued_of_entry, no_approvals, with_approval, with_issued_row}

-- by the day of issue is an order
pub issued_order : IsStrictWeakOrder is_issued_earlier
issued_order = ranks_by (on_total (λ (v : IssuedPayment). v.issued) nat_cmp_total) (λ (v : IssuedPayment). v)

-- The acts: of those that are no approvals nothing is told.

abbrev told : ℕ → ℕ → Option Caller → List MatterAct → Option Caller
told m n who acts = fold (λ w (a : MatterAct). cond (approves_in m n a) (Some a.act.caller) w) who acts

told-append : (m n : ℕ) (who : Option Caller) (xs ys : List MatterAct) → told m n who (xs ++ ys) ≡ told m n (told m n who xs) ys
told-append m n who [] ys = refl
told-append m n who (x ∷ xs) ys = told-append m n (cond (approves_in m n x) (Some x.act.caller) who) xs ys

one-told : (m n : ℕ) (who : Option Caller) (a : MatterAct) → told m n who (cond (is_approval a.act.deed) (a ∷ []) []) ≡ cond (approves_in m n a) (Some a.act.caller) who
one-told m n who a = cases (is_approval a.act.deed) refl
  where
    cases : (b : Bool) → is_approval a.act.deed ≡ b → told m n who (cond b (a ∷ []) []) ≡ cond ((b && is_number a.act.entry n) && a.matter == m) (Some a.act.caller) who
    cases true is = ap (λ c. cond ((c && is_number a.act.entry n) && a.matter == m) (Some a.act.caller) who) is
    cases false is = refl

acts-told : (m n : ℕ) (s : ApprovalsKept) (acts : List MatterAct) → approver_in (fold with_approval s acts).acts m n ≡ told m n (approver_in s.acts m n) acts
acts-told m n s [] = refl
acts-told m n s (a ∷ acts) =
    acts-told m n (with_approval s a) acts
    ∙ ap (λ who. told m n who acts)
    (told-append m n None s.acts (cond (is_approval a.act.deed) (a ∷ []) []) ∙ one-told m n (approver_in s.acts m n) a)

acts-lines : (s : ApprovalsKept) (acts : List MatterAct) → (fold with_approval s acts).lines ≡ s.lines
acts-lines s [] = refl
acts-lines s (a ∷ acts) = acts-lines (with_approval s a) acts

acts-period : (s : ApprovalsKept) (acts : List MatterAct) → (fold with_approval s acts).period ≡ s.period
acts-period s [] = refl
acts-period s (a ∷ acts) = acts-period (with_approval s a) acts

acts-purged : (s : ApprovalsKept) (acts : List MatterAct) → (fold with_approval s acts).purged ≡ s.purged
acts-purged s [] = refl
acts-purged s (a ∷ acts) = acts-purged (with_approval s a) acts

-- The rows.

rows-acts : (s : ApprovalsKept) (rows : List (ℕ × Row)) → (fold with_issued_row s rows).acts ≡ s.acts
rows-acts s [] = refl
rows-acts s ((m, HeadRow h) ∷ rows) = rows-acts (with_issued_row s (m, HeadRow h)) rows
rows-acts s ((m, SeatRow seat) ∷ rows) = rows-acts s rows
rows-acts s ((m, EntryRow n e) ∷ rows) = rows-acts (with_issued_row s (m, EntryRow n e)) rows

rows-lines : (s : ApprovalsKept) (rows : List (ℕ × Row)) → (fold with_issued_row s rows).lines ≡ s.lines ++ flat_map (issued_in_row s.period) rows
rows-lines s [] = sym (append-nil s.lines)
rows-lines s ((m, HeadRow h) ∷ rows) = rows-lines (with_issued_row s (m, HeadRow h)) rows
rows-lines s ((m, SeatRow seat) ∷ rows) = rows-lines s rows
rows-lines s ((m, EntryRow n e) ∷ rows) =
    rows-lines (with_issued_row s (m, EntryRow n e)) rows
    ∙ append_assoc s.lines (issued_of_entry s.period m n e) (flat_map (issued_in_row s.period) rows)

either : (a b c : Bool) → (b || (a || c)) ≡ ((a || b) || c)
either a b c = grind arith

rows-purged : (s : ApprovalsKept) (rows : List (ℕ × Row)) → (fold with_issued_row s rows).purged ≡ (list_any (is_row_purged_within s.period) rows || s.purged)
rows-purged s [] = refl
rows-purged s ((m, HeadRow h) ∷ rows) = rows-purged (with_issued_row s (m, HeadRow h)) rows ∙ either (is_head_purged_within s.period h) (list_any (is_row_purged_within s.period) rows) s.purged
rows-purged s ((m, SeatRow seat) ∷ rows) = rows-purged s rows
rows-purged s ((m, EntryRow n e) ∷ rows) = rows-purged (with_issued_row s (m, EntryRow n e)) rows

-- Both.

same-map : {A B : Type 0} (f g : A → B) → ((x : A) → f x ≡ g x) → (xs : List A) → map f xs ≡ map g xs
same-map f g each [] = refl
same-map f g each (x ∷ xs) = λ i. each x i ∷ same-map f g each xs i

or-nothing : (b : Bool) → (b || false) ≡ b
or-nothing b = grind arith

module _ (s : Span) (firm : Firm) where
  abbrev after_acts : ApprovalsKept
  after_acts = fold with_approval (no_approvals s) firm.acts

  abbrev kept : ApprovalsKept
  kept = approvals_kept s firm

  lines-kept : kept.lines ≡ flat_map (issued_in_row s) firm.rows
  lines-kept =
      rows-lines after_acts firm.rows
      ∙ (λ i. acts-lines (no_approvals s) firm.acts i ++ flat_map (issued_in_row (acts-period (no_approvals s) firm.acts i)) firm.rows)

  approver-kept : (m n : ℕ) → approver_in kept.acts m n ≡ approver_in firm.acts m n
  approver-kept m n =
      ap (λ (acts : List MatterAct). approver_in acts m n) (rows-acts after_acts firm.rows)
      ∙ acts-told m n (no_approvals s) firm.acts

  approved-kept : (v : IssuedPayment) → approved_by kept.acts v ≡ approved_by firm.acts v
  approved-kept v = ap (λ who. record v { approver = who }) (approver-kept v.matter v.number)

  purged-kept : kept.purged ≡ is_purged_within s firm
  unfolding is_purged_within
  purged-kept =
      rows-purged after_acts firm.rows
      ∙ ((λ i. list_any (is_row_purged_within (acts-period (no_approvals s) firm.acts i)) firm.rows || acts-purged (no_approvals s) firm.acts i)
      ∙ or-nothing (list_any (is_row_purged_within s) firm.rows))

pub approvals-kept : ApprovalsAreKept
approvals-kept s firm = record {
  lines = ap (in_order is_issued_earlier)
      (same-map (approved_by (kept s firm).acts) (approved_by firm.acts) (approved-kept s firm) (kept s firm).lines
      ∙ ap (map (approved_by firm.acts)) (lines-kept s firm));
  purged = purged-kept s firm;
}
