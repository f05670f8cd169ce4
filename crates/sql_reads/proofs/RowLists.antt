-- What lists of rows are once all rows were handed to them.
use Rattle.sql_reads.proofs.Names.{◌≡◌, List, [], ◌∷◌, ◌++◌, fold, refl, sym, ap, ◌∙◌, append-nil, append_assoc, BalanceRow, Dismissal, MatterAct, Firm, empty_firm, firm_of, with_acts, with_trail, without_matters, arith, ints, nat_tests}
use Rattle.trust_base.specs.declared.line.Line.{Line}
use Rattle.firm_rows.specs.declared.movement.Movement.{Movement}
use Rattle.firm_rows.specs.declared.ledger.FirmLine.{FirmLine}

module _
    {F A : Type 0} (step : F → A → F) (with : List A → F)
    (steps : (ys : List A) (x : A) → step (with ys) x ≡ with (ys ++ x ∷ [])) where
  gathered : (ys xs : List A) → fold step (with ys) xs ≡ with (ys ++ xs)
  gathered ys [] = ap with (sym (append-nil ys))
  gathered ys (x ∷ xs) = grind (arith, ints, nat_tests, fold, append_assoc, (gathered (ys ++ x ∷ []) xs))

  pub gathered_on : (a b : F) (xs : List A) → a ≡ with [] → b ≡ fold step a xs → b ≡ with xs
  gathered_on a b xs start is = is ∙ ap (λ f. fold step f xs) start ∙ gathered [] xs

abbrev pub and_movement : Firm → Movement → Firm
and_movement lists movement = record lists { movements = lists.movements ++ movement ∷ [] }

abbrev pub and_firm_line : Firm → FirmLine → Firm
and_firm_line lists line = record lists { firm_lines = lists.firm_lines ++ line ∷ [] }

abbrev pub and_exception : Firm → Line → Firm
and_exception lists line = record lists { exceptions = lists.exceptions ++ line ∷ [] }

abbrev pub and_balance : Firm → BalanceRow → Firm
and_balance lists row = record lists { balances = lists.balances ++ row ∷ [] }

abbrev pub and_act : Firm → MatterAct → Firm
and_act lists act = record lists { acts = lists.acts ++ act ∷ [] }

abbrev pub and_dismissal : Firm → Dismissal → Firm
and_dismissal lists d = record lists { dismissals = lists.dismissals ++ d ∷ [] }

-- lists that were handed the movements, then the firm's lines, the exceptions, the balances, the acts, the dismissals
pub all_gathered : (firm a b c d e f g : Firm) → a ≡ empty_firm → b ≡ fold and_movement a firm.movements
    → c ≡ fold and_firm_line b firm.firm_lines → d ≡ fold and_exception c firm.exceptions
    → e ≡ fold and_balance d firm.balances → f ≡ fold and_act e firm.acts
    → g ≡ fold and_dismissal f firm.dismissals → g ≡ without_matters firm
all_gathered firm a b c d e f g none moved lined noted balanced acted dismissed =
    let one = gathered_on and_movement (λ ms. firm_of [] ms [] [] []) (λ ys x. refl) a b firm.movements none moved in
    let two =
    gathered_on and_firm_line (λ ls. firm_of [] firm.movements ls [] []) (λ ys x. refl) b c firm.firm_lines one lined in
    let three =
    gathered_on and_exception (λ es. firm_of [] firm.movements firm.firm_lines es []) (λ ys x. refl) c d firm.exceptions
    two noted in
    let four =
    gathered_on and_balance (λ bs. firm_of [] firm.movements firm.firm_lines firm.exceptions bs) (λ ys x. refl) d e
    firm.balances three balanced in
    let five =
    gathered_on and_act
    (λ xs. with_acts xs (firm_of [] firm.movements firm.firm_lines firm.exceptions firm.balances)) (λ ys x. refl) e f
    firm.acts four acted in
    gathered_on and_dismissal
    (λ xs. with_trail firm.acts xs (firm_of [] firm.movements firm.firm_lines firm.exceptions firm.balances))
    (λ ys x. refl) f g firm.dismissals five dismissed
