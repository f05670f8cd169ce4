use Rattle.sql_rows.proofs.Names.{◌≡◌, subst, sym, ap, ◌∙◌, rules, after_tab, before_tab, behind, Line, IsField, line_column}
use Rattle.trust_base.specs.BankTexts.{IsBankText, IsLineText}
use Rattle.sql_rows.proofs.Dismissals.{line_joined, line_parted, only_line}
use Rattle.sql_rows.proofs.Faults.{at_any_error, at_error, gives_back}
use Rattle.sql_rows.proofs.dismissal.line_in.Goals as goal

-- the text of a line has all its tabs

pub returns-in_err-reference-clause-back : goal.returns-in_err-reference-clause-back
returns-in_err-reference-clause-back c l is same =
    let parts = line_parted l c.args.text.now is same in
    let at1 : c.in_ok-date.rest.now ≡ after_tab c.args.text.now = search rules in
    absurd (parts.reference.ends (subst IsField at1 c.in_err-reference.ensures.none.1))

pub returns-in_err-bank_ref-clause-back : goal.returns-in_err-bank_ref-clause-back
returns-in_err-bank_ref-clause-back c l is same =
    let parts = line_parted l c.args.text.now is same in
    let at1 : c.in_ok-date.rest.now ≡ after_tab c.args.text.now = search rules in
    let after2 : c.in_ok-reference.rest.now ≡ after_tab c.in_ok-date.rest.now = search rules in
    let at2 : c.in_ok-reference.rest.now ≡ behind 2 c.args.text.now = after2 ∙ ap after_tab at1 in
    absurd (parts.bank_ref.ends (subst IsField at2 c.in_err-bank_ref.ensures.none.1))

pub returns-in_err-amount-clause-back : goal.returns-in_err-amount-clause-back
returns-in_err-amount-clause-back c l is same =
    let parts = line_parted l c.args.text.now is same in
    let at1 : c.in_ok-date.rest.now ≡ after_tab c.args.text.now = search rules in
    let after2 : c.in_ok-reference.rest.now ≡ after_tab c.in_ok-date.rest.now = search rules in
    let at2 : c.in_ok-reference.rest.now ≡ behind 2 c.args.text.now = after2 ∙ ap after_tab at1 in
    let after3 : c.in_ok-bank_ref.rest.now ≡ after_tab c.in_ok-reference.rest.now = search rules in
    let at3 : c.in_ok-bank_ref.rest.now ≡ behind 3 c.args.text.now = after3 ∙ ap after_tab at2 in
    absurd (parts.amount.ends (subst IsField at3 c.in_err-amount.ensures.none.1))

-- and valid fields

pub returns-in_err-date-2-clause-back : goal.returns-in_err-date-2-clause-back
returns-in_err-date-2-clause-back c l is same =
    let parts = line_parted l c.args.text.now is same in
    let field : c.in_ok-date.date.now ≡ before_tab c.args.text.now = search rules in
    absurd (c.in_err-date-2.ensures.none.1 l.date is.0 (sym (field ∙ parts.date.before)))

pub returns-in_err-amount-2-clause-back : goal.returns-in_err-amount-2-clause-back
returns-in_err-amount-2-clause-back c l is same =
    let parts = line_parted l c.args.text.now is same in
    let at1 : c.in_ok-date.rest.now ≡ after_tab c.args.text.now = search rules in
    let after2 : c.in_ok-reference.rest.now ≡ after_tab c.in_ok-date.rest.now = search rules in
    let at2 : c.in_ok-reference.rest.now ≡ behind 2 c.args.text.now = after2 ∙ ap after_tab at1 in
    let after3 : c.in_ok-bank_ref.rest.now ≡ after_tab c.in_ok-reference.rest.now = search rules in
    let at3 : c.in_ok-bank_ref.rest.now ≡ behind 3 c.args.text.now = after3 ∙ ap after_tab at2 in
    let field : c.in_ok-amount.amount.now ≡ before_tab c.in_ok-bank_ref.rest.now = search rules in
    absurd (c.in_err-amount-2.ensures.none.1 l.amount is.3 (sym (field ∙ ap before_tab at3 ∙ parts.amount.before)))

pub returns-in_err-bank_text_in-clause-back : goal.returns-in_err-bank_text_in-clause-back
returns-in_err-bank_text_in-clause-back c l is same =
    let parts = line_parted l c.args.text.now is same in
    let at1 : c.in_ok-date.rest.now ≡ after_tab c.args.text.now = search rules in
    let field : c.in_ok-reference.reference.now ≡ before_tab c.in_ok-date.rest.now = search rules in
    gives_back l _ _ c.from_residual-in_err-bank_text_in.ensures.1
    (c.in_err-bank_text_in.ensures.err.1
    (subst IsBankText (sym (field ∙ ap before_tab at1 ∙ parts.reference.before)) is.1))

pub returns-in_err-bank_text_in-2-clause-back : goal.returns-in_err-bank_text_in-2-clause-back
returns-in_err-bank_text_in-2-clause-back c l is same =
    let parts = line_parted l c.args.text.now is same in
    let at1 : c.in_ok-date.rest.now ≡ after_tab c.args.text.now = search rules in
    let after2 : c.in_ok-reference.rest.now ≡ after_tab c.in_ok-date.rest.now = search rules in
    let at2 : c.in_ok-reference.rest.now ≡ behind 2 c.args.text.now = after2 ∙ ap after_tab at1 in
    let field : c.in_ok-bank_ref.bank_ref.now ≡ before_tab c.in_ok-reference.rest.now = search rules in
    gives_back l _ _ c.from_residual-in_err-bank_text_in-2.ensures.1
    (c.in_err-bank_text_in-2.ensures.err.1
    (subst IsBankText (sym (field ∙ ap before_tab at2 ∙ parts.bank_ref.before)) is.2))

pub returns-in_err-line_text_in-clause-back : goal.returns-in_err-line_text_in-clause-back
returns-in_err-line_text_in-clause-back c l is same =
    let parts = line_parted l c.args.text.now is same in
    let at1 : c.in_ok-date.rest.now ≡ after_tab c.args.text.now = search rules in
    let after2 : c.in_ok-reference.rest.now ≡ after_tab c.in_ok-date.rest.now = search rules in
    let at2 : c.in_ok-reference.rest.now ≡ behind 2 c.args.text.now = after2 ∙ ap after_tab at1 in
    let after3 : c.in_ok-bank_ref.rest.now ≡ after_tab c.in_ok-reference.rest.now = search rules in
    let at3 : c.in_ok-bank_ref.rest.now ≡ behind 3 c.args.text.now = after3 ∙ ap after_tab at2 in
    let after4 : c.in_ok-amount.words.now ≡ after_tab c.in_ok-bank_ref.rest.now = search rules in
    let at4 : c.in_ok-amount.words.now ≡ behind 4 c.args.text.now = after4 ∙ ap after_tab at3 in
    gives_back l _ _ c.from_residual-in_err-line_text_in.ensures.1
    (c.in_err-line_text_in.ensures.err.1 (subst IsLineText (sym (at4 ∙ parts.amount.after)) is.4))

-- where memory runs out

pub returns-in_err-bank_text_in-clause-memory : goal.returns-in_err-bank_text_in-clause-memory
returns-in_err-bank_text_in-clause-memory c =
    let line : Line = record {
      date = c.in_ok-date-2.date;
      reference = c.in_ok-reference.reference.now;
      bank_ref = c.in_ok-bank_ref.bank_ref.now;
      amount = c.in_ok-amount-2.amount;
      text = c.in_ok-amount.words.now;
    } in
    let shown : line_column line ≡ c.args.text.now =
    line_joined line c.args.text.now c.in_ok-date.date.now c.in_ok-date.rest.now c.in_ok-reference.rest.now
    c.in_ok-bank_ref.rest.now c.in_ok-amount.amount.now (search rules) (search rules) (search rules) (search rules)
    (search rules) (search rules) in
    at_error _ _ c.from_residual-in_err-bank_text_in.ensures.1 (λ none. record {
      line = line;
      shown = shown;
      dated = c.in_ok-date-2.ensures.form;
      referred = c.in_err-bank_text_in.ensures.err.0 none;
      amounts = c.in_ok-amount-2.ensures.form;
    })

pub returns-in_err-bank_text_in-2-clause-memory : goal.returns-in_err-bank_text_in-2-clause-memory
returns-in_err-bank_text_in-2-clause-memory c =
    let line : Line = record {
      date = c.in_ok-date-2.date;
      reference = c.in_ok-reference.reference.now;
      bank_ref = c.in_ok-bank_ref.bank_ref.now;
      amount = c.in_ok-amount-2.amount;
      text = c.in_ok-amount.words.now;
    } in
    let shown : line_column line ≡ c.args.text.now =
    line_joined line c.args.text.now c.in_ok-date.date.now c.in_ok-date.rest.now c.in_ok-reference.rest.now
    c.in_ok-bank_ref.rest.now c.in_ok-amount.amount.now (search rules) (search rules) (search rules) (search rules)
    (search rules) (search rules) in
    let valid : IsBankText c.in_ok-reference.reference.now =
    subst IsBankText c.in_ok-bank_text_in.ensures.ok c.in_ok-bank_text_in.ensures.form in
    at_any_error c.from_residual-in_err-bank_text_in-2.result (record {
      line = line;
      shown = shown;
      dated = c.in_ok-date-2.ensures.form;
      referred = valid;
      amounts = c.in_ok-amount-2.ensures.form;
    })

pub returns-in_err-line_text_in-clause-memory : goal.returns-in_err-line_text_in-clause-memory
returns-in_err-line_text_in-clause-memory c =
    let line : Line = record {
      date = c.in_ok-date-2.date;
      reference = c.in_ok-reference.reference.now;
      bank_ref = c.in_ok-bank_ref.bank_ref.now;
      amount = c.in_ok-amount-2.amount;
      text = c.in_ok-amount.words.now;
    } in
    let shown : line_column line ≡ c.args.text.now =
    line_joined line c.args.text.now c.in_ok-date.date.now c.in_ok-date.rest.now c.in_ok-reference.rest.now
    c.in_ok-bank_ref.rest.now c.in_ok-amount.amount.now (search rules) (search rules) (search rules) (search rules)
    (search rules) (search rules) in
    let valid : IsBankText c.in_ok-reference.reference.now =
    subst IsBankText c.in_ok-bank_text_in.ensures.ok c.in_ok-bank_text_in.ensures.form in
    at_any_error c.from_residual-in_err-line_text_in.result (record {
      line = line;
      shown = shown;
      dated = c.in_ok-date-2.ensures.form;
      referred = valid;
      amounts = c.in_ok-amount-2.ensures.form;
    })

-- a line that was read

pub returns-clause-back : goal.returns-clause-back
returns-clause-back c l is same =
    let read : Line = record {
      date = c.in_ok-date-2.date;
      reference = c.in_ok-bank_text_in.field-0;
      bank_ref = c.in_ok-bank_text_in-2.field-0;
      amount = c.in_ok-amount-2.amount;
      text = c.in_ok-line_text_in.field-0;
    } in
    only_line read l c.args.text.now c.has_form.ensures is (search rules) same
