-- The packet of month's end, from what was read of a firm's rows once.
use Rattle.book_reports.proofs.Names.{◌≡◌, ℕ, false, List, [], ◌∷◌, ◌++◌, Option, ap, refl, append_assoc, ◌∙◌, is_none, Firm, FirmSound, AreCountable, IsFirmLineInRange, IsRowInRange, clients_sum, clients_text, kept_told, text_of, has_no_statement, clients_report, reconciliation_report}
use Rattle.std.specs.Prelude.{◌||◌, ℤ}
use Rattle.trust_base.specs.Periods.{Span, month_to}
use Rattle.firm_periods.specs.Approvals.{approvals}
use Rattle.firm_periods.specs.Doubles.{in_order}
use Rattle.firm_periods.specs.Month.{IsListOf}
use Rattle.firm_periods.specs.Named.{NamedKept, is_earlier, is_purged_within, listed, named_kept, named_sum}
use Rattle.firm_periods.specs.declared.approvals_sink.IssuedPayment.{IssuedPayment}
use Rattle.firm_periods.specs.declared.named_sink.NamedList.{NamedList}
use Rattle.firm_periods.specs.declared.named_sink.Pick.{Pick}
use Rattle.firm_periods.specs.declared.named_sink.Pick.TheVariants as pick
use Rattle.firm_periods.proofs.NamedLists.{named-kept}
use Rattle.trust_reports.specs.Reconciliations.{ReconciliationTold}
use Rattle.trust_reports.specs.TextsOfActs.{approvals_text}
use Rattle.trust_reports.specs.TextsOfPeriods.{disbursements_text, outstanding_text, receipts_text}
use Rattle.firm_figures.specs.declared.clients_sink.ClientLine.{ClientLine}
use Rattle.book_reports.specs.declared.day_reports.Limits.{Limits}
use Rattle.book_reports.specs.declared.month.ReadMonth.{ReadMonth}
use Rattle.book_reports.specs.DayReports.{IsAppended}
use Rattle.book_reports.specs.Month.{IsListFor, IsMonthRead}
use Rattle.book_reports.specs.Reports.{approvals_report, disbursements_report, is_period_purged, month_report, outstanding_report, receipts_report}
use Rattle.book_reports.proofs.ReconciliationAnswers.{stated}
use Rattle.book_reports.proofs.ReportTexts.{clients-told}

-- a list that was stored of all rows is that of the firm
pub list-for : (pick : Pick) (firm : Firm) (kept : NamedKept) (list : NamedList)
    → AreCountable IsRowInRange firm.rows → AreCountable IsFirmLineInRange firm.firm_lines
    → kept ≡ named_kept pick firm → IsListOf kept list → IsListFor pick firm list
list-for pick firm kept list rows own is of =
    let made = named-kept pick firm in
    record {
      moves = of.moves ∙ (ap (λ (s : NamedKept). in_order is_earlier s.lines) is ∙ made.lines);
      total = of.total ∙ (ap named_sum is ∙ made.total rows own);
    }

-- The parts as they were read.

receipts-part : (s : Span) (firm : Firm) (list : NamedList) → IsListFor (pick.Receipts s) firm list
    → receipts_text s list.moves.items list.total ≡ receipts_report s firm
unfolding receipts_report
receipts-part s firm list is = λ i. receipts_text s (is.moves i) (is.total i)

disbursements-part : (s : Span) (firm : Firm) (list : NamedList) → IsListFor (pick.Disbursements s) firm list
    → disbursements_text s list.moves.items list.total ≡ disbursements_report s firm
unfolding disbursements_report
disbursements-part s firm list is = λ i. disbursements_text s (is.moves i) (is.total i)

outstanding-part : (day : ℕ) (firm : Firm) (transit out : NamedList)
    → IsListFor (pick.Transit day) firm transit → IsListFor (pick.Outstanding day) firm out
    → outstanding_text day transit.moves.items transit.total out.moves.items out.total ≡ outstanding_report day firm
unfolding outstanding_report
outstanding-part day firm transit out one other =
    λ i. outstanding_text day (one.moves i) (one.total i) (other.moves i) (other.total i)

approvals-part : (s : Span) (firm : Firm) (lines : List IssuedPayment) (unread : List (Option ℕ))
    → lines ≡ approvals s firm → unread ≡ [] → approvals_text s lines unread ≡ approvals_report s firm
unfolding approvals_report
approvals-part s firm lines unread is none = λ i. approvals_text s (is i) (none i)

packet : (t a b c d e f : List ℕ) → (((((((((((t ++ a) ++ 10 ∷ []) ++ b) ++ 10 ∷ []) ++ c) ++ 10 ∷ []) ++ d) ++ 10 ∷ []) ++ e) ++ 10 ∷ []) ++ f) ≡ t ++ (a ++ 10 ∷ (b ++ 10 ∷ (c ++ 10 ∷ (d ++ 10 ∷ (e ++ 10 ∷ f)))))
packet t a b c d e f = simp append_assoc

-- one part behind another, with an empty line between two
joined : (t0 a t1 u1 b t2 u2 c t3 u3 d t4 u4 e t5 u5 f t6 : List ℕ)
    → t1 ≡ t0 ++ a → u1 ≡ t1 ++ 10 ∷ [] → t2 ≡ u1 ++ b → u2 ≡ t2 ++ 10 ∷ [] → t3 ≡ u2 ++ c → u3 ≡ t3 ++ 10 ∷ []
    → t4 ≡ u3 ++ d → u4 ≡ t4 ++ 10 ∷ [] → t5 ≡ u4 ++ e → u5 ≡ t5 ++ 10 ∷ [] → t6 ≡ u5 ++ f
    → t6 ≡ t0 ++ (a ++ 10 ∷ (b ++ 10 ∷ (c ++ 10 ∷ (d ++ 10 ∷ (e ++ 10 ∷ f)))))
joined t0 a t1 u1 b t2 u2 c t3 u3 d t4 u4 e t5 u5 f t6 e1 f1 e2 f2 e3 f3 e4 f4 e5 f5 e6 =
    e6
    ∙ (ap (λ t. t ++ f) (f5 ∙ ap (λ t. t ++ 10 ∷ []) (e5
    ∙ ap (λ t. t ++ e) (f4 ∙ ap (λ t. t ++ 10 ∷ []) (e4
    ∙ ap (λ t. t ++ d) (f3 ∙ ap (λ t. t ++ 10 ∷ []) (e3
    ∙ ap (λ t. t ++ c) (f2 ∙ ap (λ t. t ++ 10 ∷ []) (e2
    ∙ ap (λ t. t ++ b) (f1 ∙ ap (λ t. t ++ 10 ∷ []) e1)))))))))
    ∙ packet t0 a b c d e f)

-- what was appended of what was read is the packet
pub month-told : (day : ℕ) (s : Span) (firm : Firm) (read : ReadMonth) (limits : Limits) (found : Option ReconciliationTold)
    (lines : List ClientLine) (own total : ℤ) (t0 t1 u1 t2 u2 t3 u3 t4 u4 t5 u5 t6 : List ℕ)
    → s ≡ month_to day → FirmSound firm → IsMonthRead day firm read
    → found ≡ kept_told read.parts.reconciliation → limits.lacks_statement ≡ is_none found
    → limits.is_purged ≡ (read.parts.reconciliation.period.purged || read.parts.is_purged)
    → lines ≡ read.parts.clients.lines → own ≡ read.parts.clients.own → total ≡ clients_sum read.parts.clients
    → t1 ≡ t0 ++ text_of day found → u1 ≡ t1 ++ 10 ∷ []
    → t2 ≡ u1 ++ clients_text day lines own total → u2 ≡ t2 ++ 10 ∷ []
    → t3 ≡ u2 ++ outstanding_text day read.parts.transit.moves.items read.parts.transit.total read.parts.outstanding.moves.items read.parts.outstanding.total → u3 ≡ t3 ++ 10 ∷ []
    → t4 ≡ u3 ++ receipts_text s read.parts.receipts.moves.items read.parts.receipts.total → u4 ≡ t4 ++ 10 ∷ []
    → t5 ≡ u4 ++ disbursements_text s read.parts.disbursements.moves.items read.parts.disbursements.total → u5 ≡ t5 ++ 10 ∷ []
    → t6 ≡ u5 ++ approvals_text s read.parts.approvals.items read.unread.items
    → IsAppended limits (has_no_statement day firm) (is_period_purged day firm || is_purged_within (month_to day) firm) t0 (month_report day firm) t6
unfolding month_report
month-told day s firm read limits found lines own total t0 t1 u1 t2 u2 t3 u3 t4 u4 t5 u5 t6 month sound is of lacks purged same mine all e1 f1 e2 f2 e3 f3 e4 f4 e5 f5 e6 =
    let countable = is.reconciliation.countable in
    let first = stated day firm read.parts.reconciliation sound is.reconciliation (record { lacks_statement = limits.lacks_statement; is_purged = read.parts.reconciliation.period.purged }) found lacks refl of t0 t1 e1 in
    let clients : clients_text day lines own total ≡ clients_report day firm =
    (λ i. clients_text day (same i) (mine i) (all i)) ∙ clients-told day firm read.parts.clients sound countable.rows countable.firm_lines is.clients in
    let moved : s ≡ month_to day = month in
    record {
      stated = first.stated;
      cut = purged ∙ (λ i. first.cut i || is.purged i);
      text = joined t0 (reconciliation_report day firm) t1 u1 (clients_report day firm) t2 u2 (outstanding_report day firm) t3 u3 (receipts_report (month_to day) firm) t4 u4 (disbursements_report (month_to day) firm) t5 u5 (approvals_report (month_to day) firm) t6
          first.text f1
          (e2 ∙ ap (λ t. u1 ++ t) clients) f2
          (e3 ∙ ap (λ t. u2 ++ t) (outstanding-part day firm read.parts.transit read.parts.outstanding is.transit is.outstanding)) f3
          (e4 ∙ (ap (λ p. u3 ++ receipts_text p read.parts.receipts.moves.items read.parts.receipts.total) moved ∙ ap (λ t. u3 ++ t) (receipts-part (month_to day) firm read.parts.receipts is.receipts))) f4
          (e5 ∙ (ap (λ p. u4 ++ disbursements_text p read.parts.disbursements.moves.items read.parts.disbursements.total) moved ∙ ap (λ t. u4 ++ t) (disbursements-part (month_to day) firm read.parts.disbursements is.disbursements))) f5
          (e6 ∙ (ap (λ p. u5 ++ approvals_text p read.parts.approvals.items read.unread.items) moved ∙ ap (λ t. u5 ++ t) (approvals-part (month_to day) firm read.parts.approvals.items read.unread.items is.approvals is.unread)));
    }
