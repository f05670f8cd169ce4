-- What is told by what was kept of a firm's rows is the firm's reconciliation.
use Rattle.book_reports.proofs.Names.{Seen, ◌≡◌, ℕ, List, ◌++◌, Ok, Option, AreHanded, IsRead, fold, StoreFault, ap, sym, ◌∙◌, subst, is_none, Firm, FirmSound, ReconciliationKept, kept_told, reconciled, reconciliation_on, has_no_statement, reconciliation_report, text_of, arith, ints, nat_tests, IsBalanceInRange, IsFirmLineInRange, IsLineInRange, IsMovementInRange, IsRowInRange, IsKeptOf}
use Rattle.std.specs.Option.{option_map}
use Rattle.trust_reports.specs.Figures.{closing_on, figures, figures_on}
use Rattle.trust_reports.specs.Openings.{AreClosings}
use Rattle.trust_reports.specs.Purged.{is_period_purged}
use Rattle.trust_reports.specs.Reconciliations.{ReconciliationTold}
use Rattle.firm_figures.specs.Reconciliations.{nothing_kept, with_balance_noted, with_exception_kept, with_movement_kept, with_own_kept, with_row_kept}
use Rattle.figure_laws.proofs.ReconciliationRows.{reconciliation-kept}
use Rattle.book_reports.specs.declared.day_reports.Limits.{Limits}
use Rattle.book_reports.specs.DayReports.{IsAppended}
use Rattle.book_reports.proofs.ReadCalls.{handed-before}

pub none-map : {A C : Type 0} (f : A → C) (o : Option A) → is_none (option_map f o) ≡ is_none o
none-map f o = grind (arith, ints, nat_tests)

-- there is a reconciliation where and only where there is a closing balance of the day
none-found : (day : ℕ) (firm : Firm) → is_none (reconciliation_on day firm) ≡ has_no_statement day firm
unfolding has_no_statement
none-found day firm = none-map (reconciled day firm) (figures_on day firm) ∙ none-map (λ closing. figures day closing firm) (closing_on day firm.balances)

pub closings-kept : (day : ℕ) (firm : Firm) (kept : ReconciliationKept) → FirmSound firm → IsKeptOf day firm kept → AreClosings kept.balances.closings
closings-kept day firm kept sound is = subst (λ (k : ReconciliationKept). AreClosings k.balances.closings) (sym is.all) (reconciliation-kept day firm sound is.countable).rising

-- what was found, and what was written of it, is the reconciliation of the day and its limits
pub stated : (day : ℕ) (firm : Firm) (kept : ReconciliationKept) → FirmSound firm → IsKeptOf day firm kept
    → (limits : Limits) (found : Option ReconciliationTold) → limits.lacks_statement ≡ is_none found → limits.is_purged ≡ kept.period.purged → found ≡ kept_told kept
    → (old new : List ℕ) → new ≡ old ++ text_of day found
    → IsAppended limits (has_no_statement day firm) (is_period_purged day firm) old (reconciliation_report day firm) new
unfolding reconciliation_report
stated day firm kept sound is limits found lacks purged told old new text =
    let made = reconciliation-kept day firm sound is.countable in
    let same : found ≡ reconciliation_on day firm = told ∙ (ap kept_told is.all ∙ made.told) in
    record {
      stated = lacks ∙ (ap (λ (o : Option ReconciliationTold). is_none o) same ∙ none-found day firm);
      cut = purged ∙ (ap (λ (s : ReconciliationKept). s.period.purged) is.all ∙ made.purged);
      text = text ∙ ap (λ (o : Option ReconciliationTold). old ++ text_of day o) same;
    }

-- The rows are handed over one kind after the other.

pub rows-kept : {T : Type 0} {a b c d e f : Seen} {x y z v w : T}
    {s1 s2 s3 s4 s5 : ReconciliationKept} (day : ℕ) (s0 : ReconciliationKept) → s0 ≡ nothing_kept day
    → IsRead (Ok x) a b → (b.clean → a.stands → AreHanded {E = StoreFault} with_row_kept IsRowInRange a.firm.rows (Ok x) s0 s1)
    → IsRead (Ok y) b c → (c.clean → b.stands → AreHanded {E = StoreFault} with_movement_kept IsMovementInRange b.firm.movements (Ok y) s1 s2)
    → IsRead (Ok z) c d → (d.clean → c.stands → AreHanded {E = StoreFault} with_own_kept IsFirmLineInRange c.firm.firm_lines (Ok z) s2 s3)
    → IsRead (Ok v) d e → (e.clean → d.stands → AreHanded {E = StoreFault} with_exception_kept IsLineInRange d.firm.exceptions (Ok v) s3 s4)
    → IsRead (Ok w) e f → (f.clean → e.stands → AreHanded {E = StoreFault} with_balance_noted IsBalanceInRange e.firm.balances (Ok w) s4 s5)
    → f.clean → a.stands → IsKeptOf day a.firm s5
rows-kept {a} day s0 none r1 h1 r2 h2 r3 h3 r4 h4 r5 h5 c5 st0 =
    grind (arith, ints, nat_tests, handed-before, fold)
