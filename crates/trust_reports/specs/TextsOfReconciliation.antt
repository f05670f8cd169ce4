-- How a reconciliation is printed: ten figures as of a day, and the lists that go with them.
use Rattle.std.specs.Prelude.{ℕ, neg_ℤ, List, [], ◌∷◌, ◌++◌, codes, flat_map}
use Rattle.trust_base.specs.Texts.{day_text, signed_text}
use Rattle.trust_base.specs.declared.line.Line.{Line}
use Rattle.firm_figures.specs.declared.day_lists.Issued.{Issued}
use Rattle.firm_figures.specs.declared.day_lists.EntryLine.{EntryLine}
use Rattle.firm_figures.specs.declared.day_lists.OpeningLine.{OpeningLine}
use Rattle.firm_figures.specs.declared.figures.ReconciliationFigures.{ReconciliationFigures}
use Rattle.firm_figures.specs.Reconciliations.{ReconciliationTold}
use Rattle.trust_reports.specs.Texts.{heading, line, reference_text}
use Rattle.trust_reports.specs.TextsOfLists.{exception_line, figure_line}

-- the bank's side, adjusted for what is on its way
unfoldable pub bank_figures : ReconciliationFigures → List ℕ
bank_figures f =
    figure_line (codes "CLOSING") f.closing
    ++ (figure_line (codes "IN TRANSIT") f.transit
    ++ (figure_line (codes "OUTSTANDING") (neg_ℤ f.outstanding)
    ++ figure_line (codes "ADJUSTED BANK") f.adjusted))

-- the books' side, and what explains the difference
unfoldable pub book_figures : ReconciliationFigures → List ℕ
book_figures f =
    figure_line (codes "JOURNAL") f.journal
    ++ (figure_line (codes "LEDGERS") f.ledgers
    ++ (figure_line (codes "DIFFERENCE") f.difference
    ++ (figure_line (codes "EXCEPTIONS") f.exceptions
    ++ (figure_line (codes "EARLY") f.early
    ++ figure_line (codes "GAP") f.gap))))

-- an entry with one of its days and its signed amount
abbrev pub entry_line : List ℕ → EntryLine → List ℕ
entry_line word l = line word (reference_text l.matter l.entry ∷ day_text l.day ∷ signed_text l.amount ∷ [])

abbrev pub listed_exception : Line → List ℕ
listed_exception l = codes "EXCEPTION " ++ exception_line l

-- a payment with the same instrument as another
abbrev pub double_line : Issued → List ℕ
double_line l =
    line (codes "DOUBLE")
    (reference_text l.matter l.entry ∷ day_text l.day ∷ signed_text l.amount ∷ l.instrument ∷ [])

-- an opening that differs from the latest closing before it
abbrev pub opening_line : OpeningLine → List ℕ
opening_line l =
    line (codes "OPENING")
    (day_text l.day ∷ signed_text l.amount ∷ codes "AFTER" ∷ day_text l.after ∷ signed_text l.closing ∷ [])

-- entries by matter and number, then exceptions in their order, doubles by instrument, openings by day
abbrev pub reconciliation_text : ℕ → ReconciliationTold → List ℕ
reconciliation_text p r =
    heading (codes "RECONCILIATION") p
    ++ (bank_figures r.figures
    ++ (book_figures r.figures
    ++ (flat_map (entry_line (codes "TRANSIT")) r.transit
    ++ (flat_map (entry_line (codes "OUT")) r.out
    ++ (flat_map listed_exception r.exceptions
    ++ (flat_map (entry_line (codes "EARLY")) r.early
    ++ (flat_map double_line r.doubles
    ++ flat_map opening_line r.openings)))))))
