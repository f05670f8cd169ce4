-- How the trial balance, the journal, the retention list and the exceptions are printed.
use Rattle.std.specs.Prelude.{ℕ, ℤ, List, [], ◌∷◌, ◌++◌, codes, flat_map, if◌then◌else◌}
use Rattle.trust_base.specs.Texts.{day_text, matter_text, signed_text}
use Rattle.trust_base.specs.declared.line.Line.{Line}
use Rattle.firm_figures.specs.declared.journal_sink.JournalLine.{JournalLine}
use Rattle.firm_figures.specs.declared.retention_sink.RetentionLine.{RetentionLine}
use Rattle.firm_figures.specs.declared.trial_sink.TrialLine.{TrialLine}
use Rattle.trust_reports.specs.Texts.{column, heading, line, or_dash, owner_text, words_shown}

-- The firm's figures: labels take 14 places, figures 24.

abbrev pub figure_line : List ℕ → ℤ → List ℕ
figure_line label figure = column 14 24 label (signed_text figure)

-- The trial balance: the ledger of each open matter, the firm's own balance, and their sum.

abbrev pub trial_line : TrialLine → List ℕ
trial_line l = figure_line (matter_text l.matter) l.ledger

abbrev pub trial_text : ℕ → List TrialLine → ℤ → ℤ → List ℕ
trial_text today lines own total =
    heading (codes "TRIAL BALANCE") today
    ++ (flat_map trial_line lines
    ++ (figure_line (codes "FIRM") own
    ++ figure_line (codes "TOTAL") total))

-- The journal: each movement with its day, whose it is, its signed amount, and the running sum.

abbrev pub journal_line : JournalLine → List ℕ
journal_line l =
    line (day_text l.movement.day)
    (owner_text l.movement.owner ∷ signed_text l.movement.amount ∷ signed_text l.sum ∷ [])

abbrev pub journal_text : ℕ → List JournalLine → List ℕ
journal_text today lines = heading (codes "JOURNAL") today ++ flat_map journal_line lines

-- The retention list: each closed matter, until when its records are kept, and whether it may be purged.

abbrev pub purge_fields : RetentionLine → List (List ℕ)
purge_fields l = if l.may_purge then codes "MAY PURGE" ∷ [] else []

abbrev pub retention_line : RetentionLine → List ℕ
retention_line l =
    line (matter_text l.matter)
    (codes "CLOSED" ∷ day_text l.closed ∷ codes "KEEP UNTIL" ∷ day_text l.until ∷ purge_fields l)

abbrev pub retention_text : ℕ → List RetentionLine → List ℕ
retention_text today lines = heading (codes "RETENTION") today ++ flat_map retention_line lines

-- The exceptions: bank lines that matched nothing, with a dash for an empty field.

abbrev pub exception_line : Line → List ℕ
exception_line l =
    line (day_text l.date)
    (or_dash l.reference ∷ or_dash l.bank_ref ∷ signed_text l.amount ∷ words_shown l.text ∷ [])

abbrev pub exceptions_text : ℕ → List Line → List ℕ
exceptions_text today lines = heading (codes "EXCEPTIONS") today ++ flat_map exception_line lines
