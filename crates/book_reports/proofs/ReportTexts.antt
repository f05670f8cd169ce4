-- The texts of what the sinks kept are the reports.
use Rattle.book_reports.proofs.Names.{◌≡◌, ℕ, List, [], ◌∷◌, ◌++◌, fold, sym, ap, ◌∙◌, append_assoc, append-nil, codes, Firm, FirmSound, JournalKept, TrialKept, no_journal, trial_kept, trial_of, trial_sum, with_moved, Retained, none_retained, with_row_retained, exception_line, exceptions_text, journal_text, retention_text, trial_text, exceptions_report, journal_report, retention_report, trial_report, sound-covered, ClientsKept, clients_of, clients_sum, clients_text, clients_report, no_clients, with_client_own, with_client_row, arith, ints, nat_tests, AreCountable, IsFirmLineInRange, IsMovementInRange, IsRowInRange}
use Rattle.std.proofs.Common.{flat_map}
use Rattle.figure_laws.proofs.ClientRows.{clients-kept}
use Rattle.figure_laws.proofs.ClientTotal as client_total
use Rattle.figure_laws.proofs.Lists.{journal-kept, retention-kept}
use Rattle.figure_laws.proofs.Trial.{total-kept, trial-kept}
use Rattle.trust_reports.specs.Texts.{heading}

pub trial-told : (today : ℕ) (firm : Firm) (kept : TrialKept) → FirmSound firm → AreCountable IsRowInRange firm.rows → AreCountable IsFirmLineInRange firm.firm_lines → kept ≡ trial_kept firm → trial_text today kept.lines kept.own (trial_sum kept) ≡ trial_report today firm
unfolding trial_report
trial-told today firm kept sound some few is =
    grind (arith, ints, nat_tests, trial_of, trial-kept, trial_sum, total-kept, trial_text)

-- what was collected as of a day is the list of clients
pub clients-listed : (day : ℕ) (firm : Firm) (kept : ClientsKept) → FirmSound firm → AreCountable IsRowInRange firm.rows → AreCountable IsFirmLineInRange firm.firm_lines → kept ≡ fold with_client_own (fold with_client_row (no_clients day) firm.rows) firm.firm_lines → kept ≡ clients_of day firm
clients-listed day firm kept sound some few is = is ∙ clients-kept day firm sound.in_order some few

pub clients-told : (day : ℕ) (firm : Firm) (kept : ClientsKept) → FirmSound firm → AreCountable IsRowInRange firm.rows → AreCountable IsFirmLineInRange firm.firm_lines → kept ≡ clients_of day firm → clients_text day kept.lines kept.own (clients_sum kept) ≡ clients_report day firm
unfolding clients_report
clients-told day firm kept sound some few is =
    ap (λ (s : ClientsKept). clients_text day s.lines s.own (clients_sum s)) is
    ∙ ap (clients_text day (clients_of day firm).lines (clients_of day firm).own) (client_total.total-kept sound-covered day firm sound some few)

pub journal-told : (today : ℕ) (firm : Firm) (kept : JournalKept) → AreCountable IsMovementInRange firm.movements → kept ≡ fold with_moved no_journal firm.movements → journal_text today kept.lines ≡ journal_report today firm
unfolding journal_report
journal-told today firm kept few is = ap (journal_text today) (ap (λ (s : JournalKept). s.lines) is ∙ journal-kept firm.movements few)

pub retention-told : (today : ℕ) (firm : Firm) (kept : Retained) → kept ≡ fold with_row_retained (none_retained today) firm.rows → retention_text today kept.lines ≡ retention_report today firm
unfolding retention_report
retention-told today firm kept is = ap (λ (s : Retained). retention_text today s.lines) (is ∙ retention-kept today firm)

-- lines written one after the other
lines-written : {A : Type 0} (f : A → List ℕ) (text : List ℕ) (xs : List A) → fold (λ text x. text ++ f x) text xs ≡ text ++ flat_map f xs
lines-written f text [] = sym (append-nil text)
lines-written f text (x ∷ xs) = lines-written f (text ++ f x) xs ∙ append_assoc text (f x) (flat_map f xs)

pub exceptions-told : (today : ℕ) (firm : Firm) (text : List ℕ) → text ≡ fold (λ text line. text ++ exception_line line) (exceptions_text today []) firm.exceptions → text ≡ exceptions_report today firm
unfolding exceptions_report
exceptions-told today firm text is =
    is
    ∙ (lines-written exception_line (exceptions_text today []) firm.exceptions ∙ ap (λ begun. begun ++ flat_map exception_line firm.exceptions) (append-nil (heading (codes "EXCEPTIONS") today)))

-- what is put behind one another is all of it
pub all-put : {A : Type 0} (ys xs : List A) → fold (λ zs x. zs ++ x ∷ []) ys xs ≡ ys ++ xs
all-put ys [] = sym (append-nil ys)
all-put ys (x ∷ xs) = all-put (ys ++ x ∷ []) xs ∙ append_assoc ys (x ∷ []) xs
