-- The names that the proofs of this crate cite, passed on from one place. Declares nothing.
pub use Rattle.firm_rows.specs.Firm.{Firm}
pub use Rattle.firm_rows.specs.FirmSound.{FirmSound}
pub use Rattle.matter_rows.proofs.Covered.{sound-covered}
pub use Rattle.std.proofs.Common.{List, None, Ok, Option, Result, [], ap, append-nil, append_assoc, arith, false, fold, refl, rules, subst, sym, ℕ, ◌++◌, ◌∙◌, ◌∷◌, ◌≡◌}
pub use Rattle.std.proofs.lemmas.Bool.Decides.{nat_tests}
pub use Rattle.std.specs.Prelude.{codes, is_none}
pub use Rattle.trust_base.specs.declared.refusal.StoreFault.{StoreFault}
pub use Rattle.trust_reports.specs.Clients.{ClientsKept, clients_of, clients_sum, no_clients, with_client_own, with_client_row}
pub use Rattle.trust_reports.specs.Lists.{JournalKept, TrialKept, no_journal, trial_kept, trial_of, trial_sum, with_moved, with_trial_own, with_trial_row}
pub use Rattle.trust_reports.specs.Reconciliations.{ReconciliationKept, kept_told, reconciled, reconciliation_on}
pub use Rattle.trust_reports.specs.Lists.{Retained, none_retained, with_row_retained}
pub use Rattle.trust_reports.specs.TextsOfClients.{clients_text}
pub use Rattle.trust_reports.specs.TextsOfLedgers.{own_card_text}
pub use Rattle.trust_reports.specs.TextsOfLists.{exception_line, exceptions_text, journal_text, retention_text, trial_text}
pub use Rattle.trust_store.specs.Books.{counted}
pub use Rattle.firm_rows.specs.Handing.{AreHanded}
pub use Rattle.trust_store.specs.Calls.{IsRead}
pub use Rattle.book_reports.specs.Reports.{text_of}
unfoldable pub use Rattle.book_reports.specs.Reports.{clients_report, exceptions_report, has_no_statement, journal_report, own_card_report, reconciliation_report, retention_report, trial_report}
pub use Rattle.std.proofs.lemmas.Int.{ints}
pub use Rattle.firm_rows.specs.Countable.{AreCountable, IsBalanceInRange, IsFirmLineInRange, IsLineInRange, IsMovementInRange, IsRowInRange}
pub use Rattle.book_reports.specs.Kept.{IsKeptOf}
pub use Rattle.trust_store.specs.Seen.{Seen}
