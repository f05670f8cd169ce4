-- How the reports as of a day and of a period are made.
use Rattle.std.specs.Prelude.{◌≡◌, ℕ, Bool, List, [], ◌++◌, fold}
use Rattle.trust_base.specs.Periods.{Span}
use Rattle.firm_rows.specs.Firm.{Firm}
use Rattle.firm_periods.specs.Approvals.{approvals_kept, no_approvals, with_approval}
use Rattle.firm_periods.specs.Named.{is_cut, listed, sum_moved}
use Rattle.firm_periods.specs.declared.named_sink.Pick.{Pick}
use Rattle.book_reports.specs.declared.day_reports.Limits.{Limits}
use Rattle.book_reports.specs.declared.day_reports.ReadApprovals.{ReadApprovals}
use Rattle.book_reports.specs.declared.day_reports.ReadList.{ReadList}

-- a report was appended to a text, and its limits were found
pub record IsAppended (limits : Limits) (lacks purged : Bool) (old report new : List ℕ) : Type 0 where
  pub stated : limits.lacks_statement ≡ lacks
  pub cut : limits.is_purged ≡ purged
  pub text : new ≡ old ++ report

-- what was read is the list of a firm
pub record IsListed (pick : Pick) (firm : Firm) (named : ReadList) : Type 0 where
  pub moves : named.list.moves.items ≡ listed pick firm
  pub total : named.list.total ≡ sum_moved (listed pick firm)
  pub purged : named.is_purged ≡ is_cut pick firm

-- what was read are the acts of the approvals of a firm, all of whose acts can be read
pub record AreActsRead (period : Span) (firm : Firm) (read : ReadApprovals) : Type 0 where
  pub acts : read.approvals ≡ fold with_approval (no_approvals period) firm.acts
  pub unread : read.unread.items ≡ []

-- what was read are the approvals of a firm, all of whose acts can be read
pub record AreApprovalsRead (period : Span) (firm : Firm) (read : ReadApprovals) : Type 0 where
  pub approvals : read.approvals ≡ approvals_kept period firm
  pub unread : read.unread.items ≡ []
