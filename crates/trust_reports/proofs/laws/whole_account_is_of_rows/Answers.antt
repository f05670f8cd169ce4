use Rattle.trust_reports.proofs.Names.{ap, ◌∙◌}
use Rattle.trust_reports.specs.TextsOfAccounts.{account_printed}
use Rattle.firm_periods.specs.Accounts.{account_kept}
use Rattle.trust_reports.proofs.laws.whole_account_is_of_rows.Goals as goal

pub returns : goal.returns
returns c s m matter rows whole =
    ap (λ h. account_printed s m h (account_kept s matter.kept)) whole.part.head
    ∙ ap (account_printed s m rows.head) (c.accounts_agree.ensures.whole s matter rows whole)
