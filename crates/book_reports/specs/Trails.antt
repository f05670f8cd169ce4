-- How the trail of a matter is made.
use Rattle.std.specs.Prelude.{◌≡◌, ℕ, Bool, is_none}
use Rattle.matter_rows.specs.Rows.{is_purged}
use Rattle.firm_rows.specs.Firm.{Firm, of}
use Rattle.book_reports.specs.Reports.{matter_trail_report}
use Rattle.book_reports.specs.declared.matter_trail.MatterTrail.{MatterTrail}

-- the matter was never opened
abbrev pub is_missing : ℕ → Firm → Bool
is_missing m firm = is_none (of m firm).head

-- it was purged, with its acts
abbrev pub is_gone_since : ℕ → Firm → Bool
is_gone_since m firm = is_purged (of m firm).head

-- what was found is the trail of a matter on a business day, and whether it may be told
pub record IsTrailOf (m today : ℕ) (firm : Firm) (found : MatterTrail) : Type 0 where
  pub missing : found.is_missing ≡ is_missing m firm
  pub purged : found.is_purged ≡ is_gone_since m firm
  pub text : found.text.items ≡ matter_trail_report m today firm
