-- Purging a matter at the desk changes nothing in what is reported of a day.
use Rattle.std.specs.Prelude.{◌≡◌, ℕ, false}
use Rattle.matter_rows.specs.declared.act.Caller.{Caller}
use Rattle.trust_matter.specs.declared.ask.Ask.TheVariants as ask
use Rattle.firm_rows.specs.Firm.{Firm}
use Rattle.firm_rows.specs.FirmSound.{FirmSound}
use Rattle.firm_figures.specs.Clients.{client_lines}
use Rattle.firm_figures.specs.Figures.{figures_on}
use Rattle.firm_figures.specs.Purged.{AreListsLeft, is_period_purged, is_purged_at}
use Rattle.trust_desk.specs.declared.requests.Request.TheVariants.{Matter}
use Rattle.trust_desk.specs.Heard.{Asks}
use Rattle.trust_desk.specs.FirmStep.{firm_step}

-- the firm after a caller asked, on the day, to purge the matter, whether it was purged or the ask was refused
abbrev pub after_purge : ℕ → ℕ → Caller → Firm → Firm
after_purge day m caller firm = (firm_step day firm (Asks (Matter m caller ask.Purge))).firm

-- the figures and lists of a day are what they were
pub record IsReportedAsBefore (p : ℕ) (before after : Firm) : Type 0 where
  pub figures : figures_on p after ≡ figures_on p before
  pub lists : AreListsLeft p before after

-- this is so for each day whose records are complete afterwards, that is, no purged matter was closed after it
abbrev pub PurgingChangesNoFigure : Type 0
PurgingChangesNoFigure =
    (day p m : ℕ) (caller : Caller) (firm : Firm) → FirmSound firm
    → is_period_purged p (after_purge day m caller firm) ≡ false
    → IsReportedAsBefore p firm (after_purge day m caller firm)

-- the clients' ledgers as of a day are what they were, if no matter that was open as of it is purged afterwards
abbrev pub PurgingChangesNoClient : Type 0
PurgingChangesNoClient =
    (day p m : ℕ) (caller : Caller) (firm : Firm) → FirmSound firm
    → is_purged_at p (after_purge day m caller firm) ≡ false
    → client_lines p (after_purge day m caller firm) ≡ client_lines p firm
