-- A purge that the firm's step does is a change that purges, so the figures' law speaks of it.
use Rattle.desk_laws.proofs.Names.{◌≡◌, ℕ, false, Option, Some, None, refl, Refusal, Rows, sound-covered, MatterChange, IsChange, last_after, no_figures, Caller, Asked, refusal, step, Firm, of, FirmSound, IsKept, asked_on, after_asked, arith, ints, nat_tests}
use Rattle.matter_parts.specs.declared.edit.Edit.TheVariants as edit
use Rattle.matter_parts.proofs.Moved.{figures-none}
use Rattle.trust_matter.specs.declared.ask.Ask.TheVariants as ask
use Rattle.firm_figures.specs.Clients.{client_lines}
use Rattle.firm_figures.specs.Purged.{IsPurge, is_period_purged, is_purged_at}
use Rattle.figure_laws.proofs.PurgedClients.{no_client-left}
use Rattle.figure_laws.proofs.PurgedPeriods.{no_figure-left, no_list-left}
use Rattle.desk_laws.specs.Purging.{IsReportedAsBefore}
use Rattle.trust_desk.proofs.LineFacts.{kept-by_step}
use Rattle.desk_laws.proofs.laws.purging_changes_no_figure.Goals as goal

-- what a purge leaves is the head alone: no entry, so no total, nothing that is left and nothing that moves, and no act
abbrev purge_of : ℕ → ℕ → MatterChange
purge_of day last = record {
  edit = edit.Purge day;
  last = last;
  moves = record { figures = no_figures; left = 0; other = None };
  movement = None;
  act = None;
}

is-change : (rows : Rows) (day last : ℕ) → IsKept rows (edit.Purge day) last → IsChange rows (purge_of day last)
is-change rows day last kept = grind (arith, ints, nat_tests, figures-none)

-- what a caller asks on the day
abbrev purge_ask : ℕ → Caller → Asked
purge_ask day caller = asked_on day caller ask.Purge

-- the purge that an accepted ask makes
purge-of_ask : (day m : ℕ) (caller : Caller) (firm : Firm) → FirmSound firm → refusal (of m firm) (purge_ask day caller) ≡ None
    → IsPurge m firm (purge_of day (last_after (of m firm).head (edit.Purge day) day))
purge-of_ask day m caller firm sound accepted =
    let last : ℕ = last_after (of m firm).head (edit.Purge day) day in
    let kept : IsKept (of m firm) (edit.Purge day) last = kept-by_step (step (of m firm) (purge_ask day caller) (sound.matters m) tt accepted) in
    record { fits = is-change (of m firm) day last kept; day = day; clears = refl }

figures-left : (day p m : ℕ) (caller : Caller) (firm : Firm) (o : Option Refusal) → FirmSound firm → refusal (of m firm) (purge_ask day caller) ≡ o
    → is_period_purged p (after_asked o m (purge_ask day caller) firm) ≡ false → IsReportedAsBefore p firm (after_asked o m (purge_ask day caller) firm)
figures-left day p m caller firm (Some r) sound told whole = record { figures = refl; lists = record { transit = refl; out = refl; early = refl; exceptions = refl } }
figures-left day p m caller firm None sound accepted whole =
    let last : ℕ = last_after (of m firm).head (edit.Purge day) day in
    let purge = purge-of_ask day m caller firm sound accepted in
    record {
      figures = no_figure-left sound-covered p m (purge_of day last) firm sound purge whole;
      lists = no_list-left sound-covered p m (purge_of day last) firm sound purge whole;
    }

clients-left : (day p m : ℕ) (caller : Caller) (firm : Firm) (o : Option Refusal) → FirmSound firm → refusal (of m firm) (purge_ask day caller) ≡ o
    → is_purged_at p (after_asked o m (purge_ask day caller) firm) ≡ false
    → client_lines p (after_asked o m (purge_ask day caller) firm) ≡ client_lines p firm
clients-left day p m caller firm (Some r) sound told whole = refl
clients-left day p m caller firm None sound accepted whole =
    let last : ℕ = last_after (of m firm).head (edit.Purge day) day in
    no_client-left sound-covered p m (purge_of day last) firm sound (purge-of_ask day m caller firm sound accepted) whole

pub returns : goal.returns
returns c = record {
  figures = λ day p m caller firm sound whole.
      figures-left day p m caller firm (refusal (of m firm) (purge_ask day caller)) sound refl whole;
  clients = λ day p m caller firm sound whole.
      clients-left day p m caller firm (refusal (of m firm) (purge_ask day caller)) sound refl whole;
}
