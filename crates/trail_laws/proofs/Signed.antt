-- Each step and each run keeps the dossier signed.
use Rattle.trail_laws.proofs.Names.{AllByRecursion, append-nil, entry_at, AnAsk, ALine, Doing, List, Dossier, Sound, [], false≢true, lines-sound, no_dossier, dossier_after_run, dossier_after_step, refl, steps-sound, unopened, ◌∷◌}
use Rattle.matter_parts.proofs.Editing.{backed-none}
use Rattle.trail_laws.proofs.Growing.{seated-more, allowed-more, signed-more, seated-bare, allowed-bare, signed-bare}
use Rattle.trail_laws.proofs.Steps.{step-adds}
use Rattle.trail_laws.specs.Signed.{ActsStayAllowed, NoActsAreSigned, RunsKeepSigned, beginning_after, days_of_issue, AreAllowed, AreSeated, HasItsAmount, IsSigned, RunsAreSigned, SeatsFollowActs, StepsKeepSigned, nothing_before}

pub seats-follow_acts : SeatsFollowActs
seats-follow_acts b p step s =
    step-adds b p step AreSeated (λ after adds. seated-more b p after adds s) seated-bare

pub acts-stay_allowed : ActsStayAllowed
acts-stay_allowed b p step s all =
    step-adds b p step (λ begun after. AreAllowed begun.seats after.acts)
    (λ after adds. allowed-more b p after adds s all) allowed-bare

pub steps-keep_signed : StepsKeepSigned
steps-keep_signed b p step sound s =
    step-adds b p step IsSigned (λ after adds. signed-more b p after adds sound s) signed-bare

pub no-acts_are_signed : NoActsAreSigned
no-acts_are_signed rows = record {
  seats = refl;
  allowed = tt;
  issued = λ n. append-nil (days_of_issue (entry_at rows.entries n));
  opened = λ opens. absurd (false≢true opens);
}

-- Runs.

pub sound-step : (p : Dossier) (step : Doing) → HasItsAmount step → Sound p.rows → Sound (dossier_after_step p step).rows
sound-step p (AnAsk a) amount sound = steps-sound p.rows a amount sound
sound-step p (ALine l today) amount sound = lines-sound p.rows l today sound

pub runs-keep_signed : RunsKeepSigned
runs-keep_signed b p [] amounts sound s = s
runs-keep_signed b p (step ∷ run) amounts sound s =
    runs-keep_signed (beginning_after p step b) (dossier_after_step p step) run amounts.1
    (sound-step p step amounts.0 sound) (steps-keep_signed b p step sound s)

-- what begins with nothing stays so
signed-run : (p : Dossier) (run : List Doing) → AllByRecursion HasItsAmount run → Sound p.rows → IsSigned nothing_before p → IsSigned nothing_before (dossier_after_run p run)
signed-run p [] amounts sound s = s
signed-run p (step ∷ run) amounts sound s =
    signed-run (dossier_after_step p step) run amounts.1 (sound-step p step amounts.0 sound)
    (step-adds nothing_before p step (λ begun after. IsSigned nothing_before after)
    (λ after adds. signed-more nothing_before p after adds sound s) signed-bare)

pub sound-unopened : Sound unopened
sound-unopened = record { backed = backed-none; seated = tt; headed = (refl, refl); bare = tt; funded = tt }

pub runs-are_signed : RunsAreSigned
runs-are_signed run amounts =
    signed-run no_dossier run amounts sound-unopened (signed-bare no_dossier (record { acts = refl; seats = refl; entries = refl }))
