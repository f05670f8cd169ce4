-- What does not concern a matter leaves its acts.
use Rattle.std.specs.Prelude.{◌≡◌, ℕ, false, List}
use Rattle.firm_rows.specs.Firm.{Firm, acts_of}
use Rattle.trust_desk.specs.declared.requests.Reply.{Reply}
use Rattle.trust_desk.specs.FirmStep.{Runs, Steps, IsUnstopped}
use Rattle.trust_desk.specs.Heard.{Heard, concerns, project}
use Rattle.trust_desk.specs.Acts.{dossier_of}
use Rattle.trust_desk.specs.Solo.{solo_dossier}

-- in every run, each matter's acts afterwards are those of its own machine if nothing that concerns it was stopped,
-- whatever became of the rest
abbrev pub EachActsOwn : Type 0
EachActsOwn =
    (m day : ℕ) (firm : Firm) (hs : List Heard) (replies : List Reply) (new : Firm)
    → IsUnstopped m hs replies → Runs day firm hs replies new
    → acts_of m new ≡ (solo_dossier (dossier_of m firm) (project m day hs)).acts

-- a step that does not concern a matter leaves its acts, whatever stopped it
abbrev pub OthersActsStay : Type 0
OthersActsStay =
    (m day : ℕ) (firm new : Firm) (h : Heard) (reply : Reply) → concerns m h ≡ false → Steps day firm h reply new
    → acts_of m new ≡ acts_of m firm
