-- What each step of a matter keeps of its dossier, each run of the firm keeps of it.
use Rattle.std.proofs.Common.{◌≡◌, ℕ, Bool, true, false, List, [], ◌∷◌, sym, subst}
use Rattle.std.specs.Prelude.{MatchBool, ◌==◌}
use Rattle.matter_rows.specs.Sound.{Sound}
use Rattle.trust_matter.specs.Laws.{Doing, AnAsk, ALine}
use Rattle.firm_rows.specs.Firm.{Firm}
use Rattle.firm_rows.specs.FirmSound.{FirmSound}
use Rattle.statement_csv.specs.declared.item.Item.{Item}
use Rattle.statement_csv.specs.declared.item.Item.TheVariants as item
use Rattle.trail_laws.specs.Dossier.{Dossier, dossier_after_step}
use Rattle.trust_desk.proofs.AlwaysCovered.{sound-after_item}
use Rattle.trust_desk.proofs.OwnDossiers.{kind-dossier, own-item}
use Rattle.trust_desk.specs.Acts.{dossier_of}
use Rattle.trust_desk.specs.Crashes.{KindIsMade}
use Rattle.trust_desk.specs.Solo.{own_dossier, solo_dossier}
use Rattle.trust_desk.specs.declared.requests.Reply.{Reply}
use Rattle.trust_desk.specs.FirmStep.{IsStopped, KindStopped, RunsSoundly, Steps, firm_step, kind_step}
use Rattle.trust_desk.specs.Heard.{Heard, Kind, OfMatter, OfItems, Dismisses, Own, OwnAsk, OwnActs, OwnLine, OwnRefusal, asked_on, kind_of, own_if, own_of_item}
use Rattle.trust_desk.specs.ItemStep.{after_item, after_items}
use Rattle.trust_desk.specs.Replies.{is_fault_reply}
use Rattle.desk_laws.specs.OnceOnly.{DayRun}
use Rattle.desk_trail.specs.SignedRuns.{RunsSoundlyOn}

abbrev pub StepsKeep : (Dossier → Type 0) → Type 0
StepsKeep P = (p : Dossier) (step : Doing) → Sound p.rows → P p → P (dossier_after_step p step)

pub sound-behind : (day : ℕ) (firm new : Firm) (hs : List Heard) (replies : List Reply) → FirmSound firm
    → RunsSoundly day firm hs replies new → FirmSound new
sound-behind day firm new [] [] sound run = subst FirmSound (sym run) sound
sound-behind day firm new (h ∷ hs) (reply ∷ replies) sound run = sound-behind day run.0 new hs replies run.2 run.3
sound-behind day firm new _ _ sound run = absurd run

pub days-sound : (firm new : Firm) (runs : List DayRun) → FirmSound firm → RunsSoundlyOn firm runs new → FirmSound new
days-sound firm new [] sound run = subst FirmSound (sym run) sound
days-sound firm new (r ∷ runs) sound run =
    days-sound run.0 new runs (sound-behind r.day firm run.0 r.heard r.replies sound run.1) run.2

module _ (P : Dossier → Type 0) (keeps : StepsKeep P) (m : ℕ) where
  abbrev OfFirm : Firm → Type 0
  OfFirm firm = P (dossier_of m firm)

  -- what concerns a matter
  own-keeps : (p : Dossier) (own : Own) → Sound p.rows → P p → P (own_dossier p own)
  own-keeps p (OwnAsk a) sound is = keeps p (AnAsk a) sound is
  own-keeps p (OwnActs caller day) sound is = is
  own-keeps p (OwnRefusal r) sound is = is
  own-keeps p (OwnLine l day) sound is = keeps p (ALine l day) sound is

  -- where it is of the matter
  if-keeps : (c : Bool) (own : Own) (p : Dossier) → Sound p.rows → P p → P (solo_dossier p (own_if c own))
  if-keeps true own p sound is = own-keeps p own sound is
  if-keeps false own p sound is = is

  one_item-keeps : (day : ℕ) (p : Dossier) (it : Item) → Sound p.rows → P p → P (solo_dossier p (own_of_item m day it))
  one_item-keeps day p (item.OfMatter l) sound is = if-keeps (l.matter == m) (OwnLine l day) p sound is
  one_item-keeps day p _ sound is = is

  pub items-keep : (day : ℕ) (firm : Firm) (items : List Item) → FirmSound firm → P (dossier_of m firm)
      → P (dossier_of m (after_items day firm items))
  items-keep day firm [] sound is = is
  items-keep day firm (it ∷ items) sound is =
      items-keep day (after_item day firm it) items (sound-after_item day firm it sound)
      (subst P (sym (own-item m day firm it)) (one_item-keeps day (dossier_of m firm) it (sound.matters m) is))

  -- A step.

  made-keeps : (day : ℕ) (firm : Firm) (k : Kind) → FirmSound firm → P (dossier_of m firm)
      → P (dossier_of m (kind_step day firm k).firm)
  made-keeps day firm (OfMatter n caller ask) sound is =
      subst P (sym (kind-dossier m day firm (OfMatter n caller ask)))
      (if-keeps (n == m) (OwnAsk (asked_on day caller ask)) (dossier_of m firm) (sound.matters m) is)
  made-keeps day firm (OfItems refused items) sound is = items-keep day firm items sound is
  made-keeps day firm (Dismisses caller line) sound is =
      subst P (sym (kind-dossier m day firm (Dismisses caller line))) is
  made-keeps day firm _ sound is = is

  stopped-keeps : (day : ℕ) (firm new : Firm) (k : Kind) → KindStopped day firm k new → FirmSound firm
      → P (dossier_of m firm) → P (dossier_of m new)
  stopped-keeps day firm new (OfItems refused items) stopped sound is =
      subst OfFirm (sym stopped.1.leaves) (items-keep day firm stopped.1.front sound is)
  stopped-keeps day firm new _ stopped sound is = subst OfFirm (sym stopped) is

  pub step-keeps : (day : ℕ) (firm new : Firm) (h : Heard) (reply : Reply) → FirmSound firm → Steps day firm h reply new
      → P (dossier_of m firm) → P (dossier_of m new)
  step-keeps day firm new h reply sound step is = cases (is_fault_reply reply) step
    where
      cases : (c : Bool)
          → MatchBool c (IsStopped day firm h reply new)
          ((reply ≡ (firm_step day firm h).reply) × (new ≡ (firm_step day firm h).firm))
          → P (dossier_of m new)
      cases true stopped = stopped-keeps day firm new (kind_of h) stopped.leaves sound is
      cases false made = subst OfFirm (sym made.1) (made-keeps day firm (kind_of h) sound is)

  -- what a crash may leave of it
  pub left-keeps : (day : ℕ) (firm found : Firm) (k : Kind) → KindIsMade day firm k found → FirmSound firm
      → P (dossier_of m firm) → P (dossier_of m found)
  left-keeps day firm found (OfItems refused items) left sound is =
      stopped-keeps day firm found (OfItems refused items) left sound is
  left-keeps day firm found k left sound is = subst OfFirm (sym left) (made-keeps day firm k sound is)

  -- Runs.

  pub runs-keep : (day : ℕ) (firm new : Firm) (hs : List Heard) (replies : List Reply) → FirmSound firm
      → RunsSoundly day firm hs replies new → P (dossier_of m firm) → P (dossier_of m new)
  runs-keep day firm new [] [] sound run is = subst OfFirm (sym run) is
  runs-keep day firm new (h ∷ hs) (reply ∷ replies) sound run is =
      runs-keep day run.0 new hs replies run.2 run.3 (step-keeps day firm run.0 h reply sound run.1 is)
  runs-keep day firm new _ _ sound run is = absurd run

  pub days-keep : (firm new : Firm) (runs : List DayRun) → FirmSound firm → RunsSoundlyOn firm runs new
      → P (dossier_of m firm) → P (dossier_of m new)
  days-keep firm new [] sound run is = subst OfFirm (sym run) is
  days-keep firm new (r ∷ runs) sound run is =
      days-keep run.0 new runs (sound-behind r.day firm run.0 r.heard r.replies sound run.1) run.2
      (runs-keep r.day firm run.0 r.heard r.replies sound run.1 is)
