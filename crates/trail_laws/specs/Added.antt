-- Laws: which steps add an act to a matter's dossier, and which.
use Rattle.std.specs.Prelude.{◌≡◌, ℕ, true, false, List, [], ◌∷◌, ◌++◌, Some, None, IsSome}
use Rattle.matter_rows.specs.declared.act.Act.{Act}
use Rattle.matter_rows.specs.Rows.{entry_at}
use Rattle.trust_matter.specs.declared.bank_line.BankLine.{BankLine}
use Rattle.trust_matter.specs.Acts.{deed_of}
use Rattle.trust_matter.specs.Conditions.{is_changing, is_purging, is_repeat}
use Rattle.trust_matter.specs.Facts.{Asked, facts_of, entry_named}
use Rattle.trust_matter.specs.LineStep.{line_on, line_act, IsApplied}
use Rattle.trust_matter.specs.Step.{refusal}
use Rattle.trail_laws.specs.Dossier.{Dossier, dossier_after, dossier_after_line}

-- a refusal leaves the dossier as it is
abbrev pub RefusalAddsNone : Type 0
RefusalAddsNone = (p : Dossier) (a : Asked) → IsSome (refusal p.rows a) → dossier_after p a ≡ p

-- so does a repeat
abbrev pub RepeatAddsNone : Type 0
RepeatAddsNone = (p : Dossier) (a : Asked) → is_repeat (facts_of p.rows a.ask) a ≡ true → dossier_after p a ≡ p

-- so does an ask under a rule that changes nothing
abbrev pub ReadingAddsNone : Type 0
ReadingAddsNone = (p : Dossier) (a : Asked) → is_changing a.ask ≡ false → dossier_after p a ≡ p

-- an accepted purge leaves none of the matter's acts
abbrev pub PurgeLeavesNone : Type 0
PurgeLeavesNone =
    (p : Dossier) (a : Asked) → refusal p.rows a ≡ None → is_purging a.ask ≡ true → (dossier_after p a).acts ≡ []

-- behind the acts before stands one more: by the caller, on the business day, of the entry that the ask names, if any,
-- and it is the deed that was asked for
pub record IsOneMore (acts : List Act) (a : Asked) (after : List Act) : Type 0 where
  pub act : Act
  pub added : after ≡ acts ++ act ∷ []
  pub caller : act.caller ≡ a.caller
  pub day : act.day ≡ a.day
  pub entry : act.entry ≡ entry_named a.ask
  pub deed : deed_of a.ask ≡ Some act.deed

-- an accepted ask that changes the matter, and is neither a repeat nor a purge, adds exactly one act
abbrev pub AskAddsOne : Type 0
AskAddsOne =
    (p : Dossier) (a : Asked) → refusal p.rows a ≡ None → is_changing a.ask ≡ true → is_purging a.ask ≡ false
    → is_repeat (facts_of p.rows a.ask) a ≡ false → IsOneMore p.acts a (dossier_after p a).acts

-- a bank line that is not applied leaves the dossier as it is
abbrev pub LineAddsNone : Type 0
LineAddsNone =
    (p : Dossier) (l : BankLine) (today : ℕ) → (IsApplied (line_on p.rows l today) → ⊥)
    → dossier_after_line p l today ≡ p

-- an applied one adds exactly one act, which is the line's
abbrev pub LineAddsOne : Type 0
LineAddsOne =
    (p : Dossier) (l : BankLine) (today : ℕ) → IsApplied (line_on p.rows l today)
    → (dossier_after_line p l today).acts ≡ p.acts ++ line_act (entry_at p.rows.entries l.entry) l today ∷ []
