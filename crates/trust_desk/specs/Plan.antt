-- What is made for an ask before anything is written.
use Rattle.std.specs.Prelude.{ℕ, ◌≡◌, true, List, Result, IfOk}
use Rattle.trust_base.specs.declared.refusal.StoreFault.{StoreFault}
use Rattle.trust_matter.specs.declared.ask.Ask.{Ask}
use Rattle.matter_parts.specs.declared.edit.Edit.{Edit}
use Rattle.matter_parts.specs.declared.edit.Edit.TheVariants as edit
use Rattle.matter_parts.specs.Parts.{Part, IsPart, IsWhole, is_held_or_none}
use Rattle.matter_rows.specs.Rows.{Rows}
use Rattle.matter_rows.specs.Sound.{Sound}
use Rattle.trust_matter.specs.Conditions.{is_whole}
use Rattle.trust_matter.specs.Facts.{number_named}
use Rattle.trust_matter.specs.KeptFacts.{holds_for}
use Rattle.firm_rows.specs.Firm.{of}
use Rattle.trust_store.specs.Calls.{IsRead}
use Rattle.trust_store.specs.Seen.{Seen}
use Rattle.trust_desk.specs.Replies.{body_of}

-- for an ask that is answered with the whole matter the part has all entries loaded
abbrev pub IsWholeFor : Ask → Part → Rows → Type 0
IsWholeFor ask part rows = is_whole ask ≡ true → IsWhole part rows

-- the bytes are the body for the ask, for all sound rows of matter m that the part belongs to, if the named entry is
-- loaded or does not exist, and all are loaded where the answer is made of all
abbrev pub IsBodyOf : ℕ → Ask → Part → List ℕ → Type 0
IsBodyOf m ask part bytes =
    (rows : Rows) → Sound rows → IsPart part rows → is_held_or_none part (number_named ask) ≡ true
    → IsWholeFor ask part rows → bytes ≡ body_of m rows ask

-- what is loaded of a matter for an ask: a part of its rows in which the entries that the ask names are loaded or do
-- not exist, and all are loaded where the answer is made of all
pub record IsReadFor (rows : Rows) (ask : Ask) (part : Part) : Type 0 where
  pub is_part : IsPart part rows
  pub held : holds_for part ask ≡ true
  pub whole : IsWholeFor ask part rows

-- how a read for an ask ends: the book was read, and if that is answered Ok, with what the ask needs
pub record IsReadOf (m : ℕ) (ask : Ask) (result : Result Part StoreFault) (old new : Seen) : Type 0 where
  pub found : new.clean → old.stands → IfOk result (λ part. IsReadFor (of m old.firm) ask part)
  pub read : IsRead result old new

-- the status of the reply to an ask with this edit: 201 if something is made
abbrev pub status_of_edit : Edit → ℕ
status_of_edit edit.Nothing = 200
status_of_edit (edit.Open o) = 201
status_of_edit (edit.Seat s) = 200
status_of_edit (edit.Unseat p) = 200
status_of_edit (edit.Close day) = 200
status_of_edit (edit.Purge day) = 200
status_of_edit (edit.Append x) = 201
status_of_edit (edit.Exchange x) = 200
