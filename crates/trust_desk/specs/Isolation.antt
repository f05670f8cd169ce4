-- No matter learns of another, or is changed by it.
use Rattle.std.specs.Prelude.{ℕ, ◌≡◌, Bool, true, false, List}
use Rattle.std.specs.List.{list_any}
use Rattle.firm_rows.specs.Firm.{Firm, of}
use Rattle.trust_desk.specs.declared.requests.Reply.{Reply}
use Rattle.trust_desk.specs.Acts.{dossier_of}
use Rattle.trust_desk.specs.Heard.{Heard, Own, OwnActs, concerns, project, told}
use Rattle.trust_desk.specs.FirmStep.{Runs, IsUnstopped}
use Rattle.trust_desk.specs.Solo.{solo_dossier, solo_replies, solo_rows}

-- the matter's replies, and its rows and acts afterwards, are those of its own machine
pub record IsOwn (m day : ℕ) (firm : Firm) (hs : List Heard) (replies : List Reply) (new : Firm) : Type 0 where
  pub answers : told m hs replies ≡ solo_replies m (dossier_of m firm) (project m day hs)
  pub dossier : dossier_of m new ≡ solo_dossier (dossier_of m firm) (project m day hs)
  -- its rows alone, whatever its acts are
  pub rows : of m new ≡ solo_rows (of m firm) (project m day hs)

-- the rows and acts of each matter that is not concerned are unchanged
abbrev pub KeepsOthers : Firm → Heard → Firm → Type 0
KeepsOthers firm h new = (m : ℕ) → concerns m h ≡ false → dossier_of m new ≡ dossier_of m firm

-- in every run, each matter's replies, rows and acts are those of its own machine if nothing that concerns it was
-- stopped, whatever became of the rest
abbrev pub EachMatterOwn : Type 0
EachMatterOwn =
    (m day : ℕ) (firm : Firm) (hs : List Heard) (replies : List Reply) (new : Firm)
    → IsUnstopped m hs replies → Runs day firm hs replies new → IsOwn m day firm hs replies new

-- two firms with the same rows and acts of a matter, which hear the same for it, give it the same replies and leave it
-- with the same rows and acts, whatever else they have and hear
abbrev pub SameForTheMatter : Type 0
SameForTheMatter =
    (m d e : ℕ) (f g : Firm) (ps qs : List Heard) (rs ss : List Reply) (f' g' : Firm)
    → dossier_of m f ≡ dossier_of m g → project m d ps ≡ project m e qs
    → IsUnstopped m ps rs → IsUnstopped m qs ss → Runs d f ps rs f' → Runs e g qs ss g'
    → (told m ps rs ≡ told m qs ss) × (dossier_of m f' ≡ dossier_of m g')

-- a request for the acts
abbrev pub asks_for_acts : Own → Bool
asks_for_acts (OwnActs caller day) = true
asks_for_acts _ = false

-- where nobody asks for the acts of the matter, its rows alone decide: two firms with the same rows of it give it the
-- same replies and leave it with the same rows, whatever its acts are
abbrev pub SameByRowsAlone : Type 0
SameByRowsAlone =
    (m d e : ℕ) (f g : Firm) (ps qs : List Heard) (rs ss : List Reply) (f' g' : Firm) → of m f ≡ of m g
    → project m d ps ≡ project m e qs → list_any asks_for_acts (project m d ps) ≡ false
    → IsUnstopped m ps rs → IsUnstopped m qs ss → Runs d f ps rs f' → Runs e g qs ss g'
    → (told m ps rs ≡ told m qs ss) × (of m f' ≡ of m g')
