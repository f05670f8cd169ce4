-- The acts of one matter, put behind one another.
use Rattle.std.proofs.Common.{◌≡◌, ℕ, List, [], ◌∷◌, ◌++◌, sym, ◌∙◌, append-nil, append_assoc, fold, map}
use Rattle.firm_rows.specs.declared.matter_act.MatterAct.{MatterAct}
use Rattle.firm_rows.specs.Firm.{Firm, acts_of}
use Rattle.matter_rows.specs.declared.act.Act.{Act}
use Rattle.trust_store.specs.MatterActs.{acts_in}

abbrev pub put_act : List Act → MatterAct → List Act
put_act acts a = acts ++ a.act ∷ []

acts-put : (acts : List Act) (more : List MatterAct) → fold put_act acts more ≡ acts ++ map (λ (a : MatterAct). a.act) more
acts-put acts [] = sym (append-nil acts)
acts-put acts (a ∷ more) =
    acts-put (acts ++ a.act ∷ []) more ∙ append_assoc acts (a.act ∷ []) (map (λ (x : MatterAct). x.act) more)

-- a sink that began with none has those of the matter
pub acts-kept : (m : ℕ) (firm : Firm) (kept : List Act) → kept ≡ fold put_act [] (acts_in m firm.acts) → kept ≡ acts_of m firm
acts-kept m firm kept is = is ∙ acts-put [] (acts_in m firm.acts)
