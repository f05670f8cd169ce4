-- The acts of one matter, and which change changes them.
use Rattle.firm_rows.proofs.Names.{◌≡◌, ℕ, not, cond, List, [], ◌∷◌, ◌++◌, map, filter, Option, Some, None, refl, ap, ◌∙◌, ◌==◌, arith, nat_tests, append-nil, filter-append, map-append, Act, MatterAct, Edit, acts_by, acts_left, acts_without, joined_act, joined_acts, OfMatter, Repeated, Unmatched, Dismissed, OfFirm, OfBalance, ActsOfOneChange}
use Rattle.std.specs.Prelude.{option_to_list}
use Rattle.trust_matter.specs.edit.Edit.TheVariants as edit
use Rattle.firm_rows.specs.FirmChange.{FirmChange}
use Rattle.firm_rows.specs.FirmSound.{acts_after}
use Rattle.firm_rows.proofs.Trail.{acts_joined, acts-after}

-- The acts after a change that is not nothing: with its act, and without those that a purge removes.

none-joined : (m : ℕ) (o : Option Act) → acts_without m (joined_act m o) ≡ []
none-joined m None = refl
none-joined m (Some act) = grind (arith, nat_tests)

pub acts-joined : (m : ℕ) (e : Edit) (o : Option Act) (acts : List MatterAct) → (e ≡ edit.Nothing → ⊥)
    → acts_left m e (acts ++ joined_act m o) ≡ joined_acts m e o acts
acts-joined m edit.Nothing o acts some = absurd (some refl)
acts-joined m (edit.Open opening) o acts some = refl
acts-joined m (edit.Seat seat) o acts some = refl
acts-joined m (edit.Unseat person) o acts some = refl
acts-joined m (edit.Close day) o acts some = refl
acts-joined m (edit.Purge day) o acts some =
    filter-append (λ (a : MatterAct). not (a.matter == m)) acts (joined_act m o)
    ∙ (ap (λ (xs : List MatterAct). acts_without m acts ++ xs) (none-joined m o) ∙ append-nil (acts_without m acts))
acts-joined m (edit.Append entry) o acts some = refl
acts-joined m (edit.Exchange entry) o acts some = refl

abbrev own : ℕ → List MatterAct → List Act
own m acts = map (λ a. a.act) (filter (λ a. a.matter == m) acts)

own-append : (m : ℕ) (xs ys : List MatterAct) → own m (xs ++ ys) ≡ own m xs ++ own m ys
own-append m xs ys =
    ap (map (λ (a : MatterAct). a.act)) (filter-append (λ (a : MatterAct). a.matter == m) xs ys)
    ∙ map-append (λ (a : MatterAct). a.act) (filter (λ (a : MatterAct). a.matter == m) xs) (filter (λ (a : MatterAct). a.matter == m) ys)

-- of the act that is added
own-joined : (n m : ℕ) (o : Option Act) → own n (joined_act m o) ≡ cond (n == m) (option_to_list o) []
own-joined n m None = grind (arith, nat_tests)
own-joined n m (Some act) = grind (arith, nat_tests)

-- of those that a purge leaves
own-without : (n m : ℕ) (acts : List MatterAct) → own n (acts_without m acts) ≡ cond (n == m) [] (own n acts)
own-without n m [] = grind (arith, nat_tests)
own-without n m (a ∷ acts) = grind (arith, nat_tests, own-without n m acts)

own-added : (n m : ℕ) (o : Option Act) (acts : List MatterAct)
    → own n (acts ++ joined_act m o) ≡ cond (n == m) (own n acts ++ option_to_list o) (own n acts)
own-added n m o acts = grind (arith, nat_tests, own-append, own-joined, append-nil)

own-changed : (n m : ℕ) (e : Edit) (o : Option Act) (acts : List MatterAct)
    → own n (joined_acts m e o acts) ≡ cond (n == m) (acts_by e o (own n acts)) (own n acts)
own-changed n m edit.Nothing o acts = grind (arith, nat_tests)
own-changed n m (edit.Open opening) o acts = own-added n m o acts
own-changed n m (edit.Seat seat) o acts = own-added n m o acts
own-changed n m (edit.Unseat person) o acts = own-added n m o acts
own-changed n m (edit.Close day) o acts = own-added n m o acts
own-changed n m (edit.Purge day) o acts = own-without n m acts
own-changed n m (edit.Append entry) o acts = own-added n m o acts
own-changed n m (edit.Exchange entry) o acts = own-added n m o acts

own-after : (n : ℕ) (change : FirmChange) (acts : List MatterAct)
    → own n (acts_joined change acts) ≡ acts_after n change (own n acts)
own-after n (OfMatter m line change) acts = own-changed n m change.edit change.act acts
own-after n (Repeated line) acts = refl
own-after n (Unmatched line) acts = refl
own-after n (Dismissed day line) acts = refl
own-after n (OfFirm line) acts = refl
own-after n (OfBalance kind line) acts = refl

pub acts-of-one-change : ActsOfOneChange
acts-of-one-change n change firm = ap (own n) (acts-after change firm) ∙ own-after n change firm.acts
