-- The acts of each matter, as they are put together one by one.
use Rattle.firm_audit.proofs.Names.{◌≡◌, ℕ, zero, suc, ◌+◌, ◌<◌, ◌≤◌, Bool, true, false, List, [], ◌∷◌, ◌++◌, map, length, take, get_or, filter, cond, Option, Some, None, Ok, Err, refl, sym, ap, ◌∙◌, arith, nat_lt, ◌==◌, nat_tests, cases_Bool, slice_get, take_more, length-map, AllByRecursion, KeptMatter, IsBefore, Ascends, seek}
use Rattle.std.specs.Prelude.{set}
use Rattle.std.proofs.lemmas.List.{append-nil, get_or-map, map-append, map-set}
use Rattle.std.proofs.lemmas.List.Elements.{filter-append}
use Rattle.matter_rows.specs.declared.act.Act.{Act}
use Rattle.firm_rows.specs.declared.matter_act.MatterAct.{MatterAct}
use Rattle.trust_store.specs.Kept.{place, told}
use Rattle.trust_store.proofs.KeptMatters.{found_ok}
use Rattle.firm_audit.specs.Trails.{acts_among}
use Rattle.firm_audit.proofs.Strays.{below-at}

-- One more act.

-- what an act adds to those of a matter
abbrev added : ℕ → MatterAct → List Act
added m a = cond (a.matter == m) (a.act ∷ []) []

among-one : (m : ℕ) (a : MatterAct) → acts_among m (a ∷ []) ≡ added m a
among-one m a = grind (arith, nat_tests, cases_Bool)

among-append : (m : ℕ) (xs ys : List MatterAct) → acts_among m (xs ++ ys) ≡ acts_among m xs ++ acts_among m ys
among-append m xs ys =
    ap (map (λ (a : MatterAct). a.act)) (filter-append (λ (a : MatterAct). a.matter == m) xs ys)
    ∙ map-append (λ (a : MatterAct). a.act) (filter (λ (a : MatterAct). a.matter == m) xs) (filter (λ (a : MatterAct). a.matter == m) ys)

among-more : (m : ℕ) (acts : List MatterAct) (i : ℕ) (a : MatterAct) → i < length acts → a ≡ get_or acts i a
    → acts_among m (take (i + 1) acts) ≡ acts_among m (take i acts) ++ added m a
among-more m acts i a lt is =
    ap (acts_among m) (take_more acts i a lt ∙ ap (λ (x : MatterAct). take i acts ++ x ∷ []) (sym is))
    ∙ (among-append m (take i acts) (a ∷ []) ∙ ap (λ (xs : List Act). acts_among m (take i acts) ++ xs) (among-one m a))

-- Among matters.

-- it is of none of these
abbrev IsApart : MatterAct → List KeptMatter → Type 0
IsApart a ks = AllByRecursion (λ k. (a.matter == k.number) ≡ false) ks

apart-before : (a : MatterAct) (n : ℕ) (ks : List KeptMatter) → a.matter ≤ n → IsBefore n ks → IsApart a ks
apart-before a n [] le below = tt
apart-before a n (k ∷ ks) le below = (grind (arith, nat_tests), apart-before a n ks le below.1)

abbrev IsAbsent : ℕ → Option KeptMatter → Type 0
IsAbsent m None = Unit {0}
IsAbsent m (Some k) = (k.number == m) ≡ false

absent-told : (m i j : ℕ) (o : Option KeptMatter) → told m i o ≡ Err j → IsAbsent m o
absent-told m i j o is = grind (arith, nat_tests, cases_Bool)

apart-absent : (a : MatterAct) (ks : List KeptMatter) → Ascends ks → IsAbsent a.matter (slice_get ks (place a.matter ks)) → IsApart a ks
apart-absent a [] up absent = tt
apart-absent a (k ∷ ks) up absent = cases (nat_lt k.number a.matter) refl absent (apart-absent a ks up.1)
  where
    cases : (b : Bool) → nat_lt k.number a.matter ≡ b → IsAbsent a.matter (slice_get (k ∷ ks) (cond b (suc (place a.matter ks)) 0))
        → (IsAbsent a.matter (slice_get ks (place a.matter ks)) → IsApart a ks) → IsApart a (k ∷ ks)
    cases true below absent rest = (grind (arith, nat_tests, nat_lt), rest absent)
    cases false above absent rest =
        let le : a.matter ≤ k.number = grind (arith, nat_tests, nat_lt) in
        (grind (arith, nat_tests), apart-before a k.number ks le up.0)

abbrev Own : Type 0
Own = ℕ → List Act

-- of matters that it is not of it leaves the acts
stay : (own : Own) (a : MatterAct) (ks : List KeptMatter) → IsApart a ks
    → map (λ (k : KeptMatter). own k.number) ks ≡ map (λ (k : KeptMatter). own k.number ++ added k.number a) ks
stay own a [] apart = refl
stay own a (k ∷ ks) apart =
    let same : own k.number ≡ own k.number ++ added k.number a = rw apart.0 (sym (append-nil (own k.number))) in
    λ i. same i ∷ stay own a ks apart.1 i

-- and it stands behind those of its own
put : (own : Own) (a : MatterAct) (ks : List KeptMatter) (i : ℕ) (k : KeptMatter) → Ascends ks → slice_get ks i ≡ Some k → k.number ≡ a.matter
    → set (map (λ (k : KeptMatter). own k.number) ks) i (own a.matter ++ a.act ∷ []) ≡ map (λ (k : KeptMatter). own k.number ++ added k.number a) ks
put own a [] i k up at is = absurd (cc)
put own a (j ∷ ks) zero k up at is =
    let same : j ≡ k = cc in
    let number : j.number ≡ a.matter = ap (λ (x : KeptMatter). x.number) same ∙ is in
    let own_is : (a.matter == j.number) ≡ true = grind (arith, nat_tests) in
    let le : a.matter ≤ j.number = grind (arith) in
    let here : own a.matter ++ a.act ∷ [] ≡ own j.number ++ added j.number a =
    rw own_is (ap (λ (m : ℕ). own m ++ a.act ∷ []) (sym number)) in
    λ i. here i ∷ stay own a ks (apart-before a j.number ks le up.0) i
put own a (j ∷ ks) (suc i) k up at is =
    let below : j.number < k.number = below-at j.number ks i k up.0 at in
    let apart : (a.matter == j.number) ≡ false = grind (arith, nat_tests) in
    let here : own j.number ≡ own j.number ++ added j.number a = rw apart (sym (append-nil (own j.number))) in
    λ n. here n ∷ put own a ks i k up.1 at is n

-- The code.

abbrev pub own_of : List KeptMatter → List MatterAct → List (List Act)
own_of ks acts = map (λ k. acts_among k.number acts) ks

own-more : (ks : List KeptMatter) (acts : List MatterAct) (i : ℕ) (a : MatterAct) → i < length acts → a ≡ get_or acts i a
    → own_of ks (take (i + 1) acts) ≡ map (λ (k : KeptMatter). acts_among k.number (take i acts) ++ added k.number a) ks
own-more [] acts i a lt is = refl
own-more (k ∷ ks) acts i a lt is = λ n. among-more k.number acts i a lt is n ∷ own-more ks acts i a lt is n

-- an act of none of the matters
pub passed-over : (ks : List KeptMatter) (acts : List MatterAct) (i j : ℕ) (a : MatterAct) → Ascends ks → i < length acts → a ≡ get_or acts i a
    → Err j ≡ seek a.matter ks → own_of ks (take i acts) ≡ own_of ks (take (i + 1) acts)
passed-over ks acts i j a up lt is none =
    let absent = absent-told a.matter (place a.matter ks) j (slice_get ks (place a.matter ks)) (sym none) in
    stay (λ m. acts_among m (take i acts)) a ks (apart-absent a ks up absent) ∙ sym (own-more ks acts i a lt is)

-- one of the matter in this place
pub put-behind : (ks : List KeptMatter) (acts : List MatterAct) (i at : ℕ) (a : MatterAct) → Ascends ks → i < length acts → a ≡ get_or acts i a
    → Ok at ≡ seek a.matter ks → set (own_of ks (take i acts)) at (acts_among a.matter (take i acts) ++ a.act ∷ []) ≡ own_of ks (take (i + 1) acts)
put-behind ks acts i at a up lt is some =
    let stands = found_ok a.matter at ks ks refl some in
    put (λ m. acts_among m (take i acts)) a ks at stands.there up stands.at stands.is ∙ sym (own-more ks acts i a lt is)

-- what stands in the place of a matter that is found
read : (own : Own) (ks : List KeptMatter) (i : ℕ) (k : KeptMatter) → slice_get ks i ≡ Some k
    → (i < length ks) × (get_or (map (λ (k : KeptMatter). own k.number) ks) i [] ≡ own k.number)
read own [] i k at = absurd (cc)
read own (j ∷ ks) zero k at = let same : j ≡ k = cc in (omega arith, ap (λ (x : KeptMatter). own x.number) same)
read own (j ∷ ks) (suc i) k at = let more = read own ks i k at in (omega (arith, more.0), more.1)

pub found-own : (ks : List KeptMatter) (acts : List MatterAct) (at : ℕ) (a : MatterAct) → Ok at ≡ seek a.matter ks
    → (at < length ks) × (get_or (own_of ks acts) at [] ≡ acts_among a.matter acts)
found-own ks acts at a some =
    let stands = found_ok a.matter at ks ks refl some in
    let there = read (λ m. acts_among m acts) ks at stands.there stands.at in
    (there.0, there.1 ∙ ap (λ (m : ℕ). acts_among m acts) stands.is)

-- the acts in a place are those of the matter there
pub own-at : {G : Type 0} (items : G → List Act) (groups : List G) (ks : List KeptMatter) (acts : List MatterAct) (i : ℕ) (g : G) (k : KeptMatter)
    → map items groups ≡ own_of ks acts → i < length ks → k ≡ get_or ks i k → g ≡ get_or groups i g → items g ≡ acts_among k.number acts
own-at items groups ks acts i g k same lt k_is g_is =
    let own : KeptMatter → List Act = λ x. acts_among x.number acts in
    let long : length groups ≡ length ks =
    sym (length-map groups items) ∙ (ap length same ∙ length-map ks own) in
    let within : i < length groups = omega (arith, long, lt) in
    ap items g_is
    ∙ (sym (get_or-map items groups i g [] within)
    ∙ (ap (λ (xs : List (List Act)). get_or xs i []) same ∙ (get_or-map own ks i k [] lt ∙ ap own (sym k_is))))

-- and there are as many places
pub as-many : {G : Type 0} (items : G → List Act) (groups : List G) (ks : List KeptMatter) (acts : List MatterAct) → map items groups ≡ own_of ks acts
    → length groups ≡ length ks
as-many items groups ks acts same =
    sym (length-map groups items) ∙ (ap length same ∙ length-map ks (λ k. acts_among k.number acts))

-- an act more in its place
pub put-in : {G : Type 0} (items : G → List Act) (groups : List G) (ks : List KeptMatter) (acts : List MatterAct) (i at : ℕ) (a : MatterAct) (old new : G)
    → Ascends ks → i < length acts → a ≡ get_or acts i a → Ok at ≡ seek a.matter ks → map items groups ≡ own_of ks (take i acts)
    → old ≡ get_or groups at old → items new ≡ items old ++ a.act ∷ [] → map items (set groups at new) ≡ own_of ks (take (i + 1) acts)
put-in items groups ks acts i at a old new up lt is some same old_is new_is =
    let there = found-own ks (take i acts) at a some in
    let within : at < length groups = omega (arith, as-many items groups ks (take i acts) same, there.0) in
    let before : items old ≡ acts_among a.matter (take i acts) =
    ap items old_is
    ∙ (sym (get_or-map items groups at old [] within) ∙ (ap (λ (xs : List (List Act)). get_or xs at []) same ∙ there.1)) in
    let made : items new ≡ acts_among a.matter (take i acts) ++ a.act ∷ [] =
    new_is ∙ ap (λ (xs : List Act). xs ++ a.act ∷ []) before in
    map-set items groups at new
    ∙ ((λ n. set (same n) at (made n)) ∙ put-behind ks acts i at a up lt is some)
