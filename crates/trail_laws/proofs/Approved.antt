-- In a signed dossier each issue has its one approval, by a lawyer.
use Rattle.trail_laws.proofs.Names.{Act, Bool, Caller, Deed, List, None, Option, Role, Seat, Some, [], ap, arith, cond, false, false≢true, filter, is_number, map, nat_tests, option_map, refl, subst, sym, true, ℕ, ◌&&◌, ◌++◌, ◌∙◌, ◌∷◌, ◌≡◌}
use Rattle.matter_rows.specs.Rows.{role_in}
use Rattle.matter_rows.specs.declared.act.Caller.TheVariants as caller
use Rattle.matter_rows.specs.declared.act.Deed.TheVariants as deed
use Rattle.matter_rows.specs.declared.seat.Role.TheVariants as role
use Rattle.trust_matter.specs.Policy.{some_has, standing_in}
use Rattle.trust_base.specs.declared.refusal.Rule.TheVariants as rule
use Rattle.trail_laws.specs.Signed.{AreAllowed, HasLawyersSeat, IsApprovedOnce, IssuesAreApproved, LawyersApprove, approves, days_of_approval, is_allowed, is_approval, seats_by}

-- of persons only lawyers sign
lawyer-signs : (o : Option Role) → some_has (option_map standing_in o) rule.Sign ≡ true → o ≡ Some role.Lawyer
lawyer-signs None may = absurd (false≢true may)
lawyer-signs (Some role.Client) may = absurd (false≢true may)
lawyer-signs (Some role.Lawyer) may = refl

approved-by : (seats : List Seat) (entry : Option ℕ) (day : ℕ) (c : Caller) (d : Deed) → is_allowed seats (record { entry = entry; day = day; caller = c; deed = d }) ≡ true → is_approval d ≡ true → HasLawyersSeat seats c
approved-by seats entry day caller.Cashier deed.Approved may is = absurd (false≢true may)
approved-by seats entry day (caller.Person q) deed.Approved may is =
    record { person = q; is = refl; role = lawyer-signs (role_in seats q) may }
approved-by seats entry day c d may is = absurd (false≢true is)

pub lawyers-approve : LawyersApprove
lawyers-approve seats act may is = approved-by seats act.entry act.day act.caller act.deed may is

-- an approval of entry n
both-true : (a b : Bool) → (a && b) ≡ true → (a ≡ true) × (b ≡ true)
both-true true b h = (refl, h)
both-true false b h = absurd (false≢true h)

number-is : (o : Option ℕ) (n : ℕ) → is_number o n ≡ true → o ≡ Some n
number-is None n h = absurd (false≢true h)
number-is (Some k) n h = grind (arith, nat_tests)

-- the day of the first of one
first-day : (k day : ℕ) (days : List ℕ) → k ∷ days ≡ day ∷ [] → (k ≡ day) × (days ≡ [])
first-day k day days h = ((cc), (cc))

approved-one : (seats : List Seat) (act : Act) (acts : List Act) (n day : ℕ) (b : Bool) → approves n act ≡ b → AreAllowed seats (act ∷ acts) → map (λ (a : Act). a.day) (cond b (act ∷ filter (approves n) acts) (filter (approves n) acts)) ≡ day ∷ [] → (days_of_approval n acts ≡ day ∷ [] → IsApprovedOnce (seats_by seats act) n day acts) → IsApprovedOnce seats n day (act ∷ acts)
approved-one seats act acts n day true so all is rest =
    let parts = both-true (is_approval act.deed) (is_number act.entry n) so in
    let only = first-day act.day day (days_of_approval n acts) is in
    record {
      before = [];
      act = act;
      behind = acts;
      among = refl;
      entry = number-is act.entry n parts.1;
      is = parts.0;
      on_day = only.0;
      lawyer = lawyers-approve seats act all.0 parts.0;
      none_before = refl;
      none_behind = only.1;
    }
approved-one seats act acts n day false another all is rest =
    let found = rest is in
    let P : Bool → Type 0 = λ b. map (λ (a : Act). a.day) (cond b (act ∷ filter (approves n) found.before) (filter (approves n) found.before)) ≡ [] in
    record {
      before = act ∷ found.before;
      act = found.act;
      behind = found.behind;
      among = ap (λ (xs : List Act). act ∷ xs) found.among;
      entry = found.entry;
      is = found.is;
      on_day = found.on_day;
      lawyer = found.lawyer;
      none_before = subst P (sym another) found.none_before;
      none_behind = found.none_behind;
    }

approved-once : (seats : List Seat) (acts : List Act) (n day : ℕ) → AreAllowed seats acts → days_of_approval n acts ≡ day ∷ [] → IsApprovedOnce seats n day acts
approved-once seats [] n day all is = absurd (cc)
approved-once seats (act ∷ acts) n day all is =
    approved-one seats act acts n day (approves n act) refl all is (approved-once (seats_by seats act) acts n day all.1)

pub issues-are_approved : IssuesAreApproved
issues-are_approved b p n day s none is =
    approved-once b.seats p.acts n day s.allowed
    (ap (λ (days : List ℕ). days ++ days_of_approval n p.acts) (sym none) ∙ (s.issued n ∙ is))
