-- The firm's acts, after one was added and after those of a matter are gone; the dismissals stay.
use Rattle.sql_rows.proofs.Names.{◌≡◌, ℕ, ℤ, pos, nat_abs, ◌==◌, ◌≤◌, Bool, true, false, not, ◌&&◌, cond, List, [], ◌∷◌, ◌++◌, map, length, Option, Some, None, IfSome, refl, sym, ap, subst, ◌∙◌, arith, append-nil, int_eq, AllByRecursion, map-append, nat_tests, delete_where, all-append, all-filter, all_weaker, Edit, Act, Caller, Deed, MatterAct, acts_without, joined_act, joined_acts, acts_among, dismissals_among, is_act_of, Lists, act_columns, act_entry_column, caller_column, deed_column, text_column, number_column, IsCaller, act_from, caller_from, entry_or_none, IsWrittenAct, IsTypedAct, AreMade, act_steps, trail_steps, ints}
use Rattle.std.specs.Prelude.{nat_le}
use Rattle.std.specs.List.{list_all}
use Rattle.std.specs.Str.{bytes_eq}
use Rattle.std.proofs.lemmas.Bool.Decides.{Decides-int_eq}
use Rattle.std.proofs.lemmas.List.Elements.{filter-append}
use Rattle.std.proofs.Common.{filter}
use Rattle.trust_base.specs.Names.{cashier_text, is_person_byte, is_person_text, IsPerson}
use Rattle.trust_base.specs.declared.limits.TheConstants.{MAX_PERSON}
use Rattle.trust_values.specs.Limits.{IsEntryNo}
use Rattle.matter_rows.specs.declared.act.Caller.TheVariants.{Cashier, Person}
use Rattle.matter_rows.specs.declared.act.Deed.TheVariants as deed
use Rattle.matter_parts.specs.declared.edit.Edit.TheVariants as edit
use Rattle.sql_tables.specs.Rows as table
use Rattle.sql_rows.specs.Acts.{IsAct}
use Rattle.sql_rows.specs.Meaning.{deed_from}
use Rattle.sql_rows.proofs.KeyedRows.{int_eq-nat, not_zero}
use Rattle.sql_rows.proofs.RowOrder.{read-filter_agrees}
use Rattle.trust_store.specs.MatterActs.{acts_in}
use Rattle.sql_rows.proofs.Seats.{role_back}

-- The columns of an act give it back.

number_back : (o : Option ℕ) → IfSome o (λ n. 1 ≤ n) → entry_or_none (nat_abs (act_entry_column o)) ≡ o
number_back o one = grind (arith, ints, nat_tests, not_zero)

last_fails : (a b c d : Bool) → (a && b && c && not d) ≡ true → d ≡ false
last_fails a b c d h = grind arith

-- no person is called `cashier`
other_name : (name : List ℕ) → IsPerson name → bytes_eq name cashier_text ≡ false
unfolding is_person_text
other_name name is =
    last_fails (nat_le 1 (length name)) (nat_le (length name) MAX_PERSON) (list_all is_person_byte name)
    (bytes_eq name cashier_text) is

caller_back : (c : Caller) → IsCaller c → caller_from (caller_column c) ≡ c
caller_back Cashier is = refl
caller_back (Person name) is = ap (λ b. cond b Cashier (Person name)) (other_name name is)

-- who is named as the cashier is the cashier
pub is_cashier : (c : Caller) → IsCaller c → bytes_eq (caller_column c) cashier_text ≡ true → c ≡ Cashier
is_cashier c is named =
    sym (caller_back c is) ∙ ap (λ b. cond b Cashier (Person (caller_column c))) named

-- a person's name names somebody
pub is_named : (text : List ℕ) → IsPerson text → (c : Caller) × (IsCaller c × (caller_column c ≡ text))
is_named text is = (Person text, (is, refl))

pub deed_back : (d : Deed) → deed_from (deed_column d) (text_column d) (number_column d) ≡ d
unfolding deed_from
deed_back (deed.Opened lawyer) = refl
deed_back (deed.Seated seat) = λ i. deed.Seated (record { person = seat.person; role = role_back seat.role i })
deed_back (deed.Unseated person) = refl
deed_back deed.Closed = refl
deed_back deed.Deposited = refl
deed_back deed.Cancelled = refl
deed_back deed.Cleared = refl
deed_back deed.Returned = refl
deed_back deed.Proposed = refl
deed_back deed.Approved = refl
deed_back deed.Declined = refl
deed_back deed.Withdrawn = refl
deed_back deed.Voided = refl
deed_back deed.Earned = refl
deed_back deed.Disputed = refl
deed_back deed.Claimed = refl
deed_back (deed.Offered part) = refl
deed_back deed.Accepted = refl
deed_back deed.Awarded = refl

-- whatever its number
pub act_back : (x : MatterAct) (seq : ℤ) → IfSome x.act.entry (λ n. 1 ≤ n) × IsCaller x.act.caller
    → act_from (record (act_columns x) { seq = seq }) ≡ x
act_back x seq typed = λ i. record {
  matter = x.matter;
  act = record {
    entry = number_back x.act.entry typed.0 i;
    day = x.act.day;
    caller = caller_back x.act.caller typed.1 i;
    deed = deed_back x.act.deed i;
  };
}

typed : (o : Option ℕ) → IfSome o IsEntryNo → IfSome o (λ n. 1 ≤ n)
typed None is = tt
typed (Some n) is = is.0

is_back : (x : MatterAct) (seq : ℤ) → IsAct x → act_from (record (act_columns x) { seq = seq }) ≡ x
is_back x seq is = act_back x seq (typed x.act.entry is.entry, is.caller)

-- an act is the one that its columns stand for
pub act_read : (x : MatterAct) (row : table.Act) → IsAct x → act_columns x ≡ row → x ≡ act_from row
act_read x row is same = sym (is_back x (pos 0) is) ∙ ap act_from same

-- and so is a deed
pub deed_of_columns : (d : Deed) (code : ℤ) (text : List ℕ) (number : ℤ) → deed_column d ≡ code → text_column d ≡ text
    → number_column d ≡ number → d ≡ deed_from code text number
deed_of_columns d code text number c t n = sym (deed_back d) ∙ (λ i. deed_from (c i) (t i) (n i))

-- One that is added.

acts_added : (x : MatterAct) (seq : ℤ) (xs : List table.Act) → IsAct x
    → map act_from (xs ++ record (act_columns x) { seq = seq } ∷ []) ≡ map act_from xs ++ x ∷ []
acts_added x seq xs is = map-append act_from xs (record (act_columns x) { seq = seq } ∷ [])
    ∙ ap (λ y. map act_from xs ++ y ∷ []) (is_back x seq is)

written_act_added : (x : MatterAct) (seq : ℤ) (xs : List table.Act) → IsAct x
    → AllByRecursion IsWrittenAct xs → AllByRecursion IsWrittenAct (xs ++ record (act_columns x) { seq = seq } ∷ [])
written_act_added x seq xs is all =
    let back = sym (is_back x seq is) in
    all-append IsWrittenAct xs _ all ((ap act_columns back, subst IsAct back is), tt)

-- Those of a matter that are gone.

-- a row is of the matter where its act is
same_matter : (m : ℕ) (x : table.Act) → IsWrittenAct x → is_act_of (pos m) x ≡ (nat_abs x.matter == m)
same_matter m x is =
    ap (λ z. int_eq z (pos m)) (ap (λ (y : table.Act). y.matter) is.0) ∙ int_eq-nat (nat_abs x.matter) m

-- those that are left stand for the acts without those of the matter
acts_gone : (m : ℕ) (xs : List table.Act) → AllByRecursion IsWrittenAct xs
    → map act_from (delete_where (is_act_of (pos m)) xs) ≡ acts_without m (map act_from xs)
acts_gone m xs all =
    read-filter_agrees act_from (λ x. not (is_act_of (pos m) x)) (λ a. not (a.matter == m)) xs
    (all_weaker IsWrittenAct _ (λ x is. ap not (same_matter m x is)) xs all)

-- Acts and dismissals are rows of one table: a row of a matter is an act, and no other.

-- no matter has number 0
of_matter : (m : ℕ) → 1 ≤ m → int_eq (pos m) (pos 0) ≡ false
of_matter m one = int_eq-nat m 0 ∙ not_zero m one

of_none : (m : ℕ) → 1 ≤ m → int_eq (pos 0) (pos m) ≡ false
of_none m one = grind (arith, ints, nat_tests, of_matter)

-- two filters, in either order
filters_turn : {X : Type 0} (p q : X → Bool) (xs : List X) → filter p (filter q xs) ≡ filter q (filter p xs)
filters_turn p q [] = refl
filters_turn p q (x ∷ xs) = grind (arith, filters_turn p q xs)

-- a filter that all pass whom the other lets through
filter_passed :
    {X : Type 0} (p q : X → Bool) → ((x : X) → p x ≡ true → q x ≡ true)
    → (xs : List X) → filter p (filter q xs) ≡ filter p xs
filter_passed p q all [] = refl
filter_passed p q all (x ∷ xs) = grind (arith, all x, filter_passed p q all xs)

int_same : (a b : ℤ) → int_eq a b ≡ true → a ≡ b
int_same a b is = (Decides-int_eq a b).0 is

-- the rows of a matter stand for its acts
pub acts_of_matter : (m : ℕ) → 1 ≤ m → (xs : List table.Act) → AllByRecursion IsWrittenAct (acts_among xs)
    → map act_from (filter (is_act_of (pos m)) xs) ≡ acts_in m (map act_from (acts_among xs))
acts_of_matter m one xs all =
    ap (map act_from)
    (sym (filter_passed (is_act_of (pos m)) (λ x. not (is_act_of (pos 0) x))
    (λ x own. ap not (ap (λ z. int_eq z (pos 0)) (int_same x.matter (pos m) own) ∙ of_matter m one)) xs))
    ∙ read-filter_agrees act_from (is_act_of (pos m)) (λ a. a.matter == m) (acts_among xs)
    (all_weaker IsWrittenAct _ (same_matter m) (acts_among xs) all)

-- such a row is one more act, and no dismissal
among_added : (m : ℕ) (x : table.Act) (xs : List table.Act) → 1 ≤ m → x.matter ≡ pos m
    → (acts_among (xs ++ x ∷ []) ≡ acts_among xs ++ x ∷ []) × (dismissals_among (xs ++ x ∷ []) ≡ dismissals_among xs)
among_added m x xs one own =
    let other : is_act_of (pos 0) x ≡ false = ap (λ z. int_eq z (pos 0)) own ∙ of_matter m one in (
      filter-append (λ y. not (is_act_of (pos 0) y)) xs (x ∷ [])
          ∙ ap (λ b. acts_among xs ++ cond (not b) (x ∷ []) []) other,
      filter-append (is_act_of (pos 0)) xs (x ∷ [])
          ∙ ap (λ b. dismissals_among xs ++ cond b (x ∷ []) []) other ∙ append-nil (dismissals_among xs),
    )

-- without the rows of a matter there are the acts without its own, and all dismissals
among_gone : (m : ℕ) (xs : List table.Act) → 1 ≤ m
    → (acts_among (delete_where (is_act_of (pos m)) xs) ≡ delete_where (is_act_of (pos m)) (acts_among xs))
    × (dismissals_among (delete_where (is_act_of (pos m)) xs) ≡ dismissals_among xs)
among_gone m xs one = (
  filters_turn (λ x. not (is_act_of (pos 0) x)) (λ x. not (is_act_of (pos m) x)) xs,
  filter_passed (is_act_of (pos 0)) (λ x. not (is_act_of (pos m) x))
      (λ x own. ap not (ap (λ z. int_eq z (pos m)) (int_same x.matter (pos 0) own) ∙ of_none m one)) xs,
)

-- a row of no matter is one more dismissal, and no act
pub own_added : (x : table.Act) (xs : List table.Act) → x.matter ≡ pos 0
    → (acts_among (xs ++ x ∷ []) ≡ acts_among xs) × (dismissals_among (xs ++ x ∷ []) ≡ dismissals_among xs ++ x ∷ [])
own_added x xs own =
    let none : is_act_of (pos 0) x ≡ true = ap (λ z. int_eq z (pos 0)) own in (
      filter-append (λ y. not (is_act_of (pos 0) y)) xs (x ∷ [])
          ∙ ap (λ b. acts_among xs ++ cond (not b) (x ∷ []) []) none ∙ append-nil (acts_among xs),
      filter-append (is_act_of (pos 0)) xs (x ∷ [])
          ∙ ap (λ b. dismissals_among xs ++ cond b (x ∷ []) []) none,
    )

-- What a change makes of them.

-- other rows of the trail: they stand for the acts after the change, and are what would be written for them, and the
-- dismissals are as they were
pub record AreActsAfter (m : ℕ) (o : Option Act) (e : Edit) (old new : List table.Act) : Type 0 where
  pub shown : map act_from (acts_among new) ≡ joined_acts m e o (map act_from (acts_among old))
  pub written : AllByRecursion IsWrittenAct (acts_among new)
  pub dismissed : dismissals_among new ≡ dismissals_among old

-- no other table changes
pub record AreActsMade (m : ℕ) (o : Option Act) (e : Edit) (a b : Lists) : Type 0 where
  pub acts : List table.Act
  pub same : b ≡ record a { acts = acts }
  pub after : AreActsAfter m o e a.acts acts

module _ (m : ℕ) (a b : Lists) (one : 1 ≤ m) (all : AllByRecursion IsWrittenAct (acts_among a.acts)) where
  -- the act that the change is remembered by is added
  pub record IsActMade (o : Option Act) : Type 0 where
    pub acts : List table.Act
    pub same : b ≡ record a { acts = acts }
    pub shown : map act_from (acts_among acts) ≡ map act_from (acts_among a.acts) ++ joined_act m o
    pub written : AllByRecursion IsWrittenAct (acts_among acts)
    pub dismissed : dismissals_among acts ≡ dismissals_among a.acts

  act_made : (o : Option Act) → IsTypedAct m o → AreMade (act_steps m o) a b → IsActMade o
  act_made None typed made = record {
    acts = a.acts;
    same = made;
    shown = sym (append-nil (map act_from (acts_among a.acts)));
    written = all;
    dismissed = refl;
  }
  act_made (Some act) typed made =
      let x : MatterAct = record { matter = m; act = act } in
      let seq : ℤ = made.1.0 in
      let row : table.Act = record (act_columns x) { seq = seq } in
      let among = among_added m row a.acts one refl in record {
        acts = a.acts ++ row ∷ [];
        same = made.2 ∙ made.1.1;
        shown = ap (map act_from) among.0 ∙ acts_added x seq (acts_among a.acts) typed;
        written =
            subst (AllByRecursion IsWrittenAct) (sym among.0) (written_act_added x seq (acts_among a.acts) typed all);
        dismissed = among.1;
      }

  added : (o : Option Act) (e : Edit) → IsTypedAct m o → AreMade (act_steps m o) a b
      → joined_acts m e o (map act_from (acts_among a.acts)) ≡ map act_from (acts_among a.acts) ++ joined_act m o
      → AreActsMade m o e a b
  added o e typed made is =
      let it = act_made o typed made in record {
        acts = it.acts;
        same = it.same;
        after = record { shown = it.shown ∙ sym is; written = it.written; dismissed = it.dismissed };
      }

  -- each change does so, but one of nothing, and a purge, which removes those of the matter
  pub acts_made : (o : Option Act) (e : Edit) → IsTypedAct m o → AreMade (trail_steps m o e) a b → AreActsMade m o e a b
  acts_made o edit.Nothing typed made =
      record { acts = a.acts; same = made; after = record { shown = refl; written = all; dismissed = refl } }
  acts_made o (edit.Open x) typed made = added o (edit.Open x) typed made refl
  acts_made o (edit.Seat x) typed made = added o (edit.Seat x) typed made refl
  acts_made o (edit.Unseat x) typed made = added o (edit.Unseat x) typed made refl
  acts_made o (edit.Close x) typed made = added o (edit.Close x) typed made refl
  acts_made o (edit.Purge x) typed made =
      let among = among_gone m a.acts one in record {
        acts = delete_where (is_act_of (pos m)) a.acts;
        same = made.2 ∙ made.1;
        after = record {
          shown = ap (map act_from) among.0 ∙ acts_gone m (acts_among a.acts) all;
          written =
              subst (AllByRecursion IsWrittenAct) (sym among.0) (all-filter IsWrittenAct _ (acts_among a.acts) all);
          dismissed = among.1;
        };
      }
  acts_made o (edit.Append x) typed made = added o (edit.Append x) typed made refl
  acts_made o (edit.Exchange x) typed made = added o (edit.Exchange x) typed made refl
