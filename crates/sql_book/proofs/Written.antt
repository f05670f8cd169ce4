-- What the call that writes a script leaves is a write of the book, if the change of the script fits.
use Rattle.sql_book.proofs.Names.{◌≡◌, ◌≢◌, ◌⊎◌, inl, inr, ℕ, List, [], map, Result, OnOk, OnErr, IsTrue, refl, sym, ap, subst, ◌∙◌, Ghosts, Trees, Database, IsDatabase, Held, state, State, HasCleanDisk, StoreFault, Firm, FirmChange, FitsFirm, after, LeavesAlone, Layout, SqlStatement, lists_in, IsSettled, Written, Stands, StandsSound, firm_in, step_of, steps_of, AreMade, HeldBook, IsServing, IsStanding, firm_of, MayLeave, is_ok, Error, arith, ints, nat_tests}
use Rattle.std.proofs.lemmas.Result.{on_ok_weaker, on_err_weaker}
use Rattle.trust_store.specs.Books.{counted}
use Rattle.trust_store.specs.Calls.{IsWrite, IsWriteIf}
use Rattle.sql_tables.specs.Reading.{LeavesOnly}
use Rattle.sql_rows.specs.Scripts.{IsTyped, IsScriptMeant, ScriptsAreMeant}
use Rattle.sql_book.specs.Books.{seen_of}
use Rattle.sql_book.proofs.Scripts.{made_of_steps, keyed}

both_ok : {T E P Q R : Type 0} (r : Result T E) → OnOk r P → OnOk r Q → (P → Q → R) → OnOk r R
both_ok r p q f = grind (arith, ints, nat_tests)

either_way : {T E P Q R : Type 0} (r : Result T E) → OnOk r P → OnErr r Q → (P → R) → (Q → R) → R
either_way r p q f g = grind (arith, ints, nat_tests)

-- the second tables stand for the firm of the first after the change, and their database lists what it holds
record StandsAfter (l : Layout) (change : FirmChange) (db next : Database) : Type 0 where
  firm : firm_in l next.trees ≡ after change (firm_in l db.trees)
  stands : StandsSound l next
  listed : IsDatabase next

-- what was written of a change that fits stands for the firm after it
stands_after : (l : Layout) (change : FirmChange) (script : List SqlStatement) (db next : Database)
    → IsScriptMeant change → IsTyped change → map step_of script ≡ steps_of change
    → StandsSound l db → FitsFirm (firm_in l db.trees) change → script ≢ [] → Written l script db next
    → StandsAfter l change db next
stands_after l change script db next meant typed is stands fits some written =
    let a = lists_in l db.trees in
    let b = lists_in l next.trees in
    let steps = subst (λ s. AreMade s a b) is (made_of_steps script a b written.steps) in
    grind (arith, ints, nat_tests, keyed, after)

-- what the call that writes a script leaves
pub record Wrote {E : Type 0} (script : List SqlStatement) (result : Result Unit E) (old new : State) : Type 0 where
  pub written : (l : Layout) → HasCleanDisk new → Stands l old.now → OnOk result (Written l script old.now new.now)
  pub settled : HasCleanDisk new → OnOk result (IsSettled new)
  pub serves : HasCleanDisk new → OnOk result (IsTrue new.is_open)
  pub was_open : HasCleanDisk new → IsTrue new.is_open → IsTrue old.is_open
  pub none : HasCleanDisk new → IsTrue new.is_open
      → OnErr result ((new.now ≡ old.now) × (new.committed ≡ old.committed))
  pub was_clean : HasCleanDisk new → HasCleanDisk old
  pub opened : HasCleanDisk new → script ≢ [] → LeavesOnly old new (λ _. IsTrue old.is_open)
  pub crash : (l : Layout) → HasCleanDisk new → Stands l old.now
      → LeavesOnly old new (λ trees. (db : Database) × Written l script old.now db × (trees ≡ db.trees))

-- what a book promises of a write, and what it promises if something holds
abbrev pub IsBookWrite : {S T : Type 0} → Ghosts S → FirmChange → Result T StoreFault → HeldBook S → HeldBook S → Type 0
IsBookWrite g change result old new = IsWrite change result (seen_of g old) (seen_of g new)

abbrev pub IsBookWriteIf : {S T : Type 0} → Ghosts S → Type 0 → FirmChange → Result T StoreFault → HeldBook S → HeldBook S
    → Type 0
IsBookWriteIf g fits change result old new = IsWriteIf fits change result (seen_of g old) (seen_of g new)

-- if the book serves and stands, the change fits its firm
abbrev pub FitsBook : {S : Type 0} → Ghosts S → FirmChange → HeldBook S → Type 0
FitsBook g change b = IsServing g b → IsStanding g b → FitsFirm (firm_of g b) change

-- a book that holds this
abbrev pub holding : {S : Type 0} → Held S → Layout → ℕ → HeldBook S
holding conn layout refusals = record { conn = conn; layout = layout; refusals = refusals }

module _ {S : Type 0} (g : Ghosts S) (l : Layout) (before now : Held S) (few many : ℕ) (change : FirmChange)
    (script : List SqlStatement) (some : script ≢ []) (meant : IsScriptMeant change) (typed : IsTyped change)
    (is : map step_of script ≡ steps_of change) (result : Result Unit StoreFault)
    (w : Wrote script result (state g before) (state g now)) (count : many ≡ counted result few) where
  abbrev Fits : Type 0
  Fits = FitsBook g change (holding before l few)

  abbrev s : State
  s = state g before

  abbrev t : State
  t = state g now

  left : Fits → HasCleanDisk t → StandsSound l s.now → IsTrue s.is_open → (db : Database) → Written l script s.now db
      → StandsAfter l change s.now db
  left fits clean stands served db written =
      stands_after l change script s.now db meant typed is stands (fits (w.was_clean clean, served) stands) some written

  -- a connection that answered served before
  made : Fits → HasCleanDisk t → StandsSound l s.now → OnOk result (StandsAfter l change s.now t.now)
  made fits clean stands =
      both_ok result (on_ok_weaker result (w.was_open clean) (w.serves clean)) (w.written l clean stands.tables)
      (λ served written. left fits clean stands served t.now written)

  may_be : Fits → HasCleanDisk t → StandsSound l s.now → (trees : Trees) → t.may_leave trees
      → s.may_leave trees ⊎ ((db : Database) × StandsAfter l change s.now db × (trees ≡ db.trees))
  may_be fits clean stands trees may = elim (w.opened clean some trees may) [
    | inl before ↦ inl before
    | inr served ↦ elim (w.crash l clean stands.tables trees may) [
      | inl before ↦ inl before
      | inr it ↦ inr (it.0, left fits clean stands served it.0 it.1, it.2)
    ]
  ]

  is_write : IsBookWriteIf g Fits change result (holding before l few) (holding now l many)
  is_write = record {
    ok = λ serves stands fits. on_ok_weaker result (λ m. m.firm) (made fits serves.0 stands);
    err = λ serves stands.
        on_err_weaker result (λ same. ap (λ (db : Database). firm_in l db.trees) same.0) (w.none serves.0 serves.1);
    was_clean = λ serves. (w.was_clean serves.0, w.was_open serves.0 serves.1);
    was_sure = w.was_clean;
    still_stands = λ serves stands fits.
        either_way result (made fits serves.0 stands) (w.none serves.0 serves.1) (λ m. m.stands)
        (λ same. subst (StandsSound l) (sym same.0) stands);
    still_lasts = λ clean stands fits lasts trees may. elim (w.opened clean some trees may) [
      | inl before ↦ lasts trees before
      | inr served ↦ elim (may_be fits clean (stands (w.was_clean clean, served)) trees may) [
        | inl before ↦ lasts trees before
        | inr it ↦ record { db = it.0; left = it.2; listed = it.1.listed; stands = it.1.stands }
      ]
    ];
    serves = λ clean _. on_ok_weaker result (λ served. (clean, served)) (w.serves clean);
    crash = λ clean stands fits found left. elim (may_be fits clean stands left.0 left.1) [
      | inl before ↦ inl (left.0, before, left.2)
      | inr it ↦ inr (left.2 ∙ ap (firm_in l) it.2 ∙ it.1.firm)
    ];
    settled = λ clean stands fits.
        both_ok result (w.settled clean) (made fits clean stands)
        (λ alone m _ found left. left.2 ∙ ap (firm_in l) (alone.1 left.0 left.1) ∙ m.firm);
    count = count;
  }

-- it does not matter why it failed
told : {E F : Type 0} (script : List SqlStatement) (q : Result Unit E) (r : Result Unit F) (old new : State)
    → is_ok r ≡ is_ok q → Wrote script q old new → Wrote script r old new
told script q r old new alike w = grind (arith, ints, nat_tests)

-- the same of a book that is seen to hold the connection
pub wrote : {S : Type 0} (g : Ghosts S) {l : Layout} {before : Held S} (now : Held S) {few many : ℕ} {q : Result Unit Error}
    {r : Result Unit StoreFault} {old : HeldBook S} (change : FirmChange) (script : List SqlStatement)
    → holding before l few ≡ old → is_ok r ≡ is_ok q → many ≡ counted r few → ScriptsAreMeant
    → Wrote script q (state g before) (state g now) → script ≢ [] → IsTyped change → map step_of script ≡ steps_of change
    → IsBookWriteIf g (FitsBook g change old) change r old (holding now l many)
wrote g {l} {before} now {few} {many} {q} {r} change script held alike count meant w some typed is =
    subst (λ b. IsBookWriteIf g (FitsBook g change b) change r b (holding now l many)) held
    (is_write g l before now few many change script some (meant change) typed is r
    (told script q r (state g before) (state g now) alike w) count)

-- What holds of every answer.

ok_always : {T E P : Type 0} (r : Result T E) → P → OnOk r P
ok_always r p = grind (arith, ints, nat_tests)

err_always : {T E P : Type 0} (r : Result T E) → P → OnErr r P
err_always r p = grind (arith, ints, nat_tests)

-- a book that was not written is as it was, if the call failed or its change leaves every firm as it is
pub no_write : {S T : Type 0} (g : Ghosts S) (change : FirmChange) (r : Result T StoreFault) (b : HeldBook S)
    → b.refusals ≡ counted r b.refusals → OnOk r ((firm : Firm) → after change firm ≡ firm)
    → IsBookWrite g change r b b
no_write g change r b count same = record {
  ok = λ _ _. on_ok_weaker r (λ all. sym (all (firm_of g b))) same;
  err = λ _ _. err_always r refl;
  was_clean = λ clean. clean;
  was_sure = λ sure. sure;
  still_stands = λ _ stands. stands;
  still_lasts = λ _ _ lasts. lasts;
  serves = λ _ clean. ok_always r clean;
  crash = λ _ _ found left. inl left;
  settled = λ _ _.
      on_ok_weaker r (λ all alone. subst (λ firm. LeavesAlone firm (MayLeave g b)) (sym (all (firm_of g b))) alone) same;
  count = count;
}
