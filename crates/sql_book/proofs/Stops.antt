-- What a stop leaves of a book is taken again.
use Rattle.sql_book.proofs.Names.{◌≡◌, inl, inr, map, length, sym, ap, subst, refl, ◌∙◌, arith, Trees, Ghosts, Database, IsDatabase, Held, state, Firm, LeavesAlone, Layout, Made, Moved, book_schema, lists_in, firm_from, EmptyTablesStand, StandsSound, firm_in, no_lists, IsBook, IsNewBook, AreNewBook, IsOldBook, IsBareBook, bare_schema, firm_bare, BareStandsSound, HeldBook, at, firm_of, IsStanding, IsLasting, MayLeave, firm_then, ints, nat_tests}
use Rattle.sql_tables.specs.Rows.{entry_in}
use Rattle.sql_making.proofs.NewBook.{is_book, new_book_stands}
use Rattle.sql_making.specs.Bare.{AreExtended}
use Rattle.sql_schema.proofs.Apart.{bare_or_now, bare_or_old, never_both}
use Rattle.sql_book.specs.Opening.{IsExtendedBook, IsKeptBook, IsMovedBook, IsTaken}
use Rattle.sql_book.specs.Stops.{IsOpenedOver, HoldsLeft, IsNext, HoldsNewBook, HoldsOldFirm, HoldsFirm, HoldsBareFirm, IsOfFirm, BooksAreTaken, StopsInExtendingLeaveBooks, StopsInMovingLeaveBooks}
use Rattle.sql_book.proofs.OneSchema.{one_database}
use Rattle.sql_book.proofs.Moves.{extended_firm, extended_stands, moved_stands, moved_firm}

-- tables lie in one layout
pub one_layout : (l k : Layout) → book_schema l ≡ book_schema k → l ≡ k
one_layout l k same = grind (arith, ints, nat_tests, length)

-- so do those without the trail
pub one_bare_layout : (l k : Layout) → bare_schema l ≡ bare_schema k → l ≡ k
one_bare_layout l k same = grind (arith, ints, nat_tests, length)

-- a connection sees the database whose trees were left
sees : {T : Type 0} (h : Ghosts T) (trees : Trees) (conn : Held T) (db : Database) → IsOpenedOver h trees conn → trees ≡ db.trees → IsDatabase db → (state h conn).now ≡ db
sees h trees conn db opened left listed = grind (arith, ints, nat_tests, one_database, state)

-- where there are the tables of this version, these are the tables of the book that is taken
pub kept_there : {T : Type 0} (h : Ghosts T) (l : Layout) (conn : Held T) (next : HeldBook T) → (state h conn).now.schema ≡ book_schema l → IsTaken h conn next → IsKeptBook h conn next
kept_there h l conn next there taken = elim taken.found [
  | inl kept ↦ kept
  | inr changed ↦ absurd (elim changed [
    | inl moved ↦ never_both l (sym moved.book.schema ∙ there)
    | inr given ↦ bare_or_now next.layout l (sym given.book.schema ∙ there)
  ])
]

-- and where there are those of version 1, they were moved
moved_there : {T : Type 0} (h : Ghosts T) (conn : Held T) (next : HeldBook T) → IsOldBook (state h conn).now → IsTaken h conn next → IsMovedBook h conn next
moved_there h conn next there taken = elim taken.found [
  | inl kept ↦ absurd (never_both next.layout (sym there.schema ∙ kept.book.schema))
  | inr changed ↦ elim changed [
    | inl moved ↦ moved
    | inr given ↦ absurd (bare_or_old next.layout (sym there.schema ∙ given.book.schema))
  ]
]

-- and where there are those without the trail, they were given it
extended_there : {T : Type 0} (h : Ghosts T) (l : Layout) (conn : Held T) (next : HeldBook T) → (state h conn).now.schema ≡ bare_schema l → IsTaken h conn next → IsExtendedBook h conn next
extended_there h l conn next there taken = elim taken.found [
  | inl kept ↦ absurd (bare_or_now l next.layout (sym there ∙ kept.book.schema))
  | inr changed ↦ elim changed [
    | inl moved ↦ absurd (bare_or_old l (sym moved.book.schema ∙ there))
    | inr given ↦ given
  ]
]

module _ {S T : Type 0} (g : Ghosts S) (h : Ghosts T) where
  pub leaves_book : (before : HeldBook S) (trees : Trees) (conn : Held T) → IsLasting g before → (at g before).may_leave trees → IsOpenedOver h trees conn → HoldsLeft g h before conn
  leaves_book before trees conn lasts may opened = grind (arith, ints, nat_tests, sees, firm_in)

  pub is_taken : (before : HeldBook S) (conn : Held T) (next : HeldBook T) → HoldsLeft g h before conn → IsTaken h conn next → IsNext g h before next
  is_taken before conn next holds taken =
      let kept = kept_there h before.layout conn next holds.book.schema taken in
      let same : before.layout ≡ next.layout = one_layout before.layout next.layout (sym holds.book.schema ∙ kept.book.schema) in
      grind (arith, ints, nat_tests, state, firm_in)

-- tables without rows
no_rows : (db : Database) → IsNewBook db → lists_in Made db.trees ≡ no_lists
no_rows db new = grind (arith, ints, nat_tests, map, entry_in)

pub holds_new_book : {T : Type 0} (h : Ghosts T) (trees : Trees) (conn : Held T) → EmptyTablesStand → AreNewBook trees → IsOpenedOver h trees conn → HoldsNewBook h conn
holds_new_book h trees conn empty new opened =
    let db : Database = record { schema = book_schema Made; trees = trees } in
    let same = sees h trees conn db opened refl new.listed in
    let none = no_rows db new in
    grind (arith, ints, nat_tests, is_book, new_book_stands, firm_in, firm_from)

module _ {T : Type 0} (h : Ghosts T) where
  of_firm : (firm : Firm) (next : HeldBook T) → IsStanding h next → firm_of h next ≡ firm → LeavesAlone (firm_of h next) (MayLeave h next) → IsLasting h next → IsOfFirm h firm next
  of_firm firm next stands same settled lasts = record {
    stands = stands;
    same = same;
    settled = subst (λ f. LeavesAlone f (MayLeave h next)) same settled;
    lasts = lasts;
  }

  of_kept : (firm : Firm) (conn : Held T) (next : HeldBook T) → HoldsFirm h firm conn → IsTaken h conn next → IsOfFirm h firm next
  of_kept firm conn next holds taken =
      let kept = kept_there h holds.layout conn next holds.book.schema taken in
      let alike : holds.layout ≡ next.layout = one_layout holds.layout next.layout (sym holds.book.schema ∙ kept.book.schema) in
      let stood = subst (λ (l : Layout). StandsSound l (state h conn).now) alike holds.stands in
      of_firm firm next (kept.stands stood) (kept.firm ∙ sym (ap (λ (l : Layout). firm_in l (state h conn).now.trees) alike) ∙ holds.same) taken.settled (kept.lasts stood)

  of_moved : (firm : Firm) (conn : Held T) (next : HeldBook T) → HoldsOldFirm h firm conn → IsTaken h conn next → IsOfFirm h firm next
  of_moved firm conn next holds taken =
      let moved = moved_there h conn next holds.book taken in
      of_firm firm next (moved.stands holds.stood) (moved.firm holds.stood.tables ∙ holds.same) taken.settled (moved.lasts holds.stood)

  of_extended : (firm : Firm) (conn : Held T) (next : HeldBook T) → HoldsBareFirm h firm conn → IsTaken h conn next → IsOfFirm h firm next
  of_extended firm conn next holds taken =
      let given = extended_there h holds.layout conn next holds.book.schema taken in
      let alike : holds.layout ≡ next.layout = one_bare_layout holds.layout next.layout (sym holds.book.schema ∙ given.book.schema) in
      let stood = subst (λ (l : Layout). BareStandsSound l (state h conn).now) alike holds.stands in
      of_firm firm next (given.stands stood) (given.firm ∙ sym (ap (λ (l : Layout). firm_bare l (state h conn).now.trees) alike) ∙ holds.same) taken.settled (given.lasts stood)

  pub is_of_firm : (firm : Firm) → BooksAreTaken h firm
  is_of_firm firm conn next (inl old) taken = of_moved firm conn next old taken
  is_of_firm firm conn next (inr (inl bare)) taken = of_extended firm conn next bare taken
  is_of_firm firm conn next (inr (inr new)) taken = of_kept firm conn next new taken

  pub holds_either : StopsInMovingLeaveBooks h
  holds_either db trees conn old (inl same) opened =
      let there = sees h trees conn db opened same old.listed in
      grind (arith, ints, nat_tests, firm_then)
  holds_either db trees conn old (inr (inr given)) opened = absurd (bare_or_old given.0 (sym old.book.schema ∙ given.1.schema))
  holds_either db trees conn old (inr (inl moved)) opened =
      let next : Database = record { schema = book_schema Moved; trees = trees } in
      let there = sees h trees conn next opened refl moved.1.listed in
      inr (record {
        layout = Moved;
        book = subst (IsBook Moved) (sym there) moved.1.book;
        stands = subst (StandsSound Moved) (sym there) (moved_stands db next moved.1 old.stood);
        same = ap (λ (d : Database). firm_in Moved d.trees) there ∙ moved_firm db next moved.1 old.stood.tables;
      })

  pub holds_bare : StopsInExtendingLeaveBooks h
  holds_bare l db trees conn bare (inl same) opened =
      let there = sees h trees conn db opened same bare.listed in
      inl (record {
        layout = l;
        book = subst (IsBareBook l) (sym there) bare.book;
        stands = subst (BareStandsSound l) (sym there) bare.stands;
        same = ap (λ (d : Database). firm_bare l d.trees) there;
      })
  holds_bare l db trees conn bare (inr (inl moved)) opened = absurd (bare_or_old l (sym moved.0.schema ∙ bare.book.schema))
  holds_bare l db trees conn bare (inr (inr given)) opened =
      let alike : given.0 ≡ l = one_bare_layout given.0 l (sym given.1.schema ∙ bare.book.schema) in
      let extended = subst (λ (k : Layout). AreExtended k db trees) alike given.2 in
      let next : Database = record { schema = book_schema l; trees = trees } in
      let there = sees h trees conn next opened refl extended.listed in
      inr (record {
        layout = l;
        book = subst (IsBook l) (sym there) extended.book;
        stands = subst (StandsSound l) (sym there) (extended_stands l db next extended bare.stands);
        same = ap (λ (d : Database). firm_in l d.trees) there ∙ extended_firm l db next extended;
      })
