-- The next run finds what the one before left.
use Rattle.std.proofs.Common.{◌≡◌, ◌⊎◌, inl, inr, length, IsTrue, sym, ap, subst, refl, ◌∙◌, arith}
use Rattle.std.proofs.Math.Logic.{∥∥₁_map}
use Rattle.sqlite_disk.specs.declared.Disk as disk
use Rattle.sqlite_wal.specs.Reads.{AreClean}
use Rattle.sqlite_wal.specs.Recovery.{Image}
use Rattle.sqlite_trees.specs.Tree.{Trees}
use Rattle.sqlite_schema.specs.declared.schema.Schema.{Schema}
use Rattle.sqlite_catalog.specs.Listing.{IsSound}
use Rattle.sqlite_store.specs.FileStore.{state, view, recovers}
use Rattle.sqlite_store.specs.declared.store.FileStore.{FileStore}
use Rattle.sqlite.specs.Closing.{HoldsAlone}
use Rattle.sqlite.specs.Effect.{Database, IsDatabase}
use Rattle.sqlite.specs.Files.{HoldsDatabase, file_state, over_files}
use Rattle.sqlite.specs.Held.{Held, AreDatabases}
use Rattle.sqlite.proofs.Theorems.{next_run}
use Rattle.firm_rows.specs.Firm.{Firm}
use Rattle.sql_schema.specs.declared.layout.Layout.{Layout}
use Rattle.sql_schema.specs.declared.layout.Layout.TheVariants.{Made, Moved}
use Rattle.sql_schema.specs.Bare.{bare_schema}
use Rattle.sql_schema.specs.Schema.{book_schema}
use Rattle.sql_schema.specs.Old.{old_schema}
use Rattle.sql_rows.specs.Standing.{StandsSound, firm_in}
use Rattle.sql_making.specs.Books.{no_schema}
use Rattle.sql_book.specs.Bare.{firm_bare}
use Rattle.sql_book.specs.Books.{at, IsStanding, IsLasting}
use Rattle.sql_book.specs.Opening.{IsMade, IsTaken}
use Rattle.sql_book.specs.Stops.{IsNext, IsOpenedOver, IsOldStanding, IsLeftInTaking, HoldsOldFirm, HoldsBareFirm, HoldsFirm, IsOfFirm}
use Rattle.sql_book.specs.Then.{firm_then}
use Rattle.sql_book.proofs.OneSchema.{one_database}
use Rattle.sql_book.proofs.Stops.{one_layout, kept_there, leaves_book, is_taken, is_of_firm, holds_either, holds_bare}
use Rattle.system_store.specs.Runs.{BookOf, IsFoundIn, IsPutBack, IsLeftIn, HasSameRows, StoppedExtensionsAreFound}

-- a book has tables
no_layout : (l : Layout) → no_schema ≡ book_schema l → ⊥
no_layout Made same = omega (arith, ap (λ (s : Schema). length s.tables) same)
no_layout Moved same = omega (arith, ap (λ (s : Schema). length s.tables) same)

no_old_layout : no_schema ≡ old_schema → ⊥
no_old_layout same = omega (arith, ap (λ (s : Schema). length s.tables) same)

no_bare_layout : (l : Layout) → no_schema ≡ bare_schema l → ⊥
no_bare_layout Made same = omega (arith, ap (λ (s : Schema). length s.tables) same)
no_bare_layout Moved same = omega (arith, ap (λ (s : Schema). length s.tables) same)

-- so none is made where there is one
taken_there : {E : Type 0} {h : disk.Ghosts E} (l : Layout) (conn : Held (FileStore E h)) (next : BookOf h) → (file_state conn).now.schema ≡ book_schema l
    → IsTaken over_files conn next ⊎ (((file_state conn).now.schema ≡ no_schema) × IsMade over_files next) → IsTaken over_files conn next
taken_there l conn next there (inl taken) = taken
taken_there l conn next there (inr (none, made)) = absurd (no_layout l (sym none ∙ there))

-- nor where there is one of either version
either_there : {E : Type 0} {h : disk.Ghosts E} (db : Database) (conn : Held (FileStore E h)) (next : BookOf h) → HoldsOldFirm over_files (firm_then db.trees) conn ⊎ HoldsFirm over_files (firm_then db.trees) conn
    → IsTaken over_files conn next ⊎ (((file_state conn).now.schema ≡ no_schema) × IsMade over_files next) → IsTaken over_files conn next
either_there db conn next holds (inl taken) = taken
either_there db conn next (inl old) (inr (none, made)) = absurd (no_old_layout (sym none ∙ old.book.schema))
either_there db conn next (inr new) (inr (none, made)) = absurd (no_layout new.layout (sym none ∙ new.book.schema))

-- nor where there is one without the trail, or with it
with_or_without : {E : Type 0} {h : disk.Ghosts E} (firm : Firm) (conn : Held (FileStore E h)) (next : BookOf h) → HoldsBareFirm over_files firm conn ⊎ HoldsFirm over_files firm conn
    → IsTaken over_files conn next ⊎ (((file_state conn).now.schema ≡ no_schema) × IsMade over_files next) → IsTaken over_files conn next
with_or_without firm conn next holds (inl taken) = taken
with_or_without firm conn next (inl bare) (inr (none, made)) = absurd (no_bare_layout bare.layout (sym none ∙ bare.book.schema))
with_or_without firm conn next (inr new) (inr (none, made)) = absurd (no_layout new.layout (sym none ∙ new.book.schema))

-- a book of either version is with the trail or without
of_either : {E : Type 0} {h : disk.Ghosts E} (firm : Firm) (conn : Held (FileStore E h)) → HoldsOldFirm over_files firm conn ⊎ HoldsFirm over_files firm conn
    → HoldsOldFirm over_files firm conn ⊎ (HoldsBareFirm over_files firm conn ⊎ HoldsFirm over_files firm conn)
of_either firm conn (inl old) = inl old
of_either firm conn (inr new) = inr (inr new)

module _ {D E : Type 0} (g : disk.Ghosts D) (h : disk.Ghosts E) where
  same_rows : (before : BookOf g) (put : IsPutBack before) (image : Image) (next : BookOf h) → IsTrue (at over_files before).is_open → IsStanding over_files before → (found : IsFoundIn image next)
      → HoldsDatabase image (at over_files before).committed.trees → HasSameRows before next
  same_rows before put image next is_open stands found holds =
      let conn = found.conn in
      let now = (file_state conn).now in
      let trees : now.trees ≡ (at over_files before).now.trees = ap (λ (d : Database). d.trees) found.opened.0.clean ∙ found.found.holds _ holds ∙ sym (ap (λ (d : Database). d.trees) (put.seen.settled is_open)) in
      let one : now ≡ (at over_files before).now = one_database now (at over_files before).now (found.opened.1 found.opened.0.is_open).0 (put.seen.listed is_open) trees in
      let schema : now.schema ≡ book_schema before.layout = ap (λ (d : Database). d.schema) one ∙ stands.tables.schema in
      let taken = taken_there before.layout conn next schema found.book in
      let kept = kept_there over_files before.layout conn next schema taken in
      let same : before.layout ≡ next.layout = one_layout before.layout next.layout (sym schema ∙ kept.book.schema) in
      let stood = subst (λ (l : Layout). StandsSound l now) same (subst (StandsSound before.layout) (sym one) stands) in
      record {
        rows = kept.firm ∙ ap (λ (l : Layout). firm_in l now.trees) (sym same) ∙ ap (firm_in before.layout) trees;
        stands = kept.stands stood;
        settled = taken.settled;
        lasts = kept.lasts stood;
      }

  pub put_found : (before : BookOf g) (put : IsPutBack before) (image : Image) (next : BookOf h) → AreClean g put.files.log put.files.db → IsLeftIn g put.files image → IsStanding over_files before
      → IsFoundIn image next → ∥ HasSameRows before next ∥₁
  put_found before put image next clean left stands found =
      let copied = put.copied clean in
      ∥∥₁_map (there left).both (same_rows before put image next copied.was_open stands found)
    where
      there : IsLeftIn g put.files image → HoldsAlone image (file_state before.conn).committed.trees
      there (inl same) = subst (λ (i : Image). HoldsAlone i (file_state before.conn).committed.trees) (sym same) (put.copied clean).seen
      there (inr may) = (put.copied clean).left image may

  databases : (before : BookOf g) → IsLasting over_files before → AreDatabases (recovers before.conn.store)
  databases before lasts db may =
      let it = lasts db may in
      (it.db.schema, subst (IsSound it.db.schema) (sym it.left) it.listed)

  pub stopped_found : (before : BookOf g) (image : Image) (next : BookOf h) → IsTrue (view before.conn.store).is_numbered → (state before.conn.store).may_leave image → IsLasting over_files before
      → IsFoundIn image next → ∥ IsNext over_files over_files before next ∥₁
  stopped_found before image next numbered may lasts found =
      let conn = found.conn in
      ∥∥₁_map (next_run before.conn.store numbered (databases before lasts) image may (file_state conn) found.found) (λ left.
      let opened : IsOpenedOver over_files (file_state conn).committed.trees conn = record { opens = found.opened.0; live = found.opened.1; found = refl } in
      let holds = leaves_book over_files over_files before (file_state conn).committed.trees conn lasts left opened in
      is_taken over_files over_files before conn next holds (taken_there before.layout conn next holds.book.schema found.book))

  taking_databases : (db : Database) (before : Held (FileStore D g)) → IsDatabase db → ((trees : Trees) → (file_state before).may_leave trees → IsLeftInTaking db trees) → AreDatabases (recovers before.store)
  taking_databases db before listed left trees may = elim (left trees may) [
    | inl same ↦ (db.schema, subst (IsSound db.schema) (sym same) listed)
    | inr changed ↦ elim changed [
      | inl moved ↦ (book_schema Moved, moved.1.listed)
      | inr given ↦ (book_schema given.0, given.2.listed)
    ]
  ]

  pub moves_found : (db : Database) (before : Held (FileStore D g)) (image : Image) (next : BookOf h) → IsTrue (view before.store).is_numbered → (state before.store).may_leave image → IsOldStanding db
      → ((trees : Trees) → (file_state before).may_leave trees → IsLeftInTaking db trees) → IsFoundIn image next → ∥ IsOfFirm over_files (firm_then db.trees) next ∥₁
  moves_found db before image next numbered may old left found =
      let conn = found.conn in
      let trees = (file_state conn).committed.trees in
      ∥∥₁_map (next_run before.store numbered (taking_databases db before old.listed left) image may (file_state conn) found.found) (λ recovered.
      let opened : IsOpenedOver over_files trees conn = record { opens = found.opened.0; live = found.opened.1; found = refl } in
      let holds = holds_either over_files db trees conn old (left trees recovered) opened in
      is_of_firm over_files (firm_then db.trees) conn next (of_either (firm_then db.trees) conn holds) (either_there db conn next holds found.book))

  pub extensions_found : StoppedExtensionsAreFound g h
  extensions_found l db before image next numbered may bare left found =
      let conn = found.conn in
      let trees = (file_state conn).committed.trees in
      ∥∥₁_map (next_run before.store numbered (taking_databases db before bare.listed left) image may (file_state conn) found.found) (λ recovered.
      let opened : IsOpenedOver over_files trees conn = record { opens = found.opened.0; live = found.opened.1; found = refl } in
      let holds = holds_bare over_files l db trees conn bare (left trees recovered) opened in
      is_of_firm over_files (firm_bare l db.trees) conn next (inr holds) (with_or_without (firm_bare l db.trees) conn next holds found.book))
