-- The names that the proofs of this crate cite, passed on from one place. Declares nothing.
pub use Rattle.firm_rows.specs.Firm.{Firm, acted, after_edit}
pub use Rattle.firm_rows.specs.FirmChange.{Dismissed, FirmChange, FitsFirm, OfBalance, OfFirm, OfMatter, Repeated, Unmatched, after}
pub use Rattle.firm_rows.specs.FirmLines.{as_firm_line, balance_row}
pub use Rattle.sql_making.specs.Books.{AreNewBook, IsBook, IsNewBook, versions_in}
pub use Rattle.sql_making.specs.Bare.{IsBareBook, IsExtended}
pub use Rattle.sql_making.specs.Then.{IsMoved, IsOldBook, Stood}
pub use Rattle.sql_rows.specs.Columns.{balance_columns, firm_line_columns}
pub use Rattle.sql_rows.specs.Meaning.{AreKeyed, AreSound, firm_from}
pub use Rattle.sql_rows.specs.Standing.{EmptyTablesStand, Lasts, StandsSound, firm_in, no_lists}
pub use Rattle.sql_rows.specs.Steps.{AddAct, AddBalance, AddFirmLine, AddMovement, AreMade, ExceptionGone, IsMade, NoteException, matter_steps, step_of, steps_of}
pub use Rattle.sql_schema.specs.Bare.{bare_schema}
pub use Rattle.sql_schema.specs.Schema.{book_schema}
pub use Rattle.sql_schema.specs.declared.layout.Layout.{Layout}
pub use Rattle.sql_schema.specs.declared.layout.Layout.TheVariants.{Made, Moved}
pub use Rattle.sql_tables.specs.Lists.{AreSteps, IsStep, Lists, lists_in}
pub use Rattle.sql_tables.specs.Script.{IsSettled, Written}
pub use Rattle.sql_tables.specs.Standing.{Stands}
pub use Rattle.sql_tables.specs.declared.statements.SqlStatement.{SqlStatement}
pub use Rattle.sqlite.specs.Effect.{Database, IsDatabase}
pub use Rattle.sqlite.specs.Held.{Held, state}
pub use Rattle.sqlite.specs.State.{HasCleanDisk, State}
pub use Rattle.sqlite.specs.declared.error.Error.{Error}
pub use Rattle.sqlite_schema.specs.declared.schema.Schema.{Schema}
pub use Rattle.sqlite_trees.specs.Tree.{Trees}
pub use Rattle.sqlite_value.specs.Order.{Row}
pub use Rattle.sqlite_trees.specs.declared.store.Store.{Ghosts}
pub use Rattle.std.proofs.Common.{is_ok, IsTrue, List, None, OnErr, OnOk, Result, Some, [], ap, append-nil, ap₂, arith, inl, inr, length, map, of_z, refl, rules, subst, sym, to_z, w64, ℕ, ◌++◌, ◌∙◌, ◌∷◌, ◌≡◌, ◌≢◌, ◌⊎◌}
pub use Rattle.trust_base.specs.declared.refusal.StoreFault.{StoreFault}
pub use Rattle.trust_store.proofs.Writes.{fit_write, write_always, write_if}
pub use Rattle.trust_store.specs.Crashes.{LeavesAlone}
pub use Rattle.sql_book.specs.Books.{HeldBook, IsLasting, IsServing, IsStanding, IsSure, MayLeave, at, firm_of}
pub use Rattle.sql_book.specs.Bare.{BareStands, BareStandsSound, firm_bare}
pub use Rattle.sql_book.specs.Then.{StoodSound, firm_then}
pub use Rattle.std.proofs.lemmas.Bool.Decides.{nat_tests}
pub use Rattle.std.proofs.lemmas.Int.{ints}
