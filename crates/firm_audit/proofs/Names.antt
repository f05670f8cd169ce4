-- The names that the proofs of this crate cite, passed on from one place. Declares nothing.
pub use Rattle.firm_rows.proofs.Sums.{sum-append, sum-filter}
pub use Rattle.firm_rows.specs.Firm.{Firm, is_of_matter, of, pairs, put}
pub use Rattle.firm_rows.specs.FirmLines.{IsOwnBalance, balance_cmp, balance_of}
pub use Rattle.firm_rows.specs.Journal.{event_of, events_moved, firm_events, is_of_entry, is_of_firm, line_event, moved_for}
pub use Rattle.firm_rows.specs.declared.movement.Movement.{Movement}
pub use Rattle.matter_parts.specs.Parts.{AreNumbered, entries_kept}
pub use Rattle.matter_parts.specs.declared.kept.Kept.{Kept}
pub use Rattle.matter_rows.proofs.Entries.{some-within, within}
pub use Rattle.matter_rows.specs.Events.{Event, as_movement, events_in, nth_moved}
unfoldable pub use Rattle.matter_rows.specs.Events.{events_of}
pub use Rattle.matter_rows.specs.Rows.{Rows, entry_at, last_of, unopened}
pub use Rattle.matter_rows.specs.Sound.{Sound}
pub use Rattle.std.proofs.Common.{Bool, Err, List, None, Ok, Result, Option, Some, [], ap, arith, cond, drop, false, filter, get_or, inl, inr, length, map, of_z, refl, rules, subst, suc, sym, take, to_z, true, zero, ℕ, ◌++◌, ◌+◌, ◌-◌, ◌*◌, ◌<◌, ◌∙◌, ◌∷◌, ◌≡◌, ◌≢◌, ◌≤◌}
pub use Rattle.std.proofs.lemmas.Bool.{cases_Bool, cases_lt, false≢true}
pub use Rattle.std.proofs.lemmas.Bool.Decides.{nat_tests}
pub use Rattle.std.proofs.lemmas.Int.{ints, to_z-of_z}
pub use Rattle.std.proofs.lemmas.List.{drop_more, get_or_default, length-map, take_more}
pub use Rattle.std.specs.List.{AllByRecursion}
pub use Rattle.std.specs.Option.{option_map}
pub use Rattle.std.specs.Prelude.{IfOk, is_some, nat_lt, pos, slice_get, ℤ, ◌+ℤ◌, ◌==◌, ◌≤ℤ◌, ◌↔◌, ◌⊎◌, ◌<ℤ◌, IfSome}
pub use Rattle.trust_store.proofs.KeptMatters.{found_read, joined_fail, joined_pass, rows_of-joined, sound_in, found_err}
pub use Rattle.trust_store.specs.Kept.{AreKeptWhole, Ascends, IsBefore, IsKeptWhole, firm_of_all, joined, rows_in, rows_kept, seek, firm_of}
pub use Rattle.trust_store.specs.declared.plain.KeptMatter.{KeptMatter}
pub use Rattle.firm_audit.specs.Audited.{AreAscending, AreCovered, AreMoved, Follow, IsJournal, IsJournalOf, IsOwnMoney, IsOwned, RiseWithin, moved_of, moved_sum}
pub use Rattle.firm_rows.specs.declared.ledger.FirmLine.{FirmLine}
pub use Rattle.firm_rows.specs.declared.ledger.BalanceRow.{BalanceRow}
pub use Rattle.trust_base.specs.declared.line.Line.{Line}
pub use Rattle.std.proofs.lemmas.Option.{slice_get_read, slice_get_past, slice_get-map, IfSome_then}
pub use Rattle.firm_audit.specs.Flaws.{AreSound, IsFlawIn, IsFlawOf, IsFlawedJournal, IsFlawedMatter, IsJournalFlaw, IsJournalFlawAmong, IsMatterFlaw, IsMisplaced, IsOutside, IsOverdrawn, IsStray, IsUnlike, IsUnlikeAmong, IsUnowned}
