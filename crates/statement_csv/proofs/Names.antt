-- The names that the proofs of this crate cite, passed on from one place. Declares nothing.
pub use Rattle.csv.proofs.ReadFacts.{rows-end, rows-more}
pub use Rattle.csv.specs.Reading.{ReadRecord, default_config, has_failed, reader_source, reader_state, records, source_of, Ready, reader_trim, took_first}
unfoldable pub use Rattle.csv.specs.Reading.{Reached, strip_bom}
pub use Rattle.csv.specs.Records.{fields_of}
unfoldable pub use Rattle.csv.specs.Records.{field_at}
pub use Rattle.std.proofs.Common.{Bool, IfSome, List, None, Option, Some, [], add-zero, ap, arith, cond, drop, false, inl, length, option_and_then, option_map, refl, rules, slice_index, slice_range, subst, suc, sym, take, true, unwrap_or, zero, ℕ, ◌&&◌, ◌++◌, ◌+◌, ◌-◌, ◌==◌, ◌∙◌, ◌∷◌, ◌≡◌, ◌≤◌}
pub use Rattle.std.proofs.lemmas.Bool.{cases_Bool}
pub use Rattle.std.proofs.lemmas.Bool.Decides.{nat_tests}
pub use Rattle.std.proofs.lemmas.List.{drop-drop, drop_at, length-append, length-drop, length-take, drop_more, take-append-drop, take_all}
pub use Rattle.std.specs.Io.KnownBytes.{Consumes, IsAtEnd, Keeps, prepend_known}
pub use Rattle.std.specs.Prelude.{codes, get_or}
pub use Rattle.trust_base.specs.Texts.{entry_of, entry_text, matter_of, matter_text}
pub use Rattle.trust_base.specs.declared.limits.TheConstants.{MAX_FILE_BYTES}
pub use Rattle.statement_csv.specs.Headers.{is_header}
pub use Rattle.statement_csv.specs.Items.{item_by, item_of_line, items_after_header, line_in}
unfoldable pub use Rattle.statement_csv.specs.Items.{item_of, items_from}
pub use Rattle.statement_csv.specs.Limits.{IsAfter, IsHeldBack, IsReading, IsWithin, beyond, left_of}
pub use Rattle.statement_csv.specs.Reading.{Gives, GivesRecord, GivesWithin, HasRead, Records, Stands, items_left, records_left, unread, IsLive, IsSound, LacksHeader, Reading, left_in, reading_of}
pub use Rattle.statement_csv.specs.References.{entry_of_texts, named, reference_text, LineOwner}
unfoldable pub use Rattle.statement_csv.specs.References.{entry_named, owner_of}
pub use Rattle.statement_csv.specs.declared.item.Item.{Item}
pub use Rattle.std.proofs.lemmas.Int.{ints}
