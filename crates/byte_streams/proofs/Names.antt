-- The names that the proofs of this crate cite, passed on from one place. Declares nothing.
pub use Rattle.csv.specs.Machine.{Read, ends_at_end, field_after, fields_after, in_field, is_end, start_field, start_record, step}
unfoldable pub use Rattle.csv.specs.Machine.{next_record}
pub use Rattle.csv.specs.Reading.{default_config, is_bom, records, records_next}
unfoldable pub use Rattle.csv.specs.Reading.{Reached, records_from, strip_bom}
pub use Rattle.csv.specs.declared.parser.State.{State}
pub use Rattle.std.proofs.Common.{Bool, List, None, Option, Some, [], add-one, add-suc, add-zero, ap, append_assoc, arith, drop, false, get_or, inl, inr, length, length-append, length-drop, refl, subst, suc, sym, take, true, zero, ℕ, ◌%◌, ◌*◌, ◌++◌, ◌+◌, ◌-◌, ◌/◌, ◌<◌, ◌==◌, ◌^◌, ◌∙◌, ◌∷◌, ◌≡◌, ◌≤◌, ◌⊎◌}
pub use Rattle.std.proofs.KnownBytes.{Appends-trans, Consumes-trans}
pub use Rattle.std.proofs.Math.Nat.{pow-suc}
pub use Rattle.std.proofs.Math.Seq.{get_or-append_seam, take-add, take-append_seam, take-suc}
pub use Rattle.std.proofs.lemmas.Bool.{cases_Bool, cases_lt}
pub use Rattle.std.proofs.lemmas.List.{append-nil, length-take, take_all}
pub use Rattle.std.specs.Io.KnownBytes.{Appends, Consumes}
pub use Rattle.byte_streams.specs.CsvRecords.{rest_records}
unfoldable pub use Rattle.byte_streams.specs.Digits.{fixed_digits}
pub use Rattle.std.proofs.lemmas.Bool.Decides.{nat_tests}
pub use Rattle.std.proofs.lemmas.Int.{ints}
