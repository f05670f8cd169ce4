-- The names that the proofs of this crate cite, passed on from one place. Declares nothing.
pub use Rattle.matter_rows.specs.declared.seat.Seat.{Seat}
pub use Rattle.serde_json.proofs.Texts.{print-outline}
pub use Rattle.serde_json.specs.Data.{Data, array, item, member, null, number, object, put, string}
pub use Rattle.serde_json.specs.Written.{compact_text, items_outline, members_outline, outline}
pub use Rattle.std.proofs.Common.{Bool, List, Option, Ordering, Some, [], ap, append-nil, append_assoc, arith, drop, length, map, refl, rules, suc, sym, true, zero, ℕ, ℤ, ◌&&◌, ◌*◌, ◌++◌, ◌<◌, ◌^◌, ◌∙◌, ◌∷◌, ◌≡◌, ◌≤◌}
pub use Rattle.std.proofs.lemmas.Bool.{and_parts}
pub use Rattle.std.specs.Str.{IsAscii, IsUtf8}
unfoldable pub use Rattle.std.specs.Str.{is_utf8}
pub use Rattle.json_bodies.specs.Json.{array_of, count_value, items_of, members_of, object_of, or_null, value_tokens}
pub use Rattle.json_bodies.specs.Values.{member_of, seat_object}
pub use Rattle.matter_rows.specs.Rows.{role_name}
pub use Rattle.std.proofs.lemmas.Bool.Decides.{nat_tests}
pub use Rattle.std.proofs.lemmas.Int.{ints}
pub use Rattle.std.specs.Prelude.{pos, ◌+ℤ◌, ◌≤ℤ◌}
pub use Rattle.matter_rows.specs.Balances.{total_of}
pub use Rattle.matter_parts.specs.Parts.{entries_kept}
pub use Rattle.matter_parts.specs.declared.kept.Kept.{Kept}
pub use Rattle.json_bodies.specs.Listed.{kept_object, proposed_on}
