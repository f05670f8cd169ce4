-- The names that the proofs of this crate cite, passed on from one place. Declares nothing.
pub use Rattle.std.proofs.Common.{List, Some, [], ap, append-nil, append_assoc, arith, codes, eqb, false, flat_map, map, refl, replicate, rules, subst, sym, take, true, ℕ, ◌++◌, ◌+◌, ◌∙◌, ◌∷◌, ◌≡◌, ◌≤◌}
pub use Rattle.std.proofs.lemmas.List.{map-append, map-id}
pub use Rattle.std.specs.Prelude.{encode_utf8, encode_utf8_all, pos}
pub use Rattle.std.specs.Str.{IsUtf8}
unfoldable pub use Rattle.std.specs.Str.{is_utf8}
pub use Rattle.trust_base.specs.Texts.{day_text, entry_text, matter_text}
pub use Rattle.trust_reports.specs.Pieces.{further_piece, row_text}
pub use Rattle.trust_reports.specs.Texts.{further, line, shown}
pub use Rattle.trust_reports.specs.TextsOfReconciliation.{entry_line, listed_exception}
pub use Rattle.std.proofs.lemmas.Bool.Decides.{nat_tests}
pub use Rattle.std.proofs.lemmas.Int.{ints}
