-- The names that the proofs of this crate cite, passed on from one place. Declares nothing.
pub use Rattle.csv.specs.Records.{fields_of}
unfoldable pub use Rattle.csv.specs.Records.{field_at}
pub use Rattle.std.proofs.Common.{Bool, Bor, Err, List, None, Ok, Option, Result, Some, [], ap, arith, cond, false, find, get_or, length, map, option_map, refl, rules, subst, suc, sym, take, tests, true, unwrap_or, zero, ℕ, ◌&&◌, ◌+◌, ◌<◌, ◌∙◌, ◌∷◌, ◌≡◌}
pub use Rattle.std.specs.List.{list_all}
unfoldable pub use Rattle.std.specs.Str.{is_utf8}
