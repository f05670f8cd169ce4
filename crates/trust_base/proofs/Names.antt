-- The names that the proofs of this crate cite, passed on from one place. Declares nothing.
pub use Rattle.std.proofs.Common.{List, arith, false, inl, inr, refl, sym, ℕ, ◌≡◌}
pub use Rattle.std.proofs.lemmas.Str.{IsUtf8-from_is_utf8, is_utf8-from_IsUtf8}
unfoldable pub use Rattle.trust_base.specs.Names.{is_label_text, is_person_text}
