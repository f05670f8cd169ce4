-- The names that the proofs of this crate cite, passed on from one place. Declares nothing.
pub use Rattle.httparse.specs.Grammar.{HasNoRequest, ReadsRequest, RequestHead}
unfoldable pub use Rattle.httparse.specs.Grammar.{print_request}
pub use Rattle.httparse.specs.Spans.{IsRequestAt, IsRequestWithin, RequestOverflows, header_bytes, name_and_value, span_bytes}
pub use Rattle.httparse.specs.declared.spans.HeaderSpan.{HeaderSpan}
pub use Rattle.httparse.specs.declared.spans.RequestSpans.{RequestSpans}
pub use Rattle.std.proofs.Common.{Err, IfOk, IfSome, List, None, Ok, Option, Result, Some, [], ap, append_assoc, arith, codes, drop, false, inl, inr, length, length-append, length-drop, map, min, nat_le, refl, subst, suc, sym, take, true, ℕ, ◌++◌, ◌+◌, ◌-◌, ◌<◌, ◌^◌, ◌∙◌, ◌∷◌, ◌≡◌, ◌≤◌, add-one, drop-cons, get_or, rules}
pub use Rattle.std.proofs.Math.Seq.{drop-append_seam, drop-drop, take-append-add}
pub use Rattle.std.proofs.lemmas.List.{append-nil, drop-append-le, length-map, length-take, take-append-drop, take-append-le, drop_all}
pub use Rattle.std.specs.Io.KnownBytes.{IsAtEnd, Keeps, prepend_known}
pub use Rattle.std.specs.List.{list_all}
pub use Rattle.trust_base.specs.declared.refusal.Refusal.{Refusal}
pub use Rattle.portal_messages.specs.FieldPlaces.{pairs_from, IsFirstOf}
pub use Rattle.portal_messages.specs.Fields.{body_size, path_of, size_after, values_of, body_limit, size_of}
pub use Rattle.portal_messages.specs.Heads.{BeginsWith, FIELD_LIMIT, HEAD_LIMIT, HasNoHead, IsHeadAt, front_of, is_ended, is_line_byte}
pub use Rattle.portal_messages.specs.Sources.{IsLast, unread}
pub use Rattle.portal_messages.specs.declared.message.Message.{Message}
pub use Rattle.std.proofs.lemmas.Bool.Decides.{nat_tests}
pub use Rattle.std.proofs.lemmas.Int.{ints}
pub use Rattle.trust_base.specs.declared.refusal.Refusal.TheVariants.{BadMessage, LengthRequired, TooLarge}
pub use Rattle.portal_messages.specs.Inputs.{IsFramed, IsNext, answer_of}
pub use Rattle.portal_messages.specs.Messages.{BadFraming, BeginsWithAll, CutsBody, Ended, IsEndAfter, IsFault, IsMessage, Limit, MESSAGE_LIMIT, MessagesEnd, OneReading, RefusesBody}
pub use Rattle.std.specs.Prelude.{MatchOption, is_some, nat_lt, slice_range, ◌⊎◌}
