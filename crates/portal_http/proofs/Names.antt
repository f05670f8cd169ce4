-- The names that the proofs of this crate cite, passed on from one place. Declares nothing.
pub use Rattle.firm_rows.specs.Firm.{Firm}
pub use Rattle.portal_messages.specs.Inputs.{Began, IsNext, stays}
pub use Rattle.portal_messages.specs.declared.message.Message.{Message}
unfoldable pub use Rattle.portal_requests.specs.Requests.{heard_of, request}
pub use Rattle.std.proofs.Common.{Bool, Err, IfSome, List, None, Ok, Option, Some, [], ap, append_assoc, arith, codes, false, inl, inr, length, length-append, map, refl, subst, suc, sym, take, true, ℕ, ◌++◌, ◌+◌, ◌<◌, ◌∙◌, ◌∷◌, ◌≡◌, ◌≤◌, ◌⊎◌}
pub use Rattle.std.proofs.KnownBytes.{Appends-nil, Appends-trans}
pub use Rattle.std.proofs.Math.Seq.{take-append-add}
pub use Rattle.std.proofs.lemmas.List.{append-nil, map-append}
pub use Rattle.std.specs.Io.KnownBytes.{Appends, Keeps}
pub use Rattle.std.specs.Prelude.{MatchBool, ⊤}
pub use Rattle.trust_base.specs.declared.refusal.Refusal.{Refusal}
pub use Rattle.trust_base.specs.declared.refusal.Refusal.TheVariants.{Memory, Store}
pub use Rattle.trust_desk.proofs.AlwaysCovered.{runs-covered}
pub use Rattle.trust_desk.proofs.Calls.{kept-as, kept-still, kept-then}
pub use Rattle.trust_desk.proofs.Crashes.{leave-as, leave-still, leave-then}
pub use Rattle.trust_desk.proofs.MadeRows.{fault-front, made-before, made-last, none-at_all, none-before, none-last, plain-step}
pub use Rattle.trust_desk.proofs.Own.{each-own, same-by_rows_alone, same-for_the_matter}
pub use Rattle.trust_desk.proofs.Runs.{RunsSoundly-push, counted-push, sound-runs-are-runs}
pub use Rattle.trust_desk.specs.Answered.{IsReplied}
pub use Rattle.trust_desk.specs.Calls.{Counts, IsAny, KeepsBook}
pub use Rattle.trust_desk.specs.Counts.{counted_refusal, counted_replies, counted_reply}
pub use Rattle.trust_desk.specs.Crashes.{AreNoFaults, AreNoFaultsButLast, IsMade, IsMadeInRun, MayLeave, before_fault}
pub use Rattle.trust_desk.specs.FirmStep.{IsUnstopped, RunsSoundly, Steps, firm_step}
pub use Rattle.trust_desk.specs.Heard.{Asks, Heard}
pub use Rattle.trust_desk.specs.Replies.{is_fault_reply, refused}
pub use Rattle.trust_desk.specs.declared.requests.Reply.{Reply}
pub use Rattle.portal_http.specs.Answers.{line_end, phrase_of, replies_bytes, reply_bytes}
unfoldable pub use Rattle.portal_http.specs.Answers.{head_text}
pub use Rattle.portal_http.specs.Served.{AreBehind, AreFirst, IsCut, IsFrontRun, IsRead, IsTail, IsWritten, MayLeaveServed, Served, Serving, last_text, whole_text}
pub use Rattle.portal_http.specs.ServedAll.{AreServedInTurn, IsClientServed, ServedAll}
pub use Rattle.portal_http.specs.declared.stream.StreamEnd.{StreamEnd}
pub use Rattle.std.proofs.lemmas.Bool.Decides.{nat_tests}
pub use Rattle.std.proofs.lemmas.Int.{ints}
pub use Rattle.trust_store.specs.Seen.{Seen}
