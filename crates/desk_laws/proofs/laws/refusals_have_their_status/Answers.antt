-- The status of a reply whose body is a refusal.
use Rattle.desk_laws.proofs.Names.{◌≡◌, inl, inr, ℕ, Bool, true, false, cond, List, Option, Result, sym, ap, subst, MatchBool, status_of, Refusal, Asked, is_text, dismiss_refusal, dismiss_reply, Json, Refused, Text, Rows, refusal, Firm, of, ImportReply, Kind, OfMatter, OfItems, Dismisses, OnlyShown, OnlyTold, NotRead, kind_of, asked_on, import_reply, counts_after, none_counted, is_fault_reply, refused, replied, json_reply, text_reply, HasItsStatus, IsStopped, firm_step, kind_step, arith, ints, nat_tests}
use Rattle.trust_desk.specs.Acts.{acts_for, dossier_of}
use Rattle.trust_desk.specs.Heard.{OfActs}
use Rattle.desk_laws.proofs.laws.refusals_have_their_status.Goals as goal

refused-status : (r : Refusal) → HasItsStatus (refused r)
refused-status r s is = let same : r ≡ s = cc in ap status_of same

said-status : (b : Bool) (text : List ℕ) (s : Refusal) (P : Type 0) → cond b (Text text) (Json text) ≡ Refused s → P
said-status b text s x3 is = grind (arith, ints, nat_tests)

replied-status : (o : Option Refusal) (m : ℕ) (rows : Rows) (a : Asked) → HasItsStatus (replied o m rows a)
replied-status o m rows a = grind (arith, ints, nat_tests, said-status, is_text, refused-status)

import-status : (o : Option Refusal) (counts : ImportReply) → HasItsStatus (import_reply o counts)
import-status o counts = grind (arith, ints, nat_tests, refused-status)

dismiss-status : (o : Option Refusal) → HasItsStatus (dismiss_reply o)
dismiss-status o = grind (arith, ints, nat_tests, refused-status)

text-status : (told : Result (List ℕ) Refusal) → HasItsStatus (text_reply told)
text-status told = grind (arith, ints, nat_tests, refused-status)

json-status : (told : Result (List ℕ) Refusal) → HasItsStatus (json_reply told)
json-status told = grind (arith, ints, nat_tests, refused-status)

step-status : (day : ℕ) (firm : Firm) (k : Kind) → HasItsStatus (kind_step day firm k).reply
step-status day firm (OfMatter m caller ask) =
    let a = asked_on day caller ask in replied-status (refusal (of m firm) a) m (of m firm) a
step-status day firm (OfActs m caller) = json-status (acts_for caller day (dossier_of m firm))
step-status day firm (OfItems refused items) = import-status refused (counts_after day firm items none_counted)
step-status day firm (Dismisses caller line) = dismiss-status (dismiss_refusal caller line firm)
step-status day firm (OnlyTold text) = text-status (text day firm)
step-status day firm (OnlyShown json) = json-status (json day firm)
step-status day firm (NotRead named r) = refused-status r

pub returns : goal.returns
returns c =
    λ day firm new h reply.
    elim (is_fault_reply reply) as (λ b. MatchBool b (IsStopped day firm h reply new) ((reply ≡ (firm_step day firm h).reply) × (new ≡ (firm_step day firm h).firm)) → HasItsStatus reply) [
      | true ↦ λ stopped. elim stopped.says [
        | inl is ↦ subst HasItsStatus (sym is) (refused-status _)
        | inr is ↦ subst HasItsStatus (sym is) (refused-status _)
      ]
      | false ↦ λ is. subst HasItsStatus (sym is.0) (step-status day firm (kind_of h))
    ]
