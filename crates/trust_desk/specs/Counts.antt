-- How often the store failed, according to the replies.
use Rattle.std.specs.Prelude.{ℕ, Bool, true, false, List, [], ◌∷◌, Result, Ok, Err, if◌then◌else◌}
use Rattle.trust_base.specs.declared.refusal.Refusal.{Refusal}
use Rattle.trust_base.specs.declared.refusal.Refusal.TheVariants.{Store}
use Rattle.trust_base.specs.declared.refusal.StoreFault.TheVariants as faults
use Rattle.trust_store.specs.Books.{counted_fault}
use Rattle.trust_desk.specs.declared.requests.Reply.{Reply}
use Rattle.trust_desk.specs.declared.requests.Body.{Body}
use Rattle.trust_desk.specs.declared.requests.Body.TheVariants.{Json, Refused, Text}

abbrev pub is_store : Refusal → Bool
is_store Store = true
is_store _ = false

abbrev pub counted_refusal : Refusal → ℕ → ℕ
counted_refusal r n = if is_store r then counted_fault faults.Store n else n

abbrev pub counted_body : Body → ℕ → ℕ
counted_body (Json text) n = n
counted_body (Text text) n = n
counted_body (Refused r) n = counted_refusal r n

-- the book's count of calls that returned `Store`, after a reply: one more if the reply is `Store`
abbrev pub counted_reply : Reply → ℕ → ℕ
counted_reply reply n = counted_body reply.body n

abbrev pub counted_replies : List Reply → ℕ → ℕ
counted_replies [] n = n
counted_replies (reply ∷ replies) n = counted_replies replies (counted_reply reply n)

-- the same after a result that is not a reply yet
abbrev pub counted_end : {T : Type 0} → Result T Refusal → ℕ → ℕ
counted_end (Ok x) n = n
counted_end (Err r) n = counted_refusal r n
