-- Why an import of a statement is refused, what its items are, and its reply.
use Rattle.std.specs.Prelude.{◌≡◌, ◌⊎◌, ℕ, Bool, not, nat_lt, List, [], ◌∷◌, ◌++◌, length, Option, Some, None, is_none, unwrap_or, Result, Ok, Err}
use Rattle.trust_base.specs.declared.refusal.Field.TheVariants as field
use Rattle.trust_base.specs.declared.refusal.Rule.TheVariants as rule
use Rattle.trust_base.specs.declared.refusal.Refusal.{Refusal}
use Rattle.trust_base.specs.declared.refusal.Refusal.TheVariants as refusals
use Rattle.trust_matter.specs.Policy.{allows}
use Rattle.trust_matter.specs.Step.{first}
use Rattle.firm_rows.specs.Firm.{Firm}
use Rattle.statement_csv.specs.declared.item.Item.{Item}
use Rattle.statement_csv.specs.Items.{items}
use Rattle.trust_base.specs.declared.limits.TheConstants.{MAX_FILE_BYTES}
use Rattle.matter_rows.specs.declared.act.Caller.{Caller}
use Rattle.json_bodies.specs.declared.bodies.ImportReply.{ImportReply}
use Rattle.trust_desk.specs.declared.requests.Reply.{Reply}
use Rattle.trust_desk.specs.declared.requests.Body.TheVariants.{Json}
use Rattle.json_bodies.specs.Bodies.{import_body}
use Rattle.trust_desk.specs.ItemStep.{after_items}
use Rattle.trust_desk.specs.Replies.{refused}

-- the caller may not ask for what concerns the firm, where no matter's seats count
abbrev pub is_not_of_firm : Caller → Bool
is_not_of_firm caller = not (allows [] caller rule.Firm)

-- each refusal with its condition, in the order of their numbers
abbrev pub import_conditions : Caller → List ℕ → List (Bool × Refusal)
import_conditions caller bytes =
    (nat_lt MAX_FILE_BYTES (length bytes), refusals.TooLarge)
    ∷ (is_none (items bytes), refusals.BadField field.Header)
    ∷ (is_not_of_firm caller, refusals.NotAllowed rule.Firm)
    ∷ []

-- the refusal with the least number whose condition holds
abbrev pub import_refusal : Caller → List ℕ → Option Refusal
import_refusal caller bytes = first (import_conditions caller bytes)

-- the items of a statement; none if it has another header
abbrev pub items_in : List ℕ → List Item
items_in bytes = unwrap_or (items bytes) []

abbrev pub items_unless : Option Refusal → List ℕ → List Item
items_unless None bytes = items_in bytes
items_unless (Some r) bytes = []

-- the items that an import applies: all of its statement, or none if it is refused
abbrev pub imported : Caller → List ℕ → List Item
imported caller bytes = items_unless (import_refusal caller bytes) bytes

abbrev pub counts_text : ImportReply → List ℕ
counts_text c = import_body c.applied c.exceptions c.repeated c.statement c.unreadable

-- the reply to an import that was refused, or whose items were counted
abbrev pub import_reply : Option Refusal → ImportReply → Reply
import_reply None counts = record { status = 200; body = Json (counts_text counts) }
import_reply (Some r) counts = refused r

-- How an import ends.

-- the result of checking the conditions: accepted if none holds, otherwise the refusal; or out of memory
abbrev pub IsChecked : {T : Type 0} → Option Refusal → Result T Refusal → Type 0
IsChecked refused (Ok x) = refused ≡ None
IsChecked refused (Err r) = (r ≡ refusals.Memory) ⊎ (refused ≡ Some r)

-- the firm after some first items, with these still left
pub record IsAfterFront (day : ℕ) (firm : Firm) (all rest : List Item) (new : Firm) : Type 0 where
  pub front : List Item
  pub parts : front ++ rest ≡ all
  pub leaves : new ≡ after_items day firm front
