-- What a crash may leave after each call of the desk.
use Rattle.std.specs.Prelude.{◌≡◌, ◌⊎◌, ℕ, Bool, false, List, [], ◌∷◌, ◌++◌, Some, None, Result, Ok, Err, if◌then◌else◌, ⊤}
use Rattle.trust_base.specs.Refusals.{is_fault}
use Rattle.trust_base.specs.declared.refusal.Refusal.{Refusal}
use Rattle.firm_rows.specs.Firm.{Firm}
use Rattle.trust_store.specs.Crashes.{LeavesAlone}
use Rattle.statement_csv.specs.declared.item.Item.{Item}
use Rattle.trust_store.specs.Seen.{Seen}
use Rattle.trust_desk.specs.declared.importing.ImportStop.{ImportStop}
use Rattle.trust_desk.specs.declared.importing.ImportStop.TheVariants as stop
use Rattle.trust_desk.specs.declared.requests.Reply.{Reply}
use Rattle.trust_desk.specs.declared.requests.Request.{Request}
use Rattle.trust_desk.specs.Heard.{Heard, Asks, Kind, OfMatter, OfActs, OfItems, Dismisses, OnlyTold, OnlyShown, NotRead, kind_of, asked_on}
use Rattle.trust_desk.specs.Replies.{is_fault_reply}
use Rattle.trust_desk.specs.ItemStep.{after_items}
use Rattle.trust_desk.specs.ImportStep.{IsAfterFront}
use Rattle.trust_desk.specs.Imports.{Told}
use Rattle.trust_desk.specs.Dismissing.{after_dismissing}
use Rattle.trust_desk.specs.FirmStep.{after_ask, firm_step}

-- what a crash may leave after a call, given the rows before and after it
pub record MayLeave (done : Type 0)
    (Makes : Firm → Type 0) (before after : Firm) (old new : Seen) : Type 0 where
  -- a crash may leave what it might have left before the call, or rows that the call makes on the way
  pub crash : (found : Firm) → new.leaves found → old.leaves found ⊎ Makes found
  -- if the call was done, and a crash could have left only the rows before, it can now leave only the rows after
  pub settled : done → LeavesAlone before old.leaves → LeavesAlone after new.leaves
  -- if the call was done, a store that was clean is still clean
  pub serves : old.clean → done → new.clean

-- the same for a call that makes one change, completely or not at all
abbrev pub MayLeaveChange : Type 0 → Firm → Firm → Seen → Seen → Type 0
MayLeaveChange done before after old new =
    MayLeave done (λ found. found ≡ after) before after old new

-- An import.

-- the first items of the statement, some or all; none if it has another header
abbrev pub AreFront : Told → List Item → Type 0
AreFront None front = ⊤
AreFront (Some None) front = front ≡ []
AreFront (Some (Some items)) front = (rest : List Item) × (front ++ rest ≡ items)

-- the rows after some first items of the statement
pub record IsAfterFirst (day : ℕ) (firm : Firm) (told : Told) (found : Firm) : Type 0 where
  pub front : List Item
  pub first : AreFront told front
  pub leaves : found ≡ after_items day firm front

-- the store or lack of memory ended it
abbrev pub is_stopped : ImportStop → Bool
is_stopped stop.Done = false
is_stopped (stop.Refused r) = is_fault r
is_stopped stop.Limit = false
is_stopped stop.ReadFault = false

-- the store or lack of memory stopped something that has no reply yet
abbrev pub is_fault_end : {T : Type 0} → Result T Refusal → Bool
is_fault_end (Ok x) = false
is_fault_end (Err r) = is_fault r

-- A request.

abbrev pub IsOfItems : Kind → Type 0
IsOfItems (OfMatter m caller ask) = ⊥
IsOfItems (OfActs m caller) = ⊥
IsOfItems (OfItems refused items) = ⊤
IsOfItems (Dismisses caller line) = ⊥
IsOfItems (OnlyTold text) = ⊥
IsOfItems (OnlyShown json) = ⊥
IsOfItems (NotRead named r) = ⊥

abbrev pub IsImport : Request → Type 0
IsImport request = IsOfItems (kind_of (Asks request))

abbrev pub KindIsMade : ℕ → Firm → Kind → Firm → Type 0
KindIsMade day firm (OfMatter m caller ask) found = found ≡ after_ask m (asked_on day caller ask) firm
KindIsMade day firm (OfActs m caller) found = found ≡ firm
KindIsMade day firm (OfItems refused items) found = (rest : List Item) × IsAfterFront day firm items rest found
KindIsMade day firm (Dismisses caller line) found = found ≡ after_dismissing day caller line firm
KindIsMade day firm (OnlyTold text) found = found ≡ firm
KindIsMade day firm (OnlyShown json) found = found ≡ firm
KindIsMade day firm (NotRead named r) found = found ≡ firm

-- the rows with the change of what is heard; for an import, the rows after some first items
abbrev pub IsMade : ℕ → Firm → Heard → Firm → Type 0
IsMade day firm h found = KindIsMade day firm (kind_of h) found

-- A run.

-- rows that one of the requests makes, with all those before it done and none after it begun
abbrev pub IsMadeInRun : ℕ → Firm → List Heard → Firm → Type 0
IsMadeInRun day firm [] found = ⊥
IsMadeInRun day firm (h ∷ hs) found = IsMade day firm h found ⊎ IsMadeInRun day (firm_step day firm h).firm hs found

-- no reply is `Store` or `Memory`
abbrev pub AreNoFaults : List Reply → Type 0
AreNoFaults [] = ⊤
AreNoFaults (reply ∷ replies) = (is_fault_reply reply ≡ false) × AreNoFaults replies

-- no reply except the last is `Store` or `Memory`
abbrev pub AreNoFaultsButLast : List Reply → Type 0
AreNoFaultsButLast [] = ⊤
AreNoFaultsButLast (reply ∷ []) = ⊤
AreNoFaultsButLast (reply ∷ next ∷ replies) = (is_fault_reply reply ≡ false) × AreNoFaultsButLast (next ∷ replies)

-- the replies before the first `Store` or `Memory`
abbrev pub before_fault : List Reply → List Reply
before_fault [] = []
before_fault (reply ∷ replies) = if is_fault_reply reply then [] else reply ∷ before_fault replies
