-- One step of the firm, and a run of steps.
use Rattle.std.specs.Prelude.{ℕ, ◌≡◌, ◌⊎◌, true, false, List, [], ◌∷◌, Option, Some, None, MatchBool}
use Rattle.trust_base.specs.declared.refusal.Refusal.{Refusal}
use Rattle.trust_base.specs.declared.refusal.Refusal.TheVariants.{Store, Memory}
use Rattle.trust_matter.specs.Facts.{Asked}
use Rattle.matter_parts.specs.Changes.{last_after}
use Rattle.trust_matter.specs.Step.{refusal, edit_on, act_on}
use Rattle.firm_rows.specs.Firm.{Firm, of, after_edit, acted}
use Rattle.firm_rows.specs.FirmSound.{FirmSound}
use Rattle.statement_csv.specs.declared.item.Item.{Item}
use Rattle.trust_desk.specs.declared.requests.Reply.{Reply}
use Rattle.trust_desk.specs.Acts.{acts_for, dossier_of}
use Rattle.trust_desk.specs.Heard.{Heard, Kind, OfMatter, OfActs, OfItems, Dismisses, OnlyTold, OnlyShown, NotRead, kind_of, asked_on, concerns}
use Rattle.trust_desk.specs.Replies.{refused, reply_of, json_reply, text_reply, is_fault_reply}
use Rattle.trust_desk.specs.ItemStep.{after_items, counts_after, none_counted}
use Rattle.trust_desk.specs.ImportStep.{IsAfterFront, import_reply}
use Rattle.trust_desk.specs.Dismissing.{after_dismissing, dismiss_refusal, dismiss_reply}

abbrev pub after_asked : Option Refusal → ℕ → Asked → Firm → Firm
after_asked None m a firm =
    acted m (edit_on (of m firm) a) (act_on (of m firm) a)
    (after_edit m (edit_on (of m firm) a) (last_after (of m firm).head (edit_on (of m firm) a) a.day) firm)
after_asked (Some r) m a firm = firm

-- the firm after an ask of a matter: if it is accepted, with its edit and the act that it is remembered by, otherwise
-- unchanged
abbrev pub after_ask : ℕ → Asked → Firm → Firm
after_ask m a firm = after_asked (refusal (of m firm) a) m a firm

pub record Stepped : Type 0 where
  pub firm : Firm
  pub reply : Reply

abbrev pub kind_step : ℕ → Firm → Kind → Stepped
kind_step day firm (OfMatter m caller ask) = record {
  firm = after_ask m (asked_on day caller ask) firm;
  reply = reply_of m (of m firm) (asked_on day caller ask);
}
kind_step day firm (OfActs m caller) =
    record { firm = firm; reply = json_reply (acts_for caller day (dossier_of m firm)) }
kind_step day firm (OfItems refused items) = record {
  firm = after_items day firm items;
  reply = import_reply refused (counts_after day firm items none_counted);
}
kind_step day firm (Dismisses caller line) = record {
  firm = after_dismissing day caller line firm;
  reply = dismiss_reply (dismiss_refusal caller line firm);
}
kind_step day firm (OnlyTold text) = record { firm = firm; reply = text_reply (text day firm) }
kind_step day firm (OnlyShown json) = record { firm = firm; reply = json_reply (json day firm) }
kind_step day firm (NotRead named r) = record { firm = firm; reply = refused r }

-- the firm's step on a day
abbrev pub firm_step : ℕ → Firm → Heard → Stepped
firm_step day firm h = kind_step day firm (kind_of h)

-- the reply to a request that the store or memory stopped
abbrev pub IsFaultReply : Reply → Type 0
IsFaultReply reply = (reply ≡ refused Store) ⊎ (reply ≡ refused Memory)

abbrev pub KindStopped : ℕ → Firm → Kind → Firm → Type 0
KindStopped day firm (OfMatter m caller ask) new = new ≡ firm
KindStopped day firm (OfActs m caller) new = new ≡ firm
KindStopped day firm (OfItems refused items) new = (rest : List Item) × IsAfterFront day firm items rest new
KindStopped day firm (Dismisses caller line) new = new ≡ firm
KindStopped day firm (OnlyTold text) new = new ≡ firm
KindStopped day firm (OnlyShown json) new = new ≡ firm
KindStopped day firm (NotRead named r) new = new ≡ firm

-- what a request that the store or memory stopped leaves: everything unchanged, except after the first items of an
-- import
abbrev pub Stopped : ℕ → Firm → Heard → Firm → Type 0
Stopped day firm h new = KindStopped day firm (kind_of h) new

-- the store or memory stopped a request, and the reply says which
pub record IsStopped (day : ℕ) (firm : Firm) (h : Heard) (reply : Reply) (new : Firm) : Type 0 where
  pub says : IsFaultReply reply
  pub leaves : Stopped day firm h new

-- the reply and the firm are those of the firm's step, or the store or memory stopped the request
abbrev pub Steps : ℕ → Firm → Heard → Reply → Firm → Type 0
Steps day firm h reply new =
    MatchBool (is_fault_reply reply)
    (IsStopped day firm h reply new)
    ((reply ≡ (firm_step day firm h).reply) × (new ≡ (firm_step day firm h).firm))

-- one step after another, each with its reply
abbrev pub Runs : ℕ → Firm → List Heard → List Reply → Firm → Type 0
Runs day firm [] [] new = new ≡ firm
Runs day firm [] (reply ∷ replies) new = ⊥
Runs day firm (h ∷ hs) [] new = ⊥
Runs day firm (h ∷ hs) (reply ∷ replies) new = (mid : Firm) × Steps day firm h reply mid × Runs day mid hs replies new

-- the same, with the firm sound after each step
abbrev pub RunsSoundly : ℕ → Firm → List Heard → List Reply → Firm → Type 0
RunsSoundly day firm [] [] new = new ≡ firm
RunsSoundly day firm [] (reply ∷ replies) new = ⊥
RunsSoundly day firm (h ∷ hs) [] new = ⊥
RunsSoundly day firm (h ∷ hs) (reply ∷ replies) new =
    (mid : Firm) × Steps day firm h reply mid × FirmSound mid × RunsSoundly day mid hs replies new

abbrev pub SoundRunsAreRuns : Type 0
SoundRunsAreRuns =
    (day : ℕ) (firm new : Firm) (hs : List Heard) (replies : List Reply) → RunsSoundly day firm hs replies new
    → Runs day firm hs replies new

-- no reply to what concerns the matter is due to a fault of the store or lack of memory
abbrev pub IsUnstopped : ℕ → List Heard → List Reply → Type 0
IsUnstopped m [] replies = Unit {0}
IsUnstopped m (h ∷ hs) [] = Unit {0}
IsUnstopped m (h ∷ hs) (reply ∷ replies) =
    (concerns m h ≡ true → is_fault_reply reply ≡ false) × IsUnstopped m hs replies
