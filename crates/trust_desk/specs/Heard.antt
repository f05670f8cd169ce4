-- What the desk hears, its kind, and what of it concerns a matter.
use Rattle.std.specs.Prelude.{ℕ, Bool, false, ◌==◌, List, [], ◌∷◌, ◌++◌, map, Option, Some, None, if◌then◌else◌, Result}
use Rattle.std.specs.List.{list_any}
use Rattle.trust_base.specs.declared.line.Line.{Line}
use Rattle.trust_base.specs.declared.refusal.Refusal.{Refusal}
use Rattle.matter_rows.specs.declared.act.Caller.{Caller}
use Rattle.trust_matter.specs.declared.ask.Ask.{Ask}
use Rattle.trust_matter.specs.declared.bank_line.BankLine.{BankLine}
use Rattle.trust_matter.specs.Facts.{Asked}
use Rattle.firm_rows.specs.Firm.{Firm}
use Rattle.statement_csv.specs.declared.item.Item.{Item}
use Rattle.statement_csv.specs.declared.item.Item.TheVariants as item
use Rattle.trust_desk.specs.declared.requests.Request.{Request}
use Rattle.trust_desk.specs.declared.requests.Request.TheVariants.{Matter, Import, Match, Dismiss, Report, Trail, Acts, Listed, Reasons}
use Rattle.trust_desk.specs.declared.requests.MatchText.{MatchText}
use Rattle.trust_desk.specs.declared.requests.MatchText.TheVariants as part
use Rattle.trust_desk.specs.declared.requests.Reply.{Reply}
use Rattle.trust_desk.specs.ItemStep.{names_item}
use Rattle.trust_desk.specs.ImportStep.{import_refusal, imported}
use Rattle.trust_desk.specs.ReportStep.{report_for, trail_for}
use Rattle.trust_desk.specs.MatchStep.{statement_for, unmatched_for}
use Rattle.trust_desk.specs.ListStep.{list_for, reasons_for}

-- a request, or a message that was refused before it became one; such a message may name a matter
pub data Heard : Type 0 where
  Asks : (request : Request) → Heard
  Unread : (named : Option ℕ) (refusal : Refusal) → Heard

-- requests that were all read successfully
abbrev pub heard : List Request → List Heard
heard requests = map Asks requests

-- who asks what, on the day
abbrev pub asked_on : ℕ → Caller → Ask → Asked
asked_on day caller ask = record { caller = caller; ask = ask; day = day }

-- Its kind.

-- all that the machine needs to know of what is heard; only here are requests told apart
pub data Kind : Type 0 where
  -- a caller's ask about a matter
  OfMatter : (m : ℕ) (caller : Caller) (ask : Ask) → Kind
  -- a caller asks for the acts of a matter
  OfActs : (m : ℕ) (caller : Caller) → Kind
  -- the items of a statement, and why it is refused, if it is
  OfItems : (refused : Option Refusal) (items : List Item) → Kind
  -- a caller dismisses a line from the exceptions
  Dismisses : (caller : Caller) (line : Line) → Kind
  -- nothing changes: the reply is a text made from the day and the firm's rows, or why it is refused
  OnlyTold : (text : ℕ → Firm → Result (List ℕ) Refusal) → Kind
  -- the same of an answer in JSON
  OnlyShown : (json : ℕ → Firm → Result (List ℕ) Refusal) → Kind
  -- a message that was refused before it became a request
  NotRead : (named : Option ℕ) (refusal : Refusal) → Kind

-- of a matched statement: what an import takes is told as text, and what is left is shown as JSON
abbrev pub match_kind : MatchText → Caller → List ℕ → Kind
match_kind part.Statement caller statement = OnlyTold (statement_for caller statement)
match_kind part.Unmatched caller statement = OnlyShown (unmatched_for caller statement)

abbrev pub kind_of : Heard → Kind
kind_of (Asks (Matter m caller ask)) = OfMatter m caller ask
kind_of (Asks (Import caller statement)) = OfItems (import_refusal caller statement) (imported caller statement)
kind_of (Asks (Dismiss caller line)) = Dismisses caller line
kind_of (Asks (Match caller statement text)) = match_kind text caller statement
kind_of (Asks (Report caller report)) = OnlyTold (report_for caller report)
kind_of (Asks (Trail caller m)) = OnlyTold (trail_for caller m)
kind_of (Asks (Acts caller m)) = OfActs m caller
kind_of (Asks (Listed caller list)) = OnlyShown (list_for caller list)
kind_of (Asks (Reasons caller)) = OnlyShown (reasons_for caller)
kind_of (Unread named refusal) = NotRead named refusal

-- What names a matter, and gets a reply.

abbrev pub is_the : ℕ → Option ℕ → Bool
is_the m None = false
is_the m (Some n) = n == m

abbrev pub kind_names : ℕ → Kind → Bool
kind_names m (OfMatter n caller ask) = n == m
kind_names m (OfActs n caller) = n == m
kind_names m (OfItems refused items) = false
kind_names m (Dismisses caller line) = false
kind_names m (OnlyTold text) = false
kind_names m (OnlyShown json) = false
kind_names m (NotRead named refusal) = is_the m named

-- what is heard names the matter; an import names none, nor does a request for a text
abbrev pub names : ℕ → Heard → Bool
names m h = kind_names m (kind_of h)

-- the replies to what names the matter, in order
abbrev pub told : ℕ → List Heard → List Reply → List Reply
told m [] replies = []
told m (h ∷ hs) [] = []
told m (h ∷ hs) (reply ∷ replies) = if names m h then reply ∷ told m hs replies else told m hs replies

-- What concerns a matter.

-- a caller's ask on a day, a request for the acts, a message that was refused, or a bank line on a day
pub data Own : Type 0 where
  OwnAsk : (asked : Asked) → Own
  OwnActs : (caller : Caller) (day : ℕ) → Own
  OwnRefusal : (refusal : Refusal) → Own
  OwnLine : (line : BankLine) (day : ℕ) → Own

-- a list with it, or an empty list
abbrev pub own_if : Bool → Own → List Own
own_if b own = if b then own ∷ [] else []

-- what concerns a matter in an item
abbrev pub own_of_item : ℕ → ℕ → Item → List Own
own_of_item m day (item.Opening line) = []
own_of_item m day (item.Closing line) = []
own_of_item m day (item.OfMatter l) = own_if (l.matter == m) (OwnLine l day)
own_of_item m day (item.OfFirm line) = []
own_of_item m day (item.Stray line) = []
own_of_item m day (item.Unreadable number) = []

abbrev pub own_of_items : ℕ → ℕ → List Item → List Own
own_of_items m day [] = []
own_of_items m day (it ∷ items) = own_of_item m day it ++ own_of_items m day items

abbrev pub kind_own : ℕ → ℕ → Kind → List Own
kind_own m day (OfMatter n caller ask) = own_if (n == m) (OwnAsk (asked_on day caller ask))
kind_own m day (OfActs n caller) = own_if (n == m) (OwnActs caller day)
kind_own m day (OfItems refused items) = own_of_items m day items
kind_own m day (Dismisses caller line) = []
kind_own m day (OnlyTold text) = []
kind_own m day (OnlyShown json) = []
kind_own m day (NotRead named refusal) = own_if (is_the m named) (OwnRefusal refusal)

-- what concerns a matter in what is heard on a day: what names it, and of an import the lines that name it
abbrev pub own_of : ℕ → ℕ → Heard → List Own
own_of m day h = kind_own m day (kind_of h)

-- what concerns a matter in all that is heard on a day, in order
abbrev pub project : ℕ → ℕ → List Heard → List Own
project m day [] = []
project m day (h ∷ hs) = own_of m day h ++ project m day hs

abbrev pub kind_concerns : ℕ → Kind → Bool
kind_concerns m (OfMatter n caller ask) = n == m
kind_concerns m (OfActs n caller) = n == m
kind_concerns m (OfItems refused items) = list_any (names_item m) items
kind_concerns m (Dismisses caller line) = false
kind_concerns m (OnlyTold text) = false
kind_concerns m (OnlyShown json) = false
kind_concerns m (NotRead named refusal) = is_the m named

-- what is heard concerns the matter: it names it, or it is an import with a line that does
abbrev pub concerns : ℕ → Heard → Bool
concerns m h = kind_concerns m (kind_of h)
