-- The answers for a matter do not depend on other matters.
use Rattle.std.specs.Prelude.{ℕ, ◌≡◌, false, List, map}
use Rattle.std.specs.List.{list_any}
use Rattle.trail_laws.specs.Dossier.{Dossier}
use Rattle.firm_rows.specs.Firm.{Firm, of}
use Rattle.firm_rows.specs.FirmSound.{FirmSound}
use Rattle.trust_desk.specs.declared.requests.Reply.{Reply}
use Rattle.trust_desk.specs.Acts.{dossier_of}
use Rattle.trust_desk.specs.Heard.{Own, project, told}
use Rattle.trust_desk.specs.FirmStep.{IsUnstopped, RunsSoundly}
use Rattle.trust_desk.specs.NeverBelowZero.{CoveredRun}
use Rattle.trust_desk.specs.Isolation.{asks_for_acts}
use Rattle.trust_desk.specs.Solo.{solo_replies, solo_rows}
use Rattle.portal_messages.specs.declared.message.Message.{Message}
use Rattle.portal_messages.specs.Messages.{AreMessages, MessagesEnd}
use Rattle.portal_requests.specs.Requests.{heard_of}
use Rattle.portal_http.specs.Answers.{reply_bytes}

-- the bytes of each answer to a message that names a matter, in order
abbrev pub answers_to : ℕ → List Message → List Reply → List (List ℕ)
answers_to m messages replies = map reply_bytes (told m (map heard_of messages) replies)

-- what a stream's messages bring to a matter on a day: those that name it, and the lines of imports that do
abbrev pub comes_to : ℕ → ℕ → List Message → List Own
comes_to m day messages = project m day (map heard_of messages)

-- the bytes of each answer of the matter's own machine
abbrev pub own_answers : ℕ → Dossier → List Own → List (List ℕ)
own_answers m p owns = map reply_bytes (solo_replies m p owns)

-- a stream was served over a sound firm, with these messages and replies, and no message that concerns the matter was
-- stopped by the store or by lack of memory
pub record WasServed (m day : ℕ) (firm : Firm) (bytes : List ℕ) (messages : List Message) (end : MessagesEnd)
    (replies : List Reply) (new : Firm) : Type 0 where
  pub sound : FirmSound firm
  pub read : AreMessages bytes messages end
  pub run : RunsSoundly day firm (map heard_of messages) replies new
  pub unstopped : IsUnstopped m (map heard_of messages) replies

-- the matter is answered alike in two streams, by its own machine, and no ledger falls below zero
pub record IsAnsweredAlike (m d e : ℕ) (f g : Firm) (ps qs : List Message) (rs ss : List Reply) (f' g' : Firm)
    : Type 0 where
  -- each message that names the matter gets an answer with the same bytes
  pub answers : answers_to m ps rs ≡ answers_to m qs ss
  -- those bytes are the answers of the matter's own machine
  pub own : answers_to m ps rs ≡ own_answers m (dossier_of m f) (comes_to m d ps)
  -- the matter has the same rows at the end
  pub rows : of m f' ≡ of m g'
  pub own_rows : of m f' ≡ solo_rows (of m f) (comes_to m d ps)
  -- no ledger of any matter is below zero before, in and after each message and each item of an import
  pub covered : CoveredRun d f (map heard_of ps) rs f'
  pub also_covered : CoveredRun e g (map heard_of qs) ss g'

-- this holds of two streams that were served to their ends, over two firms with the same rows and acts of a matter, if
-- the same comes to that matter in both; and its acts are the same at the end
abbrev pub SameBytesForTheMatter : Type 0
SameBytesForTheMatter =
    (m d e : ℕ) (f g f' g' : Firm) (xs ys : List ℕ) (ps qs : List Message) (x y : MessagesEnd) (rs ss : List Reply)
    → dossier_of m f ≡ dossier_of m g → comes_to m d ps ≡ comes_to m e qs
    → WasServed m d f xs ps x rs f' → WasServed m e g ys qs y ss g'
    → IsAnsweredAlike m d e f g ps qs rs ss f' g' × (dossier_of m f' ≡ dossier_of m g')

-- and of two firms with the same rows of the matter, whatever its acts are, if nobody asks for them
abbrev pub SameBytesByRowsAlone : Type 0
SameBytesByRowsAlone =
    (m d e : ℕ) (f g f' g' : Firm) (xs ys : List ℕ) (ps qs : List Message) (x y : MessagesEnd) (rs ss : List Reply)
    → of m f ≡ of m g → comes_to m d ps ≡ comes_to m e qs → list_any asks_for_acts (comes_to m d ps) ≡ false
    → WasServed m d f xs ps x rs f' → WasServed m e g ys qs y ss g'
    → IsAnsweredAlike m d e f g ps qs rs ss f' g'
