-- What a record of a sheet does to a firm.
use Rattle.day_sheet.proofs.Names.{◌≡◌, cond, ℕ, Bool, true, false, List, Option, Some, None, Result, Ok, Err, refl, sym, ap, subst}
use Rattle.std.specs.Prelude.{⊤, ◌==◌, ◌||◌}
use Rattle.trust_base.specs.Texts.{matter_of}
use Rattle.statement_csv.specs.Lines.{line_of_texts}
use Rattle.trust_base.specs.declared.line.Line.{Line}
use Rattle.trust_base.specs.declared.refusal.Field.{Field}
use Rattle.trust_base.specs.declared.refusal.Field.TheVariants as field
use Rattle.trust_base.specs.declared.refusal.Refusal.{Refusal}
use Rattle.trust_base.specs.declared.refusal.Refusal.TheVariants.{BadField, Memory}
use Rattle.firm_rows.specs.Firm.{Firm}
use Rattle.trust_store.specs.Seen.{Seen}
use Rattle.trust_desk.specs.FirmStep.{KindStopped, Steps}
use Rattle.trust_desk.specs.Heard.{Asks, Dismisses, Heard, Kind, NotRead, OfActs, OfItems, OfMatter, OnlyShown, OnlyTold, Own, OwnAsk, OwnRefusal, Unread, asked_on, is_the, kind_of, kind_own, own_if, own_of}
use Rattle.trust_desk.specs.Isolation.{asks_for_acts}
use Rattle.std.specs.List.{list_any}
use Rattle.trust_desk.specs.Replies.{is_fault_reply, refused}
use Rattle.trust_desk.specs.declared.requests.Reply.{Reply}
use Rattle.trust_desk.specs.declared.requests.Request.{Request}
use Rattle.trust_desk.proofs.Steps.{nothing-done, steps-fault as steps-stopped}
use Rattle.trust_matter.specs.declared.ask.Ask.{Ask}
use Rattle.ask_fields.specs.Fields.{Reads}
use Rattle.day_sheet.specs.Records.{ask_of, asked_of, by_cashier, dismissing, dismissing_in, has_dismissal_form, heard_as, heard_of, is_dismissal, of_matter, of_verb, text_at, verb_in}
use Rattle.day_sheet.specs.declared.record.Verb.{Verb}
use Rattle.trust_desk.specs.Answered.{IsReplied}
use Rattle.trust_desk.specs.Counts.{counted_reply}
use Rattle.trust_desk.proofs.Calls.{kept-as, kept-still}
use Rattle.trust_desk.proofs.Crashes.{leave-as, leave-still}
use Rattle.trust_desk.proofs.MadeRows.{plain-step}

-- ---- what the desk hears

heard-read : (fields : List (List ℕ)) (request : Request) → asked_of fields ≡ Ok request → heard_of fields ≡ Asks request
unfolding heard_of
heard-read fields request e = ap (λ (o : Result Request Field). heard_as o (matter_of (text_at fields 1))) e

heard-bad : (fields : List (List ℕ)) (f : Field) → asked_of fields ≡ Err f → heard_of fields ≡ Unread (matter_of (text_at fields 1)) (BadField f)
unfolding heard_of
heard-bad fields f e = ap (λ (o : Result Request Field). heard_as o (matter_of (text_at fields 1))) e

-- it brings no items of a statement, and asks for no acts
abbrev IsNoImport : Kind → Type 0
IsNoImport (OfMatter m caller a) = ⊤
IsNoImport (OfActs m caller) = ⊥
IsNoImport (OfItems refused items) = ⊥
IsNoImport (Dismisses caller line) = ⊤
IsNoImport (OnlyTold text) = ⊤
IsNoImport (OnlyShown json) = ⊤
IsNoImport (NotRead named r) = ⊤

-- no record asks for an import
by_cashier-none : (n : ℕ) (asked : Result Ask Field) (named : Option ℕ) → IsNoImport (kind_of (heard_as (by_cashier n asked) named))
by_cashier-none n (Err f) named = tt
by_cashier-none n (Ok a) named = tt

of_matter-none : (read : Option ℕ) (asked : Result Ask Field) (named : Option ℕ) → IsNoImport (kind_of (heard_as (of_matter read asked) named))
of_matter-none None asked named = tt
of_matter-none (Some n) asked named = by_cashier-none n asked named

of_verb-none : (verb : Option Verb) (fields : List (List ℕ)) (named : Option ℕ) → IsNoImport (kind_of (heard_as (of_verb verb fields) named))
of_verb-none None fields named = tt
of_verb-none (Some v) fields named = of_matter-none (matter_of (text_at fields 1)) (ask_of v fields) named

dismissing-none : (line : Option Line) (named : Option ℕ) → IsNoImport (kind_of (heard_as (dismissing line) named))
dismissing-none None named = tt
dismissing-none (Some line) named = tt

dismissal-none : (b : Bool) (line : Option Line) (named : Option ℕ) → IsNoImport (kind_of (heard_as (cond b (dismissing line) (Err field.Record)) named))
dismissal-none true line named = dismissing-none line named
dismissal-none false line named = tt

record-none : (fields : List (List ℕ)) → IsNoImport (kind_of (heard_of fields))
unfolding heard_of asked_of
record-none fields = cases (is_dismissal fields)
  where
    cases : (b : Bool) → IsNoImport (kind_of (heard_as (cond b (dismissing_in fields) (of_verb (verb_in fields) fields)) (matter_of (text_at fields 1))))
    cases true = dismissal-none (has_dismissal_form fields) (line_of_texts (text_at fields 3) (text_at fields 4) (text_at fields 5) (text_at fields 6) (text_at fields 7)) (matter_of (text_at fields 1))
    cases false = of_verb-none (verb_in fields) fields (matter_of (text_at fields 1))

own-silent : (b : Bool) (own : Own) → asks_for_acts own ≡ false → list_any asks_for_acts (own_if b own) ≡ false
own-silent true own silent = ap (λ (b : Bool). b || false) silent
own-silent false own silent = refl

kind-silent : (m day : ℕ) (k : Kind) → IsNoImport k → list_any asks_for_acts (kind_own m day k) ≡ false
kind-silent m day (OfMatter n caller ask) none = own-silent (n == m) (OwnAsk (asked_on day caller ask)) refl
kind-silent m day (OfActs n caller) none = absurd none
kind-silent m day (OfItems refused items) none = absurd none
kind-silent m day (Dismisses caller line) none = refl
kind-silent m day (OnlyTold text) none = refl
kind-silent m day (OnlyShown json) none = refl
kind-silent m day (NotRead named r) none = own-silent (is_the m named) (OwnRefusal r) refl

-- no record asks for a matter's acts
pub record-silent : (m day : ℕ) (fields : List (List ℕ)) → list_any asks_for_acts (own_of m day (heard_of fields)) ≡ false
record-silent m day fields = kind-silent m day (kind_of (heard_of fields)) (record-none fields)

-- a record that could not be read is refused, and changes nothing
refused-step : (day : ℕ) (firm : Firm) (fields : List (List ℕ)) (r : Refusal) → Reads (asked_of fields) (Err r) → Steps day firm (heard_of fields) (refused r) firm
refused-step day firm fields (BadField f) h = rw (heard-bad fields f h) (refl, refl)
refused-step day firm fields Memory h = steps-stopped day firm firm (heard_of fields) Memory refl (nothing-done day firm (heard_of fields))
refused-step day firm fields _ h = absurd h

-- ---- what is left of a fault

stopped-is : (day : ℕ) (firm after : Firm) (k : Kind) → IsNoImport k → KindStopped day firm k after → after ≡ firm
stopped-is day firm after (OfMatter m caller a) none s = s
stopped-is day firm after (OfActs m caller) none s = s
stopped-is day firm after (OfItems refused items) none s = absurd none
stopped-is day firm after (Dismisses caller line) none s = s
stopped-is day firm after (OnlyTold text) none s = s
stopped-is day firm after (OnlyShown json) none s = s
stopped-is day firm after (NotRead named r) none s = s

pub steps-fault : (day : ℕ) (firm after : Firm) (fields : List (List ℕ)) (reply : Reply) → is_fault_reply reply ≡ true → Steps day firm (heard_of fields) reply after
    → after ≡ firm
steps-fault day firm after fields reply e steps = let stopped = rw e at steps in stopped-is day firm after (kind_of (heard_of fields)) (record-none fields) stopped.leaves

-- ---- a record is answered by one step of the firm

pub asked-replied : (day : ℕ) (fields : List (List ℕ)) (request : Request) (reply : Reply) (old new : Seen) → asked_of fields ≡ Ok request → IsReplied day (Asks request) reply old new
    → IsReplied day (heard_of fields) reply old new
asked-replied day fields request reply old new e replied = subst (λ (h : Heard). IsReplied day h reply old new) (sym (heard-read fields request e)) replied

-- such a record counts no fault of the store
refused-counted : (fields : List (List ℕ)) (why : Refusal) (reply : Reply) (n : ℕ) → Reads (asked_of fields) (Err why) → reply ≡ refused why → n ≡ counted_reply reply n
refused-counted fields (BadField f) reply n h is = ap (λ (x : Reply). counted_reply x n) (sym is)
refused-counted fields Memory reply n h is = ap (λ (x : Reply). counted_reply x n) (sym is)
refused-counted fields _ reply n h is = absurd h

-- a record that could not be read changes nothing
pub refused-replied : (day : ℕ) (fields : List (List ℕ)) (why : Refusal) (reply : Reply) (b : Seen) → Reads (asked_of fields) (Err why) → reply ≡ refused why
    → IsReplied day (heard_of fields) reply b b
refused-replied day fields why reply b unread is =
    let step = subst (λ (x : Reply). Steps day b.firm (heard_of fields) x b.firm) (sym is) (refused-step day b.firm fields why unread) in
    record {
      step = λ clean stands. step;
      kept = kept-as (λ sure stands. refused-counted fields why reply b.refusals unread is) (kept-still b);
      crash = λ sure stands clean. leave-as {done = ⊤} (λ fine. tt) (λ found made. made) (λ fine. sym (plain-step day b.firm b.firm (heard_of fields) reply fine step)) (leave-still b.firm b);
    }
