-- What a record of a day sheet asks, and what the desk hears of it.
use Rattle.std.specs.Prelude.{ℕ, Bool, true, false, ◌&&◌, ◌||◌, ◌==◌, List, [], ◌∷◌, find}
use Rattle.std.specs.Prelude.{length, codes, Option, Some, None, unwrap_or, Result, Ok, Err, if◌then◌else◌}
use Rattle.std.specs.List.{list_all}
use Rattle.std.specs.Str.{bytes_eq, is_utf8}
use Rattle.csv.specs.Records.{field_at}
use Rattle.trust_base.specs.Names.{label_of, person_of}
use Rattle.trust_base.specs.declared.line.Line.{Line}
use Rattle.statement_csv.specs.Lines.{line_of_texts}
use Rattle.trust_base.specs.Texts.{amount_of, amount_or_zero_of, matter_of}
use Rattle.trust_base.specs.declared.refusal.Field.{Field}
use Rattle.trust_base.specs.declared.refusal.Field.TheVariants as field
use Rattle.trust_base.specs.declared.refusal.Refusal.TheVariants.{BadField}
use Rattle.matter_rows.specs.declared.act.Caller.TheVariants.{Cashier}
use Rattle.trust_matter.specs.declared.ask.Ask.{Ask}
use Rattle.trust_matter.specs.declared.ask.Ask.TheVariants as ask
use Rattle.ask_fields.specs.Asks.{claiming, depositing, dropping, naming, opening, proposing, seating, splitting}
use Rattle.ask_fields.specs.Fields.{fund_in, of_entry, on_general, role_of}
use Rattle.trust_desk.specs.Heard.{Asks, Heard, Unread}
use Rattle.trust_desk.specs.declared.requests.Request.{Request}
use Rattle.trust_desk.specs.declared.requests.Request.TheVariants.{Dismiss, Matter}
use Rattle.day_sheet.specs.declared.record.Verb.{Verb}
use Rattle.day_sheet.specs.declared.record.VerbForm.{VerbForm}
use Rattle.day_sheet.specs.declared.record.Verb.TheVariants as verb

-- ---- the form of a record

-- the form of a verb's records
pub record Form : Type 0 where
  -- the verb's name, which is the first field
  pub name : List ℕ
  pub verb : Verb
  -- how many fields there are: the verb, the matter, the entry and the verb's own
  pub field_count : ℕ
  -- whether there is an entry; else its field is empty
  pub names_entry : Bool

abbrev form : List ℕ → Verb → ℕ → Bool → Form
form name verb field_count names_entry =
    record { name = name; verb = verb; field_count = field_count; names_entry = names_entry }

-- the forms of records
unfoldable pub forms : List Form
forms = form (codes "open") verb.Open 5 false
    ∷ form (codes "seat") verb.Seat 5 false
    ∷ form (codes "drop") verb.Drop 4 false
    ∷ form (codes "deposit") verb.Deposit 6 true
    ∷ form (codes "cancel") verb.Cancel 3 true
    ∷ form (codes "propose") verb.Propose 9 true
    ∷ form (codes "withdraw") verb.Withdraw 3 true
    ∷ form (codes "claim") verb.Claim 6 true
    ∷ form (codes "award") verb.Award 4 true
    ∷ form (codes "close") verb.Close 3 false
    ∷ form (codes "purge") verb.Purge 3 false
    ∷ form (codes "entry") verb.Entry 3 true
    ∷ form (codes "show") verb.Show 3 false ∷ []

-- the form that a row of the program's own table says
abbrev pub form_in : VerbForm → Form
form_in row = form row.name.now row.verb row.field_count row.names_entry

-- the field at a place, counted from 0; empty if there is none
abbrev pub text_at : List (List ℕ) → ℕ → List ℕ
text_at fields i = unwrap_or (field_at fields i) []

-- the form of the verb that a record's first field names
abbrev pub form_of : List (List ℕ) → Option Form
form_of fields = find (λ f. bytes_eq (text_at fields 0) f.name) forms

-- the record has as many fields as its verb takes, each in UTF-8, and an entry only if the verb takes one
abbrev pub is_of_form : List (List ℕ) → Form → Bool
is_of_form fields f =
    length fields == f.field_count && (f.names_entry || length (text_at fields 2) == 0) && list_all is_utf8 fields

abbrev pub verb_if_formed : List (List ℕ) → Option Form → Option Verb
verb_if_formed fields None = None
verb_if_formed fields (Some f) = if is_of_form fields f then Some f.verb else None

-- the verb of a record, if the record has the verb's form
abbrev pub verb_in : List (List ℕ) → Option Verb
verb_in fields = verb_if_formed fields (form_of fields)

-- ---- the asks, by the fields of a record

-- an ask to book a deposit
abbrev pub depositing_in : List (List ℕ) → Result Ask Field
depositing_in fields =
    of_entry (text_at fields 2) (λ n.
    depositing n (amount_of (text_at fields 3)) (label_of (text_at fields 4)) (label_of (text_at fields 5)))

-- the text of an optional field; `None` if it is empty
abbrev pub text_given : List ℕ → Option (List ℕ)
text_given bs = if length bs == 0 then None else Some bs

-- an ask to propose a payment
abbrev pub proposing_in : List (List ℕ) → Result Ask Field
proposing_in fields =
    of_entry (text_at fields 2) (λ n.
    proposing n (amount_of (text_at fields 3)) (fund_in (text_at fields 4) (text_given (text_at fields 5)))
    (label_of (text_at fields 6)) (label_of (text_at fields 7)) (label_of (text_at fields 8)))

-- an ask to raise a claim on the general fund
abbrev pub claiming_in : List (List ℕ) → Result Ask Field
claiming_in fields =
    of_entry (text_at fields 2) (λ n.
    claiming n (amount_of (text_at fields 3)) (on_general None (Some (text_at fields 4))) (label_of (text_at fields 5)))

-- an ask to award a part of a claim to the client
abbrev pub awarding_in : List (List ℕ) → Result Ask Field
awarding_in fields =
    of_entry (text_at fields 2) (λ n. splitting ask.Award n (amount_or_zero_of (text_at fields 3)))

-- what a record of a verb asks of its matter
abbrev pub ask_of : Verb → List (List ℕ) → Result Ask Field
ask_of verb.Open fields = opening (label_of (text_at fields 3)) (person_of (text_at fields 4))
ask_of verb.Seat fields = seating (person_of (text_at fields 3)) (role_of (text_at fields 4))
ask_of verb.Drop fields = dropping (person_of (text_at fields 3))
ask_of verb.Deposit fields = depositing_in fields
ask_of verb.Cancel fields = naming ask.CancelDeposit (text_at fields 2)
ask_of verb.Propose fields = proposing_in fields
ask_of verb.Withdraw fields = naming ask.Withdraw (text_at fields 2)
ask_of verb.Claim fields = claiming_in fields
ask_of verb.Award fields = awarding_in fields
ask_of verb.Close fields = Ok ask.CloseMatter
ask_of verb.Purge fields = Ok ask.Purge
ask_of verb.Entry fields = naming ask.ShowEntry (text_at fields 2)
ask_of verb.Show fields = Ok ask.Show

-- ---- dismissing a line

-- the record's verb is `dismiss`, which belongs to no matter
abbrev pub is_dismissal : List (List ℕ) → Bool
is_dismissal fields = bytes_eq (text_at fields 0) (codes "dismiss")

-- eight fields: the verb, two empty ones instead of the matter and the entry, and the five of the line
abbrev pub has_dismissal_form : List (List ℕ) → Bool
has_dismissal_form fields =
    length fields == 8 && length (text_at fields 1) == 0 && length (text_at fields 2) == 0

abbrev pub dismissing : Option Line → Result Request Field
dismissing None = Err field.Record
dismissing (Some line) = Ok (Dismiss Cashier line)

-- a request to dismiss a line from the exceptions, from its five fields
abbrev pub dismissing_in : List (List ℕ) → Result Request Field
dismissing_in fields =
    if has_dismissal_form fields
    then dismissing
    (line_of_texts (text_at fields 3) (text_at fields 4) (text_at fields 5) (text_at fields 6) (text_at fields 7))
    else Err field.Record

-- ---- the request

abbrev pub by_cashier : ℕ → Result Ask Field → Result Request Field
by_cashier m (Err f) = Err f
by_cashier m (Ok a) = Ok (Matter m Cashier a)

abbrev pub of_matter : Option ℕ → Result Ask Field → Result Request Field
of_matter None asked = Err field.Matter
of_matter (Some m) asked = by_cashier m asked

abbrev pub of_verb : Option Verb → List (List ℕ) → Result Request Field
of_verb None fields = Err field.Record
of_verb (Some v) fields = of_matter (matter_of (text_at fields 1)) (ask_of v fields)

-- what a record asks of the desk, or the first invalid field; the record as a whole is checked first, then the matter,
-- the entry and the verb's own fields; for a line to dismiss only the record as a whole can be invalid
unfoldable pub asked_of : List (List ℕ) → Result Request Field
asked_of fields = if is_dismissal fields then dismissing_in fields else of_verb (verb_in fields) fields

-- ---- what the desk hears

abbrev pub heard_as : Result Request Field → Option ℕ → Heard
heard_as (Ok request) named = Asks request
heard_as (Err f) named = Unread named (BadField f)

-- what the desk hears of a record: its request, or its refusal; a record names the matter in its second field
unfoldable pub heard_of : List (List ℕ) → Heard
heard_of fields = heard_as (asked_of fields) (matter_of (text_at fields 1))
