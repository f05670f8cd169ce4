-- The table of refusals: numbers, names, statuses and texts.
use Rattle.std.specs.Prelude.{ℕ, Bool, true, false, List, [], ◌∷◌, ◌++◌, Option, Some, None, codes}
use Rattle.std.specs.Fmt.{decimal}
use Rattle.trust_values.specs.Texts.{amount_text, day_text, entry_text}
use Rattle.trust_base.specs.declared.refusal.StoreFault.{StoreFault}
use Rattle.trust_base.specs.declared.refusal.StoreFault.TheVariants as faults
use Rattle.trust_base.specs.declared.refusal.Field.{Field}
use Rattle.trust_base.specs.declared.refusal.Field.TheVariants as fields
use Rattle.trust_base.specs.declared.refusal.Rule.{Rule}
use Rattle.trust_base.specs.declared.refusal.Rule.TheVariants as rules
use Rattle.trust_base.specs.declared.refusal.Refusal.{Refusal}
use Rattle.trust_base.specs.declared.refusal.Refusal.TheVariants.{BadMessage, LengthRequired, TooLarge, NoRoute, BadMethod, NoCaller, BadField, NoMatter, Purged, NotAllowed, AlreadyOpen, Closed, DateBackwards, WrongNumber, NoEntry, WrongKind, WrongState, PayeeIsCash, WrongPayee, BadSplit, Short, SeatTaken, NoSeat, LastLawyer, NotEmpty, TooEarly, NoStatement, PeriodPurged, Store, Memory}

-- 4 to 28 are tried in the order of their numbers, 1 to 3 while the message is read; 29 and 30 may come at any point
abbrev pub number_of : Refusal → ℕ
number_of BadMessage = 1
number_of LengthRequired = 2
number_of TooLarge = 3
number_of NoRoute = 4
number_of BadMethod = 5
number_of NoCaller = 6
number_of (BadField field) = 7
number_of NoMatter = 8
number_of Purged = 9
number_of (NotAllowed rule) = 10
number_of AlreadyOpen = 11
number_of Closed = 12
number_of (DateBackwards last) = 13
number_of (WrongNumber next) = 14
number_of NoEntry = 15
number_of WrongKind = 16
number_of WrongState = 17
number_of PayeeIsCash = 18
number_of WrongPayee = 19
number_of BadSplit = 20
number_of (Short left) = 21
number_of SeatTaken = 22
number_of NoSeat = 23
number_of LastLawyer = 24
number_of NotEmpty = 25
number_of (TooEarly day) = 26
number_of NoStatement = 27
number_of PeriodPurged = 28
number_of Store = 29
number_of Memory = 30

-- the status of the answer (RFC 9110, section 15)
abbrev pub status_of : Refusal → ℕ
status_of BadMessage = 400
status_of LengthRequired = 411
status_of TooLarge = 413
status_of NoRoute = 404
status_of BadMethod = 405
status_of NoCaller = 401
status_of (BadField field) = 422
status_of NoMatter = 404
status_of Purged = 410
status_of (NotAllowed rule) = 403
status_of AlreadyOpen = 409
status_of Closed = 409
status_of (DateBackwards last) = 409
status_of (WrongNumber next) = 409
status_of NoEntry = 404
status_of WrongKind = 409
status_of WrongState = 409
status_of PayeeIsCash = 422
status_of WrongPayee = 422
status_of BadSplit = 422
status_of (Short left) = 409
status_of SeatTaken = 409
status_of NoSeat = 409
status_of LastLawyer = 409
status_of NotEmpty = 409
status_of (TooEarly day) = 409
status_of NoStatement = 404
status_of PeriodPurged = 409
status_of Store = 503
status_of Memory = 503

abbrev pub name_of : Refusal → List ℕ
name_of BadMessage = codes "BadMessage"
name_of LengthRequired = codes "LengthRequired"
name_of TooLarge = codes "TooLarge"
name_of NoRoute = codes "NoRoute"
name_of BadMethod = codes "BadMethod"
name_of NoCaller = codes "NoCaller"
name_of (BadField field) = codes "BadField"
name_of NoMatter = codes "NoMatter"
name_of Purged = codes "Purged"
name_of (NotAllowed rule) = codes "NotAllowed"
name_of AlreadyOpen = codes "AlreadyOpen"
name_of Closed = codes "Closed"
name_of (DateBackwards last) = codes "DateBackwards"
name_of (WrongNumber next) = codes "WrongNumber"
name_of NoEntry = codes "NoEntry"
name_of WrongKind = codes "WrongKind"
name_of WrongState = codes "WrongState"
name_of PayeeIsCash = codes "PayeeIsCash"
name_of WrongPayee = codes "WrongPayee"
name_of BadSplit = codes "BadSplit"
name_of (Short left) = codes "Short"
name_of SeatTaken = codes "SeatTaken"
name_of NoSeat = codes "NoSeat"
name_of LastLawyer = codes "LastLawyer"
name_of NotEmpty = codes "NotEmpty"
name_of (TooEarly day) = codes "TooEarly"
name_of NoStatement = codes "NoStatement"
name_of PeriodPurged = codes "PeriodPurged"
name_of Store = codes "Store"
name_of Memory = codes "Memory"

abbrev pub field_name : Field → List ℕ
field_name fields.Matter = codes "matter"
field_name fields.Entry = codes "entry"
field_name fields.Day = codes "day"
field_name fields.Body = codes "body"
field_name fields.Client = codes "client"
field_name fields.Lawyer = codes "lawyer"
field_name fields.Person = codes "person"
field_name fields.Role = codes "role"
field_name fields.Amount = codes "amount"
field_name fields.Source = codes "source"
field_name fields.Description = codes "description"
field_name fields.From = codes "from"
field_name fields.Of = codes "of"
field_name fields.Payee = codes "payee"
field_name fields.Purpose = codes "purpose"
field_name fields.Instrument = codes "instrument"
field_name fields.On = codes "on"
field_name fields.Claimant = codes "claimant"
field_name fields.Reason = codes "reason"
field_name fields.ToClient = codes "to_client"
field_name fields.Record = codes "record"
field_name fields.Header = codes "header"

abbrev pub rule_name : Rule → List ℕ
rule_name rules.Read = codes "read"
rule_name rules.Dispute = codes "dispute"
rule_name rules.Claim = codes "claim"
rule_name rules.Propose = codes "propose"
rule_name rules.Sign = codes "sign"
rule_name rules.Office = codes "office"
rule_name rules.Firm = codes "firm"

-- the refusal that reports a store fault
abbrev pub refused_by : StoreFault → Refusal
refused_by faults.Store = Store
refused_by faults.Memory = Memory

-- caused only by a failed store call, an invalid stored row, or running out of memory
abbrev pub is_fault : Refusal → Bool
is_fault Store = true
is_fault Memory = true
is_fault _ = false

-- a text in quotes; refusals need no escapes
abbrev pub quoted : List ℕ → List ℕ
quoted text = 34 ∷ (text ++ 34 ∷ [])

-- a key and its value, as JSON
abbrev pub member : List ℕ → List ℕ → List ℕ
member key value = quoted key ++ 58 ∷ value

-- the number of the next entry, or null if no number is left
abbrev pub next_text : Option ℕ → List ℕ
next_text (Some n) = quoted (entry_text n)
next_text None = codes "null"

-- a value whose key sorts before `name`, with its comma; keys ascend by their bytes
abbrev pub leading_member : Refusal → List ℕ
leading_member (BadField field) = member (codes "field") (quoted (field_name field)) ++ 44 ∷ []
leading_member (DateBackwards last) = member (codes "last") (quoted (day_text last)) ++ 44 ∷ []
leading_member (Short left) = member (codes "left") (quoted (amount_text left)) ++ 44 ∷ []
leading_member (TooEarly day) = member (codes "day") (quoted (day_text day)) ++ 44 ∷ []
leading_member _ = []

-- a value whose key sorts between `name` and `number`, with its comma
abbrev pub middle_member : Refusal → List ℕ
middle_member (WrongNumber next) = 44 ∷ member (codes "next") (next_text next)
middle_member _ = []

-- a value whose key sorts after `number`, with its comma
abbrev pub trailing_member : Refusal → List ℕ
trailing_member (NotAllowed rule) = 44 ∷ member (codes "rule") (quoted (rule_name rule))
trailing_member _ = []

abbrev pub name_member : Refusal → List ℕ
name_member r = member (codes "name") (quoted (name_of r))

abbrev pub number_member : Refusal → List ℕ
number_member r = 44 ∷ member (codes "refusal") (decimal (number_of r))

-- the compact JSON object of a refusal
unfoldable pub refusal_text : Refusal → List ℕ
refusal_text r =
    123 ∷ (leading_member r ++ name_member r ++ middle_member r ++ number_member r ++ trailing_member r ++ 125 ∷ [])
