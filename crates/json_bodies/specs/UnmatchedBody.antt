-- The JSON of the records that a match leaves, each with its reason.
use Rattle.std.specs.Prelude.{ℕ, ℤ, List, [], ◌∷◌, codes, map, Option, Some, None}
use Rattle.serde_json.specs.Data.{Data, string}
use Rattle.serde_json.specs.Written.{compact_text}
use Rattle.trust_base.specs.declared.line.Line.{Line}
use Rattle.json_bodies.specs.Json.{array_of, count_value, day_value, object_of, or_null, sum_value}
use Rattle.statement_match.specs.Candidates.{Candidates, NamedExceptions, Sharers}
use Rattle.statement_lines.specs.EntryStates.{state_word}
use Rattle.statement_match.specs.Unmatched.{Unmatched}
use Rattle.statement_match.specs.declared.candidate.Candidate.{Candidate}
use Rattle.statement_match.specs.declared.misfit.Misfit.{Misfit}
use Rattle.statement_match.specs.declared.misfit.Misfit.TheVariants as misfit
use Rattle.statement_match.specs.declared.named_exception.NamedException.{NamedException}
use Rattle.statement_match.specs.declared.reason.UnmatchedReason.{UnmatchedReason}
use Rattle.statement_match.specs.declared.reason.UnmatchedReason.TheVariants as reason
use Rattle.statement_lines.specs.declared.relation.Relation.{Relation}
use Rattle.statement_lines.specs.declared.relation.Relation.TheVariants as relation
use Rattle.statement_match.specs.declared.unmatched.UnmatchedRecord.{UnmatchedRecord}
use Rattle.statement_match.specs.declared.unmatched.UnmatchedRecord.TheVariants as looked_at

-- Entries, exceptions and records: how many there are, and the first of them.

abbrev pub list_of : List Data → ℕ → Data
list_of listed count = object_of ((codes "count", count_value count) ∷ (codes "listed", array_of listed) ∷ [])

abbrev pub candidate_object : Candidate → Data
candidate_object c = object_of (
    (codes "amount", sum_value c.amount)
    ∷ (codes "bank_ref", or_null string c.bank_ref)
    ∷ (codes "day", day_value c.day)
    ∷ (codes "party", string c.party)
    ∷ (codes "reference", string c.reference)
    ∷ (codes "state", string (state_word c.state))
    ∷ [])

abbrev pub candidates_object : Candidates → Data
candidates_object c = list_of (map candidate_object c.listed) c.count

abbrev pub misfit_name : Misfit → List ℕ
misfit_name misfit.NoEntry = codes "NoEntry"
misfit_name misfit.OfNoEntry = codes "OfNoEntry"
misfit_name misfit.Again = codes "Again"
misfit_name (misfit.DatedAfter today) = codes "DatedAfter"
misfit_name misfit.TakesBack = codes "TakesBack"
misfit_name misfit.NotWaiting = codes "NotWaiting"
misfit_name misfit.OfAnotherAmount = codes "OfAnotherAmount"
misfit_name misfit.Fits = codes "Fits"

-- the entry of its reference, why it matches nothing, and the reference
abbrev pub exception_object : NamedException → Data
exception_object x = object_of (
    (codes "entry", or_null candidate_object x.entry)
    ∷ (codes "misfit", string (misfit_name x.misfit))
    ∷ (codes "reference", string x.reference)
    ∷ [])

abbrev pub exceptions_object : NamedExceptions → Data
exceptions_object x = list_of (map exception_object x.listed) x.count

abbrev pub sharers_object : Sharers → Data
sharers_object s = list_of (map count_value s.listed) s.count

-- A reason: its name, and what it tells.

abbrev pub relation_name : Relation → List ℕ
relation_name relation.Fitted = codes "Fitted"
relation_name relation.NotWaiting = codes "NotWaiting"
relation_name relation.IssuedAfter = codes "IssuedAfter"
relation_name relation.OfAnotherAmount = codes "OfAnotherAmount"
relation_name relation.OfItsAmount = codes "OfItsAmount"
relation_name relation.MaybeReturned = codes "MaybeReturned"
relation_name relation.Named = codes "Named"
relation_name relation.NamedAgain = codes "NamedAgain"
relation_name relation.NamedOfAnotherAmount = codes "NamedOfAnotherAmount"
relation_name (relation.HeldOn day) = codes "HeldOn"

abbrev pub named : List ℕ → Data
named name = object_of ((codes "name", string name) ∷ [])

abbrev pub with_entries : Candidates → List ℕ → Data
with_entries c name = object_of ((codes "entries", candidates_object c) ∷ (codes "name", string name) ∷ [])

abbrev pub reason_object : UnmatchedReason → Data
reason_object (reason.IsException x c) = object_of (
    (codes "entries", candidates_object c)
    ∷ (codes "exceptions", exceptions_object x)
    ∷ (codes "name", string (codes "IsException"))
    ∷ [])
reason_object (reason.DatedAfter today) =
    object_of ((codes "name", string (codes "DatedAfter")) ∷ (codes "today", day_value today) ∷ [])
reason_object (reason.Doubled records booked) = object_of (
    (codes "booked", count_value booked)
    ∷ (codes "name", string (codes "Doubled"))
    ∷ (codes "records", count_value records)
    ∷ [])
reason_object reason.BesideBooked = named (codes "BesideBooked")
reason_object (reason.FitsSeveral c) = with_entries c (codes "FitsSeveral")
reason_object (reason.Claimed reference) =
    object_of ((codes "name", string (codes "Claimed")) ∷ (codes "reference", string reference) ∷ [])
reason_object (reason.Shared s reference) = object_of (
    (codes "name", string (codes "Shared"))
    ∷ (codes "records", sharers_object s)
    ∷ (codes "reference", string reference)
    ∷ [])
reason_object (reason.OtherBusiness c) = with_entries c (codes "OtherBusiness")
reason_object (reason.Related r c) = with_entries c (relation_name r)
reason_object reason.NoneOfItsAmount = named (codes "NoneOfItsAmount")
reason_object (reason.Together day c) = object_of (
    (codes "day", day_value day)
    ∷ (codes "entries", candidates_object c)
    ∷ (codes "name", string (codes "Together"))
    ∷ [])
reason_object (reason.OwnMoney sum) =
    object_of ((codes "name", string (codes "OwnMoney")) ∷ (codes "sum", sum_value sum) ∷ [])
reason_object reason.MovesNothing = named (codes "MovesNothing")
reason_object reason.NamesNone = named (codes "NamesNone")

-- A record, and all of them.

abbrev pub line_object : Line → Data
line_object line = object_of (
    (codes "amount", sum_value line.amount)
    ∷ (codes "bank_ref", string line.bank_ref)
    ∷ (codes "date", day_value line.date)
    ∷ (codes "reference", string line.reference)
    ∷ (codes "text", string line.text)
    ∷ [])

-- a record's line, number and reason; of one that is no line the number alone
abbrev pub record_object : UnmatchedRecord → Data
record_object (looked_at.Unreadable number) = object_of ((codes "number", count_value number) ∷ [])
record_object (looked_at.OfLine number line why) = object_of (
    (codes "line", line_object line)
    ∷ (codes "number", count_value number)
    ∷ (codes "reason", reason_object why)
    ∷ [])

abbrev pub unmatched_object : Unmatched → Data
unmatched_object u = object_of (
    (codes "booked", count_value u.booked)
    ∷ (codes "records", array_of (map record_object u.records))
    ∷ (codes "written", count_value u.written)
    ∷ [])

-- the body that tells what a match leaves
unfoldable pub unmatched_body : Unmatched → List ℕ
unmatched_body u = compact_text (unmatched_object u)
