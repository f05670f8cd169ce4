-- The reply to a statement whose references may be empty, over the firm on a business day.
use Rattle.std.specs.Prelude.{◌≡◌, ◌⊎◌, ℕ, true, List, None, Some, Result, Ok, Err}
use Rattle.trust_base.specs.declared.refusal.Refusal.{Refusal}
use Rattle.trust_base.specs.Refusals.{is_fault}
use Rattle.matter_rows.specs.declared.act.Caller.{Caller}
use Rattle.firm_rows.specs.Firm.{Firm}
use Rattle.statement_match.specs.Matched.{Matched, matched}
use Rattle.json_bodies.specs.UnmatchedBody.{unmatched_body}
use Rattle.trust_desk.specs.ImportStep.{import_refusal}
use Rattle.trust_desk.specs.ReportStep.{text_unless}

-- the statement for the import; it is refused for the same reasons as an import of it
abbrev pub statement_for : Caller → List ℕ → ℕ → Firm → Result (List ℕ) Refusal
statement_for caller bytes today firm =
    text_unless (import_refusal caller bytes) (matched today firm bytes).statement

-- the records that a person has to look at, each with its reason, as JSON; refused likewise
abbrev pub unmatched_for : Caller → List ℕ → ℕ → Firm → Result (List ℕ) Refusal
unmatched_for caller bytes today firm =
    text_unless (import_refusal caller bytes) (unmatched_body (matched today firm bytes).unmatched)

-- both of these; or it was refused, or the store or memory stopped it
abbrev pub IsMatched : ℕ → Firm → Caller → List ℕ → Result Matched Refusal → Type 0
IsMatched today firm caller bytes (Ok both) =
    (import_refusal caller bytes ≡ None) × (both ≡ matched today firm bytes)
IsMatched today firm caller bytes (Err r) = (is_fault r ≡ true) ⊎ (import_refusal caller bytes ≡ Some r)
