-- What the match of a bank's file against the book prints, and how it ends.
use Rattle.std.specs.Prelude.{◌≡◌, ℕ, Bool, true, false, List, []}
use Rattle.std.specs.Prelude.{Option, Some, None, IfSome, Result, Ok, Err, MatchBool}
use Rattle.std.specs.Io.KnownBytes.{Appends}
use Rattle.trust_base.specs.declared.refusal.Refusal.{Refusal}
use Rattle.trust_base.specs.declared.refusal.Refusal.TheVariants.{TooLarge}
use Rattle.matter_rows.specs.declared.act.Caller.TheVariants.{Cashier}
use Rattle.firm_rows.specs.Firm.{Firm}
use Rattle.statement_match.specs.Matched.{Matched, is_left}
use Rattle.trust_desk.specs.MatchStep.{IsMatched}
use Rattle.portal_http.specs.Output.{Output}
use Rattle.cashier.specs.Report.{refused_outcome}
use Rattle.cashier.specs.Sent.{IsSent}
use Rattle.cashier.specs.Sheet.{refusal_line}
use Rattle.cashier.specs.Statement.{is_told_longer}
use Rattle.cashier.specs.declared.outcome.Outcome.{Outcome}
use Rattle.cashier.specs.declared.outcome.Outcome.TheVariants as outcome

-- the result of matching a statement, or why there is none
abbrev pub Found : Type 0
Found = Result Matched Refusal

-- what is printed of it: the statement for the import, or the line of the refusal
abbrev pub found_text : Found → List ℕ
found_text (Ok matched) = matched.statement
found_text (Err r) = refusal_line r

-- the outcome of a match, depending on whether a record has to be looked at
abbrev pub left_outcome : Bool → Outcome
left_outcome true = outcome.Refused
left_outcome false = outcome.Done

-- the outcome after that was printed: according to whether a record has to be looked at, or to the refusal
abbrev pub found_outcome : Found → Outcome
found_outcome (Ok matched) = left_outcome (is_left matched)
found_outcome (Err r) = refused_outcome r

-- the result was printed completely, and the run ended accordingly; or a write failed, and only a prefix was printed
abbrev pub PrintsFound : Found → Output → Outcome → Type 0
PrintsFound found output told =
    IsSent (found_text found) (found_outcome found) outcome.OutputFault output.before output.after told

-- this is the result for a statement with this length, if it is reported, and these bytes, if they are known, over the
-- firm on a day, asked for by the cashier; one that reports a length above the limit is refused, whatever its bytes are
abbrev pub IsFound : ℕ → Firm → Option ℕ → Option (List ℕ) → Found → Type 0
IsFound day firm size bytes found = MatchBool (is_told_longer size) (found ≡ Err TooLarge)
    (IfSome bytes (λ all. IsMatched day firm Cashier all found))

-- a read failed, and nothing was printed; or the result was printed
abbrev pub MatchPrints : ℕ → Firm → Option ℕ → Option (List ℕ) → Option Found → Output → Outcome → Type 0
MatchPrints day firm size bytes None output told =
    Appends output.before output.after [] × (told ≡ outcome.FileFault)
MatchPrints day firm size bytes (Some found) output told =
    IsFound day firm size bytes found × PrintsFound found output told

-- how the match of a statement with this length, if it is reported, and these bytes, if they are known, ends on a day:
-- the firm is unchanged, and the result was printed
pub record MatchEnds (day : ℕ) (size : Option ℕ) (bytes : Option (List ℕ)) (output : Output) (told : Outcome)
    (before after : Firm) : Type 0 where
  pub firm : after ≡ before
  pub found : Option Found
  pub prints : MatchPrints day before size bytes found output told
