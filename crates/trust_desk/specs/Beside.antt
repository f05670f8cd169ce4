-- How an import goes on over a book, beside what it knows of the firm's own ledger.
use Rattle.std.specs.Prelude.{◌≡◌, ℕ, List, [], ◌∷◌, ◌++◌, Option, Result, IfOk, IfSome, IsOk, OnErr}
use Rattle.trust_base.specs.declared.line.Line.{Line}
use Rattle.trust_base.specs.declared.refusal.StoreFault.{StoreFault}
use Rattle.firm_rows.specs.declared.ledger.FirmLine.{FirmLine}
use Rattle.firm_rows.specs.declared.ledger.Verdict.{Verdict}
use Rattle.firm_rows.specs.declared.ledger.Verdict.TheVariants as own
use Rattle.firm_rows.specs.Firm.{Firm}
use Rattle.firm_rows.specs.FirmLines.{as_firm_line}
use Rattle.statement_csv.specs.declared.item.Item.{Item}
use Rattle.trust_store.specs.Books.{counted}
use Rattle.trust_store.specs.Seen.{Seen}
use Rattle.trust_desk.specs.declared.importing.Counted.{Counted}
use Rattle.trust_desk.specs.Calls.{Counts, KeepsBook}
use Rattle.trust_desk.specs.Crashes.{MayLeaveChange}
use Rattle.trust_desk.specs.ItemStep.{after_item, counted_of}

-- the lines of the firm's own after one more, according to its verdict
abbrev pub lines_after : Line → Verdict → List FirmLine → List FirmLine
lines_after line own.Applied lines = lines ++ as_firm_line line ∷ []
lines_after line own.Repeat lines = lines
lines_after line own.Unmatched lines = lines

-- what is known of the firm's own ledger, if anything, is right
abbrev pub AgreesWith : Option (List FirmLine) → Firm → Type 0
AgreesWith known firm = IfSome known (λ lines. lines ≡ firm.firm_lines)

-- a book stands, and what is known of its firm's own ledger is right
abbrev pub StandsBeside : Seen → Option (List FirmLine) → Type 0
StandsBeside b known = b.stands × AgreesWith known b.firm

-- a book beside what is known: it stands only if that is right
abbrev pub beside : Seen → Option (List FirmLine) → Seen
beside b known = record {
  firm = b.firm;
  clean = b.clean;
  sure = b.sure;
  stands = StandsBeside b known;
  readable = b.readable;
  lasts = b.lasts;
  leaves = b.leaves;
  refusals = b.refusals;
  sound = λ stands. b.sound stands.0;
  clean_is_sure = b.clean_is_sure;
}

-- what a call leaves of the book, and of what is known
abbrev pub KeepsBeside : (ℕ → ℕ) → Seen → Option (List FirmLine) → Seen → Option (List FirmLine) → Type 0
KeepsBeside counted old known new left = KeepsBook (Counts counted) (beside old known) (beside new left)

-- an item is applied to a book beside what is known
pub record IsAppliedBeside (day : ℕ) (it : Item) (result : Result Counted StoreFault)
    (old : Seen) (known : Option (List FirmLine)) (new : Seen) (left : Option (List FirmLine)) : Type 0 where
  pub step : new.clean → StandsBeside old known
      → IfOk result (λ c. (c ≡ counted_of day old.firm it) × (new.firm ≡ after_item day old.firm it))
  pub err : new.clean → StandsBeside old known → OnErr result (new.firm ≡ old.firm)
  pub kept : KeepsBeside (counted result) old known new left
  pub crash : new.sure → StandsBeside old known
      → MayLeaveChange (IsOk result) old.firm (after_item day old.firm it) old new
