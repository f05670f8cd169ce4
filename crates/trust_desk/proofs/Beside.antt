-- How an item is applied beside what is known of the firm's own ledger.
use Rattle.trust_desk.proofs.Names.{Counts, Seen, ◌≡◌, ◌∙◌, ℕ, List, Option, Some, None, Result, Ok, Err, refl, ap, IfOk, IfSome, OnErr, ⊤, Line, StoreFault, LineEffect, BankLine, line_on, BalanceKind, FirmLine, Verdict, Firm, of, FirmChange, after, by_balance, by_firm_line, firm_verdict, IsFirmVerdict, edit-leaves, Item, IsRead, IsWrite, IsWriteIf, Counted, IsItemApplied, AgreesWith, IsAppliedBeside, KeepsBeside, lines_after, KeepsBook, after_item, after_told, balance_on, counted_by, counted_of, arith, ints, nat_tests}
use Rattle.trust_matter.specs.declared.line_verdict.LineEffect.TheVariants as told
use Rattle.statement_csv.specs.declared.item.Item.TheVariants as item
use Rattle.trust_store.proofs.Writes.{fit_write}
use Rattle.trust_desk.proofs.Calls.{kept-then, read-kept, write-kept}
use Rattle.trust_desk.proofs.Crashes.{leave-as, leave-failed, leave-then, read-leaves, write-leaves}

-- What items leave of the firm's own lines.

balance-apart : (k : BalanceKind) (line : Line) (v : Verdict) (firm : Firm) → (after (by_balance k line v) firm).firm_lines ≡ firm.firm_lines
balance-apart k line v firm = grind (arith, ints, nat_tests)

told-apart : (l : BankLine) (day : ℕ) (e : LineEffect) (firm : Firm) → (after_told l day e firm).firm_lines ≡ firm.firm_lines
told-apart l day (told.Applied e) firm = (edit-leaves l.matter e.edit e.last firm).0
told-apart l day told.Repeat firm = refl
told-apart l day (told.Unmatched r) firm = refl

-- an item that is no line of the firm's own
abbrev pub IsApart : Item → Type 0
IsApart (item.OfFirm line) = ⊥
IsApart _ = ⊤

item-lines : (day : ℕ) (it : Item) (firm : Firm) → IsApart it → (after_item day firm it).firm_lines ≡ firm.firm_lines
item-lines day it firm apart = grind (arith, ints, nat_tests, balance-apart, balance_on, told-apart, line_on, of)

-- what one more line of the firm's own leaves of them
pub verdict-lines : (line : Line) (v : Verdict) (firm : Firm) → lines_after line v firm.firm_lines ≡ (after (by_firm_line line v) firm).firm_lines
verdict-lines line v firm = grind (arith, ints, nat_tests)

-- what a ledger that agrees tells of a line
pub agreed-tells : (day : ℕ) (line : Line) (lines : List FirmLine) (firm : Firm) (v : Verdict) → v ≡ firm_verdict lines line day → lines ≡ firm.firm_lines
    → (counted_by v ≡ counted_of day firm (item.OfFirm line)) × (after (by_firm_line line v) firm ≡ after_item day firm (item.OfFirm line))
agreed-tells day line lines firm v is same =
    grind (arith, ints, nat_tests, firm_verdict, counted_by, after, by_firm_line)

-- What is known stays right.

pub agrees-still : (known : Option (List FirmLine)) (a b : Firm) → b.firm_lines ≡ a.firm_lines → AgreesWith known a → AgreesWith known b
agrees-still known a b same right = grind (arith, ints, nat_tests)

-- with one more line
pub added-agrees : (left : Option (List FirmLine)) (lines : List FirmLine) (line : Line) (v : Verdict) (a b : Firm) → IfSome left (λ ls. ls ≡ lines_after line v lines) → lines ≡ a.firm_lines → b ≡ after (by_firm_line line v) a → AgreesWith left b
added-agrees left lines line v a b added same is = grind (arith, ints, nat_tests, lines_after, verdict-lines)

lines-still : (day : ℕ) (it : Item) (result : Result Counted StoreFault) (a b : Firm) → IsApart it
    → IfOk result (λ c. (c ≡ counted_of day a it) × (b ≡ after_item day a it)) → OnErr result (b ≡ a) → b.firm_lines ≡ a.firm_lines
lines-still day it result a b apart step err = grind (arith, ints, nat_tests, item-lines)

pub kept-beside : {count : ℕ → ℕ} {old new : Seen} (known left : Option (List FirmLine))
    → (new.clean → old.stands → AgreesWith known old.firm → AgreesWith left new.firm)
    → KeepsBook (Counts count) old new → KeepsBeside count old known new left
kept-beside known left agrees k = grind (arith, ints, nat_tests)

-- the book alone
pub kept-alone : {count : ℕ → ℕ} {old new : Seen} (left : Option (List FirmLine))
    → KeepsBeside count old None new left → KeepsBook (Counts count) old new
kept-alone left k = grind (arith, ints, nat_tests)

module _ {day : ℕ} {old new : Seen} (known : Option (List FirmLine)) where
  -- an item that is no line of the firm's own
  pub item-apart : {it : Item} {result : Result Counted StoreFault} → IsApart it → IsItemApplied day it result old new
      → IsAppliedBeside day it result old known new known
  item-apart {it} {result} apart a = record {
    step = λ served stood. a.step served stood.0;
    err = λ served stood. a.err served stood.0;
    kept = kept-beside known known (λ served stood right. agrees-still known old.firm new.firm (lines-still day it result old.firm new.firm apart (a.step served stood) (a.err served stood)) right) a.kept;
    crash = λ sure stood. a.crash sure stood.0;
  }

  -- an item that is written by what is known, with no read
  pub beside-written : {T : Type 0} {done : T} {change : FirmChange} (it : Item) (k : Counted) → IsWrite change (Ok done) old new
      → ((f : Firm) → (after change f).firm_lines ≡ f.firm_lines)
      → (AgreesWith known old.firm → (k ≡ counted_of day old.firm it) × (after change old.firm ≡ after_item day old.firm it))
      → IsAppliedBeside day it (Ok k) old known new known
  beside-written it k write leaves_lines tells =
      grind (arith, ints, nat_tests, kept-beside, agrees-still, write-kept, leave-as, write-leaves)

  pub beside-unwritten : {T : Type 0} {change : FirmChange} (it : Item) (k : Counted) (fault : StoreFault) → IsWrite {T = T} change (Err fault) old new
      → (AgreesWith known old.firm → (k ≡ counted_of day old.firm it) × (after change old.firm ≡ after_item day old.firm it))
      → IsAppliedBeside day it (Err fault) old known new known
  beside-unwritten it k fault write tells =
      grind (arith, ints, nat_tests, kept-beside, agrees-still, write-kept, leave-failed, write-leaves)

  -- nothing was read
  pub beside-unread : {T : Type 0} (it : Item) (fault : StoreFault) → IsRead {T = T} (Err fault) old new
      → IsAppliedBeside day it (Err fault) old known new known
  beside-unread it fault read =
      grind (arith, ints, nat_tests, kept-beside, agrees-still, read-kept, leave-failed, read-leaves)

-- A line of the firm's own.

-- the verdict of a ledger that agrees is one that the book takes
fits : (day : ℕ) (line : Line) (lines : List FirmLine) (f : Firm) (v : Verdict) → v ≡ firm_verdict lines line day → lines ≡ f.firm_lines → IsFirmVerdict f line v
fits day line lines f v is same = (day, is ∙ ap (λ (ls : List FirmLine). firm_verdict ls line day) same)

module _ (day : ℕ) (line : Line) (lines : List FirmLine) where
  -- a line that is written by the ledger that is known
  pub firm_line-written : {T : Type 0} {done : T} {old new : Seen} (v : Verdict) (k : Counted) (left : Option (List FirmLine)) → v ≡ firm_verdict lines line day → k ≡ counted_by v
      → IfSome left (λ ls. ls ≡ lines_after line v lines)
      → IsWriteIf (old.clean → IsFirmVerdict old.firm line v) (by_firm_line line v) (Ok done) old new
      → IsAppliedBeside day (item.OfFirm line) (Ok k) old (Some lines) new left
  firm_line-written {old} {new} v k left is count added w =
      let right = λ (same : lines ≡ old.firm.firm_lines). fit_write (λ (served : old.clean). fits day line lines old.firm v is same) w in
      let tells = λ (same : lines ≡ old.firm.firm_lines). agreed-tells day line lines old.firm v is same in
      grind (arith, ints, nat_tests, added-agrees, leave-as, write-leaves)

  pub firm_line-unwritten : {T : Type 0} {old new : Seen} (v : Verdict) (fault : StoreFault) → v ≡ firm_verdict lines line day
      → IsWriteIf {T = T} (old.clean → IsFirmVerdict old.firm line v) (by_firm_line line v) (Err fault) old new
      → IsAppliedBeside day (item.OfFirm line) (Err fault) old (Some lines) new None
  firm_line-unwritten {old} {new} v fault is w =
      grind (arith, ints, nat_tests, fit_write, agreed-tells, leave-failed, write-leaves)

  -- after the ledger was read
  pub beside-read : {it : Item} {result : Result Counted StoreFault} {old now new : Seen} {left : Option (List FirmLine)} → IsRead (Ok lines) old now
      → (now.clean → old.stands → lines ≡ old.firm.firm_lines)
      → IsAppliedBeside day it result now (Some lines) new left
      → IsAppliedBeside day it result old None new left
  beside-read {it} {result} {old} {now} {new} {left} read found a =
      grind (arith, ints, nat_tests, counted_of, after_item, kept-then, leave-then, read-leaves)
