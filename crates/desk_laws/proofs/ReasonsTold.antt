-- What an import would do with a line, by its reason.
use Rattle.desk_laws.proofs.Names.{◌≡◌, ℕ, List, Option, refl, arith, ints, nat_tests}
use Rattle.std.specs.Prelude.{ℤ}
use Rattle.trust_base.specs.declared.line.Line.{Line}
use Rattle.matter_rows.specs.declared.entry.Entry.{Entry}
use Rattle.trust_matter.specs.declared.line_verdict.LineEffect.{LineEffect}
use Rattle.trust_matter.specs.declared.line_verdict.LineEffect.TheVariants as told
use Rattle.trust_matter.specs.declared.line_verdict.Reason.TheVariants as unmatched
use Rattle.trust_matter.specs.LineStep.{line_on}
use Rattle.matter_rows.specs.Rows.{entry_at}
use Rattle.matter_rows.specs.Balances.{available}
use Rattle.firm_rows.specs.declared.ledger.BalanceKind.TheVariants as kind
use Rattle.firm_rows.specs.declared.ledger.FirmLine.{FirmLine}
use Rattle.firm_rows.specs.Firm.{of}
use Rattle.firm_rows.specs.FirmLines.{balance_verdict, firm_verdict, kept_balance}
use Rattle.statement_csv.specs.declared.item.Item.TheVariants as item
use Rattle.json_bodies.specs.Reasons.{balance_reason, effect_reason, own_reason, verdict_for}
use Rattle.trust_desk.specs.ItemStep.{counted_as, counted_by}
use Rattle.desk_laws.specs.ReasonsTold.{ReasonsAreVerdicts}

effect-counted : (e : Option Entry) (free : ℤ) (effect : LineEffect) → counted_as effect ≡ counted_by (verdict_for (effect_reason e free effect))
effect-counted e free (told.Applied d) = refl
effect-counted e free told.Repeat = refl
effect-counted e free (told.Unmatched unmatched.Future) = refl
effect-counted e free (told.Unmatched unmatched.NoMatter) = refl
effect-counted e free (told.Unmatched unmatched.NoEntry) = refl
effect-counted e free (told.Unmatched unmatched.WrongKind) = refl
effect-counted e free (told.Unmatched unmatched.WrongState) = refl
effect-counted e free (told.Unmatched unmatched.WrongAmount) = refl
effect-counted e free (told.Unmatched unmatched.Uncovered) = refl

own-verdict : (lines : List FirmLine) (line : Line) (day : ℕ) → firm_verdict lines line day ≡ verdict_for (own_reason lines line day)
own-verdict lines line day = grind (arith, ints, nat_tests)

balance-verdict : (kept : Option ℤ) (line : Line) (day : ℕ) → balance_verdict kept line day ≡ verdict_for (balance_reason kept line day)
balance-verdict kept line day = grind (arith, ints, nat_tests)

pub reasons-verdicts : ReasonsAreVerdicts
reasons-verdicts day firm (item.Opening line) is = λ i. counted_by (balance-verdict (kept_balance kind.Opening line.date firm.balances) line day i)
reasons-verdicts day firm (item.Closing line) is = λ i. counted_by (balance-verdict (kept_balance kind.Closing line.date firm.balances) line day i)
reasons-verdicts day firm (item.OfMatter l) is =
    let rows = of l.matter firm in effect-counted (entry_at rows.entries l.entry) (available rows.entries) (line_on rows l day)
reasons-verdicts day firm (item.OfFirm line) is = λ i. counted_by (own-verdict firm.firm_lines line day i)
reasons-verdicts day firm (item.Stray line) is = refl
reasons-verdicts day firm (item.Unreadable number) is = absurd (cc)
