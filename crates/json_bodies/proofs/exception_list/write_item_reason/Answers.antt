use Rattle.std.proofs.Common.{◌≡◌, ◌≤◌, ◌++◌, None, arith, sym, subst}
use Rattle.json_bodies.specs.Json.{value_tokens}
use Rattle.trust_store.proofs.Named.{line-held}
use Rattle.firm_rows.specs.Firm.{of}
use Rattle.statement_csv.specs.declared.item.Item.{Item}
use Rattle.json_bodies.specs.Reasons.{item_reason, reason_value}
use Rattle.json_bodies.proofs.exception_list.write_item_reason.Goals as goal

pub returns-in_ok-write_matter_reason-in-OfMatter-clause-told :
    goal.returns-in_ok-write_matter_reason-in-OfMatter-clause-told
returns-in_ok-write_matter_reason-in-OfMatter-clause-told g c =
    λ clean stands ledger.
    let old = g.B.Book.seen c.args.book.now in
    let l = c.in-OfMatter.line in
    let rows = of l.matter old.firm in
    let found = c.in_ok-matter-in-OfMatter.ensures.found clean stands in
    let some : 1 ≤ l.entry = omega (arith, c.get.ensures.value) in
    let held = line-held rows l.entry None c.in_ok-matter-in-OfMatter.matter some found in
    let wrote = c.in_ok-write_matter_reason-in-OfMatter.ensures.tokens held rows ((old.sound stands).matters l.matter) found.is_part in
    subst (λ (it : Item). c.write_matter_reason.new.out.tokens ≡ c.args.out.now.tokens ++ value_tokens (reason_value (item_reason c.args.today old.firm it))) (sym c.in-OfMatter.is) wrote
