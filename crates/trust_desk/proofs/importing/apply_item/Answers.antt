use Rattle.trust_desk.proofs.Names.{◌∙◌, arith, Err, Ok, subst, sym, err_from_is_err_and, LineDecides, Firm, of, counted_verdict, ints, nat_tests}
use Rattle.statement_csv.specs.declared.item.Item.TheVariants.{OfMatter}
use Rattle.trust_desk.proofs.Beside.{beside-unread, beside-unwritten, beside-written, item-apart}
use Rattle.trust_desk.proofs.ItemsApplied.{decision-uncounted, line-decided, item-undecided, item-unwritten, item-written, verdict-tells}
use Rattle.trust_desk.proofs.importing.apply_item.Goals as goal

pub write_line-requires : goal.write_line-requires
write_line-requires g c =
    λ clean stands.
    let B = g.B.Book in
    let old = c.args.book.now in
    let l = c.in-OfMatter.line in
    let found = c.in_ok-matter-in-OfMatter.ensures in
    let stood = found.read.stood clean stands in
    let F : Firm → Type 0 = λ f. LineDecides (of l.matter f) l c.args.day (Ok c.in_ok-verdict-in-OfMatter.verdict) in
    (c.args.day, subst F (sym (found.read.same clean stood)) (line-decided (of l.matter (B.seen old).firm) l c.args.day c.in_ok-matter-in-OfMatter.matter (Ok c.in_ok-verdict-in-OfMatter.verdict) (omega (arith, c.get.ensures.value)) (((B.seen old).sound stood).matters l.matter) (found.found clean stood) c.in_ok-verdict-in-OfMatter.ensures.decided))

pub returns-in_err-matter-in-OfMatter : goal.returns-in_err-matter-in-OfMatter
returns-in_err-matter-in-OfMatter g c = grind (arith, ints, nat_tests, err_from_is_err_and, beside-unread)

pub returns-in_err-verdict-in-OfMatter : goal.returns-in_err-verdict-in-OfMatter
returns-in_err-verdict-in-OfMatter g c =
    let B = g.B.Book in
    let old = c.args.book.now in
    let l = c.in-OfMatter.line in
    let rows = of l.matter (B.seen old).firm in
    let fault = c.in_err-verdict-in-OfMatter.field-0.0 in
    let found = c.in_ok-matter-in-OfMatter.ensures in
    let none = λ (sure : (B.seen c.matter_for.new.self).sure) (stands : (B.seen old).clean → (B.seen old).stands).
    let clean = found.read.serves sure in
    let stood = stands (found.read.was_clean clean) in
    decision-uncounted rows l c.args.day fault (B.seen old).refusals (line-decided rows l c.args.day c.in_ok-matter-in-OfMatter.matter (Err fault) (omega (arith, c.get.ensures.value)) (((B.seen old).sound stood).matters l.matter) (found.found clean stood) c.in_err-verdict-in-OfMatter.ensures.decided) in
    grind (arith, ints, nat_tests, err_from_is_err_and, item-apart, item-undecided)

pub returns-in_err-write_line-in-OfMatter : goal.returns-in_err-write_line-in-OfMatter
returns-in_err-write_line-in-OfMatter g c =
    let B = g.B.Book in
    let old = c.args.book.now in
    let l = c.in-OfMatter.line in
    let v = c.in_ok-verdict-in-OfMatter.verdict in
    let found = c.in_ok-matter-in-OfMatter.ensures in
    let p = err_from_is_err_and c.from_residual-in_err-write_line-in-OfMatter.result c.from_residual-in_err-write_line-in-OfMatter.ensures.1 in
    rw (p.1, p.2, c.in-OfMatter.is)
    (item-apart c.args.own.now tt
    (item-unwritten c.args.day (OfMatter l) (counted_verdict v) c.in_err-write_line-in-OfMatter.field-0.0 found.read c.in_err-write_line-in-OfMatter.ensures.written
    (λ served stood. verdict-tells c.args.day (B.seen old).firm l v (line-decided (of l.matter (B.seen old).firm) l c.args.day c.in_ok-matter-in-OfMatter.matter (Ok c.in_ok-verdict-in-OfMatter.verdict) (omega (arith, c.get.ensures.value)) (((B.seen old).sound stood).matters l.matter) (found.found served stood) c.in_ok-verdict-in-OfMatter.ensures.decided))))

pub returns-in_ok-write_line-in-OfMatter : goal.returns-in_ok-write_line-in-OfMatter
returns-in_ok-write_line-in-OfMatter g c =
    let B = g.B.Book in
    let old = c.args.book.now in
    let l = c.in-OfMatter.line in
    let found = c.in_ok-matter-in-OfMatter.ensures in
    rw c.in-OfMatter.is
    (item-apart c.args.own.now tt
    (item-written c.args.day (OfMatter l) c.counted_line.result found.read c.in_ok-write_line-in-OfMatter.ensures.written
    (λ served stood.
    let told = verdict-tells c.args.day (B.seen old).firm l c.in_ok-verdict-in-OfMatter.verdict (line-decided (of l.matter (B.seen old).firm) l c.args.day c.in_ok-matter-in-OfMatter.matter (Ok c.in_ok-verdict-in-OfMatter.verdict) (omega (arith, c.get.ensures.value)) (((B.seen old).sound stood).matters l.matter) (found.found served stood) c.in_ok-verdict-in-OfMatter.ensures.decided) in
    (c.counted_line.ensures ∙ told.0, told.1))))

pub returns-in-Opening : goal.returns-in-Opening
returns-in-Opening g c = rw c.in-Opening.is (item-apart c.args.own.now tt c.apply_balance.ensures)

pub returns-in-Closing : goal.returns-in-Closing
returns-in-Closing g c = rw c.in-Closing.is (item-apart c.args.own.now tt c.apply_balance-in-Closing.ensures)

pub returns-in_ok-write_stray-in-Stray : goal.returns-in_ok-write_stray-in-Stray
returns-in_ok-write_stray-in-Stray g c = grind (arith, ints, nat_tests, beside-written)

pub returns-in_err-write_stray-in-Stray : goal.returns-in_err-write_stray-in-Stray
returns-in_err-write_stray-in-Stray g c = grind (arith, ints, nat_tests, err_from_is_err_and, beside-unwritten)
