use Rattle.sql_reads.proofs.Names.{◌≡◌, ◌+◌, rules, refl, ap, ◌∙◌, arith}
use Rattle.sql_reads.proofs.Readable.{all_rows, every_handed, next_read, next_told, some_handed}
use Rattle.sql_reads.proofs.lists.hand_readable.Goals as goal

pub each-preserved-in-Err-Store : goal.each-preserved-in-Err-Store
each-preserved-in-Err-Store g c =
    let counted : c.saturating_add-number.result ≡ c.each.row-index + 1 = search rules in (
      next_told g.K.RowSink.taken c.args.rows.now c.each.row-index c.row-item.result (search rules) c.row-item.is
          c.each.unread.items c.args.sink.now c.each.sink c.each.invariant.0 _ _ (record {
            numbered = counted;
            named = c.matter_named-matter.ensures;
            none = c.act_shown.ensures.none (search rules);
          }) c.in_ok-push-in-Err-Store.ensures.items,
      counted,
    )

pub each-preserved : goal.each-preserved
each-preserved g c =
    let counted : c.saturating_add-number.result ≡ c.each.row-index + 1 = search rules in (
      next_read g.K.RowSink.taken c.args.rows.now c.each.row-index c.row-item.result (search rules) c.row-item.is
          c.each.unread.items c.args.sink.now c.each.sink c.each.invariant.0 c.take.new.self
          (c.in_ok-take.ensures.ok ∙ ap (g.K.RowSink.taken c.each.sink) c.in-Ok.ensures.ok),
      counted,
    )

pub returns-in_err-push-in-Err-Store-clause-handed : goal.returns-in_err-push-in-Err-Store-clause-handed
returns-in_err-push-in-Err-Store-clause-handed g c xs is all =
    some_handed g.K.RowSink.taken c.args.rows.now xs is all c.each.unread.items c.args.sink.now c.each.sink
    c.each.row-index c.each.invariant.0 c.each.sink refl c.from_residual.result c.from_residual.ensures.0

pub returns-in-Err-Memory-clause-handed : goal.returns-in-Err-Memory-clause-handed
returns-in-Err-Memory-clause-handed g c xs is all =
    some_handed g.K.RowSink.taken c.args.rows.now xs is all c.each.unread.items c.args.sink.now c.each.sink
    c.each.row-index c.each.invariant.0 c.each.sink refl _ refl

pub returns-in_err-take-clause-handed : goal.returns-in_err-take-clause-handed
returns-in_err-take-clause-handed g c xs is all =
    some_handed g.K.RowSink.taken c.args.rows.now xs is all c.each.unread.items c.args.sink.now c.each.sink
    c.each.row-index c.each.invariant.0 c.take.new.self c.in_err-take.ensures.err c.from_residual-in_err-take.result
    c.from_residual-in_err-take.ensures.0

pub returns-clause-handed : goal.returns-clause-handed
returns-clause-handed g c xs is all =
    every_handed g.K.RowSink.taken c.args.rows.now xs is all c.each.unread.items c.args.sink.now c.each.sink
    c.each.unread (omega arith)
    (all_rows g.K.RowSink.taken c.args.rows.now c.each.row-index c.each.unread.items c.args.sink.now c.each.sink
    (omega arith) c.each.invariant.0)

pub returns-clause-read : goal.returns-clause-read
returns-clause-read g c =
    all_rows g.K.RowSink.taken c.args.rows.now c.each.row-index c.each.unread.items c.args.sink.now c.each.sink
    (omega arith) c.each.invariant.0
