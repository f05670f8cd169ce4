use Rattle.trust_desk.proofs.Names.{refl, rules}
use Rattle.statement_csv.specs.declared.item.ReadFault.TheVariants as fault
use Rattle.trust_desk.specs.declared.importing.ImportStop.TheVariants as stop
use Rattle.trust_desk.proofs.ItemsRead.{ended-here, more-so_far, none-so_far, unapplied-so_far, unread-so_far}
use Rattle.trust_desk.proofs.importing.import_whole.Goals as goal

pub loop-turn-init : goal.loop-turn-init
loop-turn-init g c = none-so_far c.of_whole-lines.result.left c.of_whole-lines.ensures.left

pub loop-turn-preserved : goal.loop-turn-preserved
loop-turn-preserved g c =
    more-so_far c.loop-turn.invariant c.in-Ok-Some.item c.in-Ok.counted (rw c.in-Ok-Some.field-0-is at c.in-Ok-Some.ensures.next) c.in-Ok.ensures c.count.ensures

pub returns-in-Ok-None : goal.returns-in-Ok-None
returns-in-Ok-None g c =
    let next = rw c.in-Ok-None.field-0-is at c.in-Ok-None.ensures.next in
    ended-here c.loop-turn.invariant c.next.new.self.left (record { reply = c.loop-turn.reply; end = stop.Done }) refl
    (λ stood. (g.B.Book.seen c.args.book.now).sound stood) (λ n. refl) tt (λ done. next) (λ is. absurd (cc)) (λ is. absurd (cc))
    (λ done. c.next.ensures.within (search rules))

pub returns-in-Err : goal.returns-in-Err
returns-in-Err g c =
    rw c.stop_at-end.ensures
    (unread-so_far c.loop-turn.invariant c.in-Err.fault (λ stood. (g.B.Book.seen c.args.book.now).sound stood)
    (λ is. c.next.ensures.header (search rules)) (λ is. c.next.ensures.limit (search rules)))

pub returns-in-Err-apply_item : goal.returns-in-Err-apply_item
returns-in-Err-apply_item g c =
    rw c.into.ensures
    (unapplied-so_far c.loop-turn.invariant c.next.new.self.left c.in-Ok-Some.item c.in-Err-apply_item.fault
    (λ stood. (g.B.Book.seen c.args.book.now).sound stood) (rw c.in-Ok-Some.field-0-is at c.in-Ok-Some.ensures.next) c.in-Err-apply_item.ensures)

pub returns : goal.returns
returns g c =
    unread-so_far c.loop-turn.invariant fault.Memory (λ stood. (g.B.Book.seen c.args.book.now).sound stood) (λ is. absurd (cc)) (λ is. absurd (cc))
