use Rattle.sql_reads.proofs.Names.{rules, ◌≡◌, pos, IsOk, refl, sym, subst, to_z, w64, state, lists_in, AreCounted, entry_rows, seat_rows, leaves_on, leaves_then, entries_read_selects, seats_read_selects}
use Rattle.firm_rows.proofs.Handed.{begun}
use Rattle.sql_reads.proofs.Calls.{kept_by}
use Rattle.sql_reads.proofs.Going.{goes_from, left_at_err}
use Rattle.sql_reads.proofs.MatterRows.{counted, counted_err, entries_fed, entries_stopped, seats_fed, seats_stopped}
use Rattle.sql_reads.proofs.matter.hand_matter.Goals as goal

pub hand_rows-requires-clause-select : goal.hand_rows-requires-clause-select
hand_rows-requires-clause-select g c = seats_read_selects

pub hand_rows-requires-2-clause-select : goal.hand_rows-requires-2-clause-select
hand_rows-requires-2-clause-select g c = entries_read_selects

pub returns-in_err-matter_row-clause-handed : goal.returns-in_err-matter_row-clause-handed
returns-in_err-matter_row-clause-handed g c l clean stands =
    let a = lists_in l (state g.S.Store c.args.conn.now).now.trees in
    rw c.in_err-matter_row.ensures.err (counted_err _ _ (seat_rows a c.args.matter) (entry_rows a c.args.matter) _ _ c.from_residual.ensures.0 (_, begun _ _ _))

pub returns-in_err-matter_row-clause-left : goal.returns-in_err-matter_row-clause-left
returns-in_err-matter_row-clause-left g c = left_at_err _ _ _ _ c.from_residual.ensures.0 (goes_from _).left

pub returns-in_err-seats-clause-handed : goal.returns-in_err-seats-clause-handed
returns-in_err-seats-clause-handed g c l clean stands =
    let a = lists_in l (state g.S.Store c.args.conn.now).now.trees in
    let own : to_z w64 c.get.result ≡ pos c.args.matter = search rules in
    let seats = seats_fed _ l _ stands _ _ refl _ _ own _ _ _ (c.hand_rows.ensures.handed clean) in
    counted_err _ _ (seat_rows a c.args.matter) (entry_rows a c.args.matter) _ _ c.from_residual-in_err-seats.ensures.0
    (seats_stopped _ _ (seat_rows a c.args.matter) (entry_rows a c.args.matter) _ _ c.in_ok-matter_row.ensures.ok _ seats.some)

pub returns-in_err-entries-clause-handed : goal.returns-in_err-entries-clause-handed
returns-in_err-entries-clause-handed g c l clean stands =
    let a = lists_in l (state g.S.Store c.args.conn.now).now.trees in
    let own : to_z w64 c.get.result ≡ pos c.args.matter = search rules in
    let clean1 = c.hand_rows-2.ensures.left.was_clean clean in
    let now = (kept_by _ _ _ _ c.in_ok-seats.was c.hand_rows.ensures.left clean1).now in
    let seats : AreCounted g.K.MatterRowSink.taken
    (seat_rows a c.args.matter) c.hand_rows.result
    c.matter_row.new.self c.hand_rows.new.sink =
    seats_fed _ l _ stands _ _ refl _ _ own _ _ _ (c.hand_rows.ensures.handed clean1) in
    let seats = rw c.in_ok-seats.was at seats in
    let entries : AreCounted g.K.MatterRowSink.taken
    (entry_rows a c.args.matter) c.hand_rows-2.result
    c.hand_rows.new.sink c.hand_rows-2.new.sink =
    entries_fed _ l _ stands _ _ now _ _ own _ _ _ (c.hand_rows-2.ensures.handed clean) in
    counted_err _ _ (seat_rows a c.args.matter) (entry_rows a c.args.matter) _ _ c.from_residual-in_err-entries.ensures.0
    (entries_stopped _ _ (seat_rows a c.args.matter) (entry_rows a c.args.matter) _ _ c.in_ok-matter_row.ensures.ok _ seats.all _ entries.some)

pub returns-clause-handed : goal.returns-clause-handed
returns-clause-handed g c l clean stands =
    let a = lists_in l (state g.S.Store c.args.conn.now).now.trees in
    let own : to_z w64 c.get.result ≡ pos c.args.matter = search rules in
    let clean1 = c.hand_rows-2.ensures.left.was_clean clean in
    let now = (kept_by _ _ _ _ c.in_ok-seats.was c.hand_rows.ensures.left clean1).now in
    let seats : AreCounted g.K.MatterRowSink.taken
    (seat_rows a c.args.matter) c.hand_rows.result
    c.matter_row.new.self c.hand_rows.new.sink =
    seats_fed _ l _ stands _ _ refl _ _ own _ _ _ (c.hand_rows.ensures.handed clean1) in
    let seats = rw c.in_ok-seats.was at seats in
    let entries : AreCounted g.K.MatterRowSink.taken
    (entry_rows a c.args.matter) c.hand_rows-2.result
    c.hand_rows.new.sink c.hand_rows-2.new.sink =
    entries_fed _ l _ stands _ _ now _ _ own _ _ _ (c.hand_rows-2.ensures.handed clean) in
    let entries = rw c.in_ok-entries.was at entries in
    counted _ _ (seat_rows a c.args.matter) (entry_rows a c.args.matter) _ _ c.in_ok-matter_row.ensures.ok _ seats.all _ entries.all _ _ seats.count entries.count _
    c.row_count.ensures

pub returns-clause-left : goal.returns-clause-left
returns-clause-left g c =
    leaves_on c.hand_rows-2.result _ _ _ (λ _. subst IsOk (sym c.in_ok-entries.was) refl)
    (leaves_then _ _ _ _ _ c.hand_rows.ensures.left c.hand_rows-2.ensures.left)
