use Rattle.cashier.proofs.Names.{ℕ, List, Option, [], Appends, Appends-nil, Output, Seen, IsWhole, LinesAreKept, SheetIsKept, SheetEnd}
use Rattle.std.proofs.Common.{inl}
use Rattle.desk_trail.proofs.KeptTrails.{unchanged}
use Rattle.cashier.proofs.SheetKept.{kept-large, kept-none, known-large, known-none, known-run}
use Rattle.cashier.proofs.SheetFacts.{ends-large, ends-run, ends-unread}
use Rattle.portal_http.specs.Output.{output_of}
use Rattle.cashier.proofs.sheet.run_sheet.Goals as goal

pub returns-in-Ok-Some-clause-ends : goal.returns-in-Ok-Some-clause-ends
returns-in-Ok-Some-clause-ends g c = λ clean stands. ends-run _ c.in-Ok-Some.bytes.items _ _ _ _ _ _ (rw c.in-Ok-Some.field-0-is at c.in-Ok-Some.ensures.bytes) (rw c.as_slice.ensures.value at (c.run_records.ensures.ends clean stands))

pub returns-in-Ok-None-clause-ends : goal.returns-in-Ok-None-clause-ends
returns-in-Ok-None-clause-ends g c = λ _ _. ends-large _ _ _ _ _ _ (rw c.in-Ok-None.field-0-is at c.in-Ok-None.ensures.bytes) (c.refuse_whole.ensures.ends _)

pub returns-in-Err-Memory-clause-ends : goal.returns-in-Err-Memory-clause-ends
returns-in-Err-Memory-clause-ends g c = λ _ _.
    ends-unread (g.R.Read.remaining c.args.reader.now) c.args.day (g.B.Book.seen c.args.desk.now).firm (g.W.Write.contents c.args.writer.now)

pub returns-in-Ok-Some-clause-crash : goal.returns-in-Ok-Some-clause-crash
returns-in-Ok-Some-clause-crash g c = λ sure clean stands.
    let B = g.B.Book in
    let W = g.W.Write in
    known-run _ c.in-Ok-Some.bytes.items
    (λ all. LinesAreKept c.args.day all (output_of W.contents c.args.writer.now c.run_records.new.writer) c.run_records.result (B.seen c.args.desk.now) (B.seen c.run_records.new.desk))
    (rw c.in-Ok-Some.field-0-is at c.in-Ok-Some.ensures.bytes) (rw c.as_slice.ensures.value at (c.run_records.ensures.crash sure clean stands))

pub returns-in-Ok-None-clause-crash : goal.returns-in-Ok-None-clause-crash
returns-in-Ok-None-clause-crash g c = λ sure clean stands.
    let B = g.B.Book in
    let W = g.W.Write in
    known-large _
    (λ all. LinesAreKept c.args.day all (output_of W.contents c.args.writer.now c.refuse_whole.new.writer) c.refuse_whole.result (B.seen c.args.desk.now) (B.seen c.args.desk.now))
    (rw c.in-Ok-None.field-0-is at c.in-Ok-None.ensures.bytes) (kept-large _ _ _ _ clean (c.refuse_whole.ensures.ends _))

-- no record was run
none-run : (known : Option (List ℕ)) (day : ℕ) (old : Seen) (output : Output) (ended : SheetEnd) → (IsWhole ended → ⊥) → Appends output.before output.after []
    → SheetIsKept day known output ended old old
none-run known day old output ended never nothing =
    known-none known (λ all. LinesAreKept day all output ended old old) (λ all. kept-none day all old output ended never nothing)

pub returns-in-Err-Reader-clause-crash : goal.returns-in-Err-Reader-clause-crash
returns-in-Err-Reader-clause-crash g c = λ sure clean stands. none-run _ _ _ _ _ (λ w. w) (Appends-nil _)

pub returns-in-Err-Memory-clause-crash : goal.returns-in-Err-Memory-clause-crash
returns-in-Err-Memory-clause-crash g c = λ sure clean stands. none-run _ _ _ _ _ (λ w. w) (Appends-nil _)

-- The trail.

pub returns-in-Ok-Some-clause-trail : goal.returns-in-Ok-Some-clause-trail
returns-in-Ok-Some-clause-trail g c = λ clean stands. c.run_records.ensures.trail clean stands

pub returns-in-Ok-Some-clause-left : goal.returns-in-Ok-Some-clause-left
returns-in-Ok-Some-clause-left g c = λ sure clean stands. c.run_records.ensures.left sure clean stands

pub returns-in-Ok-None-clause-trail : goal.returns-in-Ok-None-clause-trail
returns-in-Ok-None-clause-trail g c = λ clean stands. unchanged (g.B.Book.seen c.args.desk.now).firm

pub returns-in-Ok-None-clause-left : goal.returns-in-Ok-None-clause-left
returns-in-Ok-None-clause-left g c = λ sure clean stands found may. inl may

pub returns-in-Err-Reader-clause-trail : goal.returns-in-Err-Reader-clause-trail
returns-in-Err-Reader-clause-trail g c = λ clean stands. unchanged (g.B.Book.seen c.args.desk.now).firm

pub returns-in-Err-Reader-clause-left : goal.returns-in-Err-Reader-clause-left
returns-in-Err-Reader-clause-left g c = λ sure clean stands found may. inl may

pub returns-in-Err-Memory-clause-trail : goal.returns-in-Err-Memory-clause-trail
returns-in-Err-Memory-clause-trail g c = λ clean stands. unchanged (g.B.Book.seen c.args.desk.now).firm

pub returns-in-Err-Memory-clause-left : goal.returns-in-Err-Memory-clause-left
returns-in-Err-Memory-clause-left g c = λ sure clean stands found may. inl may
