use Rattle.cashier.proofs.Names.{◌≡◌, ◌∙◌, ◌++◌, true, ℕ, List, [], ◌∷◌, Option, Some, Bor, refl, inl, inr, append_assoc, Appends-nil, Reached, ReadRecord, default_config, source_of, strip_bom, fields_of, rest_records}
use Rattle.csv.specs.declared.parser.State.{State}
use Rattle.csv.specs.declared.reader.Reader.{Reader}
use Rattle.csv.proofs.ReadFacts.{rows-end, rows-more}
use Rattle.byte_streams.proofs.CsvRecords.{rest-none, rest-reached}
use Rattle.desk_trail.proofs.KeptTrails.{onward, unchanged}
use Rattle.cashier.proofs.CallFacts.{book-alone, book-then}
use Rattle.cashier.proofs.TrailFacts.{left-then}
use Rattle.cashier.proofs.SheetKept.{going-more, kept-here, kept-stopped}
use Rattle.cashier.proofs.SheetFacts.{ended-whole, leaves-first, leaves-past, past-all, record-goes, record-stops}
use Rattle.cashier.proofs.sheet.run_records.Goals as goal

-- a slice's bytes are what is left of it
abbrev left_of : Bor (List ℕ) → Option (List ℕ)
left_of s = Some s.now

start : (s : State) (y : List ℕ) → Reached default_config s y [] s y
unfolding Reached
start s y = (refl, refl)

-- a record that was read is the first of those that were left
one-more : (a b : Reader (Bor (List ℕ))) (f : List (List ℕ)) (y : List ℕ) → a.config ≡ default_config → source_of left_of a ≡ Some y → ReadRecord left_of a b true f
    → (z : List ℕ) × (source_of left_of b ≡ Some z) × (rest_records a.state y ≡ f ∷ rest_records b.state z)
one-more a b f y config source read =
    let (z, at_z, reached) = rows-more left_of a b f default_config a.state y y [] config source (start a.state y) read in
    (z, at_z, rest-reached a.state b.state y z f reached)

pub loop-row-init : goal.loop-row-init
loop-row-init g c =
    let fr = c.from_reader-reader.ensures in
    let e = c.has_headers.ensures in
    let f = c.flexible.ensures in
    let start = c.into_iter-row-iterator.ensures.into_iter_gives in
    let rdr = c.into_byte_records-row-items.ensures.rdr in
    let left = c.into_byte_records-row-items.ensures.left in
    rw (start, rdr) (record {
      plain = rw (f, e) at fr.trim ∙ c.new.ensures.trim;
      ready = inr (inr (rw (f, e) at fr.has_headers, fr.headers));
      turns = left;
      config = rw (f, e) at fr.config ∙ c.new.ensures.config;
      kept = book-alone _;
      going = λ sure clean stands. (clean, λ alone. alone);
      trail = λ clean stands. unchanged (g.B.Book.seen c.args.desk.now).firm;
      stopped = λ sure clean stands found may. inl may;
      left = (strip_bom c.args.bytes.now, fr.source, λ _ _. ([], rw fr.state refl, Appends-nil _, refl, refl));
    })

-- the lines so far are whole
pub returns-in_default-clause-ends : goal.returns-in_default-clause-ends
returns-in_default-clause-ends g c = λ clean stands.
    let (y, source, so_far) = c.loop-row.invariant.left in
    let (past, parts, written, is, was) = so_far clean stands in
    inl (leaves-first _ _ _ _ past _ _ _ _ parts (written, is, was))

-- a record was read: what is left begins with it
pub returns-in-Err-clause-ends : goal.returns-in-Err-clause-ends
returns-in-Err-clause-ends g c = λ clean stands.
    let inv = c.loop-row.invariant in
    let (y, source, so_far) = inv.left in
    let s = rw (c.in-Some.is, c.in-Ok.is) at ((c.next.ensures.steps inv.turns inv.plain).0 inv.ready) in
    let (z, at_z, first) = one-more c.loop-row.row-iterator.rdr c.next.new.self.rdr (fields_of c.in-Ok.row) y inv.config source s.0 in
    let (past, parts, written, is, was) = so_far (c.run_record.ensures.kept.was_clean clean) stands in
    let stood = inv.kept.still_stands (c.run_record.ensures.kept.was_clean clean) stands in
    record-stops _ _ _ _ _ past _ _ _ _ _ _ _ _ parts first (written, is, was) (c.in-Err.ensures.ends clean stood)

pub loop-row-preserved : goal.loop-row-preserved
loop-row-preserved g c =
    let inv = c.loop-row.invariant in
    let (y, source, so_far) = inv.left in
    let s = rw (c.in-Some.is, c.in-Ok.is) at ((c.next.ensures.steps inv.turns inv.plain).0 inv.ready) in
    let (z, at_z, first) = one-more c.loop-row.row-iterator.rdr c.next.new.self.rdr (fields_of c.in-Ok.row) y inv.config source s.0 in
    record {
      plain = s.0.3 ∙ inv.plain;
      ready = inl s.1;
      turns = s.2;
      config = s.0.2 ∙ inv.config;
      kept = book-then inv.kept c.in-Ok-run_record.ensures.kept;
      going = λ sure clean stands.
          let so = inv.going (c.in-Ok-run_record.ensures.kept.was_sure sure) clean stands in
          going-more (g.B.Book.seen c.args.desk.now) (g.B.Book.seen c.loop-row.desk)
          (g.B.Book.seen c.run_record.new.desk) refl so (c.in-Ok-run_record.ensures.crash sure so.0 (inv.kept.still_stands so.0 stands));
      trail = λ clean stands.
          let was = c.in-Ok-run_record.ensures.kept.was_clean clean in
          onward (g.B.Book.seen c.args.desk.now).firm (g.B.Book.seen c.loop-row.desk).firm
          (g.B.Book.seen c.run_record.new.desk).firm (inv.trail was stands)
          (c.in-Ok-run_record.ensures.trail clean (inv.kept.still_stands was stands));
      stopped = λ sure clean stands.
          let was = c.in-Ok-run_record.ensures.kept.was_sure sure in
          let so = inv.going was clean stands in
          left-then (g.B.Book.seen c.args.desk.now) (g.B.Book.seen c.loop-row.desk) (g.B.Book.seen c.run_record.new.desk)
          (inv.stopped was clean stands) (inv.trail so.0 stands)
          (c.in-Ok-run_record.ensures.left sure so.0 (inv.kept.still_stands so.0 stands));
      left = (
        z,
        at_z,
        λ clean stands.
            let (past, parts, written, is, was) = so_far (c.run_record.ensures.kept.was_clean clean) stands in
            let stood = inv.kept.still_stands (c.run_record.ensures.kept.was_clean clean) stands in
            let more = record-goes _ _ _ _ past (fields_of c.in-Ok.row) _ _ _ _ _ (written, is, was) (c.in-Ok-run_record.ensures.ends clean stood) in
            (past ++ fields_of c.in-Ok.row ∷ [], append_assoc past (fields_of c.in-Ok.row ∷ []) _ ∙ rw first at parts, more.0, more.1, more.2),
      );
    }

-- all records were read
pub returns-clause-ends : goal.returns-clause-ends
returns-clause-ends g c = λ clean stands.
    let inv = c.loop-row.invariant in
    let (y, source, so_far) = inv.left in
    let (past, parts, written, is, was) = so_far clean stands in
    let s = rw c.in-None.is at ((c.next.ensures.steps inv.turns inv.plain).0 inv.ready) in
    let end = rows-end left_of c.loop-row.row-iterator.rdr c.next.new.self.rdr [] default_config y inv.config source s in
    let all = past-all _ past _ parts (rest-none c.loop-row.row-iterator.rdr.state y end) in
    rw (← all) (ended-whole _ _ _ past _ _ _ _ c.end_of_all.ensures (leaves-past _ _ _ past _ _ _ (written, is, was)) was)

-- What a crash leaves.

pub returns-in_default-clause-crash : goal.returns-in_default-clause-crash
returns-in_default-clause-crash g c = λ sure clean stands.
    let (y, source, so_far) = c.loop-row.invariant.left in
    let going = c.loop-row.invariant.going sure clean stands in
    let (past, parts, written, is, was) = so_far going.0 stands in
    kept-here _ _ past _ _ _ _ _ _ parts (λ w. absurd w) (written, is, was) going

pub returns-in-Err-clause-crash : goal.returns-in-Err-clause-crash
returns-in-Err-clause-crash g c = λ sure clean stands.
    let inv = c.loop-row.invariant in
    let (y, source, so_far) = inv.left in
    let s = rw (c.in-Some.is, c.in-Ok.is) at ((c.next.ensures.steps inv.turns inv.plain).0 inv.ready) in
    let (z, at_z, first) = one-more c.loop-row.row-iterator.rdr c.next.new.self.rdr (fields_of c.in-Ok.row) y inv.config source s.0 in
    let going = inv.going (c.run_record.ensures.kept.was_sure sure) clean stands in
    let (past, parts, written, is, was) = so_far going.0 stands in
    let stood = inv.kept.still_stands going.0 stands in
    kept-stopped _ _ past _ _ _ _ _ _ _ _ _ _ parts first (written, is, was) going (c.in-Err.ensures.crash sure going.0 stood) (c.in-Err.ensures.told sure going.0 stood)

pub returns-clause-crash : goal.returns-clause-crash
returns-clause-crash g c = λ sure clean stands.
    let inv = c.loop-row.invariant in
    let (y, source, so_far) = inv.left in
    let going = inv.going sure clean stands in
    let (past, parts, written, is, was) = so_far going.0 stands in
    let s = rw c.in-None.is at ((c.next.ensures.steps inv.turns inv.plain).0 inv.ready) in
    let end = rows-end left_of c.loop-row.row-iterator.rdr c.next.new.self.rdr [] default_config y inv.config source s in
    kept-here _ _ past _ _ _ _ _ _ parts (λ w. rest-none c.loop-row.row-iterator.rdr.state y end) (written, is, was) going

-- The trail.

pub returns-in_default-clause-trail : goal.returns-in_default-clause-trail
returns-in_default-clause-trail g c = λ clean stands. c.loop-row.invariant.trail clean stands

pub returns-in_default-clause-left : goal.returns-in_default-clause-left
returns-in_default-clause-left g c = λ sure clean stands. c.loop-row.invariant.stopped sure clean stands

pub returns-in-Err-clause-trail : goal.returns-in-Err-clause-trail
returns-in-Err-clause-trail g c = λ clean stands.
    let inv = c.loop-row.invariant in
    let was = c.run_record.ensures.kept.was_clean clean in
    onward (g.B.Book.seen c.args.desk.now).firm (g.B.Book.seen c.loop-row.desk).firm
    (g.B.Book.seen c.run_record.new.desk).firm (inv.trail was stands)
    (c.in-Err.ensures.trail clean (inv.kept.still_stands was stands))

pub returns-in-Err-clause-left : goal.returns-in-Err-clause-left
returns-in-Err-clause-left g c = λ sure clean stands.
    let inv = c.loop-row.invariant in
    let was = c.run_record.ensures.kept.was_sure sure in
    let so = inv.going was clean stands in
    left-then (g.B.Book.seen c.args.desk.now) (g.B.Book.seen c.loop-row.desk) (g.B.Book.seen c.run_record.new.desk)
    (inv.stopped was clean stands) (inv.trail so.0 stands)
    (c.in-Err.ensures.left sure so.0 (inv.kept.still_stands so.0 stands))

pub returns-clause-trail : goal.returns-clause-trail
returns-clause-trail g c = λ clean stands. c.loop-row.invariant.trail clean stands

pub returns-clause-left : goal.returns-clause-left
returns-clause-left g c = λ sure clean stands. c.loop-row.invariant.stopped sure clean stands
