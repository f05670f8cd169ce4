use Rattle.statement_csv.proofs.Names.{◌≡◌, ◌∙◌, ◌+◌, sym, ap, true, false, refl, [], Some, None, fields_of, records_left, IsSound, Reading, left_in}
use Rattle.statement_csv.specs.declared.item.ReadFault.TheVariants as fault
use Rattle.statement_csv.specs.declared.item.Stage.TheVariants as stage
use Rattle.statement_csv.proofs.GivenFacts.{gives-within, is-read, stands-header, stands-item}
use Rattle.statement_csv.proofs.ReadingFacts.{gives-end, gives-follows, gives-item, header-left, lacks-follows, lacks-header}
use Rattle.statement_csv.proofs.item.Lines.next.Goals as goal
use Rattle.statement_csv.proofs.item.Lines.next.Goals.{in-Header, in-Items, in-Ok-true+else-is_header, in-Ok-true-2+in-Ok+in_default-checked_add, in-Ok-true-2+in-Err, in-Ok-false+else-not-awaits_header, in_default}

pub loop-self-preserved : goal.loop-self-preserved
loop-self-preserved g c =
    let old = c.loop-self.self-inside in
    let new = c.read_byte_record-read.new.self in
    let fields = fields_of c.read_byte_record-read.new.row in
    let here : old.stage ≡ stage.Header = elim c.match-self.branch [
      | in-Header w ↦ w.in-Header.is
      | in-Items w ↦ let is = w.awaits_header-is in let other = c.if-awaits_header.true in cc
    ] in
    let (live, stands) = rw here at c.loop-self.invariant.sound in
    let read = is-read g.K.Whole.bytes old.records new true fields live
    (rw (c.in-Ok-true.is, c.in-Ok-true.field-0-test) at c.read_byte_record-read.ensures.reads)
    (rw c.in-Ok-true.is at c.read_byte_record-read.ensures.ready)
    (rw c.get_ref.ensures at c.has_ended-ended.ensures.held) in
    let header = sym c.if-is_header.ensures in
    let follows = rw here at c.loop-self.invariant.follows in
    record {
      sound = (read.live, stands-header g.K.Whole.bytes old.number old.records new fields header (read.more refl) stands);
      follows = record {
        fault = follows.fault;
        ended = follows.ended;
        left = λ left is. header-left old.number (records_left old.records) (records_left new) fields left read.gives
            header (follows.left left is);
      };
    }

pub invariant_of-self-in-Some : goal.invariant_of-self-in-Some
invariant_of-self-in-Some g c =
    let old = c.loop-self.self-inside in
    let new = c.read_byte_record-read.new.self in
    let fields = fields_of c.read_byte_record-read.new.row in
    let here : old.stage ≡ stage.Items = elim c.match-self.branch [
      | in-Header w ↦ let is = w.awaits_header-is in let other = c.if-awaits_header.false in cc
      | in-Items w ↦ w.in-Items.is
    ] in
    let (live, stands) = rw here at c.loop-self.invariant.sound in
    let read = is-read g.K.Whole.bytes old.records new true fields live
    (rw (c.in-Ok-true.is, c.in-Ok-true.field-0-test) at c.read_byte_record-read.ensures.reads)
    (rw c.in-Ok-true.is at c.read_byte_record-read.ensures.ready)
    (rw c.get_ref.ensures at c.has_ended-ended.ensures.held) in
    let sound : IsSound g.K.Whole.bytes old.stage c.in-Some.number new = rw (here, c.in-Some.ensures.1)
    (read.live, stands-item g.K.Whole.bytes old.number old.records new fields (read.more refl) stands) in
    sound

pub returns-in-Some-clause-next : goal.returns-in-Some-clause-next
returns-in-Some-clause-next g c =
    let old = c.loop-self.self-inside in
    let new = c.read_byte_record-read.new.self in
    let fields = fields_of c.read_byte_record-read.new.row in
    let here : old.stage ≡ stage.Items = elim c.match-self.branch [
      | in-Header w ↦ let is = w.awaits_header-is in let other = c.if-awaits_header.false in cc
      | in-Items w ↦ w.in-Items.is
    ] in
    let (live, stands) = rw here at c.loop-self.invariant.sound in
    let read = is-read g.K.Whole.bytes old.records new true fields live
    (rw (c.in-Ok-true.is, c.in-Ok-true.field-0-test) at c.read_byte_record-read.ensures.reads)
    (rw c.in-Ok-true.is at c.read_byte_record-read.ensures.ready)
    (rw c.get_ref.ensures at c.has_ended-ended.ensures.held) in
    gives-follows c.args.self.now.left (left_in old.stage old.number (records_left old.records))
    (left_in old.stage c.in-Some.number (records_left new)) (Some c.in-Ok.item)
    (λ left is. c.loop-self.invariant.follows.left left (ap (λ (r : Reading). r.left) c.self.view_is ∙ is))
    (rw (here, c.in-Some.ensures.1, c.in-Ok.ensures)
    (gives-item old.number (records_left old.records) (records_left new) fields read.gives))

pub returns-in-Some-clause-front : goal.returns-in-Some-clause-front
returns-in-Some-clause-front g c = λ found.
    let old = c.loop-self.self-inside in
    let new = c.read_byte_record-read.new.self in
    let fields = fields_of c.read_byte_record-read.new.row in
    let here : old.stage ≡ stage.Items = elim c.match-self.branch [
      | in-Header w ↦ let is = w.awaits_header-is in let other = c.if-awaits_header.false in cc
      | in-Items w ↦ w.in-Items.is
    ] in
    let (live, stands) = rw here at c.loop-self.invariant.sound in
    let read = is-read g.K.Whole.bytes old.records new true fields live
    (rw (c.in-Ok-true.is, c.in-Ok-true.field-0-test) at c.read_byte_record-read.ensures.reads)
    (rw c.in-Ok-true.is at c.read_byte_record-read.ensures.ready)
    (rw c.get_ref.ensures at c.has_ended-ended.ensures.held) in
    rw (here, c.in-Some.ensures.1) (gives-within g.K.Whole.bytes (old.number + 1) new
    (stands-item g.K.Whole.bytes old.number old.records new fields (read.more refl) stands))

pub returns-then-not-awaits_header-clause-next : goal.returns-then-not-awaits_header-clause-next
returns-then-not-awaits_header-clause-next g c =
    let old = c.loop-self.self-inside in
    let new = c.read_byte_record-read.new.self in
    let fields = fields_of c.read_byte_record-read.new.row in
    let here : old.stage ≡ stage.Items = elim c.match-self.branch [
      | in-Header w ↦ let is = w.awaits_header-is in let other = c.if-not-awaits_header.true in cc
      | in-Items w ↦ w.in-Items.is
    ] in
    let (live, stands) = rw here at c.loop-self.invariant.sound in
    let read = is-read g.K.Whole.bytes old.records new false fields live
    (rw (c.in-Ok-false.is, c.in-Ok-false.field-0-test) at c.read_byte_record-read.ensures.reads)
    (rw c.in-Ok-false.is at c.read_byte_record-read.ensures.ready)
    (rw c.get_ref.ensures at c.has_ended-ended.ensures.held) in
    gives-follows c.args.self.now.left (left_in old.stage old.number (records_left old.records)) (Some (Some [])) None
    (λ left is. c.loop-self.invariant.follows.left left (ap (λ (r : Reading). r.left) c.self.view_is ∙ is))
    (rw here (gives-end old.number (records_left old.records) (records_left new) (Some (Some [])) fields read.gives))

pub returns-in-loop-self-clause-header : goal.returns-in-loop-self-clause-header
returns-in-loop-self-clause-header g c = λ bad.
    let old = c.loop-self.self-inside in
    let new = c.read_byte_record-read.new.self in
    let fields = fields_of c.read_byte_record-read.new.row in
    let same : c.match-read.fault ≡ fault.BadHeader = cc in
    let header : c.match-self.awaits_header ≡ true → old.stage ≡ stage.Header = λ yes. elim c.match-self.branch [
      | in-Header w ↦ w.in-Header.is
      | in-Items w ↦ let no = w.awaits_header-is in cc
    ] in
    lacks-follows c.args.self.now.left (left_in old.stage old.number (records_left old.records))
    (λ left is. c.loop-self.invariant.follows.left left (ap (λ (r : Reading). r.left) c.self.view_is ∙ is))
    (elim c.match-read.branch [
      | in-Ok-true+else-is_header w ↦
          let here = header w.if-awaits_header.true in
          let live = (rw here at c.loop-self.invariant.sound).0 in
          let read = is-read g.K.Whole.bytes old.records new true fields live
          (rw (w.in-Ok-true.is, w.in-Ok-true.field-0-test) at c.read_byte_record-read.ensures.reads)
          (rw w.in-Ok-true.is at c.read_byte_record-read.ensures.ready)
          (rw c.get_ref.ensures at c.has_ended-ended.ensures.held) in
          rw here (lacks-header old.number (records_left old.records) (records_left new) true fields read.gives
          (λ yes. sym w.if-is_header.ensures))
      | in-Ok-true-2+in-Ok+in_default-checked_add w ↦ let is = w.fault-is in cc
      | in-Ok-true-2+in-Err w ↦ absurd (w.cause.ensures.header (sym w.fault-is ∙ same))
      | in-Ok-false+else-not-awaits_header w ↦
          let here = header w.if-not-awaits_header.false in
          let live = (rw here at c.loop-self.invariant.sound).0 in
          let read = is-read g.K.Whole.bytes old.records new false fields live
          (rw (w.in-Ok-false.is, w.in-Ok-false.field-0-test) at c.read_byte_record-read.ensures.reads)
          (rw w.in-Ok-false.is at c.read_byte_record-read.ensures.ready)
          (rw c.get_ref.ensures at c.has_ended-ended.ensures.held) in
          rw here (lacks-header old.number (records_left old.records) (records_left new) false fields read.gives (λ yes. cc))
      | in_default w ↦ absurd (w.cause-fault.ensures.header (sym w.fault-is ∙ same))
    ])
