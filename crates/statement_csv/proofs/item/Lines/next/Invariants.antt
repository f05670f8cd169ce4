use Rattle.statement_csv.proofs.Names.{IsSound, reading_of}
use Rattle.statement_csv.proofs.ReadingFacts.{Follows, to_come}
use Rattle.statement_csv.proofs.item.Lines.next.Given as goal

abbrev pub invariant-loop-self : goal.invariant-loop-self
invariant-loop-self g l = record {
  sound : IsSound g.K.Whole.bytes l.self-inside.stage l.self-inside.number l.self-inside.records;
  follows : Follows
      (reading_of l.initial.self-inside.stage l.initial.self-inside.number l.initial.self-inside.records)
      (reading_of l.self-inside.stage l.self-inside.number l.self-inside.records);
}

abbrev pub decreases-loop-self : goal.decreases-loop-self
decreases-loop-self g l = to_come l.self-inside.stage
