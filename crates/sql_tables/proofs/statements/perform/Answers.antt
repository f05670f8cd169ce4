use Rattle.sql_tables.proofs.Names.{rules}
use Rattle.sql_tables.specs.declared.statements.SqlStatement.TheVariants as statement
use Rattle.sql_tables.proofs.ScriptLemmas.{performed}
use Rattle.sql_tables.proofs.statements.perform.Goals as goal

pub returns-in-Head-clause-ran : goal.returns-in-Head-clause-ran
returns-in-Head-clause-ran g c = performed (statement.Head c.in-Head.h) _ _ _ _ _ c.in-Head.is (search rules) c.execute.ensures.runs c.execute.ensures.survives

pub returns-in-Totals-clause-ran : goal.returns-in-Totals-clause-ran
returns-in-Totals-clause-ran g c = performed (statement.Totals c.in-Totals.t) _ _ _ _ _ c.in-Totals.is (search rules) c.execute-in-Totals.ensures.runs c.execute-in-Totals.ensures.survives

pub returns-in-Closed-clause-ran : goal.returns-in-Closed-clause-ran
returns-in-Closed-clause-ran g c = performed (statement.Closed c.in-Closed.c) _ _ _ _ _ c.in-Closed.is (search rules) c.execute-in-Closed.ensures.runs c.execute-in-Closed.ensures.survives

pub returns-in-Purged-clause-ran : goal.returns-in-Purged-clause-ran
returns-in-Purged-clause-ran g c = performed (statement.Purged c.in-Purged.p) _ _ _ _ _ c.in-Purged.is (search rules) c.execute-in-Purged.ensures.runs c.execute-in-Purged.ensures.survives

pub returns-in-Seat-clause-ran : goal.returns-in-Seat-clause-ran
returns-in-Seat-clause-ran g c = performed (statement.Seat c.in-Seat.s) _ _ _ _ _ c.in-Seat.is (search rules) c.execute-in-Seat.ensures.runs c.execute-in-Seat.ensures.survives

pub returns-in-SeatGone-clause-ran : goal.returns-in-SeatGone-clause-ran
returns-in-SeatGone-clause-ran g c = performed (statement.SeatGone c.in-SeatGone.s) _ _ _ _ _ c.in-SeatGone.is (search rules) c.execute-in-SeatGone.ensures.runs c.execute-in-SeatGone.ensures.survives

pub returns-in-Entry-clause-ran : goal.returns-in-Entry-clause-ran
returns-in-Entry-clause-ran g c = performed (statement.Entry c.in-Entry.e) _ _ _ _ _ c.in-Entry.is (search rules) c.execute-in-Entry.ensures.runs c.execute-in-Entry.ensures.survives

pub returns-in-Left-clause-ran : goal.returns-in-Left-clause-ran
returns-in-Left-clause-ran g c = performed (statement.Left c.in-Left.e) _ _ _ _ _ c.in-Left.is (search rules) c.execute-in-Left.ensures.runs c.execute-in-Left.ensures.survives

pub returns-in-Movement-clause-ran : goal.returns-in-Movement-clause-ran
returns-in-Movement-clause-ran g c = performed (statement.Movement c.in-Movement.m) _ _ _ _ _ c.in-Movement.is (search rules) c.execute-in-Movement.ensures.runs c.execute-in-Movement.ensures.survives

pub returns-in-FirmLine-clause-ran : goal.returns-in-FirmLine-clause-ran
returns-in-FirmLine-clause-ran g c = performed (statement.FirmLine c.in-FirmLine.f) _ _ _ _ _ c.in-FirmLine.is (search rules) c.execute-in-FirmLine.ensures.runs c.execute-in-FirmLine.ensures.survives

pub returns-in-Exception-clause-ran : goal.returns-in-Exception-clause-ran
returns-in-Exception-clause-ran g c = performed (statement.Exception c.in-Exception.e) _ _ _ _ _ c.in-Exception.is (search rules) c.execute-in-Exception.ensures.runs c.execute-in-Exception.ensures.survives

pub returns-in-ExceptionGone-clause-ran : goal.returns-in-ExceptionGone-clause-ran
returns-in-ExceptionGone-clause-ran g c = performed (statement.ExceptionGone c.in-ExceptionGone.e) _ _ _ _ _ c.in-ExceptionGone.is (search rules) c.execute-in-ExceptionGone.ensures.runs c.execute-in-ExceptionGone.ensures.survives

pub returns-in-Balance-clause-ran : goal.returns-in-Balance-clause-ran
returns-in-Balance-clause-ran g c = performed (statement.Balance c.in-Balance.b) _ _ _ _ _ c.in-Balance.is (search rules) c.execute-in-Balance.ensures.runs c.execute-in-Balance.ensures.survives

pub returns-in-SeatsGone-clause-ran : goal.returns-in-SeatsGone-clause-ran
returns-in-SeatsGone-clause-ran g c = performed (statement.SeatsGone c.in-SeatsGone.matter) _ _ _ _ _ c.in-SeatsGone.is (search rules) c.execute-in-SeatsGone.ensures.runs c.execute-in-SeatsGone.ensures.survives

pub returns-in-EntriesGone-clause-ran : goal.returns-in-EntriesGone-clause-ran
returns-in-EntriesGone-clause-ran g c = performed (statement.EntriesGone c.in-EntriesGone.matter) _ _ _ _ _ c.in-EntriesGone.is (search rules) c.execute-in-EntriesGone.ensures.runs c.execute-in-EntriesGone.ensures.survives

pub returns-in-MovementsGone-clause-ran : goal.returns-in-MovementsGone-clause-ran
returns-in-MovementsGone-clause-ran g c = performed (statement.MovementsGone c.in-MovementsGone.matter) _ _ _ _ _ c.in-MovementsGone.is (search rules) c.execute-in-MovementsGone.ensures.runs c.execute-in-MovementsGone.ensures.survives

pub returns-in-Act-clause-ran : goal.returns-in-Act-clause-ran
returns-in-Act-clause-ran g c = performed (statement.Act c.in-Act.a) _ _ _ _ _ c.in-Act.is (search rules) c.execute-in-Act.ensures.runs c.execute-in-Act.ensures.survives

pub returns-in-ActsGone-clause-ran : goal.returns-in-ActsGone-clause-ran
returns-in-ActsGone-clause-ran g c = performed (statement.ActsGone c.in-ActsGone.matter) _ _ _ _ _ c.in-ActsGone.is (search rules) c.execute-in-ActsGone.ensures.runs c.execute-in-ActsGone.ensures.survives
