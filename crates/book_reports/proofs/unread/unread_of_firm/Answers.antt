use Rattle.book_reports.proofs.ReadCalls.{reads_of_read, reads_then}
use Rattle.book_reports.proofs.unread.unread_of_firm.Goals as goal

-- each list is read behind the one before
pub returns-in_err-is_answered-6-clause-reads : goal.returns-in_err-is_answered-6-clause-reads
returns-in_err-is_answered-6-clause-reads g c =
    reads_then (reads_of_read c.each_movement.ensures.read)
    (reads_then (reads_of_read c.each_firm_line.ensures.read)
    (reads_then (reads_of_read c.each_exception.ensures.read)
    (reads_then (reads_of_read c.each_balance.ensures.read)
    (reads_then (reads_of_read c.each_act.ensures.read) (reads_of_read c.each_dismissal.ensures.read)))))

pub returns-clause-reads : goal.returns-clause-reads
returns-clause-reads g c =
    reads_then (reads_of_read c.each_movement.ensures.read)
    (reads_then (reads_of_read c.each_firm_line.ensures.read)
    (reads_then (reads_of_read c.each_exception.ensures.read)
    (reads_then (reads_of_read c.each_balance.ensures.read)
    (reads_then (reads_of_read c.each_act.ensures.read) (reads_of_read c.each_dismissal.ensures.read)))))

pub returns-clause-refused : goal.returns-clause-refused
returns-clause-refused g c =
    (reads_then (reads_of_read c.each_movement.ensures.read)
    (reads_then (reads_of_read c.each_firm_line.ensures.read)
    (reads_then (reads_of_read c.each_exception.ensures.read)
    (reads_then (reads_of_read c.each_balance.ensures.read)
    (reads_then (reads_of_read c.each_act.ensures.read) (reads_of_read c.each_dismissal.ensures.read)))))).counts
