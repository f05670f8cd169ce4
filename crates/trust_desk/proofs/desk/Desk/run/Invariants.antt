use Rattle.trust_desk.proofs.Names.{Counts, ◌≡◌, take, length, KeepsBook, AreNoFaults, AreNoFaultsButLast, IsMadeInRun, MayLeave, before_fault, heard, RunsSoundly, counted_replies}
use Rattle.trust_desk.proofs.MadeRows.{AreRun}
use Rattle.trust_desk.proofs.desk.Desk.run.Given as goal

-- the requests so far were answered
abbrev pub invariant-loop-request : goal.invariant-loop-request
invariant-loop-request g l =
    let B = g.B.Book in
    let firm = λ (b : _). (g.B.Book.seen b).firm in
    record {
      run : (B.seen l.self).clean → (B.seen l.fn.self).stands → RunsSoundly l.fn.day (firm l.fn.self) (heard (take l.request-index l.requests)) l.replies.items (firm l.self);
      long : length l.replies.items ≡ l.request-index;
      kept : KeepsBook (Counts (counted_replies l.replies.items)) (B.seen l.fn.self) (B.seen l.self);
      crash : (B.seen l.self).sure → (B.seen l.fn.self).clean → (B.seen l.fn.self).stands → AreNoFaultsButLast l.replies.items → MayLeave (AreNoFaults l.replies.items) (IsMadeInRun l.fn.day (firm l.fn.self) (heard (take l.request-index l.requests))) (firm l.fn.self) (firm l.self) (B.seen l.fn.self) (B.seen l.self);
      shut : (B.seen l.self).sure → (B.seen l.fn.self).clean → (B.seen l.fn.self).stands → AreRun l.fn.day (firm l.fn.self) l.requests (before_fault l.replies.items);
    }
