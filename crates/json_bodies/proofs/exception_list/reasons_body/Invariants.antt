use Rattle.std.proofs.Common.{Ok, Result, [], codes, drop, ◌++◌, ◌≡◌}
use Rattle.trust_base.specs.declared.refusal.StoreFault.{StoreFault}
use Rattle.trust_store.specs.Calls.{IsRead}
use Rattle.json_bodies.proofs.Tokens.{front}
use Rattle.json_bodies.proofs.Decided.{reasons_rest}
use Rattle.json_bodies.proofs.exception_list.reasons_body.Given as goal

-- so far the book was only read, and the exceptions up to here are written
abbrev pub invariant-each : goal.invariant-each
invariant-each g l =
    let seen = g.B.Book.seen in
    let done : Result Unit StoreFault = Ok tt in
    let firm = (seen l.fn.book).firm in
    record {
      read : IsRead done (seen l.fn.book) (seen l.book);
      before : l.out.before ≡ [];
      ledger : (seen l.book).clean → (seen l.fn.book).stands → l.ledger-inside.lines.items ≡ firm.firm_lines;
      lines : (seen l.book).clean → (seen l.fn.book).stands → l.line-items ≡ firm.exceptions;
      told : (seen l.book).clean → (seen l.fn.book).stands
          → l.out.tokens ++ reasons_rest l.today firm (drop l.line-index l.line-items)
          ≡ front (codes "exceptions") ++ reasons_rest l.today firm l.line-items;
    }
