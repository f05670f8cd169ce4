use Rattle.std.proofs.Common.{Ok, Result, [], codes, drop, ◌++◌, ◌≡◌}
use Rattle.trust_base.specs.declared.refusal.StoreFault.{StoreFault}
use Rattle.firm_rows.specs.Firm.{opened_matters}
use Rattle.trust_store.specs.Calls.{IsRead}
use Rattle.json_bodies.proofs.Tokens.{front, waiting_rest}
use Rattle.json_bodies.proofs.lists.waiting_body.Given as goal

-- so far the book was only read, and what waits in the matters up to here is written if they are shown
abbrev pub invariant-each : goal.invariant-each
invariant-each g l =
    let seen = g.B.Book.seen in
    let done : Result Unit StoreFault = Ok tt in
    let firm = (seen l.fn.book).firm in
    record {
      read : IsRead done (seen l.fn.book) (seen l.book);
      before : l.out.before ≡ [];
      opened : (seen l.book).clean → (seen l.fn.book).stands → l.number-items ≡ opened_matters firm;
      told : (seen l.book).clean → (seen l.fn.book).stands
          → l.out.tokens ++ waiting_rest l.caller firm (drop l.number-index l.number-items)
          ≡ front (codes "waiting") ++ waiting_rest l.caller firm l.number-items;
    }
