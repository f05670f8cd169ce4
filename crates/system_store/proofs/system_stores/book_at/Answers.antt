use Rattle.std.proofs.Common.{inl, arith}
use Rattle.sqlite.specs.Files.{over_files}
use Rattle.system_store.proofs.Openings.{made_behind, found_in}
use Rattle.system_store.proofs.system_stores.book_at.Goals as goal

pub returns-in-Ok : goal.returns-in-Ok
returns-in-Ok g c = record {
  had = record {
    found = found_in _ _ c.in-Ok.book (λ sure. inl (c.in-Ok.ensures.taken sure)) (λ sure. omega (arith, c.in-Ok.ensures.crash.clean, sure))
        c.in_ok-conn.ensures.opened c.in_ok-conn.ensures.found;
    serves = λ sure. (c.in-Ok.ensures.taken sure).serves;
  };
}

pub returns-in-Ok-make : goal.returns-in-Ok-make
returns-in-Ok-make g c =
    let none = c.in-Err-NotABook-default.ensures in
    let made = c.in-Ok-make.ensures in
    record {
      had = record {
        found = found_in _ _ c.in-Ok-make.book
            (made_behind over_files c.in_ok-conn.conn c.in-Err-NotABook-default.conn c.in-Ok-make.book made.made made.was_empty made.was_open (λ sure. omega (arith, made.crash.clean, sure)) none.kept)
            (λ sure. omega (arith, made.crash.clean, none.crash_at_fault.clean, sure)) c.in_ok-conn.ensures.opened c.in_ok-conn.ensures.found;
        serves = λ sure. (made.made sure).serves;
      };
    }
