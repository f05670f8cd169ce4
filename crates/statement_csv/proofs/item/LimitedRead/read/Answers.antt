use Rattle.statement_csv.proofs.Names.{◌≤◌, ◌-◌, ℕ, take, length, refl, arith, length-take, MAX_FILE_BYTES}
use Rattle.statement_csv.proofs.LimitFacts.{given-end, given-more}
use Rattle.statement_csv.proofs.item.LimitedRead.read.Goals as goal

pub invariant_of-self-in-Ok : goal.invariant_of-self-in-Ok
invariant_of-self-in-Ok g c =
    let before = c.self.invariant.most in
    let room : length c.read.new.buf ≤ MAX_FILE_BYTES - c.self.inside.given = (let kept = c.read.auto.buf in omega (arith, length-take {A = ℕ})) in
    given-more g.K.Whole.bytes (g.R.Read.remaining c.self.inside.inner) (g.R.Read.remaining c.read.new.self) c.self.inside.given c.in-Ok.n c.self.inside.course (take c.in-Ok.n c.read.new.buf)
    c.in-Open.is c.self.invariant c.in-Ok.ensures.bytes.0 c.in-Ok.ensures.bound.1 (omega (arith, c.in-Ok.ensures.bound.0))

pub invariant_of-self-in-Ok-None : goal.invariant_of-self-in-Ok-None
invariant_of-self-in-Ok-None g c =
    let told = rw c.in-Ok-None.field-0-is at c.in-Ok-None.ensures in
    given-end g.K.Whole.bytes (g.R.Read.remaining c.self.inside.inner) (g.R.Read.remaining c.next_byte.new.inner) c.self.inside.given c.self.inside.course
    c.in-Open.is c.self.invariant told.byte (told.end refl)
