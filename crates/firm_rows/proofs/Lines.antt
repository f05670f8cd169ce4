-- A line of the bank, the firm's rows and its exceptions.
use Rattle.firm_rows.proofs.Names.{ℕ, List, Line, BalanceRow, Dismissal, Firm, after_dismissal, after_match, after_stray, with_dismissal, FirmSound, IsInOrder, arith, ints, nat_tests}
use Rattle.trust_base.specs.LineOrder.{line_cmp}
use Rattle.trust_base.proofs.LineFacts.{line_total, line_same}
use Rattle.firm_rows.specs.Exceptions.{WithLineAdds, WithoutLineTakes, WithLineAgain}
use Rattle.firm_rows.proofs.Trail.{order-trail, sound-trail}
use Rattle.firm_rows.proofs.Ordered.{with-sorted, without-sorted, with-contains, without-contains, with-again}

-- The exceptions are a set.

pub with-adds : WithLineAdds
with-adds line x lines = with-contains line_cmp line_total line_same line x lines

pub without-takes : WithoutLineTakes
without-takes line x lines = without-contains line_cmp line_total line_same line x lines

pub with_line-again : WithLineAgain
with_line-again line lines up there = with-again line_cmp line_total line_same line lines up there

-- The firm stays in order.

pub match-in_order : (line : Line) (firm : Firm) → IsInOrder firm → IsInOrder (after_match line firm)
match-in_order line firm order = record { rows = order.rows; exceptions = without-sorted line_cmp line_total line firm.exceptions order.exceptions; balances = order.balances }

pub stray-stays-in_order : (line : Line) (firm : Firm) → IsInOrder firm → IsInOrder (after_stray line firm)
stray-stays-in_order line firm order = record { rows = order.rows; exceptions = with-sorted line_cmp line_total line firm.exceptions order.exceptions; balances = order.balances }

pub dismissed-in_order : (day : ℕ) (line : Line) (firm : Firm) → IsInOrder firm → IsInOrder (after_dismissal day line firm)
dismissed-in_order day line firm order =
    let d : Dismissal = record { day = day; line = line } in
    match-in_order line (with_dismissal d firm) (order-trail firm.acts (with_dismissal d firm).dismissals firm order)

-- And sound.

-- exceptions and balances are no matter's rows, and move nothing
pub with-others : (firm : Firm) (lines : List Line) (balances : List BalanceRow) → FirmSound firm
    → IsInOrder (record firm { exceptions = lines; balances = balances }) → FirmSound (record firm { exceptions = lines; balances = balances })
with-others firm lines balances sound order = grind (arith, ints, nat_tests)

pub match-sound : (line : Line) (firm : Firm) → FirmSound firm → FirmSound (after_match line firm)
match-sound line firm sound = with-others firm _ firm.balances sound (match-in_order line firm sound.in_order)

pub stray-stays-sound : (line : Line) (firm : Firm) → FirmSound firm → FirmSound (after_stray line firm)
stray-stays-sound line firm sound = with-others firm _ firm.balances sound (stray-stays-in_order line firm sound.in_order)

pub dismissed-sound : (day : ℕ) (line : Line) (firm : Firm) → FirmSound firm → FirmSound (after_dismissal day line firm)
dismissed-sound day line firm sound =
    let d : Dismissal = record { day = day; line = line } in
    match-sound line (with_dismissal d firm) (sound-trail firm.acts (with_dismissal d firm).dismissals firm sound)
