-- Each change of a firm's rows changes those of one matter at most, and leaves a sound firm sound.
use Rattle.firm_rows.proofs.Names.{◌≡◌, ℕ, Option, Some, None, arith, nat_tests, Line, Covered, as_firm_line, balance_row, Firm, of, after_change, with_firm_line, with_balance_row, OfMatter, Repeated, Unmatched, Dismissed, OfFirm, OfBalance, matched_by, FirmSound, IsInOrder, ChangesOne, StaysSound, StaysInOrder, LineFits}
use Rattle.firm_rows.proofs.Balances.{balances-sorted}
use Rattle.firm_rows.proofs.Changed.{changes-own, changes-no_other}
use Rattle.firm_rows.proofs.Kept.{stays-sound}
use Rattle.firm_rows.proofs.Lines.{dismissed-in_order, dismissed-sound, match-in_order, stray-stays-in_order, match-sound, stray-stays-sound}
use Rattle.firm_rows.proofs.Order.{stays-in_order}
use Rattle.firm_rows.proofs.OwnLines.{own_line-sound, statement-sound}

-- The line that made a change.

of-matched : (n : ℕ) (line : Option Line) (firm : Firm) → of n (matched_by line firm) ≡ of n firm
of-matched n line firm = grind (arith)

in_order-matched : (line : Option Line) (firm : Firm) → IsInOrder firm → IsInOrder (matched_by line firm)
in_order-matched line firm order = grind (arith, nat_tests, match-in_order)

sound-matched : (line : Option Line) (firm : Firm) → FirmSound firm → FirmSound (matched_by line firm)
sound-matched None firm sound = sound
sound-matched (Some line) firm sound = match-sound line firm sound

-- The rows of one matter.

pub changes-one : ChangesOne
changes-one n h1 firm = grind (arith, nat_tests, of-matched, after_change, changes-own, changes-no_other)

-- The firm stays in order, and sound.

pub change-stays-in_order : StaysInOrder
change-stays-in_order (OfMatter m line change) firm order = in_order-matched line (after_change m change firm) (stays-in_order m change firm order)
change-stays-in_order (Repeated line) firm order = match-in_order line firm order
change-stays-in_order (Unmatched line) firm order = stray-stays-in_order line firm order
change-stays-in_order (Dismissed day line) firm order = dismissed-in_order day line firm order
change-stays-in_order (OfFirm line) firm order = match-in_order line (with_firm_line (as_firm_line line) firm) (record { rows = order.rows; exceptions = order.exceptions; balances = order.balances })
change-stays-in_order (OfBalance kind line) firm order = match-in_order line (with_balance_row (balance_row kind line) firm) (record { rows = order.rows; exceptions = order.exceptions; balances = balances-sorted (balance_row kind line) firm.balances order.balances })

pub change-stays-sound : Covered → StaysSound
change-stays-sound law (OfMatter m line change) firm sound fits = sound-matched line (after_change m change firm) (stays-sound law m change firm sound fits)
change-stays-sound law (Repeated line) firm sound fits = match-sound line firm sound
change-stays-sound law (Unmatched line) firm sound fits = stray-stays-sound line firm sound
change-stays-sound law (Dismissed day line) firm sound fits = dismissed-sound day line firm sound
change-stays-sound law (OfFirm line) firm sound fits = match-sound line (with_firm_line (as_firm_line line) firm) (own_line-sound (as_firm_line line) firm sound fits)
change-stays-sound law (OfBalance kind line) firm sound fits = match-sound line (with_balance_row (balance_row kind line) firm) (statement-sound (balance_row kind line) firm sound)

-- What is decided of a line of a matter fits.
pub line-fits : LineFits
line-fits firm l h1 is = grind (arith, nat_tests)
