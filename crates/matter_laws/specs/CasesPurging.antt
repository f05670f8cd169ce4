-- Worked cases: a matter closed on 29 February, and what is left when it is purged.
use Rattle.std.specs.Prelude.{ℕ, List, [], ◌∷◌, Some, codes}
use Rattle.matter_rows.specs.declared.head.Holder.TheVariants as holder
use Rattle.matter_rows.specs.declared.deposit.DepositState.TheVariants as deposit
use Rattle.matter_rows.specs.declared.payment.PaymentState.TheVariants as payment
use Rattle.matter_rows.specs.declared.payment.Fund.TheVariants as fund
use Rattle.matter_rows.specs.declared.entry.Entry.{Entry}
use Rattle.matter_rows.specs.Rows.{Rows}
use Rattle.matter_laws.specs.Cases.{seat_of_lee}
use Rattle.matter_laws.specs.CasesLines.{cleared_on, tenth, eleventh, twelfth, thirteenth, b1, b2}
use Rattle.trust_matter.specs.Examples.{received, paid}

abbrev pub leap_day : ℕ
leap_day = 20240229

-- the last day on which the records of a matter closed on 29 February are kept
abbrev pub last_kept : ℕ
last_kept = 20290228

abbrev pub day_after_it : ℕ
day_after_it = 20290301

abbrev pub later_on : ℕ
later_on = 20290302

-- all that came in went out again
abbrev pub all_gone : List Entry
all_gone =
    received tenth 50000 (deposit.Cleared (cleared_on twelfth b1))
    ∷ paid eleventh 50000 fund.General
    (payment.Cleared (record { issued = twelfth; clearing = cleared_on thirteenth b2 }))
    ∷ []

abbrev pub closed_on_leap_day : Rows
closed_on_leap_day = record {
  head = Some
      (record { holder = holder.Client (codes "Ada Chen"); opened = tenth; closed = Some leap_day; last = leap_day });
  seats = seat_of_lee ∷ [];
  entries = all_gone;
}

-- the stub: the days of opening, closing and purging
abbrev pub purged_in_march : Rows
purged_in_march = record {
  head = Some
      (record { holder = holder.Purged day_after_it; opened = tenth; closed = Some leap_day; last = day_after_it });
  seats = [];
  entries = [];
}
