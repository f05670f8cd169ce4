-- An entry that is read back from its columns is the entry.
use Rattle.sql_rows.proofs.Names.{◌≡◌, refl, ap, Payment, PaymentState, Deposit, DepositState, Claim, ClaimState, Against, Entry, parts_of, entry_from, EntriesReadBack, arith, ints, nat_tests}
use Rattle.matter_rows.specs.declared.payment.Fund.{Fund}
use Rattle.matter_rows.specs.declared.deposit.DepositState.TheVariants as deposit
use Rattle.matter_rows.specs.declared.entry.Entry.TheVariants as entry

deposit_back : (s : DepositState) (d : Deposit)
    → entry_from (parts_of (entry.Deposit (record d { state = s }))) ≡ entry.Deposit (record d { state = s })
deposit_back deposit.Held d = refl
deposit_back _ d = refl

payment_back : (f : Fund) (s : PaymentState) (p : Payment)
    → entry_from (parts_of (entry.Payment (record p { state = s; fund = f })))
    ≡ entry.Payment (record p { state = s; fund = f })
payment_back f s p = grind (arith, ints, nat_tests)

claim_back : (a : Against) (s : ClaimState) (c : Claim)
    → entry_from (parts_of (entry.Claim (record c { state = s; against = a })))
    ≡ entry.Claim (record c { state = s; against = a })
claim_back a s c = grind (arith, ints, nat_tests)

-- an entry is read from its columns
pub entry_back : (e : Entry) → entry_from (parts_of e) ≡ e
entry_back (entry.Deposit d) = deposit_back d.state d
entry_back (entry.Payment p) = payment_back p.fund p.state p
entry_back (entry.Fee f) = refl
entry_back (entry.Claim c) = claim_back c.against c.state c

-- also with its number and what is left of it
pub entries_back : EntriesReadBack
entries_back m n left e = ap (λ x. record { number = n; left = left; entry = x }) (entry_back e)
