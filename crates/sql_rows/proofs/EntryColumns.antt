-- The columns of an entry have what its kind and state want.
use Rattle.sql_rows.proofs.Names.{◌≡◌, ℕ, pos, ap, ◌∙◌, arith, ints, Result, Deposit, DepositState, Payment, PaymentState, Claim, ClaimState, Against, Entry, Kept, parts_of, entry_columns, HasEntry, nat_tests}
use Rattle.trust_base.specs.declared.refusal.StoreFault.{StoreFault}
use Rattle.matter_rows.specs.declared.fee.Fee.{Fee}
use Rattle.sql_rows.specs.Columns.{GivesBack}
use Rattle.sql_rows.specs.Entries.{HasForm, IsDeposit, IsPayment, IsFee, IsClaim, HasDeposit, HasPayment, HasFee, HasClaim}
use Rattle.matter_rows.specs.declared.entry.Entry.TheVariants as entry
use Rattle.sql_tables.specs.Rows as table

-- its columns have the entry, with its day and its amount
abbrev HasItself : ℕ → ℕ → ℕ → Entry → Type 0
HasItself m n left e = HasEntry e (parts_of e).day (parts_of e).amount (entry_columns m n left e)

deposit_has :
    (m n left : ℕ) (s : DepositState) (d : Deposit)
    → HasItself m n left (entry.Deposit (record d { state = s }))
deposit_has m n left s d = grind (arith, ints, nat_tests)

payment_has :
    (m n left : ℕ) (s : PaymentState) (p : Payment)
    → HasItself m n left (entry.Payment (record p { state = s }))
payment_has m n left s p = grind (arith, ints, nat_tests)

claim_has :
    (m n left : ℕ) (a : Against) (s : ClaimState) (c : Claim)
    → HasItself m n left (entry.Claim (record c { state = s; against = a }))
claim_has m n left a s c = grind (arith, ints, nat_tests)

has_itself : (m n left : ℕ) (e : Entry) → HasItself m n left e
has_itself m n left e = grind (arith, ints, nat_tests, deposit_has, payment_has, claim_has)

-- a row with the columns of an entry has it, with its day and its amount
has_entry :
    (m n left day amount : ℕ) (e : Entry) (t : table.Entry)
    → entry_columns m n left e ≡ t → (parts_of e).day ≡ day → (parts_of e).amount ≡ amount → HasEntry e day amount t
has_entry m n left day amount e t is dated amounts = grind (arith, ints, nat_tests, entry_columns, parts_of, has_itself)

-- the same of an entry that is kept, by the day and the amount of the row
pub kept_has :
    (m day amount : ℕ) (k : Kept) (t : table.Entry)
    → entry_columns m k.number k.left k.entry ≡ t → pos day ≡ t.day → pos amount ≡ t.amount
    → HasEntry k.entry day amount t
kept_has m day amount k t is dated amounts = grind (arith, ints, nat_tests, parts_of, has_entry)

-- what was read is what is kept, where it is that entry and the row has its numbers
pub same_kept :
    (m n left : ℕ) (e : Entry) (k : Kept) (t : table.Entry)
    → entry_columns m k.number k.left k.entry ≡ t → pos n ≡ t.no → pos left ≡ t.left_now → e ≡ k.entry
    → record { number = n; left = left; entry = e } ≡ k
same_kept m n left e k t is numbered lefts same = grind (arith, ints, nat_tests)

-- so it has the columns of that
pub same_columns :
    (m n left : ℕ) (e : Entry) (k : Kept) (t : table.Entry)
    → entry_columns m k.number k.left k.entry ≡ t → pos n ≡ t.no → pos left ≡ t.left_now → e ≡ k.entry
    → entry_columns m n left e ≡ t
same_columns m n left e k t is numbered lefts same =
    ap (λ (x : Kept). entry_columns m x.number x.left x.entry) (same_kept m n left e k t is numbered lefts same) ∙ is

-- What is read of a row by its kind: the entry that it has, unless memory runs out.
abbrev pub Reads : table.Entry → ℕ → ℕ → Result Entry StoreFault → Type 0
Reads t day amount r = (e : Entry) → HasForm e → HasEntry e day amount t → GivesBack e r

module _ (t : table.Entry) (day amount : ℕ) (r : Result Entry StoreFault) where
  pub reads_deposit : t.kind ≡ pos 1 → ((d : Deposit) → IsDeposit d → HasDeposit d day amount t → GivesBack (entry.Deposit d) r)
      → Reads t day amount r
  reads_deposit kind gives x2 form has = grind (arith, ints, nat_tests)

  pub reads_payment : t.kind ≡ pos 2 → ((p : Payment) → IsPayment p → HasPayment p day amount t → GivesBack (entry.Payment p) r)
      → Reads t day amount r
  reads_payment kind gives x2 form has = grind (arith, ints, nat_tests)

  pub reads_fee : t.kind ≡ pos 3 → ((f : Fee) → IsFee f → HasFee f day amount t → GivesBack (entry.Fee f) r)
      → Reads t day amount r
  reads_fee kind gives x2 form has = grind (arith, ints, nat_tests)

  pub reads_claim : t.kind ≡ pos 4 → ((c : Claim) → IsClaim c → HasClaim c day amount t → GivesBack (entry.Claim c) r)
      → Reads t day amount r
  reads_claim kind gives x2 form has = grind (arith, ints, nat_tests)

  pub reads_none : (t.kind ≡ pos 1 → ⊥) → (t.kind ≡ pos 2 → ⊥) → (t.kind ≡ pos 3 → ⊥) → (t.kind ≡ pos 4 → ⊥)
      → Reads t day amount r
  reads_none one two three four x4 form has = grind (arith, ints, nat_tests)
