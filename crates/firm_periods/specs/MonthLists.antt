-- The lists of the packet of month's end while they grow: what is taken of an entry is there, and has room, before
-- anything is stored.
use Rattle.std.specs.Prelude.{◌≡◌, ℕ, ◌+◌, ◌<◌, List, ◌++◌, Option, option_to_list, vec_capacity, vec_len}
use Rattle.std.specs.List.{flat_map}
use Rattle.trust_base.specs.Periods.{Span}
use Rattle.matter_rows.specs.declared.entry.Entry.{Entry}
use Rattle.firm_periods.specs.Approvals.{issued_of_entry}
use Rattle.firm_periods.specs.Named.{named, pick_of}
use Rattle.firm_periods.specs.declared.month_sink.Lists.{Lists}
use Rattle.firm_periods.specs.declared.month_sink.Shares.{Shares}
use Rattle.firm_periods.specs.declared.moved.NamedMove.{NamedMove}
use Rattle.firm_periods.specs.declared.named_sink.Pick.{Pick}
use Rattle.firm_periods.specs.declared.named_sink.Pick.TheVariants as pick

-- what a list takes of an entry, as a list
abbrev pub picked : Option NamedMove × Option NamedMove → List NamedMove
picked p = option_to_list p.0 ++ option_to_list p.1

-- each list has room for what it may take of an entry
pub record HasRoom (lists : Lists) : Type 0 where
  pub transit : vec_len lists.transit + 1 < vec_capacity lists.transit
  pub outstanding : vec_len lists.outstanding + 1 < vec_capacity lists.outstanding
  pub receipts : vec_len lists.receipts + 1 < vec_capacity lists.receipts
  pub disbursements : vec_len lists.disbursements + 1 < vec_capacity lists.disbursements
  pub issued : vec_len lists.issued < vec_capacity lists.issued

-- the lists are the same
pub record HaveSameItems (old new : Lists) : Type 0 where
  pub transit : new.transit.items ≡ old.transit.items
  pub outstanding : new.outstanding.items ≡ old.outstanding.items
  pub receipts : new.receipts.items ≡ old.receipts.items
  pub disbursements : new.disbursements.items ≡ old.disbursements.items
  pub issued : new.issued.items ≡ old.issued.items

-- each list has what it takes of an entry, behind what it had
pub record HaveTaken (old : Lists) (shares : Shares) (new : Lists) : Type 0 where
  pub transit : new.transit.items ≡ old.transit.items ++ picked shares.transit
  pub outstanding : new.outstanding.items ≡ old.outstanding.items ++ picked shares.outstanding
  pub receipts : new.receipts.items ≡ old.receipts.items ++ picked shares.receipts
  pub disbursements : new.disbursements.items ≡ old.disbursements.items ++ picked shares.disbursements
  pub issued : new.issued.items ≡ old.issued.items ++ option_to_list shares.issued

-- what a list takes of an entry, with the names
abbrev pub taken_of : Pick → Option (List ℕ) → ℕ → ℕ → Entry → List NamedMove
taken_of pick client m n entry = flat_map (named client m n entry) (pick_of pick entry)

-- this is what the lists take of an entry: what waits as of a day, the movements of a month, and the payment if it was
-- issued in the period of the approvals
pub record AreSharesOf (day : ℕ) (month period : Span) (client : Option (List ℕ)) (m n : ℕ) (entry : Entry)
    (shares : Shares) : Type 0 where
  pub transit : picked shares.transit ≡ taken_of (pick.Transit day) client m n entry
  pub outstanding : picked shares.outstanding ≡ taken_of (pick.Outstanding day) client m n entry
  pub receipts : picked shares.receipts ≡ taken_of (pick.Receipts month) client m n entry
  pub disbursements : picked shares.disbursements ≡ taken_of (pick.Disbursements month) client m n entry
  pub issued : option_to_list shares.issued ≡ issued_of_entry period m n entry
