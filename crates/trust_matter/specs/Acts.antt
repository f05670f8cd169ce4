-- What an accepted ask is remembered as: who did what to which entry, on which business day.
use Rattle.std.specs.Prelude.{Option, Some, None}
use Rattle.std.specs.Option.{option_map}
use Rattle.matter_rows.specs.declared.act.Act.{Act}
use Rattle.matter_rows.specs.declared.act.Deed.{Deed}
use Rattle.matter_rows.specs.declared.act.Deed.TheVariants as deed
use Rattle.matter_rows.specs.declared.claim.Against.{Against}
use Rattle.matter_rows.specs.declared.claim.Against.TheVariants as against
use Rattle.matter_parts.specs.declared.edit.Edit.{Edit}
use Rattle.matter_parts.specs.declared.edit.Edit.TheVariants as edit
use Rattle.trust_matter.specs.declared.ask.Ask.{Ask}
use Rattle.trust_matter.specs.declared.ask.Ask.TheVariants as ask
use Rattle.trust_matter.specs.Facts.{Asked, entry_named}

-- a claim against a fee disputes it, another is one against the general fund
abbrev pub deed_against : Against → Deed
deed_against (against.General claimant) = deed.Claimed
deed_against (against.Fee k) = deed.Disputed

-- what is done by an ask; of a purge nothing is remembered, and who reads does nothing
abbrev pub deed_of : Ask → Option Deed
deed_of (ask.OpenMatter a) = Some (deed.Opened a.lawyer)
deed_of (ask.AddSeat s) = Some (deed.Seated s)
deed_of (ask.DropSeat p) = Some (deed.Unseated p)
deed_of (ask.Deposit a) = Some deed.Deposited
deed_of (ask.CancelDeposit n) = Some deed.Cancelled
deed_of (ask.Propose a) = Some deed.Proposed
deed_of (ask.Approve n) = Some deed.Approved
deed_of (ask.Decline n) = Some deed.Declined
deed_of (ask.Withdraw n) = Some deed.Withdrawn
deed_of (ask.VoidPayment n) = Some deed.Voided
deed_of (ask.EarnFee a) = Some deed.Earned
deed_of (ask.RaiseClaim a) = Some (deed_against a.against)
deed_of (ask.Offer a) = Some (deed.Offered a.to_client)
deed_of (ask.Accept a) = Some deed.Accepted
deed_of (ask.Award a) = Some deed.Awarded
deed_of ask.CloseMatter = Some deed.Closed
deed_of ask.Purge = None
deed_of ask.Show = None
deed_of ask.ShowEntries = None
deed_of ask.Accounting = None
deed_of (ask.Account p) = None
deed_of (ask.ShowEntry n) = None

-- a deed that was asked for, by the caller, on the day, of the entry that the ask names
abbrev pub done_by : Asked → Deed → Act
done_by a d = record { entry = entry_named a.ask; day = a.day; caller = a.caller; deed = d }

-- what an ask is remembered as that makes this edit: nothing if it changes nothing
abbrev pub act_by : Edit → Asked → Option Act
act_by edit.Nothing a = None
act_by _ a = option_map (done_by a) (deed_of a.ask)
