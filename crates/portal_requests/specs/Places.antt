-- Where routes lead, and by which method.
use Rattle.std.specs.Prelude.{ℕ, List, codes}
use Rattle.portal_requests.specs.declared.routes.MatterPlace.TheVariants as matter
use Rattle.portal_requests.specs.declared.routes.MatterPlace.{MatterPlace}
use Rattle.portal_requests.specs.declared.routes.EntryPlace.TheVariants as entry
use Rattle.portal_requests.specs.declared.routes.EntryPlace.{EntryPlace}
use Rattle.portal_requests.specs.declared.routes.Place.TheVariants as place
use Rattle.portal_requests.specs.declared.routes.Place.{Place}

-- the method of a place: GET for what only reads, POST for what changes something or sends a bank statement
abbrev pub matter_method : MatterPlace → List ℕ
matter_method matter.Show = codes "GET"
matter_method matter.Open = codes "POST"
matter_method matter.AddSeat = codes "POST"
matter_method matter.DropSeat = codes "POST"
matter_method matter.Close = codes "POST"
matter_method matter.Purge = codes "POST"
matter_method matter.Entries = codes "GET"
matter_method matter.Accounting = codes "GET"
matter_method matter.Account = codes "GET"

abbrev pub entry_method : EntryPlace → List ℕ
entry_method entry.Show = codes "GET"
entry_method entry.Deposit = codes "POST"
entry_method entry.Cancel = codes "POST"
entry_method entry.Propose = codes "POST"
entry_method entry.Approve = codes "POST"
entry_method entry.Decline = codes "POST"
entry_method entry.Withdraw = codes "POST"
entry_method entry.Void = codes "POST"
entry_method entry.Fee = codes "POST"
entry_method entry.Claim = codes "POST"
entry_method entry.Offer = codes "POST"
entry_method entry.Accept = codes "POST"
entry_method entry.Award = codes "POST"

abbrev pub method_of : Place → List ℕ
method_of (place.Matter p) = matter_method p
method_of (place.Entry p) = entry_method p
method_of (place.Listed p) = codes "GET"
method_of (place.Today p) = codes "GET"
method_of (place.AsOf p) = codes "GET"
method_of (place.Within p) = codes "GET"
method_of place.Trail = codes "GET"
method_of place.Acts = codes "GET"
method_of place.Import = codes "POST"
method_of (place.Match p) = codes "POST"
method_of place.Reasons = codes "GET"
method_of place.Dismissal = codes "POST"
