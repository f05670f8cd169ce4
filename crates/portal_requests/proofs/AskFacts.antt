-- What is asked of an entry, once its number was read.
use Rattle.portal_requests.proofs.Names.{◌≡◌, ℕ, List, Some, Result, entry_of, Refusal, Ask, entry_ask, numbered_ask, EntryPlace}
use Rattle.ask_fields.specs.Fields.{Reads}

pub asked-of : (p place : EntryPlace) (text body : List ℕ) (number : ℕ) (r : Result Ask Refusal) → place ≡ p
    → entry_of text ≡ Some number → Reads (numbered_ask p number body) r → Reads (entry_ask place text body) r
asked-of p place text body number r there found read = rw (there, found) read
