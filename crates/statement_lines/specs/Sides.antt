-- What a book has, next to the lines of a statement.
use Rattle.std.specs.Prelude.{◌≡◌, ℕ, List}
use Rattle.trust_base.specs.declared.line.Line.{Line}
use Rattle.statement_lines.specs.declared.booking.Booking.{Booking}
use Rattle.statement_lines.specs.Keys.{amount_key, booking_key, claim_key, line_key, waiting_key}
use Rattle.statement_lines.specs.Lookups.{IsLookup}
use Rattle.statement_lines.specs.Held.{Held}
use Rattle.statement_lines.specs.Waiting.{Waiting}
use denote.Ref.{Bor}

pub record Sides : Type 0 where
  pub held : Held
  pub lines : List Line

-- the elements of both can be looked up
pub record AreLookedUp
    (held : Held) (lines : List Line) (waiting : List (ℕ × Bor Waiting)) (bookings : List (ℕ × Bor Booking))
    (beside amounts claims : List (ℕ × Bor Line)) : Type 0 where
  pub waiting_found : IsLookup waiting_key held.waiting waiting
  pub bookings_found : IsLookup booking_key held.bookings bookings
  pub beside_found : IsLookup line_key lines beside
  pub amounts_found : IsLookup amount_key lines amounts
  pub claims_found : IsLookup claim_key lines claims
