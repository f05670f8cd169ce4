-- How a text is sent to a writer.
use Rattle.std.specs.Prelude.{◌≡◌, ◌<◌, ◌⊎◌, ℕ, List, Option, length, take}
use Rattle.std.specs.Io.KnownBytes.{Appends}

-- a text was written completely, with this end; or a write failed, only a prefix of the text was written, and it ended
-- with that failure
abbrev pub IsSent : {E : Type 0} → List ℕ → E → E → Option (List ℕ) → Option (List ℕ) → E → Type 0
IsSent text told failed old new ended =
    ((ended ≡ told) × Appends old new text)
    ⊎ ((ended ≡ failed) × ((n : ℕ) × (n < length text) × Appends old new (take n text)))
