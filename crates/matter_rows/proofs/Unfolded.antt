-- What an answer unfolds: one name for several definitions.
use Rattle.std.specs.Prelude.{⊤}
use Rattle.matter_rows.specs.Shares.{held_share, available_share, disputed_share, fee_share, claim_share, pending_share}

-- what an entry adds to each balance
unfoldable pub shares_of_an_entry : ⊤
unfolding held_share available_share disputed_share fee_share claim_share pending_share
shares_of_an_entry = tt
