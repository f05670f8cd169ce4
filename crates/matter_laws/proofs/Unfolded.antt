-- What an answer unfolds: one name for several definitions.
use Rattle.std.specs.Prelude.{⊤}
use Rattle.trust_base.specs.Names.{is_cash_label}
use Rattle.matter_rows.specs.Shares.{held_share, available_share, disputed_share, total_share, pending_share, worth, draw}

-- what the worked cases compute with
unfoldable pub worked_cases : ⊤
unfolding held_share available_share disputed_share total_share pending_share worth draw is_cash_label
worked_cases = tt
