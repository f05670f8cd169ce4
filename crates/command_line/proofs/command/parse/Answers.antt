use Rattle.command_line.proofs.LineFacts.{parsed}
use Rattle.command_line.proofs.command.parse.Goals as goal

pub returns : goal.returns
returns c =
    let fits = parsed _ _ c.try_get_matches_from.result c.in_ok-command.ensures c.try_get_matches_from.ensures.kinds c.try_get_matches_from.ensures.matches in
    record { ok = fits.0; err = fits.1 }
