use Rattle.firm_audit.proofs.Names.{arith, option_map, line_event}
use Rattle.std.proofs.lemmas.Option.{slice_get-map, slice_get_read}
use Rattle.firm_audit.proofs.own_money.is_line_at.Goals as goal

pub returns : goal.returns
returns c = grind (arith, slice_get-map, line_event, option_map, slice_get_read)
