use Rattle.day_sheet.proofs.Names.{◌≡◌, take, list_all, is_utf8, fields_of}
use Rattle.day_sheet.proofs.record.is_all_text.Given as goal

abbrev pub invariant-loop-i : goal.invariant-loop-i
invariant-loop-i l = l.is_text_so_far ≡ list_all is_utf8 (take l.i (fields_of l.row))
