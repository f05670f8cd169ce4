-- The order of bank statement lines.
use Rattle.std.specs.Prelude.{Bool}
use Rattle.std.specs.declared.cmp.Ordering.{Ordering}
use Rattle.std.specs.Ordering.{int_cmp, is_eq, is_lt, nat_cmp, ordering_then}
use Rattle.std.specs.Cmp.Lexicographic.{slice_cmp}
use Rattle.trust_base.specs.declared.line.Line.{Line}

-- by day, reference, bank's reference, amount as a number, then text; texts compare byte by byte
abbrev pub line_cmp : Line → Line → Ordering
line_cmp a b =
    ordering_then (nat_cmp a.date b.date)
    (ordering_then (slice_cmp nat_cmp a.reference b.reference)
    (ordering_then (slice_cmp nat_cmp a.bank_ref b.bank_ref)
    (ordering_then (int_cmp a.amount b.amount)
    (slice_cmp nat_cmp a.text b.text))))

-- one line comes before another
abbrev pub is_before : Line → Line → Bool
is_before a b = is_lt (line_cmp a b)

-- two lines are the same in all five fields
abbrev pub is_same_line : Line → Line → Bool
is_same_line a b = is_eq (line_cmp a b)
