-- What is kept of the payments that were issued.
use Rattle.figure_laws.proofs.Names.{◌≡◌, ℕ, List, [], ◌∷◌, ◌++◌, sym, ap, append-nil, append_assoc, arith, nat_tests, flat_map, Row, issued_in, IssuedKept, no_issued, with_row_issued, IssuedIsKept}
use Rattle.std.proofs.Common.{fold}

issued-from : (s : IssuedKept) (xs : List (ℕ × Row)) → fold with_row_issued s xs ≡ record s { issued = s.issued ++ flat_map (issued_in s.day) xs }
issued-from s [] = λ i. record s { issued = sym (append-nil s.issued) i }
issued-from s (x ∷ xs) = grind (arith, nat_tests, append_assoc, (issued-from (with_row_issued s x) xs))

pub issued-kept : IssuedIsKept
issued-kept p firm = ap (λ (s : IssuedKept). s.issued) (issued-from (no_issued p) firm.rows)
