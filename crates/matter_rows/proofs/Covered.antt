-- The equation of the balances, entry by entry.
use Rattle.matter_rows.proofs.Names.{AllByRecursion, ◌≡◌, List, [], ◌∷◌, true, arith, ℤ, ◌+ℤ◌, ints, Entry, names, total_of, available, disputed, fees, claims, total, total_share, available_share, disputed_share, fee_share, claim_share, paid, apart, to_client, to_claimant}
use Rattle.matter_rows.specs.Laws.{Covered}
use Rattle.matter_rows.proofs.Exchange.{fees-by_share, claims-by_share}
use Rattle.matter_rows.proofs.Store.{held-balance, disputed-balance, available-balance, fees-balance, claims-balance}

shares-add : (e : Entry) → total_share e ≡ ((available_share e +ℤ disputed_share e) +ℤ fee_share e) +ℤ claim_share e
unfolding total_share available_share disputed_share fee_share claim_share
shares-add e = grind (arith, ints, paid, to_client, apart, to_claimant)

total-shares : (es : List Entry) → total_of total_share es ≡ ((total_of available_share es +ℤ total_of disputed_share es) +ℤ total_of fee_share es) +ℤ total_of claim_share es
total-shares [] = omega (arith, ints)
total-shares (e ∷ es) = omega (arith, ints, total-shares es, shares-add e)

pub total-covered : (es : List Entry) → AllByRecursion (λ e. names es e ≡ true) es → total es ≡ ((available es +ℤ disputed es) +ℤ fees es) +ℤ claims es
total-covered es named = grind (arith, ints, fees-by_share, claims-by_share, total-shares)

pub sound-covered : Covered
sound-covered es s =
    let d = disputed-balance es s in
    let f = fees-balance es s in
    let c = claims-balance es s in
    omega (arith, ints, total-covered es s.named, held-balance es s, available-balance es s, d, f, c)
