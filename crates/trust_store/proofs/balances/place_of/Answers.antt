use Rattle.trust_store.proofs.Names.{rules, always_returns_same, balance_cmp}
use Rattle.trust_store.proofs.Places.{found-balance, absent-balance}
use Rattle.trust_store.proofs.balances.place_of.Goals as goal

-- the closure compares with the balance
pub returns : goal.returns
returns c = search (rules, balance_cmp, always_returns_same, found-balance, absent-balance)
