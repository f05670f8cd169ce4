-- The last line of a list, with an amount added where it is of a matter.
use Rattle.firm_figures.proofs.Names.{◌≡◌, ℕ, zero, suc, ◌-◌, ◌<◌, true, false, List, [], ◌∷◌, length, get_or, set, refl, sym, ap, arith, ℤ, ◌==◌, added}
use Rattle.firm_figures.specs.declared.clients_sink.ClientLine.{ClientLine}
use Rattle.firm_figures.specs.Clients.{add_to_last}

place-on : (m : ℕ) (z : ℤ) (ls : List ClientLine) (k : ℕ) (l : ClientLine) → length ls ≡ suc k → l ≡ get_or ls k l → (l.matter == m) ≡ true → set ls k (record l { ledger = added l.ledger z }) ≡ add_to_last m z ls
place-on m z [] k l long is on = absurd (omega (arith, long))
place-on m z (x ∷ []) zero l long is on = rw (sym is) (rw on refl)
place-on m z (x ∷ []) (suc k) l long is on = absurd (omega (arith, long))
place-on m z (x ∷ y ∷ ls) zero l long is on = absurd (omega (arith, long))
place-on m z (x ∷ y ∷ ls) (suc k) l long is on = ap (λ zs. x ∷ zs) (place-on m z (y ∷ ls) k l (omega (arith, long)) is on)

place-off : (m : ℕ) (z : ℤ) (ls : List ClientLine) (k : ℕ) (l : ClientLine) → length ls ≡ suc k → l ≡ get_or ls k l → (l.matter == m) ≡ false → set ls k l ≡ add_to_last m z ls
place-off m z [] k l long is off = absurd (omega (arith, long))
place-off m z (x ∷ []) zero l long is off = rw (sym is) (rw off refl)
place-off m z (x ∷ []) (suc k) l long is off = absurd (omega (arith, long))
place-off m z (x ∷ y ∷ ls) zero l long is off = absurd (omega (arith, long))
place-off m z (x ∷ y ∷ ls) (suc k) l long is off = ap (λ zs. x ∷ zs) (place-off m z (y ∷ ls) k l (omega (arith, long)) is off)

pub last-on : (m : ℕ) (z : ℤ) (ls : List ClientLine) (l : ClientLine) → 0 < length ls → l ≡ get_or ls (length ls - 1) l → (l.matter == m) ≡ true → set ls (length ls - 1) (record l { ledger = added l.ledger z }) ≡ add_to_last m z ls
last-on m z ls l some is on = place-on m z ls (length ls - 1) l (omega arith) is on

pub last-off : (m : ℕ) (z : ℤ) (ls : List ClientLine) (l : ClientLine) → 0 < length ls → l ≡ get_or ls (length ls - 1) l → (l.matter == m) ≡ false → set ls (length ls - 1) l ≡ add_to_last m z ls
last-off m z ls l some is off = place-off m z ls (length ls - 1) l (omega arith) is off
