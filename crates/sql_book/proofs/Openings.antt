-- A book that was made or taken.
use Rattle.sql_book.proofs.Names.{IsDatabase, State, Layout, IsSettled, StandsSound, Lasts, arith, ints, nat_tests}

-- a crash leaves what is seen, and that stands
pub settled_lasts : (l : Layout) (s : State) → IsDatabase s.now → IsSettled s → StandsSound l s.now → Lasts l s
settled_lasts l s listed settled stands trees may = grind (arith, ints, nat_tests)
