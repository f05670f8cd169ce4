-- Texts of numbers, read back, and numbers that are given by the text of an operand.
use Rattle.command_line.proofs.Names.{◌≡◌, ◌∙◌, ◌<◌, ◌^◌, false, ℕ, List, Ok, Result, ap, sym, arith, bytes_eq, bytes_eq-Decides, IsNumberBetween}
use Rattle.std.specs.Fmt.{decimal}
use Rattle.std.proofs.lemmas.Fmt.{parse-decimal}
use Rattle.std.specs.Str.Parse.{ParsesUnsigned}

-- a number's own digits are read as the number
pub reads-back : {E : Type 0} (least most : ℕ) (text : List ℕ) (number : ℕ) (r : Result ℕ E) → most < 2 ^ 32 → IsNumberBetween least most text number
    → ParsesUnsigned 32 10 text r → r ≡ Ok number
reads-back least most text number r room is parsed =
    parse-decimal 32 number text r (omega (arith, room, is.below)) (omega (arith, room, is.below)) is.digits parsed

-- so a text has the digits of one number
pub reads-same : {E : Type 0} (least most : ℕ) (text : List ℕ) (number n : ℕ) (r : Result ℕ E) → most < 2 ^ 32 → IsNumberBetween least most text number
    → ParsesUnsigned 32 10 text r → r ≡ Ok n → n ≡ number
reads-same least most text number n r room is parsed found =
    let e : Ok n ≡ Ok number = sym found ∙ reads-back least most text number r room is parsed in cc

-- and these are shown as the text
pub shows-text : (least most : ℕ) (text shown : List ℕ) (number n : ℕ) → IsNumberBetween least most text number → n ≡ number → shown ≡ decimal n
    → shown ≡ text
shows-text least most text shown number n is same digits = digits ∙ ap decimal same ∙ sym is.digits

-- a text is not unlike itself
pub never-unlike : (shown text : List ℕ) → false ≡ bytes_eq shown text → shown ≡ text → ⊥
never-unlike shown text unlike like = let e = unlike ∙ (bytes_eq-Decides shown text).1 like in cc
