-- What a fault that is passed on says of what was read.
use Rattle.sql_rows.proofs.Names.{◌≡◌, Result, IfErr, sym, ◌∙◌, arith, ints, nat_tests}
use Rattle.std.specs.Prelude.{Err, IsErrAnd, Ok}
use Rattle.trust_base.specs.declared.refusal.StoreFault.{StoreFault}
use Rattle.trust_base.specs.declared.refusal.StoreFault.TheVariants.{Memory}
use Rattle.sql_rows.specs.Columns.{GivesBack}

pub at_any_error : {T P : Type 0} (r : Result T StoreFault) → P → IfErr r (λ e. e ≡ Memory → P)
at_any_error r p = grind (arith, ints, nat_tests)

pub at_error : {T P : Type 0} (r : Result T StoreFault) (e : StoreFault) → IsErrAnd r (λ f. f ≡ e) → (e ≡ Memory → P)
    → IfErr r (λ f. f ≡ Memory → P)
at_error (Ok x) e is says = absurd is
at_error (Err f) e is says = λ none. says (sym is ∙ none)

pub gives_back : {T : Type 0} (x : T) (r : Result T StoreFault) (e : StoreFault) → IsErrAnd r (λ f. f ≡ e) → e ≡ Memory
    → GivesBack x r
gives_back x (Ok y) e is none = absurd is
gives_back x (Err f) e is none = is ∙ none
