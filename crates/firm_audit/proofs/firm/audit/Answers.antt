use Rattle.firm_audit.proofs.Names.{inl, rules, ◌≡◌, true, List, is_some, subst, arith, IfSome, IfSome_then, Movement, FirmLine, BalanceRow, Line, KeptMatter, firm_of, IsFlawIn, IsFlawOf, IsMatterFlaw}
use Rattle.firm_audit.proofs.Sound.{rows_are_sound}
use Rattle.firm_audit.proofs.Refuted.{among-all, none-found, some-found}
use Rattle.firm_audit.proofs.firm.audit.Goals as goal

pub returns-then-is_some-clause-sound : goal.returns-then-is_some-clause-sound
returns-then-is_some-clause-sound c =
    let rows = c.args.rows.now in
    let found = c.in_ok-found.found in
    let some : is_some found ≡ true = grind arith in
    let is : IfSome found (IsFlawIn rows) = IfSome_then found (subst (λ (ks : List KeptMatter). IfSome found (IsMatterFlaw ks)) c.deref.ensures.value c.in_ok-found.ensures.flaw) (λ f is. inl is) in
    some-found rows found some is

pub returns-then-is_some-2-clause-flaw : goal.returns-then-is_some-2-clause-flaw
returns-then-is_some-2-clause-flaw c =
    let rows = c.args.rows.now in
    let found = c.in_ok-found-2.found in
    IfSome_then found (subst (λ (ks : List KeptMatter). IfSome found (IsFlawOf (firm_of ks rows.movements.items rows.firm_lines.items rows.exceptions.items rows.balances.items))) c.deref-2.ensures.value
    (subst (λ (vs : List Movement). IfSome found (IsFlawOf (firm_of c.deref-2.result.now vs rows.firm_lines.items rows.exceptions.items rows.balances.items))) c.deref-3.ensures.value
    (c.in_ok-found-2.ensures.flaw rows.firm_lines.items rows.exceptions.items rows.balances.items))) (among-all rows)

pub returns-then-is_some-3-clause-flaw : goal.returns-then-is_some-3-clause-flaw
returns-then-is_some-3-clause-flaw c =
    let rows = c.args.rows.now in
    let found = c.own_flaw-found.result in
    IfSome_then found (subst (λ (vs : List Movement). IfSome found (IsFlawOf (firm_of rows.matters.items vs rows.firm_lines.items rows.exceptions.items rows.balances.items))) c.deref-4.ensures.value
    (subst (λ (own : List FirmLine). IfSome found (IsFlawOf (firm_of rows.matters.items c.deref-4.result.now own rows.exceptions.items rows.balances.items))) c.deref-5.ensures.value
    (c.own_flaw-found.ensures.flaw rows.matters.items rows.exceptions.items rows.balances.items))) (among-all rows)

pub returns-clause-flaw : goal.returns-clause-flaw
returns-clause-flaw c =
    let rows = c.args.rows.now in
    let found = c.order_flaw.result in
    IfSome_then found (subst (λ (lines : List Line). IfSome found (IsFlawOf (firm_of rows.matters.items rows.movements.items rows.firm_lines.items lines rows.balances.items))) c.deref-6.ensures.value
    (subst (λ (balances : List BalanceRow). IfSome found (IsFlawOf (firm_of rows.matters.items rows.movements.items rows.firm_lines.items c.deref-6.result.now balances))) c.deref-7.ensures.value
    (c.order_flaw.ensures.flaw rows.matters.items rows.movements.items rows.firm_lines.items))) (among-all rows)

pub returns-then-is_some-2-clause-sound : goal.returns-then-is_some-2-clause-sound
returns-then-is_some-2-clause-sound c =
    let some : is_some c.in_ok-found-2.found ≡ true = grind arith in
    some-found c.args.rows.now c.in_ok-found-2.found some (returns-then-is_some-2-clause-flaw c)

pub returns-then-is_some-3-clause-sound : goal.returns-then-is_some-3-clause-sound
returns-then-is_some-3-clause-sound c =
    let some : is_some c.own_flaw-found.result ≡ true = grind arith in
    some-found c.args.rows.now c.own_flaw-found.result some (returns-then-is_some-3-clause-flaw c)

pub returns-clause-sound : goal.returns-clause-sound
returns-clause-sound c =
    none-found c.args.rows.now c.order_flaw.result
    (λ none. rows_are_sound c.args.rows.now (search rules) (search rules) (search rules) (search rules)) (returns-clause-flaw c)
