-- Lines of a bank's statement in their order.
use Rattle.trust_base.proofs.Names.{◌≡◌, refl, sym}
use Rattle.std.specs.Cmp.{IsTotalOrder}
use Rattle.std.specs.declared.cmp.Ordering.{Ordering}
use Rattle.std.specs.declared.cmp.Ordering.TheVariants.{Less, Equal, Greater}
use Rattle.std.specs.Ordering.{ordering_then}
use Rattle.std.proofs.lemmas.Cmp.{ranked, int_ranked, on_total, then_total, nat_cmp_total, int_cmp_total, nat_list_cmp_total}
use Rattle.std.proofs.lemmas.Map.Lookups.{exact_bytes}
use Rattle.trust_base.specs.declared.line.Line.{Line}
use Rattle.trust_base.specs.LineOrder.{line_cmp}

pub line_total : IsTotalOrder line_cmp
line_total =
    then_total (on_total (λ (l : Line). l.date) nat_cmp_total)
    (then_total (on_total (λ (l : Line). l.reference) nat_list_cmp_total)
    (then_total (on_total (λ (l : Line). l.bank_ref) nat_list_cmp_total)
    (then_total (on_total (λ (l : Line). l.amount) int_cmp_total)
    (on_total (λ (l : Line). l.text) nat_list_cmp_total))))

-- two answers make Equal only where both are
both-equal : (a b : Ordering) → ordering_then a b ≡ Equal → (a ≡ Equal) × (b ≡ Equal)
both-equal Less b is = absurd (cc)
both-equal Equal b is = (refl, is)
both-equal Greater b is = absurd (cc)

-- lines that the order does not tell apart are the same in all five fields
pub line_same : (a b : Line) → line_cmp a b ≡ Equal → a ≡ b
line_same a b is =
    let date = both-equal _ _ is in
    let reference = both-equal _ _ date.1 in
    let bank_ref = both-equal _ _ reference.1 in
    let amount = both-equal _ _ bank_ref.1 in
    let same_date : a.date ≡ b.date = ranked a.date b.date Equal (sym date.0) in
    let same_reference : a.reference ≡ b.reference = exact_bytes a.reference b.reference reference.0 in
    let same_bank_ref : a.bank_ref ≡ b.bank_ref = exact_bytes a.bank_ref b.bank_ref bank_ref.0 in
    let same_amount : a.amount ≡ b.amount = int_ranked a.amount b.amount Equal (sym amount.0) in
    let same_text : a.text ≡ b.text = exact_bytes a.text b.text amount.1 in
    λ i. record { date = same_date i; reference = same_reference i; bank_ref = same_bank_ref i; amount = same_amount i; text = same_text i }
