-- A message is answered by one step of the firm.
use Rattle.portal_http.proofs.Names.{Seen, ◌≡◌, ◌⊎◌, inl, inr, ℕ, Bool, true, false, Ok, Err, refl, sym, ap, ◌∙◌, subst, MatchBool, ⊤, Refusal, Memory, Store, Firm, Reply, Heard, Asks, IsReplied, counted_refusal, counted_reply, is_fault_reply, refused, IsMade, MayLeave, Steps, firm_step, kept-as, kept-still, leave-as, leave-still, plain-step, Message, heard_of, request}
use Rattle.trust_base.specs.Refusals.{is_fault}
use Rattle.trust_desk.specs.declared.requests.Request.{Request}
use Rattle.trust_desk.proofs.Steps.{nothing-done}
use Rattle.portal_requests.proofs.HeardFacts.{heard-asks, heard-unread}

-- a message that was refused before it became a request, or that could not be held
refused-step : (day : ℕ) (firm : Firm) (m : Message) (why : Refusal) (reply : Reply) → (why ≡ Memory) ⊎ ((is_fault why ≡ false) × (request m ≡ Err why)) → reply ≡ refused why → Steps day firm (heard_of m) reply firm
refused-step day firm m why reply (inl e) is =
    subst (λ (x : Reply). Steps day firm (heard_of m) x firm) (sym (is ∙ ap refused e)) (record { says = inr refl; leaves = nothing-done day firm (heard_of m) })
refused-step day firm m why reply (inr other) is =
    subst (λ (x : Reply). Steps day firm (heard_of m) x firm) (sym is)
    (subst (λ (h : Heard). Steps day firm h (refused why) firm) (sym (heard-unread m why other.1)) (cases _ (is_fault why) other.0))
  where
    cases : (T : Type 0) (b : Bool) → b ≡ false → MatchBool b T ((refused why ≡ refused why) × (firm ≡ firm))
    cases T true e = absurd (cc)
    cases T false e = (refl, refl)

-- What a crash may leave.

refused-leaves : (day : ℕ) (firm : Firm) (b : Seen) (m : Message) (why : Refusal) (reply : Reply) → (why ≡ Memory) ⊎ ((is_fault why ≡ false) × (request m ≡ Err why)) → reply ≡ refused why
    → MayLeave (is_fault_reply reply ≡ false) (IsMade day firm (heard_of m)) firm (firm_step day firm (heard_of m)).firm b b
refused-leaves day firm b m why reply unread is =
    leave-as {done = ⊤} (λ fine. tt) (λ found made. made) (λ fine. sym (plain-step day firm firm (heard_of m) reply fine (refused-step day firm m why reply unread is))) (leave-still firm b)

-- such a message counts no fault of the store
refused-counted : (m : Message) (why : Refusal) (reply : Reply) (n : ℕ) → (why ≡ Memory) ⊎ ((is_fault why ≡ false) × (request m ≡ Err why)) → reply ≡ refused why → n ≡ counted_reply reply n
refused-counted m why reply n (inl e) is = ap (λ (x : Reply). counted_reply x n) (sym (is ∙ ap refused e))
refused-counted m why reply n (inr other) is = cases why other.0 ∙ ap (λ (x : Reply). counted_reply x n) (sym is)
  where
    cases : (why : Refusal) → is_fault why ≡ false → n ≡ counted_refusal why n
    cases Store e = absurd (cc)
    cases _ e = refl

-- What the desk heard was answered over a book.

module _ (day : ℕ) where
  pub asked-answered : (m : Message) (r : Request) (reply : Reply) (old new : Seen) → request m ≡ Ok r → IsReplied day (Asks r) reply old new → IsReplied day (heard_of m) reply old new
  asked-answered m r reply old new e answered = subst (λ (h : Heard). IsReplied day h reply old new) (sym (heard-asks m r e)) answered

  pub refused-answered : (m : Message) (why : Refusal) (reply : Reply) (b : Seen) → (why ≡ Memory) ⊎ ((is_fault why ≡ false) × (request m ≡ Err why)) → reply ≡ refused why → IsReplied day (heard_of m) reply b b
  refused-answered m why reply b unread is = record {
    step = λ clean stands. refused-step day b.firm m why reply unread is;
    kept = kept-as (λ clean stands. refused-counted m why reply b.refusals unread is) (kept-still b);
    crash = λ sure stands asked. refused-leaves day b.firm b m why reply unread is;
  }
