-- What stands in a buffer is what comes next in the stream.
use Rattle.portal_messages.proofs.Names.{◌≡◌, ◌<◌, ◌+◌, ℕ, suc, List, [], ◌∷◌, ◌++◌, length, Option, Some, None, refl, inl, sym, ap, ◌∙◌, subst, arith, IfOk, IfSome, Result, false, append-nil, length-append, IsAtEnd, Keeps, prepend_known, HasNoHead, IsLast, is_ended, ints, nat_tests, BadMessage, IsFramed, IsNext, answer_of, IsFault}
use Rattle.portal_messages.specs.declared.input.Last.{Last}
use Rattle.portal_messages.specs.declared.input.Last.TheVariants as lasts
use Rattle.portal_messages.specs.declared.input.Next.{Next}
use Rattle.portal_messages.specs.declared.input.Stop.{Stop}
use Rattle.portal_messages.proofs.HeadFacts.{goes_on-append}

-- bytes that have no head
pub no-message : (bytes : List ℕ) → is_ended bytes ≡ false → HasNoHead bytes → IsFault bytes BadMessage
no-message bytes live none = record { goes_on = live; why = inl (none, refl) }

-- what holds of the bytes that a buffer begins
pub kept : (buf : List ℕ) (o a : Option (List ℕ)) (P : List ℕ → Type 0) → Keeps o (prepend_known buf a) → ((ys : List ℕ) → a ≡ Some ys → P (buf ++ ys)) → IfSome o P
kept buf o a x3 k h = grind (arith, ints, nat_tests)

-- a buffer that has no head, whatever follows
pub bad-next : (buf : List ℕ) (o a : Option (List ℕ)) → Keeps o (prepend_known buf a) → is_ended buf ≡ false → ((more : List ℕ) → HasNoHead (buf ++ more))
    → IfSome o (λ bytes. IsFault bytes BadMessage)
bad-next buf o a k live none = grind (arith, ints, nat_tests, kept, no-message, goes_on-append)

-- a buffer that did not grow, at the end of the reader, is all that is left
pub at-end : (before after : List ℕ) (o a b : Option (List ℕ)) (P : List ℕ → Type 0) → Keeps o (prepend_known before a) → Keeps (prepend_known before a) (prepend_known after b)
    → length after < length before + 1 → IsAtEnd b → P before → IfSome o P
at-end before after None a b P k m short end h = tt
at-end before after (Some xs) None b P k m short end h = absurd k
at-end before after (Some xs) (Some ys) None P k m short end h = absurd m
at-end before after (Some xs) (Some []) (Some zs) P k m short end h = subst P (sym (append-nil before) ∙ k) h
at-end before after (Some xs) (Some (y ∷ ys)) (Some zs) P k m short end h =
    let long : length after + length zs ≡ length before + suc (length ys) = sym (length-append after zs) ∙ ap length m ∙ length-append before (y ∷ ys) in
    grind (arith, ints, nat_tests, length)

-- what is answered where no message comes next
pub said-next : (o new : Option (List ℕ)) (last : Last) (r : Result Next Stop) → r ≡ answer_of last → IsLast o last → IfOk r (IsNext o new)
said-next o new last r e h = grind (arith)

pub said-framed : (o : Option (List ℕ)) (last : Last) (r : Result Next Stop) → r ≡ answer_of last → IsLast o last → IfOk r IsFramed
said-framed o last r e h = grind (arith)
