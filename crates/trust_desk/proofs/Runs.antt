-- A run goes on by one request.
use Rattle.trust_desk.proofs.Names.{◌≡◌, ℕ, ◌+◌, ◌<◌, List, [], ◌∷◌, ◌++◌, length, get_or, take, refl, sym, ap, ◌∙◌, subst, Firm, FirmSound, Request, Reply, Heard, Asks, heard, Steps, RunsSoundly, SoundRunsAreRuns, counted_reply, counted_replies}
use Rattle.std.proofs.lemmas.List.{map-append, take_more}

pub sound-runs-are-runs : SoundRunsAreRuns
sound-runs-are-runs day firm new [] [] run = run
sound-runs-are-runs day firm new (h ∷ hs) (reply ∷ replies) run =
    (run.0, run.1, sound-runs-are-runs day run.0 new hs replies run.3)
sound-runs-are-runs day firm new _ _ run = absurd run

-- a run and one step more
pub RunsSoundly-push : (day : ℕ) (f g h : Firm) (qs : List Heard) (q : Heard) (rs : List Reply) (r : Reply)
    → RunsSoundly day f qs rs g → Steps day g q r h → FirmSound h → RunsSoundly day f (qs ++ q ∷ []) (rs ++ r ∷ []) h
RunsSoundly-push day f g h [] q [] r run step sound = (h, subst (λ (x : Firm). Steps day x q r h) run step, sound, refl)
RunsSoundly-push day f g h (p ∷ qs) q (s ∷ rs) r run step sound =
    (run.0, run.1, run.2, RunsSoundly-push day run.0 g h qs q rs r run.3 step sound)
RunsSoundly-push day f g h _ q _ r run step sound = absurd run

-- one more request
pub heard-more : (requests : List Request) (i : ℕ) (request : Request) → i < length requests → request ≡ get_or requests i request → heard (take (i + 1) requests) ≡ heard (take i requests) ++ Asks request ∷ []
heard-more requests i request lt at =
    let front : take (i + 1) requests ≡ take i requests ++ request ∷ [] = take_more requests i request lt ∙ ap (λ q. take i requests ++ q ∷ []) (sym at) in
    ap heard front ∙ map-append Asks (take i requests) (request ∷ [])

-- of a run
pub run-more : (day : ℕ) (first now next : Firm) (requests : List Request) (i : ℕ) (request : Request) (replies after : List Reply) (reply : Reply) → i < length requests → request ≡ get_or requests i request
    → RunsSoundly day first (heard (take i requests)) replies now → Steps day now (Asks request) reply next → FirmSound next
    → after ≡ replies ++ reply ∷ [] → RunsSoundly day first (heard (take (i + 1) requests)) after next
run-more day first now next requests i request replies after reply lt at run step sound is =
    let hs = heard-more requests i request lt at in
    subst (λ (x : List Heard × List Reply). RunsSoundly day first x.0 x.1 next) (λ j. (sym hs j, sym is j))
    (RunsSoundly-push day first now next (heard (take i requests)) (Asks request) replies reply run step sound)

-- one more reply is counted
pub counted-push : (rs : List Reply) (r : Reply) (n : ℕ) → counted_replies (rs ++ r ∷ []) n ≡ counted_reply r (counted_replies rs n)
counted-push [] r n = refl
counted-push (s ∷ rs) r n = counted-push rs r (counted_reply s n)

pub ruleset run_laws = (sound-runs-are-runs)
