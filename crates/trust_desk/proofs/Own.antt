-- Each matter's replies, rows and acts in a run of the firm are those of its own machine.
use Rattle.trust_desk.proofs.Names.{◌≡◌, ℕ, Bool, true, false, cond, List, [], ◌∷◌, ◌++◌, refl, sym, ap, ◌∙◌, length, take, get_or, MatchBool, ◌==◌, eqb-true, Firm, of, Request, Reply, Heard, Kind, OfMatter, OfActs, OfItems, NotRead, kind_of, Own, OwnAsk, OwnActs, OwnLine, OwnRefusal, heard, names, kind_names, concerns, kind_concerns, own_if, own_of, kind_own, project, told, asked_on, is_the, is_fault_reply, json_reply, reply_of, refused, firm_step, kind_step, IsStopped, Steps, Runs, IsUnstopped, own_reply, own_rows, solo_rows, solo_replies, arith, ints, nat_tests}
use Rattle.std.specs.List.{list_any}
use Rattle.std.proofs.lemmas.Bool.{or_parts, false≢true}
use Rattle.trail_laws.specs.Dossier.{Dossier}
use Rattle.trust_desk.specs.Acts.{acts_for, dossier_of}
use Rattle.trust_desk.specs.Isolation.{IsOwn, EachMatterOwn, SameForTheMatter, SameByRowsAlone, asks_for_acts}
use Rattle.trust_desk.specs.Solo.{own_dossier, solo_dossier}
use Rattle.trust_desk.proofs.OwnItems.{solo_replies-append, silent-items}
use Rattle.trust_desk.proofs.OwnDossiers.{kind-dossier, none-own, solo-append, stopped-other}

-- A step is for each matter that of its own machine.

-- the reply, where it is to the matter
abbrev pub reply_if : Bool → Reply → List Reply
reply_if b reply = cond b (reply ∷ []) []

-- what a matter is told, and its rows and acts afterwards, are those of its machine
pub record IsOwnStep (m day : ℕ) (firm : Firm) (h : Heard) (reply : Reply) (new : Firm) : Type 0 where
  pub answers : reply_if (names m h) reply ≡ solo_replies m (dossier_of m firm) (own_of m day h)
  pub dossier : dossier_of m new ≡ solo_dossier (dossier_of m firm) (own_of m day h)

kind-reply : (m day : ℕ) (firm : Firm) (k : Kind) → reply_if (kind_names m k) (kind_step day firm k).reply ≡ solo_replies m (dossier_of m firm) (kind_own m day k)
kind-reply m day firm (OfMatter n caller ask) =
    let a = asked_on day caller ask in
    elim (n == m) as (λ b. (n == m) ≡ b → reply_if b (reply_of n (of n firm) a) ≡ solo_replies m (dossier_of m firm) (own_if b (OwnAsk a))) [
      | true ↦ λ same. ap (λ k. reply_of k (of k firm) a ∷ []) (eqb-true n m same)
      | false ↦ λ other. refl
    ] refl
kind-reply m day firm (OfActs n caller) =
    elim (n == m) as (λ b. (n == m) ≡ b → reply_if b (json_reply (acts_for caller day (dossier_of n firm))) ≡ solo_replies m (dossier_of m firm) (own_if b (OwnActs caller day))) [
      | true ↦ λ same. ap (λ k. json_reply (acts_for caller day (dossier_of k firm)) ∷ []) (eqb-true n m same)
      | false ↦ λ other. refl
    ] refl
kind-reply m day firm (OfItems refused items) = sym (silent-items m day (dossier_of m firm) items)
kind-reply m day firm (NotRead n r) =
    elim (is_the m n) as (λ b. reply_if b (refused r) ≡ solo_replies m (dossier_of m firm) (own_if b (OwnRefusal r))) [ true ↦ refl | false ↦ refl ]
kind-reply m day firm _ = refl

pub own-reply : (m day : ℕ) (firm : Firm) (h : Heard) → reply_if (names m h) (firm_step day firm h).reply ≡ solo_replies m (dossier_of m firm) (own_of m day h)
own-reply m day firm h = kind-reply m day firm (kind_of h)

-- A step in a run.

unnamed : (m : ℕ) (k : Kind) → kind_concerns m k ≡ false → kind_names m k ≡ false
unnamed m k other = grind (arith, ints, nat_tests)

-- a step that was not stopped
own-step : (m day : ℕ) (firm new : Firm) (h : Heard) (reply : Reply) → reply ≡ (firm_step day firm h).reply → new ≡ (firm_step day firm h).firm → IsOwnStep m day firm h reply new
own-step m day firm new h reply says leaves = record {
  answers = ap (reply_if (names m h)) says ∙ own-reply m day firm h;
  dossier = ap (dossier_of m) leaves ∙ kind-dossier m day firm (kind_of h);
}

-- a step that does not concern the matter
other-step : (m day : ℕ) (firm new : Firm) (h : Heard) (reply : Reply) → concerns m h ≡ false → dossier_of m new ≡ dossier_of m firm → IsOwnStep m day firm h reply new
other-step m day firm new h reply other same = record {
  answers = ap (λ b. reply_if b reply) named ∙ (ap (λ b. reply_if b (firm_step day firm h).reply) (sym named) ∙ own-reply m day firm h);
  dossier = same ∙ sym (ap (solo_dossier (dossier_of m firm)) (none-own m day (kind_of h) other));
}
  where
    named : names m h ≡ false
    named = unnamed m (kind_of h) other

pub steps-own : (m day : ℕ) (firm new : Firm) (h : Heard) (reply : Reply) → (concerns m h ≡ true → is_fault_reply reply ≡ false) → Steps day firm h reply new → IsOwnStep m day firm h reply new
steps-own m day firm new h reply fine step = cases (concerns m h) refl (is_fault_reply reply) refl step
  where
    cases : (c : Bool) → concerns m h ≡ c → (b : Bool) → is_fault_reply reply ≡ b → MatchBool b (IsStopped day firm h reply new) ((reply ≡ (firm_step day firm h).reply) × (new ≡ (firm_step day firm h).firm)) → IsOwnStep m day firm h reply new
    cases c is false faultless to = own-step m day firm new h reply to.0 to.1
    cases true is true fault stopped = let good = fine is in absurd (cc)
    cases false is true fault stopped = other-step m day firm new h reply is (stopped-other m day firm new (kind_of h) stopped.leaves is)

-- A run.

-- a machine's rows do not depend on its acts
pub dossier-rows : (p : Dossier) (owns : List Own) → (solo_dossier p owns).rows ≡ solo_rows p.rows owns
dossier-rows p [] = refl
dossier-rows p (OwnAsk a ∷ owns) = dossier-rows (own_dossier p (OwnAsk a)) owns
dossier-rows p (OwnActs caller day ∷ owns) = dossier-rows p owns
dossier-rows p (OwnRefusal r ∷ owns) = dossier-rows p owns
dossier-rows p (OwnLine l day ∷ owns) = dossier-rows (own_dossier p (OwnLine l day)) owns

told-more : (b : Bool) (reply : Reply) (rs : List Reply) → cond b (reply ∷ rs) rs ≡ reply_if b reply ++ rs
told-more b reply rs = grind (arith, ints, nat_tests)

-- what is told, and the dossier afterwards
record IsOwnRun (m day : ℕ) (firm : Firm) (hs : List Heard) (replies : List Reply) (new : Firm) : Type 0 where
  pub answers : told m hs replies ≡ solo_replies m (dossier_of m firm) (project m day hs)
  pub dossier : dossier_of m new ≡ solo_dossier (dossier_of m firm) (project m day hs)

-- one more step in front
own-more : (m day : ℕ) (firm mid new : Firm) (h : Heard) (hs : List Heard) (reply : Reply) (replies : List Reply) → IsOwnStep m day firm h reply mid → IsOwnRun m day mid hs replies new → IsOwnRun m day firm (h ∷ hs) (reply ∷ replies) new
own-more m day firm mid new h hs reply replies one more = record {
  answers =
      told-more (names m h) reply (told m hs replies)
      ∙ ((λ i. one.answers i ++ (more.answers ∙ ap (λ (p : Dossier). solo_replies m p (project m day hs)) one.dossier) i)
      ∙ sym (solo_replies-append m (dossier_of m firm) (own_of m day h) (project m day hs)));
  dossier = more.dossier ∙ (ap (λ (p : Dossier). solo_dossier p (project m day hs)) one.dossier ∙ sym (solo-append (dossier_of m firm) (own_of m day h) (project m day hs)));
}

each-run : (m day : ℕ) (firm : Firm) (hs : List Heard) (replies : List Reply) (new : Firm) → IsUnstopped m hs replies → Runs day firm hs replies new → IsOwnRun m day firm hs replies new
each-run m day firm [] [] new fine run = record { answers = refl; dossier = ap (dossier_of m) run }
each-run m day firm (h ∷ hs) (reply ∷ replies) new fine run =
    own-more m day firm run.0 new h hs reply replies (steps-own m day firm run.0 h reply fine.0 run.1) (each-run m day run.0 hs replies new fine.1 run.2)
each-run m day firm _ _ new fine run = absurd run

pub each-own : EachMatterOwn
each-own m day firm hs replies new fine run =
    let own = each-run m day firm hs replies new fine run in
    record {
      answers = own.answers;
      dossier = own.dossier;
      rows = ap (λ (p : Dossier). p.rows) own.dossier ∙ dossier-rows (dossier_of m firm) (project m day hs);
    }

-- two machines that reply the same are two runs that tell the matter the same
same-machine : (m d e : ℕ) (f g : Firm) (ps qs : List Heard) (rs ss : List Reply) (f' g' : Firm)
    → solo_replies m (dossier_of m f) (project m d ps) ≡ solo_replies m (dossier_of m g) (project m e qs)
    → IsUnstopped m ps rs → IsUnstopped m qs ss → Runs d f ps rs f' → Runs e g qs ss g'
    → told m ps rs ≡ told m qs ss
same-machine m d e f g ps qs rs ss f' g' same fine well here there =
    (each-own m d f ps rs f' fine here).answers ∙ (same ∙ sym (each-own m e g qs ss g' well there).answers)

pub same-for_the_matter : SameForTheMatter
same-for_the_matter m d e f g ps qs rs ss f' g' same heard fine well here there = (
  same-machine m d e f g ps qs rs ss f' g' (λ i. solo_replies m (same i) (heard i)) fine well here there,
  (each-own m d f ps rs f' fine here).dossier
      ∙ ((λ i. solo_dossier (same i) (heard i)) ∙ sym (each-own m e g qs ss g' well there).dossier),
)

-- where nobody asks for the acts, a machine's replies do not depend on them
one-silent : (m : ℕ) (p q : Dossier) (own : Own) → p.rows ≡ q.rows → asks_for_acts own ≡ false → own_reply m p own ≡ own_reply m q own
one-silent m p q (OwnAsk a) same none = ap (λ rows. reply_of m rows a ∷ []) same
one-silent m p q (OwnActs caller day) same none = absurd (false≢true (sym none))
one-silent m p q (OwnRefusal r) same none = refl
one-silent m p q (OwnLine l day) same none = refl

one-moves : (p q : Dossier) (own : Own) → p.rows ≡ q.rows → (own_dossier p own).rows ≡ (own_dossier q own).rows
one-moves p q own same = dossier-rows p (own ∷ []) ∙ (ap (λ rows. own_rows rows own) same ∙ sym (dossier-rows q (own ∷ [])))

rows-decide : (m : ℕ) (p q : Dossier) (owns : List Own) → p.rows ≡ q.rows → list_any asks_for_acts owns ≡ false → solo_replies m p owns ≡ solo_replies m q owns
rows-decide m p q [] same none = refl
rows-decide m p q (own ∷ owns) same none =
    let parts = or_parts (asks_for_acts own) (list_any asks_for_acts owns) none in
    (λ i. one-silent m p q own same parts.0 i ++ rows-decide m (own_dossier p own) (own_dossier q own) owns (one-moves p q own same) parts.1 i)

-- a step tells a matter the same, where its acts are not asked for
pub same-reply_by_rows : (m day : ℕ) (f g : Firm) (h : Heard) → names m h ≡ true → list_any asks_for_acts (own_of m day h) ≡ false → of m f ≡ of m g → (firm_step day f h).reply ≡ (firm_step day g h).reply
same-reply_by_rows m day f g h named none same =
    cases (names m h) named (own-reply m day f h ∙ (rows-decide m (dossier_of m f) (dossier_of m g) (own_of m day h) same none ∙ sym (own-reply m day g h)))
  where
    cases : (b : Bool) → b ≡ true → reply_if b (firm_step day f h).reply ≡ reply_if b (firm_step day g h).reply → (firm_step day f h).reply ≡ (firm_step day g h).reply
    cases true e both = ap (λ rs. get_or rs 0 (firm_step day f h).reply) both
    cases false e both = absurd (cc)

pub same-by_rows_alone : SameByRowsAlone
same-by_rows_alone m d e f g ps qs rs ss f' g' same heard none fine well here there = (
  same-machine m d e f g ps qs rs ss f' g'
      (rows-decide m (dossier_of m f) (dossier_of m g) (project m d ps) same none ∙ ap (solo_replies m (dossier_of m g)) heard) fine well here there,
  (each-own m d f ps rs f' fine here).rows
      ∙ ((λ i. solo_rows (same i) (heard i)) ∙ sym (each-own m e g qs ss g' well there).rows),
)

-- the replies to the first requests
pub own-run : (m day : ℕ) (firm new : Firm) (requests : List Request) (i : ℕ) (replies all : List Reply) → all ≡ replies → length replies ≡ i → Runs day firm (heard (take i requests)) replies new → IsUnstopped m (heard (take (length all) requests)) all → IsOwn m day firm (heard (take (length all) requests)) all new
own-run m day firm new requests i replies all same long run =
    grind (arith, ints, nat_tests, heard, take, length, each-own)

-- a single step
pub own-once : (m day : ℕ) (firm new : Firm) (h : Heard) (reply : Reply) → is_fault_reply reply ≡ false → Steps day firm h reply new → IsOwn m day firm (h ∷ []) (reply ∷ []) new
own-once m day firm new h reply fine step = each-own m day firm (h ∷ []) (reply ∷ []) new ((λ concerned. fine), tt) (new, step, refl)

pub ruleset own_laws = (each-own, same-for_the_matter, same-by_rows_alone)
