-- A person's every request is answered by the person's own matters.
use Rattle.desk_laws.proofs.Names.{Bool, List, Some, ap, arith, false, refl, subst, sym, true, ℕ, ◌∙◌, ◌≡◌, nat_tests, Rows, Ask, refusal, Firm, of, Asks, asked_on, firm_step, import_refusal, replied, refused, reply_of, json_reply}
use Rattle.std.specs.Prelude.{is_some, ◌||◌, Ok, Err}
use Rattle.trust_matter.specs.declared.ask.Ask.TheVariants.{Show}
use Rattle.firm_rows.specs.Firm.{acts_of}
use Rattle.json_bodies.specs.Acts.{acts_body}
use Rattle.trust_desk.specs.Acts.{acts_for, dossier_of}
use Rattle.trust_desk.specs.ReportStep.{text_unless}
use Rattle.trust_base.specs.declared.refusal.Refusal.TheVariants.{NoMatter}
use Rattle.matter_rows.specs.declared.act.Caller.{Caller}
use Rattle.matter_rows.specs.declared.act.Caller.TheVariants.{Person}
use Rattle.json_bodies.specs.ListLaws.{AgreeFor, has_seat}
use Rattle.json_bodies.proofs.Own.{persons-own}
use Rattle.trust_desk.specs.declared.requests.Request.{Request}
use Rattle.trust_desk.specs.declared.requests.MatchText.{MatchText}
use Rattle.trust_desk.specs.declared.requests.MatchText.TheVariants as part
use Rattle.trust_desk.specs.declared.requests.Request.TheVariants.{Matter, Import, Match, Dismiss, Report, Trail, Acts, Listed, Reasons}
use Rattle.trust_desk.specs.declared.requests.CallerList.TheVariants.{Matters, Waiting}
use Rattle.desk_laws.specs.ToldOwn.{EachIsToldOwn}

-- without a seat there is no matter, whatever is asked
no-matter : (person : List ℕ) (rows : Rows) (ask : Ask) (day : ℕ) → has_seat person rows ≡ false → refusal rows (asked_on day (Person person) ask) ≡ Some NoMatter
no-matter person rows ask day none = grind (arith, nat_tests)

hidden : (m : ℕ) (person : List ℕ) (rows : Rows) (ask : Ask) (day : ℕ) → has_seat person rows ≡ false → reply_of m rows (asked_on day (Person person) ask) ≡ refused NoMatter
hidden m person rows ask day none = ap (λ o. replied o m rows (asked_on day (Person person) ask)) (no-matter person rows ask day none)

neither : (a b : Bool) → (a || b) ≡ false → (a ≡ false) × (b ≡ false)
neither a b is = grind (arith, nat_tests)

-- a person's import is refused
no-import : (person : List ℕ) (bytes : List ℕ) → is_some (import_refusal (Person person) bytes) ≡ true
no-import person bytes = grind (arith, nat_tests)

told : (day : ℕ) (person : List ℕ) (f g : Firm) → AgreeFor person f g → (m : ℕ) (ask : Ask) → reply_of m (of m f) (asked_on day (Person person) ask) ≡ reply_of m (of m g) (asked_on day (Person person) ask)
told day person f g agree m ask = cases (has_seat person (of m f) || has_seat person (of m g)) refl
  where
    cases : (b : Bool) → (has_seat person (of m f) || has_seat person (of m g)) ≡ b → reply_of m (of m f) (asked_on day (Person person) ask) ≡ reply_of m (of m g) (asked_on day (Person person) ask)
    cases true is = ap (λ rows. reply_of m rows (asked_on day (Person person) ask)) (agree m is)
    cases false is =
        let none = neither _ _ is in
        hidden m person (of m f) ask day none.0 ∙ sym (hidden m person (of m g) ask day none.1)

no-acts : (day m : ℕ) (person : List ℕ) (f : Firm) → has_seat person (of m f) ≡ false → acts_for (Person person) day (dossier_of m f) ≡ Err NoMatter
no-acts day m person f none = ap (λ o. text_unless o (acts_body (acts_of m f))) (no-matter person (of m f) Show day none)

told-acts : (day : ℕ) (person : List ℕ) (f g : Firm) → AgreeFor person f g → (m : ℕ)
    → ((has_seat person (of m f) || has_seat person (of m g)) ≡ true → acts_of m f ≡ acts_of m g)
    → json_reply (acts_for (Person person) day (dossier_of m f)) ≡ json_reply (acts_for (Person person) day (dossier_of m g))
told-acts day person f g agree m acts = cases (has_seat person (of m f) || has_seat person (of m g)) refl
  where
    cases : (b : Bool) → (has_seat person (of m f) || has_seat person (of m g)) ≡ b
        → json_reply (acts_for (Person person) day (dossier_of m f)) ≡ json_reply (acts_for (Person person) day (dossier_of m g))
    cases true is = λ i. json_reply (acts_for (Person person) day (record { rows = agree m is i; acts = acts is i }))
    cases false is =
        let none = neither _ _ is in
        ap json_reply (no-acts day m person f none.0 ∙ sym (no-acts day m person g none.1))

-- what the person asks of the firm is refused alike
imports : (day : ℕ) (person bytes : List ℕ) (f g : Firm) → (firm_step day f (Asks (Import (Person person) bytes))).reply ≡ (firm_step day g (Asks (Import (Person person) bytes))).reply
imports day person bytes f g = grind (arith, nat_tests, no-import)

matches : (day : ℕ) (person bytes : List ℕ) (text : MatchText) (f g : Firm) → (firm_step day f (Asks (Match (Person person) bytes text))).reply ≡ (firm_step day g (Asks (Match (Person person) bytes text))).reply
matches day person bytes part.Statement f g = grind (arith, nat_tests, no-import)
matches day person bytes part.Unmatched f g = grind (arith, nat_tests, no-import)

-- the replies are alike for the caller that the person is
alike : (day : ℕ) (person : List ℕ) (f g : Firm) (made : Caller → Request) (caller : Caller) → caller ≡ Person person
    → (firm_step day f (Asks (made (Person person)))).reply ≡ (firm_step day g (Asks (made (Person person)))).reply
    → (firm_step day f (Asks (made caller))).reply ≡ (firm_step day g (Asks (made caller))).reply
alike day person f g made caller by same =
    subst (λ c. (firm_step day f (Asks (made c))).reply ≡ (firm_step day g (Asks (made c))).reply) (sym by) same

pub told-own : EachIsToldOwn
told-own day person f g (Matter m caller ask) first second by agree acts = alike day person f g (λ c. Matter m c ask) caller by (told day person f g agree m ask)
told-own day person f g (Import caller bytes) first second by agree acts = alike day person f g (λ c. Import c bytes) caller by (imports day person bytes f g)
told-own day person f g (Match caller bytes text) first second by agree acts = alike day person f g (λ c. Match c bytes text) caller by (matches day person bytes text f g)
told-own day person f g (Dismiss caller line) first second by agree acts = alike day person f g (λ c. Dismiss c line) caller by refl
told-own day person f g (Report caller report) first second by agree acts = alike day person f g (λ c. Report c report) caller by refl
told-own day person f g (Trail caller m) first second by agree acts = alike day person f g (λ c. Trail c m) caller by refl
told-own day person f g (Acts caller m) first second by agree acts = alike day person f g (λ c. Acts c m) caller by (told-acts day person f g agree m acts)
told-own day person f g (Reasons caller) first second by agree acts = alike day person f g (λ c. Reasons c) caller by refl
told-own day person f g (Listed caller Matters) first second by agree acts =
    alike day person f g (λ c. Listed c Matters) caller by (ap (λ body. json_reply (Ok body)) (persons-own person f g first second agree).matters)
told-own day person f g (Listed caller Waiting) first second by agree acts =
    alike day person f g (λ c. Listed c Waiting) caller by (ap (λ body. json_reply (Ok body)) (persons-own person f g first second agree).waiting)
