use Rattle.trust_desk.proofs.Names.{◌≡◌, ◌∙◌, None, ap, inl, refl, rules, sym, err_from_is_err_and, refusal, of, Json, Memory, json_reply}
use Rattle.trust_matter.specs.declared.ask.Ask.TheVariants as ask
use Rattle.firm_rows.specs.Firm.{acts_of}
use Rattle.json_bodies.specs.Acts.{acts_body}
use Rattle.trust_desk.specs.Acts.{reads_on}
use Rattle.trust_desk.specs.ReportStep.{text_unless}
use Rattle.trust_desk.proofs.Answered.{acts-refused, acts-told, unread-answered}
use Rattle.trust_desk.proofs.Refused.{named-for, refused-by}
use Rattle.trust_desk.proofs.acts.answer_acts.Goals as goal

pub returns-in_err-found : goal.returns-in_err-found
returns-in_err-found g c =
    λ h kind.
    let p = err_from_is_err_and c.from_residual.result c.from_residual.ensures.1 in
    rw (p.1, p.2) (unread-answered c.args.day h c.in_err-found.field-0.0 c.in_err-found.ensures.read)

pub returns-in_err-decide : goal.returns-in_err-decide
returns-in_err-decide g c =
    λ h kind.
    let B = g.B.Book in
    let old = c.args.book.now in
    let rows = of c.args.no (B.seen old).firm in
    let r = c.in_err-decide.field-0.0 in
    let found = c.in_ok-found.ensures in
    let p = err_from_is_err_and c.from_residual-in_err-decide.result c.from_residual-in_err-decide.ensures.1 in
    rw (p.1, p.2)
    (acts-refused c.args.day h c.args.no c.args.caller.now kind r found.read
    (λ served stood.
    let is = named-for rows ask.Show None None c.in_ok-found.found.matter refl refl refl (found.part served stood) in
    refused-by (refusal rows (reads_on c.args.day c.args.caller.now)) r
    (c.in_err-decide.ensures.decided is.held rows (((B.seen old).sound stood).matters c.args.no) is.is_part)))

pub returns-in_err-text : goal.returns-in_err-text
returns-in_err-text g c =
    λ h kind.
    let p = err_from_is_err_and c.from_residual-in_err-text.result c.from_residual-in_err-text.ensures.1 in
    rw (p.1, p.2)
    (acts-refused c.args.day h c.args.no c.args.caller.now kind Memory c.in_ok-found.ensures.read (λ served stood. record { why = inl refl; told = refl }))

pub returns : goal.returns
returns g c =
    λ h kind.
    let B = g.B.Book in
    let old = c.args.book.now in
    let no = c.args.no in
    let firm = (B.seen old).firm in
    let found = c.in_ok-found.ensures in
    acts-told c.args.day h no c.args.caller.now kind (record { status = 200; body = Json c.new.result }) refl found.read
    (λ served stood.
    let is = named-for (of no firm) ask.Show None None c.in_ok-found.found.matter refl refl refl (found.part served stood) in
    let decided = c.in_ok-decide.ensures.decided is.held (of no firm) (((B.seen old).sound stood).matters no) is.is_part in
    let lent : c.deref.result.now ≡ acts_of no firm = search (rules, found.acts served stood) in
    let told : c.new.result ≡ acts_body (acts_of no firm) = c.new.ensures ∙ (c.in_ok-text.ensures ∙ ap acts_body lent) in
    (λ i. record { status = 200; body = Json (told i) }) ∙ sym (ap (λ o. json_reply (text_unless o (acts_body (acts_of no firm)))) decided.accepted))
