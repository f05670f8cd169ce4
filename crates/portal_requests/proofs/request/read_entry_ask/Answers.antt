use Rattle.portal_requests.proofs.Names.{◌∙◌, sym, err_from_is_err_and}
use Rattle.trust_matter.specs.declared.ask.Ask.TheVariants as ask
use Rattle.portal_requests.specs.declared.routes.EntryPlace.TheVariants as entry
use Rattle.portal_requests.proofs.AskFacts.{asked-of}
use Rattle.portal_requests.proofs.request.read_entry_ask.Goals as goal

pub returns-in_err-read_split_in-in-Offer : goal.returns-in_err-read_split_in-in-Offer
returns-in_err-read_split_in-in-Offer c =
    let told = err_from_is_err_and c.from_residual-in_err-read_split_in-in-Offer.result c.from_residual-in_err-read_split_in-in-Offer.ensures.1 in
    asked-of entry.Offer _ c.args.entry.now c.args.body.now _ _ c.in-Offer.is
    (sym c.read.ensures.value ∙ c.in_ok-number.ensures.ok_part) (rw (told.1, told.2) (c.in_err-read_split_in-in-Offer.ensures.err ask.Offer))

pub returns-in_err-read_split_in-in-Accept : goal.returns-in_err-read_split_in-in-Accept
returns-in_err-read_split_in-in-Accept c =
    let told = err_from_is_err_and c.from_residual-in_err-read_split_in-in-Accept.result c.from_residual-in_err-read_split_in-in-Accept.ensures.1 in
    asked-of entry.Accept _ c.args.entry.now c.args.body.now _ _ c.in-Accept.is
    (sym c.read.ensures.value ∙ c.in_ok-number.ensures.ok_part) (rw (told.1, told.2) (c.in_err-read_split_in-in-Accept.ensures.err ask.Accept))

pub returns-in_err-read_split_in-in-Award : goal.returns-in_err-read_split_in-in-Award
returns-in_err-read_split_in-in-Award c =
    let told = err_from_is_err_and c.from_residual-in_err-read_split_in-in-Award.result c.from_residual-in_err-read_split_in-in-Award.ensures.1 in
    asked-of entry.Award _ c.args.entry.now c.args.body.now _ _ c.in-Award.is
    (sym c.read.ensures.value ∙ c.in_ok-number.ensures.ok_part) (rw (told.1, told.2) (c.in_err-read_split_in-in-Award.ensures.err ask.Award))
