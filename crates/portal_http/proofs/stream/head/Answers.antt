use Rattle.portal_http.proofs.HeadTexts.{head-of}
use Rattle.portal_http.proofs.stream.head.Goals as goal

pub returns : goal.returns
returns c =
    rw (c.push_piece-7.ensures.items, c.push_number-2.ensures.items, c.push_piece-6.ensures.items, c.push_piece-5.ensures.items, c.push_piece-4.ensures.items, c.push_piece-3.ensures.items, c.push_piece-2.ensures.items, c.push_number.ensures.items, c.push_piece.ensures.items, c.new-text.ensures, c.as_bytes.ensures.value, c.as_bytes-2.ensures.value, c.phrase.ensures.value)
    (head-of c.args.status c.args.kind.now c.args.size)
