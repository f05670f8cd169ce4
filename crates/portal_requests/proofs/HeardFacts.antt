-- What the desk hears of a message.
use Rattle.portal_requests.proofs.Names.{◌≡◌, Ok, Err, ap, Refusal, Request, Asks, Unread, Message, path_of, named_in, heard_as, heard_of, request}

pub heard-asks : (m : Message) (r : Request) → request m ≡ Ok r → heard_of m ≡ Asks r
unfolding heard_of
heard-asks m r e = ap (heard_as (named_in (path_of m.target))) e

pub heard-unread : (m : Message) (why : Refusal) → request m ≡ Err why → heard_of m ≡ Unread (named_in (path_of m.target)) why
unfolding heard_of
heard-unread m why e = ap (heard_as (named_in (path_of m.target))) e
