use Rattle.command_line.proofs.Names.{◌≡◌, ◌+◌, length, min, rules}
use Rattle.command_line.proofs.AdviceFacts.{lacks-at}
use Rattle.command_line.proofs.faults.is_value_lacking.Goals as goal

pub returns-in-WantsValue-front_of : goal.returns-in-WantsValue-front_of
returns-in-WantsValue-front_of c = λ _.
    let next_is : c.min-next.result ≡ min (c.args.place + 2) (length c.args.words.now) = search rules in
    lacks-at c.args.words.now c.args.place _ next_is c.in-WantsCommand.ensures c.in-WantsValue.ensures c.in-WantsValue-front_of.ensures
