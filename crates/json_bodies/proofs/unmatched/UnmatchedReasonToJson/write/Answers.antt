use Rattle.json_bodies.proofs.unmatched.UnmatchedReasonToJson.write.Goals as goal

pub returns-in-Doubled-clause-tokens : goal.returns-in-Doubled-clause-tokens
returns-in-Doubled-clause-tokens c = rw c.in-Doubled.is c.write-in-Doubled.ensures.tokens

pub returns-in-BesideBooked-clause-tokens : goal.returns-in-BesideBooked-clause-tokens
returns-in-BesideBooked-clause-tokens c = rw c.in-BesideBooked.is c.write-in-BesideBooked.ensures.tokens

pub returns-in-FitsSeveral-clause-tokens : goal.returns-in-FitsSeveral-clause-tokens
returns-in-FitsSeveral-clause-tokens c = rw c.in-FitsSeveral.is c.write-in-FitsSeveral.ensures.tokens

pub returns-in-Claimed-clause-tokens : goal.returns-in-Claimed-clause-tokens
returns-in-Claimed-clause-tokens c = rw c.in-Claimed.is c.write-in-Claimed.ensures.tokens

pub returns-in-NoneOfItsAmount-clause-tokens : goal.returns-in-NoneOfItsAmount-clause-tokens
returns-in-NoneOfItsAmount-clause-tokens c = rw c.in-NoneOfItsAmount.is c.write-in-NoneOfItsAmount.ensures.tokens

pub returns-in-Together-clause-tokens : goal.returns-in-Together-clause-tokens
returns-in-Together-clause-tokens c = rw c.in-Together.is c.write-in-Together.ensures.tokens

pub returns-in-OwnMoney-clause-tokens : goal.returns-in-OwnMoney-clause-tokens
returns-in-OwnMoney-clause-tokens c = rw c.in-OwnMoney.is c.write-in-OwnMoney.ensures.tokens

pub returns-in-MovesNothing-clause-tokens : goal.returns-in-MovesNothing-clause-tokens
returns-in-MovesNothing-clause-tokens c = rw c.in-MovesNothing.is c.write-in-MovesNothing.ensures.tokens
