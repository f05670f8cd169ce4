use Rattle.statement_csv.proofs.NamedFacts.{named-found, named-text}
use Rattle.statement_csv.proofs.laws.references.Goals as goal

pub returns-clause-text : goal.returns-clause-text
returns-clause-text c = named-text

pub returns-clause-found : goal.returns-clause-found
returns-clause-found c = named-found
