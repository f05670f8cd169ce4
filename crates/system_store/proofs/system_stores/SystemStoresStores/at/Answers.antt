use Rattle.system_store.proofs.Openings.{had_found, had_serving}
use Rattle.system_store.proofs.system_stores.SystemStoresStores.at.Goals as goal

pub returns-clause-found : goal.returns-clause-found
returns-clause-found c = had_found _ _ c.book_at.ensures.had

pub returns-clause-serves : goal.returns-clause-serves
returns-clause-serves c = had_serving _ _ c.book_at.ensures.had
