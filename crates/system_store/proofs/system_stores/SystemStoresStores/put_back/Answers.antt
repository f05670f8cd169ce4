use Rattle.system_store.proofs.Openings.{put_back}
use Rattle.system_store.proofs.system_stores.SystemStoresStores.put_back.Goals as goal

pub returns-in-Ok : goal.returns-in-Ok
returns-in-Ok c = record {
  put = put_back _ _ c.in-Ok._files c.release.ensures.same c.in-Ok.ensures.copied c.in-Ok.ensures.settled;
}
