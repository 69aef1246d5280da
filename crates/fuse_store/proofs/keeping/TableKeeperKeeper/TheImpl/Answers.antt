use Rattle.fuse_store.proofs.Serving.{under_any}
use Rattle.fuse_store.proofs.keeping.TableKeeperKeeper.TheImpl.Goals as goal

pub perform-tells : goal.perform-tells
perform-tells g = λ x c. record {
  count = c.ensures.count;
  called = c.ensures.called;
  may = c.ensures.may;
  ok = c.ensures.ok;
  looked = c.ensures.looked;
  acts = c.ensures.acts;
  others = c.ensures.others;
  lots = c.ensures.lots;
  crash = c.ensures.crash;
  crash_acts = c.ensures.crash_acts;
  firm = under_any _ _ _ c.result c.ensures.firm;
  same = tt;
  asked = tt;
}
