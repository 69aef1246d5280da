use Rattle.std.proofs.Common.{ℕ, List, Option, IsTrue, refl, subst}
use Rattle.fuse_data.specs.State.{state_of}
use Rattle.fuse_store.specs.TableKeeper.{disk_in}
use Rattle.fuse_store.specs.inner.Opened.{FollowsAny}
use Rattle.fuse_store.proofs.third_data.ThirdDataBeforeCommit.ready.Goals as goal

pub returns-in-Ok-clause-made : goal.returns-in-Ok-clause-made
returns-in-Ok-clause-made g c =
    let on = c.in-Ok.ensures in (
      c.in-Ok.file,
      refl,
      record {
        header = on.header;
        synced = on.synced;
        usable = on.usable;
        clean = λ clean. subst (λ (o : Option _). IsTrue (disk_in g.D.Disk o).is_clean) c.take.ensures.value (on.clean clean);
        follows = subst (λ (o : Option _). FollowsAny (disk_in g.D.Disk o).may_leave (state_of g.D.Disk c.in-Ok.file).may_leave) c.take.ensures.value on.follows;
      },
    )

pub returns-in-Err-clause-left : goal.returns-in-Err-clause-left
returns-in-Err-clause-left g c =
    let on = c.in-Err.ensures in
    record {
      file = refl;
      clean = λ clean. subst (λ (o : Option _). IsTrue (disk_in g.D.Disk o).is_clean) c.take.ensures.value (on.clean clean);
      follows = subst (λ (o : Option _). FollowsAny (disk_in g.D.Disk o).may_leave (disk_in g.D.Disk c.in-Err.disk).may_leave) c.take.ensures.value on.follows;
    }
