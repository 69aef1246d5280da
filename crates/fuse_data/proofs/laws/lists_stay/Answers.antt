use Rattle.std.proofs.Common.{subst, sym}
use Rattle.std.specs.List.{All}
use Rattle.fuse_data.specs.Extents.{IsWhole}
use Rattle.fuse_data.proofs.Keepings.{lists_kept, lists_kept_after, lists_safe}
use Rattle.fuse_data.proofs.laws.lists_stay.Goals as goal

pub returns : goal.returns
returns g c =
    record {
      seen = lists_kept;
      crash = λ listed gaps old new follows used. lists_kept_after listed gaps _ _ follows used;
      safe = λ listed gaps old new follows used safe. lists_safe listed gaps _ _ follows used safe;
      synced = λ listed old new only whole left may. subst (λ file. All (IsWhole file) listed) (sym (only left may)) whole;
    }
