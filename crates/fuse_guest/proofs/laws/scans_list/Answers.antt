use Rattle.std.proofs.Common.{refl}
use Rattle.fuse_guest.proofs.Pages.{full}
use Rattle.fuse_guest.proofs.Ordered.{filter_are}
use Rattle.fuse_guest.proofs.Values.{within_by}
use Rattle.fuse_guest.specs.Pairs.{is_in_range}
use Rattle.fuse_guest.specs.Telling.{limited, scanned}
use Rattle.fuse_guest.proofs.laws.scans_list.Goals as goal

pub returns : goal.returns
returns c = record {
  ordered = λ ps from to are. filter_are (λ p. is_in_range from to p.key) ps are;
  exact = λ ps from to key. within_by (is_in_range from to key) ps from to key refl;
  told = λ ps s. full (limited s.limit (scanned s ps));
}
