-- What a scan of a guest's store shows (defined by this project: the guest protocol, 'A life').
use Rattle.std.specs.Prelude.{◌≡◌, nat_lt, List, map, length}
use Rattle.guest_frames.specs.Frames.{PairContent, ScanContent}
use Rattle.fuse_guest.specs.Pairs.{Pairs}
use Rattle.fuse_guest.specs.Telling.{scanned, pairs_told}
use Rattle.guest_tables.specs.declared.owned_pair.OwnedPair.{OwnedPair}
use Rattle.guest_tables.specs.declared.owned_pair.PairPage.{PairPage}

abbrev pub owned_content : OwnedPair → PairContent
owned_content p = record { key = p.key.items; value = p.value.items }

abbrev pub owned_contents : List OwnedPair → List PairContent
owned_contents ps = map owned_content ps

-- the pairs of PAIRS, and whether there are more
pub record ShowsScan (ps : Pairs) (s : ScanContent) (t : PairPage) : Type 0 where
  pub pairs : owned_contents t.pairs.items ≡ pairs_told ps s
  pub more : t.more ≡ nat_lt (length (pairs_told ps s)) (length (scanned s ps))
