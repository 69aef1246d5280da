-- What looks at pairs return (defined by this project).
use Rattle.std.specs.Prelude.{ℕ, List, map, Option, Vec}
use Rattle.std.specs.Global.{Global}
use Rattle.std.specs.Option.{option_map}
use Rattle.guest_frames.specs.Frames.{PairContent, Frame, of_pairs}
use Rattle.fuse_guest.specs.Pairs.{Pairs, ArePairs}
use Rattle.guest_talk.specs.declared.page.OwnedPair.{OwnedPair}
use Rattle.guest_talk.specs.declared.page.PairPage.{PairPage}

abbrev pub owned_content : OwnedPair → PairContent
owned_content p = record { key = p.key.items; value = p.value.items }

abbrev pub owned_value : Option (Vec ℕ Global) → Option (List ℕ)
owned_value value = option_map (λ x. x.items) value

abbrev pub page_frame : PairPage → Frame
page_frame page = of_pairs (map owned_content page.pairs.items) page.more

-- from the first source to the second these pairs are shown as they are
abbrev pub ShownBy : {P : Type 0} → (P → Pairs → Type 0) → (P → Type 0) → P → P → Pairs → Type 0
ShownBy shows is_honest old new ps = is_honest new × ArePairs ps × shows old ps
