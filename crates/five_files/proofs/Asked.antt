-- What requests other than INIT and DESTROY ask for.
use Rattle.std.proofs.Common.{◌≡◌, true, None, refl}
use Rattle.fuse_request.specs.declared.request.InitIn.{InitIn}
use Rattle.fuse_request.specs.declared.request.Op.{Op}
use Rattle.fuse_request.specs.declared.request.Op.TheVariants as ops
use Rattle.fuse_request.specs.Act.{act}
use Rattle.five_files.specs.Asking.{names_node, offer_of}

pub looks_at_node : (op : Op) → ¬ (op ≡ ops.Destroy) → names_node (act op) ≡ true
looks_at_node ops.Destroy h = absurd (h refl)
looks_at_node _ h = refl

pub offers_nothing : (op : Op) → ((offer : InitIn) → ¬ (op ≡ ops.Init offer)) → offer_of (act op) ≡ None
offers_nothing (ops.Init offer) h = absurd (h offer refl)
offers_nothing _ h = refl
