-- What SETATTR answers fits, and is read.
use Rattle.std.proofs.Common.{Bool, true, false, if◌then◌else◌, not, Some, None, refl, arith}
use Rattle.std.specs.Prelude.{nat_lt}
use Rattle.fuse_wire.specs.Errnos.{eisdir, einval, efbig}
use Rattle.fuse_wire.specs.Bits.{fattr_size}
use Rattle.fuse_wire.specs.declared.moment.Moment.{Moment}
use Rattle.fuse_request.specs.declared.request.SetattrIn.{SetattrIn}
use Rattle.fuse_answer.specs.Laws.{ReadBack, RecordSizes}
use Rattle.fuse_answer.specs.Replies.{Kind, Attributes}
use Rattle.fuse_tree.specs.State.{State, terms_of, Node, is_dir, is_file}
use Rattle.fuse_tree.specs.Keeping.{agreement_of, valid_of}
use Rattle.fuse_tree.specs.Done.{Done, refuse_for, attr_of, attr_out_of}
use Rattle.fuse_tree.specs.Setting.{has_valid_bit, set_fault, set_attributes, with_set, setattr}
use Rattle.fuse_plan.proofs.Fit.{Fits, Reads, answered, refused_for, refused_reads, answered_reads}

pub setattr_fits : RecordSizes → (s : State) (set : SetattrIn) (now : Moment) (n : Node) → Fits (setattr s set now n)
setattr_fits sizes s set now n =
    refused_for s (set_fault (terms_of s).file_limit set n.mode) _
    (answered (with_set s set now n.number) _ (omega (arith, sizes.1 (attr_out_of (valid_of (agreement_of s)) (attr_of (with_set s set now n.number) (set_attributes set now n))))))

-- ---- it is read

size_reads : {kind : Kind} (s : State) (asked dir file over : Bool) (d : Done) → Reads kind d
    → Reads kind (refuse_for s (if asked then (if dir then Some eisdir else if not file then Some einval else if over then Some efbig else None) else None) d)
size_reads s false dir file over d so = so
size_reads s true true file over d so = refused_reads s eisdir refl
size_reads s true false false over d so = refused_reads s einval refl
size_reads s true false true true d so = refused_reads s efbig refl
size_reads s true false true false d so = so

pub setattr_reads : ReadBack → (s : State) (set : SetattrIn) (now : Moment) (n : Node) → Reads Attributes (setattr s set now n)
setattr_reads back s set now n =
    size_reads s (has_valid_bit set fattr_size) (is_dir n.mode) (is_file n.mode) (nat_lt (terms_of s).file_limit set.size) _
    (answered_reads (with_set s set now n.number) _ (back.attributes (attr_out_of (valid_of (agreement_of s)) (attr_of (with_set s set now n.number) (set_attributes set now n)))))
