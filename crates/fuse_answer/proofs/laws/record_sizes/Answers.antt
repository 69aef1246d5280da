use Rattle.fuse_answer.specs.Bodies.{entry_parts, attr_out_parts, open_parts, write_parts, init_parts}
use Rattle.fuse_answer.specs.Bodies.{entry_bytes, attr_out_bytes, open_bytes, write_bytes, init_bytes}
use Rattle.fuse_answer.proofs.Packings.{length_entries}
use Rattle.fuse_answer.proofs.laws.record_sizes.Goals as goal

pub returns : goal.returns
unfolding entry_bytes attr_out_bytes open_bytes write_bytes init_bytes
returns c =
    let laws = c.layouts_stand.ensures in (
      λ e. laws.form_len (entry_parts e),
      λ a. laws.form_len (attr_out_parts a),
      λ o. laws.form_len (open_parts o),
      λ w. laws.form_len (write_parts w),
      λ i. laws.form_len (init_parts i),
      length_entries laws,
    )
