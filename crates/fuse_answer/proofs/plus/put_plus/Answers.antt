use Rattle.std.proofs.Common.{◌++◌, List, ℕ, ap, ◌∙◌, append_assoc}
use Rattle.fuse_wire.specs.Layout.{form}
use Rattle.fuse_answer.specs.Entries.{directory_entry_of, dirent_parts}
use Rattle.fuse_answer.specs.PlusEntries.{out_bytes}
use Rattle.fuse_answer.proofs.Forms.{on_ok}
use Rattle.fuse_answer.proofs.plus.put_plus.Goals as goal

pub returns : goal.returns
returns c =
    let last : List ℕ = form (dirent_parts (directory_entry_of c.args.plus.now.dirent)) in
    on_ok c.put_dirent.result _ _ (λ put. put ∙ ap (λ (x : List ℕ). x ++ last) c.in_ok-put_out.ensures
    ∙ append_assoc c.args.out.now.items (out_bytes c.args.plus.now.entry_out) last) c.put_dirent.ensures.ok
