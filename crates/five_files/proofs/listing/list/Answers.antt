use Rattle.std.proofs.Common.{◌≡◌, List, map, ap, subst, ◌∙◌}
use Rattle.std.specs.Prelude.{IfOk}
use Rattle.fuse_answer.specs.Entries.{DirectoryEntry, directory_entry_of}
use Rattle.five_files.specs.Listing as listing
use Rattle.five_files.proofs.Prefixes.{after_is}
use Rattle.five_files.proofs.listing.list.Goals as goal

pub returns : goal.returns
returns c =
    subst (λ (es : List DirectoryEntry). IfOk c.list_prefix.result (λ answer. answer ≡ listing.list es c.args.size))
    (ap (map directory_entry_of) c.after.ensures ∙ after_is c.all_dirents-dirents.result c.args.offset c.all_dirents-dirents.ensures.entries)
    c.list_prefix.ensures
