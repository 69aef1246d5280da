use Rattle.std.proofs.Common.{refl}
use Rattle.sqlite.specs.Files.{file_state}
use Rattle.fuse_files.specs.StoreShown.{image_in}
use Rattle.fuse_files.proofs.Opened.{clean_conn}
use Rattle.fuse_files.proofs.Numbered.{has_number}
use Rattle.fuse_files.proofs.showing.number_of.Goals as goal

pub returns-in-Ok-number_at_rest-clause-number : goal.returns-in-Ok-number_at_rest-clause-number
returns-in-Ok-number_at_rest-clause-number c =
    has_number (image_in c.args.read) (file_state c.in-Ok.conn) c.in-Ok.ensures.opened.0 c.in-Ok.ensures.opened.1 c.in-Ok.ensures.found
    c.in-Ok-number_at_rest.number (c.in-Ok-number_at_rest.ensures.value (clean_conn (λ m. refl) c.number_at_rest.new.conn))
