use Rattle.five_files.proofs.Fits.{files_are_sound}
use Rattle.five_files.proofs.files.FiveFilesFileSystem.model_is_sound.Goals as goal

pub returns : goal.returns
returns c = files_are_sound c.record_sizes.ensures
