use Rattle.fuse_data.specs.State.{state_of}
use Rattle.guest_values.proofs.Lasting.{serves_begun, serves_ordered}
use Rattle.guest_values.proofs.laws.lists_serve.Goals as goal

pub returns : goal.returns
returns g c = record {
  begins = λ listed f rests. serves_begun (state_of g.D.Disk f.file) listed f.put.items f.gone.items rests;
  ordered = λ committed now others f same serves. serves_ordered (state_of g.D.Disk f.file) committed now others f.put.items f.gone.items same serves;
}
