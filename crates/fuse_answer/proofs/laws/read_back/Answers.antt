use Rattle.fuse_answer.proofs.ReadingBack as back
use Rattle.fuse_answer.proofs.laws.read_back.Goals as goal

pub returns : goal.returns
returns c = record {
  said = back.read (c.numbers_read.ensures, c.layouts_stand.ensures);
  entry = back.entry_body c.numbers_read.ensures;
  create = back.create_body c.numbers_read.ensures;
  attributes = back.attributes_body c.numbers_read.ensures;
  opened = back.open_body c.numbers_read.ensures;
  written = back.write_body c.numbers_read.ensures;
  statfs = back.statfs_body c.numbers_read.ensures;
  xattr = back.xattr_body c.numbers_read.ensures;
  lseek = back.lseek_body c.numbers_read.ensures;
  init = back.init_body c.numbers_read.ensures;
  data_bytes = back.data_body;
  listing = back.listing_body c.numbers_read.ensures;
  listing_plus = back.plus_body (c.numbers_read.ensures, c.layouts_stand.ensures);
}
