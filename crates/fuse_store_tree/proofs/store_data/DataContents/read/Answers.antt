use Rattle.std.proofs.Common.{◌≡◌, length, sym, subst, ap, ◌∙◌}
use Rattle.fuse_data.specs.Extents.{IsWhole, bytes_of}
use Rattle.fuse_data.specs.State.{state_of, state_in}
use Rattle.fuse_store_tree.specs.Pieces.{ReadsFile}
use Rattle.fuse_store_tree.specs.Viewing.{is_hidden, shown, view_of}
use Rattle.fuse_store_tree.specs.inner.Preparing.{HidesNone}
use Rattle.fuse_store_tree.proofs.Asides.{whole_shows, view_read}
use Rattle.fuse_store_tree.proofs.Views.{view_whole, whole_in_use}
use Rattle.fuse_store_tree.proofs.store_data.DataContents.read.Goals as goal

pub returns-in-Err-clause-fault : goal.returns-in-Err-clause-fault
returns-in-Err-clause-fault g c = λ read whole.
    let s = state_of g.D.Disk c.read_whole.new.file in
    c.in-Err.ensures.fault read (view_whole (is_hidden s.gaps c.args.self.now.written.items) s.seen c.args.extent whole)

pub returns-then-not-shows-clause-fault : goal.returns-then-not-shows-clause-fault
returns-then-not-shows-clause-fault g c = λ read whole.
    let s = state_of g.D.Disk c.in-Some.file in
    let ws = c.as_slice-written.result.now in
    let same : ws ≡ c.args.self.now.written.items = c.as_slice-written.ensures.value in
    let here : IsWhole (shown s.gaps ws s.seen) c.args.extent = subst (λ l. IsWhole (shown s.gaps l s.seen) c.args.extent) (sym same) whole in
    absurd (c.shows.ensures.hidden c.if-not-shows.true here.placed (whole_in_use s.gaps ws s.seen c.args.extent here) (whole_shows s ws (length ws) c.args.extent here))

pub returns-in-Ok-clause-bytes : goal.returns-in-Ok-clause-bytes
returns-in-Ok-clause-bytes g c = λ clean.
    let s = state_of g.D.Disk c.in-Some.file in
    let t = state_of g.D.Disk c.read_whole.new.file in
    let ws = c.as_slice-written.result.now in
    let items = c.args.self.now.written.items in
    let same : ws ≡ items = c.as_slice-written.ensures.value in
    let reads = c.in-Ok.ensures.reads in
    let is = c.shows.ensures.shown c.if-not-shows.false in
    let old : IsWhole s.seen c.args.extent = subst (λ file. IsWhole file c.args.extent) reads.seen (c.in-Ok.ensures.whole clean) in
    c.in-Ok.ensures.bytes clean ∙ ap (λ file. bytes_of file c.args.extent) reads.seen ∙ sym (view_read s ws c.args.extent is.1 is.2 old)
    ∙ ap (λ l. bytes_of (shown s.gaps l s.seen) c.args.extent) same ∙ ap (λ g. bytes_of (shown g items s.seen) c.args.extent) (sym reads.gaps)
    ∙ ap (λ f. bytes_of (shown t.gaps items f) c.args.extent) (sym reads.seen)

pub returns-in-Ok-clause-reads : goal.returns-in-Ok-clause-reads
returns-in-Ok-clause-reads g c =
    let items = c.args.self.now.written.items in
    let s = state_of g.D.Disk c.in-Some.file in
    let t = state_of g.D.Disk c.read_whole.new.file in
    let reads = c.in-Ok.ensures.reads in
    let is : ReadsFile (view_of s items) (view_of t items) = record {
      same = ap (λ g. shown g items t.seen) reads.gaps ∙ ap (λ f. shown s.gaps items f) reads.seen;
      clean = reads.clean;
      contents = reads;
    } in
    subst (λ o. ReadsFile (view_of (state_in g.D.Disk o) items) (view_of t items)) (sym c.in-Some.is) is

pub returns-in-Err-clause-reads : goal.returns-in-Err-clause-reads
returns-in-Err-clause-reads g c =
    let items = c.args.self.now.written.items in
    let s = state_of g.D.Disk c.in-Some.file in
    let t = state_of g.D.Disk c.read_whole.new.file in
    let reads = c.in-Err.ensures.reads in
    let is : ReadsFile (view_of s items) (view_of t items) = record {
      same = ap (λ g. shown g items t.seen) reads.gaps ∙ ap (λ f. shown s.gaps items f) reads.seen;
      clean = reads.clean;
      contents = reads;
    } in
    subst (λ o. ReadsFile (view_of (state_in g.D.Disk o) items) (view_of t items)) (sym c.in-Some.is) is

pub read_whole-requires : goal.read_whole-requires
read_whole-requires g c = (c.shows.ensures.shown c.if-not-shows.false).0
