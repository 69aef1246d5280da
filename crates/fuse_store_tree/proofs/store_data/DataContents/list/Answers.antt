use Rattle.std.proofs.Common.{◌≡◌, ◌<◌, length, arith, ap, sym, subst}
use Rattle.fuse_data.specs.Space.{InUse}
use Rattle.fuse_data.specs.State.{state_in}
use Rattle.fuse_store_tree.specs.inner.Laws.{still_data}
use Rattle.fuse_store_tree.specs.inner.Preparing.{Finds, HidesNone}
use Rattle.fuse_store_tree.proofs.Asides.{lists_widens, lists_here, lists_same, lists_apart}
use Rattle.fuse_store_tree.proofs.store_data.DataContents.list.Goals as goal

pub returns-clause-shows : goal.returns-clause-shows
returns-clause-shows g c = λ yes.
    let s = state_in g.D.Disk c.args.self.now.file in
    let ws = c.args.self.now.written.items in
    let e = c.args.extent in
    let i = c.place_of-i.result in
    let same : c.as_slice-written.result.now ≡ ws = c.as_slice-written.ensures.value in
    let finds : Finds ws e i = subst (λ l. Finds l e i) same c.place_of-i.ensures in
    let is = c.shows.ensures.shown c.if-not-shows.false in
    let hides : HidesNone ws i e = subst (λ l. HidesNone l i e) same is.2 in
    let used : InUse s.gaps e = subst (λ o. InUse (state_in g.D.Disk o).gaps e) (sym c.in-Some.is) is.1 in
    let at = finds.low in
    let long = ap length same in
    let low : i < length ws = omega (arith, at, long, c.if-i-written.false) in
    record {
      widens = record { contents = still_data s; clean = λ clean. clean; kept = lists_widens s ws i e is.0 used hides low (λ d. finds.found d low) (λ d. finds.unlisted d low) };
      here = lists_here s ws i e is.0 used hides low (λ d. finds.found d low) (λ d. finds.unlisted d low);
      same = lists_same s ws i e is.0 used hides low (λ d. finds.found d low) (λ d. finds.unlisted d low);
      apart = lists_apart s ws i e is.0 used hides low (λ d. finds.found d low) (λ d. finds.unlisted d low);
    }
