use Rattle.std.proofs.Common.{ap, ◌∙◌}
use Rattle.fuse_guest.specs.Telling.{pairs_told, scan_told}
use Rattle.fuse_guest.specs.Pairs.{Pairs}
use Rattle.guest_frames.specs.Borrowed.{scan_content}
use Rattle.guest_frames.specs.Frames.{of_pairs}
use Rattle.guest_tables.specs.Holding.{GuestHolding, holding_in}
use Rattle.guest_store.proofs.table_pairs.TablePairsPairSource.scan.Goals as goal

pub returns-clause-page : goal.returns-clause-page
returns-clause-page g c = λ clean ps fit shown.
    let (k, held, right, is) = shown.inside.holds in
    let told = c.in_ok-page.ensures.shown clean k (record { is_open = shown.inside.is_open; in_transaction = shown.inside.in_transaction; holds = held }) in
    let at = ap (λ (h : GuestHolding). h.state.pairs) is ∙ shown.pairs in
    ap (λ l. of_pairs l c.in_ok-page.page.more) (c.in_ok-listed.ensures ∙ told.pairs) ∙ ap (λ more. of_pairs (pairs_told (holding_in k).state.pairs (scan_content c.args.scan.now)) more) told.more
    ∙ ap (λ (qs : Pairs). scan_told qs (scan_content c.args.scan.now)) at
