use Rattle.std.proofs.Common.{map, ap, sym, ◌∙◌}
use Rattle.guest_frames.specs.Borrowed.{guest_content, keys_left, scan_content}
use Rattle.guest_frames.specs.Frames.{of_values}
use Rattle.guest_talk.specs.Answered.{incoming_frame}
use Rattle.guest_talk.specs.Showing.{ShownBy, owned_content, owned_value, page_frame}
use Rattle.guest_talk.proofs.Told.{result_not_written, result_told, told_values, told_page, values_kind, pairs_kind}
use Rattle.guest_talk.proofs.telling.told_frame.Goals as goal

pub returns-in_ok-values-in-Get-clause-err : goal.returns-in_ok-values-in-Get-clause-err
returns-in_ok-values-in-Get-clause-err g c =
    let query = incoming_frame c.args.query.now in
    let is = sym (ap guest_content c.in-Get.is) ∙ c.frame.ensures.frame in
    result_not_written c.replies_fit.ensures (ShownBy g.P.PairSource.shows g.P.PairSource.is_honest c.args.pairs.now c.values_of.new.pairs)
    (g.P.PairSource.may_answer c.args.pairs.now) query (of_values (map owned_value c.in_ok-values-in-Get.values.items)) _ c.requires.right
    (λ ps shown. (shown.1, told_values ps query (keys_left c.in-Get.keys) (map owned_value c.in_ok-values-in-Get.values.items) is (c.in_ok-values-in-Get.ensures.ok ps shown)))
    (rw c.deref.ensures.value at c.values_frame.ensures.err)

pub returns-in_ok-page-in-Scan-clause-err : goal.returns-in_ok-page-in-Scan-clause-err
returns-in_ok-page-in-Scan-clause-err g c =
    let query = incoming_frame c.args.query.now in
    let is = sym (ap guest_content c.in-Scan.is) ∙ c.frame.ensures.frame in
    result_not_written c.replies_fit.ensures (ShownBy g.P.PairSource.shows g.P.PairSource.is_honest c.args.pairs.now c.scan.new.self)
    (g.P.PairSource.may_answer c.args.pairs.now) query (page_frame c.in_ok-page-in-Scan.page) _ c.requires.right
    (λ ps shown. (
      shown.1,
      told_page ps query (scan_content c.in-Scan.scan) (page_frame c.in_ok-page-in-Scan.page) is
          (c.in_ok-page-in-Scan.ensures.page shown.0 ps shown.1 shown.2),
    ))
    c.pairs_frame.ensures.err

pub returns-in_ok-values-in-Get-clause-ok : goal.returns-in_ok-values-in-Get-clause-ok
returns-in_ok-values-in-Get-clause-ok g c =
    let query = incoming_frame c.args.query.now in
    let is = sym (ap guest_content c.in-Get.is) ∙ c.frame.ensures.frame in
    result_told (ShownBy g.P.PairSource.shows g.P.PairSource.is_honest c.args.pairs.now c.values_of.new.pairs) query
    (of_values (map owned_value c.in_ok-values-in-Get.values.items)) _
    (values_kind query (keys_left c.in-Get.keys) (map owned_value c.in_ok-values-in-Get.values.items) is)
    (λ ps shown.
    told_values ps query (keys_left c.in-Get.keys) (map owned_value c.in_ok-values-in-Get.values.items) is (c.in_ok-values-in-Get.ensures.ok ps shown))
    (rw c.deref.ensures.value at c.values_frame.ensures.ok)

pub returns-in_ok-page-in-Scan-clause-ok : goal.returns-in_ok-page-in-Scan-clause-ok
returns-in_ok-page-in-Scan-clause-ok g c =
    let query = incoming_frame c.args.query.now in
    let is = sym (ap guest_content c.in-Scan.is) ∙ c.frame.ensures.frame in
    let page = c.in_ok-page-in-Scan.page in
    result_told (ShownBy g.P.PairSource.shows g.P.PairSource.is_honest c.args.pairs.now c.scan.new.self) query (page_frame page) _
    (pairs_kind query (scan_content c.in-Scan.scan) (map owned_content page.pairs.items) page.more is)
    (λ ps shown.
    told_page ps query (scan_content c.in-Scan.scan) (page_frame page) is (c.in_ok-page-in-Scan.ensures.page shown.0 ps shown.1 shown.2))
    c.pairs_frame.ensures.ok
