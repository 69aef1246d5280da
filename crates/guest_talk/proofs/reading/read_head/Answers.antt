use Rattle.std.proofs.Common.{◌≡◌, ◌++◌, List, ℕ, length, arith, subst, sym, ap, ◌∙◌, Ok, Err}
use Rattle.std.proofs.KnownBytes.{Consumes-trans}
use Rattle.std.proofs.lemmas.List.{length-append}
use Rattle.fuse_guest.specs.declared.fault.TalkFault.TheVariants.{Frame}
use Rattle.guest_frames.specs.declared.fault.GuestFault.TheVariants.{NotDue}
use Rattle.guest_talk.specs.Bytes.{ReadsFault}
use Rattle.guest_talk.specs.inner.Reads.{due_kinds}
use Rattle.guest_talk.proofs.Frames.{joined_bytes, wrong_len, wrong_kind, not_due, whole_head, first_part, first_of}
use Rattle.guest_talk.proofs.reading.read_head.Goals as goal

pub returns-in-Ok-Some-clause-ok : goal.returns-in-Ok-Some-clause-ok
returns-in-Ok-Some-clause-ok g c =
    let first = c.read_bytes.new.bytes in
    let second = c.read_bytes-2.new.bytes in
    let four : length first ≡ 4 = omega arith in
    let more : length second ≡ 4 = omega arith in
    record {
      bytes = first ++ second;
      are = joined_bytes first second c.read_bytes.ensures.fits c.read_bytes-2.ensures.fits;
      long = omega (arith, four, more, length-append first second);
      is = whole_head first second _ four c.read-2.ensures.exact ∙ c.in-Ok-Some.is ∙ ap (λ x. Ok x) c.in-Ok-Some.field-0-is;
      of_due = sym c.has.ensures ∙ c.if-has.true;
      came = Consumes-trans (g.R.Read.remaining c.args.source.now) (g.R.Read.remaining c.read_bytes.new.source) (g.R.Read.remaining c.read_bytes-2.new.source)
          first second c.in_ok-read_bytes.ensures.ok c.in_ok-read_bytes-2.ensures.ok;
    }

pub returns-in-Ok-Some-2-clause-err : goal.returns-in-Ok-Some-2-clause-err
returns-in-Ok-Some-2-clause-err g c =
    let first = c.read_bytes.new.bytes in
    let second = c.read_bytes-2.new.bytes in
    let four : length first ≡ 4 = omega arith in
    let more : length second ≡ 4 = omega arith in
    let came = Consumes-trans (g.R.Read.remaining c.args.source.now) (g.R.Read.remaining c.read_bytes.new.source)
    (g.R.Read.remaining c.read_bytes-2.new.source) first second c.in_ok-read_bytes.ensures.ok c.in_ok-read_bytes-2.ensures.ok in
    subst (λ (n : ℕ). ReadsFault (due_kinds c.args.due) (g.R.Read.remaining c.args.source.now) (g.R.Read.remaining c.read_bytes-2.new.source) (Frame (NotDue n)))
    (sym c.number.ensures)
    (not_due c.numbers_read.ensures (due_kinds c.args.due) (g.R.Read.remaining c.args.source.now) (g.R.Read.remaining c.read_bytes-2.new.source)
    (first ++ second) c.in-Ok-Some.head (omega (arith, four, more, length-append first second))
    (whole_head first second _ four c.read-2.ensures.exact ∙ c.in-Ok-Some.is ∙ ap (λ x. Ok x) c.in-Ok-Some.field-0-is)
    (sym c.has.ensures ∙ c.if-has.false) came)

pub returns-in-Err-read-clause-err : goal.returns-in-Err-read-clause-err
returns-in-Err-read-clause-err g c =
    let first = c.read_bytes.new.bytes in
    let second = c.read_bytes-2.new.bytes in
    let four : length first ≡ 4 = omega arith in
    let more : length second ≡ 4 = omega arith in
    let came = Consumes-trans (g.R.Read.remaining c.args.source.now) (g.R.Read.remaining c.read_bytes.new.source)
    (g.R.Read.remaining c.read_bytes-2.new.source) first second c.in_ok-read_bytes.ensures.ok c.in_ok-read_bytes-2.ensures.ok in
    wrong_kind (due_kinds c.args.due) (g.R.Read.remaining c.args.source.now) (g.R.Read.remaining c.read_bytes-2.new.source) (first ++ second) c.in_default.field-0
    c.in-Err-read.fault (omega (arith, four, more, length-append first second))
    (first_of first second _ four (first_part first _ four c.read.ensures.exact ∙ c.in_default.is))
    (whole_head first second _ four c.read-2.ensures.exact ∙ c.in-Err-read.is) came

pub returns-in-Err-clause-err : goal.returns-in-Err-clause-err
returns-in-Err-clause-err g c =
    let first = c.read_bytes.new.bytes in
    let four : length first ≡ 4 = omega arith in
    wrong_len (due_kinds c.args.due) (g.R.Read.remaining c.args.source.now) (g.R.Read.remaining c.read_bytes.new.source) first c.in-Err.fault four
    (first_part first _ four c.read.ensures.exact ∙ c.in-Err.is) c.in_ok-read_bytes.ensures.ok
