use Rattle.std.proofs.Common.{rules, ◌≡◌, List, ℕ, true, length, drop, arith, subst, sym, ◌∙◌}
use Rattle.std.specs.Prelude.{is_ok}
use Rattle.std.proofs.lemmas.List.{take_at}
use Rattle.guest_frames.specs.Frames.{frame_bytes, frame_kind}
use Rattle.guest_frames.specs.Kinds.{kind_number}
use Rattle.guest_frames.specs.Reading.{payload_in}
use Rattle.guest_talk.specs.inner.Reads.{IsSpelled, ReadsWhole}
use Rattle.guest_talk.proofs.Frames.{frame_read, frame_right, head_min, read_whole, wrong_payload}
use Rattle.guest_talk.proofs.reading.read_frame.Goals as goal

pub invariant_of-result : goal.invariant_of-result
invariant_of-result g c =
    let is = c.in-Ok-look_at.ensures.ok in record {
      right = subst (λ (b : List ℕ). is_ok (payload_in c.in-Ok.head.kind b) ≡ true) c.deref.ensures.value
          (frame_right c.frames_stand.ensures c.in-Ok.head.kind c.deref.result.now is.f is.of_kind is.spelled);
    }

pub returns-in-Ok-look_at-clause-ok : goal.returns-in-Ok-look_at-clause-ok
returns-in-Ok-look_at-clause-ok g c =
    let p = c.read_bytes.new.bytes in
    let long : length p ≡ c.in_ok-payload.payload.len = omega arith in
    let same = c.deref.ensures.value ∙ take_at p (drop (length p) c.in_ok-payload.payload.items) c.in_ok-payload.payload.len long in
    let least = head_min c.args.due _ _ c.in-Ok.head c.in-Ok.ensures.ok in
    let whole = read_whole c.numbers_read.ensures c.frames_stand.ensures c.args.due (g.R.Read.remaining c.args.source.now)
    (g.R.Read.remaining c.read_head.new.source) (g.R.Read.remaining c.read_bytes.new.source) c.in-Ok.head p c.in-Ok.ensures.ok c.read_bytes.ensures.fits
    (omega (arith, least, c.in_ok-payload.ensures.len)) (search rules) (subst (IsSpelled c.in-Ok.head.kind) same c.in-Ok-look_at.ensures.ok) in
    subst (λ (b : List ℕ). ReadsWhole (g.R.Read.remaining c.args.source.now) (g.R.Read.remaining c.read_bytes.new.source) (frame_read (payload_in c.in-Ok.head.kind b)))
    (sym same ∙ c.deref.ensures.value) whole.0

pub returns-in-Ok-look_at-clause-payload : goal.returns-in-Ok-look_at-clause-payload
returns-in-Ok-look_at-clause-payload g c =
    let p = c.read_bytes.new.bytes in
    let long : length p ≡ c.in_ok-payload.payload.len = omega arith in
    let same = c.deref.ensures.value ∙ take_at p (drop (length p) c.in_ok-payload.payload.items) c.in_ok-payload.payload.len long in
    let least = head_min c.args.due _ _ c.in-Ok.head c.in-Ok.ensures.ok in
    let whole = read_whole c.numbers_read.ensures c.frames_stand.ensures c.args.due (g.R.Read.remaining c.args.source.now)
    (g.R.Read.remaining c.read_head.new.source) (g.R.Read.remaining c.read_bytes.new.source) c.in-Ok.head p c.in-Ok.ensures.ok c.read_bytes.ensures.fits
    (omega (arith, least, c.in_ok-payload.ensures.len)) (search rules) (subst (IsSpelled c.in-Ok.head.kind) same c.in-Ok-look_at.ensures.ok) in
    subst (λ (b : List ℕ). b ≡ drop 8 (frame_bytes (frame_read (payload_in c.in-Ok.head.kind b)))) (sym same ∙ c.deref.ensures.value) whole.1

pub returns-in-Ok-look_at-clause-kind : goal.returns-in-Ok-look_at-clause-kind
returns-in-Ok-look_at-clause-kind g c =
    let p = c.read_bytes.new.bytes in
    let long : length p ≡ c.in_ok-payload.payload.len = omega arith in
    let same = c.deref.ensures.value ∙ take_at p (drop (length p) c.in_ok-payload.payload.items) c.in_ok-payload.payload.len long in
    let least = head_min c.args.due _ _ c.in-Ok.head c.in-Ok.ensures.ok in
    let whole = read_whole c.numbers_read.ensures c.frames_stand.ensures c.args.due (g.R.Read.remaining c.args.source.now)
    (g.R.Read.remaining c.read_head.new.source) (g.R.Read.remaining c.read_bytes.new.source) c.in-Ok.head p c.in-Ok.ensures.ok c.read_bytes.ensures.fits
    (omega (arith, least, c.in_ok-payload.ensures.len)) (search rules) (subst (IsSpelled c.in-Ok.head.kind) same c.in-Ok-look_at.ensures.ok) in
    subst (λ (b : List ℕ). frame_kind (frame_read (payload_in c.in-Ok.head.kind b)) ≡ kind_number c.in-Ok.head.kind) (sym same ∙ c.deref.ensures.value) whole.2

pub returns-in-Err-look_at-clause-err : goal.returns-in-Err-look_at-clause-err
returns-in-Err-look_at-clause-err g c =
    let p = c.read_bytes.new.bytes in
    let long : length p ≡ c.in_ok-payload.payload.len = omega arith in
    let same = c.deref.ensures.value ∙ take_at p (drop (length p) c.in_ok-payload.payload.items) c.in_ok-payload.payload.len long in
    let least = head_min c.args.due _ _ c.in-Ok.head c.in-Ok.ensures.ok in
    wrong_payload c.numbers_read.ensures c.args.due (g.R.Read.remaining c.args.source.now) (g.R.Read.remaining c.read_head.new.source)
    (g.R.Read.remaining c.read_bytes.new.source) c.in-Ok.head p c.in-Err-look_at.fault c.in-Ok.ensures.ok (search rules)
    (omega (arith, least, c.in_ok-payload.ensures.len)) (rw same at c.in-Err-look_at.ensures.err)
