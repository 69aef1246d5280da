use Rattle.std.proofs.Common.{◌≡◌, ◌++◌, ℕ, List, length, take, drop, sym, refl, ap, subst, ◌∙◌, arith}
use Rattle.std.proofs.lemmas.List.{length-take, length-drop, take-append-drop}
use Rattle.fuse_wire.specs.Layout.{Lays}
use Rattle.fuse_answer.specs.Bodies.{entry_parts, open_parts}
use Rattle.fuse_answer.proofs.bodies.create_of.Goals as goal

pub entry_in-requires : goal.entry_in-requires
entry_in-requires c = omega (arith, ap length c.split_at.ensures.front, c.if-body-ne-SIZE.false, length-take 128 c.args.body.now)

pub open_in-requires : goal.open_in-requires
open_in-requires c = omega (arith, ap length c.split_at.ensures.back, c.if-body-ne-SIZE.false, length-drop 128 c.args.body.now)

pub returns : goal.returns
returns c =
    let b = c.args.body.now in
    let ps = entry_parts c.entry_in.result in
    let qs = open_parts c.open_in.result in
    let halves = c.layouts_stand.ensures.joined ps qs c.split_at.result.0.now c.split_at.result.1.now c.entry_in.ensures c.open_in.ensures.laid in
    let whole : c.split_at.result.0.now ++ c.split_at.result.1.now ≡ b = rw (c.split_at.ensures.front, c.split_at.ensures.back) (take-append-drop 128 b) in
    record { of_kind = refl; laid = subst (Lays (ps ++ qs)) whole halves; proper = c.open_in.ensures.fits }
