use Rattle.std.proofs.Common.{◌≡◌, ◌-◌, ap, sym, ◌∙◌, length, arith}
use Rattle.std.proofs.lemmas.Bool.{eqb-false}
use Rattle.fuse_guest.specs.RightBodies.{lists_entries}
use Rattle.fuse_guest.proofs.Listed.{all_listed, none_stands, one_stands, ends_empty}
use Rattle.fuse_guest.proofs.listing.lists_entries.Goals as goal

pub loop-entry-init : goal.loop-entry-init
loop-entry-init c =
    let all : length c.args.body.now - 0 ≡ length c.args.body.now = omega arith in
    ap (λ n. lists_entries n c.args.before c.args.body.now) all

pub returns-then-is_empty : goal.returns-then-is_empty
returns-then-is_empty c =
    all_listed _ c.args.before c.loop-entry.rest.now _ (sym c.is_empty.ensures ∙ c.if-is_empty.true) c.loop-entry.invariant

pub returns-in_default : goal.returns-in_default
returns-in_default c =
    let some = eqb-false _ 0 (sym c.is_empty.ensures ∙ c.if-is_empty.false) in
    none_stands (length c.args.body.now) c.loop-entry._entry c.args.before c.loop-entry.rest.now _ c.loop-entry-test.true (omega (arith, some))
    c.in_default.ensures c.loop-entry.invariant

pub loop-entry-preserved : goal.loop-entry-preserved
loop-entry-preserved c =
    let some = eqb-false _ 0 (sym c.is_empty.ensures ∙ c.if-is_empty.false) in
    one_stands (length c.args.body.now) c.loop-entry._entry c.args.before c.loop-entry.rest.now c.in-Some.follows.now _ c.loop-entry-test.true
    (omega (arith, some)) c.in-Some.ensures c.loop-entry.invariant

pub returns : goal.returns
returns c =
    c.is_empty-2.ensures
    ∙ ends_empty (length c.args.body.now) c.loop-entry._entry c.args.before c.loop-entry.rest.now _ c.loop-entry-test.false c.loop-entry.invariant
