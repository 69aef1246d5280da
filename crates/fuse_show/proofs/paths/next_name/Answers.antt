use Rattle.std.proofs.Common.{sym, ◌∙◌, arith, ap, ℕ, length, length-append, ◌∷◌}
use Rattle.std.proofs.lemmas.Bool.{eqb-false}
use Rattle.std.proofs.lemmas.List.{drop_all}
use Rattle.fuse_show.proofs.Splits.{named_cut, empty_cut, named_last, empty_last, named_end}
use Rattle.fuse_show.proofs.paths.next_name.Goals as goal

pub loop-part-preserved : goal.loop-part-preserved
loop-part-preserved c =
    let one = c.in-Some.ensures.some in
    let size = ap (length {A = ℕ}) one.0 in
    let sum = length-append c.in-Some.part.now (47 ∷ c.in-Some.after.now) in
    let before = c.loop-part.invariant.within in
    record {
      same = c.loop-part.invariant.same
          ∙ empty_cut c.loop-part.rest.now c.in-Some.part.now c.in-Some.after.now one.0 one.1 (sym c.is_empty.ensures ∙ c.if-not-is_empty.false);
      within = omega (arith, size, sum, before);
    }

pub returns-then-not-is_empty-clause-some : goal.returns-then-not-is_empty-clause-some
returns-then-not-is_empty-clause-some c =
    let one = c.in-Some.ensures.some in
    let size = ap (length {A = ℕ}) one.0 in
    let sum = length-append c.in-Some.part.now (47 ∷ c.in-Some.after.now) in
    let before = c.loop-part.invariant.within in (
      c.loop-part.invariant.same
          ∙ named_cut c.loop-part.rest.now c.in-Some.part.now c.in-Some.after.now one.0 one.1 (sym c.is_empty.ensures ∙ c.if-not-is_empty.true),
      omega (arith, size, sum, before),
    )

pub returns-then-is_empty-clause-none : goal.returns-then-is_empty-clause-none
returns-then-is_empty-clause-none c = λ _.
    c.loop-part.invariant.same
    ∙ empty_last c.loop-part.rest.now (c.split_at_slash.ensures.none c.in_default.is) (sym c.is_empty-2.ensures ∙ c.if-is_empty.true)

pub returns-else-is_empty-clause-some : goal.returns-else-is_empty-clause-some
returns-else-is_empty-clause-some c =
    let some = sym c.is_empty-2.ensures ∙ c.if-is_empty.false in
    let last = named_last c.loop-part.rest.now (c.split_at_slash.ensures.none c.in_default.is) some in
    let nothing = c.split_at.ensures.back ∙ drop_all (length c.loop-part.rest.now) c.loop-part.rest.now (omega arith) in
    let empty = ap (length {A = ℕ}) nothing in
    let before = c.loop-part.invariant.within in
    let there = eqb-false (length c.loop-part.rest.now) 0 some in
    (named_end c.args.path.now c.loop-part.rest.now c.split_at.result.1.now c.loop-part.invariant.same last nothing, omega (arith, empty, before, there))
