use Rattle.std.proofs.Common.{◌≡◌, ◌≤◌, ℕ, true, List, length, take, drop, sym, ap, ◌∙◌, arith}
use Rattle.fuse_request.specs.Stream.{cut}
use Rattle.alone_source.specs.Turns.{is_alone, turn_of}
use Rattle.alone_source.specs.inner.Places.{bytes_before}
use Rattle.alone_source.proofs.Turns.{turn_first, begins_take, begins_within}
use Rattle.alone_source.proofs.Befores.{leads, none_leads, firsts, turn_none, turn_other, turn_alone}
use Rattle.alone_source.proofs.messages.turn_len.Goals.{in-Some+else-is_alone, in_default}
use Rattle.alone_source.proofs.messages.turn_len.Goals as goal

pub returns-then-is_alone-clause-len : goal.returns-then-is_alone-clause-len
returns-then-is_alone-clause-len c =
    let w : List ℕ = c.args.bytes.now in
    let n : ℕ = c.in-Some.len in
    let f = leads c.cut_steps.ensures n w c.in-Some.ensures in
    let is : is_alone c.args.id (take n w) ≡ true = sym c.is_alone.ensures ∙ c.if-is_alone.true in
    sym f.len ∙ ap length (sym (turn_alone c.args.id w (take n w) (cut (drop n w)).0 (firsts _ _ f.cuts) is))

pub returns-then-is_alone-clause-first : goal.returns-then-is_alone-clause-first
returns-then-is_alone-clause-first c =
    let w : List ℕ = c.args.bytes.now in
    let n : ℕ = c.in-Some.len in
    let f = leads c.cut_steps.ensures n w c.in-Some.ensures in
    let is : is_alone c.args.id (take n w) ≡ true = sym c.is_alone.ensures ∙ c.if-is_alone.true in
    sym (turn_alone c.args.id w (take n w) (cut (drop n w)).0 (firsts _ _ f.cuts) is)

pub returns-clause-len : goal.returns-clause-len
returns-clause-len c =
    let w : List ℕ = c.args.bytes.now in
    let same : turn_of c.args.id w ≡ bytes_before c.args.id w =
    elim c.match-whole_len.branch [
      | in-Some+else-is_alone b ↦ (
          let f = leads c.cut_steps.ensures b.in-Some.len w b.in-Some.ensures in
          turn_other c.args.id w (take b.in-Some.len w) (cut (drop b.in-Some.len w)).0 (firsts _ _ f.cuts)
          (sym b.is_alone.ensures ∙ b.if-is_alone.false))
      | in_default b ↦ turn_none c.args.id w (firsts _ _ (none_leads c.cut_steps.ensures w b.in_default.ensures))
    ] in
    c.len_before.ensures ∙ ap length (sym same)

pub returns-clause-within : goal.returns-clause-within
returns-clause-within c =
    let w : List ℕ = c.args.bytes.now in
    let len : c.len_before.result ≡ length (turn_of c.args.id w) = returns-clause-len c in
    let most : length (turn_of c.args.id w) ≤ length w = begins_within _ _ (turn_first c.one_cut.ensures c.args.id w) in
    omega arith

pub returns-clause-first : goal.returns-clause-first
returns-clause-first c =
    let w : List ℕ = c.args.bytes.now in
    let len : c.len_before.result ≡ length (turn_of c.args.id w) = returns-clause-len c in
    ap (λ (k : ℕ). take k w) len ∙ begins_take _ _ (turn_first c.one_cut.ensures c.args.id w)
