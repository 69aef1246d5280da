use Rattle.std.proofs.Common.{arith, ◌∙◌}
use Rattle.std.specs.Prelude.{⊤}
use Rattle.sqlite.specs.Held.{state}
use Rattle.fuse_init.specs.declared.profile.Profile.TheVariants.{Plain}
use Rattle.fuse_store_tables.specs.Opening.{IsMeta, AreAbove, HasFirstMeta}
use Rattle.fuse_store_tables.specs.inner.Checking.{IsMetaIn}
use Rattle.fuse_store_tables.proofs.Checks.{checks_then, checks_failed}
use Rattle.fuse_store_tables.proofs.numbers.check_first.Goals as goal

pub returns-in_err-meta : goal.returns-in_err-meta
returns-in_err-meta g c =
    checks_failed (λ _. ⊤) (λ _. ⊤) (IsMeta Plain 10) HasFirstMeta (state g.S.Store c.args.conn.now) (state g.S.Store c.check_first_meta.new.conn) _ c.from_residual.result
    c.from_residual.ensures.1 (λ k is both. (tt, both.0)) c.in_err-meta.ensures.checks

pub returns : goal.returns
returns g c =
    checks_then (λ _. ⊤) (IsMetaIn c.as_slice.result.now 4) (IsMeta Plain 10) AreAbove (state g.S.Store c.args.conn.now) (state g.S.Store c.check_first_meta.new.conn)
    (state g.S.Store c.check_numbers.new.conn) _ c.check_numbers.result c.in_ok-meta.ensures.checks
    (λ clean k at known is. record {
      profile = Plain;
      count = 10;
      enough = omega arith;
      meta = is;
      are = c.as_slice.ensures.value ∙ c.in_ok-meta.ensures.shows clean k at;
    }) c.check_numbers.ensures
