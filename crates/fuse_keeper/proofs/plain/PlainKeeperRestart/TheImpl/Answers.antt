use Rattle.std.proofs.Common.{refl}
use Rattle.fuse_keeper.specs.Plain.{mapped}
use Rattle.fuse_keeper.proofs.Keeping.{plain_firm}
use Rattle.fuse_keeper.proofs.plain.PlainKeeperRestart.TheImpl.Goals as goal

pub restart-tells : goal.restart-tells
restart-tells g = λ d x c. rw (c.ensures) (record {
  reopened = record {
    same = λ _ rows records held. held;
    held = λ _ _. (g.F.FileSystem.held c.args.self.rows, mapped c.args.self.records, (refl, λ i. refl));
    left = λ _ _ rows records held. held;
    firm = λ _. plain_firm g.F.FileSystem.model (g.F.FileSystem.held c.args.self.rows) (mapped c.args.self.records);
    lots = λ _ rows records held. record { numbers = refl; current = refl; under = λ i. refl };
    honest = λ honest. honest;
    medium = λ memory. memory;
    service = refl;
    going = refl;
  };
  refused = tt;
  once = tt;
  unasked = tt;
})
