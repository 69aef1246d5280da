use Rattle.fuse_keeper.proofs.plain.PlainKeeper.new.Goals as goal

pub returns-clause-stands : goal.returns-clause-stands
returns-clause-stands g c = c.over.ensures.stands _ (c.model_is_sound.ensures.starts c.args.now) c.in_ok-rows.ensures
