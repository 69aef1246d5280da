use Rattle.sqlite.specs.Held.{state}
use Rattle.fuse_store_tables.specs.Opening.{IsSecond, HasSecondMeta}
use Rattle.fuse_store_tables.proofs.Checks.{checks_sure, checks_whole, second_laid, second_passes}
use Rattle.fuse_store_tables.proofs.Raising.{third_opens}
use Rattle.fuse_store_tables.proofs.setup.open_third.Goals as goal

pub returns-clause-opened : goal.returns-clause-opened
returns-clause-opened g c number =
    third_opens number (state g.S.Store c.args.conn.now) (state g.S.Store c.check_second.new.conn) c.check_second.result c.check_second.ensures.checks

pub returns-clause-fault : goal.returns-clause-fault
returns-clause-fault g c =
    checks_sure IsSecond second_laid HasSecondMeta (state g.S.Store c.args.conn.now) (state g.S.Store c.check_second.new.conn) c.check_second.result
    c.check_second.ensures.checks second_passes

pub returns-clause-whole : goal.returns-clause-whole
returns-clause-whole g c =
    checks_whole IsSecond second_laid HasSecondMeta (state g.S.Store c.args.conn.now) (state g.S.Store c.check_second.new.conn) c.check_second.result
    c.check_second.ensures.checks

pub returns-clause-reads : goal.returns-clause-reads
returns-clause-reads g c = c.check_second.ensures.checks.reads

pub returns-clause-within : goal.returns-clause-within
returns-clause-within g c = c.check_second.ensures.checks.within

pub returns-clause-plain : goal.returns-clause-plain
returns-clause-plain g c = c.check_second.ensures.checks.plain

pub returns-clause-profile : goal.returns-clause-profile
returns-clause-profile g c = c.check_second.ensures.profile
