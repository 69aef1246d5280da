use Rattle.fuse_answer.proofs.Forms.{on_ok, entry_put, entry_fits}
use Rattle.fuse_answer.proofs.records.EntryOut.put.Goals as goal

pub returns-clause-bytes : goal.returns-clause-bytes
returns-clause-bytes c =
    on_ok c.put.result _ _ (λ last. entry_put c.args.self.now c.args.out.now.items c.put_fields.new.out.items c.put.new.out.items c.in_ok-put_fields.ensures.ok last)
    c.put.ensures.ok

pub returns-clause-fits : goal.returns-clause-fits
returns-clause-fits c = on_ok c.put.result _ _ (λ last. entry_fits c.args.self.now c.in_ok-put_fields.ensures.fits last) c.put.ensures.fits
