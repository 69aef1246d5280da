use Rattle.std.proofs.Common.{inl, inr}
use Rattle.fuse_store_files.specs.Files.{found_at}
use Rattle.fuse_files.proofs.serving.serve_store.Goals as goal

pub returns-in-Ok-Plain-clause-ran : goal.returns-in-Ok-Plain-clause-ran
returns-in-Ok-Plain-clause-ran g c =
    let profile = rw c.in-Ok-Plain.field-0-is at c.in-Ok-Plain.ensures.profile in
    let opened = rw c.in-Ok-Plain.field-0-is at c.in-Ok-Plain.ensures.opened in
    let kept = rw c.in-Ok-Plain.field-0-is at c.in-Ok-Plain.ensures.holds in
    let rows = rw c.in-Ok-Plain.field-0-is at c.in-Ok-Plain.ensures.rows in
    let own = rw c.in-Ok-Plain.field-0-is at c.in-Ok-Plain.ensures.own in
    let firm = rw c.in-Ok-Plain.field-0-is at c.in-Ok-Plain.ensures.firm in
    inl (inl (record {
      keeper = c.in-Ok-Plain.keeper;
      mid = c.opening_for-opening.new.clock;
      how = c.opening_for-opening.result;
      opens = c.opening_for-opening.ensures (found_at g.S.Start g.T.Start);
      from = record { profile = profile; opened = opened; kept = kept; rows = rows; own = own; firm = firm };
      ran = c.serve_keeper.ensures.ran;
    }))

pub returns-in-Ok-Everyday-clause-ran : goal.returns-in-Ok-Everyday-clause-ran
returns-in-Ok-Everyday-clause-ran g c =
    let profile = rw c.in-Ok-Everyday.field-0-is at c.in-Ok-Everyday.ensures.profile in
    let opened = rw c.in-Ok-Everyday.field-0-is at c.in-Ok-Everyday.ensures.opened in
    let kept = rw c.in-Ok-Everyday.field-0-is at c.in-Ok-Everyday.ensures.holds in
    let rows = rw c.in-Ok-Everyday.field-0-is at c.in-Ok-Everyday.ensures.rows in
    let own = rw c.in-Ok-Everyday.field-0-is at c.in-Ok-Everyday.ensures.own in
    let firm = rw c.in-Ok-Everyday.field-0-is at c.in-Ok-Everyday.ensures.firm in
    inl (inr (record {
      keeper = c.in-Ok-Everyday.keeper;
      mid = c.opening_for-opening.new.clock;
      how = c.opening_for-opening.result;
      opens = c.opening_for-opening.ensures (found_at g.S.Start g.T.Start);
      from = record { profile = profile; opened = opened; kept = kept; rows = rows; own = own; firm = firm };
      ran = c.serve_keeper-in-Ok-Everyday.ensures.ran;
    }))
