use Rattle.std.proofs.Common.{◌≡◌, ℕ, false, List, Some, refl, ap, sym, subst, ◌∙◌}
use Rattle.std.specs.List.{AllByRecursion}
use Rattle.fuse_session.specs.Deeds.{Deeds}
use Rattle.fuse_session.specs.Port.{fresh}
use Rattle.fuse_session.specs.Stream.{stream_told}
use Rattle.fuse_commands.specs.Endings.{IsOfStream}
use Rattle.fuse_commands.specs.Replaying.{Replayed}
use Rattle.fuse_commands.specs.inner.Sending.{SendsAnswers}
use Rattle.fuse_commands.proofs.Streams.{session_replayed, session_faulted, session_kept, counts_shown, at_model}
use Rattle.fuse_commands.proofs.replay.serve_stream.Goals as goal

pub returns-clause-replayed : goal.returns-clause-replayed
returns-clause-replayed g c = λ of_stream input known.
    let start = c.new-port.ensures ∙ ap (λ o. fresh o (Some c.new.result.items) false) known
    ∙ ap (λ (x : List ℕ). fresh (Some input) (Some x) false) c.new.ensures.items in
    let session = at_model (g.K.Keeper.told c.args.keeper.now) (g.K.Keeper.told c.serve-served.new.keeper) _ _ _ _ _ c.requires.serves
    c.serve-served.ensures.session in
    let ends = session.ends in
    let n =
    counts_shown c.serve-served.result.ended ends.counts c.counts_of.result c.serve-served.result.counts _ (subst IsOfStream c.of_session.ensures of_stream)
    ends.told_are c.counts_of.ensures in
    subst
    (λ m. Replayed (g.K.Keeper.told c.args.keeper.now) (g.K.Keeper.told c.serve-served.new.keeper) c.args.moment input c.of_session.result
    (SendsAnswers c.into_writer.result.items m)) (sym n)
    (session_replayed c.cut_joins.ensures c.cut_steps.ensures (g.K.Keeper.told c.args.keeper.now)
    (g.K.Keeper.told c.serve-served.new.keeper) c.args.moment (λ (d : Deeds). d ≡ session.deeds) input c.into_writer.result.items
    (stream_told (λ r. g.R.Read.remaining r.now) (λ w. Some w.items) c.new-port.result)
    (stream_told (λ r. g.R.Read.remaining r.now) (λ w. Some w.items) c.serve-served.new.port) _ c.serve-served.result.ended ends.counts c.of_session.result
    (λ d is. subst (λ (x : Deeds). AllByRecursion (λ t. t ≡ c.args.moment) x.moments) (sym is) session.done.moments.each) (record { gone = refl; sent_is = c.into_writer.ensures }) c.of_session.ensures start ends.ends of_stream)

pub returns-clause-faulted : goal.returns-clause-faulted
returns-clause-faulted g c = λ three input known.
    let session = at_model (g.K.Keeper.told c.args.keeper.now) (g.K.Keeper.told c.serve-served.new.keeper) _ _ _ _ _ c.requires.serves
    c.serve-served.ensures.session in
    let start = c.new-port.ensures ∙ ap (λ o. fresh o (Some c.new.result.items) false) known
    ∙ ap (λ (x : List ℕ). fresh (Some input) (Some x) false) c.new.ensures.items in
    session_faulted c.cut_joins.ensures (g.K.Keeper.told c.args.keeper.now)
    (g.K.Keeper.told c.serve-served.new.keeper) c.args.moment (λ (d : Deeds). d ≡ session.deeds) input c.into_writer.result.items
    (stream_told (λ r. g.R.Read.remaining r.now) (λ w. Some w.items) c.new-port.result)
    (stream_told (λ r. g.R.Read.remaining r.now) (λ w. Some w.items) c.serve-served.new.port) c.serve-served.result.ended c.of_session.result
    (λ d is. subst (λ (x : Deeds). AllByRecursion (λ t. t ≡ c.args.moment) x.moments) (sym is) session.done.moments.each) (record { gone = refl; sent_is = c.into_writer.ensures })
    (g.met.K.Keeper.sound c.serve-served.new.keeper).clean_is_honest c.of_session.ensures start session.life three

pub returns-clause-kept : goal.returns-clause-kept
returns-clause-kept g c = λ input known.
    let session = at_model (g.K.Keeper.told c.args.keeper.now) (g.K.Keeper.told c.serve-served.new.keeper) _ _ _ _ _ c.requires.serves
    c.serve-served.ensures.session in
    let start = c.new-port.ensures ∙ ap (λ o. fresh o (Some c.new.result.items) false) known
    ∙ ap (λ (x : List ℕ). fresh (Some input) (Some x) false) c.new.ensures.items in
    session_kept c.cut_joins.ensures (g.K.Keeper.told c.args.keeper.now)
    (g.K.Keeper.told c.serve-served.new.keeper) c.serve-served.result.ended c.args.moment
    (λ (d : Deeds). d ≡ session.deeds)
    (g.K.Keeper.performed c.args.keeper.now c.serve-served.new.keeper) input
    (stream_told (λ r. g.R.Read.remaining r.now) (λ w. Some w.items) c.new-port.result)
    (stream_told (λ r. g.R.Read.remaining r.now) (λ w. Some w.items) c.serve-served.new.port) (λ d is. subst (λ (x : Deeds). AllByRecursion (λ t. t ≡ c.args.moment) x.moments) (sym is) session.done.moments.each) (λ d is. subst (λ (x : Deeds). g.K.Keeper.performed c.args.keeper.now c.serve-served.new.keeper x.asked) (sym is) session.done.asked) refl
    (g.met.K.Keeper.sound c.serve-served.new.keeper).clean_is_honest start session.life
