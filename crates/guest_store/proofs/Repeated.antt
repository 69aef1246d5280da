-- Where all is answered from records, nothing is asked.
use Rattle.std.proofs.Common.{◌≡◌, ◌++◌, true, List, [], ◌∷◌, subst, ◌∙◌}
use Rattle.fuse_keeper.specs.declared.keeper.Done.{Done}
use Rattle.guest_talk.specs.TalkState.{TalkState}
use Rattle.guest_store.specs.Repeats.{AllAgain}

parts : (ds : List Done) (d : Done) → AllAgain (ds ++ d ∷ []) → AllAgain ds × (d.repeated ≡ true)
parts [] d all = (tt, all.0)
parts (x ∷ ds) d all =
    let rest = parts ds d all.1 in
    ((all.0, rest.0), rest.1)

pub silent_more : (a b e : TalkState) (ds : List Done) (d : Done) (more : List Done) → more ≡ ds ++ d ∷ [] → (AllAgain ds → b.events ≡ a.events)
    → (d.repeated ≡ true → e.events ≡ b.events) → AllAgain more → e.events ≡ a.events
silent_more a b e ds d more is before last all =
    let two = parts ds d (subst AllAgain is all) in
    last two.1 ∙ before two.0
