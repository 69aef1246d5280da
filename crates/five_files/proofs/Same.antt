-- Once INIT is agreed on, nothing that is asked changes what is answered.
use Rattle.std.proofs.Common.{◌≡◌, true, [], ◌∷◌, Option, Some, None, is_some, refl}
use Rattle.fuse_request.specs.declared.request.InitIn.{InitIn}
use Rattle.fuse_request.specs.Act.{Asked}
use Rattle.fuse_init.specs.declared.profile.Profile.TheVariants as profiles
use Rattle.fuse_init.specs.Agree.{agree}
use Rattle.fuse_init.specs.declared.negotiation.Negotiated.{Negotiated}
use Rattle.fuse_init.specs.declared.negotiation.Negotiated.TheVariants.{Agreed, Again, Refused}
use Rattle.fuse_init.specs.declared.settings.Settings.{Settings}
use Rattle.fuse_keeper.specs.History.{History, after}
use Rattle.five_files.specs.Asking.{offer_of, said_offered, said, agreed_by, agreed_offered, agreed_after}
use Rattle.five_files.specs.TheFiles.{the_files}
use Rattle.five_files.specs.NeverChanges.{NeverChanges}

same_offered : (s s' : Option Settings) (asked : Asked) (offer : Option InitIn) → is_some s ≡ true → is_some s' ≡ true
    → said_offered s' asked offer ≡ said_offered s asked offer
same_offered s s' asked (Some offer) some some' = refl
same_offered s s' asked None some some' = rw (some, some') refl

pub same_said : (s s' : Option Settings) (asked : Asked) → is_some s ≡ true → is_some s' ≡ true → said s' asked ≡ said s asked
unfolding said
same_said s s' asked some some' = same_offered s s' asked (offer_of asked.act) some some'

some_by : (s : Option Settings) (negotiated : Negotiated) → is_some s ≡ true → is_some (agreed_by s negotiated) ≡ true
some_by s (Agreed out settings) some = refl
some_by s (Again out) some = some
some_by s (Refused errno) some = some

some_offered : (s : Option Settings) (offer : Option InitIn) → is_some s ≡ true → is_some (agreed_offered s offer) ≡ true
some_offered s (Some offer) some = some_by s (agree profiles.Plain offer) some
some_offered s None some = some

pub some_next : (s : Option Settings) (asked : Asked) → is_some s ≡ true → is_some (agreed_after s asked) ≡ true
unfolding agreed_after
some_next s asked some = some_offered s (offer_of asked.act) some

some_after : (s : Option Settings) (h : History) → is_some s ≡ true → is_some (after the_files s h) ≡ true
unfolding after
some_after s [] some = some
some_after s (e ∷ h) some = some_after (agreed_after s e.asked) h (some_next s e.asked some)

pub never_changes : NeverChanges
never_changes s h e some = same_said s (after the_files s h) e.asked some (some_after s h some)
