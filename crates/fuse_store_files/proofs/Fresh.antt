-- Files that were just opened.
use Rattle.std.proofs.Common.{◌≡◌, ℕ, Bool, List, [], ◌∷◌, Option, Some, None, IfSome, option_map, refl, sym, ap, subst, inl, inr, ◌∙◌}
use Rattle.sqlite_disk.specs.Events.{Event, replay, settled}
use Rattle.sqlite_disk.specs.History.{MayLeave}

pub fresh_seen : (start : List ℕ) (key : ℕ) (events : List Event) → events ≡ settled key ∷ [] → (replay start events).seen ≡ start
fresh_seen start key events fresh = ap (λ (h : List Event). (replay start h).seen) fresh

-- a crash leaves what they held
pub fresh_alone : (mixes : Bool) (start : List ℕ) (key : ℕ) (events : List Event) (c : List ℕ) → events ≡ settled key ∷ []
    → MayLeave mixes (replay start events).seen (replay start events).synced (replay start events).steps c → c ≡ start
fresh_alone mixes start key events c fresh may =
    let now : MayLeave mixes start start [] c =
    subst (λ (h : List Event). MayLeave mixes (replay start h).seen (replay start h).synced (replay start h).steps c) fresh may in
    elim now [ inl same ↦ same | inr same ↦ same ]

pub some_weaker : {X : Type 0} (o : Option X) (P Q : X → Type 0) → ((x : X) → P x → Q x) → IfSome o P → IfSome o Q
some_weaker None P Q f it = tt
some_weaker (Some x) P Q f it = f x it

-- what is known of a value is known of what was made of it
mapped : {X Y : Type 0} (o : Option X) (f : X → Y) (P : X → Type 0) (Q : Y → Type 0) → ((x : X) → P x → Q (f x)) → IfSome o P → IfSome (option_map f o) Q
mapped None f P Q more it = tt
mapped (Some x) f P Q more it = more x it

pub some_made : {X Y : Type 0} (o : Option X) (f : X → Y) (P : X → Type 0) (Q : Y → Type 0) → ((x : X) → P x → Q (f x)) → (made : Option Y) → made ≡ option_map f o
    → IfSome o P → IfSome made Q
some_made o f P Q more made is it = subst (λ m. IfSome m Q) (sym is) (mapped o f P Q more it)

pub none_made : {X Y : Type 0} (o : Option X) (f : X → Y) (made : Option Y) → made ≡ option_map f o → made ≡ None → o ≡ None
none_made None f made is none = refl
none_made (Some x) f made is none = let e : Some (f x) ≡ None = sym is ∙ none in absurd (cc)
