-- What the ending of a view says of a database.
use Rattle.std.proofs.Common.{◌≡◌, [], ◌∷◌, Bool, true, false, cond, Option, Some, None, Result, Ok, Err, inl, inr, refl, subst}
use Rattle.std.specs.Prelude.{◌⊎◌, List, ℕ, OnErr, IfErr, IfSome, IsErrAnd}
use Rattle.sqlite.specs.Effect.{Database}
use Rattle.sqlite.specs.declared.error.Error.{Error}
use Rattle.fuse_keeper.specs.Faults.{fault_of, is_memory}
use Rattle.fuse_keeper.specs.declared.fault.StoreFault.{StoreFault}
use Rattle.fuse_keeper.specs.declared.fault.StoreFault.TheVariants.{Memory, Sql, NotAStore, Version, Damaged, Guest}
use Rattle.fuse_store_tables.specs.Faults.{IsOutside, IsPlain}
use Rattle.fuse_store_tables.specs.Saying.{Says, IsTabled, ReportsVersion, HasFirst, HasOwn}
use Rattle.fuse_store_tree.specs.Looking.{as_look_fault}
use Rattle.fuse_show.specs.declared.fault.ShowFault.{ShowFault}
use Rattle.fuse_show.specs.declared.fault.ShowFault.TheVariants.{Look, NotATree, NoSuchPath, NotDirectory, NotFile, Output}
use Rattle.fuse_show.specs.Looks as looks
use Rattle.fuse_commands.specs.Endings.{store_ending}
use Rattle.fuse_files.specs.StoreShown.{SaysNothing, SaysSo, EndsAsShown, IsRefused}
use Rattle.fuse_files.specs.inner.Showing.{showing_ending, shown_ending}

-- ---- of a fault of the store

pub says_nothing : (f : StoreFault) → IsOutside f → SaysNothing (store_ending f)
says_nothing Memory so = tt
says_nothing (Sql e) so = tt
says_nothing NotAStore so = absurd so
says_nothing (Version n) so = absurd so
says_nothing Damaged so = absurd so
says_nothing Guest so = absurd so

pub says_nothing_in : {X Y : Type 0} (r : Result X (StoreFault × Y)) (f : StoreFault) → IfErr r (λ p. IsOutside p.0) → IsErrAnd r (λ p. p.0 ≡ f)
    → SaysNothing (store_ending f)
says_nothing_in (Ok x) f outside is = absurd is
says_nothing_in (Err p) f outside is = subst (λ g. SaysNothing (store_ending g)) is (says_nothing p.0 outside)

pub says_so : (d : Database) (f : StoreFault) → Says d f → SaysSo d (store_ending f)
says_so d Memory so = tt
says_so d (Sql e) so = tt
says_so d NotAStore so = so
says_so d (Version n) so = so
says_so d Damaged so = so
says_so d Guest so = so

pub of_sql : (e : Error) → IsOutside (fault_of e)
of_sql e = told (is_memory e)
  where
    told : (b : Bool) → IsOutside (cond b Memory (Sql e))
    told true = tt
    told false = tt

pub outside_plain : (f : StoreFault) → IsOutside f → IsPlain f
outside_plain Memory so = tt
outside_plain (Sql e) so = tt
outside_plain NotAStore so = so
outside_plain (Version n) so = so
outside_plain Damaged so = tt
outside_plain Guest so = so

pub outside_so : (d : Database) (f : StoreFault) → IsOutside f → SaysSo d (store_ending f)
outside_so d Memory so = tt
outside_so d (Sql e) so = tt
outside_so d NotAStore so = absurd so
outside_so d (Version n) so = absurd so
outside_so d Damaged so = absurd so
outside_so d Guest so = absurd so

-- ---- of a store of one of the versions

-- its version is its own
own : (d : Database) (n : ℕ) → (n ≡ 1) ⊎ ((n ≡ 2) ⊎ (n ≡ 3)) → ReportsVersion d n → Says d Damaged
own d n (inl one) (rows, shows, first) = (rows, shows, in_rows rows first)
  where
    in_rows : (rows : _) → HasFirst n rows → HasOwn rows
    in_rows [] first = first
    in_rows (row ∷ rows) first = rw (first, one) (inl refl)
own d n (inr (inl two)) (rows, shows, first) = (rows, shows, in_rows rows first)
  where
    in_rows : (rows : _) → HasFirst n rows → HasOwn rows
    in_rows [] first = first
    in_rows (row ∷ rows) first = rw (first, two) (inr (inl refl))
own d n (inr (inr three)) (rows, shows, first) = (rows, shows, in_rows rows first)
  where
    in_rows : (rows : _) → HasFirst n rows → HasOwn rows
    in_rows [] first = first
    in_rows (row ∷ rows) first = rw (first, three) (inr (inr refl))

pub tabled_own : (d : Database) → IsTabled d → Says d Damaged
tabled_own d (inl first) = own d 1 (inl refl) first.0
tabled_own d (inr (inl second)) = own d 2 (inr (inl refl)) second.0
tabled_own d (inr (inr third)) = own d 3 (inr (inr refl)) third.0

pub plain_so : (d : Database) → IsTabled d → (f : StoreFault) → IsPlain f → SaysSo d (store_ending f)
plain_so d tabled Memory so = tt
plain_so d tabled (Sql e) so = tt
plain_so d tabled NotAStore so = absurd so
plain_so d tabled (Version n) so = absurd so
plain_so d tabled Damaged so = tabled_own d tabled
plain_so d tabled Guest so = absurd so

pub plain_loud : (f : StoreFault) → IsPlain f → IsRefused (store_ending f) → ⊥
plain_loud Memory so is = is
plain_loud (Sql e) so is = is
plain_loud NotAStore so is = so
plain_loud (Version n) so is = so
plain_loud Damaged so is = is
plain_loud Guest so is = so

-- ---- of what was shown

pub shown_so : (d : Database) → IsTabled d → (fault : Option StoreFault) (shown : Result (Unit {0}) ShowFault) → OnErr shown (IfSome fault IsPlain)
    → SaysSo d (shown_ending (showing_ending fault) shown)
shown_so d tabled fault (Ok done) plain = tabled
shown_so d tabled None (Err (Look f)) plain = tabled_own d tabled
shown_so d tabled (Some g) (Err (Look f)) plain = plain_so d tabled g plain
shown_so d tabled fault (Err NotATree) plain = tabled_own d tabled
shown_so d tabled fault (Err NoSuchPath) plain = tabled
shown_so d tabled fault (Err NotDirectory) plain = tabled
shown_so d tabled fault (Err NotFile) plain = tabled
shown_so d tabled fault (Err Output) plain = tabled

pub shown_silent : (fault : Option StoreFault) (shown : Result (Unit {0}) ShowFault) (old new : Option (List ℕ)) → OnErr shown (IfSome fault IsPlain)
    → IfErr shown (λ f. looks.is_of_path f ≡ true → new ≡ old) → IsRefused (shown_ending (showing_ending fault) shown) → new ≡ old
shown_silent fault (Ok done) old new plain silent is = absurd is
shown_silent None (Err (Look f)) old new plain silent is = absurd is
shown_silent (Some g) (Err (Look f)) old new plain silent is = absurd (plain_loud g plain is)
shown_silent fault (Err NotATree) old new plain silent is = absurd is
shown_silent fault (Err NoSuchPath) old new plain silent is = silent refl
shown_silent fault (Err NotDirectory) old new plain silent is = silent refl
shown_silent fault (Err NotFile) old new plain silent is = silent refl
shown_silent fault (Err Output) old new plain silent is = absurd is

pub ends : (fault : Option StoreFault) (shown : Result (Unit {0}) ShowFault) → as_look_fault fault ≡ looks.look_fault_in shown
    → OnErr shown (IfSome fault IsOutside) → EndsAsShown shown (shown_ending (showing_ending fault) shown)
ends fault (Ok done) same so = refl
ends None (Err (Look f)) same so = absurd (cc)
ends (Some g) (Err (Look f)) same so = says_nothing g so
ends fault (Err NotATree) same so = refl
ends fault (Err NoSuchPath) same so = refl
ends fault (Err NotDirectory) same so = refl
ends fault (Err NotFile) same so = refl
ends fault (Err Output) same so = refl
