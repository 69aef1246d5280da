-- What is written of any store.
use Rattle.std.proofs.Common.{◌≡◌, ℕ, List, [], Option, Some, None, inl, inr, refl, sym, subst, append-nil}
use Rattle.std.specs.Prelude.{⊤, Result, Ok, Err}
use Rattle.std.specs.declared.io.Error.{Error}
use Rattle.fuse_keeper.specs.declared.fault.StoreFault.{StoreFault}
use Rattle.fuse_keeper.specs.declared.fault.StoreFault.TheVariants as store
use Rattle.fuse_show.specs.declared.fault.ShowFault.{ShowFault}
use Rattle.fuse_show.specs.declared.fault.ShowFault.TheVariants.{Look, NotATree, NoSuchPath, NotDirectory, NotFile, Output}
use Rattle.fuse_show.specs.Listing.{AreLines}
use Rattle.fuse_show.specs.Shown.{way_of, IsWritten, WritesLines}
use Rattle.fuse_show.specs.Summary.{count_of, store_text}
use Rattle.fuse_show.specs.declared.summary.Summary.{Summary}
use Rattle.fuse_show.specs.Sinks.{IsPartOf, Flushed, Failed, Left, Outputs}
use Rattle.fuse_commands.specs.declared.ending.Ending.{Ending}
use Rattle.fuse_commands.specs.declared.ending.Ending.TheVariants as ending
use Rattle.fuse_commands.specs.Endings.{store_ending}
use Rattle.fuse_files.specs.StoreShown.{SaysNothing, IsUnopened, MayCutShort, IsPartOfOne, IsSummary, IsTextOf, OutputsAs, ShowsText}
use Rattle.fuse_files.specs.declared.showing.Show.{Show}
use Rattle.fuse_files.specs.declared.showing.Show.TheVariants as show
use Rattle.fuse_files.specs.inner.Showing.{showing_ending, shown_ending}
use Rattle.sqlite_wal.specs.Recovery.{Image}

-- ---- endings

pub store_cut : (f : StoreFault) → MayCutShort (store_ending f)
store_cut store.Memory = tt
store_cut (store.Sql e) = tt
store_cut store.NotAStore = tt
store_cut (store.Version n) = tt
store_cut store.Damaged = tt
store_cut store.Guest = tt

look_cut : (fault : Option StoreFault) → MayCutShort (showing_ending fault)
look_cut None = tt
look_cut (Some f) = store_cut f

pub nothing_cut : (e : Ending) → SaysNothing e → MayCutShort e
nothing_cut ending.Memory so = tt
nothing_cut (ending.Sql _) so = tt
nothing_cut _ so = absurd so

pub unopened_cut : (image : Image) (e : Ending) → IsUnopened image e → MayCutShort e
unopened_cut image e (inl so) = nothing_cut e so
unopened_cut image e (inr none) = subst MayCutShort (sym none.0) tt

-- ---- outputs

-- a text of this form, or a part of one
abbrev pub WritesText : (List ℕ → Type 0) → List ℕ → Result (Unit {0}) ShowFault → Type 0
WritesText Is bytes (Ok _) = Is bytes
WritesText Is bytes (Err f) = IsPartOfOne Is bytes

-- any bytes are one
pub any_text : (bytes : List ℕ) (r : Result (Unit {0}) ShowFault) → WritesText (λ _. ⊤) bytes r
any_text bytes (Ok x) = tt
any_text bytes (Err f) = (bytes, tt, ([], sym (append-nil bytes)))

-- there is a summary
pub blank : Summary
blank = record { version = 0; counts = count_of 0 0 0 0; bytes = 0; room = None; agreed = None }

pub a_summary : IsSummary (store_text blank.version blank.counts blank.bytes blank.room blank.agreed)
a_summary = (blank, refl)

-- lines are lines
pub lines_text : (bytes : List ℕ) (r : Result (Unit {0}) ShowFault) → WritesLines bytes r → WritesText AreLines bytes r
lines_text bytes (Ok x) so = so
lines_text bytes (Err f) so = so

module _ {W : Type 0} (written : W → W → Result ℕ Error → List ℕ → Type 0) (flushed : W → W → Result (Unit {0}) Error → Type 0) (Is : List ℕ → Type 0) where
  pub text_none : (a : W) (e : Ending) → MayCutShort e → (text : List ℕ) → Is text → OutputsAs written flushed a a (ShowsText Is e)
  text_none a e cut text is = (
    Left,
    record { bytes = []; mid = a; takes = record { writes = []; calls = refl; taken = refl }; last = refl; so = (cut, (text, is, (text, refl))) },
  )

  pub text_whole : (a b : W) (text : List ℕ) → Is text → Outputs written flushed a b (way_of {X = Unit {0}} (Ok tt)) (λ bytes. IsWritten text bytes (Ok tt))
      → OutputsAs written flushed a b (ShowsText Is ending.Done)
  text_whole a b text is p =
      (Flushed, record { bytes = p.bytes; mid = p.mid; takes = p.takes; last = p.last; so = (refl, subst Is (sym p.so) is) })

  pub text_part : (a b : W) (text : List ℕ) (f : ShowFault) → Is text → f ≡ Output
      → Outputs written flushed a b (way_of {X = Unit {0}} (Err f)) (λ bytes. IsWritten text bytes (Err f))
      → OutputsAs written flushed a b (ShowsText Is ending.PortFailed)
  text_part a b text f is same p =
      part (subst (λ (x : ShowFault). Outputs written flushed a b (way_of {X = Unit {0}} (Err x)) (λ bytes. IsWritten text bytes (Err x))) same p)
    where
      part : Outputs written flushed a b Failed (λ bytes. IsPartOf bytes text) → OutputsAs written flushed a b (ShowsText Is ending.PortFailed)
      part q = (Failed, record { bytes = q.bytes; mid = q.mid; takes = q.takes; last = q.last; so = (refl, (text, is, q.so)) })

  -- what was shown over a look with this fault
  pub text_shown : (a b : W) (r : Result (Unit {0}) ShowFault) (fault : Option StoreFault) (P : List ℕ → Type 0) → ((bytes : List ℕ) → P bytes → WritesText Is bytes r)
      → Outputs written flushed a b (way_of r) P → OutputsAs written flushed a b (ShowsText Is (shown_ending (showing_ending fault) r))
  text_shown a b (Ok x) fault P more p =
      (Flushed, record { bytes = p.bytes; mid = p.mid; takes = p.takes; last = p.last; so = (refl, more p.bytes p.so) })
  text_shown a b (Err (Look f)) fault P more p =
      (Left, record { bytes = p.bytes; mid = p.mid; takes = p.takes; last = p.last; so = (look_cut fault, more p.bytes p.so) })
  text_shown a b (Err NotATree) fault P more p =
      (Left, record { bytes = p.bytes; mid = p.mid; takes = p.takes; last = p.last; so = (tt, more p.bytes p.so) })
  text_shown a b (Err NoSuchPath) fault P more p =
      (Left, record { bytes = p.bytes; mid = p.mid; takes = p.takes; last = p.last; so = (tt, more p.bytes p.so) })
  text_shown a b (Err NotDirectory) fault P more p =
      (Left, record { bytes = p.bytes; mid = p.mid; takes = p.takes; last = p.last; so = (tt, more p.bytes p.so) })
  text_shown a b (Err NotFile) fault P more p =
      (Left, record { bytes = p.bytes; mid = p.mid; takes = p.takes; last = p.last; so = (tt, more p.bytes p.so) })
  text_shown a b (Err Output) fault P more p =
      (Failed, record { bytes = p.bytes; mid = p.mid; takes = p.takes; last = p.last; so = (refl, more p.bytes p.so) })

-- nothing is shown
pub nothing_written : {W : Type 0} (written : W → W → Result ℕ Error → List ℕ → Type 0) (flushed : W → W → Result (Unit {0}) Error → Type 0) (what : Show) (a : W) (e : Ending)
    → MayCutShort e → OutputsAs written flushed a a (ShowsText (IsTextOf what) e)
nothing_written written flushed show.Summary a e cut = text_none written flushed IsSummary a e cut _ a_summary
nothing_written written flushed (show.Directory path) a e cut = text_none written flushed AreLines a e cut [] ([], refl)
nothing_written written flushed (show.File path) a e cut = text_none written flushed (λ _. ⊤) a e cut [] tt
