-- The listing or the content at a path.
use Rattle.std.proofs.Common.{◌≡◌, ℕ, List, [], Some, None, true, false, refl, inl, inr}
use Rattle.std.specs.Prelude.{Result, Err}
use Rattle.fuse_rows.specs.Rows.{Rows}
use Rattle.fuse_tree.specs.declared.look.LookFault.{LookFault}
use Rattle.fuse_show.specs.declared.fault.ShowFault.{ShowFault}
use Rattle.fuse_show.specs.declared.fault.ShowFault.TheVariants.{Look, NotATree, NoSuchPath, NotDirectory, NotFile, Output}
use Rattle.fuse_show.specs.Looks.{ReadOff, ReadUpTo, lies_between, look_fault_in}
use Rattle.fuse_show.specs.Sinks.{IsPartOf}
use Rattle.fuse_show.specs.inner.Writing.{WritesOut}
use Rattle.fuse_show.specs.Lookup.{Finds}
use Rattle.fuse_tree.specs.State.{is_dir, is_file}
use Rattle.fuse_show.specs.Listing.{listing}
use Rattle.fuse_show.specs.Content.{content_at}
use Rattle.fuse_show.specs.Shown.{ShowsListing, ShowsContent, LeadsToOne}
use Rattle.fuse_show.proofs.Looking.{up_to_here, up_to_before}

-- nothing is found
pub lists_none : (rows : Rows) (names : List (List ℕ)) (f : ShowFault) → Finds rows names (Err f) → ShowsListing rows names [] (Err f)
lists_none rows names (Look f) so = inl refl
lists_none rows names NotATree so = so
lists_none rows names NoSuchPath so = (so, refl)
lists_none rows names NotDirectory so = (inl so, refl)
lists_none rows names NotFile so = so
lists_none rows names Output so = absurd so

pub prints_none : (rows : Rows) (names : List (List ℕ)) (f : ShowFault) → Finds rows names (Err f) → ShowsContent rows names [] (Err f)
prints_none rows names (Look f) so = inl refl
prints_none rows names NotATree so = so
prints_none rows names NoSuchPath so = (so, refl)
prints_none rows names NotDirectory so = (so, refl)
prints_none rows names NotFile so = absurd so
prints_none rows names Output so = absurd so

-- a look or the output failed after a part of the text of this node
pub listing_cut : (rows : Rows) (names : List (List ℕ)) (bytes : List ℕ) (f : ShowFault) (one : LeadsToOne rows names is_dir true)
    → WritesOut {X = Unit {0}} (listing rows one.place.node) bytes (Err f) → ShowsListing rows names bytes (Err f)
listing_cut rows names bytes (Look f) one so = inr (one, so.0)
listing_cut rows names bytes NotATree one so = let no : false ≡ true = so.1 in absurd cc
listing_cut rows names bytes NoSuchPath one so = let no : false ≡ true = so.1 in absurd cc
listing_cut rows names bytes NotDirectory one so = let no : false ≡ true = so.1 in absurd cc
listing_cut rows names bytes NotFile one so = let no : false ≡ true = so.1 in absurd cc
listing_cut rows names bytes Output one so = (one, so.0)

pub content_cut : (rows : Rows) (names : List (List ℕ)) (bytes : List ℕ) (f : ShowFault) (one : LeadsToOne rows names is_file true)
    → WritesOut {X = Unit {0}} (content_at rows one.place.node) bytes (Err f) → ShowsContent rows names bytes (Err f)
content_cut rows names bytes (Look f) one so = inr (one, so.0)
content_cut rows names bytes NotATree one so = let no : false ≡ true = so.1 in absurd cc
content_cut rows names bytes NoSuchPath one so = let no : false ≡ true = so.1 in absurd cc
content_cut rows names bytes NotDirectory one so = let no : false ≡ true = so.1 in absurd cc
content_cut rows names bytes NotFile one so = let no : false ≡ true = so.1 in absurd cc
content_cut rows names bytes Output one so = (one, so.0)

-- the place wasn't found, so nothing is shown
pub not_found : {S : Type 0} (clean : S → Type 0) (looking failing : S → S → Type 0) (sees : S → Rows → Type 0) (a b : S) → looking a a → failing a b → ((s : S) → failing s s) → (names : List (List ℕ)) (f : ShowFault)
    (Shows : Rows → List ℕ → Result (Unit {0}) ShowFault → Type 0) → ((rows : Rows) → Finds rows names (Err f) → Shows rows [] (Err f))
    → ((rows : Rows) (e : LookFault) → Shows rows [] (Err (Look e))) → (look_fault_in {X = Unit {0}} (Err f) ≡ None → looking a b)
    → ReadOff (clean b) (sees a) (λ rows. Finds rows names (Err f))
    → ReadUpTo clean (lies_between looking failing a b) (sees a) b (look_fault_in {X = Unit {0}} (Err f)) (λ rows. Shows rows [] (Err f))
not_found clean looking failing sees a b still fails rests names (Look e) Shows so none looks found =
    up_to_before clean looking failing sees a a b (Some e) _ (λ same. absurd cc) still fails (λ is_clean rows is at. none rows e)
not_found clean looking failing sees a b still fails rests names NotATree Shows so none looks found =
    up_to_here clean looking failing sees rests a b None _ (looks refl) (λ is_clean rows is at. so rows (found is_clean rows is at))
not_found clean looking failing sees a b still fails rests names NoSuchPath Shows so none looks found =
    up_to_here clean looking failing sees rests a b None _ (looks refl) (λ is_clean rows is at. so rows (found is_clean rows is at))
not_found clean looking failing sees a b still fails rests names NotDirectory Shows so none looks found =
    up_to_here clean looking failing sees rests a b None _ (looks refl) (λ is_clean rows is at. so rows (found is_clean rows is at))
not_found clean looking failing sees a b still fails rests names NotFile Shows so none looks found =
    up_to_here clean looking failing sees rests a b None _ (looks refl) (λ is_clean rows is at. so rows (found is_clean rows is at))
not_found clean looking failing sees a b still fails rests names Output Shows so none looks found =
    up_to_here clean looking failing sees rests a b None _ (looks refl) (λ is_clean rows is at. so rows (found is_clean rows is at))
