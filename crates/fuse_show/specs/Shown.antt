-- The listing or the content at a path, or why there is none (defined by this project).
use Rattle.std.specs.Prelude.{◌≡◌, ◌⊎◌, ℕ, Bool, true, false, List, [], Result, Ok, Err}
use Rattle.fuse_rows.specs.declared.rows.NodeRow.{NodeRow}
use Rattle.fuse_tree.specs.State.{is_dir, is_file}
use Rattle.fuse_rows.specs.Rows.{Rows}
use Rattle.fuse_show.specs.declared.fault.ShowFault.{ShowFault}
use Rattle.fuse_show.specs.declared.fault.ShowFault.TheVariants.{Look, NotATree, NoSuchPath, NotDirectory, NotFile, Output}
use Rattle.fuse_show.specs.Looks.{is_output}
use Rattle.fuse_show.specs.Sinks.{IsPartOf, Way, Flushed, Failed, Left}
use Rattle.fuse_show.specs.Lookup.{LeadTo, Stops, HasNoEntry, IsNoDirectory}
use Rattle.fuse_show.specs.Listing.{AreLines, listing}
use Rattle.fuse_show.specs.Content.{content_at}

-- the names lead to a node, and the test of its mode gives this
pub record LeadsToOne (rows : Rows) (names : List (List ℕ)) (test : ℕ → Bool) (said : Bool) : Type 0 where
  pub place : NodeRow
  pub leads : LeadTo rows names place
  pub tested : test place.mode ≡ said

-- these bytes are a part of a text of the node at the names, or there are none
abbrev pub IsPartAt : Rows → List (List ℕ) → (ℕ → Bool) → (Rows → ℕ → List ℕ) → List ℕ → Type 0
IsPartAt rows names test text bytes = (bytes ≡ []) ⊎ ((one : LeadsToOne rows names test true) × IsPartOf bytes (text rows one.place.node))

-- the lines of the directory at the names, or a part of them where a look or the output failed, or why there are none
abbrev pub ShowsListing : Rows → List (List ℕ) → List ℕ → Result (Unit {0}) ShowFault → Type 0
ShowsListing rows names bytes (Ok _) = (one : LeadsToOne rows names is_dir true) × (bytes ≡ listing rows one.place.node)
ShowsListing rows names bytes (Err (Look f)) = IsPartAt rows names is_dir listing bytes
ShowsListing rows names bytes (Err NotATree) = ⊥
ShowsListing rows names bytes (Err NoSuchPath) = Stops rows names (HasNoEntry rows) × (bytes ≡ [])
ShowsListing rows names bytes (Err NotDirectory) = (Stops rows names IsNoDirectory ⊎ LeadsToOne rows names is_dir false) × (bytes ≡ [])
ShowsListing rows names bytes (Err NotFile) = ⊥
ShowsListing rows names bytes (Err Output) = (one : LeadsToOne rows names is_dir true) × IsPartOf bytes (listing rows one.place.node)

-- the bytes of the regular file at the names, or a part of them where a look or the output failed, or why there are none
abbrev pub ShowsContent : Rows → List (List ℕ) → List ℕ → Result (Unit {0}) ShowFault → Type 0
ShowsContent rows names bytes (Ok _) = (one : LeadsToOne rows names is_file true) × (bytes ≡ content_at rows one.place.node)
ShowsContent rows names bytes (Err (Look f)) = IsPartAt rows names is_file content_at bytes
ShowsContent rows names bytes (Err NotATree) = ⊥
ShowsContent rows names bytes (Err NoSuchPath) = Stops rows names (HasNoEntry rows) × (bytes ≡ [])
ShowsContent rows names bytes (Err NotDirectory) = Stops rows names IsNoDirectory × (bytes ≡ [])
ShowsContent rows names bytes (Err NotFile) = LeadsToOne rows names is_file false × (bytes ≡ [])
ShowsContent rows names bytes (Err Output) = (one : LeadsToOne rows names is_file true) × IsPartOf bytes (content_at rows one.place.node)

-- how the output ended
abbrev pub way_by : Bool → Way
way_by true = Failed
way_by false = Left

abbrev pub way_of : {X : Type 0} → Result X ShowFault → Way
way_of (Ok _) = Flushed
way_of (Err f) = way_by (is_output f)

-- the bytes of a text that the output took
abbrev pub IsWritten : List ℕ → List ℕ → Result (Unit {0}) ShowFault → Type 0
IsWritten text bytes (Ok _) = bytes ≡ text
IsWritten text bytes (Err f) = IsPartOf bytes text

-- whole lines of entries, or a part of such lines
abbrev pub WritesLines : {X : Type 0} → List ℕ → Result X ShowFault → Type 0
WritesLines bytes (Ok _) = AreLines bytes
WritesLines bytes (Err f) = (text : List ℕ) × AreLines text × IsPartOf bytes text
