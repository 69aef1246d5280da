-- The records, as an opening tests them.
use Rattle.std.proofs.Common.{negsuc, ◌≡◌, ◌≢◌, ◌≤◌, ◌<◌, ◌+◌, ◌^◌, ℕ, pos, List, [], ◌∷◌, ◌++◌, map, take, length, slice_index_or, codes, true, false, Ok, Err, Result, IfOk, IfErr, IsErrAnd, refl, sym, ap, subst, arith, ◌∙◌}
use Rattle.std.specs.List.{AllByRecursion}
use Rattle.std.proofs.lemmas.List.{get_or-map, length-map, nil_from_length, take_all, take_more}
use Rattle.sqlite.specs.declared.types.Value.TheVariants.{Null, Int, Blob}
use Rattle.sqlite.specs.Order.{Row, column}
use Rattle.sqlite_trees.specs.Tree.{IsTable}
use Rattle.sqlite_trees.proofs.ListLemmas.{all-get_or}
use Rattle.sqlite_sql.specs.Ops.{unary}
use Rattle.sqlite_sql.specs.declared.ops.UnaryOp.TheVariants.{Length}
use Rattle.sqlite.specs.Term.{Term, lit, col, op1, eval_all}
use Rattle.sqlite.specs.Program.{overlay}
use Rattle.sqlite.specs.Command.TheVariants.{Select}
use Rattle.sqlite_resolve.specs.Compile.{first}
use Rattle.sqlite_tied.specs.Compute.{everything}
use Rattle.sqlite.specs.declared.error.Error.{Error}
use Rattle.sqlite.specs.Listing.{understood, reads_listing}
use Rattle.sqlite.specs.State.{State, HasCleanDisk, Survives, Shown, FailsToQuery, CommitsShowing}
use Rattle.sqlite.proofs.Callers.{IsPlain, command_of}
use Rattle.fuse_wire.specs.Bounds.{max_body_len}
use Rattle.fuse_keeper.specs.declared.fault.StoreFault.{StoreFault}
use Rattle.fuse_store_tables.specs.Faults.{IsOutside}
use Rattle.fuse_store_tables.specs.Content.{Kept, kept_key, kept_row}
use Rattle.fuse_store_tables.specs.Moves.{InsideAs, Takes}
use Rattle.guest_tables.proofs.any_schema.Ordered.{ordered_query, answered_in_order, rises_from}
use Rattle.guest_tables.proofs.any_schema.Queries.{IsSelectText}
use Rattle.guest_tables.proofs.any_schema.Reading.{looks, read}
use Rattle.guest_tables.specs.Layout.{guest_schema}
use Rattle.guest_tables.specs.Content.{GuestContent}
use Rattle.guest_tables.specs.Opening.{IsLaid, IsRecord, AreRecords}
use Rattle.guest_tables.specs.inner.Columns.{shown_record}
use Rattle.guest_tables.proofs.CounterRows.{all_of}
use Rattle.guest_tables.proofs.Tables.{laid}

-- ---- the statement

abbrev pub records_text : List ℕ
records_text = codes "SELECT id, errno, length(body) FROM kept ORDER BY id"

abbrev no_limit : Term
no_limit = lit (Int (negsuc 0))

abbrev shown_terms : List Term
shown_terms = col 1 0 ∷ col 1 3 ∷ op1 Length (col 1 4) ∷ []

records_is : command_of (understood guest_schema records_text) ≡ Select (record { lets = []; body = ordered_query 4 [] shown_terms no_limit }) (codes "id"
    ∷ codes "errno" ∷ codes "length(body)" ∷ [])
unfolding understood everything
records_is = refl

records_plain : IsPlain (understood guest_schema records_text)
unfolding understood everything
records_plain = (refl, refl)

records_unlisted : reads_listing guest_schema records_text ≡ false
unfolding understood everything
records_unlisted = refl

pub records_select : IsSelectText (first records_text)
unfolding first everything
records_select = (_, refl)

pub records_look : {X : Type 0} (items : X → List Row) (old new : State) (r : Result X Error)
    → (HasCleanDisk new → IfOk r (λ x. Shown records_text [] old new (items x)))
    → (HasCleanDisk new → IfErr r (FailsToQuery records_text [] old new)) → Survives old new (CommitsShowing records_text [] old)
    → Takes IsLaid IsLaid old new r
records_look items = looks IsLaid guest_schema (λ c d h. h.holds.schema) records_text [] _ records_is records_plain records_select items

-- what it shows of a row
shows_row : (k : Kept) → eval_all shown_terms ([] ∷ kept_row k ∷ []) ≡ shown_record k
unfolding unary
shows_row k = refl

shows_rows : (ks : List Kept) → map (λ k. eval_all shown_terms ([] ∷ kept_row k ∷ [])) ks ≡ map shown_record ks
shows_rows [] = refl
shows_rows (k ∷ ks) = ap (λ r. r ∷ map (λ x. eval_all shown_terms ([] ∷ kept_row x ∷ [])) ks) (shows_row k) ∙ ap (λ rs. shown_record k ∷ rs) (shows_rows ks)

records_found : (c : GuestContent) (old new : State) (rows : List Row) → InsideAs (IsLaid c) old → Shown records_text [] old new rows
    → rows ≡ map shown_record c.kept
records_found c old new rows at h =
    let was = (laid c old.now at.holds.holds).kept in
    let answer = (read IsLaid guest_schema (λ k d g. g.holds.schema) records_text [] _ records_is records_plain records_unlisted c old new rows at h).answer Null in
    answered_in_order kept_key (λ x. Null ∷ Int (pos x.lot) ∷ Int (pos x.said.errno) ∷ Blob x.said.body ∷ []) (λ _. true) Null (overlay old.now.trees []) [] []
    (λ _. refl) shown_terms no_limit 4 c.kept rows was.0
    (rises_from kept_key kept_row (λ _. refl) c.kept (subst IsTable was.0 was.1)) answer
    ∙ ap (map (λ k. eval_all shown_terms ([] ∷ kept_row k ∷ []))) (all_of c.kept) ∙ shows_rows c.kept

pub records_find : {X : Type 0} (items : X → List Row) (old new : State) (r : Result X Error)
    → (HasCleanDisk new → IfOk r (λ x. Shown records_text [] old new (items x)))
    → HasCleanDisk new → IfOk r (λ x. (c : GuestContent) → InsideAs (IsLaid c) old → items x ≡ map shown_record c.kept)
records_find items old new (Ok x) ok clean = λ c at. records_found c old new (items x) at (ok clean)
records_find items old new (Err e) ok clean = tt

-- ---- the parts of a record

same_number : (m n : ℕ) → Int (pos m) ≡ Int (pos n) → m ≡ n
same_number m n e = cc

module _ (row : Row) (k : Kept) (is : row ≡ shown_record k) where
  pub three : length row ≡ 3
  three = ap length is

  pub first_shows : column row 0 ≡ Int (pos k.id)
  first_shows = ap (λ (r : Row). column r 0) is

  pub second_shows : column row 1 ≡ Int (pos k.said.errno)
  second_shows = ap (λ (r : Row). column r 1) is

  pub third_shows : column row 2 ≡ Int (pos (length k.said.body))
  third_shows = ap (λ (r : Row). column r 2) is

  module _ (id errno len : ℕ) (one : column row 0 ≡ Int (pos id)) (two : column row 1 ≡ Int (pos errno)) (third : column row 2 ≡ Int (pos len)) where
    same_id : id ≡ k.id
    same_id = same_number id k.id (sym one ∙ first_shows)

    same_errno : errno ≡ k.said.errno
    same_errno = same_number errno k.said.errno (sym two ∙ second_shows)

    same_len : len ≡ length k.said.body
    same_len = same_number len (length k.said.body) (sym third ∙ third_shows)

    -- the numbers that were read are those of a record
    pub record_read : id < 2 ^ 63 → errno ≤ 4294967295 → len ≤ 1048576 → (errno ≢ 0 → len ≡ 0) → IsRecord k
    record_read small low short empty = record {
      id = subst (λ n. n < 2 ^ 63) same_id small;
      said = record {
        refusal = λ some. nil_from_length k.said.body (sym same_len ∙ empty (λ none. some (sym same_errno ∙ none)));
        short = subst (λ n. n ≤ max_body_len) same_len short;
      };
      errno = (let same = same_errno in omega (arith, same, low));
    }

    -- and those of a record pass each test
    pub errno_fits : IsRecord k → ¬ (4294967295 < errno)
    errno_fits fits high = let same = same_errno in let low = fits.errno in absurd (omega (arith, same, low, high))

    pub body_fits : IsRecord k → ¬ (1048576 < len)
    body_fits fits long = let same = same_len in let short = fits.said.short in absurd (omega (arith, same, short, long))

    pub refusal_fits : IsRecord k → errno ≢ 0 → len ≡ 0
    refusal_fits fits some = same_len ∙ ap length (fits.said.refusal (λ none. some (same_errno ∙ none)))

-- what `?` returns
pub fault_back : {Y : Type 0} (row : Row) (e : StoreFault) (r : Result Y StoreFault) → IsErrAnd r (λ f. f ≡ e)
    → ((k : Kept) → row ≡ shown_record k → IsOutside e) → IfErr r (λ f. (k : Kept) → row ≡ shown_record k → IsRecord k → IsOutside f)
fault_back row e (Ok y) same out = absurd same
fault_back row e (Err f) same out = λ k is fits. subst IsOutside (sym same) (out k is)

-- ---- one row after another

-- the rows before this place are those of records
abbrev pub StartsWell : List Row → ℕ → Type 0
StartsWell rows at = (ks : List Kept) → rows ≡ map shown_record ks → AreRecords (take at ks)

pub no_kept : Kept
no_kept = record { id = 0; lot = 0; said = record { errno = 0; body = [] } }

record_last : (ks : List Kept) (k : Kept) → AreRecords ks → IsRecord k → AreRecords (ks ++ k ∷ [])
record_last [] k all is = (is, tt)
record_last (x ∷ ks) k all is = (all.0, record_last ks k all.1 is)

module _ (rows : List Row) (at : ℕ) (row : Row) (low : at < length rows) (here : row ≡ slice_index_or rows at row) (ks : List Kept)
    (same : rows ≡ map shown_record ks) where
  short : at < length ks
  short = subst (λ n. at < n) (ap length same ∙ length-map ks shown_record) low

  pub row_there : row ≡ shown_record (slice_index_or ks at no_kept)
  row_there = here ∙ ap (λ rs. slice_index_or rs at row) same ∙ get_or-map shown_record ks at no_kept row short

  pub record_there : AreRecords ks → IsRecord (slice_index_or ks at no_kept)
  record_there all = all-get_or IsRecord ks at no_kept all short

  more : AreRecords (take at ks) → IsRecord (slice_index_or ks at no_kept) → AreRecords (take (at + 1) ks)
  more so_far is = subst AreRecords (sym (take_more ks at no_kept short)) (record_last (take at ks) (slice_index_or ks at no_kept) so_far is)

pub starts_more : (rows : List Row) (at : ℕ) (row : Row) → at < length rows → row ≡ slice_index_or rows at row
    → ((k : Kept) → row ≡ shown_record k → IsRecord k) → StartsWell rows at → StartsWell rows (at + 1)
starts_more rows at row low here whole so_far ks same =
    more rows at row low here ks same (so_far ks same) (whole (slice_index_or ks at no_kept) (row_there rows at row low here ks same))

pub all_well : (rows : List Row) (at : ℕ) → length rows ≤ at → StartsWell rows at → (ks : List Kept) → rows ≡ map shown_record ks → AreRecords ks
all_well rows at over so_far ks same =
    subst AreRecords (take_all at ks (subst (λ n. n ≤ at) (ap length same ∙ length-map ks shown_record) over)) (so_far ks same)
