-- Runs over files are lives of one mount, by the law of lives (defined by this project).
use Rattle.std.proofs.Common.{◌≡◌, inl, ℕ, Bool, true, false, ◌==◌, List, [], ◌∷◌, ◌++◌, refl, sym, ap, subst, ◌∙◌, ◌||◌}
use Rattle.std.proofs.lemmas.List.{append-nil, map-append}
use Rattle.fuse_request.specs.Opcodes.{Service}
use Rattle.fuse_request.specs.Stream.{cut}
use Rattle.fuse_keeper.specs.History.{History, Distinct, grown, is_in, Includes}
use Rattle.fuse_keeper.specs.Model.{Model}
use Rattle.fuse_keeper.specs.Stands.{Records, Standing, Stands}
use Rattle.fuse_session.specs.declared.ended.Ended.{Ended}
use Rattle.fuse_session.specs.Passage.{Passage}
use Rattle.fuse_session.specs.Processed.{Timed, bytes_of, kept_in}
use Rattle.fuse_session.specs.Serving.{nothing_waits, Run}
use Rattle.fuse_session.specs.Settling.{Mark, settles_by_mark, settled_in}
use Rattle.fuse_sim.specs.Lives.{Lifetime, AreLives, after_lives, all_processed, AllSend, RanAsLife}
use Rattle.fuse_sim.specs.FileLives.{FileRun, run_over, no_run, run_settled, RanFrom, AreRuns, IsMount, AllHaveNew, all_settled, files_left_by, LivedInTurn, FilesLived}

-- ---- more ids are settled

abbrev Isnt : Bool → Type 0
Isnt true = ⊥
Isnt false = Unit {0}

no_true : false ≡ true → ⊥
no_true is = subst Isnt is tt

not_either : (p q : Bool) → (p ≡ true → q ≡ true) → q ≡ false → p ≡ false
not_either false q more isnt = refl
not_either true q more isnt = absurd (no_true (sym isnt ∙ more refl))

-- what stands for a history does so where more ids are settled
pub stands_more : (M : Model) (rows : M.Rows) (records : Records) (s : M.State) (h : History) (t u : List ℕ) → Includes u t
    → Stands M rows records s h t → Stands M rows records s h u
stands_more M rows records s h t u all stands = record {
  tree = stands.tree;
  distinct = stands.distinct;
  rows_are = stands.rows_are;
  right = stands.right;
  kept = λ i isnt. stands.kept i (not_either (is_in t i) (is_in u i) (all i) isnt);
}

if_more : (b p q : Bool) → (p ≡ true → q ≡ true) → (b || p) ≡ true → (b || q) ≡ true
if_more true p q more is = refl
if_more false p q more is = more is

includes_after : (xs ys zs : List ℕ) → Includes zs ys → Includes (xs ++ zs) (xs ++ ys)
includes_after [] ys zs all i is = all i is
includes_after (x ∷ xs) ys zs all i is = if_more (x == i) (is_in (xs ++ ys) i) (is_in (xs ++ zs) i) (includes_after xs ys zs all i) is

settled_first : (V : Service) (c : Bool) (ms others : List (List ℕ)) (marks : List Mark) → Includes (settled_in V c (ms ++ others) marks) (settled_in V c ms marks)
settled_first V c [] others marks i is = absurd (no_true is)
settled_first V c (m ∷ ms) others [] i is = absurd (no_true is)
settled_first V c (m ∷ ms) others (mark ∷ marks) i is =
    includes_after (settles_by_mark V c m mark) (settled_in V c ms marks) (settled_in V c (ms ++ others) marks) (settled_first V c ms others marks) i is

-- ---- one run

-- a run of `serve` that was such a life, where what files stand for they do with more ids settled
pub ran_from : {M : Model} {Image : Type 0} (Stand : Image → Standing M → Type 0)
    → ((image : Image) (s : M.State) (h : History) (t u : List ℕ) → Includes u t → Stand image (record { state = s; history = h; settled = t }) → Stand image (record { state = s; history = h; settled = u }))
    → {p : Passage M} {ended : Ended} (run : Run p nothing_waits ended) (at : Standing M) (image : Image)
    → RanAsLife run at (Stand image) → RanFrom Stand at (run_over run image)
ran_from {M} Stand more {p} run at image ran =
    let w = run.broken.work in
    let bytes : bytes_of w.timed ≡ bytes_of ran.life.worked ++ bytes_of ran.unprocessed =
    ap bytes_of ran.parts ∙ map-append (λ (x : Timed). x.bytes) ran.life.worked ran.unprocessed in
    let settled : Includes (run_settled M.service (run_over run image)) ran.life.settled =
    subst (λ (x : List ℕ). Includes (run_settled M.service (run_over run image)) x) (sym ran.settled_are)
    (subst (λ (x : List (List ℕ)). Includes (settled_in M.service p.port.confirms x w.marks) (settled_in M.service p.port.confirms (bytes_of ran.life.worked) w.marks)) (sym bytes)
    (settled_first M.service p.port.confirms (bytes_of ran.life.worked) (bytes_of ran.unprocessed) w.marks)) in
    record {
      life = ran.life;
      lived = record {
        lived = ran.lived;
        came = ran.received ∙ sym w.done.1;
        others = run.broken.others;
        taken_up = ap (λ (x : List ℕ). (cut x).0) ran.received ∙ run.broken.prefix;
        unprocessed = ran.unprocessed;
        parts = ran.parts;
        moments = ran.moments;
        sent = ran.sent;
        up_to = ran.up_to;
        slices = ran.slices;
        settled = ran.settled_are;
      };
      left = more image at.state (grown at.history (kept_in M.service ran.life.worked)) (at.settled ++ ran.life.settled) (at.settled ++ run_settled M.service (run_over run image))
          (includes_after at.settled ran.life.settled (run_settled M.service (run_over run image)) settled) ran.stands;
    }

-- of a life, more is known of what it left
pub ran_weaker : {M : Model} {p : Passage M} {ended : Ended} {run : Run p nothing_waits ended} {at : Standing M} (P Q : Standing M → Type 0)
    → ((x : Standing M) → P x → Q x) → RanAsLife run at P → RanAsLife run at Q
ran_weaker P Q more ran = record {
  life = ran.life;
  lived = ran.lived;
  received = ran.received;
  unprocessed = ran.unprocessed;
  parts = ran.parts;
  moments = ran.moments;
  sent = ran.sent;
  up_to = ran.up_to;
  slices = ran.slices;
  settled_are = ran.settled_are;
  stands = more _ ran.stands;
}

-- where no message came, the files stand for the history of before
pub ran_nothing : {M : Model} {Image : Type 0} (Stand : Image → Standing M → Type 0) (at : Standing M) (image : Image) → Stand image at → RanFrom Stand at (no_run image)
unfolding cut
ran_nothing Stand at image stood = record {
  life = record { received = []; sent = []; worked = []; settled = [] };
  lived = record {
    lived = record { others = []; prefix = refl; works = tt; unsent = []; sends = refl };
    came = refl;
    others = [];
    taken_up = refl;
    unprocessed = [];
    parts = refl;
    moments = ([], refl);
    sent = refl;
    up_to = record { later = []; first = refl; next = inl refl };
    slices = record { whole = []; last = []; parts = refl; answers = refl; begun = tt; left = λ some. some; unsent = []; sent = refl; untaken = ([], refl) };
    settled = refl;
  };
  left = subst (λ (t : List ℕ). Stand image (record { state = at.state; history = at.history; settled = t })) (sym (append-nil at.settled)) stood;
}

-- ---- all runs

-- lives of runs, and the files in the end
record RanInTurn {M : Model} {Image : Type 0} (Stand : Image → Standing M → Type 0) (at : Standing M) (first : Image) (runs : List (FileRun Image))
    : Type 0 where
  lives : List Lifetime
  lived : LivedInTurn M at.state at.history runs lives
  left : Stand (files_left_by first runs) (record {
    state = at.state;
    history = after_lives M.service at.history lives;
    settled = all_settled M.service at.settled runs;
  })

in_turn : {M : Model} {Image : Type 0} (Stand : Image → Standing M → Type 0) (s : M.State) (h : History) (t : List ℕ) (first : Image) (runs : List (FileRun Image))
    → Stand first (record { state = s; history = h; settled = t }) → AreRuns Stand s first runs → AllHaveNew M.service t runs
    → RanInTurn Stand (record { state = s; history = h; settled = t }) first runs
in_turn Stand s h t first [] stood are none = record { lives = []; lived = tt; left = stood }
in_turn {M} Stand s h t first (r ∷ runs) stood are none =
    let one = are.0 h t stood none.0 in
    let more = in_turn Stand s (grown h (kept_in M.service one.life.worked)) (t ++ run_settled M.service r) r.left runs one.left are.1 none.1 in
    record { lives = one.life ∷ more.lives; lived = (one.lived, more.lived); left = more.left }

are_lives : {Image : Type 0} (M : Model) (s : M.State) (h : History) (runs : List (FileRun Image)) (lives : List Lifetime) → LivedInTurn M s h runs lives → AreLives M s h lives
are_lives M s h [] [] lived = tt
are_lives M s h [] (life ∷ lives) lived = absurd lived
are_lives M s h (r ∷ runs) [] lived = absurd lived
are_lives M s h (r ∷ runs) (life ∷ lives) lived = (lived.0.lived, are_lives M s (grown h (kept_in M.service life.worked)) runs lives lived.1)

-- the clauses of `lives` come first
pub files_lived : {M : Model} {Image : Type 0}
    → ((ls : List Lifetime) → after_lives M.service [] ls ≡ grown [] (kept_in M.service (all_processed ls)))
    → ((ls : List Lifetime) → Distinct (after_lives M.service [] ls))
    → ((s : M.State) (ls : List Lifetime) → AreLives M s [] ls → AllSend M s (after_lives M.service [] ls) [] ls)
    → (Stand : Image → Standing M → Type 0) (s : M.State) (r : FileRun Image) (runs : List (FileRun Image))
    → IsMount Stand s r runs → AllHaveNew M.service [] (r ∷ runs) → FilesLived Stand s r runs
files_lived {M} in_a_row once send Stand s r runs mount none =
    let one = mount.0 none.0 in
    let more = in_turn Stand s (grown [] (kept_in M.service one.life.worked)) ([] ++ run_settled M.service r) r.left runs one.left mount.1 none.1 in
    let lives = one.life ∷ more.lives in
    let lived : LivedInTurn M s [] (r ∷ runs) lives = (one.lived, more.lived) in
    record {
      lives = lives;
      lived = lived;
      in_a_row = in_a_row lives;
      once = once lives;
      send = send s lives (are_lives M s [] (r ∷ runs) lives lived);
      left = more.left;
    }
