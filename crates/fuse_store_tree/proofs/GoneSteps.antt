-- Blocks of the data file that are given up, over steps on other rows.
use Rattle.std.proofs.Common.{◌≡◌, ℕ, Bool, true, false, cond, List, [], ◌∷◌, length, Ok, Err, Result, OnOk, refl, sym, subst}
use Rattle.std.specs.List.{AllByRecursion}
use Rattle.std.specs.Prelude.{not}
use Rattle.sqlite.specs.State.{State}
use Rattle.sqlite.specs.declared.error.Error.{Error}
use Rattle.fuse_keeper.specs.declared.fault.StoreFault.{StoreFault}
use Rattle.fuse_rows.specs.Bounds.{block_bytes}
use Rattle.fuse_store_tables.specs.Blocks.{Block, is_at, is_from, new_block, rewritten, set_at}
use Rattle.fuse_store_tables.specs.Content.{Content, node_key, without_blocks_from, without_node}
use Rattle.fuse_store_tables.specs.Moves.{LookedInside, Makes}
use Rattle.fuse_store_tables.specs.inner.Following.{earlier, inside_then, stays_then}
use Rattle.fuse_store_tree.specs.Fits.{IsWhole, KeepsNode}
use Rattle.fuse_store_tree.specs.declared.piece_cuts.Gone.{Gone}
use Rattle.fuse_store_tree.specs.inner.Reading.{IsSound}
use Rattle.fuse_store_tree.specs.inner.Relisting.{IsAny, Relists, TakenOff, GivesUp, GivenUp}
use Rattle.fuse_store_tree.specs.inner.Laws.{looked_fails}
use Rattle.fuse_store_tree.specs.inner.Writing.{put_found}
use Rattle.fuse_store_tree.proofs.Orders.{all_filter, all_put}
use Rattle.fuse_store_tree.proofs.Outs.{gives_then, gives_same as nothing_given}
use Rattle.fuse_store_tree.proofs.PieceSteps.{relists_then}

pub off_gives : (t : Bool) (file : List ℕ) (is_out : ℕ → ℕ → Bool) (was is : Gone) (a b : State) → Relists t file IsAny (TakenOff file is_out was is) a b → Relists t file IsAny (GivenUp file was is) a b
off_gives t file is_out was is a b p = record {
  stays = p.stays;
  within = p.within;
  turns = λ read clean c sound so at. let made = p.turns read clean c sound so at in (made.0, made.1, record { sound = made.2.out.sound; gone = made.2.gone });
}

-- a step that leaves the pieces as they are
gives_same : {X : Type 0} (t : Bool) (file : List ℕ) (was is : Gone) (step : Content → Content) (a b d : State) (x : X)
    → ((c : Content) → IsSound file c → IsSound file (step c) × ((step c).pieces ≡ c.pieces)) → Relists t file IsAny (GivenUp file was is) a b
    → Makes {X = X} {E = Error} step b d (Ok x) → Relists t file IsAny (GivenUp file was is) a d
gives_same t file was is step a b d x keeps p q = record {
  stays = stays_then a b d p.stays p.within q.stays;
  within = inside_then a b d p.within q.stays.survives q.within;
  turns = λ read clean c sound so at.
      let made = p.turns read (earlier b d _ q.stays.survives clean) c sound so at in
      let kept = keeps made.0 made.2.sound in
      (step made.0, q.turns clean made.0 made.1, record { sound = kept.0; gone = subst (λ ps. GivesUp was is c.pieces ps) (sym kept.1) made.2.gone });
}

pub gives_cut : {X : Type 0} (t : Bool) (file : List ℕ) (was is : Gone) (a b d : State) (x : X) (node k : ℕ) → Relists t file IsAny (GivenUp file was is) a b
    → Makes {X = X} {E = Error} (without_blocks_from node k) b d (Ok x) → Relists t file IsAny (GivenUp file was is) a d
gives_cut t file was is a b d x node k = gives_same t file was is (without_blocks_from node k) a b d x (λ c sound. (
  (
    record {
      nodes = sound.0.nodes;
      entries = sound.0.entries;
      handles = sound.0.handles;
      blocks = all_filter (λ b. b.slot) IsWhole (λ b. not (is_from node k b)) c.blocks sound.0.blocks;
      kept = sound.0.kept;
      pieces = sound.0.pieces;
      no_pieces = sound.0.no_pieces;
    },
    sound.1,
  ),
  refl,
))

pub gives_node : {X : Type 0} (t : Bool) (file : List ℕ) (was is : Gone) (a b d : State) (x : X) (node : ℕ) → Relists t file IsAny (GivenUp file was is) a b
    → Makes {X = X} {E = Error} (without_node node) b d (Ok x) → Relists t file IsAny (GivenUp file was is) a d
gives_node t file was is a b d x node = gives_same t file was is (without_node node) a b d x (λ c sound. (
  (
    record {
      nodes = all_filter node_key (KeepsNode c.layout) _ c.nodes sound.0.nodes;
      entries = sound.0.entries;
      handles = sound.0.handles;
      blocks = sound.0.blocks;
      kept = sound.0.kept;
      pieces = sound.0.pieces;
      no_pieces = sound.0.no_pieces;
    },
    sound.1,
  ),
  refl,
))

-- ---- steps that give up nothing

pub gives_looked : (t : Bool) (file : List ℕ) (w : Gone) (a b : State) → LookedInside a b → Relists t file IsAny (GivenUp file w w) a b
gives_looked t file w a b p = record {
  stays = p.stays;
  within = p.within;
  turns = λ read clean c sound so at. (c, p.same clean c at, record { sound = sound; gone = nothing_given w c.pieces });
}

all_set : (node block : ℕ) (bytes : List ℕ) (bs : List Block) → length bytes ≡ block_bytes → AllByRecursion IsWhole bs → AllByRecursion IsWhole (set_at node block bytes bs)
all_set node block bytes [] long all = tt
all_set node block bytes (b ∷ bs) long all = (one (is_at node block b), all_set node block bytes bs long all.1)
  where
    one : (t : Bool) → IsWhole (cond t (rewritten bytes b) b)
    one true = long
    one false = all.0

put_whole : (stored : Bool) (node block : ℕ) (bytes : List ℕ) (c : Content) → length bytes ≡ block_bytes → AllByRecursion IsWhole c.blocks
    → AllByRecursion IsWhole (put_found stored node block bytes c).blocks
put_whole true node block bytes c long all = all_set node block bytes c.blocks long all
put_whole false node block bytes c long all = all_put (λ b. b.slot) IsWhole (new_block node block bytes c.blocks) c.blocks long all

put_keeps : (file : List ℕ) (w : Gone) (stored : Bool) (node block : ℕ) (bytes : List ℕ) (c : Content) → length bytes ≡ block_bytes → IsSound file c
    → GivenUp file w w c (put_found stored node block bytes c)
put_keeps file w true node block bytes c long sound = record {
  sound = (
    record {
      nodes = sound.0.nodes;
      entries = sound.0.entries;
      handles = sound.0.handles;
      blocks = put_whole true node block bytes c long sound.0.blocks;
      kept = sound.0.kept;
      pieces = sound.0.pieces;
      no_pieces = sound.0.no_pieces;
    },
    sound.1,
  );
  gone = nothing_given w c.pieces;
}
put_keeps file w false node block bytes c long sound = record {
  sound = (
    record {
      nodes = sound.0.nodes;
      entries = sound.0.entries;
      handles = sound.0.handles;
      blocks = put_whole false node block bytes c long sound.0.blocks;
      kept = sound.0.kept;
      pieces = sound.0.pieces;
      no_pieces = sound.0.no_pieces;
    },
    sound.1,
  );
  gone = nothing_given w c.pieces;
}

pub gives_put : {X : Type 0} (t : Bool) (file : List ℕ) (w : Gone) (a b d : State) (r : Result X StoreFault) (node block : ℕ) (bytes : List ℕ) (stored : Bool)
    → LookedInside a b → Makes (put_found stored node block bytes) b d r → length bytes ≡ block_bytes → OnOk r (Relists t file IsAny (GivenUp file w w) a d)
gives_put t file w a b d (Err e) node block bytes stored p q long = tt
gives_put t file w a b d (Ok x) node block bytes stored p q long = record {
  stays = looked_fails a b d p q.stays;
  within = inside_then a b d p.within q.stays.survives q.within;
  turns = λ read clean c sound so at. (
    put_found stored node block bytes c,
    q.turns clean c (p.same (earlier b d _ q.stays.survives clean) c at),
    put_keeps file w stored node block bytes c long sound,
  );
}

-- blocks are given up, and then nothing
pub gives_more : (t : Bool) (file : List ℕ) (w i : Gone) (a b d : State) → Relists t file IsAny (GivenUp file w i) a b → Relists t file IsAny (GivenUp file i i) b d
    → Relists t file IsAny (GivenUp file w i) a d
gives_more t file w i a b d p q =
    relists_then t file IsAny (GivenUp file w i) IsAny (GivenUp file i i) (GivenUp file w i) a b d p q (λ c k sound so one. (one.sound, tt))
    (λ c k m sound one two. record { sound = two.sound; gone = gives_then w i i c.pieces k.pieces m.pieces one.gone two.gone })

-- what each value gives, of a call that succeeded
pub each_ok : {X F Y : Type 0} (r : Result X F) (P : Y → Type 0) → ((y : Y) → OnOk r (P y)) → OnOk r ((y : Y) → P y)
each_ok (Ok x) P each = each
each_ok (Err e) P each = tt
