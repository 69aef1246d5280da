-- A port was served over a keeper of files: what is left of them.
use Rattle.std.proofs.Common.{◌≡◌, inl, inr, ℕ, List, [], Option, sym, subst, ◌∙◌}
use Rattle.fuse_wire.specs.declared.moment.Moment.{Moment}
use Rattle.fuse_keeper.specs.History.{History, Includes}
use Rattle.fuse_keeper.specs.Model.{Model}
use Rattle.fuse_keeper.specs.Stands.{Records, Standing, StandsAt, AreThese}
use Rattle.fuse_keeper.specs.KeeperState.{KeeperState, IsFirm}
use Rattle.fuse_session.specs.Deeds.{Did}
use Rattle.fuse_session.specs.Exchange.{HoldsAt}
use Rattle.fuse_session.specs.Passage.{passage, passage_for}
use Rattle.fuse_session.specs.Session.{Session}
use Rattle.fuse_session.specs.declared.counts.SessionCounts.{SessionCounts}
use Rattle.fuse_sim.specs.Lives.{RunsAreLives}
use Rattle.fuse_sim.specs.FileLives.{run_over, no_run, IsRunFrom}
use Rattle.fuse_sim.specs.inner.FilesLived.{ran_from, ran_weaker, ran_nothing}
use Rattle.fuse_commands.specs.declared.ending.Ending.{Ending}
use Rattle.fuse_commands.specs.declared.serve.Begin.{Begin}
use Rattle.fuse_commands.specs.declared.serve.Begin.TheVariants.{Fresh, Resume}
use Rattle.fuse_session.specs.Done.{life_of}
use Rattle.fuse_commands.specs.ServingRuns.{Views, Between, BeginsServing, SessionServed, NotServed, ServesPort, most_turns}
use Rattle.fuse_files.specs.StoreLives.{file_run}

-- files hold rows and records that a crash may leave of the keeper, and stand for what these stand for
pub record Keeps {M : Model} {Image : Type 0} (Stand : Image → Standing M → Type 0) (k : KeeperState M) (image : Image) : Type 0 where
  pub rows : M.Rows
  pub records : Records
  pub may : k.may_leave rows records
  pub stands : (at : Standing M) → StandsAt M (record { rows = rows; records = records }) at → Stand image at

-- it holds what stands for the history, and a crash leaves nothing else
record Holds {M : Model} (k : KeeperState M) (at : Standing M) : Type 0 where
  stands : HoldsAt k at
  firm : IsFirm k

none_pending : (t : List ℕ) → Includes t []
none_pending t i is = absurd (cc is)

-- these rows and records, and the others
stands_these : (M : Model) (rows x : M.Rows) (records r : Records) (at : Standing M) → AreThese M rows records x r
    → StandsAt M (record { rows = rows; records = records }) at → StandsAt M (record { rows = x; records = r }) at
stands_these M rows x records r at these stands = record {
  tree = stands.tree;
  distinct = stands.distinct;
  rows_are = these.0 ∙ stands.rows_are;
  right = λ i a is. stands.right i a (sym (these.1 i) ∙ is);
  kept = λ i isnt. these.1 i ∙ stands.kept i isnt;
}

module _ {M : Model} {K P Image : Type 0} (v : Views M K P) (gave : List Moment → Type 0) (Stand : Image → Standing M → Type 0)
    (more : (image : Image) (s : M.State) (h : History) (t u : List ℕ) → Includes u t → Stand image (record { state = s; history = h; settled = t }) → Stand image (record { state = s; history = h; settled = u }))
    (serves : (k : K) → (v.keeper k).service ≡ M.service) where
  -- after the notice
  begun_holds : (begin : Begin) (b : Between K P) (at : Standing M) → BeginsServing begin v b → (v.keeper b.keeper').is_honest → Holds (v.keeper b.keeper) at → Holds (v.keeper b.keeper') at
  begun_holds Fresh b at begins honest holds = subst (λ k. Holds (v.keeper k) at) (sym begins.0) holds
  begun_holds Resume b at begins honest holds =
      let s = holds.stands in
      record {
        stands = record { rows = s.rows; records = s.records; held = begins.looked.same honest s.rows s.records s.held; stands = s.stands };
        firm = begins.firm honest s.rows s.records s.held holds.firm;
      }

  begun_honest : (begin : Begin) (b : Between K P) → BeginsServing begin v b → (v.keeper b.keeper').is_honest → (v.keeper b.keeper).is_honest
  begun_honest Fresh b begins honest = subst (λ k. (v.keeper k).is_honest) begins.0 honest
  begun_honest Resume b begins honest = begins.looked.called.honest honest

  -- what is left of the keeper is whole, and the files keep some of it
  abbrev IsKept : Between K P → Image → Type 0
  IsKept b image = ((v.keeper b.keeper').is_honest → (v.keeper b.keeper').leaves_whole) → (v.keeper b.keeper').is_honest × Keeps Stand (v.keeper b.keeper') image

  session_life : (b : Between K P) (begin : Begin) (ending : Ending) (counts : Option SessionCounts) (x : SessionServed v gave b begin ending counts) (at : Standing M) (image : Image)
      → RunsAreLives (passage (v.keeper x.begun) (v.keeper b.keeper') (v.port x.now) (v.port b.port') (Did gave (v.performed x.begun b.keeper') (v.became x.now b.port')))
      → ((v.keeper b.keeper).is_honest → Holds (v.keeper b.keeper) at) → IsKept b image → IsRunFrom Stand at (run_over (life_of x.session) image)
  session_life b begin ending counts x at image lives holds kept =
      subst (λ V. (session : Session (passage_for V (v.keeper x.begun) (v.keeper b.keeper') (v.port x.now) (v.port b.port')
      (Did gave (v.performed x.begun b.keeper') (v.became x.now b.port'))) most_turns x.served) → IsRunFrom Stand at (run_over (life_of session) image))
      (sym (serves x.begun)) (λ session new.
      let run = life_of session in
      let begun : (v.keeper x.begun).is_honest → Holds (v.keeper x.begun) at = λ now. begun_holds begin _ at x.begins now (holds (begun_honest begin _ x.begins now)) in
      let crash = λ (honest : (v.keeper b.keeper').is_honest).
      let h = begun (session.honest honest) in
      (lives _ run).crashes honest h.firm at.state at.history at.settled h.stands (none_pending at.settled) new in
      let now = kept (λ honest. (crash honest).0) in
      let keeps = now.1 in
      ran_from Stand more run at image (ran_weaker (StandsAt M (record { rows = keeps.rows; records = keeps.records })) (Stand image) keeps.stands ((crash now.0).1 keeps.rows keeps.records keeps.may)))
      x.session

  not_served : (b : Between K P) (begin : Begin) (ending : Ending) (counts : Option SessionCounts) → NotServed v b begin ending counts → (at : Standing M) (image : Image)
      → ((v.keeper b.keeper).is_honest → Holds (v.keeper b.keeper) at) → IsKept b image → IsRunFrom Stand at (no_run image)
  not_served b begin ending counts x at image holds kept new =
      let firm = λ (honest : (v.keeper b.keeper').is_honest).
      let old = holds (x.looked.called.honest honest) in
      old.firm old.stands.rows old.stands.records old.stands.held in
      let now = kept (λ honest.
      let s = (holds (x.looked.called.honest honest)).stands in
      x.looked.whole s.rows s.records s.held (firm honest).0) in
      let keeps = now.1 in
      let s = (holds (x.looked.called.honest now.0)).stands in
      ran_nothing Stand at image (keeps.stands at (stands_these M s.rows keeps.rows s.records keeps.records at
      ((firm now.0).1 keeps.rows keeps.records (x.looked.crash keeps.rows keeps.records s.rows s.records s.held keeps.may)) s.stands))

  -- the run is a life from what the keeper held at first
  pub served_life : (b : Between K P) (begin : Begin) (ending : Ending) (counts : Option SessionCounts) (x : ServesPort v gave b begin ending counts) (at : Standing M) (image : Image)
      → ((k k' : K) (p p' : P) → RunsAreLives (passage (v.keeper k) (v.keeper k') (v.port p) (v.port p') (Did gave (v.performed k k') (v.became p p'))))
      → ((v.keeper b.keeper).is_honest → HoldsAt (v.keeper b.keeper) at) → ((v.keeper b.keeper).is_honest → IsFirm (v.keeper b.keeper)) → IsKept b image
      → IsRunFrom Stand at (file_run x image)
  served_life b begin ending counts (inl x) at image lives holds firm kept =
      session_life b begin ending counts x at image (lives x.begun b.keeper' x.now b.port') (λ was. record { stands = holds was; firm = firm was }) kept
  served_life b begin ending counts (inr x) at image lives holds firm kept =
      not_served b begin ending counts x at image (λ was. record { stands = holds was; firm = firm was }) kept
