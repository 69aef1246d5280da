-- What looks at pairs leave in view.
use Rattle.fuse_keeper.specs.declared.fault.StoreFault.{StoreFault}
use Rattle.fuse_guest.specs.Pairs.{Pairs}
use Rattle.guest_talk.specs.Showing.{ShownBy}
use Rattle.guest_talk.specs.Asking.{Ask}
use Rattle.guest_talk.specs.inner.Turning.{Asking, asking_by}

-- a source of pairs, and what its laws say
pub record Source (P : Type 0) : Type 1 where
  pub shows : P → Pairs → Type 0
  pub is_honest : P → Type 0
  pub may_answer : P → StoreFault → Type 0
  pub looks : P → P → Type 0
  pub fails : P → P → Type 0
  pub still : (a : P) → looks a a
  pub and_then : (a b d : P) → looks a b → looks b d → looks a d
  pub and_fails : (a b d : P) → looks a b → fails b d → fails a d
  pub or_less : (a b : P) → looks a b → fails a b
  pub was_honest : (a b : P) → fails a b → is_honest b → is_honest a
  pub kept : (a b : P) → looks a b → is_honest b → (ps : Pairs) → shows a ps → shows b ps
  pub may_stay : (a b : P) → looks a b → (f : StoreFault) → may_answer b f → may_answer a f

abbrev pub source_of : {P : Type 0} (shows : P → Pairs → Type 0) (is_honest : P → Type 0) (may_answer : P → StoreFault → Type 0)
    (looks fails : P → P → Type 0) → ((a : P) → looks a a) → ((a b d : P) → looks a b → looks b d → looks a d)
    → ((a b d : P) → looks a b → fails b d → fails a d) → ((a b : P) → looks a b → fails a b)
    → ((a b : P) → fails a b → is_honest b → is_honest a) → ((a b : P) → looks a b → is_honest b → (ps : Pairs) → shows a ps → shows b ps)
    → ((a b : P) → looks a b → (f : StoreFault) → may_answer b f → may_answer a f) → Source P
source_of shows is_honest may_answer looks fails still and_then and_fails or_less was_honest kept may_stay = record {
  shows = shows;
  is_honest = is_honest;
  may_answer = may_answer;
  looks = looks;
  fails = fails;
  still = still;
  and_then = and_then;
  and_fails = and_fails;
  or_less = or_less;
  was_honest = was_honest;
  kept = kept;
  may_stay = may_stay;
}

abbrev pub shown_by : {P : Type 0} → Source P → P → P → Pairs → Type 0
shown_by s a b = ShownBy s.shows s.is_honest a b

-- a request that is asked, between two sources
abbrev pub asking_over : {P : Type 0} → Source P → Ask → P → P → Asking
asking_over s ask a b = asking_by ask (shown_by s a b) (s.may_answer a) (s.looks a b) (s.fails a b)

-- what is shown to the end was shown before
pub shown_before : {P : Type 0} (s : Source P) (a b d : P) → s.fails b d → (ps : Pairs) → shown_by s a d ps → shown_by s a b ps
shown_before s a b d later ps shown = (s.was_honest b d later shown.0, shown.1, shown.2)

-- and is still shown after looks
pub shown_after : {P : Type 0} (s : Source P) (a b d : P) → s.looks a b → s.fails b d → (ps : Pairs) → shown_by s a d ps → shown_by s b d ps
shown_after s a b d first later ps shown = (shown.0, shown.1, s.kept a b first (s.was_honest b d later shown.0) ps shown.2)
