-- What was read off, up to a state of the look.
use Rattle.std.proofs.Common.{◌≡◌, Option, None, refl, sym, subst}
use Rattle.fuse_tree.specs.declared.look.LookFault.{LookFault}
use Rattle.fuse_rows.specs.Rows.{Rows}
use Rattle.fuse_tree.specs.Rowed.{IsRowed}
use Rattle.fuse_show.specs.Looks.{ReadOff, ReadUpTo, lies_between}

module _ {S : Type 0} (clean : S → Type 0) (looking failing : S → S → Type 0) (sees : S → Rows → Type 0) where
  -- the last state
  pub up_to_here : ((s : S) → failing s s) → (a b : S) (fault : Option LookFault) (P : Rows → Type 0) → looking a b → ReadOff (clean b) (sees a) P
      → ReadUpTo clean (lies_between looking failing a b) (sees a) b fault P
  up_to_here rests a b fault P looks so = record { seen = b; looks = (looks, rests b); last = λ none. refl; so = so }

  -- the state before a look that failed
  pub up_to_before : (a b c : S) (fault : Option LookFault) (P : Rows → Type 0) → (fault ≡ None → ⊥) → looking a b → failing b c → ReadOff (clean b) (sees a) P
      → ReadUpTo clean (lies_between looking failing a c) (sees a) c fault P
  up_to_before a b c fault P some looks fails so = record { seen = b; looks = (looks, fails); last = λ none. absurd (some none); so = so }

  module _ (and_then : (a b c : S) → looking a b → looking b c → looking a c) (was_clean : (a b : S) → looking a b → clean b → clean a)
      (kept : (a b : S) → looking a b → clean b → (rows : Rows) → sees a rows → sees b rows) where
    -- one after the other
    pub up_to_after : (a b c : S) (fault : Option LookFault) (P Q R : Rows → Type 0) → looking a b → ReadOff (clean b) (sees a) P
        → ReadUpTo clean (lies_between looking failing b c) (sees b) c fault Q → ((rows : Rows) → IsRowed rows → P rows → Q rows → R rows)
        → ReadUpTo clean (lies_between looking failing a c) (sees a) c fault R
    up_to_after a b c fault P Q R looks before one so = record {
      seen = one.seen;
      looks = (and_then a b one.seen looks one.looks.0, one.looks.1);
      last = one.last;
      so = λ is_clean rows is at.
          let clean_before = was_clean b one.seen one.looks.0 is_clean in
          so rows is (before clean_before rows is at) (one.so is_clean rows is (kept a b looks clean_before rows at));
    }

    -- what was read off at the last state, where no look failed
    pub read_off : (a b : S) (P : Rows → Type 0) → ReadUpTo clean (lies_between looking failing a b) (sees a) b None P → ReadOff (clean b) (sees a) P
    read_off a b P one = subst (λ (s : S). ReadOff (clean s) (sees a) P) (sym (one.last refl)) one.so
