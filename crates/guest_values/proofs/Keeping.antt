-- What is in use stays over several calls.
use Rattle.std.proofs.Common.{ℕ, List, refl, ◌∙◌, sym, subst}
use Rattle.sqlite_disk.specs.Disk.{Follows}
use Rattle.fuse_data.specs.declared.extent.Extent.{Extent}
use Rattle.fuse_data.specs.declared.gaps.Gap.{Gap}
use Rattle.fuse_data.specs.Leaving.{KeepsInUse}
use Rattle.fuse_data.specs.Space.{InUse}
use Rattle.fuse_data.specs.State.{DataState}
use Rattle.guest_values.specs.State.{KeepsUsed, ChangesSpace}

pub kept_same : (gaps : List Gap) (c : List ℕ) → KeepsInUse gaps c c
kept_same gaps c = record { header = λ store h. h; extents = λ p used whole. record { whole = whole; same = refl } }

pub kept_then : (g h : List Gap) (a b c : List ℕ) → ((q : Extent) → InUse g q → InUse h q) → KeepsInUse g a b → KeepsInUse h b c → KeepsInUse g a c
kept_then g h a b c more one two = record {
  header = λ store head. two.header store (one.header store head);
  extents = λ p used whole.
      let k = one.extents p used whole in
      let l = two.extents p (more p used) k.whole in
      record { whole = l.whole; same = l.same ∙ k.same };
}

pub follows_then : (g h : List Gap) (a b c : List ℕ → Type 0) → ((q : Extent) → InUse g q → InUse h q) → Follows (KeepsInUse g) a b → Follows (KeepsInUse h) b c
    → Follows (KeepsInUse g) a c
follows_then g h a b c more one two file may =
    let (d, was, kept) = two file may in
    let (e, before, first) = one d was in
    (e, before, kept_then g h e d file more first kept)

pub keeps_same : (s : DataState) → KeepsUsed s s
keeps_same s = record {
  others = λ q used. used;
  kept = kept_same s.gaps s.seen;
  crash = λ c may. (c, may, kept_same s.gaps c);
  clean = refl;
  usable = refl;
}

pub keeps_then : (s t u : DataState) → KeepsUsed s t → KeepsUsed t u → KeepsUsed s u
keeps_then s t u one two = record {
  others = λ q used. two.others q (one.others q used);
  kept = kept_then s.gaps t.gaps s.seen t.seen u.seen one.others one.kept two.kept;
  crash = follows_then s.gaps t.gaps s.may_leave t.may_leave u.may_leave one.others one.crash two.crash;
  clean = two.clean ∙ one.clean;
  usable = two.usable ∙ one.usable;
}

-- the free space alone changed, and what was in use at first still is
pub keeps_relisted : (s t u : DataState) → KeepsUsed s t → ChangesSpace t u → ((q : Extent) → InUse s.gaps q → InUse u.gaps q) → KeepsUsed s u
keeps_relisted s t u one two others = record {
  others = others;
  kept = subst (KeepsInUse s.gaps s.seen) (sym two.seen) one.kept;
  crash = λ c may. one.crash c (two.crash c may);
  clean = two.clean ∙ one.clean;
  usable = two.usable ∙ one.usable;
}
