-- Readings of what a directory refers to only gain objects where something is seen of it.
use Rattle.std.proofs.Common.{inl, inr, ◌≡◌, ◌⊎◌, ◌≢◌, ℕ, zero, suc, List, [], ◌∷◌, get_or, Option, Some, None, Result, Ok, Err, OnOk, refl, sym, ap, subst}
use Rattle.joint_ops.specs.ps_outside.Outside.{Outside}
use Rattle.joint_ops.specs.obj_layout.Stored.{Space}
use Rattle.joint_ops.specs.obj_layout.declared.reference.Reference.{Reference}
use Rattle.joint_ops.specs.obj_layout.declared.reference.Reference.TheVariants.{Nil, Pid}
use Rattle.joint_ops.specs.swizzle.declared.fault.SwizzleFault.{SwizzleFault}
use Rattle.joint_ops.specs.swizzle.Heap.{Heap, IsHeap, IsHeld}
use Rattle.joint_ops.specs.swizzle.Joint.{Shown, shown_at}
use Rattle.joint_ops.specs.swizzle.Changes.{IsKnown, Within}
use Rattle.joint_ops.specs.swizzle.Reading.{AreKnown, Reads}
use Rattle.joint_ops.specs.heap_places.Shapes.{slot_of}
use Rattle.joint_ops.specs.heap_meaning.Standing.{Seen, Pairing}
use Rattle.joint_ops.specs.heap_meaning.Paired.{paired}
use Rattle.joint_ops.specs.Seeing.{Gains, seen}
use Rattle.joint_ops.proofs.GainLaws.{gains-none, gains-then, reads-gains}
use Rattle.joint_ops.specs.ps_heap.Databases.{Directory}
use Rattle.db_dir.specs.Directories.{AreNamed, IsDirectoryAt, IsDirectoryUnder, names_in}
use Rattle.db_dir.specs.Entries.{GainsBy, ReadsSome}

-- Nothing was touched.
pub by-none : (here : Heap) (a : Outside Space) (names : List Reference) → IsHeap here → GainsBy here here a a names
by-none here a names h = record { gains = λ known. gains-none here a h }

known-within : (s t : Seen) (names : List Reference) → Within s t → AreKnown s names → AreKnown t names
known-within s t [] w known = tt
known-within s t (n ∷ ns) w known =
    (elim (known.0) [ inl nil ↦ inl nil | inr is ↦ inr (record { it = is.it; is = w n is.it is.is }) ], known-within s t ns w known.1)

-- One reading after the other.
pub by-then : (old mid new : Heap) (a b c : Outside Space) (names : List Reference) → GainsBy old mid a b names → GainsBy mid new b c names → GainsBy old new a c names
by-then old mid new a b c names r s = record {
  gains = λ known.
      let first = r.gains known in
      gains-then old mid new a b c first (s.gains (known-within (seen old a) (seen mid b) names first.grows known));
}

-- what an object of the area refers to is the same after the first
pub by-more : (old mid new : Heap) (a b c : Outside Space) (at : ℕ) → IsHeld old at → ReadsSome old mid a b → GainsBy old mid a b (shown_at old at).refs
    → GainsBy mid new b c (shown_at mid at).refs → GainsBy old new a c (shown_at old at).refs
by-more old mid new a b c at held reads r s =
    by-then old mid new a b c (shown_at old at).refs r
    (subst (GainsBy mid new b c) (ap (λ (it : Shown). it.refs) (reads.reads.keeps.objects at held).shown_as) s)

pub by-after : {T : Type 0} (old mid new : Heap) (a b c : Outside Space) (at : ℕ) (result : Result T SwizzleFault) → IsHeld old at → ReadsSome old mid a b
    → GainsBy old mid a b (shown_at old at).refs → OnOk result (GainsBy mid new b c (shown_at mid at).refs) → OnOk result (GainsBy old new a c (shown_at old at).refs)
by-after old mid new a b c at (Ok x) held reads r s = by-more old mid new a b c at held reads r s
by-after old mid new a b c at (Err fault) held reads r s = tt

-- One slot was read.

known-at : (s : Seen) (names : List Reference) (slot : ℕ) → AreKnown s names → (get_or names slot Nil ≡ Nil) ⊎ IsKnown s (get_or names slot Nil)
known-at s [] slot known = inl refl
known-at s (n ∷ ns) zero known = known.0
known-at s (n ∷ ns) (suc slot) known = known-at s ns slot known.1

pub slot-gains : (old new : Heap) (a b : Outside Space) (at slot : ℕ) → IsHeap old → IsHeap new → Reads old new a b (slot_of (shown_at old at) slot ∷ [])
    → GainsBy old new a b (shown_at old at).refs
slot-gains old new a b at slot h later r = record {
  gains = λ known. reads-gains old new a b (slot_of (shown_at old at) slot ∷ []) h later (known-at (seen old a) (shown_at old at).refs slot known, tt) r;
}

-- Something is seen of all that a directory refers to.

named-known : (s : Seen) (pair : Pairing) (refs : List Reference) (ds : Directory) → AreNamed s pair refs ds → AreKnown s refs
named-known s pair [] [] a = tt
named-known s pair (n ∷ []) [] a = absurd a
named-known s pair (n ∷ o ∷ []) [] a = absurd a
named-known s pair (n ∷ o ∷ q ∷ more) [] a = absurd a
named-known s pair [] (x ∷ ds) a = absurd a
named-known s pair (n ∷ []) (x ∷ ds) a = absurd a
named-known s pair (n ∷ p ∷ []) (x ∷ ds) a = absurd a
named-known s pair (n ∷ p ∷ r ∷ more) (x ∷ ds) a =
    let first = a.0 in
    let second = a.1 in
    let third = (a.2).kind in (
      inr (record { it = first.it; is = first.there }),
      (inr (record { it = second.it; is = second.there }), (inr (record { it = third.it; is = third.there }), named-known s pair more ds a.3)),
    )

pub directory-known : (heap : Heap) (s : Seen) (pair : Pairing) (directory : Option ℕ) (ds : Directory) → IsDirectoryAt heap s pair directory ds
    → AreKnown s (names_in heap directory)
directory-known heap s pair None ds is = tt
directory-known heap s pair (Some at) ds is = named-known s pair (shown_at heap at).refs ds is.names

-- so of the one that a vault names
pub load-gains : (old new : Heap) (a b : Outside Space) (row : List Reference) (pid : ℕ) (ds : Directory) → IsHeap old → IsHeap new → pid ≢ 0
    → IsDirectoryUnder (seen old a) (paired row) pid ds → Reads old new a b (Pid pid ∷ []) → Gains old new a b
load-gains old new a b row pid [] h later some is r = absurd (some is)
load-gains old new a b row pid (d ∷ ds) h later some is r =
    reads-gains old new a b (Pid pid ∷ []) h later (inr (record { it = is.it; is = is.there }), tt) r

-- The area that is equal gained nothing more.
pub by-same : (old mid new : Heap) (a b : Outside Space) (names : List Reference) → new ≡ mid → GainsBy old mid a b names → GainsBy old new a b names
by-same old mid new a b names same g = subst (λ (x : Heap). GainsBy old x a b names) (sym same) g
