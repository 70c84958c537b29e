-- An object that was made: what it leaves as it was, of area and vault, and what it took of the area.
use Rattle.std.proofs.Common.{arith, inl, inr, ◌≡◌, ℕ, ◌+◌, ◌*◌, ◌^◌, [], ◌∷◌, sym, ap, ◌∙◌, subst}
use Rattle.std.proofs.lemmas.Bool.{cases_lt}
use Rattle.heap_meaning.specs.ps_outside.Outside.{Outside}
use Rattle.heap_meaning.specs.obj_layout.Stored.{Space}
use Rattle.heap_meaning.proofs.of_obj_layout.StoredLaws.{Holds-low}
use Rattle.heap_meaning.specs.obj_layout.declared.reference.Reference as reference
use Rattle.heap_meaning.specs.obj_layout.declared.reference.Reference.TheVariants as name
use Rattle.heap_meaning.specs.swizzle.declared.fault.SwizzleFault.{SwizzleFault}
use Rattle.heap_meaning.specs.swizzle.Objects.{Object, size_of}
use Rattle.heap_meaning.specs.swizzle.Heap as area
use Rattle.heap_meaning.specs.swizzle.Heap.{IsHeap, IsInside, IsMade, IsFull, top_of}
use Rattle.heap_meaning.specs.swizzle.Joint.{shown, name_of}
use Rattle.heap_meaning.specs.swizzle.Changes.{Within, ChangedAt}
use Rattle.heap_meaning.specs.swizzle.Touch.{Keeps}
use Rattle.heap_meaning.proofs.of_swizzle.ObjectLaws.{size_of_all-append}
use Rattle.heap_meaning.proofs.of_swizzle.NameLaws.{names-decided}
use Rattle.heap_meaning.proofs.of_swizzle.JointLaws.{name-fresh, joint-made}
use Rattle.heap_meaning.proofs.of_proc_values.StayLaws.{keeps-before}
use Rattle.heap_meaning.specs.heap_texts.Texts.{wanted_of}
use Rattle.heap_meaning.proofs.of_swizzle.TouchLaws.{keeps-refl}
use Rattle.joint_ops.specs.World.{IsStored, seen}
use Rattle.joint_ops.specs.Made.{AreWords, IsShort, LacksRoom}

-- It leaves all others as they are,
pub made-keeps : (old new : area.Heap) (at : ℕ) (o : Object) → IsHeap old → IsMade old new at o → Keeps old new
made-keeps old new at o h m = subst (Keeps old) (sym m.made) (keeps-before old (o ∷ []) h)

-- and takes its words.
pub made-top : (old new : area.Heap) (at : ℕ) (o : Object) → IsMade old new at o → top_of new ≡ top_of old + size_of o
made-top old new at o m = ap top_of m.made ∙ omega (arith, size_of_all-append old.objects (o ∷ []))

-- Where the area stays, so do its objects.
pub same-keeps : (old new : area.Heap) → new ≡ old → Keeps old new
same-keeps old new same = subst (Keeps old) (sym same) (keeps-refl old)

-- What is seen is what was seen, and the new object under a name of its own.
module _ (old new : area.Heap) (outside : Outside Space) (at : ℕ) (o : Object) (h : IsHeap old) (inside : IsInside old o)
    (no_pid : o.header.pid ≡ 0) (m : IsMade old new at o) where
  pub made-changed : ChangedAt (seen old outside) (name.Local (top_of old)) (shown (name_of old) o) (seen new outside)
  made-changed =
      subst (λ (x : area.Heap). ChangedAt (seen old outside) (name.Local (top_of old)) (shown (name_of old) o) (seen x outside)) (sym m.made)
      (joint-made old (IsStored outside) o h inside no_pid (λ pid words s. Holds-low outside pid words s.there))

  pub made-grows : Within (seen old outside) (seen new outside)
  made-grows i it j = elim (names-decided i (name.Local (top_of old))) [
    | inl same ↦ absurd (name-fresh old (IsStored outside) it h (subst (λ (r : reference.Reference). seen old outside r it) same j))
    | inr ne ↦ made-changed.stays i it ne j
  ]

-- There was no room for it.

words-wanted : (words weight : ℕ) → 8 * words ≡ weight → AreWords (wanted_of words) weight
words-wanted words weight are = elim (cases_lt words (2 ^ 32)) [
  | inl lt ↦ inl (omega (arith, are, lt))
  | inr ge ↦ inr (omega (arith, ge), omega (arith, are, ge))
]

pub full-short : (old new : area.Heap) (words weight : ℕ) (fault : SwizzleFault) → IsFull old new (wanted_of words) fault → 8 * words ≡ weight
    → IsShort old new weight fault
full-short old new words weight fault full are = record {
  wanted = wanted_of words;
  fault_is = full.fault_is;
  full = full.full;
  words = words-wanted words weight are;
  stays = full.stays;
}

pub full-breaks : (old new : area.Heap) (wanted : ℕ) (fault : SwizzleFault) → IsFull old new wanted fault → LacksRoom old new fault
full-breaks old new wanted fault full =
    record { wanted = wanted; fault_is = full.fault_is; full = full.full; stays = full.stays }
