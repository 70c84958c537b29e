-- The search for a name, place after place.
use borrow.Author.Count.{below_more}
use Rattle.std.proofs.Common.{inl, ◌≡◌, ℕ, ◌+◌, ◌*◌, ◌<◌, Bool, true, false, List, subst}
use Rattle.joint_ops.specs.ps_outside.Outside.{Outside}
use Rattle.joint_ops.specs.obj_layout.Stored.{Space}
use Rattle.joint_ops.specs.obj_layout.declared.kind.Kind.TheVariants.{Text}
use Rattle.joint_ops.specs.swizzle.declared.fault.SwizzleFault.{SwizzleFault}
use Rattle.joint_ops.specs.swizzle.Heap.{Heap, IsHeap, IsHeld, header_at}
use Rattle.joint_ops.specs.swizzle.Text.{text_at}
use Rattle.joint_ops.specs.swizzle.Touch.{Keeps}
use Rattle.joint_ops.proofs.of_swizzle.ReadingLaws.{texts-kept}
use Rattle.db_dir.specs.Entries.{ReadsSome, Compares, MissesText}
use Rattle.db_dir.specs.Found.{AreOthers, IsFirst, HasName, IsSpoilt}
use Rattle.db_dir.proofs.EntryLaws.{compares-before, compares-still, misses-text-before}

-- What was compared after other touches.
pub compared-after : (old mid new : Heap) (directory slot least most text : ℕ) (same : Bool) → IsHeld old directory → IsHeld old text → (header_at old text).kind ≡ Text
    → Keeps old mid → Compares mid new directory slot least most (text_at mid text) same → Compares old new directory slot least most (text_at old text) same
compared-after old mid new directory slot least most text same held own kind keeps c =
    compares-before old mid new directory slot least most (text_at old text) same keeps held
    (subst (λ (bytes : List ℕ). Compares mid new directory slot least most bytes same) (texts-kept old mid keeps text own kind).bytes c)

pub others-next : (old mid new : Heap) (directory place name : ℕ) (same : Bool) → IsHeld old directory → IsHeld old name → (header_at old name).kind ≡ Text
    → Keeps old mid → Keeps mid new → AreOthers old mid directory place (text_at old name) → same ≡ false
    → Compares mid new directory (3 * place) 1 64 (text_at mid name) same → AreOthers old new directory (place + 1) (text_at old name)
others-next old mid new directory place name same held own kind keeps later others differs c =
    below_more (λ (k : ℕ). HasName old new directory k (text_at old name) false) place
    (λ k lt. compares-still old mid new directory (3 * k) 1 64 (text_at old name) false (others k lt) later)
    (subst (λ (b : Bool). HasName old new directory place (text_at old name) b) differs
    (compared-after old mid new directory (3 * place) 1 64 name same held own kind keeps c))

pub first-there : (old mid new : Heap) (directory place name : ℕ) (same : Bool) → IsHeld old directory → IsHeld old name → (header_at old name).kind ≡ Text
    → Keeps old mid → Keeps mid new → AreOthers old mid directory place (text_at old name) → 3 * place < (header_at old directory).refs → same ≡ true
    → Compares mid new directory (3 * place) 1 64 (text_at mid name) same → IsFirst old new directory (text_at old name) place
first-there old mid new directory place name same held own kind keeps later others below agrees c = record {
  below = below;
  others = λ k lt. compares-still old mid new directory (3 * k) 1 64 (text_at old name) false (others k lt) later;
  has = subst (λ (b : Bool). HasName old new directory place (text_at old name) b) agrees
      (compared-after old mid new directory (3 * place) 1 64 name same held own kind keeps c);
}

-- a directory that was found stays found
pub first-still : (old mid new : Heap) (directory place : ℕ) (name : List ℕ) → Keeps mid new → IsFirst old mid directory name place → IsFirst old new directory name place
first-still old mid new directory place name later f = record {
  below = f.below;
  others = λ k lt. compares-still old mid new directory (3 * k) 1 64 name false (f.others k lt) later;
  has = compares-still old mid new directory (3 * place) 1 64 name true f.has later;
}

-- why one can't go on
pub name-spoilt : (old mid new : Heap) (a b c : Outside Space) (directory place : ℕ) (fault : SwizzleFault) → IsHeap mid → IsHeld old directory → ReadsSome old mid a b
    → 3 * place < (header_at old directory).refs → MissesText mid new b c directory (3 * place) 1 64 fault → IsSpoilt old new a c directory fault
name-spoilt old mid new a b c directory place fault h held r below m = record {
  place = place;
  below = below;
  why = inl (misses-text-before old mid new a b c directory (3 * place) 1 64 fault h held r m);
}
