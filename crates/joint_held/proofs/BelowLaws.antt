-- The PIDs of the area are below the words that the vault uses.
use Rattle.std.proofs.Common.{inl, inr, ◌≡◌, ℕ, ◌+◌, ◌<◌, ◌≤◌, List, length, arith, Option}
use Rattle.std.proofs.lemmas.Bool.{cases_eq}
use Rattle.joint_ops.specs.ps_outside.Outside.{Outside}
use Rattle.joint_ops.specs.obj_layout.Stored.{Space, IsSpace, Holds}
use Rattle.joint_ops.specs.obj_layout.declared.reference.Reference.{Reference}
use Rattle.joint_ops.proofs.of_heap_meaning.of_obj_layout.StoredLaws.{HasObject-within, HasObject-object}
use Rattle.joint_ops.proofs.of_heap_meaning.of_obj_layout.ObjectLaws.{object-long}
use Rattle.joint_ops.specs.swizzle.Heap.{Heap, header_at}
use Rattle.joint_ops.specs.ps_heap.Held.{Held}
use Rattle.commit_walk.specs.declared.homes.Source.{Source}
use Rattle.new_pids.specs.Giving.{AreBelow}
use Rattle.joint_held.specs.Held.{HoldsRun}

-- what is held under a PID ends at or below the words that are used
held-below : (outside : Outside Space) (used directory pid : ℕ) (words : List ℕ) → ((space : Space) → outside.contents space → IsSpace used directory space) → Holds outside pid words → pid < used
held-below outside used directory pid words space h =
    let within = HasObject-within h.space pid words h.has in
    let long = object-long words (HasObject-object h.space pid words h.has) in
    cases (length words) (length h.space.words) long within.high (space h.space h.is).long
  where
    cases : (n all : ℕ) → 4 ≤ n → pid + n ≤ all → all ≡ used → pid < used
    cases n all long high is = omega (arith, long, high, is)

pub below-used : (here : Heap) (outside : Outside Space) (names : List Reference) (writing : List Source) (directory : Option ℕ) (h : Held) (used named : ℕ)
    → ((space : Space) → outside.contents space → IsSpace used named space) → HoldsRun here outside names writing directory h → AreBelow here used
below-used here outside names writing directory h used named space run x held = elim (cases_eq (header_at here x).pid 0) [
  | inl none ↦ let some = (space run.current.told.content run.current.told.is).some in omega (arith, none, some)
  | inr low ↦ let k = run.current.told.there x held (omega (arith, low)) in held-below outside used named (header_at here x).pid k.0 space k.1
]
