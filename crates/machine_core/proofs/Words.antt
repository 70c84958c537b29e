-- Words that name objects.
use Rattle.std.proofs.Common.{◌≡◌, ℕ, zero, suc, List, Option, Some, None, refl, arith, rules}
use Rattle.joint_ops.specs.ps_outside.Outside.{Outside}
use Rattle.joint_ops.specs.obj_layout.Stored.{Space}
use Rattle.joint_ops.specs.obj_layout.declared.reference.Reference.{Reference}
use Rattle.joint_ops.specs.swizzle.Heap as area
use Rattle.joint_ops.specs.swizzle.Heap.{IsHeap}
use Rattle.ps_stepping.specs.ps_heap.Values.{Value, Nil}
use Rattle.joint_ops.specs.World.{DenotesIn, DenotesScopeIn}
use Rattle.joint_ops.proofs.of_heap_ops.LayoutLaws.{held-from}
use Rattle.machine_core.specs.Holding.{object_in, word_of}

-- the word of an object names it
pub named-back : (here : area.Heap) (outside : Outside Space) (names : List Reference) (to : Option ℕ) (v : Value) → IsHeap here → DenotesIn here outside names to v → object_in (word_of to) ≡ to
named-back here outside names None v heap d = refl
named-back here outside names (Some zero) v heap d = absurd (let low = (held-from here 0 heap d.denotes.0).0 in omega (arith, low))
named-back here outside names (Some (suc n)) v heap d = refl

pub scope-named-back : (here : area.Heap) (outside : Outside Space) (names : List Reference) (to scope : Option ℕ) → IsHeap here → DenotesScopeIn here outside names to scope → object_in (word_of to) ≡ to
scope-named-back here outside names None scope heap d = refl
scope-named-back here outside names (Some zero) scope heap d = absurd (let low = (held-from here 0 heap d.denotes.0).0 in omega (arith, low))
scope-named-back here outside names (Some (suc n)) scope heap d = refl

-- nil denotes itself
pub nil-denoted : (here : area.Heap) (outside : Outside Space) (names : List Reference) → DenotesIn here outside names None Nil
nil-denoted here outside names = search rules
