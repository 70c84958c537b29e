-- Nil that is pushed, and references that are compared.
use Rattle.machine_core.specs.Holding.{world_in}
use Rattle.std.proofs.Common.{◌≡◌, ℕ, Bool, List, Option, Some, None, sym, ap, ◌∙◌, subst}
use Rattle.ps_base.specs.declared.operator.Relation.{Relation}
use Rattle.machine_core.specs.ps_outside.Outside.{Outside}
use Rattle.machine_core.specs.obj_layout.Stored.{Space}
use Rattle.machine_core.specs.obj_layout.declared.reference.Reference.{Reference}
use Rattle.machine_core.specs.swizzle.Heap as area
use Rattle.machine_core.specs.ps_meaning.Operations.{object_relation}
use Rattle.machine_core.specs.ps_heap.Objects.{Heap, is_one_object}
use Rattle.machine_core.specs.ps_heap.Values.{Value, Nil, number_of}
use Rattle.machine_core.specs.ps_stepping.Steps.{push_num, push_ref}
use Rattle.machine_core.specs.ps_stepping.Objects.{compare_objects, pop_denoting}
use Rattle.machine_core.specs.joint_ops.World.{DenotesIn, IsWorld}
use Rattle.machine_core.specs.joint_ops.Operands.{IsByObject}
use Rattle.machine_core.specs.declared.machine.Machine.{Machine}
use Rattle.machine_core.specs.declared.stepped.Stepped.{Stepped}
use Rattle.machine_core.specs.Stepped.{Takes}
use Rattle.machine_core.specs.inside.Taking.{Leaves, TakesRef}
use Rattle.machine_core.proofs.Words.{nil-denoted}
use Rattle.machine_operands.specs.Popping.{PopsDenoting}
use Rattle.machine_operands.proofs.Parts.{after-parts, both-leave}

pub nil-pushed : (outside : Outside Space) (m new : Machine) (r : Stepped) → TakesRef outside outside push_ref m None new r
    → Takes outside outside (push_ref Nil) m new r
nil-pushed outside m new r t = record {
  sound = t.sound;
  names = λ n. t.names n tt;
  size = t.size;
  does = λ c h. t.does h.names Nil c h.held (nil-denoted m.objects outside h.names);
}

pub objects-compared : (outside : Outside Space) (op : Relation) (old mid last new : Machine) (b a : Option ℕ) (are_one stands : Bool) (r : Stepped)
    → Leaves old mid → Leaves mid last → PopsDenoting outside old mid (Some b) → PopsDenoting outside mid last (Some a)
    → ((of : Heap) (names : List Reference) (v w : Value) → IsWorld last.objects outside of names → DenotesIn last.objects outside names a v
    → DenotesIn last.objects outside names b w → IsByObject v → IsByObject w → are_one ≡ is_one_object v w)
    → ((v w : Value) → is_one_object v w ≡ are_one → object_relation op v w ≡ stands) → Takes outside outside (push_num (number_of stands)) last new r
    → Takes outside outside (compare_objects op) old new r
objects-compared outside op old mid last new b a are_one stands r first second p q one related t =
    after-parts outside outside (compare_objects op) old last (both-leave old mid last first second) (push_num (number_of stands)) new r t
    (λ names c h.
    let y = p.gives names c h in
    let x = q.gives names y.0 y.3 in
    let right = subst (λ (here : area.Heap). DenotesIn here outside names b y.1) (sym second.objects) y.4 in
    let same : object_relation op x.1 y.1 ≡ stands = related x.1 y.1 (sym (one x.0.store.held.objects names x.1 y.1 (world_in x.3.run) x.4 right x.5 y.5)) in (
      x.0,
      y.2 (λ w d. pop_denoting d (λ v e. push_num (number_of (object_relation op v w)) e))
          ∙ x.2 (λ v e. push_num (number_of (object_relation op v y.1)) e)
          ∙ ap (λ (s : Bool). push_num (number_of s) x.0) same,
      x.3,
    ))
