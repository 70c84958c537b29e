-- The form of the elements of a vector, by what is known of it.
use Rattle.std.proofs.Common.{◌≡◌, ℕ, ℤ, List, [], ◌∷◌, Some, sym, ◌∙◌, subst}
use Rattle.joint_ops.specs.ps_outside.Outside.{Outside}
use Rattle.joint_ops.specs.obj_layout.Stored.{Space}
use Rattle.joint_ops.specs.obj_layout.declared.reference.Reference.{Reference}
use Rattle.joint_ops.specs.swizzle.Heap.{Heap, IsHeap}
use Rattle.joint_ops.specs.swizzle.Joint.{shown_at}
use Rattle.joint_ops.proofs.of_swizzle.ReadingLaws.{reads-none}
use Rattle.joint_ops.specs.text_forms.declared.forms.Form.{Form}
use Rattle.joint_ops.specs.heap_places.Shapes.{slot_of}
use Rattle.joint_ops.specs.heap_places.Places.{FirstText}
use Rattle.joint_ops.specs.ps_heap.Objects as meaning
use Rattle.joint_ops.specs.ps_heap.Texts.{Yields}
use Rattle.joint_ops.specs.ps_heap.Values.{Vector}
use Rattle.joint_ops.specs.World.{IsWorld, DenotesIn}
use Rattle.joint_ops.specs.Operands.{form_in}
use Rattle.joint_ops.proofs.SeenLaws.{vector-at, vector-denoted}
use Rattle.joint_ops.proofs.ElementLaws.{answers-form}
use Rattle.objects.specs.Vectors.{ReachesElement}

pub form-known : (here : Heap) (outside : Outside Space) (of : meaning.Heap) (names : List Reference) (vector id : ℕ) (at : ℤ) (f : Form) (n : ℕ)
    → IsHeap here → ((a b : Space) → outside.contents a → outside.contents b → a ≡ b) → IsWorld here outside of names
    → DenotesIn here outside names (Some vector) (Vector id) → ReachesElement here vector at f n → f ≡ form_in of id
form-known here outside of names vector id at f n h one w d r =
    let known = r.known in
    let type = r.so.type in
    let first : FirstText here here outside outside known.vector type.text = record {
      held = type.denotes.0;
      kind = type.kind;
      denotes = type.denotes;
      reads = reads-none here outside (slot_of (shown_at here known.vector) 0 ∷ []);
    } in
    let there = subst (λ (v : ℕ). FirstText here here outside outside v type.text) r.vector_is first in
    let v = vector-at here outside of names vector id h w (vector-denoted here outside names vector id h d) in
    let a = answers-form here here outside outside of names h h w one one vector id type.text known.form v there type.tells in
    let same : form_in of id ≡ a.0 = let e : Yields (form_in of id) ≡ Yields a.0 = a.1 in cc in
    sym r.form_is ∙ a.2 ∙ sym same
