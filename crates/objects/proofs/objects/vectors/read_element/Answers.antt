use Rattle.std.proofs.Common.{w32, ℤ, subst, Err}
use Rattle.std.proofs.lemmas.Int.{to_z-of_z}
use Rattle.joint_ops.specs.heap_places.declared.value.Value.{Value}
use Rattle.joint_ops.specs.ps_heap.Values.{Vector}
use Rattle.joint_ops.specs.ps_heap.Objects.{element_of}
use Rattle.joint_ops.specs.World.{Answers, IsForIn, IsOfForm}
use Rattle.joint_ops.specs.Operands.{form_in}
use Rattle.objects.proofs.LastingLaws.{keeps-lasts}
use Rattle.objects.proofs.KnownLaws.{right-stays}
use Rattle.objects.proofs.BrokenLaws.{keeps-broken}
use Rattle.objects.proofs.objects.vectors.read_element.Goals as goal

pub returns-in-Ok-clause-got : goal.returns-in-Ok-clause-got
returns-in-Ok-clause-got g c = rw (to_z-of_z w32 c.args.at c.ranges.at) at c.in-Ok.ensures.got

pub returns-in-Ok-clause-right : goal.returns-in-Ok-clause-right
returns-in-Ok-clause-right g c =
    let old = c.args.sw.now in
    let new = c.get_element-got.new.sw in
    let right = right-stays old new c.args.known.now c.requires.right (keeps-lasts old new c.in-Ok.ensures.keeps) in
    record { layouts = right.layouts; fields = right.fields; vectors = c.learn.ensures right.vectors; procedures = right.procedures; makes = right.makes }

pub returns-in-Err-clause-got : goal.returns-in-Err-clause-got
returns-in-Err-clause-got g c of names id world denotes =
    let new = c.get_element-got.new.sw in
    let before = g.V.Vault.outside c.args.vault.now in
    let after = g.V.Vault.outside c.get_element-got.new.vault in
    rw (c.keep.ensures.same)
    (subst (λ (z : ℤ). Answers c.args.sw.now new before after (λ k v. IsOfForm (form_in of id) k × IsForIn new after names k v) of names (element_of of (Vector id) z) (Err c.in-Err.fault))
    (to_z-of_z w32 c.args.at c.ranges.at) (c.in-Err.ensures.got of names id world denotes))

pub returns-in-Err-clause-right : goal.returns-in-Err-clause-right
returns-in-Err-clause-right g c =
    let old = c.args.sw.now in
    let new = c.get_element-got.new.sw in
    c.keep.ensures.right old new c.requires.right (keeps-broken Value old new c.in-Err.fault c.in-Err.ensures.keeps)
