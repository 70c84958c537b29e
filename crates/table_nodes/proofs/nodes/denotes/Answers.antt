use Rattle.std.proofs.Common.{◌≡◌, Some, sym, ap, ◌∙◌, subst, arith}
use Rattle.heap_places.specs.obj_layout.declared.reference.Reference.TheVariants.{Local}
use Rattle.heap_places.specs.swizzle.Heap.{IsHeld, ref_at, reference_to}
use Rattle.heap_places.specs.swizzle.Joint.{name_of, name_at}
use Rattle.heap_places.proofs.of_swizzle.KeptLaws.{inside_kept}
use Rattle.heap_places.proofs.of_swizzle.NameLaws.{name_at-injective}
use Rattle.table_nodes.proofs.nodes.denotes.Goals as goal

pub returns-in-Local-Some-clause-no : goal.returns-in-Local-Some-clause-no
returns-in-Local-Some-clause-no c e same =
    let is : ref_at c.args.sw.now c.args.at c.args.slot ≡ Local c.in-Local-Some.to = cc (c.peek.ensures.value, c.in-Local-Some.is-0) in
    let side : c.args.side ≡ Some c.in-Local-Some.side = cc (c.in-Local-Some.is-1) in
    let to_held = inside_kept c.args.sw.now c.args.at c.sound.ensures c.requires.node.held c.args.slot c.in-Local-Some.to is in
    let held : IsHeld c.args.sw.now c.in-Local-Some.side = subst (λ s. Rattle.std.specs.Prelude.IfSome s (IsHeld c.args.sw.now)) side c.requires.side in
    let names : name_at c.args.sw.now c.in-Local-Some.to ≡ name_at c.args.sw.now c.in-Local-Some.side = sym (ap (name_of c.args.sw.now) is) ∙ (same ∙ ap (λ s. name_of c.args.sw.now (reference_to s)) side) in
    let equal = name_at-injective c.args.sw.now c.in-Local-Some.to c.in-Local-Some.side c.sound.ensures to_held held names in
    grind (arith, e, equal)
