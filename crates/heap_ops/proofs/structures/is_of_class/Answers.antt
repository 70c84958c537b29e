use Rattle.std.proofs.Common.{sym}
use Rattle.heap_places.specs.obj_layout.declared.kind.Kind.TheVariants.{Structure}
use Rattle.heap_places.specs.swizzle.Heap.{header_at}
use Rattle.heap_places.proofs.TouchedLaws.{kinds-same}
use Rattle.heap_ops.proofs.ClassLaws.{tells-compared}
use Rattle.heap_ops.proofs.structures.is_of_class.Goals as goal

pub returns-in-Ok-clause-told : goal.returns-in-Ok-clause-told
returns-in-Ok-clause-told g c =
    tells-compared c.args.sw.now c.first_text.new.sw (g.V.Vault.outside c.args.vault.now) (g.V.Vault.outside c.first_text.new.vault) c.args.object
    c.in-Ok.text c.args.class c.are_same.result
    (kinds-same (header_at c.args.sw.now c.args.object).kind Structure (sym c.if-not-is_kind.ensures)) c.in-Ok.ensures.touched c.requires.class
    c.requires.text c.are_same.ensures.same c.are_same.ensures.different
