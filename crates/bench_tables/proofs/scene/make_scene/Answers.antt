use Rattle.std.proofs.Common.{◌≡◌, ap, ◌∙◌, arith}
use Rattle.table_lib.specs.heap_places.swizzle.Heap.{header_at}
use Rattle.table_lib.specs.heap_places.swizzle.Objects.{Object}
use Rattle.table_lib.specs.heap_places.obj_layout.declared.header.Header.{Header}
use Rattle.table_lib.proofs.of_table_nodes.of_heap_places.FillingLaws.{made-stands}
use Rattle.table_lib.proofs.of_table_nodes.of_heap_places.of_swizzle.MadeLaws.{made-object}
use Rattle.table_lib.proofs.of_table_nodes.of_heap_places.of_heap_texts.TextObjects.{header_of-text_object, holds-made}
use Rattle.bench_tables.proofs.scene.make_scene.Goals as goal

pub returns : goal.returns
returns c =
    let sought = holds-made _ _ _ _ c.in-Ok.ensures in
    let value = holds-made _ _ _ _ c.in-Ok-make_text.ensures in
    let first = made-stands _ _ _ _ c.in-Ok-make_text.ensures c.in-Ok.sought sought.held in
    let last = c.in-Ok-table_new.ensures.stands c.in-Ok.sought first.held in
    let bytes : (header_at c.make_text.new.sw c.in-Ok.sought).bytes ≡ 8 = ap (λ (o : Object). o.header.bytes) (made-object _ _ _ _ c.in-Ok.ensures) ∙ ap (λ (h : Header). h.bytes) (header_of-text_object _) in
    record {
      table = c.in-Ok-table_new.ensures.unused.shape.held;
      value = (c.in-Ok-table_new.ensures.stands c.in-Ok-make_text.value value.held).held;
      sought = last.held;
      kind = last.kind ∙ (first.kind ∙ sought.kind);
      long = omega (arith, last.bytes, first.bytes, bytes);
    }
