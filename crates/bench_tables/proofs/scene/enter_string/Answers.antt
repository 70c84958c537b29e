use Rattle.std.proofs.Common.{ℕ, refl, ap, sym, ◌∙◌, arith}
use Rattle.table_lib.specs.heap_places.swizzle.Heap.{header_at}
use Rattle.table_lib.proofs.of_table_nodes.of_heap_places.FillingLaws.{made-stands}
use Rattle.table_lib.proofs.of_table_nodes.of_heap_places.of_heap_texts.TextObjects.{holds-made}
use Rattle.bench_tables.proofs.SceneLaws.{set_spared}
use Rattle.bench_tables.proofs.scene.enter_string.Goals as goal

pub enter_text-requires-clause-key : goal.enter_text-requires-clause-key
enter_text-requires-clause-key c = let text = holds-made _ _ _ _ c.in-Ok.ensures in record { held = text.held; kind = text.kind }

pub enter_text-requires-clause-table : goal.enter_text-requires-clause-table
enter_text-requires-clause-table c = (made-stands _ _ _ _ c.in-Ok.ensures c.args.scene.now.table c.requires.table).held

pub enter_text-requires-clause-to : goal.enter_text-requires-clause-to
enter_text-requires-clause-to c = (made-stands _ _ _ _ c.in-Ok.ensures c.args.scene.now.value c.requires.value).held

pub returns-in-Ok-enter_text : goal.returns-in-Ok-enter_text
returns-in-Ok-enter_text c entered =
    let scene = c.args.scene.now in
    let sought = made-stands _ _ _ _ c.in-Ok.ensures scene.sought c.requires.sought in
    set_spared (record { sw = c.make_text.new.sw; table = scene.table; value = scene.value; sought = scene.sought }) c.enter_text.new.sw _ _
    (record {
      table = (made-stands _ _ _ _ c.in-Ok.ensures scene.table c.requires.table).held;
      value = (made-stands _ _ _ _ c.in-Ok.ensures scene.value c.requires.value).held;
      sought = sought.held;
      kind = sought.kind ∙ c.requires.kind;
      long = omega (arith, sought.bytes, c.requires.long);
    })
    (c.in-Ok-enter_text.ensures.spares scene.table refl)
    (λ same.
    let kind = ap (λ (j : ℕ). (header_at c.make_text.new.sw j).kind) (sym same) ∙ (sought.kind ∙ c.requires.kind) in
    let ended = c.in-Ok-enter_text.ensures.entered.class scene.table refl (λ table. cc (kind, table)) in
    cc)
