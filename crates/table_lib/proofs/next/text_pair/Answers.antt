use Rattle.std.proofs.Common.{arith, ap, sym, subst, ◌∙◌}
use Rattle.table_nodes.specs.declared.keys.Key.TheVariants.{Text}
use Rattle.table_nodes.specs.node_rows.Keys.{by_texts}
use Rattle.table_nodes.specs.Steps.{place}
use Rattle.table_nodes.specs.heap_places.obj_layout.declared.reference.Reference.{Reference}
use Rattle.table_nodes.specs.Nodes.{seen}
use Rattle.table_nodes.proofs.SeenLaws.{fetch_back, grown_seen}
use Rattle.table_nodes.proofs.SoughtLaws.{key_held_kept, key_in_kept}
use Rattle.table_nodes.proofs.StepLaws.{touches_then}
use Rattle.table_nodes.proofs.of_heap_places.of_swizzle.TouchLaws.{keeps-trans}
use Rattle.table_nodes.proofs.BringLaws.{brings_touched}
use Rattle.table_nodes.proofs.FetchLaws.{arrives_then}
use Rattle.table_nodes.proofs.FaultLaws.{node_fault_back}
use Rattle.table_nodes.proofs.NodeLaws.{grows_then}
use Rattle.table_lib.proofs.next.text_pair.Goals as goal

pub returns-in-Err-clause-read : goal.returns-in-Err-clause-read
returns-in-Err-clause-read g c a named has some known = c.in-Err.ensures.read a.name has.row named has.there

pub returns-in-Ok-value-clause-read : goal.returns-in-Ok-value-clause-read
returns-in-Ok-value-clause-read g c a named has some =
    let m = c.text_key.new.sw in
    let new = c.value.new.sw in
    let read = c.in-Ok-value.ensures.read by_texts a.name has.row (c.in-Ok.ensures.grows.named c.args.node a.name named) (c.in-Ok.ensures.grows.rows by_texts a.name has.row has.there) (λ e. some (ap (λ x. x.value) (sym has.entry) ∙ e)) in (
      key_held_kept m new (Text c.in-Ok.key) c.in-Ok-value.ensures.keeps c.in-Ok.ensures.held,
      key_in_kept m new (Text c.in-Ok.key) c.in-Ok-value.ensures.keeps c.in-Ok.ensures.held ∙ (c.in-Ok.ensures.read a.name has.row named has.there ∙ ap (λ x. x.key) has.entry),
      c.in-Ok-value.ensures.held,
      read ∙ ap (λ x. x.value) has.entry,
    )

pub returns-in-Err-value-clause-read : goal.returns-in-Err-value-clause-read
returns-in-Err-value-clause-read g c a named has some known =
    let x = g.V.Vault.outside c.args.vault.now in
    let y = g.V.Vault.outside c.text_key.new.vault in
    let there = grown_seen c.args.sw.now c.text_key.new.sw x y c.in-Ok.ensures.grows a.entry.value known.it known.is in
    let same = ap (λ (e : _). e.value) (sym has.entry) in
    fetch_back c.args.sw.now c.text_key.new.sw x y c.in-Err-value.fault c.in-Ok.ensures.grows
    (c.in-Err-value.ensures.read by_texts a.name has.row (c.in-Ok.ensures.grows.named c.args.node a.name named) (c.in-Ok.ensures.grows.rows by_texts a.name has.row has.there) (λ e. some (ap (λ x. x.value) (sym has.entry) ∙ e))
    (record { it = known.it; is = subst (λ (n : Reference). seen c.text_key.new.sw y n known.it) same there }))

pub returns-in-Ok-value-clause-grows : goal.returns-in-Ok-value-clause-grows
returns-in-Ok-value-clause-grows g c =
    touches_then (place c.args.sw.now (g.V.Vault.outside c.args.vault.now)) (place c.text_key.new.sw (g.V.Vault.outside c.text_key.new.vault)) (place c.value.new.sw (g.V.Vault.outside c.value.new.vault)) c.in-Ok.ensures.grows c.in-Ok-value.ensures.grows

pub returns-in-Ok-value-clause-held : goal.returns-in-Ok-value-clause-held
returns-in-Ok-value-clause-held g c = (key_held_kept c.text_key.new.sw c.value.new.sw (Text c.in-Ok.key) c.in-Ok-value.ensures.keeps c.in-Ok.ensures.held, c.in-Ok-value.ensures.held)

pub returns-in-Err-value-clause-brings : goal.returns-in-Err-value-clause-brings
returns-in-Err-value-clause-brings g c = brings_touched _ _ _ 0 1 1 c.in-Err-value.ensures.still.keeps (omega arith) c.in-Ok.ensures.brings c.value.ensures.brings

pub returns-in-Ok-value-clause-brings : goal.returns-in-Ok-value-clause-brings
returns-in-Ok-value-clause-brings g c = brings_touched _ _ _ 0 1 1 c.in-Ok-value.ensures.keeps (omega arith) c.in-Ok.ensures.brings c.value.ensures.brings

pub returns-in-Err-value-clause-still : goal.returns-in-Err-value-clause-still
returns-in-Err-value-clause-still g c = grows_then _ _ _ _ _ _ c.in-Ok.ensures.grows c.in-Err-value.ensures.still

pub returns-in-Err-value-clause-fault : goal.returns-in-Err-value-clause-fault
returns-in-Err-value-clause-fault g c = node_fault_back (g.V.Vault.outside c.args.vault.now) (g.V.Vault.outside c.text_key.new.vault) _ _ c.in-Err-value.fault c.in-Ok.ensures.grows.leaves c.in-Err-value.ensures.fault

pub returns-in-Ok-value-clause-keeps : goal.returns-in-Ok-value-clause-keeps
returns-in-Ok-value-clause-keeps g c = keeps-trans _ _ _ c.in-Ok.ensures.keeps c.in-Ok-value.ensures.keeps

pub returns-in-Ok-value-clause-fetched : goal.returns-in-Ok-value-clause-fetched
returns-in-Ok-value-clause-fetched g c a named has known =
    let old = place c.args.sw.now (g.V.Vault.outside c.args.vault.now) in
    let m = place c.text_key.new.sw (g.V.Vault.outside c.text_key.new.vault) in
    let new = place c.value.new.sw (g.V.Vault.outside c.value.new.vault) in
    let there = grown_seen old.heap m.heap old.outside m.outside c.in-Ok.ensures.grows a.entry.value known.it known.is in
    let same = ap (λ (e : _). e.value) (sym has.entry) in
    arrives_then old.heap m.heap new.heap old.outside m.outside new.outside c.in-Ok.ensures.grows c.in-Ok-value.ensures.grows (c.in-Ok.ensures.fetched a.name has.row named has.there)
    (c.in-Ok-value.ensures.fetched by_texts a.name has.row (c.in-Ok.ensures.grows.named c.args.node a.name named) (c.in-Ok.ensures.grows.rows by_texts a.name has.row has.there)
    (record { it = known.it; is = subst (λ (n : Reference). seen m.heap m.outside n known.it) same there }))
