use Rattle.std.proofs.Common.{Ok, refl, ap, sym, subst, ◌∙◌}
use Rattle.table_nodes.specs.heap_places.obj_layout.declared.reference.Reference.{Reference}
use Rattle.table_nodes.specs.Nodes.{seen}
use Rattle.table_nodes.specs.node_rows.Keys.{by_ints}
use Rattle.table_nodes.proofs.SoughtLaws.{same_ok, int_key_same}
use Rattle.table_nodes.proofs.BringLaws.{brings_none}
use Rattle.table_nodes.proofs.NodeLaws.{grows_none}
use Rattle.table_lib.proofs.next.int_pair.Goals as goal

pub returns-in-Err-clause-read : goal.returns-in-Err-clause-read
returns-in-Err-clause-read g c a named has some known = let e = c.in-Err.ensures.read a.name has.row named has.there in absurd (cc)

pub returns-in-Ok-value-clause-read : goal.returns-in-Ok-value-clause-read
returns-in-Ok-value-clause-read g c a named has some =
    let read = c.in-Ok-value.ensures.read by_ints a.name has.row named has.there (λ e. some (ap (λ x. x.value) (sym has.entry) ∙ e)) in
    let same = same_ok c.in-Ok.key has.row.entry.key (Ok c.in-Ok.key) refl (c.in-Ok.ensures.read a.name has.row named has.there) in
    let key = int_key_same c.args.sw.now (g.V.Vault.outside c.args.vault.now) c.args.node a.name has.row c.in-Ok.key c.sound.ensures named has.there same in
    (key ∙ ap (λ x. x.key) has.entry, c.in-Ok-value.ensures.held, read ∙ ap (λ x. x.value) has.entry)

pub returns-in-Err-value-clause-read : goal.returns-in-Err-value-clause-read
returns-in-Err-value-clause-read g c a named has some known =
    let same = ap (λ (e : _). e.value) (sym has.entry) in
    c.in-Err-value.ensures.read by_ints a.name has.row named has.there (λ e. some (ap (λ x. x.value) (sym has.entry) ∙ e))
    (record { it = known.it; is = subst (λ (n : Reference). seen c.args.sw.now (g.V.Vault.outside c.args.vault.now) n known.it) same known.is })

pub returns-in-Err-clause-brings : goal.returns-in-Err-clause-brings
returns-in-Err-clause-brings g c = brings_none c.args.sw.now 1

pub returns-in-Err-clause-still : goal.returns-in-Err-clause-still
returns-in-Err-clause-still g c = grows_none c.args.sw.now (g.V.Vault.outside c.args.vault.now) c.sound.ensures

pub returns-in-Ok-value-clause-fetched : goal.returns-in-Ok-value-clause-fetched
returns-in-Ok-value-clause-fetched g c a named has known =
    let same = ap (λ (e : _). e.value) (sym has.entry) in
    c.in-Ok-value.ensures.fetched by_ints a.name has.row named has.there
    (record { it = known.it; is = subst (λ (n : Reference). seen c.args.sw.now (g.V.Vault.outside c.args.vault.now) n known.it) same known.is })
