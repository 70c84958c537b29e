use Rattle.std.proofs.Common.{[], ◌∷◌, ◌∙◌, refl}
use Rattle.machine_core.specs.Holding.{world_in}
use Rattle.machine_core.specs.ps_heap.Library.{Cardinality}
use Rattle.machine_core.specs.ps_heap.Calls.{number_answered, then_try}
use Rattle.machine_core.specs.ps_stepping.Steps.{attempted}
use Rattle.machine_core.specs.ps_stepping.Library.{answered_by, call_on_heap, gives_num}
use Rattle.machine_operands.proofs.Parts.{fails-after}
use Rattle.joint_tables.specs.Tables.{entries_of}
use Rattle.machine_tables.proofs.Calls.{pairs-counted}
use Rattle.machine_tables.proofs.Parts.{does-as, parts-taken}
use Rattle.machine_tables.proofs.Uses.{so-unless-fault, whatever-told}
use Rattle.machine_tables.proofs.tables.cardinality.Goals as goal

pub returns-clause-takes : goal.returns-clause-takes
returns-clause-takes g c =
    let v = c.args.vault.now in
    let line = c.args.line in
    let m = c.args.m.now in
    let one = c.pop_object.new.m in
    let p = c.in-Some.ensures in
    let told = c.cardinality-counted in
    let give = c.give_count in
    let e = (give.ensures v).ends in
    let out = g.V.Vault.outside v in
    parts-taken out out (call_on_heap Cardinality line) m one p.leaves give.new.m give.result e.sound
    (e.names (so-unless-fault told.result _ p.names) (whatever-told told.result)) (e.size one.objects.size (so-unless-fault told.result _ refl))
    (λ names conf h.
    let x = (p.pops v).gives names conf h in
    let d = x.0 in
    does-as out out one.objects.size (call_on_heap Cardinality line conf)
    (attempted line (then_try (entries_of d.store.held.objects x.1) (λ n. number_answered n d.store.held)) (λ a. gives_num a d)) give.result give.new.m
    (x.2 (λ table e. answered_by Cardinality line gives_num (table ∷ []) e) ∙ pairs-counted line x.1 d)
    ((give.ensures v).does names d (entries_of d.store.held.objects x.1) x.3 (told.ensures.counted d.store.held.objects names x.1 (world_in x.3.run) x.4)))

pub returns-clause-fails : goal.returns-clause-fails
returns-clause-fails g c =
    let v = c.args.vault.now in
    let told = c.cardinality-counted in
    let give = c.give_count in
    fails-after give.result give.new.m (g.V.Vault.outside v) (g.V.Vault.outside v) told.result (give.ensures v).ends.breaks told.ensures.fails
