use Rattle.std.proofs.Common.{ℤ, w32, subst}
use Rattle.std.proofs.lemmas.Int.{to_z-of_z}
use Rattle.machine_core.specs.ps_heap.Tables.{int_key}
use Rattle.machine_operands.proofs.Parts.{fails-after, so-after}
use Rattle.machine_tables.specs.inside.Operands.{AreTableAndEntry, Follows, int_entered}
use Rattle.machine_tables.proofs.Calls.{int-put}
use Rattle.machine_tables.proofs.Uses.{follows-entered}
use Rattle.machine_tables.proofs.tables.put_int.Goals as goal

pub returns-clause-puts : goal.returns-clause-puts
returns-clause-puts g c =
    let v = c.args.vault.now in
    let done = c.enter_int-done in
    let w = done.new.vault in
    let before = g.V.Vault.outside v in
    let after = g.V.Vault.outside w in
    let m = c.args.m.now in
    let end = c.end_enter in
    let line = c.args.line in
    subst (λ (z : ℤ). Follows before after (AreTableAndEntry m.objects before c.args.table c.args.to) (int_entered line z) m end.new.m end.result)
    (to_z-of_z w32 c.args.key c.ranges.key)
    (follows-entered before after m end.new.m done.new.self end.result line c.requires.names done.ensures.leaves
    (AreTableAndEntry m.objects before c.args.table c.args.to) (int_entered line _) (λ a. int_key _) (λ a. a.table) (λ a. a.entry) done.result
    done.ensures.stands done.ensures.size (int-put line _)
    (λ names h a run d. done.ensures.run names m.databases.writing.items m.databases.directory h a.table a.entry run d.table_is d.entry_is d.is_pntr) (end.ensures v w))

pub returns-clause-fails : goal.returns-clause-fails
returns-clause-fails g c =
    let v = c.args.vault.now in
    let done = c.enter_int-done in
    let w = done.new.vault in
    let end = c.end_enter in
    fails-after end.result end.new.m (g.V.Vault.outside v) (g.V.Vault.outside w) done.result (end.ensures v w).ends.breaks done.ensures.fails

pub returns-clause-alive : goal.returns-clause-alive
returns-clause-alive g c =
    let done = c.enter_int-done in
    let w = done.new.vault in
    let end = c.end_enter in
    so-after end.result end.new.m done.result (g.V.Vault.alive w) (end.ensures w w).ends.breaks done.ensures.alive
