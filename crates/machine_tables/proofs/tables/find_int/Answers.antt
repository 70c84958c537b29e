use Rattle.std.proofs.Common.{ℤ, w32, subst}
use Rattle.std.proofs.lemmas.Int.{to_z-of_z}
use Rattle.machine_core.specs.ps_heap.Tables.{int_key}
use Rattle.machine_operands.proofs.Parts.{fails-after, so-after}
use Rattle.machine_tables.specs.inside.Operands.{Follows, IsTable, int_looked_up}
use Rattle.machine_tables.proofs.Calls.{int-found}
use Rattle.machine_tables.proofs.Uses.{follows-found}
use Rattle.machine_tables.proofs.tables.find_int.Goals as goal

pub returns-clause-finds : goal.returns-clause-finds
returns-clause-finds g c =
    let v = c.args.vault.now in
    let got = c.lookup_int-got in
    let w = got.new.vault in
    let before = g.V.Vault.outside v in
    let after = g.V.Vault.outside w in
    let m = c.args.m.now in
    let give = c.give_found in
    let line = c.args.line in
    subst (λ (z : ℤ). Follows before after (IsTable m.objects before c.args.table) (int_looked_up line z) m give.new.m give.result) (to_z-of_z w32 c.args.key c.ranges.key)
    (follows-found before after m give.new.m got.new.self give.result line c.requires.names got.ensures.leaves (IsTable m.objects before c.args.table) (int_looked_up line _)
    (λ a. int_key _) (λ a. a) got.result got.ensures.keeps got.ensures.held (int-found line _)
    (λ heap names a world d. got.ensures.looked heap names a world d.table_is) (give.ensures v w))

pub returns-clause-fails : goal.returns-clause-fails
returns-clause-fails g c =
    let v = c.args.vault.now in
    let got = c.lookup_int-got in
    let w = got.new.vault in
    let give = c.give_found in
    fails-after give.result give.new.m (g.V.Vault.outside v) (g.V.Vault.outside w) got.result (give.ensures v w).ends.breaks got.ensures.fails

pub returns-clause-alive : goal.returns-clause-alive
returns-clause-alive g c =
    let got = c.lookup_int-got in
    let w = got.new.vault in
    let give = c.give_found in
    so-after give.result give.new.m got.result (g.V.Vault.alive w) (give.ensures w w).ends.breaks got.ensures.alive
