use Rattle.machine_core.specs.ps_heap.Tables.{string_key}
use Rattle.machine_operands.proofs.Parts.{fails-after, so-after}
use Rattle.machine_tables.specs.inside.Operands.{AreStringAndTable, string_looked_up}
use Rattle.machine_tables.proofs.Calls.{string-found}
use Rattle.machine_tables.proofs.Uses.{follows-found}
use Rattle.machine_tables.proofs.tables.find_string.Goals as goal

pub returns-clause-finds : goal.returns-clause-finds
returns-clause-finds g c =
    let v = c.args.vault.now in
    let got = c.lookup_text-got in
    let w = got.new.vault in
    let before = g.V.Vault.outside v in
    let after = g.V.Vault.outside w in
    let m = c.args.m.now in
    let give = c.give_found in
    let line = c.args.line in
    follows-found before after m give.new.m got.new.self give.result line c.requires.names got.ensures.leaves
    (AreStringAndTable m.objects before c.args.key c.args.table) (string_looked_up line) (λ a. string_key a.bytes) (λ a. a.table) got.result got.ensures.keeps got.ensures.held
    (string-found line) (λ heap names a world d. got.ensures.looked heap names a.bytes a.table world d.key_is d.table_is) (give.ensures v w)

pub returns-clause-fails : goal.returns-clause-fails
returns-clause-fails g c =
    let v = c.args.vault.now in
    let got = c.lookup_text-got in
    let w = got.new.vault in
    let give = c.give_found in
    fails-after give.result give.new.m (g.V.Vault.outside v) (g.V.Vault.outside w) got.result (give.ensures v w).ends.breaks got.ensures.fails

pub returns-clause-alive : goal.returns-clause-alive
returns-clause-alive g c =
    let got = c.lookup_text-got in
    let w = got.new.vault in
    let give = c.give_found in
    so-after give.result give.new.m got.result (g.V.Vault.alive w) (give.ensures w w).ends.breaks got.ensures.alive
