use Rattle.std.proofs.Common.{sym, subst, ℤ}
use Rattle.table_lib.specs.table_nodes.Nodes.{Grows}
use Rattle.table_lib.specs.table_nodes.Steps.{place}
use Rattle.table_lib.specs.table_nodes.node_rows.Keys.{by_ints}
use Rattle.table_lib.specs.Operations.{LooksUp}
use Rattle.joint_tables.proofs.SeenLaws.{alive-unless, both, reads-fail}
use Rattle.joint_tables.proofs.ReadLaws.{looked-up, read-gains}
use Rattle.std.proofs.Common.{ℤ, subst}
use Rattle.table_lib.specs.Operations.{LooksUp}
use Rattle.table_lib.specs.table_nodes.Steps.{place}
use Rattle.table_lib.proofs.of_table_nodes.SoughtLaws.{int_same}
use Rattle.joint_ops.proofs.MadeLaws.{fits-int}
use Rattle.joint_tables.proofs.tables.lookup_int.Goals as goal

pub returns-clause-looked : goal.returns-clause-looked
returns-clause-looked g c of names v world d =
    let before = g.V.Vault.outside c.args.vault.now in
    let after = g.V.Vault.outside c.lookup_int-found.new.vault in
    let old = c.args.sw.now in
    let new = c.lookup_int-found.new.sw in
    let grows = both (Grows old new before after) c.lookup_int-found.result c.lookup_int-found.ensures.grows c.lookup_int-found.ensures.still in
    let fails = reads-fail before after new c.args.table c.lookup_int-found.result grows.leaves c.lookup_int-found.ensures.fault in
    let gains = read-gains old new before after of names c.sound.ensures world grows by_ints _ _ c.args.table v c.lookup_int-found.result
    c.lookup_int-found.ensures.looked c.lookup_int-found.ensures.fetched (λ t e. (c.lookup_int-found.ensures.trapped t e).0) d in
    looked-up old new before after of names c.sound.ensures world grows by_ints c.args.key c.args.table v c.lookup_int-found.result fails gains
    (subst (λ (z : ℤ). LooksUp by_ints (place old before) new c.args.table z c.lookup_int-found.result)
    (int_same c.args.key (fits-int c.args.key c.ranges.key)) c.lookup_int-found.ensures.looked) d

pub returns-clause-keeps : goal.returns-clause-keeps
returns-clause-keeps g c =
    (both (Grows c.args.sw.now c.lookup_int-found.new.sw (g.V.Vault.outside c.args.vault.now)
    (g.V.Vault.outside c.lookup_int-found.new.vault)) c.lookup_int-found.result c.lookup_int-found.ensures.grows c.lookup_int-found.ensures.still).keeps

pub returns-clause-leaves : goal.returns-clause-leaves
returns-clause-leaves g c =
    (both (Grows c.args.sw.now c.lookup_int-found.new.sw (g.V.Vault.outside c.args.vault.now)
    (g.V.Vault.outside c.lookup_int-found.new.vault)) c.lookup_int-found.result c.lookup_int-found.ensures.grows c.lookup_int-found.ensures.still).leaves

pub returns-clause-fails : goal.returns-clause-fails
returns-clause-fails g c =
    let before = g.V.Vault.outside c.args.vault.now in
    let after = g.V.Vault.outside c.lookup_int-found.new.vault in
    reads-fail before after c.lookup_int-found.new.sw c.args.table c.lookup_int-found.result
    (both (Grows c.args.sw.now c.lookup_int-found.new.sw before after) c.lookup_int-found.result c.lookup_int-found.ensures.grows c.lookup_int-found.ensures.still).leaves c.lookup_int-found.ensures.fault

pub returns-clause-alive : goal.returns-clause-alive
returns-clause-alive g c =
    alive-unless (g.V.Vault.alive c.lookup_int-found.new.vault) c.lookup_int-found.result c.lookup_int-found.ensures.alive
    (λ t e. subst (λ v. g.V.Vault.alive v) (sym (c.lookup_int-found.ensures.trapped t e).1) c.requires.alive)
