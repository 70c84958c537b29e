use Rattle.std.proofs.Common.{sym, subst, ℤ}
use Rattle.table_lib.specs.table_nodes.Steps.{place}
use Rattle.table_lib.specs.table_nodes.node_rows.Keys.{by_ints}
use Rattle.table_lib.specs.Entries.{Enters}
use Rattle.joint_tables.proofs.SeenLaws.{alive-unless, changes-fail, err-leaves, pid-low}
use Rattle.joint_tables.proofs.EnterLaws.{entered-key}
use Rattle.std.proofs.Common.{ℤ, subst}
use Rattle.table_lib.specs.Entries.{Enters}
use Rattle.table_lib.specs.table_nodes.Steps.{place}
use Rattle.table_lib.proofs.of_table_nodes.SoughtLaws.{int_same}
use Rattle.joint_ops.proofs.MadeLaws.{fits-int}
use Rattle.joint_tables.proofs.NamedLaws.{entered-named}
use Rattle.joint_tables.proofs.tables.enter_int.Goals as goal

pub returns-clause-entered : goal.returns-clause-entered
returns-clause-entered g c of names v w world d dw pntr =
    let before = g.V.Vault.outside c.args.vault.now in
    let after = g.V.Vault.outside c.enter_int-done.new.vault in
    let old = c.args.sw.now in
    let new = c.enter_int-done.new.sw in
    let leaves = err-leaves old new before after c.enter_int-done.result c.enter_int-done.ensures.leaves c.enter_int-done.ensures.still in
    entered-key old new before after of names c.sound.ensures c.sound-2.ensures world (g.met.V.Vault.one c.args.vault.now)
    (λ pid words there. pid-low before (g.V.Vault.used_words c.args.vault.now) (g.V.Vault.directory_at c.args.vault.now) pid words
    (g.met.V.Vault.space c.args.vault.now) (g.met.V.Vault.bounds c.args.vault.now).1 there)
    by_ints c.args.key c.args.table v c.enter_int-done.result d
    (changes-fail before after new c.args.table c.enter_int-done.result leaves c.enter_int-done.ensures.fault) c.enter_int-done.ensures.spares c.enter_int-done.ensures.still (λ t e. (c.enter_int-done.ensures.trapped t e).0) c.args.to w pntr dw
    (subst (λ (z : ℤ). Enters by_ints (place old before) (place new after) c.args.table z c.args.to c.enter_int-done.result)
    (int_same c.args.key (fits-int c.args.key c.ranges.key)) c.enter_int-done.ensures.entered)

pub returns-clause-leaves : goal.returns-clause-leaves
returns-clause-leaves g c =
    err-leaves c.args.sw.now c.enter_int-done.new.sw (g.V.Vault.outside c.args.vault.now)
    (g.V.Vault.outside c.enter_int-done.new.vault) c.enter_int-done.result c.enter_int-done.ensures.leaves c.enter_int-done.ensures.still

pub returns-clause-fails : goal.returns-clause-fails
returns-clause-fails g c =
    let before = g.V.Vault.outside c.args.vault.now in
    let after = g.V.Vault.outside c.enter_int-done.new.vault in
    changes-fail before after c.enter_int-done.new.sw c.args.table c.enter_int-done.result
    (err-leaves c.args.sw.now c.enter_int-done.new.sw before after c.enter_int-done.result c.enter_int-done.ensures.leaves c.enter_int-done.ensures.still) c.enter_int-done.ensures.fault

pub returns-clause-alive : goal.returns-clause-alive
returns-clause-alive g c =
    alive-unless (g.V.Vault.alive c.enter_int-done.new.vault) c.enter_int-done.result c.enter_int-done.ensures.alive
    (λ t e. subst (λ v. g.V.Vault.alive v) (sym (c.enter_int-done.ensures.trapped t e).1) c.requires.alive)

pub returns-clause-table : goal.returns-clause-table
returns-clause-table g c =
    let done = c.enter_int-done in
    entered-named by_ints (place c.args.sw.now (g.V.Vault.outside c.args.vault.now)) (place done.new.sw (g.V.Vault.outside done.new.vault)) c.args.table _
    c.args.to done.result done.ensures.entered
