use Rattle.std.proofs.Common.{inl, inr, Result, sym, subst, ◌∙◌}
use Rattle.joint_held.specs.joint_ops.swizzle.declared.fault.SwizzleFault.{SwizzleFault}
use Rattle.joint_held.specs.joint_ops.swizzle.Touch.{Keeps}
use Rattle.joint_ops.proofs.of_swizzle.ReadingLaws.{leaves-none}
use Rattle.db_dir.proofs.ShapeLaws.{shaped-still}
use Rattle.joint_databases.specs.Calls.{Creating}
use Rattle.joint_databases.specs.declared.calls.Creation.{Creation}
use Rattle.joint_databases.proofs.ResultLaws.{full-fails, keeps-stands, keeps-size}
use Rattle.joint_databases.proofs.CreateLaws.{all-keeps, answer-ok, answer-err, answer-is, created-shape, creating, table-keeps, table-there}
use Rattle.joint_databases.proofs.calls.create.Goals as goal

pub create-created-requires-clause-directory : goal.create-created-requires-clause-directory
create-created-requires-clause-directory g c =
    shaped-still c.args.sw.now c.table_new.new.sw c.args.directory (table-keeps c.args.sw.now c.table_new.new.sw c.in-Ok.root c.sound.ensures c.in-Ok.ensures.made) c.requires.directory

pub create-created-requires-clause-name : goal.create-created-requires-clause-name
create-created-requires-clause-name g c = (c.in-Ok.ensures.stands c.args.name c.requires.name).held

pub create-created-requires-clause-name_text : goal.create-created-requires-clause-name_text
create-created-requires-clause-name_text g c = (c.in-Ok.ensures.stands c.args.name c.requires.name).kind ∙ c.requires.name_text

pub create-created-requires-clause-password : goal.create-created-requires-clause-password
create-created-requires-clause-password g c = (c.in-Ok.ensures.stands c.args.password c.requires.password).held

pub create-created-requires-clause-password_text : goal.create-created-requires-clause-password_text
create-created-requires-clause-password_text g c = (c.in-Ok.ensures.stands c.args.password c.requires.password).kind ∙ c.requires.password_text

pub create-created-requires-clause-root : goal.create-created-requires-clause-root
create-created-requires-clause-root g c = (table-there c.args.sw.now c.table_new.new.sw c.in-Ok.root c.in-Ok.ensures.made).0

pub create-created-requires-clause-root_table : goal.create-created-requires-clause-root_table
create-created-requires-clause-root_table g c = (table-there c.args.sw.now c.table_new.new.sw c.in-Ok.root c.in-Ok.ensures.made).1

pub returns-clause-run : goal.returns-clause-run
returns-clause-run g c = λ names writing h n p asked none run name password.
    let before = g.V.Vault.outside c.args.vault.now in
    let after = g.V.Vault.outside c.create-created.new.vault in
    subst (λ (r : Result Creation SwizzleFault). Creating c.args.sw.now c.create-created.new.sw before after names writing c.args.directory h n p r) (sym c.answered.ensures)
    (creating c.args.sw.now c.table_new.new.sw c.create-created.new.sw before after c.in-Ok.root c.sound.ensures c.sound-2.ensures c.in-Ok.ensures.made names writing
    c.args.directory h asked none run c.args.name c.args.password n p c.create-created.result c.sound-3.ensures
    (shaped-still c.args.sw.now c.table_new.new.sw c.args.directory (table-keeps c.args.sw.now c.table_new.new.sw c.in-Ok.root c.sound.ensures c.in-Ok.ensures.made) c.requires.directory)
    c.create-created.ensures.fails c.create-created.ensures.tries name password c.create-created.ensures.created)

pub returns-clause-made : goal.returns-clause-made
returns-clause-made g c =
    let before = g.V.Vault.outside c.args.vault.now in
    let after = g.V.Vault.outside c.create-created.new.vault in
    answer-is c.args.sw.now c.create-created.new.sw (c.answered.result) _ c.answered.ensures
    (created-shape c.args.sw.now c.table_new.new.sw c.create-created.new.sw before after c.in-Ok.root c.sound.ensures c.sound-2.ensures c.in-Ok.ensures.made c.create-created.result
    c.create-created.ensures.keeps c.create-created.ensures.shaped)

pub returns-clause-stands : goal.returns-clause-stands
returns-clause-stands g c =
    let before = g.V.Vault.outside c.args.vault.now in
    let after = g.V.Vault.outside c.create-created.new.vault in
    let keeps = all-keeps c.args.sw.now c.table_new.new.sw c.create-created.new.sw before after c.in-Ok.root c.sound.ensures c.sound-2.ensures c.in-Ok.ensures.made c.create-created.result
    c.create-created.ensures.keeps in
    keeps-stands c.args.sw.now c.create-created.new.sw c.answered.result
    (answer-ok (Keeps c.args.sw.now c.create-created.new.sw) c.in-Ok.root c.create-created.result c.answered.result c.answered.ensures keeps)

pub returns-clause-size : goal.returns-clause-size
returns-clause-size g c =
    let before = g.V.Vault.outside c.args.vault.now in
    let after = g.V.Vault.outside c.create-created.new.vault in
    let keeps = all-keeps c.args.sw.now c.table_new.new.sw c.create-created.new.sw before after c.in-Ok.root c.sound.ensures c.sound-2.ensures c.in-Ok.ensures.made c.create-created.result
    c.create-created.ensures.keeps in
    keeps-size c.args.sw.now c.create-created.new.sw c.answered.result
    (answer-ok (Keeps c.args.sw.now c.create-created.new.sw) c.in-Ok.root c.create-created.result c.answered.result c.answered.ensures keeps)

pub returns-clause-fails : goal.returns-clause-fails
returns-clause-fails g c =
    answer-err (g.V.Vault.outside c.args.vault.now) (g.V.Vault.outside c.create-created.new.vault) c.in-Ok.root c.create-created.result c.answered.result c.answered.ensures
    c.create-created.ensures.fails

pub returns-clause-alive : goal.returns-clause-alive
returns-clause-alive g c =
    answer-ok (g.V.Vault.alive c.create-created.new.vault) c.in-Ok.root c.create-created.result c.answered.result c.answered.ensures c.create-created.ensures.alive

pub returns-in-Err-clause-run : goal.returns-in-Err-clause-run
returns-in-Err-clause-run g c = λ names writing h n p asked none run name password. inr (inl c.in-Err.ensures.made)

pub returns-in-Err-clause-leaves : goal.returns-in-Err-clause-leaves
returns-in-Err-clause-leaves g c = leaves-none (g.V.Vault.outside c.args.vault.now)

pub returns-in-Err-clause-fails : goal.returns-in-Err-clause-fails
returns-in-Err-clause-fails g c = full-fails (g.V.Vault.outside c.args.vault.now) c.in-Err.fault _ _ _ (c.in-Err.ensures.made).fault_is
