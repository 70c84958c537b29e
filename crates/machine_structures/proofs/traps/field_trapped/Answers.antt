use Rattle.machine_structures.proofs.TrapLaws.{field-trapped, no-object-at, other-row}
use Rattle.machine_structures.proofs.traps.field_trapped.Goals as goal

pub returns-then-not-is_object-clause-traps : goal.returns-then-not-is_object-clause-traps
returns-then-not-is_object-clause-traps g c =
    let v = c.args.vault.now in
    let out = g.V.Vault.outside v in
    no-object-at out out c.args.field c.args.row c.args.object c.args.trap c.args.line c.args.m.now c.requires.sound c.requires.names
    (c.if-not-is_object.ensures v)

pub returns-else-not-is_in_row-clause-traps : goal.returns-else-not-is_in_row-clause-traps
returns-else-not-is_in_row-clause-traps g c =
    let v = c.args.vault.now in
    let w = c.field_form-got.new.vault in
    let got = c.in-Ok.ensures in
    let did = c.trapped.ensures in
    field-trapped (g.V.Vault.outside v) (g.V.Vault.outside w) c.args.field c.args.row c.args.object c.args.trap c.args.line c.args.m.now
    c.field_form-got.new.self
    c.in-Ok.form c.trapped.new.m c.trapped.result (did.takes v).sound c.requires.names got.keeps got.given c.if-not-is_in_row.ensures
    (c.if-not-is_object.ensures v)
    did.answer did.left

pub returns-then-not-is_in_row-clause-traps : goal.returns-then-not-is_in_row-clause-traps
returns-then-not-is_in_row-clause-traps g c =
    let v = c.args.vault.now in
    let w = c.field_form-got.new.vault in
    let got = c.in-Ok.ensures in
    other-row (g.V.Vault.outside v) (g.V.Vault.outside w) c.args.field c.args.row c.args.object c.args.trap c.args.line c.args.m.now
    c.field_form-got.new.self
    c.in-Ok.form c.requires.sound c.requires.names got.keeps got.given c.if-not-is_in_row.ensures
