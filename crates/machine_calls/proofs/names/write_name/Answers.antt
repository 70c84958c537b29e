use Rattle.machine_calls.proofs.KeptNames.{written-outside, name-written, name-unwritten}
use Rattle.machine_calls.proofs.names.write_name.Goals as goal

pub returns-in_default-clause-writes : goal.returns-in_default-clause-writes
returns-in_default-clause-writes g c =
    let v = c.args.vault.now in
    let out = g.V.Vault.outside v in
    written-outside out out c.args.up c.args.name c.args.m.now c.args.to c.requires.sound c.requires.names (c.in_default.ensures.denotes v)

pub returns-in-Ok-clause-writes : goal.returns-in-Ok-clause-writes
returns-in-Ok-clause-writes g c =
    let v = c.args.vault.now in
    let got = c.in-Ok.ensures in
    name-written (g.V.Vault.outside v) (g.V.Vault.outside c.set_kept-set.new.vault) c.args.up c.args.name c.args.m.now c.set_kept-set.new.self c.in-Some.at
    (c.in-Some.ensures.denotes v) c.args.to c.requires.int c.requires.sound c.requires.names got.stands got.size got.set

pub returns-in-Err-clause-writes : goal.returns-in-Err-clause-writes
returns-in-Err-clause-writes g c =
    let v = c.args.vault.now in
    name-unwritten (g.V.Vault.outside v) (g.V.Vault.outside c.set_kept-set.new.vault) c.args.up c.args.name c.args.m.now c.set_kept-set.new.self c.in-Some.at
    (c.in-Some.ensures.denotes v) c.args.to c.in-Err.fault c.broke.new.m c.broke.result c.broke.ensures.answer c.broke.ensures.left c.requires.int
    c.requires.sound c.in-Err.ensures.set
