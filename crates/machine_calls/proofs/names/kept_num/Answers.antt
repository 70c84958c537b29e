use Rattle.machine_calls.proofs.KeptNames.{number-outside, number-got, number-failed}
use Rattle.machine_calls.proofs.names.kept_num.Goals as goal

pub returns-in_default-clause-takes : goal.returns-in_default-clause-takes
returns-in_default-clause-takes g c =
    let v = c.args.vault.now in
    let out = g.V.Vault.outside v in
    number-outside out out c.args.up c.args.name c.args.m.now c.requires.sound (c.in_default.ensures.denotes v)

pub returns-in-Ok-clause-takes : goal.returns-in-Ok-clause-takes
returns-in-Ok-clause-takes g c =
    let v = c.args.vault.now in
    let w = c.get_kept-got.new.vault in
    let got = c.in-Ok.ensures in
    number-got (g.V.Vault.outside v) (g.V.Vault.outside w) c.args.up c.args.name c.args.m.now c.get_kept-got.new.self c.in-Some.at (c.in-Some.ensures.denotes v)
    c.in-Ok.value c.push_number.new.m c.push_number.result got.leaves got.keeps got.got (c.push_number.ensures.takes w)

pub returns-in-Err-clause-takes : goal.returns-in-Err-clause-takes
returns-in-Err-clause-takes g c =
    let v = c.args.vault.now in
    let w = c.get_kept-got.new.vault in
    number-failed (g.V.Vault.outside v) (g.V.Vault.outside w) c.args.up c.args.name c.args.m.now c.get_kept-got.new.self c.in-Some.at
    (c.in-Some.ensures.denotes v) c.in-Err.fault c.broke.new.m c.broke.result c.broke.ensures.answer c.broke.ensures.left c.requires.sound c.in-Err.ensures.got
