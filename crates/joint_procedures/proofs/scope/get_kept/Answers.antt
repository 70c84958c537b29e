use Rattle.std.proofs.Common.{◌∙◌}
use Rattle.joint_ops.proofs.of_swizzle.ReadingLaws.{leaves-then}
use Rattle.scopes.proofs.NameLaws.{so-kept}
use Rattle.joint_procedures.proofs.KeptLaws.{no-scope, gets-kept, get-leaves, get-fails, get-keeps, get-near}
use Rattle.joint_procedures.proofs.scope.get_kept.Goals as goal

pub returns-in-Err-clause-got : goal.returns-in-Err-clause-got
returns-in-Err-clause-got g c of names within world d =
    no-scope c.args.sw.now c.scope_out.new.sw (g.V.Vault.outside c.args.vault.now) (g.V.Vault.outside c.scope_out.new.vault) of within c.args.up c.args.name
    c.in-Err.fault (c.in-Err.ensures.out of names within world d)

pub get_kept-got-requires-clause-so : goal.get_kept-got-requires-clause-so
get_kept-got-requires-clause-so g c =
    so-kept c.args.sw.now c.scope_out.new.sw c.args.layouts.now.entries.items c.in-Ok.ensures.keeps c.requires.so

pub returns-clause-got : goal.returns-clause-got
returns-clause-got g c of names within world d =
    gets-kept c.args.sw.now c.scope_out.new.sw c.get_kept-got.new.sw (g.V.Vault.outside c.args.vault.now) (g.V.Vault.outside c.scope_out.new.vault)
    (g.V.Vault.outside c.get_kept-got.new.vault) of names within c.args.up c.in-Ok.at c.args.name c.sound.ensures c.sound-2.ensures
    (g.met.V.Vault.one c.scope_out.new.vault) (g.met.V.Vault.one c.get_kept-got.new.vault) c.in-Ok.ensures.keeps c.in-Ok.ensures.leaves
    (c.in-Ok.ensures.out of names within world d) c.get_kept-got.result c.get_kept-got.ensures.got

pub returns-clause-leaves : goal.returns-clause-leaves
returns-clause-leaves g c =
    let before = g.V.Vault.outside c.scope_out.new.vault in
    let after = g.V.Vault.outside c.get_kept-got.new.vault in
    leaves-then (g.V.Vault.outside c.args.vault.now) before after c.in-Ok.ensures.leaves
    (get-leaves c.scope_out.new.sw c.get_kept-got.new.sw before after c.in-Ok.at c.args.name c.get_kept-got.result c.get_kept-got.ensures.got)

pub returns-clause-fails : goal.returns-clause-fails
returns-clause-fails g c =
    get-fails c.scope_out.new.sw c.get_kept-got.new.sw (g.V.Vault.outside c.args.vault.now) (g.V.Vault.outside c.scope_out.new.vault)
    (g.V.Vault.outside c.get_kept-got.new.vault) c.in-Ok.at c.args.name c.get_kept-got.result c.in-Ok.ensures.leaves c.get_kept-got.ensures.got

pub returns-clause-numbers : goal.returns-clause-numbers
returns-clause-numbers g c =
    let first = c.in-Ok.ensures.numbers in
    let second = c.get_kept-got.ensures.numbers in
    (second.0 ∙ first.0, second.1 ∙ first.1, second.2 ∙ first.2, second.3 ∙ first.3)

pub returns-clause-keeps : goal.returns-clause-keeps
returns-clause-keeps g c =
    get-keeps c.args.sw.now c.scope_out.new.sw c.get_kept-got.new.sw (g.V.Vault.outside c.scope_out.new.vault)
    (g.V.Vault.outside c.get_kept-got.new.vault) c.in-Ok.at c.args.name c.get_kept-got.result c.in-Ok.ensures.keeps c.get_kept-got.ensures.got

pub returns-clause-near : goal.returns-clause-near
returns-clause-near g c =
    get-near c.scope_out.new.sw c.get_kept-got.new.sw (g.V.Vault.outside c.scope_out.new.vault)
    (g.V.Vault.outside c.get_kept-got.new.vault) c.in-Ok.at c.args.name c.get_kept-got.result c.get_kept-got.ensures.got
