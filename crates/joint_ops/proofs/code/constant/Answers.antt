use Rattle.std.proofs.Common.{sym, subst}
use Rattle.heap_meaning.specs.swizzle.Reading.{LeavesOutside}
use Rattle.heap_meaning.proofs.of_swizzle.ReadingLaws.{leaves-none}
use Rattle.joint_ops.proofs.CodeLaws.{has-code, answers-constant, constant-world, constant-keeps, constant-held, constant-leaves, constant-fails}
use Rattle.joint_ops.proofs.code.constant.Goals as goal

pub returns-clause-given : goal.returns-clause-given
returns-clause-given g c bytes cs frame i =
    let before = g.V.Vault.outside c.args.vault.now in
    answers-constant c.args.sw.now c.constant-given.new.sw before (g.V.Vault.outside c.constant-given.new.vault) c.args.code c.args.index cs
    c.sound.ensures c.sound-2.ensures c.requires.held (has-code c.args.sw.now before c.args.code bytes cs frame c.sound.ensures i)
    c.constant-given.result c.constant-given.ensures.given

pub returns-clause-world : goal.returns-clause-world
returns-clause-world g c =
    constant-world c.args.sw.now c.constant-given.new.sw (g.V.Vault.outside c.args.vault.now)
    (g.V.Vault.outside c.constant-given.new.vault) c.args.code c.args.index c.constant-given.result
    c.sound.ensures c.sound-2.ensures c.requires.held c.constant-given.ensures.given

pub returns-clause-leaves : goal.returns-clause-leaves
returns-clause-leaves g c =
    constant-leaves c.args.sw.now c.constant-given.new.sw (g.V.Vault.outside c.args.vault.now)
    (g.V.Vault.outside c.constant-given.new.vault) c.args.code c.args.index c.constant-given.result
    (λ no. subst (λ (v : _). LeavesOutside (g.V.Vault.outside c.args.vault.now) (g.V.Vault.outside v)) (sym (c.constant-given.ensures.still no))
    (leaves-none (g.V.Vault.outside c.args.vault.now)))
    c.constant-given.ensures.given

pub returns-clause-fails : goal.returns-clause-fails
returns-clause-fails g c =
    constant-fails c.args.sw.now c.constant-given.new.sw (g.V.Vault.outside c.args.vault.now)
    (g.V.Vault.outside c.constant-given.new.vault) c.args.code c.args.index c.constant-given.result
    (λ no. subst (λ (v : _). LeavesOutside (g.V.Vault.outside c.args.vault.now) (g.V.Vault.outside v)) (sym (c.constant-given.ensures.still no))
    (leaves-none (g.V.Vault.outside c.args.vault.now)))
    c.constant-given.ensures.given

pub returns-clause-held : goal.returns-clause-held
returns-clause-held g c =
    constant-held c.args.sw.now c.constant-given.new.sw (g.V.Vault.outside c.args.vault.now)
    (g.V.Vault.outside c.constant-given.new.vault) c.args.code c.args.index c.constant-given.result c.constant-given.ensures.given

pub returns-clause-keeps : goal.returns-clause-keeps
returns-clause-keeps g c =
    constant-keeps c.args.sw.now c.constant-given.new.sw (g.V.Vault.outside c.args.vault.now)
    (g.V.Vault.outside c.constant-given.new.vault) c.args.code c.args.index c.constant-given.result c.constant-given.ensures.given
