use Rattle.std.proofs.Common.{subst}
use Rattle.joint_ops.specs.swizzle.Heap.{Heap}
use Rattle.objects.proofs.ReachedLaws.{GetsAll, value-got, value-lacks, value-near}
use Rattle.objects.proofs.objects.Objects.get_field.Goals as goal

pub returns-in-Some-clause-got : goal.returns-in-Some-clause-got
returns-in-Some-clause-got g c =
    value-got c.self.inside.sw c.args.self.now (g.V.Vault.outside c.args.vault.now) c.args.code c.args.constant c.args.field c.args.object c.in-Some.value
    c.self.view_is c.sound.ensures (g.met.V.Vault.one c.args.vault.now) c.in-Some.ensures

pub returns-in-Some-clause-damaged : goal.returns-in-Some-clause-damaged
returns-in-Some-clause-damaged g c lacks =
    absurd (value-lacks c.self.inside.sw c.args.self.now (g.V.Vault.outside c.args.vault.now) c.args.code c.args.constant c.args.field c.args.object
    c.in-Some.value c.self.view_is c.sound.ensures c.in-Some.ensures lacks)

pub returns-in-Some-clause-near : goal.returns-in-Some-clause-near
returns-in-Some-clause-near g c =
    value-near c.self.inside.sw c.args.self.now c.args.code c.args.constant c.args.field c.args.object c.in-Some.value c.self.view_is c.in-Some.ensures

pub returns-in-None-clause-got : goal.returns-in-None-clause-got
returns-in-None-clause-got g c =
    subst (λ (x : Heap). GetsAll x c.read_field.new.sw (g.V.Vault.outside c.args.vault.now) (g.V.Vault.outside c.read_field.new.vault) c.args.code
    c.args.constant c.args.field c.args.object c.read_field.result) c.self.view_is c.read_field.ensures.got
