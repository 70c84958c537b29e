use Rattle.std.proofs.Common.{subst, Some, Ok}
use Rattle.std.specs.Prelude.{OnOk}
use Rattle.joint_ops.specs.swizzle.Heap as area
use Rattle.joint_ops.specs.swizzle.Heap.{IsHeap}
use Rattle.joint_ops.specs.Code.{StandsBy}
use Rattle.joint_ops.proofs.GainLaws.{nothing-done}
use Rattle.objects.specs.Makes.{HasRows}
use Rattle.objects.proofs.RowsTold.{GotRows, rows-known}
use Rattle.objects.proofs.objects.Objects.class_rows.Goals as goal

pub returns-in-Some-clause-given : goal.returns-in-Some-clause-given
returns-in-Some-clause-given g c =
    let outside = g.V.Vault.outside c.args.vault.now in
    let here = c.self.inside.sw in
    subst (λ (x : area.Heap). GotRows x x outside outside c.args.code c.args.constant (Ok (Some c.in-Some.class))) c.self.view_is
    (rows-known here outside c.args.code c.args.constant c.in-Some.class c.sound.ensures (c.in-Some.ensures here c.self.invariant.makes))

pub returns-in-Some-clause-world : goal.returns-in-Some-clause-world
returns-in-Some-clause-world g c u i of names w =
    nothing-done c.args.self.now (g.V.Vault.outside c.args.vault.now) of names (subst (λ (x : area.Heap). IsHeap x) c.self.view_is c.sound.ensures) w

pub returns-in-Some-clause-class : goal.returns-in-Some-clause-class
returns-in-Some-clause-class g c =
    subst (λ (x : area.Heap). HasRows x c.in-Some.class) c.self.view_is (c.in-Some.ensures c.self.inside.sw c.self.invariant.makes).rows

pub returns-in-None-clause-given : goal.returns-in-None-clause-given
returns-in-None-clause-given g c =
    subst (λ (x : area.Heap). GotRows x c.read_rows.new.sw (g.V.Vault.outside c.args.vault.now) (g.V.Vault.outside c.read_rows.new.vault) c.args.code
    c.args.constant c.read_rows.result) c.self.view_is c.read_rows.ensures.given

pub returns-in-None-clause-world : goal.returns-in-None-clause-world
returns-in-None-clause-world g c =
    let before = g.V.Vault.outside c.args.vault.now in
    let after = g.V.Vault.outside c.read_rows.new.vault in
    subst (λ (x : area.Heap). OnOk c.read_rows.result (StandsBy x c.read_rows.new.sw before after c.args.code)) c.self.view_is c.read_rows.ensures.world
