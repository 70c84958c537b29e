use Rattle.std.proofs.Common.{subst, ℕ, List}
use Rattle.std.specs.Prelude.{OnOk}
use Rattle.ps_base.specs.CodeUnit.{ConstantsView, unit}
use Rattle.ps_base.specs.declared.code_unit.Frame.{Frame}
use Rattle.joint_ops.specs.swizzle.Heap as area
use Rattle.joint_ops.specs.Code.{StandsBy}
use Rattle.joint_ops.specs.World.{IsUnitIn}
use Rattle.objects.specs.Classes.{AnswersForm}
use Rattle.objects.proofs.objects.Objects.field_form.Goals as goal

pub returns-clause-given : goal.returns-clause-given
returns-clause-given g c =
    let before = g.V.Vault.outside c.args.vault.now in
    let after = g.V.Vault.outside c.tell_form.new.vault in
    subst (λ (x : area.Heap). (bytes : List ℕ) (row : ConstantsView) (frame : Frame) → IsUnitIn x before c.args.code (unit bytes row frame)
    → AnswersForm x c.tell_form.new.sw before after c.args.code row c.args.constant c.args.field c.tell_form.result) c.self.view_is c.tell_form.ensures.given

pub returns-clause-world : goal.returns-clause-world
returns-clause-world g c =
    let before = g.V.Vault.outside c.args.vault.now in
    let after = g.V.Vault.outside c.tell_form.new.vault in
    subst (λ (x : area.Heap). OnOk c.tell_form.result (StandsBy x c.tell_form.new.sw before after c.args.code)) c.self.view_is c.tell_form.ensures.world
