use Rattle.std.proofs.Common.{◌≡◌, rules}
use Rattle.std.specs.Prelude.{Ok, Err}
use Rattle.machine_core.specs.swizzle.Touch.{Keeps}
use Rattle.machine_core.specs.heap_texts.declared.fault.OpFault.TheVariants as op
use Rattle.machine_core.specs.heap_places.Places.{IsNear}
use Rattle.machine_core.specs.ps_heap.Held.{reading}
use Rattle.machine_core.specs.ps_stepping.Steps.{push_ref}
use Rattle.machine_core.specs.ps_stepping.Objects.{having}
use Rattle.machine_core.proofs.Failing.{failing-behind, whole-failing}
use Rattle.machine_core.specs.joint_ops.World.{IsForIn, IsOfForm}
use Rattle.machine_operands.proofs.Parts.{after-trap}
use Rattle.machine_operands.proofs.Reading.{names-kept}
use Rattle.machine_structures.specs.declared.traps.Row.TheVariants.{References}
use Rattle.machine_structures.proofs.FieldReads.{broken-takes, trap-takes, value-takes}
use Rattle.machine_structures.proofs.fields.field_ref.Goals as goal

pub field_trapped-requires-clause-names : goal.field_trapped-requires-clause-names
field_trapped-requires-clause-names g c =
    let got = c.get_field-got in
    let mid = c.pop_any.new.m in
    let is : got.result ≡ Err (op.Trap c.in-Err-Trap.trap) = search rules in
    names-kept mid got.new.self (after-trap got.result c.in-Err-Trap.trap (Keeps mid.objects got.new.self) is got.ensures.keeps) c.in-Some.ensures.names

pub returns-in-Ok-clause-takes : goal.returns-in-Ok-clause-takes
returns-in-Ok-clause-takes g c =
    let v = c.args.vault.now in
    let w = c.get_field-got.new.vault in
    let p = c.in-Some.ensures in
    let got = c.in-Ok.ensures in
    let give = c.give_reference.ensures v w in
    value-takes References (λ w d. push_ref w (having (reading w) d)) c.args.k c.args.n c.args.line (g.V.Vault.outside v) (g.V.Vault.outside w) c.args.m.now c.pop_any.new.m
    c.get_field-got.new.self p.leaves c.in-Some.object (p.pops v) c.in-Ok.value (IsNear c.get_field-got.new.self) c.give_reference.new.m
    c.give_reference.result got.got got.damaged got.keeps got.near
    give.ends (λ names d f attempt held got. give.does c.pop_any.new.m.objects names d f attempt c.in-Ok.ensures.leaves held got)

pub returns-in-Ok-clause-fails : goal.returns-in-Ok-clause-fails
returns-in-Ok-clause-fails g c =
    let v = c.args.vault.now in
    let w = c.get_field-got.new.vault in
    whole-failing (g.V.Vault.outside v) (g.V.Vault.outside w) c.give_reference.result c.give_reference.new.m (c.give_reference.ensures v w).ends.breaks

pub returns-in-Err-Trap-clause-takes : goal.returns-in-Err-Trap-clause-takes
returns-in-Err-Trap-clause-takes g c =
    let v = c.args.vault.now in
    let got = c.get_field-got in
    let did = c.field_trapped in
    let p = c.in-Some.ensures in
    let is : got.result ≡ Err (op.Trap c.in-Err-Trap.trap) = search rules in
    trap-takes References (λ w d. push_ref w (having (reading w) d)) c.args.k c.args.n c.args.line (g.V.Vault.outside v) (g.V.Vault.outside got.new.vault) c.args.m.now
    c.pop_any.new.m got.new.self p.leaves
    c.in-Some.object (p.pops v) (g.V.Vault.outside did.new.vault) got.result c.in-Err-Trap.trap did.new.m did.result is got.ensures.got got.ensures.damaged
    got.ensures.leaves got.ensures.keeps did.ensures.traps

pub returns-in-Err-Trap-clause-fails : goal.returns-in-Err-Trap-clause-fails
returns-in-Err-Trap-clause-fails g c =
    let did = c.field_trapped in
    failing-behind (g.V.Vault.outside c.args.vault.now) (g.V.Vault.outside c.get_field-got.new.vault) (g.V.Vault.outside did.new.vault) did.result did.new.m
    c.get_field-got.ensures.leaves did.ensures.fails

pub returns-in-Err-Swizzle-clause-takes : goal.returns-in-Err-Swizzle-clause-takes
returns-in-Err-Swizzle-clause-takes g c =
    let v = c.args.vault.now in
    let got = c.get_field-got in
    let p = c.in-Some.ensures in
    let is : got.result ≡ Err (op.Swizzle c.in-Err-Swizzle.fault) = search rules in
    broken-takes References (λ w d. push_ref w (having (reading w) d)) c.args.k c.args.n c.args.line (g.V.Vault.outside v) (g.V.Vault.outside got.new.vault) c.args.m.now
    c.pop_any.new.m got.new.self p.leaves
    c.in-Some.object (p.pops v) got.result c.in-Err-Swizzle.fault c.broke.new.m c.broke.result is got.ensures.got got.ensures.damaged c.broke.ensures.answer
    (c.broke.ensures.breaks v got.new.vault)
