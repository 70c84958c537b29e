use Rattle.std.proofs.Common.{◌≡◌, rules, sym, subst}
use Rattle.std.specs.Prelude.{Ok, Err}
use Rattle.machine_core.specs.heap_texts.declared.fault.OpFault.TheVariants as op
use Rattle.machine_core.specs.declared.stepped.Stepped.TheVariants.{Quiet}
use Rattle.machine_tables.specs.inside.Ends.{EndsEnter}
use Rattle.machine_tables.proofs.Endings.{enter-done, enter-failed}
use Rattle.machine_tables.proofs.ends.end_enter.Goals as goal

pub returns-in-Ok : goal.returns-in-Ok
returns-in-Ok g c v w =
    let before = g.V.Vault.outside v in
    let after = g.V.Vault.outside w in
    let m = c.args.m.now in
    let is : c.args.done ≡ Ok tt = search rules in
    subst (λ done. EndsEnter before after m m Quiet c.args.line done) (sym is) (enter-done before after m c.args.line c.requires)

pub returns-in-Err-Trap : goal.returns-in-Err-Trap
returns-in-Err-Trap g c v w =
    let before = g.V.Vault.outside v in
    let after = g.V.Vault.outside w in
    let m = c.args.m.now in
    let did = c.trapped in
    let is : c.args.done ≡ Err (op.Trap c.in-Err-Trap.trap) = search rules in
    subst (λ done. EndsEnter before after m did.new.m did.result c.args.line done) (sym is)
    (enter-failed before after m did.new.m did.result c.args.line (op.Trap c.in-Err-Trap.trap) (did.ensures.takes v).sound did.ensures.answer did.ensures.left)

pub returns-in-Err-Swizzle : goal.returns-in-Err-Swizzle
returns-in-Err-Swizzle g c v w =
    let before = g.V.Vault.outside v in
    let after = g.V.Vault.outside w in
    let m = c.args.m.now in
    let did = c.broke in
    let is : c.args.done ≡ Err (op.Swizzle c.in-Err-Swizzle.fault) = search rules in
    subst (λ done. EndsEnter before after m did.new.m did.result c.args.line done) (sym is)
    (enter-failed before after m did.new.m did.result c.args.line (op.Swizzle c.in-Err-Swizzle.fault) (did.ensures.breaks v w).sound did.ensures.answer did.ensures.left)
