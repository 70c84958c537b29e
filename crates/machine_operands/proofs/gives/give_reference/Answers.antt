use Rattle.std.proofs.Common.{◌≡◌, sym, subst, rules}
use Rattle.std.specs.Prelude.{Ok}
use Rattle.machine_core.specs.heap_places.declared.value.Value.TheVariants as held
use Rattle.machine_operands.specs.Giving.{GivesReference}
use Rattle.machine_operands.proofs.Giving.{reference-pushed, reference-failed, no-reference}
use Rattle.machine_operands.proofs.gives.give_reference.Goals as goal

pub returns-in-Ok-Ref : goal.returns-in-Ok-Ref
returns-in-Ok-Ref g c =
    let m = c.args.m.now in
    let is : c.args.got ≡ Ok (held.Ref c.in-Ok-Ref.to) = search rules in
    λ v w.
    let before = g.V.Vault.outside v in
    let after = g.V.Vault.outside w in
    subst (λ got. GivesReference before after m c.push_ref.new.m c.push_ref.result c.args.line got) (sym is)
    (reference-pushed before after m c.push_ref.new.m c.push_ref.result c.args.line c.in-Ok-Ref.to c.push_ref.ensures.goes (c.push_ref.ensures.takes w))

pub returns-in-Err : goal.returns-in-Err
returns-in-Err g c =
    let m = c.args.m.now in
    let f = c.failed.ensures in
    λ v w.
    let before = g.V.Vault.outside v in
    let after = g.V.Vault.outside w in
    subst (λ got. GivesReference before after m c.failed.new.m c.failed.result c.args.line got) (sym c.in-Err.is)
    (reference-failed before after m c.failed.new.m c.failed.result c.args.line c.in-Err.fault f.sound f.answer f.left)
