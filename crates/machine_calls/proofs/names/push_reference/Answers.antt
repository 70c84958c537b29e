use Rattle.std.proofs.Common.{sym, subst}
use Rattle.machine_core.specs.heap_places.declared.value.Value.{Value}
use Rattle.machine_calls.specs.inside.Names.{PushesReference}
use Rattle.machine_calls.proofs.names.push_reference.Goals as goal

pub returns-in-Ref-clause-takes : goal.returns-in-Ref-clause-takes
returns-in-Ref-clause-takes g c = λ v.
    let out = g.V.Vault.outside v in
    subst (λ (k : Value). PushesReference out out k c.args.m.now c.push_ref.new.m c.push_ref.result) (sym c.in-Ref.is) (c.push_ref.ensures.takes v)
