use Rattle.std.proofs.Common.{◌≡◌, rules}
use Rattle.std.specs.Prelude.{Ok, Err}
use Rattle.machine_core.specs.heap_texts.declared.fault.OpFault.TheVariants as op
use Rattle.machine_structures.proofs.FieldWrites.{field-broken, field-put, field-trapped}
use Rattle.machine_structures.proofs.fields.put_field.Goals as goal

pub returns-in-Ok-clause-puts : goal.returns-in-Ok-clause-puts
returns-in-Ok-clause-puts g c =
    let v = c.args.vault.now in
    let p = c.in-Some.ensures in
    let set = c.set_field-set in
    let is : set.result ≡ Ok tt = search rules in
    field-put c.args.field c.args.to c.args.line (g.V.Vault.outside v) (g.V.Vault.outside set.new.vault) c.args.m.now c.pop_any.new.m set.new.self p.leaves
    c.in-Some.object (p.pops v) set.result is p.leaves.sound p.names set.ensures.set set.ensures.damaged set.ensures.stands set.ensures.size

pub returns-in-Err-Trap-clause-puts : goal.returns-in-Err-Trap-clause-puts
returns-in-Err-Trap-clause-puts g c =
    let v = c.args.vault.now in
    let p = c.in-Some.ensures in
    let set = c.set_field-set in
    let did = c.object_trapped in
    let is : set.result ≡ Err (op.Trap c.in-Err-Trap.trap) = search rules in
    field-trapped c.args.field c.args.to c.args.line (g.V.Vault.outside v) (g.V.Vault.outside set.new.vault) c.args.m.now c.pop_any.new.m set.new.self p.leaves
    c.in-Some.object (p.pops v) did.new.m did.result set.result c.in-Err-Trap.trap is p.names set.ensures.set set.ensures.damaged set.ensures.leaves
    set.ensures.stands set.ensures.size (did.ensures.traps set.new.vault set.new.vault)

pub returns-in-Err-Swizzle-clause-puts : goal.returns-in-Err-Swizzle-clause-puts
returns-in-Err-Swizzle-clause-puts g c =
    let v = c.args.vault.now in
    let p = c.in-Some.ensures in
    let set = c.set_field-set in
    let is : set.result ≡ Err (op.Swizzle c.in-Err-Swizzle.fault) = search rules in
    field-broken c.args.field c.args.to c.args.line (g.V.Vault.outside v) (g.V.Vault.outside set.new.vault) c.args.m.now c.pop_any.new.m set.new.self p.leaves
    c.in-Some.object (p.pops v) c.broke.new.m c.broke.result set.result c.in-Err-Swizzle.fault is set.ensures.set set.ensures.damaged c.broke.ensures.answer
    (c.broke.ensures.breaks v set.new.vault)
