use Rattle.machine_structures.proofs.TrapLaws.{object-is, other-is}
use Rattle.machine_structures.proofs.traps.is_object.Goals as goal

pub returns-in-Nil : goal.returns-in-Nil
returns-in-Nil g c = λ v. object-is c.args.m.now.objects (g.V.Vault.outside v) c.args.object c.sort_of.result (c.sort_of.ensures.value v) c.in-Nil.is

pub returns-in_default : goal.returns-in_default
returns-in_default g c = λ v.
    other-is c.args.m.now.objects (g.V.Vault.outside v) c.args.object c.sort_of.result (c.sort_of.ensures.value v) c.in_default.not-Nil
    c.in_default.not-Pointer
