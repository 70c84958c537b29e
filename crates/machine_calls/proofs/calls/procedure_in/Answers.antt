use Rattle.machine_calls.proofs.CalledBodies.{called-answer, other-object}
use Rattle.machine_calls.proofs.calls.procedure_in.Goals as goal

pub returns-in-Procedure-clause-called : goal.returns-in-Procedure-clause-called
returns-in-Procedure-clause-called g c = λ v.
    called-answer c.args.m.now.objects (g.V.Vault.outside v) c.args.word c.sort_of.result c.object-to.result c.object-to.ensures c.sort_of.ensures.kind
    c.in-Procedure.is (c.sort_of.ensures.value v)

pub returns-in_default : goal.returns-in_default
returns-in_default g c = record {
  called = λ v.
      other-object c.args.m.now.objects (g.V.Vault.outside v) c.args.word c.sort_of.result c.object-to.result c.object-to.ensures
      c.in_default.not-Procedure (c.sort_of.ensures.value v);
  held = tt;
}
