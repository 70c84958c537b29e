use Rattle.std.proofs.Common.{◌∙◌, sym, subst}
use Rattle.std.specs.Prelude.{Ok, Err, IfErr}
use Rattle.ps_port.specs.Telling.{LeavesDevice}
use Rattle.session_run.specs.Ran.{IsCause}
use Rattle.ps_causes.specs.obj_store.Store.{access_of, outside_of}
use Rattle.ps_command.specs.inside.Running.{Sends}
use Rattle.ps_command.proofs.Leaving.{leaves-ended, leaves-broken, leaves-cut, ran-by}
use Rattle.ps_command.proofs.Running.{has-report}
use Rattle.ps_command.proofs.execute.run_loaded.Goals as goal

pub returns-in-Ok : goal.returns-in-Ok
returns-in-Ok g c =
    let o = g.H.Host.outside in
    let ran = c.run.new.vault in
    let left = c.run.new.output in
    let new = c.sent.result.1 in
    record {
      ran = ran-by o c.args.store ran c.args.m c.args.output left c.run.result new c.sent.result.0 c.requires.owed c.run.ensures.ran c.run.ensures.seen c.run.ensures.caused
          (leaves-ended o ran left c.run.result new (subst (λ h. LeavesDevice (o h) (o new)) c.release.ensures c.sent.ensures.device) c.in-Ok.end c.status.result c.sent.result.0 c.in-Ok.is
          c.status.ensures (subst (λ h. Sends (o h) (o new) left (Ok c.status.result) c.sent.result.0) c.release.ensures c.sent.ensures.sends));
    }

pub report-requires : goal.report-requires
report-requires g c =
    let o = g.H.Host.outside in
    let caused = subst (λ r. IfErr r (IsCause (outside_of o c.args.store) (outside_of o c.run.new.vault) (access_of c.args.store))) c.in-Err.is c.run.ensures.caused in
    has-report o c.args.store c.run.new.vault c.in-Err.fault c.requires.alone caused (c.is_output.ensures.other c.if-is_output.false)

pub returns : goal.returns
returns g c =
    let o = g.H.Host.outside in
    let ran = c.run.new.vault in
    let left = c.run.new.output in
    let sent = c.sent-in-Err in
    let new = sent.result.1 in
    let host = c.release-in-Err.ensures in
    record {
      ran = ran-by o c.args.store ran c.args.m c.args.output left c.run.result new sent.result.0 c.requires.owed c.run.ensures.ran c.run.ensures.seen c.run.ensures.caused
          (leaves-broken o ran left c.run.result new (subst (λ h. LeavesDevice (o h) (o new)) host sent.ensures.device) c.in-Err.fault c.report.result sent.result.0 c.in-Err.is
          (c.is_output.ensures.other c.if-is_output.false) c.report.ensures (subst (λ h. Sends (o h) (o new) left (Err c.report.result) sent.result.0) host sent.ensures.sends));
    }

pub returns-then-is_output : goal.returns-then-is_output
returns-then-is_output g c =
    let o = g.H.Host.outside in
    let ran = c.run.new.vault in
    let left = c.run.new.output in
    record {
      ran = ran-by o c.args.store ran c.args.m c.args.output left c.run.result c.release-then-is_output.result _ c.requires.owed c.run.ensures.ran c.run.ensures.seen c.run.ensures.caused
          (leaves-cut o ran left c.run.result c.in-Err.fault c.release-then-is_output.result c.in-Err.is (c.is_output.ensures.output c.if-is_output.true) c.release-then-is_output.ensures);
    }
