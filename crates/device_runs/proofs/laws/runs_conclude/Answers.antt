use Rattle.std.specs.Prelude.{[], Err}
use Rattle.ps_outside.proofs.PastMoments.{past_along}
use Rattle.obj_store.specs.Store.{outside_of}
use Rattle.session_meaning.specs.Shows.{BrokeFor}
use Rattle.device_runs.proofs.OnDevice.{shows-on}
use Rattle.device_runs.proofs.Concluding.{none_by, concludes-told, concludes-failed, concludes-cut}
use Rattle.device_runs.proofs.laws.runs_conclude.Goals as goal
use Rattle.obj_store.specs.declared.source.Source.TheVariants.{Staged}
use Rattle.obj_layout.specs.declared.vault.VaultFault.TheVariants.{Output}
use Rattle.session_meaning.specs.session_run.machine_core.swizzle.declared.fault.SwizzleFault.TheVariants.{Vault}

pub returns-clause-told : goal.returns-clause-told
returns-clause-told g c = λ old new a r counts heap events size at left result over other tells device.
    let o = g.H.Host.outside in
    let is = over.is_attached in
    let broke = BrokeFor (outside_of o) (outside_of o r) size at in
    concludes-told heap (o old) (o a.host) is.keeps.from is.told (past_along is.keeps.keeps.images) is.output over.starts (o r.host) counts left broke events
    (o new) device result other tells
    (shows-on Staged Staged a.used r.used a.table r.table (o a.host) (o r.host) heap (g.met.H.Host.is_image r.host) [] left broke events result over.shows)

pub returns-clause-failed : goal.returns-clause-failed
returns-clause-failed g c = λ old new a r counts heap events size at left result over other fails device.
    let o = g.H.Host.outside in
    let is = over.is_attached in
    let broke = BrokeFor (outside_of o) (outside_of o r) size at in
    concludes-failed heap (o old) (o a.host) is.keeps.from is.told (past_along is.keeps.keeps.images) is.output over.starts (o r.host) counts left broke events
    (o new) device result other fails
    (shows-on Staged Staged a.used r.used a.table r.table (o a.host) (o r.host) heap (g.met.H.Host.is_image r.host) [] left broke events result over.shows)

pub returns-clause-cut : goal.returns-clause-cut
returns-clause-cut g c = λ old a r counts heap events size at left over.
    let o = g.H.Host.outside in
    let is = over.is_attached in
    let broke = BrokeFor (outside_of o) (outside_of o r) size at in
    concludes-cut heap (o old) (o a.host) is.keeps.from is.told (past_along is.keeps.keeps.images) is.output over.starts (o r.host) counts left broke events
    (shows-on Staged Staged a.used r.used a.table r.table (o a.host) (o r.host) heap (g.met.H.Host.is_image r.host) [] left broke events (Err (Vault Output)) over.shows)
    (none_by (outside_of o) (outside_of o r) size at)
