use Rattle.std.proofs.Common.{◌∙◌, arith, sym, subst}
use Rattle.std.specs.Prelude.{Err}
use Rattle.ps_causes.specs.ps_args.Reading.{run_in}
use Rattle.ps_causes.specs.obj_store.Store.{outside_of}
use Rattle.ps_causes.specs.Steps.{RanTo}
use Rattle.ps_command.specs.inside.Running.{HasReport, report_for}
use Rattle.ps_command.proofs.Loading.{loaded-ok, loaded-err}
use Rattle.ps_command.proofs.Running.{comes, never-ran, ran-to}
use Rattle.ps_command.proofs.execute.run_attached.Goals as goal

pub run_loaded-requires-clause-sound : goal.run_loaded-requires-clause-sound
run_loaded-requires-clause-sound g c =
    let is = loaded-ok (outside_of g.H.Host.outside c.args.store) c.args.prepared.unit c.requires.program.0 c.args.words.now.turns c.args.prepared.input.items c.args.m c.load.new.m c.load.result _
    c.requires.program.1 c.load.ensures c.in-Ok.is in
    is.sound

pub run_loaded-requires-clause-names : goal.run_loaded-requires-clause-names
run_loaded-requires-clause-names g c =
    let is = loaded-ok (outside_of g.H.Host.outside c.args.store) c.args.prepared.unit c.requires.program.0 c.args.words.now.turns c.args.prepared.input.items c.args.m c.load.new.m c.load.result _
    c.requires.program.1 c.load.ensures c.in-Ok.is in
    is.named

pub run_loaded-requires-clause-room : goal.run_loaded-requires-clause-room
run_loaded-requires-clause-room g c =
    let is = loaded-ok (outside_of g.H.Host.outside c.args.store) c.args.prepared.unit c.requires.program.0 c.args.words.now.turns c.args.prepared.input.items c.args.m c.load.new.m c.load.result _
    c.requires.program.1 c.load.ensures c.in-Ok.is in
    let same = is.size ∙ c.requires.fresh.size_is in
    let room = c.requires.room in
    omega (arith, same, room)

pub returns-in-Ok : goal.returns-in-Ok
returns-in-Ok g c = record {
  ran = λ old program stored r.
      let o = g.H.Host.outside in
      let run = run_in c.args.words.now in
      let input = c.args.prepared.input.items in
      let store = c.args.store in
      let m = c.load.new.m in
      let loaded = loaded-ok (outside_of o store) c.args.prepared.unit program run.turns input c.args.m m c.load.result _ r c.load.ensures c.in-Ok.is in
      let size = loaded.size ∙ c.requires.fresh.size_is in
      let new = c.run_loaded.result.1 in
      let answer = c.run_loaded.result.0 in
      let by = c.run_loaded.ensures.ran in
      let one = g.met.H.Host.one old in
      let counts = by.goes.output in
      ran-to o run input program old store stored m size new answer by one
      (λ heap stood.
      comes o run input program old store stored m size new answer by one (c.programs_show_their_events.ensures store by.ran)
      (λ host. c.runs_conclude.ensures.told old host store by.ran counts) (λ host. c.runs_conclude.ensures.failed old host store by.ran counts)
      (c.runs_conclude.ensures.cut old store by.ran counts) (c.checked_units_run_as_meant.ensures run.turns input program r.checked r.units) c.args.m loaded heap stood);
}

pub report-requires : goal.report-requires
report-requires g c =
    let no = loaded-err (outside_of g.H.Host.outside c.args.store) c.args.prepared.unit c.requires.program.0 c.args.words.now.turns c.args.prepared.input.items c.args.m c.load.new.m c.load.result
    c.in-Err.fault c.requires.program.1 c.load.ensures c.in-Err.is in
    subst HasReport (sym no.fault_is) tt

pub returns : goal.returns
returns g c = record {
  ran = λ old program stored r.
      let o = g.H.Host.outside in
      let run = run_in c.args.words.now in
      let input = c.args.prepared.input.items in
      let store = c.args.store in
      let fault = c.in-Err.fault in
      let no = loaded-err (outside_of o store) c.args.prepared.unit program run.turns input c.args.m c.load.new.m c.load.result fault r c.load.ensures c.in-Err.is in
      let size = c.requires.fresh.size_is in
      subst (λ e. RanTo run input program (o old) (o c.release.result) (Err e)) (sym c.report.ensures)
      (subst (λ h. RanTo run input program (o old) (o h) (Err (report_for fault))) (sym c.release.ensures)
      (never-ran o run input program old store stored c.args.m c.load.new.m size fault no (g.met.H.Host.one old)));
}
