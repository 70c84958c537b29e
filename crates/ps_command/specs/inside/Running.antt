-- A run over the store of a volume, and what was done then with what was pending.
use Rattle.std.specs.Prelude.{◌≡◌, ◌≢◌, ◌⊎◌, ℕ, ◌≤◌, Bool, true, List, [], Result, Ok, Err, IfErr}
use Rattle.ps_port.specs.ps_outside.Outside.{Outside}
use Rattle.ps_port.specs.Telling.{TellsAll, FailsAfter, LeavesDevice}
use Rattle.ps_causes.specs.obj_store.Store.{Store, access_of, outside_of}
use Rattle.session_run.specs.machine_core.obj_layout.declared.vault.VaultFault.TheVariants.{Device, Output, Full, NoPages, Damaged}
use Rattle.session_run.specs.machine_core.swizzle.declared.fault.SwizzleFault.{SwizzleFault}
use Rattle.session_run.specs.machine_core.swizzle.declared.fault.SwizzleFault.TheVariants.{AreaFull, Vault}
use Rattle.session_run.specs.machine_core.declared.machine.Machine.{Machine}
use Rattle.session_run.specs.machine_core.declared.run_end.RunEnd.{RunEnd}
use Rattle.session_run.specs.machine_core.declared.run_end.RunEnd.TheVariants.{Done, Trapped, OutOfTurns}
use Rattle.session_run.specs.machine_core.Holding.{Holds}
use Rattle.session_run.specs.machine_core.ps_stepping.Config.{Config}
use Rattle.session_run.specs.Ran as session
use Rattle.session_run.specs.Ran.{GoesOn, IsCause}
use Rattle.database_steps.specs.Databases.{IsAlone}
use Rattle.ps_causes.specs.ps_reports.declared.status.Status.{Status}
use Rattle.ps_causes.specs.ps_reports.declared.status.Status.TheVariants as status
use Rattle.ps_causes.specs.ps_reports.declared.report.Report.{Report}
use Rattle.ps_causes.specs.ps_reports.declared.report.Report.TheVariants as reports

-- the status of an end
abbrev pub status_for : RunEnd → Status
status_for Done = status.Done
status_for (Trapped trap line) = status.Trapped
status_for OutOfTurns = status.OutOfTurns

-- the faults that get a report: but for the output's, and for want of pages, which no store that is alone has
abbrev pub HasReport : SwizzleFault → Type 0
HasReport (AreaFull top wanted size) = Unit {0}
HasReport (Vault Device) = Unit {0}
HasReport (Vault Output) = ⊥
HasReport (Vault (Full used wanted capacity)) = Unit {0}
HasReport (Vault (NoPages held wanted pages)) = ⊥
HasReport (Vault (Damaged at found wanted)) = Unit {0}

abbrev pub report_for : SwizzleFault → Report
report_for (AreaFull top wanted size) = reports.AreaFull top wanted size
report_for (Vault (Full used wanted capacity)) = reports.VolumeFull used wanted capacity
report_for (Vault (Damaged at found wanted)) = reports.Damaged at found wanted
report_for _ = reports.Device

abbrev pub end_for : Result RunEnd SwizzleFault → Result Status Report
end_for (Ok e) = Ok (status_for e)
end_for (Err fault) = Err (report_for fault)

-- What was pending was output, and the end stays so; or the output failed in it.
pub data Sends (old new : Outside (List ℕ)) (bytes : List ℕ) (end : Result Status Report) : Result Status Report → Type 0 where
  all : TellsAll old new bytes → Sends old new bytes end end
  not_all : FailsAfter old new bytes → Sends old new bytes end (Ok status.Output)

-- What was left was output by the host of the store, and the end is that of the run; or the output failed in it; or it had failed in the run.
pub data Leaves {H : Type 0} (outside : H → Outside (List ℕ)) (ran : Store H) (left : List ℕ) (result : Result RunEnd SwizzleFault) (new : H) : Result Status Report → Type 0 where
  told : result ≢ Err (Vault Output) → TellsAll (outside ran.host) (outside new) left → LeavesDevice (outside ran.host) (outside new) → Leaves outside ran left result new (end_for result)
  failed : result ≢ Err (Vault Output) → FailsAfter (outside ran.host) (outside new) left → LeavesDevice (outside ran.host) (outside new)
      → Leaves outside ran left result new (Ok status.Output)
  cut : result ≡ Err (Vault Output) → new ≡ ran.host → Leaves outside ran left result new (Ok status.Output)

-- From each configuration that the machine holds beside the store, of a run that is alone, the run went on so; and this was its end.
pub record RanBy {H : Type 0} (outside : H → Outside (List ℕ)) (attached : Store H) (m : Machine) (new : H) (answer : Result Status Report) : Type 0 where
  pub ran : Store H
  pub left : List ℕ
  pub result : Result RunEnd SwizzleFault
  pub runs : (c : Config) → Holds (outside_of outside attached) m c → IsAlone c.store.held
      → session.Ran (outside_of outside attached) (outside_of outside ran) [] left (outside_of outside) m.objects.size c result
  pub goes : GoesOn (outside_of outside attached) (outside_of outside ran)
  pub caused : IfErr result (IsCause (outside_of outside attached) (outside_of outside ran) (access_of attached))
  pub leaves : Leaves outside ran left result new answer
