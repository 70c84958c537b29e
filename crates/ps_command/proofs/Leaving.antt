-- What was left of a run's output goes out by the host of its store, or the output fails in it, or it had failed in the run.
use Rattle.std.proofs.Common.{◌≡◌, List, [], ℕ, sym, ◌∙◌, ap, subst}
use Rattle.std.specs.Prelude.{◌≢◌, Result, Ok, Err, IfErr}
use Rattle.ps_port.specs.ps_outside.Outside.{Outside}
use Rattle.ps_port.specs.Telling.{LeavesDevice}
use Rattle.ps_causes.specs.obj_store.Store.{Store, access_of, outside_of}
use Rattle.ps_causes.specs.ps_reports.declared.status.Status.{Status}
use Rattle.ps_causes.specs.ps_reports.declared.status.Status.TheVariants as status
use Rattle.ps_causes.specs.ps_reports.declared.report.Report.{Report}
use Rattle.obj_layout.specs.declared.vault.VaultFault.TheVariants as vault
use Rattle.machine_core.specs.swizzle.declared.fault.SwizzleFault.{SwizzleFault}
use Rattle.machine_core.specs.swizzle.declared.fault.SwizzleFault.TheVariants.{Vault}
use Rattle.machine_core.specs.declared.machine.Machine.{Machine}
use Rattle.machine_core.specs.declared.run_end.RunEnd.{RunEnd}
use Rattle.machine_core.specs.Holding.{Holds}
use Rattle.machine_core.specs.ps_stepping.Config.{Config}
use Rattle.database_steps.specs.Databases.{IsAlone}
use Rattle.session_run.specs.Ran as session
use Rattle.session_run.specs.Ran.{GoesOn, IsCause}
use Rattle.ps_command.specs.inside.Running.{Leaves, RanBy, Sends, end_for, report_for, status_for}
use Rattle.ps_command.specs.inside.Running as running

-- a result that isn't the failing of the output
pub not-output : (result : Result RunEnd SwizzleFault) (e : RunEnd) → result ≡ Ok e → result ≢ Err (Vault vault.Output)
not-output result e one = λ (two : result ≡ Err (Vault vault.Output)). let both : Ok e ≡ Err (Vault vault.Output) = sym one ∙ two in cc

pub not-output-fault : (result : Result RunEnd SwizzleFault) (fault : SwizzleFault) → result ≡ Err fault → fault ≢ Vault vault.Output → result ≢ Err (Vault vault.Output)
not-output-fault result fault one other = λ (two : result ≡ Err (Vault vault.Output)). let both : Err fault ≡ Err (Vault vault.Output) = sym one ∙ two in other cc

module _ {H : Type 0} (outside : H → Outside (List ℕ)) (ran : Store H) (left : List ℕ) (result : Result RunEnd SwizzleFault) (new : H) (device : LeavesDevice (outside ran.host) (outside new)) where
  -- the run had this end, and what was pending went out or the output failed in it
  leaves-sent : (end answer : Result Status Report) → end ≡ end_for result → result ≢ Err (Vault vault.Output) → Sends (outside ran.host) (outside new) left end answer
      → Leaves outside ran left result new answer
  leaves-sent end answer is other (running.all all) = subst (λ (a : Result Status Report). Leaves outside ran left result new a) (sym is) (running.told other all device)
  leaves-sent end answer is other (running.not_all fails) = running.failed other fails device

  -- the run came to its end
  pub leaves-ended : (e : RunEnd) (s : Status) (answer : Result Status Report) → result ≡ Ok e → s ≡ status_for e → Sends (outside ran.host) (outside new) left (Ok s) answer
      → Leaves outside ran left result new answer
  leaves-ended e s answer is same sends =
      leaves-sent (Ok s) answer (ap (λ (x : Status). Ok x) same ∙ ap end_for (sym is)) (not-output result e is) sends

  -- it broke off
  pub leaves-broken : (fault : SwizzleFault) (report : Report) (answer : Result Status Report) → result ≡ Err fault → fault ≢ Vault vault.Output → report ≡ report_for fault
      → Sends (outside ran.host) (outside new) left (Err report) answer → Leaves outside ran left result new answer
  leaves-broken fault report answer is other same sends =
      leaves-sent (Err report) answer (ap (λ (x : Report). Err x) same ∙ ap end_for (sym is)) (not-output-fault result fault is other) sends

-- it had failed in the run
pub leaves-cut : {H : Type 0} (outside : H → Outside (List ℕ)) (ran : Store H) (left : List ℕ) (result : Result RunEnd SwizzleFault) (fault : SwizzleFault) (new : H) → result ≡ Err fault
    → fault ≡ Vault vault.Output → new ≡ ran.host → Leaves outside ran left result new (Ok status.Output)
leaves-cut outside ran left result fault new is same host = running.cut (subst (λ (f : SwizzleFault). result ≡ Err f) same is) host

-- a run that began with nothing pending
pub ran-by : {H : Type 0} (outside : H → Outside (List ℕ)) (attached ran : Store H) (m : Machine) (owed left : List ℕ) (result : Result RunEnd SwizzleFault) (new : H)
    (answer : Result Status Report) → owed ≡ []
    → ((c : Config) → Holds (outside_of outside attached) m c → IsAlone c.store.held
    → session.Ran (outside_of outside attached) (outside_of outside ran) owed left (outside_of outside) m.objects.size c result)
    → GoesOn (outside_of outside attached) (outside_of outside ran) → IfErr result (IsCause (outside_of outside attached) (outside_of outside ran) (access_of attached))
    → Leaves outside ran left result new answer → RanBy outside attached m new answer
ran-by outside attached ran m owed left result new answer none runs goes caused leaves = record {
  ran = ran;
  left = left;
  result = result;
  runs = λ c holds alone.
      subst (λ (o : List ℕ). session.Ran (outside_of outside attached) (outside_of outside ran) o left (outside_of outside) m.objects.size c result) none (runs c holds alone);
  goes = goes;
  caused = caused;
  leaves = leaves;
}
