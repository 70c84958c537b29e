use Rattle.std.proofs.Common.{subst, sym}
use Rattle.machine_core.specs.declared.machine.Machine.{Machine}
use Rattle.machine_core.specs.ps_heap.Library.{OpenDatabase}
use Rattle.machine_core.specs.ps_stepping.Library.{call_on_heap}
use Rattle.machine_core.specs.Naming.{NamesObjects}
use Rattle.session_run.specs.declared.advanced.Advanced.TheVariants.{Broke}
use Rattle.session_run.specs.inside.Advancing.{Comes}
use Rattle.session_run.proofs.Stepping.{cause-reading, goes-leaves}
use Rattle.session_run.proofs.Calling.{a-line, whole-other, open-said, call-on, call-breaks, call-damaged}
use Rattle.session_run.proofs.databases.opens.Goals as goal

pub returns-in-Quiet-clause-comes : goal.returns-in-Quiet-clause-comes
returns-in-Quiet-clause-comes g c output line =
    let outside = g.V.Vault.outside in
    call-on (outside c.args.vault.now) (outside c.open_database.new.vault) (call_on_heap OpenDatabase line) (open-said line) c.args.m.now c.open_database.new.m c.in-Quiet.ensures.leaves output
    (c.in-Quiet.ensures.takes line)

pub returns-in-Breaks-clause-comes : goal.returns-in-Breaks-clause-comes
returns-in-Breaks-clause-comes g c output line =
    let outside = g.V.Vault.outside in
    call-breaks (outside c.args.vault.now) (outside c.open_database.new.vault) (call_on_heap OpenDatabase line) (open-said line) c.args.m.now c.open_database.new.m c.in-Breaks.ensures.leaves output
    (c.in-Breaks.ensures.takes line)

pub returns-in-Damaged-clause-comes : goal.returns-in-Damaged-clause-comes
returns-in-Damaged-clause-comes g c output line =
    let outside = g.V.Vault.outside in
    subst (λ (m : Machine). Comes (outside c.args.vault.now) (outside c.open_database.new.vault) output output (call_on_heap OpenDatabase line) c.args.m.now m Broke) (sym c.blame_code.ensures.rest)
    (call-damaged (outside c.args.vault.now) (outside c.open_database.new.vault) (call_on_heap OpenDatabase line) (open-said line) c.args.m.now c.open_database.new.m c.open_database.ensures.leaves output
    c.args.own c.blame_code.new.m.fault c.open_database.result c.in-Damaged.is c.blame_code.ensures.fault (c.open_database.ensures.takes line))

pub returns-in-Quiet-clause-seen : goal.returns-in-Quiet-clause-seen
returns-in-Quiet-clause-seen g c = goes-leaves _ _ c.in-Quiet.ensures.leaves

pub returns-in-Breaks-clause-seen : goal.returns-in-Breaks-clause-seen
returns-in-Breaks-clause-seen g c = goes-leaves _ _ c.in-Breaks.ensures.leaves

pub returns-in-Damaged-clause-seen : goal.returns-in-Damaged-clause-seen
returns-in-Damaged-clause-seen g c = goes-leaves _ _ c.open_database.ensures.leaves

pub returns-in-Breaks-clause-caused : goal.returns-in-Breaks-clause-caused
returns-in-Breaks-clause-caused g c = cause-reading (g.V.Vault.access c.args.vault.now) _ _ _ c.in-Breaks.ensures.fails

pub returns-in-Quiet-clause-sound : goal.returns-in-Quiet-clause-sound
returns-in-Quiet-clause-sound g c = (c.in-Quiet.ensures.takes a-line).sound

pub returns-in-Quiet-clause-names : goal.returns-in-Quiet-clause-names
returns-in-Quiet-clause-names g c = (c.in-Quiet.ensures.takes a-line).names

pub blame_code-requires : goal.blame_code-requires
blame_code-requires g c =
    whole-other (NamesObjects c.open_database.new.m) c.open_database.result c.in-Damaged.is (c.open_database.ensures.takes a-line).names
