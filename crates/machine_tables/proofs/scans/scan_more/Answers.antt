use Rattle.std.proofs.Common.{rules}
use Rattle.machine_core.specs.ps_stepping.Machine.{pop_num}
use Rattle.machine_core.specs.Stepped.{Takes}
use Rattle.machine_core.proofs.Between.{taken-then}
use Rattle.machine_tables.specs.inside.Scanning.{call_counted}
use Rattle.machine_tables.proofs.scans.scan_more.Goals as goal

pub returns-clause-takes : goal.returns-clause-takes
returns-clause-takes g c v =
    let out = g.V.Vault.outside v in
    let a = c.args in
    let mid = c.pop_num.new.m in
    let did = c.count_call in
    let p = c.in-Some.ensures in
    let t : Takes out out (call_counted a.own a.slot a.to c.in-Some.more) mid did.new.m did.result = search (rules, did.ensures.takes v) in
    taken-then out out a.m.now mid did.new.m did.result p.leaves pop_num c.in-Some.more (λ z d. call_counted a.own a.slot a.to z d) (p.taken v) t
