use Rattle.std.proofs.Common.{rules}
use Rattle.ps_stepping.specs.ps_heap.Values.{is_one, flag_text}
use Rattle.ps_stepping.specs.Machine.{pop_num, pop_width, written}
use Rattle.machine_core.specs.Stepped.{Takes}
use Rattle.machine_core.proofs.Between.{taken-then}
use Rattle.machine_core.proofs.writes.write_flag.Goals as goal

pub returns-clause-takes : goal.returns-clause-takes
returns-clause-takes g c =
    let mid = c.pop_width.new.m in
    let popped = c.pop_num.new.m in
    let did = c.written in
    λ v.
    let out = g.V.Vault.outside v in
    let t : Takes out out (written c.args.line c.in-Some.width (flag_text (is_one c.in-Some-pop_num.z))) popped did.new.m did.result = search (rules, did.ensures.takes v) in
    taken-then out out c.args.m.now mid did.new.m did.result c.in-Some.ensures.leaves (pop_width c.args.given) c.in-Some.width
    (λ width d. pop_num d (λ z e. written c.args.line width (flag_text (is_one z)) e)) (c.in-Some.ensures.taken v)
    (taken-then out out mid popped did.new.m did.result c.in-Some-pop_num.ensures.leaves pop_num c.in-Some-pop_num.z (λ z e. written c.args.line c.in-Some.width (flag_text (is_one z)) e)
    (c.in-Some-pop_num.ensures.taken v) t)
