use Rattle.std.proofs.Common.{◌≡◌, ℤ, pos, true, w32, to_z, of_z, rules, arith, subst}
use Rattle.machine_core.specs.ps_heap.Operators.{is_int}
use Rattle.machine_core.specs.ps_stepping.Steps.{push_num}
use Rattle.machine_core.specs.Stepped.{Takes}
use Rattle.machine_core.proofs.Between.{same-held}
use Rattle.machine_tables.specs.inside.Ends.{count_pushed}
use Rattle.machine_tables.proofs.Endings.{count-pushes}
use Rattle.machine_tables.proofs.ends.push_count.Goals as goal

pub returns-clause-takes : goal.returns-clause-takes
returns-clause-takes g c v =
    let out = g.V.Vault.outside v in
    let m = c.args.m.now in
    let count = c.args.count in
    let did = c.push_num in
    let same : to_z w32 (of_z w32 c.cast_signed-number.result) ≡ pos count = search (rules, arith) in
    let low : is_int (pos count) ≡ true = search (rules, arith) in
    same-held out out m did.new.m did.result (push_num (pos count)) (count_pushed c.args.line count) (λ conf h. count-pushes c.args.line count conf low)
    (subst (λ (z : ℤ). Takes out out (push_num z) m did.new.m did.result) same (did.ensures.takes v))
