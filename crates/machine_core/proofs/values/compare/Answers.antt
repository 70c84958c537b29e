use Rattle.std.proofs.Common.{◌≡◌, rules}
use Rattle.ps_stepping.specs.ps_heap.Operators.{relation_of}
use Rattle.ps_stepping.specs.ps_heap.Values.{number_of}
use Rattle.ps_stepping.specs.Machine.{put_num}
use Rattle.machine_core.specs.inside.Taking.{TakesTwo}
use Rattle.machine_core.proofs.Between.{no-operands}
use Rattle.machine_core.proofs.Popping.{tests-two}
use Rattle.machine_core.proofs.values.compare.Goals as goal

pub returns-in-Some-clause-takes : goal.returns-in-Some-clause-takes
returns-in-Some-clause-takes g c =
    let two = c.in-Some in
    let put = c.put_for_two in
    let is : c.number.result ≡ number_of (relation_of c.args.relation two.a two.b) = search rules in
    λ v.
    let out = g.V.Vault.outside v in
    let t : TakesTwo out out (put_num c.number.result) c.args.m.now put.new.m put.result = search (rules, put.ensures.takes v) in
    tests-two out out c.args.m.now put.new.m two.a two.b put.result (two.ensures.tops v) (relation_of c.args.relation) c.number.result is t

pub returns-in-None-clause-takes : goal.returns-in-None-clause-takes
returns-in-None-clause-takes g c = λ v.
    let out = g.V.Vault.outside v in
    no-operands out out c.args.m.now c.requires (λ a b d. put_num (number_of (relation_of c.args.relation a b)) d) (c.in-None.ensures.tops v)
