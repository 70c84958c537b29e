use Rattle.machine_operands.proofs.Popping.{all-sorted, vector-answer, no-vector}
use Rattle.machine_operands.proofs.pops.pop_vector.Goals as goal

pub returns-in-Vector-clause-pops : goal.returns-in-Vector-clause-pops
returns-in-Vector-clause-pops g c =
    let mid = c.pop_ref.new.m in
    let w = c.in_ok-word.word in
    λ v.
    let out = g.V.Vault.outside v in
    let sorted = all-sorted mid.objects out c.object.result w c.sort_of.result c.object.ensures (c.sort_of.ensures.value v) in
    vector-answer out c.args.m.now mid w c.sort_of.result c.sound.ensures (c.in_ok-word.ensures.taken v) sorted c.object.result c.object-in-Vector.result
    c.object.ensures c.object-in-Vector.ensures c.sort_of.ensures.kind c.in-Vector.is

pub returns-in_default : goal.returns-in_default
returns-in_default g c =
    let mid = c.pop_ref.new.m in
    let w = c.in_ok-word.word in
    record {
      leaves = c.in_ok-word.ensures.leaves;
      names = c.in_ok-word.ensures.leaves.names c.requires.names;
      room = tt;
      vector = tt;
      pops =
          λ v.
          let out = g.V.Vault.outside v in
          let sorted = all-sorted mid.objects out c.object.result w c.sort_of.result c.object.ensures (c.sort_of.ensures.value v) in
          no-vector out c.args.m.now mid w c.sort_of.result c.sound.ensures (c.in_ok-word.ensures.taken v) sorted c.in_default.not-Vector;
    }
