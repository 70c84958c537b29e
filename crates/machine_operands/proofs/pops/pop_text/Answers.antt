use Rattle.machine_operands.proofs.Popping.{all-sorted, text-answer, no-text}
use Rattle.machine_operands.proofs.pops.pop_text.Goals as goal

pub returns-in-Text-clause-pops : goal.returns-in-Text-clause-pops
returns-in-Text-clause-pops g c =
    let mid = c.pop_ref.new.m in
    let w = c.in_ok-word.word in
    λ v.
    let out = g.V.Vault.outside v in
    let sorted = all-sorted mid.objects out c.object.result w c.sort_of.result c.object.ensures (c.sort_of.ensures.value v) in
    text-answer out c.args.m.now mid w c.sort_of.result (c.in_ok-word.ensures.taken v) sorted c.object.result c.object-in-Text.result c.object.ensures c.object-in-Text.ensures c.sort_of.ensures.kind c.in-Text.is

pub returns-in_default : goal.returns-in_default
returns-in_default g c =
    let mid = c.pop_ref.new.m in
    let w = c.in_ok-word.word in
    record {
      leaves = c.in_ok-word.ensures.leaves;
      names = c.in_ok-word.ensures.leaves.names c.requires.names;
      room = tt;
      text = tt;
      pops =
          λ v.
          let out = g.V.Vault.outside v in
          let sorted = all-sorted mid.objects out c.object.result w c.sort_of.result c.object.ensures (c.sort_of.ensures.value v) in
          no-text out c.args.m.now mid w c.sort_of.result (c.in_ok-word.ensures.taken v) sorted c.in_default.not-Text;
    }
