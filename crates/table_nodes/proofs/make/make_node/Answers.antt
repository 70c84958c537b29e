use Rattle.std.proofs.Common.{ap, ◌∙◌, arith}
use Rattle.heap_places.proofs.of_swizzle.MadeLaws.{made-held, made-object}
use Rattle.table_nodes.proofs.MakeLaws.{node_made, node_makes, made_keeps}
use Rattle.table_nodes.proofs.BringLaws.{brings_made, brings_same}
use Rattle.table_nodes.proofs.make.make_node.Goals as goal

pub set_key-requires-clause-held : goal.set_key-requires-clause-held
set_key-requires-clause-held g c = made-held c.args.sw.now c.make.new.self c.in-Ok.at _ c.in-Ok.ensures.made

pub set_key-requires-clause-refs : goal.set_key-requires-clause-refs
set_key-requires-clause-refs g c = ap (λ o. o.header.refs) (made-object c.args.sw.now c.make.new.self c.in-Ok.at _ c.in-Ok.ensures.made)

pub set_key-requires-clause-nums : goal.set_key-requires-clause-nums
set_key-requires-clause-nums g c = ap (λ o. o.header.nums) (made-object c.args.sw.now c.make.new.self c.in-Ok.at _ c.in-Ok.ensures.made)

pub set_ref-requires-clause-held : goal.set_ref-requires-clause-held
set_ref-requires-clause-held g c = (c.set_key.ensures.stands c.in-Ok.at (made-held c.args.sw.now c.make.new.self c.in-Ok.at _ c.in-Ok.ensures.made)).held

pub set_ref-requires-clause-below : goal.set_ref-requires-clause-below
set_ref-requires-clause-below g c =
    let held = made-held c.args.sw.now c.make.new.self c.in-Ok.at _ c.in-Ok.ensures.made in
    let four = (c.set_key.ensures.stands c.in-Ok.at held).refs ∙ ap (λ o. o.header.refs) (made-object c.args.sw.now c.make.new.self c.in-Ok.at _ c.in-Ok.ensures.made) in
    omega (arith, four)

pub set_num-requires-clause-held : goal.set_num-requires-clause-held
set_num-requires-clause-held g c =
    let held = (c.set_key.ensures.stands c.in-Ok.at (made-held c.args.sw.now c.make.new.self c.in-Ok.at _ c.in-Ok.ensures.made)).held in
    (c.set_ref.ensures.stands c.in-Ok.at held).held

pub set_num-requires-clause-below : goal.set_num-requires-clause-below
set_num-requires-clause-below g c =
    let first = c.set_key.ensures.stands c.in-Ok.at (made-held c.args.sw.now c.make.new.self c.in-Ok.at _ c.in-Ok.ensures.made) in
    let three = (c.set_ref.ensures.stands c.in-Ok.at first.held).nums ∙ (first.nums ∙ ap (λ o. o.header.nums) (made-object c.args.sw.now c.make.new.self c.in-Ok.at _ c.in-Ok.ensures.made)) in
    omega (arith, three)

pub returns : goal.returns
returns g c = record {
  made = node_makes c.args.sw.now c.set_num.new.self (g.V.Vault.outside c.args.vault.now) c.in-Ok.at c.args.value c.args.key c.sound.ensures c.sound-2.ensures c.requires.key c.requires.value
      (node_made c.args.sw.now c.make.new.self c.set_key.new.sw c.set_ref.new.self c.set_num.new.self c.in-Ok.at c.args.value c.args.key c.in-Ok.ensures.made c.set_key.ensures.written c.set_ref.ensures.written c.set_num.ensures.written);
  keeps = made_keeps c.args.sw.now c.set_num.new.self c.in-Ok.at _ c.sound.ensures
      (node_made c.args.sw.now c.make.new.self c.set_key.new.sw c.set_ref.new.self c.set_num.new.self c.in-Ok.at c.args.value c.args.key c.in-Ok.ensures.made c.set_key.ensures.written c.set_ref.ensures.written c.set_num.ensures.written);
  brings = brings_made c.args.sw.now c.set_num.new.self c.in-Ok.at _ 1 (omega arith) (node_made c.args.sw.now c.make.new.self c.set_key.new.sw c.set_ref.new.self c.set_num.new.self c.in-Ok.at c.args.value c.args.key c.in-Ok.ensures.made c.set_key.ensures.written c.set_ref.ensures.written c.set_num.ensures.written);
}

pub returns-in-Err-clause-brings : goal.returns-in-Err-clause-brings
returns-in-Err-clause-brings g c = brings_same _ _ 1 c.in-Err.ensures.made.stays
