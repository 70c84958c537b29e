use Rattle.std.proofs.Common.{arith}
use Rattle.heap_places.proofs.FillingLaws.{roomy-held}
use Rattle.closures.proofs.ClosureLaws.{blank-slots, closure-made}
use Rattle.closures.proofs.closure.make_closure.Goals as goal

pub set_ref-requires-clause-held : goal.set_ref-requires-clause-held
set_ref-requires-clause-held c = (roomy-held c.args.sw.now c.make.new.self c.in-Ok.closure _ c.in-Ok.ensures.made).0

pub set_ref-requires-clause-below : goal.set_ref-requires-clause-below
set_ref-requires-clause-below c = omega (arith, blank-slots c.args.sw.now c.make.new.self c.in-Ok.closure c.in-Ok.ensures.made)

pub set_ref-requires-2-clause-held : goal.set_ref-requires-2-clause-held
set_ref-requires-2-clause-held c =
    (c.set_ref.ensures.stands c.in-Ok.closure (roomy-held c.args.sw.now c.make.new.self c.in-Ok.closure _ c.in-Ok.ensures.made).0).held

pub set_ref-requires-2-clause-below : goal.set_ref-requires-2-clause-below
set_ref-requires-2-clause-below c =
    let held = (roomy-held c.args.sw.now c.make.new.self c.in-Ok.closure _ c.in-Ok.ensures.made).0 in
    omega (
      arith,
      (c.set_ref.ensures.stands c.in-Ok.closure held).refs,
      blank-slots c.args.sw.now c.make.new.self c.in-Ok.closure c.in-Ok.ensures.made,
    )

pub returns-clause-made : goal.returns-clause-made
returns-clause-made c =
    closure-made c.args.sw.now c.make.new.self c.set_ref.new.self c.set_ref-2.new.self c.in-Ok.closure c.args.code c.args.scope c.in-Ok.ensures.made
    c.set_ref.ensures.written c.set_ref-2.ensures.written
