use Rattle.std.proofs.Common.{inr, arith, ap}
use Rattle.proc_values.specs.swizzle.Objects.{Object}
use Rattle.proc_values.proofs.of_swizzle.MadeLaws.{made-held, made-object}
use Rattle.bench_heap.proofs.code.turn.Goals as goal

pub write_text-requires-clause-held : goal.write_text-requires-clause-held
write_text-requires-clause-held c = made-held _ _ _ _ c.in-Ok.ensures.made

pub write_text-requires-clause-kind : goal.write_text-requires-clause-kind
write_text-requires-clause-kind c = inr (ap (λ (o : Object). o.header.kind) (made-object _ _ _ _ c.in-Ok.ensures.made))

pub write_text-requires-clause-within : goal.write_text-requires-clause-within
write_text-requires-clause-within c =
    let bytes = ap (λ (o : Object). o.header.bytes) (made-object _ _ _ _ c.in-Ok.ensures.made) in
    omega (arith, bytes)

pub returns-in-Ok-clause-held : goal.returns-in-Ok-clause-held
returns-in-Ok-clause-held c = (c.write_text.ensures.stands c.in-Ok.code (made-held _ _ _ _ c.in-Ok.ensures.made)).held
