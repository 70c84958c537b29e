use Rattle.std.proofs.Common.{take, sym, ◌∙◌, ap, arith, length-take}
use Rattle.std.proofs.lemmas.List.{take_all}
use Rattle.memory_host.specs.Memory.{Memory, writes_of}
use Rattle.memory_host.proofs.Writes.{writes_in, writes_are, writes_few}
use Rattle.memory_host.proofs.memory_host.MemoryHost.writes.Goals as goal

pub overflow_add-count : goal.overflow_add-count
overflow_add-count c =
    let log = c.deref-call-items.result.now in
    let few = writes_few (take c.loop-call.call-index log) in
    let all = c.loop-call.invariant in
    let size = length-take c.loop-call.call-index log in
    let one = c.write_count-count.ensures.most in
    omega arith

pub returns : goal.returns
returns c =
    let log = c.deref-call-items.result.now in
    c.loop-call.invariant
    ∙ ap writes_in (take_all c.loop-call.call-index log c.loop-call-test.false)
    ∙ ap writes_in c.deref-call-items.ensures.value
    ∙ sym (writes_are c.self.inside.log.items c.self.inside.kept.items)
    ∙ ap (λ (m : Memory). writes_of m.events) c.self.view_is
