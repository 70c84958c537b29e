use Rattle.std.proofs.Common.{◌≡◌, ◌∙◌, ap, sym, arith}
use Rattle.obj_layout.specs.declared.header.Header.{Header}
use Rattle.swizzle.specs.Heap.{header_at, object_at}
use Rattle.swizzle.proofs.KeptLaws.{held_is}
use Rattle.swizzle.proofs.ImageLaws.{pid-lt}
use Rattle.swizzle.proofs.swizzle.Swizzle.far_word.Goals as goal

pub word_of-requires-in-Local : goal.word_of-requires-in-Local
word_of-requires-in-Local c =
    let now = c.args.self.now in
    let ref = sym c.peek.ensures.value ∙ c.in-Local.is in
    let held = c.sound.ensures.inside c.args.object (object_at now c.args.object) (held_is now c.args.object c.requires.held) c.args.slot c.in-Local.to ref in
    let pid : c.header.result.pid ≡ (header_at now c.in-Local.to).pid = ap (λ (h : Header). h.pid) c.header.ensures.value in
    (omega (arith, c.requires.pids c.args.slot c.in-Local.to ref), omega (arith, pid-lt now c.in-Local.to c.sound.ensures held))
