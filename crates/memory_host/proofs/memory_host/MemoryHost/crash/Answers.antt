use Rattle.std.proofs.Common.{List, ℕ, ◌∙◌, subst, reverse, length, ◌≤◌}
use Rattle.std.proofs.lemmas.Result.{IfOk-weaker}
use Rattle.memory_host.specs.Memory.{Memory, filled, past, outside_of}
use Rattle.memory_host.specs.MemoryView.{memory_of, events_of}
use Rattle.memory_host.proofs.MemoryMoments.{crash_image}
use Rattle.memory_host.proofs.DiskModel.{crash_longest}
use Rattle.memory_host.proofs.memory_host.MemoryHost.crash.Goals as goal

pub returns-clause-image : goal.returns-clause-image
returns-clause-image c =
    IfOk-weaker c.replay.result _ _
    (λ image is. subst (λ (m : Memory). (outside_of m).images c.args.moment image.items) c.self.view_is
    (crash_image (memory_of c.self.inside) c.args.moment c.args.filler image.items
    (is ∙ (λ k. filled c.args.filler (c.deref.ensures.value k) (past c.args.moment (events_of (reverse (c.deref-2.ensures.value k)) (c.deref-3.ensures.value k)))))))
    c.replay.ensures

pub returns-clause-longest : goal.returns-clause-longest
returns-clause-longest c =
    IfOk-weaker c.replay.result _ _
    (λ image is. subst (λ (m : Memory). (other : List ℕ) → (outside_of m).images c.args.moment other → length other ≤ length image.items) c.self.view_is
    (crash_longest (memory_of c.self.inside) c.args.moment c.args.filler image.items c.self.invariant.all_past c.self.invariant.all_fit
    (is ∙ (λ k. filled c.args.filler (c.deref.ensures.value k) (past c.args.moment (events_of (reverse (c.deref-2.ensures.value k)) (c.deref-3.ensures.value k)))))))
    c.replay.ensures
