use Rattle.std.proofs.Common.{◌≡◌, ℕ, ◌+◌, ◌-◌, ◌≤◌, length, get_or, take, drop, sym, ◌∙◌, ap, arith}
use Rattle.memory_host.specs.declared.memory_host.Act.TheVariants.{Looked}
use Rattle.memory_host.specs.declared.memory_host.Call.{Call}
use Rattle.memory_host.proofs.MemoryMoments.{image_more, contents_more, lens_more, lens_within}
use Rattle.memory_host.proofs.memory_host.replay.Goals as goal

abbrev none : Call
none = record { number = 0; act = Looked; len = 0 }

pub loop-call-preserved : goal.loop-call-preserved
loop-call-preserved c =
    let inv = c.loop-call.invariant in
    let bound = lens_within c.args.log.now c.loop-call.call-index none c.loop-call-test.true in
    let within : c.loop-call.from + (get_or c.args.log.now c.loop-call.call-index none).len ≤ length c.args.kept.now = omega (arith, bound, inv.from_is, c.requires) in
    let size : c.loop-call.from + (get_or c.args.log.now c.loop-call.call-index none).len - c.loop-call.from ≡ (get_or c.args.log.now c.loop-call.call-index none).len = omega arith in
    let bytes_are = ap (λ (n : ℕ). take n (drop c.loop-call.from c.args.kept.now)) size in
    record {
      from_is = ap (λ (n : ℕ). n + (get_or c.args.log.now c.loop-call.call-index none).len) inv.from_is ∙ sym (lens_more c.args.log.now c.loop-call.call-index none c.loop-call-test.true);
      image_is = image_more c.args.filler c.args.first.now c.args.moment c.args.log.now c.args.kept.now c.loop-call.call-index c.loop-call.from none c.loop-call-test.true within _ bytes_are c.loop-call.image.items c.loop-call.contents.items inv.image_is inv.contents_are c.replay_call.new.image.items c.in_ok-replay_call.ensures.image;
      contents_are = contents_more c.args.filler c.args.first.now c.args.moment c.args.log.now c.args.kept.now c.loop-call.call-index c.loop-call.from none c.loop-call-test.true within _ bytes_are c.loop-call.image.items c.loop-call.contents.items inv.image_is inv.contents_are c.replay_call.new.contents.items c.in_ok-replay_call.ensures.contents;
    }
