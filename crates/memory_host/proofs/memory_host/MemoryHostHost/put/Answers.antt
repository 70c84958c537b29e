use Rattle.std.proofs.Common.{◌≡◌, ◌++◌}
use Rattle.std.proofs.lemmas.List.{take-append-drop}
use Rattle.memory_host.proofs.MemoryMoments.{cuts}
use Rattle.memory_host.proofs.memory_host.MemoryHostHost.put.Goals as goal

pub returns-clause-cut : goal.returns-clause-cut
returns-clause-cut c =
    let whole : c.split_at.result.0.now ++ c.split_at.result.1.now ≡ c.args.from.now = rw (c.split_at.ensures.front, c.split_at.ensures.back) (take-append-drop _ c.args.from.now) in
    cuts c.args.self.now c.call.new.self c.split_at.result.0.now c.split_at.result.1.now c.args.from.now whole c.call.ensures.told
