use Rattle.std.proofs.Common.{◌%◌, length}
use Rattle.pid_map.specs.Chains.{Belongs, steps}
use Rattle.pid_map.proofs.ChainLaws.{Rest}
use Rattle.pid_map.proofs.map.PidMap.find.Given as goal

abbrev pub invariant-loop-at : goal.invariant-loop-at
invariant-loop-at g l =
    (map : Belongs l.self.heads.items (g.L.Links.key l.links) (g.L.Links.next l.links) (g.L.Links.is_place l.links))
    → Rest l.self.heads.items (g.L.Links.key l.links) (g.L.Links.next l.links) (g.L.Links.is_place l.links) map (l.pid % length l.self.heads.items) l.pid l.at

abbrev pub decreases-loop-at : goal.decreases-loop-at
decreases-loop-at g l = steps (g.L.Links.next l.links) (g.L.Links.bound l.links) l.at
