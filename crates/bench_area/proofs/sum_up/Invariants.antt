use Rattle.std.proofs.Common.{◌≡◌}
use Rattle.obj_area.specs.Area.{top_of}
use Rattle.bench_area.proofs.sum_up.Given as goal

-- the area keeps its words
abbrev pub invariant-loop-i : goal.invariant-loop-i
invariant-loop-i l = top_of l.area ≡ 4097
