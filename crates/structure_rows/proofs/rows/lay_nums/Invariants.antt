use Rattle.structure_rows.proofs.RowsLaid.{LaysNums}
use Rattle.structure_rows.proofs.rows.lay_nums.Given as goal

abbrev pub invariant-loop-z : goal.invariant-loop-z
invariant-loop-z l = LaysNums l.fn.sw l.sw l.into l.refs l.index l.rest.bits l.z-index l.fn.flags.bits l.nums
