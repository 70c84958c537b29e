use Rattle.structure_rows.proofs.RowsLaid.{LaysRefs}
use Rattle.structure_rows.proofs.rows.lay_refs.Given as goal

abbrev pub invariant-loop-word : goal.invariant-loop-word
invariant-loop-word l = LaysRefs l.fn.sw l.sw l.into l.slot l.word-index l.refs
