use Rattle.std.proofs.Common.{ℕ, List, ◌++◌, ◌-◌, length}
use Rattle.ps_base.specs.TyView.{TyView}
use Rattle.ps_tree.specs.Phrase.{GroupAt, names_in}
use Rattle.ps_reader.specs.Grammar.{Go, MoreGroups}
use Rattle.ps_reader.specs.inside.Parsing.{GoesOn}
use Rattle.ps_reader.proofs.reader.Reader.names.Given as goal

abbrev pub invariant-loop-at : goal.invariant-loop-at
invariant-loop-at l = (room : ℕ) (ty : TyView) (before : List GroupAt) → GoesOn l.self room (Go (MoreGroups ty (before ++ names_in ty l.fn.names.items))) l.fn.at (Go (MoreGroups ty (before ++ names_in ty l.names.items))) l.at

abbrev pub decreases-loop-at : goal.decreases-loop-at
decreases-loop-at l = length l.self.symbols.now - l.at
