use Rattle.std.proofs.Common.{[], ◌-◌, length}
use Rattle.ps_tree.specs.Phrase.{groups_in}
use Rattle.ps_reader.specs.Grammar.{Go, Groups}
use Rattle.ps_reader.specs.inside.Parsing.{GoesOn}
use Rattle.ps_reader.proofs.reader.Reader.groups.Given as goal

abbrev pub invariant-loop-groups : goal.invariant-loop-groups
invariant-loop-groups l = GoesOn l.self l.room (Go (Groups [])) l.fn.at (Go (Groups (groups_in l.groups.items))) l.at

abbrev pub decreases-loop-groups : goal.decreases-loop-groups
decreases-loop-groups l = length l.self.symbols.now - l.at
