-- what was found and what is left make the whole
use Rattle.std.proofs.Common.{◌≡◌, ◌++◌, drop}
use Rattle.ps_program.specs.NodeView.{nodes_in}
use Rattle.ps_typing.specs.Placing.{declared}
use Rattle.ps_placer.specs.inside.Marks.{marks_of, is_kept}
use Rattle.ps_placer.specs.inside.Standing.{chosen}
use Rattle.ps_placer.proofs.placer.Placer.kept_items.Given as goal

abbrev pub invariant-loop-item : goal.invariant-loop-item
invariant-loop-item l = l.kept.items ++ chosen (is_kept (marks_of l.self.survey)) (declared (nodes_in (drop l.item-index l.items))) ≡ chosen (is_kept (marks_of l.self.survey)) (declared (nodes_in l.items))
