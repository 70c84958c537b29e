use Rattle.std.proofs.Common.{length, ap, ◌∙◌}
use Rattle.page_map.proofs.PageLaws.{length_where}
use Rattle.page_map.proofs.page_map.release_unstaged.Goals as goal

pub returns-in_default-clause-long : goal.returns-in_default-clause-long
returns-in_default-clause-long c = ap length c.hold.ensures ∙ length_where _ _ ∙ ap length c.release_all.ensures ∙ length_where _ _

pub returns-clause-long : goal.returns-clause-long
returns-clause-long c = ap length c.release_unmarked.ensures ∙ length_where _ _
