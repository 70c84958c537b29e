use Rattle.std.proofs.Common.{true, false, sym, ap, ◌∙◌}
use Rattle.ps_tree.specs.Phrase.{groups_in}
use Rattle.ps_reader.specs.Grammar.{Give, all_groups}
use Rattle.ps_reader.proofs.Steps.{on, same, tail}
use Rattle.ps_reader.proofs.Rows.{parameters_stand}
use Rattle.ps_reader.proofs.reader.Reader.parameters.Goals as goal

pub returns : goal.returns
returns c = on (parameters_stand c.kind_at.ensures false (sym c.if-begins_type.false ∙ c.begins_type.ensures)) (same (ap (λ groups. Give (all_groups (groups_in groups))) (sym c.new.ensures.items)))

pub returns-then-begins_type : goal.returns-then-begins_type
returns-then-begins_type c = tail _ _ _ c.groups.ensures (parameters_stand c.kind_at.ensures true (sym c.if-begins_type.true ∙ c.begins_type.ensures))
