use Rattle.std.proofs.Common.{◌∙◌, ◌++◌, ap, sym, take, List}
use Rattle.ps_tree.specs.Phrase.{GroupAt, group_of, groups_in}
use Rattle.ps_declared.proofs.Declaring.{group_step}
use Rattle.ps_declared.proofs.declarators.declarators.Goals as goal

pub loop-group-preserved : goal.loop-group-preserved
loop-group-preserved c =
    let before = groups_in (take c.loop-group.group-index c.args.groups.now) in
    c.in_ok-put_group.ensures.put
    ∙ ap (λ (gs : List GroupAt). gs ++ group_of c.group-item.result) c.loop-group.invariant
    ∙ ap (λ g. before ++ group_of g) c.group-item.is
    ∙ sym (group_step c.args.groups.now c.loop-group.group-index _ c.loop-group-test.true)
