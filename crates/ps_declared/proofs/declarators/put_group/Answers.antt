use Rattle.std.proofs.Common.{◌∙◌, ◌++◌, ap, sym, take}
use Rattle.ps_base.specs.TyView.{ty_view}
use Rattle.ps_tree.specs.Phrase.{names_in, of_type}
use Rattle.ps_declared.specs.inside.Views.{groups_of}
use Rattle.ps_declared.proofs.Declaring.{declarator_step, name_step}
use Rattle.ps_declared.proofs.declarators.put_group.Goals as goal

pub loop-name-preserved : goal.loop-name-preserved
loop-name-preserved c =
    let names = c.as_slice-name-items.result.now in
    let ty = ty_view c.args.group.now.ty in
    declarator_step c.loop-name.made.items _ _ (groups_of c.push.new.self.items) (names_in ty (take c.loop-name.name-index names)) _ c.loop-name.invariant c.in_ok-push-2.ensures.items (ap (of_type ty) c.name-item.is)
    ∙ ap (λ gs. groups_of c.push.new.self.items ++ gs) (sym (name_step ty names c.loop-name.name-index _ c.loop-name-test.true))
