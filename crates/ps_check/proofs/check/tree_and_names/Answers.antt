use Rattle.std.proofs.Common.{◌≡◌, ◌∙◌, ap, sym, subst}
use Rattle.ps_base.specs.TyView.{Void, ty_view}
use Rattle.ps_program.specs.NodeView.{node_of}
use Rattle.ps_tree.specs.Phrase.{phrase_of}
use Rattle.ps_checker.specs.ps_scope.Content.{names_of}
use Rattle.ps_slots.specs.ps_typing.Checking.{Gives, check, wants}
use Rattle.ps_slots.specs.ps_typing.Program.{end_line}
use Rattle.ps_checker.specs.ps_declared.inside.Answers.{IsFault}
use Rattle.ps_checker.proofs.of_ps_declared.Steps.{exits, fails_test}
use Rattle.ps_slots.specs.inside.Sizes.{size}
use Rattle.ps_check.proofs.Taking.{same_program}
use Rattle.ps_check.proofs.Verdicts.{same_tree}
use Rattle.ps_check.proofs.check.tree_and_names.Goals as goal

pub returns-in_err-clause : goal.returns-in_err-clause
returns-in_err-clause c =
    let same = same_program c.args.rough.line (phrase_of c.args.rough) (phrase_of c.taken_items-items.new.program) c.taken_items-items.result c.taken_items-items.ensures.taken c.taken_items-items.ensures.left in
    let told = subst (λ p. IsFault (check (names_of c.in_ok-scope.scope) p) c.in_err-clause.field-0.0) same c.in_err-clause.ensures in
    exits c.from_residual-in_err-clause.result _ c.in_err-clause.field-0.0 _ c.from_residual-in_err-clause.ensures.1
    (fails_test _ _ _ _ _ (subst (λ n. IsFault (check n (phrase_of c.args.rough)) c.in_err-clause.field-0.0) c.in_ok-scope.ensures told))

pub returns : goal.returns
returns c =
    let names = names_of c.program.new.checker.scope in
    let program = phrase_of c.args.rough in
    let same = same_program c.args.rough.line (phrase_of c.args.rough) (phrase_of c.taken_items-items.new.program) c.taken_items-items.result c.taken_items-items.ensures.taken c.taken_items-items.ensures.left in
    let checked = subst (λ n. check n program ≡ Gives (node_of c.in_ok-clause.field-0.clause.tree) (ty_view c.in_ok-clause.field-0.clause.ty) names) c.in_ok-scope.ensures (subst (λ p. check (names_of c.in_ok-scope.scope) p ≡ Gives (node_of c.in_ok-clause.field-0.clause.tree) (ty_view c.in_ok-clause.field-0.clause.ty) names) same c.in_ok-clause.ensures.0) in
    let void = c.in_ok-tree.ensures c.program.new.checker.scope in (
      names,
      ap (λ o. wants Void (end_line program) o) checked ∙ ap (λ line. wants Void line (Gives (node_of c.in_ok-clause.field-0.clause.tree) (ty_view c.in_ok-clause.field-0.clause.ty) names)) (sym c.end_line-end.ensures) ∙ void,
      ap (λ s. (names_of s).all) (sym c.into_scope.ensures) ∙ sym c.into_locals-names.ensures,
      c.in_ok-clause.ensures.1 ∙ ap size (same_tree _ _ _ _ _ _ void),
    )
