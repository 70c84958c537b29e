use Rattle.std.proofs.Common.{◌≡◌, ◌∙◌, ap, sym, length, Some, [], rules}
use Rattle.std.specs.Prelude.{if◌then◌else◌}
use Rattle.ps_tree.specs.Phrase.{groups_in}
use Rattle.ps_declared.specs.ps_scope.Content.{names_of}
use Rattle.ps_declared.specs.ps_typing.Fault.{Limit}
use Rattle.ps_declared.specs.ps_typing.Checking.{Refuses, with_params}
use Rattle.ps_declared.specs.inside.Views.{groups_of}
use Rattle.ps_declared.proofs.Steps.{exits, fails_as, is_fault}
use Rattle.ps_declared.proofs.Declaring.{few, many, count_is}
use Rattle.ps_checked.proofs.literals.open.Goals as goal

pub returns-then-len-gt-MOST : goal.returns-then-len-gt-MOST
returns-then-len-gt-MOST c =
    let groups = groups_in c.args.literal.params.now in
    let at : c.len.result ≡ length c.in_ok-params.params.items = search rules in
    let counted : c.len-count.result ≡ length c.in_ok-params.params.items = search rules in
    is_fault _ _ (Limit c.args.literal.line (length groups)) (ap (λ k. Some (Limit c.args.literal.line k)) (count_is c.in_ok-params.params.items _ _ c.in_ok-params.ensures counted))
    (ap (λ b. if b then Refuses (Limit c.args.literal.line (length groups)) else with_params (names_of c.args.scope.now) [] groups) (many c.in_ok-params.params.items _ _ c.in_ok-params.ensures at c.if-len-gt-MOST.true))

pub returns-in_err-places : goal.returns-in_err-places
returns-in_err-places c =
    let groups = groups_in c.args.literal.params.now in
    let at : c.len.result ≡ length c.in_ok-params.params.items = search rules in
    exits c.from_residual-in_err-places.result _ c.in_err-places.field-0.0 _ c.from_residual-in_err-places.ensures.1
    (fails_as _ _ _ (ap (λ b. if b then Refuses (Limit c.args.literal.line (length groups)) else with_params (names_of c.args.scope.now) [] groups) (few c.in_ok-params.params.items _ _ c.in_ok-params.ensures at c.if-len-gt-MOST.false)
    ∙ ap (with_params (names_of c.args.scope.now) []) (sym (ap groups_of c.as_slice.ensures.value ∙ c.in_ok-params.ensures))) c.in_err-places.ensures)

pub returns : goal.returns
returns c =
    let groups = groups_in c.args.literal.params.now in
    let at : c.len.result ≡ length c.in_ok-params.params.items = search rules in (
      c.in_ok-params.ensures,
      ap (λ b. if b then Refuses (Limit c.args.literal.line (length groups)) else with_params (names_of c.args.scope.now) [] groups) (few c.in_ok-params.params.items _ _ c.in_ok-params.ensures at c.if-len-gt-MOST.false)
          ∙ ap (with_params (names_of c.args.scope.now) []) (sym (ap groups_of c.as_slice.ensures.value ∙ c.in_ok-params.ensures))
          ∙ c.in_ok-places.ensures,
    )
