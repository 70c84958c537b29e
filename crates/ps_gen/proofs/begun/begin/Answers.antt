use Rattle.std.proofs.Common.{◌∙◌, ap, subst, true, false, []}
use Rattle.ps_base.specs.CodeUnit.{text, constant_view}
use Rattle.ps_base.specs.TyView.{ty_view}
use Rattle.ps_base.specs.declared.code_unit.Constant.{Text}
use Rattle.ps_program.specs.NodeView.{params_of}
use Rattle.ps_emitter.specs.ps_typing.Locals.{taken_by_params}
use Rattle.ps_emitter.specs.Pieces.{State, state_of, constant, Puts}
use Rattle.ps_gen.specs.Units.{type_constant}
use Rattle.ps_gen.specs.inside.Clauses.{keeping}
use Rattle.ps_gen.proofs.Making.{entering_is, all_if_ok}
use Rattle.ps_gen.proofs.begun.begin.Goals as goal

pub returns : goal.returns
unfolding constant_view
returns c = λ is_first.
    let body = c.args.body.now in
    let params = c.as_slice-params.ensures in
    let start : State = record { code = []; constants = []; nums = 0; refs = 0 } in
    let typed = state_of c.add.new.self in
    all_if_ok c.keep_all.result (λ counts put nums refs. record {
      typed = typed;
      scoped = state_of c.enter.new.emitter;
      type = subst (λ x. Puts (constant x) start typed) (ap text c.in_ok-of.ensures ∙ ap (λ ps. type_constant (params_of ps) (ty_view body.gives)) params)
          (subst (λ s. Puts (constant (constant_view (Text c.in_ok-of.of))) s typed) is_first c.in_ok-add.ensures);
      enter = entering_is c.text_in.ensures c.in_ok-enter.ensures;
      keep = subst (λ ps. Puts (keeping (params_of ps) 0 0) (state_of c.enter.new.emitter) (state_of c.keep_all.new.emitter)) params put;
      nums = nums ∙ ap (λ ps. taken_by_params true (params_of ps)) params;
      refs = refs ∙ ap (λ ps. taken_by_params false (params_of ps)) params;
    }) c.keep_all.ensures.put c.keep_all.ensures.nums c.keep_all.ensures.refs
