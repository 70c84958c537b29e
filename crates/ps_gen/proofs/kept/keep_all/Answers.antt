use Rattle.std.proofs.Common.{◌+◌, true, false, drop, ap, sym, subst, ◌∙◌, arith}
use Rattle.std.proofs.lemmas.List.{drop_all}
use Rattle.ps_program.specs.NodeView.{params_of, param_of}
use Rattle.ps_emitter.specs.ps_typing.Locals.{taken_by_params, one_on}
use Rattle.ps_emitter.specs.Pieces.{state_of, Left}
use Rattle.ps_gen.specs.inside.Clauses.{keeping}
use Rattle.ps_emitter.proofs.Steps.{left_more, left_none}
use Rattle.ps_gen.proofs.Making.{more_kept, none_kept, params_from}
use Rattle.ps_gen.proofs.kept.keep_all.Goals as goal

pub loop-param-preserved : goal.loop-param-preserved
loop-param-preserved c =
    let params = c.args.params.now in
    let i = c.loop-param.param-index in
    let here = c.loop-param.invariant in
    let cut = params_from params i c.param-item.result c.param-item.result c.param-item.is c.loop-param-test.true in
    let nums_is = c.in_ok-nums.ensures ∙ ap (λ n. c.loop-param.nums + n) c.one_on.ensures in
    let refs_is = c.in_ok-refs.ensures ∙ ap (λ n. c.loop-param.refs + n) c.one_on-in-loop-param.ensures in
    let nums_cut = ap (taken_by_params true) cut in
    let refs_cut = ap (taken_by_params false) cut in
    record {
      left = subst (λ n. Left (keeping (params_of (drop (i + 1) params)) n c.in_ok-refs.refs) (keeping (params_of params) 0 0) (state_of c.args.emitter.now) (state_of c.keep.new.emitter)) (sym nums_is)
          (subst (λ r. Left (keeping (params_of (drop (i + 1) params)) (c.loop-param.nums + one_on true (param_of c.param-item.result).ty) r) (keeping (params_of params) 0 0) (state_of c.args.emitter.now) (state_of c.keep.new.emitter)) (sym refs_is)
          (left_more (subst (λ ps. Left (keeping ps c.loop-param.nums c.loop-param.refs) (keeping (params_of params) 0 0) (state_of c.args.emitter.now) (state_of c.loop-param.emitter)) cut here.left)
          (more_kept (param_of c.param-item.result) (params_of (drop (i + 1) params)) c.loop-param.nums c.loop-param.refs) c.in_ok-keep.ensures));
      nums = omega (arith, here.nums, nums_is, nums_cut);
      refs = omega (arith, here.refs, refs_is, refs_cut);
    }

pub returns-clause-put : goal.returns-clause-put
returns-clause-put c =
    let params = c.args.params.now in
    let end = ap params_of (drop_all c.loop-param.param-index params c.loop-param-test.false) in
    left_none (subst (λ ps. Left (keeping ps c.loop-param.nums c.loop-param.refs) (keeping (params_of params) 0 0) (state_of c.args.emitter.now) (state_of c.loop-param.emitter)) end c.loop-param.invariant.left)
    (none_kept c.loop-param.nums c.loop-param.refs)
