use Rattle.std.proofs.Common.{ℕ, subst}
use Rattle.text_forms.specs.inside.Reading.{BeginsType, BeginsParameters, BeginsResult}
use Rattle.text_forms.proofs.Reading.{same-steps, only-by, leaves-by, leaves-none, type-basic, no-type-here, depth-less, depth-zero, none-same, first-same}
use Rattle.text_forms.proofs.Reading.{further-same, further-untyped, last-same, result-nothing, result-arrow, result-untyped, result-same}
use Rattle.text_forms.proofs.strict.+reading.Goals as goal

pub behind_type-returns-in-Some : goal.behind_type-returns-in-Some
behind_type-returns-in-Some t c = only-by c.in-Some.left.now (c.behind_stars-base.ensures.same c.args.depth)
    (type-basic c.args.depth c.behind_stars-base.result.now c.in-Some.left.now c.in-Some.ensures)

pub behind_type-returns-in_err-inside : goal.behind_type-returns-in_err-inside
behind_type-returns-in_err-inside t c =
    leaves-none (BeginsType c.args.depth c.args.rest.now) c.from_residual.result c.from_residual.ensures (λ rest b.
    no-type-here c.args.depth c.behind_stars-base.result.now c.behind_stars-base.ensures.no_more c.in_default.ensures c.in_err-inside.ensures rest
    ((c.behind_stars-base.ensures.same c.args.depth).there rest b))

pub behind_type-returns-then-depth-eq0 : goal.behind_type-returns-then-depth-eq0
behind_type-returns-then-depth-eq0 t c rest b =
    depth-zero c.behind_stars-base.result.now c.in_ok-inside.inside.now c.in_ok-inside.ensures.left.spelled rest
    (subst (λ (n : ℕ). BeginsType n c.behind_stars-base.result.now rest) c.if-depth-eq0.true ((c.behind_stars-base.ensures.same c.args.depth).there rest b))

pub behind_type-returns : goal.behind_type-returns
behind_type-returns t c =
    leaves-by c.behind_parameters.result
    (same-steps (c.behind_stars-base.ensures.same c.args.depth)
    (depth-less c.args.depth c.if-depth-eq0.false c.behind_stars-base.result.now c.in_ok-inside.inside.now c.in_ok-inside.ensures.left.spelled))
    c.behind_parameters.ensures

pub behind_parameters-returns-in_default : goal.behind_parameters-returns-in_default
behind_parameters-returns-in_default t c = leaves-by c.behind_result.result (none-same c.args.depth c.args.rest.now c.in_default.ensures)
    c.behind_result.ensures

pub behind_parameters-loop-next-init : goal.behind_parameters-loop-next-init
behind_parameters-loop-next-init t c = first-same c.args.depth c.args.rest.now c.in-Some.first.now c.in-Some.ensures

pub behind_parameters-returns-in_err-left : goal.behind_parameters-returns-in_err-left
behind_parameters-returns-in_err-left t c =
    leaves-none (BeginsParameters c.args.depth c.args.rest.now) c.from_residual.result c.from_residual.ensures (λ rest b.
    further-untyped c.args.depth c.loop-next.left.now c.in-Some-behind_word.next.now c.in-Some-behind_word.ensures.left.spelled c.in_err-left.ensures rest
    (c.loop-next.invariant.there rest b))

pub behind_parameters-loop-next-preserved : goal.behind_parameters-loop-next-preserved
behind_parameters-loop-next-preserved t c =
    same-steps c.loop-next.invariant (further-same c.args.depth c.loop-next.left.now c.in-Some-behind_word.next.now c.in_ok-left.left.now
    c.in-Some-behind_word.ensures.left.spelled c.in_ok-left.ensures)

pub behind_parameters-returns : goal.behind_parameters-returns
behind_parameters-returns t c =
    leaves-by c.behind_result-2.result (same-steps c.loop-next.invariant (last-same c.args.depth c.loop-next.left.now c.in_default-behind_word.ensures))
    c.behind_result-2.ensures

pub behind_result-returns-in-Some : goal.behind_result-returns-in-Some
behind_result-returns-in-Some t c = result-nothing c.args.depth c.args.rest.now c.in-Some.left.now c.in-Some.ensures

pub behind_result-returns-in_err-gives : goal.behind_result-returns-in_err-gives
behind_result-returns-in_err-gives t c =
    leaves-none (BeginsResult c.args.depth c.args.rest.now) c.from_residual.result c.from_residual.ensures
    (result-arrow c.args.depth c.args.rest.now c.in_default.ensures c.in_err-gives.ensures)

pub behind_result-returns-in_err-left : goal.behind_result-returns-in_err-left
behind_result-returns-in_err-left t c =
    leaves-none (BeginsResult c.args.depth c.args.rest.now) c.from_residual-in_err-left.result c.from_residual-in_err-left.ensures
    (result-untyped c.args.depth c.args.rest.now c.in_ok-gives.gives.now c.in_default.ensures c.in_ok-gives.ensures.left.spelled c.in_err-left.ensures)

pub behind_result-returns : goal.behind_result-returns
behind_result-returns t c =
    leaves-by c.behind_word-3.result
    (result-same c.args.depth c.args.rest.now c.in_ok-gives.gives.now c.in_ok-left.left.now c.in_default.ensures c.in_ok-gives.ensures.left.spelled
    c.in_ok-left.ensures)
    c.behind_word-3.ensures
