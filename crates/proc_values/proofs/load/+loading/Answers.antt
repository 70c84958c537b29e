use Rattle.std.proofs.Common.{rules, ◌≡◌, ℕ, List, ap, ◌∙◌, subst}
use Rattle.ps_base.specs.CodeUnit.{constant_view, constants_view, unit_view}
use Rattle.ps_base.specs.List.{items_of}
use Rattle.ps_base.specs.declared.code_unit.Constant.{Constant}
use Rattle.heap_texts.specs.swizzle.Heap.{top_of}
use Rattle.proc_values.specs.Units.{Loads, constants_objects, constant_words, unit_words, IsCut, with_all}
use Rattle.proc_values.specs.inside.Loading.{LoadsConstants}
use Rattle.proc_values.proofs.UnitLaws.{view_unit, view_words, words_literal, words_at}
use Rattle.proc_values.proofs.LoadLaws.{sofar-more, sofar-cut, sofar-ended, exits, unit-cut, unit-loads, constant_text, constant_unit}
use Rattle.proc_values.proofs.FitLaws.{fit_next, fit_ended, fit_text, fit_literal, fit_unit}
use Rattle.proc_values.proofs.LoadedLaws.{loads-held}
use Rattle.proc_values.proofs.StayLaws.{loads-stands}
use Rattle.proc_values.proofs.load.+loading.Goals as goal

pub load_constant-load_unit-requires : goal.load_constant-load_unit-requires
load_constant-load_unit-requires t c =
    let is = view_unit c.args.constant.now c.in-Unit.unit c.deref.result.now c.in-Unit.is c.deref.ensures in
    let same : constant_words (constant_view c.args.constant.now) ≡ unit_words (unit_view c.deref.result.now) = ap constant_words is
    ∙ words_literal (unit_view c.deref.result.now) in
    search (rules, same)

pub load_constant-returns-in-Text-clause-loads : goal.load_constant-returns-in-Text-clause-loads
load_constant-returns-in-Text-clause-loads t c =
    constant_text c.args.sw.now c.load_text.new.sw c.args.constant.now c.in-Text.bytes c.as_slice.result.now c.load_text.result c.in-Text.is c.as_slice.ensures
    c.load_text.ensures.made

pub load_constant-returns-in-Unit-clause-loads : goal.load_constant-returns-in-Unit-clause-loads
load_constant-returns-in-Unit-clause-loads t c =
    let is = view_unit c.args.constant.now c.in-Unit.unit c.deref.result.now c.in-Unit.is c.deref.ensures in
    constant_unit c.args.sw.now c.load_unit.new.sw c.args.constant.now c.deref.result.now c.load_unit.result is c.load_unit.ensures.loads

pub load_constant-returns-in-Text-clause-fit : goal.load_constant-returns-in-Text-clause-fit
load_constant-returns-in-Text-clause-fit t c = fit_text c.args.constant.now c.in-Text.bytes c.as_slice.result.now c.load_text.result c.in-Text.is
    c.as_slice.ensures c.load_text.ensures.fit

pub load_constant-returns-in-Unit-clause-fit : goal.load_constant-returns-in-Unit-clause-fit
load_constant-returns-in-Unit-clause-fit t c =
    let is = view_unit c.args.constant.now c.in-Unit.unit c.deref.result.now c.in-Unit.is c.deref.ensures in
    fit_literal c.args.constant.now c.deref.result.now c.load_unit.result is c.load_unit.ensures.fit

pub load_constants-load_constant-requires : goal.load_constants-load_constant-requires
load_constants-load_constant-requires t c =
    let few = words_at c.args.constants.now c.loop-constant.constant-index c.constant-item.result _ c.constant-item.is c.loop-constant-test.true in
    search (rules, few)

pub load_constants-returns-in_err-load_constant-clause-loads : goal.load_constants-returns-in_err-load_constant-clause-loads
load_constants-returns-in_err-load_constant-clause-loads t c =
    let cut = sofar-cut c.args.sw.now c.loop-constant.sw c.load_constant.new.sw _ c.args.constants.now c.loop-constant.constant-index c.constant-item.result _
    _ c.constant-item.is c.loop-constant-test.true c.loop-constant.invariant.so_far c.in_err-load_constant.ensures.loads in
    exits c.from_residual.result (LoadsConstants c.args.sw.now c.load_constant.new.sw (constants_view c.args.constants.now)) _ c.from_residual.ensures.1 cut

pub load_constants-loop-constant-preserved : goal.load_constants-loop-constant-preserved
load_constants-loop-constant-preserved t c = record {
  so_far = sofar-more c.args.sw.now c.loop-constant.sw c.load_constant.new.sw _ c.args.constants.now c.loop-constant.constant-index c.constant-item.result _
      c.constant-item.is c.loop-constant-test.true c.loop-constant.invariant.so_far (c.in_ok-load_constant.ensures.loads.0);
  fit = fit_next c.args.constants.now c.loop-constant.constant-index c.constant-item.result _ c.constant-item.is c.loop-constant-test.true
      c.loop-constant.invariant.fit c.in_ok-load_constant.ensures.fit;
}

pub load_constants-returns-clause-loads : goal.load_constants-returns-clause-loads
load_constants-returns-clause-loads t c = sofar-ended c.args.sw.now c.loop-constant.sw _ c.args.constants.now c.loop-constant.constant-index _
    c.loop-constant-test.false c.loop-constant.invariant.so_far

pub load_constants-returns-clause-fit : goal.load_constants-returns-clause-fit
load_constants-returns-clause-fit t c = fit_ended c.args.constants.now c.loop-constant.constant-index c.loop-constant-test.false c.loop-constant.invariant.fit

pub load_unit-load_constants-requires : goal.load_unit-load_constants-requires
load_unit-load_constants-requires t c =
    let words = view_words c.args.unit.now c.as_slice.result.now c.as_slice.ensures in
    search (rules, words)

pub load_unit-returns-in_err-load_constants-clause-loads : goal.load_unit-returns-in_err-load_constants-clause-loads
load_unit-returns-in_err-load_constants-clause-loads t c =
    let cut = subst (λ (xs : List Constant). IsCut c.args.sw.now c.load_constants.new.sw
    (constants_objects (top_of c.args.sw.now) (constants_view xs)) c.in_err-load_constants.field-0.0) c.as_slice.ensures
    c.in_err-load_constants.ensures.loads in
    exits c.from_residual.result (Loads c.args.sw.now c.load_constants.new.sw (unit_view c.args.unit.now)) _ c.from_residual.ensures.1
    (unit-cut c.args.sw.now c.load_constants.new.sw _ _ _ _ cut)

loaded : (t : ℕ) (c : goal.load_unit-After-load_code t) → c.load_constants.new.sw ≡ with_all c.args.sw.now
    (constants_objects (top_of c.args.sw.now) (constants_view (items_of c.args.unit.now.constants)))
loaded t c = subst (λ (xs : List Constant). c.load_constants.new.sw ≡ with_all c.args.sw.now (constants_objects (top_of c.args.sw.now) (constants_view xs)))
    c.as_slice.ensures c.in_ok-load_constants.ensures.loads

pub load_unit-returns-clause-loads : goal.load_unit-returns-clause-loads
load_unit-returns-clause-loads t c =
    unit-loads c.args.sw.now c.load_constants.new.sw c.load_code.new.sw _ _ _ _ c.load_code.result c.top-first.ensures (loaded t c) c.load_code.ensures

pub load_unit-returns-clause-fit : goal.load_unit-returns-clause-fit
load_unit-returns-clause-fit t c =
    fit_unit c.args.unit.now c.as_slice.result.now c.load_code.result c.as_slice.ensures c.is_fit.ensures.bytes c.is_fit.ensures.frame
    c.in_ok-load_constants.ensures.fit

pub load_unit-returns-in_err-load_constants-clause-stands : goal.load_unit-returns-in_err-load_constants-clause-stands
load_unit-returns-in_err-load_constants-clause-stands t c =
    loads-stands c.args.sw.now c.load_constants.new.sw (unit_view c.args.unit.now) c.from_residual.result
    (load_unit-returns-in_err-load_constants-clause-loads t c)

pub load_unit-returns-clause-held : goal.load_unit-returns-clause-held
load_unit-returns-clause-held t c = loads-held c.args.sw.now c.load_code.new.sw (unit_view c.args.unit.now) c.load_code.result
    (load_unit-returns-clause-loads t c)

pub load_unit-returns-clause-stands : goal.load_unit-returns-clause-stands
load_unit-returns-clause-stands t c = loads-stands c.args.sw.now c.load_code.new.sw (unit_view c.args.unit.now) c.load_code.result
    (load_unit-returns-clause-loads t c)
