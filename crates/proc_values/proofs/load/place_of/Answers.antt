use Rattle.std.proofs.Common.{sym, arith}
use Rattle.proc_values.proofs.UnitLaws.{view_unit, place_text, place_unit, words_inside}
use Rattle.proc_values.proofs.load.place_of.Goals as goal

pub words_of_constants-requires : goal.words_of_constants-requires
words_of_constants-requires c =
    let few = words_inside c.args.constant.now c.deref.result.now c.as_slice.result.now
    (view_unit c.args.constant.now c.in-Unit.unit c.deref.result.now c.in-Unit.is c.deref.ensures) c.as_slice.ensures in
    omega (arith, few, c.requires)

pub overflow_cast-result : goal.overflow_cast-result
overflow_cast-result c =
    let few = words_inside c.args.constant.now c.deref.result.now c.as_slice.result.now
    (view_unit c.args.constant.now c.in-Unit.unit c.deref.result.now c.in-Unit.is c.deref.ensures) c.as_slice.ensures in
    omega (arith, few, c.requires, c.words_of_constants.ensures)

pub overflow_add-result : goal.overflow_add-result
overflow_add-result c =
    let few = words_inside c.args.constant.now c.deref.result.now c.as_slice.result.now
    (view_unit c.args.constant.now c.in-Unit.unit c.deref.result.now c.in-Unit.is c.deref.ensures) c.as_slice.ensures in
    omega (arith, few, c.requires, c.words_of_constants.ensures)

pub returns-in-Text : goal.returns-in-Text
returns-in-Text c = sym (place_text c.args.at c.args.constant.now _ c.in-Text.is)

pub returns-in-Unit : goal.returns-in-Unit
returns-in-Unit c =
    let is = view_unit c.args.constant.now c.in-Unit.unit c.deref.result.now c.in-Unit.is c.deref.ensures in
    omega (arith, c.words_of_constants.ensures, place_unit c.args.at c.args.constant.now c.deref.result.now c.as_slice.result.now is c.as_slice.ensures)
