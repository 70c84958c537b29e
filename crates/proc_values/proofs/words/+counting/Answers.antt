use Rattle.std.proofs.Common.{rules, ◌≡◌, ◌+◌, ℕ, ap, sym, ◌∙◌, arith}
use Rattle.ps_base.specs.CodeUnit.{constant_view, unit_view}
use Rattle.heap_texts.specs.Texts.{text_nums}
use Rattle.proc_values.specs.Units.{code_nums, unit_words, constant_words}
use Rattle.proc_values.proofs.UnitLaws.{words_text, view_text, view_unit, view_words, words_literal, words_from, words_ended}
use Rattle.proc_values.proofs.words.+counting.Goals as goal

pub words_of_constant-words_of_unit-requires : goal.words_of_constant-words_of_unit-requires
words_of_constant-words_of_unit-requires t c =
    let is = view_unit c.args.constant.now c.in-Unit.unit c.deref.result.now c.in-Unit.is c.deref.ensures in
    let same : constant_words (constant_view c.args.constant.now) ≡ unit_words (unit_view c.deref.result.now) = ap constant_words is
    ∙ words_literal (unit_view c.deref.result.now) in
    search (rules, same)

pub words_of_constant-returns-in-Text : goal.words_of_constant-returns-in-Text
words_of_constant-returns-in-Text t c =
    c.text_words.ensures ∙ ap (λ (n : ℕ). 4 + text_nums n) c.len.ensures
    ∙ sym (ap constant_words (view_text c.args.constant.now c.in-Text.bytes c.in-Text.is) ∙ words_text c.in-Text.bytes)

pub words_of_constant-returns-in-Unit : goal.words_of_constant-returns-in-Unit
words_of_constant-returns-in-Unit t c =
    let is = view_unit c.args.constant.now c.in-Unit.unit c.deref.result.now c.in-Unit.is c.deref.ensures in
    c.words_of_unit.ensures ∙ sym (ap constant_words is ∙ words_literal (unit_view c.deref.result.now))

pub words_of_constants-words_of_constant-words-requires : goal.words_of_constants-words_of_constant-words-requires
words_of_constants-words_of_constant-words-requires t c =
    let from = words_from c.args.constants.now c.loop-constant.constant-index c.constant-item.result _ c.constant-item.is c.loop-constant-test.true in
    search (rules, from)

pub words_of_constants-overflow_add-words : goal.words_of_constants-overflow_add-words
words_of_constants-overflow_add-words t c =
    let from = words_from c.args.constants.now c.loop-constant.constant-index c.constant-item.result _ c.constant-item.is c.loop-constant-test.true in
    omega (arith, c.requires, from, c.loop-constant.invariant, c.words_of_constant-words.ensures)

pub words_of_constants-loop-constant-preserved : goal.words_of_constants-loop-constant-preserved
words_of_constants-loop-constant-preserved t c =
    let from = words_from c.args.constants.now c.loop-constant.constant-index c.constant-item.result _ c.constant-item.is c.loop-constant-test.true in
    omega (arith, from, c.loop-constant.invariant, c.words_of_constant-words.ensures)

pub words_of_constants-returns : goal.words_of_constants-returns
words_of_constants-returns t c = words_ended c.args.constants.now c.loop-constant.constant-index c.loop-constant.words c.loop-constant-test.false
    c.loop-constant.invariant

pub words_of_unit-words_of_constants-requires : goal.words_of_unit-words_of_constants-requires
words_of_unit-words_of_constants-requires t c =
    let words = view_words c.args.unit.now c.as_slice-constants.result.now c.as_slice-constants.ensures in
    search (rules, words)

pub words_of_unit-overflow_add-result : goal.words_of_unit-overflow_add-result
words_of_unit-overflow_add-result t c =
    let words = view_words c.args.unit.now c.as_slice-constants.result.now c.as_slice-constants.ensures in
    let nums = ap code_nums c.len.ensures in
    omega (arith, words, nums, c.requires, c.words_of_constants.ensures, c.code_words.ensures)

pub words_of_unit-returns : goal.words_of_unit-returns
words_of_unit-returns t c =
    let words = view_words c.args.unit.now c.as_slice-constants.result.now c.as_slice-constants.ensures in
    let nums = ap code_nums c.len.ensures in
    omega (arith, words, nums, c.words_of_constants.ensures, c.code_words.ensures)
