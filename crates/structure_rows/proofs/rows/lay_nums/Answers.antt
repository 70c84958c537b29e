use mir.Syntax.{w32}
use mir.Val.{to_z, of_z}
use Rattle.std.proofs.Common.{◌≡◌, ℤ, ◌+◌, pos, true, slice_index_or, refl, ap, ◌∙◌, subst, arith, rules}
use Rattle.heap_places.specs.ps_heap.Operators.{is_int}
use Rattle.structure_rows.specs.Rows.{kept_word}
use Rattle.std.proofs.lemmas.List.{get_or_default}
use Rattle.structure_rows.proofs.RowsLaid.{nums-first, nums-more}
use Rattle.structure_rows.proofs.rows.lay_nums.Goals as goal

pub loop-z-init : goal.loop-z-init
loop-z-init c =
    nums-first c.args.sw.now c.args.into c.args.refs c.args.flags.bits c.args.nums.now c.requires.held c.requires.refs
    (let same = c.requires.refs in let some = c.requires.class in omega (arith, same, some)) c.requires.room

pub overflow_add-index : goal.overflow_add-index
overflow_add-index c =
    let few = c.requires.few in
    let is = c.loop-z.invariant.index_is in
    let below = c.loop-z-test.true in
    omega (arith, few, is, below)

pub loop-z-preserved : goal.loop-z-preserved
loop-z-preserved c =
    let z = slice_index_or c.args.nums.now c.loop-z.z-index (pos 0) in
    let same : to_z w32 (of_z w32 z) ≡ z = search rules in
    nums-more c.args.sw.now c.loop-z.sw c.set_num_behind.new.self c.args.into c.args.refs c.loop-z.index (c.loop-z.index + 1) c.loop-z.rest.bits c.behind-rest.result.bits
    c.loop-z.z-index c.args.flags.bits c.word_kept.result c.args.nums.now z c.loop-z.invariant c.loop-z-test.true
    (get_or_default c.args.nums.now c.loop-z.z-index (pos 0) _ c.loop-z-test.true) (subst (λ (x : ℤ). is_int x ≡ true) same c.word_kept.ensures.int)
    (c.word_kept.ensures.word ∙ ap (kept_word c.loop-z.rest.bits) same) c.set_num_behind.ensures.written
    c.set_num_behind.ensures.stands refl c.behind-rest.ensures
