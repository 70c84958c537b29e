use Rattle.std.proofs.Common.{ℕ, List, ◌+◌, ap, ◌∙◌, arith}
use Rattle.closures.specs.text_forms.Forms.{forms_of, rows_of}
use Rattle.closures.specs.swizzle.Text.{text_at}
use Rattle.scopes.proofs.MakingLaws.{places-few, scope-lengths, blank-held, scope-made, scope-full}
use Rattle.scopes.proofs.making.make_scope.Goals as goal

pub overflow_add-rows : goal.overflow_add-rows
overflow_add-rows c =
    omega (
      arith,
      places-few c.args.sw.now c.args.names c.text.result.now c.count_places-rows.result c.sound.ensures c.requires.names c.text.ensures.len
          c.count_places-rows.ensures,
    )

pub overflow_add-rows-2 : goal.overflow_add-rows-2
overflow_add-rows-2 c =
    omega (
      arith,
      places-few c.args.sw.now c.args.names c.text.result.now c.count_places-rows.result c.sound.ensures c.requires.names c.text.ensures.len
          c.count_places-rows.ensures,
    )

pub make-requires-clause-lengths : goal.make-requires-clause-lengths
make-requires-clause-lengths c =
    scope-lengths c.count_places-rows.result
    (places-few c.args.sw.now c.args.names c.text.result.now c.count_places-rows.result c.sound.ensures c.requires.names c.text.ensures.len
    c.count_places-rows.ensures)

pub returns-in-Err-clause-made : goal.returns-in-Err-clause-made
returns-in-Err-clause-made c =
    scope-full c.args.sw.now c.make.new.self c.count_places-rows.result (rows_of (forms_of (text_at c.args.sw.now c.args.names))) c.in-Err.fault
    (c.count_places-rows.ensures ∙ ap (λ (t : List ℕ). rows_of (forms_of t)) c.text.ensures.value) c.in-Err.ensures.made

pub set_ref-requires-clause-held : goal.set_ref-requires-clause-held
set_ref-requires-clause-held c =
    (blank-held c.args.sw.now c.make.new.self c.in-Ok.scope (2 + c.count_places-rows.result.refs) (1 + c.count_places-rows.result.nums)
    c.in-Ok.ensures.made).0

pub set_ref-requires-clause-below : goal.set_ref-requires-clause-below
set_ref-requires-clause-below c =
    omega (
      arith,
      (blank-held c.args.sw.now c.make.new.self c.in-Ok.scope (2 + c.count_places-rows.result.refs) (1 + c.count_places-rows.result.nums)
          c.in-Ok.ensures.made).1,
    )

pub set_ref-requires-2-clause-held : goal.set_ref-requires-2-clause-held
set_ref-requires-2-clause-held c =
    (c.set_ref.ensures.stands c.in-Ok.scope
    (blank-held c.args.sw.now c.make.new.self c.in-Ok.scope (2 + c.count_places-rows.result.refs) (1 + c.count_places-rows.result.nums)
    c.in-Ok.ensures.made).0).held

pub set_ref-requires-2-clause-below : goal.set_ref-requires-2-clause-below
set_ref-requires-2-clause-below c =
    let there = blank-held c.args.sw.now c.make.new.self c.in-Ok.scope (2 + c.count_places-rows.result.refs) (1 + c.count_places-rows.result.nums)
    c.in-Ok.ensures.made in
    omega (arith, (c.set_ref.ensures.stands c.in-Ok.scope there.0).refs, there.1)

pub returns-clause-made : goal.returns-clause-made
returns-clause-made c =
    scope-made c.args.sw.now c.make.new.self c.set_ref.new.self c.set_ref-2.new.self c.in-Ok.scope c.args.names c.args.parent
    c.count_places-rows.result
    (rows_of (forms_of (text_at c.args.sw.now c.args.names)))
    (c.count_places-rows.ensures ∙ ap (λ (t : List ℕ). rows_of (forms_of t)) c.text.ensures.value) c.in-Ok.ensures.made c.set_ref.ensures.written
    c.set_ref-2.ensures.written
