use Rattle.std.proofs.Common.{ℤ, ◌≡◌, subst, rules, to_z, of_z, w32, Some, None, sym, ap, ◌∙◌, arith}
use Rattle.std.proofs.lemmas.Int.{to_z-of_z}
use Rattle.joint_ops.specs.text_forms.Forms.{is_number_form}
use Rattle.joint_ops.specs.heap_places.Words.{int_in, flag_in}
use Rattle.joint_ops.specs.heap_places.declared.value.Value.TheVariants.{Num}
use Rattle.objects.specs.Vectors.{HasElement}
use Rattle.objects.proofs.ElementLaws.{reached-small, reached-held, reached-refs, number-below, reference-below, int-there, flag-there, reference-there}
use Rattle.objects.proofs.objects.vectors.peek_element.Goals as goal

pub overflow_add-found : goal.overflow_add-found
overflow_add-found c =
    let small = reached-small c.args.sw.now c.args.vector _ c.in-Some.found.form c.in-Some.found.place c.sound.ensures (c.in-Some.ensures c.args.sw.now c.requires) in
    omega (arith, small)

pub num_behind-requires-clause-held : goal.num_behind-requires-clause-held
num_behind-requires-clause-held c =
    reached-held c.args.sw.now c.args.vector _ c.in-Some.found.form c.in-Some.found.place c.sound.ensures (c.in-Some.ensures c.args.sw.now c.requires)

pub num_behind-requires-clause-refs : goal.num_behind-requires-clause-refs
num_behind-requires-clause-refs c =
    reached-refs c.args.sw.now c.args.vector _ c.in-Some.found.form c.in-Some.found.place c.sound.ensures (c.in-Some.ensures c.args.sw.now c.requires)
    (ap is_number_form c.in-Number.is)

pub num_behind-requires-clause-below : goal.num_behind-requires-clause-below
num_behind-requires-clause-below c =
    number-below c.args.sw.now c.args.vector _ c.in-Some.found.form c.in-Some.found.place c.sound.ensures (c.in-Some.ensures c.args.sw.now c.requires)
    (ap is_number_form c.in-Number.is)

pub overflow_add-found-in-Flag : goal.overflow_add-found-in-Flag
overflow_add-found-in-Flag c =
    let small = reached-small c.args.sw.now c.args.vector _ c.in-Some.found.form c.in-Some.found.place c.sound.ensures (c.in-Some.ensures c.args.sw.now c.requires) in
    omega (arith, small)

pub num_behind-requires-in-Flag-clause-held : goal.num_behind-requires-in-Flag-clause-held
num_behind-requires-in-Flag-clause-held c =
    reached-held c.args.sw.now c.args.vector _ c.in-Some.found.form c.in-Some.found.place c.sound.ensures (c.in-Some.ensures c.args.sw.now c.requires)

pub num_behind-requires-in-Flag-clause-refs : goal.num_behind-requires-in-Flag-clause-refs
num_behind-requires-in-Flag-clause-refs c =
    reached-refs c.args.sw.now c.args.vector _ c.in-Some.found.form c.in-Some.found.place c.sound.ensures (c.in-Some.ensures c.args.sw.now c.requires)
    (ap is_number_form c.in-Flag.is)

pub num_behind-requires-in-Flag-clause-below : goal.num_behind-requires-in-Flag-clause-below
num_behind-requires-in-Flag-clause-below c =
    number-below c.args.sw.now c.args.vector _ c.in-Some.found.form c.in-Some.found.place c.sound.ensures (c.in-Some.ensures c.args.sw.now c.requires)
    (ap is_number_form c.in-Flag.is)

pub overflow_add-found-in-Reference : goal.overflow_add-found-in-Reference
overflow_add-found-in-Reference c =
    let small = reached-small c.args.sw.now c.args.vector _ c.in-Some.found.form c.in-Some.found.place c.sound.ensures (c.in-Some.ensures c.args.sw.now c.requires) in
    omega (arith, small)

pub peek-requires-clause-held : goal.peek-requires-clause-held
peek-requires-clause-held c =
    reached-held c.args.sw.now c.args.vector _ c.in-Some.found.form c.in-Some.found.place c.sound.ensures (c.in-Some.ensures c.args.sw.now c.requires)

pub peek-requires-clause-below : goal.peek-requires-clause-below
peek-requires-clause-below c =
    reference-below c.args.sw.now c.args.vector _ c.in-Some.found.form c.in-Some.found.place c.sound.ensures (c.in-Some.ensures c.args.sw.now c.requires)
    (ap is_number_form c.in-Reference.is)

pub returns-in-Some-int_of_word : goal.returns-in-Some-int_of_word
returns-in-Some-int_of_word c =
    let z = c.in-Some-int_of_word.value in
    let same : to_z w32 (of_z w32 z) ≡ z = search rules in
    subst (λ (y : ℤ). HasElement c.args.sw.now c.args.vector c.args.at (Num y)) (sym same) (rw (to_z-of_z w32 c.args.at c.ranges.at) at
    (int-there c.args.sw.now c.args.vector _ c.in-Some.found.form c.in-Some.found.place (c.in-Some.ensures c.args.sw.now c.requires) c.in-Some-int_of_word.value
    c.in-Number.is (ap int_in (sym c.num_behind.ensures) ∙ sym c.int_of_word.ensures ∙ c.in-Some-int_of_word.is)))

pub returns-in-Some-flag_of_word : goal.returns-in-Some-flag_of_word
returns-in-Some-flag_of_word c = rw (to_z-of_z w32 c.args.at c.ranges.at) at
    (flag-there c.args.sw.now c.args.vector _ c.in-Some.found.form c.in-Some.found.place (c.in-Some.ensures c.args.sw.now c.requires) c.in-Some-flag_of_word.value
    c.in-Flag.is (ap flag_in (sym c.num_behind-in-Flag.ensures) ∙ sym c.flag_of_word.ensures ∙ c.in-Some-flag_of_word.is))

pub returns-in-Nil : goal.returns-in-Nil
returns-in-Nil c = rw (to_z-of_z w32 c.args.at c.ranges.at) at
    (reference-there c.args.sw.now c.args.vector _ c.in-Some.found.form c.in-Some.found.place (c.in-Some.ensures c.args.sw.now c.requires) None c.sound.ensures
    c.in-Reference.is (sym c.peek.ensures.value ∙ c.in-Nil.is))

pub returns-in-Local : goal.returns-in-Local
returns-in-Local c = rw (to_z-of_z w32 c.args.at c.ranges.at) at
    (reference-there c.args.sw.now c.args.vector _ c.in-Some.found.form c.in-Some.found.place (c.in-Some.ensures c.args.sw.now c.requires) (Some c.in-Local.to) c.sound.ensures
    c.in-Reference.is (sym c.peek.ensures.value ∙ c.in-Local.is))
