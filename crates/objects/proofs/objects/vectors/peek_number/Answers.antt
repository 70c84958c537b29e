use Rattle.std.proofs.Common.{ℤ, w32, to_z, of_z, ◌≡◌, sym, subst, arith, rules}
use Rattle.std.proofs.lemmas.Int.{to_z-of_z}
use Rattle.objects.specs.Vectors.{HasNumber}
use Rattle.objects.proofs.ElementLaws.{reached-small, reached-held, reached-refs, number-below}
use Rattle.objects.proofs.NumberLaws.{other-form, number-there}
use Rattle.objects.proofs.objects.vectors.peek_number.Goals as goal

pub overflow_add-found : goal.overflow_add-found
overflow_add-found c =
    let small = reached-small c.args.sw.now c.args.vector _ c.in-Some.found.form c.in-Some.found.place c.sound.ensures (c.in-Some.ensures c.args.sw.now c.requires) in
    omega (arith, small)

pub num_behind-requires : goal.num_behind-requires
num_behind-requires c =
    let row = other-form c.in-Some.found.form c.in_default-form.not-Reference in
    record {
      held = reached-held c.args.sw.now c.args.vector _ c.in-Some.found.form c.in-Some.found.place c.sound.ensures (c.in-Some.ensures c.args.sw.now c.requires);
      refs = reached-refs c.args.sw.now c.args.vector _ c.in-Some.found.form c.in-Some.found.place c.sound.ensures (c.in-Some.ensures c.args.sw.now c.requires) row;
      below = number-below c.args.sw.now c.args.vector _ c.in-Some.found.form c.in-Some.found.place c.sound.ensures (c.in-Some.ensures c.args.sw.now c.requires) row;
    }

pub returns-in-Some-number_in : goal.returns-in-Some-number_in
returns-in-Some-number_in c =
    let x = c.in-Some-number_in.number in
    let same : to_z w32 (of_z w32 x) ≡ x = search rules in
    subst (HasNumber c.args.sw.now c.args.vector c.args.at) (sym same)
    (subst (λ (at : ℤ). HasNumber c.args.sw.now c.args.vector at x) (to_z-of_z w32 c.args.at c.ranges.at)
    (number-there c.args.sw.now c.args.vector _ x c.in-Some.found.form c.in-Some.found.place c.num_behind.result (c.in-Some.ensures c.args.sw.now c.requires)
    (other-form c.in-Some.found.form c.in_default-form.not-Reference) c.num_behind.ensures c.in-Some-number_in.ensures.int c.in-Some-number_in.ensures.flag))
