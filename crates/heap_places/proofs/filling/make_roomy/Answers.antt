use Rattle.std.proofs.Common.{ℕ, ◌+◌, ap, arith, rules, w32}
use mir.Val.{SFits}
use Rattle.heap_texts.specs.swizzle.Objects.{Object}
use Rattle.heap_places.proofs.FillingLaws.{roomy-held, roomy-no_low, roomy-some, low-below}
use Rattle.heap_places.proofs.filling.make_roomy.Goals as goal

pub set_ref-requires-clause-held : goal.set_ref-requires-clause-held
set_ref-requires-clause-held c = (roomy-held c.args.sw.now c.make.new.self c.in-Ok.object _ c.in-Ok.ensures.made).0

pub set_ref-requires-clause-below : goal.set_ref-requires-clause-below
set_ref-requires-clause-below c =
    let o = (roomy-held c.args.sw.now c.make.new.self c.in-Ok.object _ c.in-Ok.ensures.made).1 in
    omega (arith, ap (λ (x : Object). x.header.refs) o, c.first_rows-first.ensures.refs)

pub set_num-requires-clause-held : goal.set_num-requires-clause-held
set_num-requires-clause-held c = (c.set_ref.ensures.stands c.in-Ok.object
    (roomy-held c.args.sw.now c.make.new.self c.in-Ok.object _ c.in-Ok.ensures.made).0).held

pub set_num-requires-clause-below : goal.set_num-requires-clause-below
set_num-requires-clause-below c =
    low-below c.args.sw.now c.make.new.self c.set_ref.new.self c.in-Ok.object _ _ c.args.kind c.args.low c.in-Some.low c.args.rows _ c.in-Some.is
    (ap (λ (n : ℕ). n + c.args.rows.nums) c.first_rows-first.ensures.nums) c.in-Ok.ensures.made c.set_ref.ensures.written

pub returns-in-Some-clause-made : goal.returns-in-Some-clause-made
returns-in-Some-clause-made c =
    let fits : SFits w32 c.in-Some.low = search rules in
    roomy-some c.args.sw.now c.make.new.self c.set_ref.new.self c.set_num.new.self c.in-Ok.object c.args.text _ _ c.word_of_int.result c.args.kind c.args.low
    c.in-Some.low c.args.rows c.in-Some.is
    (ap (λ (n : ℕ). n + c.args.rows.refs) c.first_rows-first.ensures.refs) (ap (λ (n : ℕ). n + c.args.rows.nums) c.first_rows-first.ensures.nums)
    c.in-Ok.ensures.made c.set_ref.ensures.written c.set_num.ensures.written c.word_of_int.ensures fits

pub returns-in_default-clause-made : goal.returns-in_default-clause-made
returns-in_default-clause-made c =
    roomy-no_low c.args.sw.now c.make.new.self c.set_ref.new.self c.in-Ok.object c.args.text _ _ c.args.kind c.args.low c.args.rows c.in_default.not-Some
    (ap (λ (n : ℕ). n + c.args.rows.refs) c.first_rows-first.ensures.refs) (ap (λ (n : ℕ). n + c.args.rows.nums) c.first_rows-first.ensures.nums)
    c.in-Ok.ensures.made c.set_ref.ensures.written
