use Rattle.std.proofs.Common.{◌+◌, length, refl, sym, ap, ◌∙◌, arith}
use Rattle.heap_places.specs.swizzle.Objects.{Object}
use Rattle.structure_rows.specs.Rows.{named}
use Rattle.heap_places.proofs.FillingLaws.{roomy-held, near-all, made-stands}
use Rattle.structure_rows.proofs.RowsLaid.{made-roomy, made-header, made-filled, made-full}
use Rattle.structure_rows.proofs.rows.make_rows.Goals as goal

pub returns-in-Err-clause-filled : goal.returns-in-Err-clause-filled
returns-in-Err-clause-filled c =
    made-full c.args.sw.now c.make.new.self 0 c.args.class c.args.flags.bits c.args.nums.now c.args.refs.now (1 + length c.args.refs.now) (1 + length c.args.nums.now) refl refl
    c.make.new.self c.in-Err.fault c.requires.few c.in-Err.ensures.made

pub set_ref-requires-clause-held : goal.set_ref-requires-clause-held
set_ref-requires-clause-held c = (roomy-held c.args.sw.now c.make.new.self c.in-Ok.made _ c.in-Ok.ensures.made).0

pub set_ref-requires-clause-below : goal.set_ref-requires-clause-below
set_ref-requires-clause-below c =
    let o = (roomy-held c.args.sw.now c.make.new.self c.in-Ok.made _ c.in-Ok.ensures.made).1 in
    omega (arith, ap (λ (x : Object). x.header.refs) o)

pub lay_refs-requires-clause-held : goal.lay_refs-requires-clause-held
lay_refs-requires-clause-held c =
    (made-header c.args.sw.now c.set_ref.new.self c.in-Ok.made c.args.class c.args.flags.bits c.args.nums.now c.args.refs.now (1 + length c.args.refs.now) (1 + length c.args.nums.now) refl refl
    (made-roomy c.args.sw.now c.set_ref.new.self c.in-Ok.made c.args.class c.args.flags.bits c.args.nums.now c.args.refs.now _ _ refl refl c.make.new.self c.in-Ok.ensures.made c.set_ref.ensures.written)).0

pub lay_refs-requires-clause-room : goal.lay_refs-requires-clause-room
lay_refs-requires-clause-room c =
    let h = made-header c.args.sw.now c.set_ref.new.self c.in-Ok.made c.args.class c.args.flags.bits c.args.nums.now c.args.refs.now (1 + length c.args.refs.now) (1 + length c.args.nums.now) refl refl
    (made-roomy c.args.sw.now c.set_ref.new.self c.in-Ok.made c.args.class c.args.flags.bits c.args.nums.now c.args.refs.now _ _ refl refl c.make.new.self c.in-Ok.ensures.made c.set_ref.ensures.written) in
    omega (arith, h.1)

pub lay_refs-requires-clause-few : goal.lay_refs-requires-clause-few
lay_refs-requires-clause-few c = let few = c.requires.few in omega (arith, few)

pub lay_nums-requires-clause-few : goal.lay_nums-requires-clause-few
lay_nums-requires-clause-few c = let few = c.requires.few in omega (arith, few)

pub lay_refs-requires-clause-home : goal.lay_refs-requires-clause-home
lay_refs-requires-clause-home c =
    let h = made-header c.args.sw.now c.set_ref.new.self c.in-Ok.made c.args.class c.args.flags.bits c.args.nums.now c.args.refs.now (1 + length c.args.refs.now) (1 + length c.args.nums.now) refl refl
    (made-roomy c.args.sw.now c.set_ref.new.self c.in-Ok.made c.args.class c.args.flags.bits c.args.nums.now c.args.refs.now _ _ refl refl c.make.new.self c.in-Ok.ensures.made c.set_ref.ensures.written) in
    omega (arith, h.2)

pub lay_refs-requires-clause-near : goal.lay_refs-requires-clause-near
lay_refs-requires-clause-near c =
    near-all c.args.sw.now c.set_ref.new.self (named c.args.refs.now)
    (made-stands c.args.sw.now c.set_ref.new.self c.in-Ok.made _ (made-roomy c.args.sw.now c.set_ref.new.self c.in-Ok.made c.args.class c.args.flags.bits c.args.nums.now c.args.refs.now _ _ refl refl c.make.new.self c.in-Ok.ensures.made c.set_ref.ensures.written)) c.requires.near

pub lay_nums-requires-clause-held : goal.lay_nums-requires-clause-held
lay_nums-requires-clause-held c =
    let h = made-header c.args.sw.now c.set_ref.new.self c.in-Ok.made c.args.class c.args.flags.bits c.args.nums.now c.args.refs.now (1 + length c.args.refs.now) (1 + length c.args.nums.now) refl refl
    (made-roomy c.args.sw.now c.set_ref.new.self c.in-Ok.made c.args.class c.args.flags.bits c.args.nums.now c.args.refs.now _ _ refl refl c.make.new.self c.in-Ok.ensures.made c.set_ref.ensures.written) in
    (c.lay_refs.ensures.stands c.in-Ok.made h.0).held

pub lay_nums-requires-clause-refs : goal.lay_nums-requires-clause-refs
lay_nums-requires-clause-refs c =
    let h = made-header c.args.sw.now c.set_ref.new.self c.in-Ok.made c.args.class c.args.flags.bits c.args.nums.now c.args.refs.now (1 + length c.args.refs.now) (1 + length c.args.nums.now) refl refl
    (made-roomy c.args.sw.now c.set_ref.new.self c.in-Ok.made c.args.class c.args.flags.bits c.args.nums.now c.args.refs.now _ _ refl refl c.make.new.self c.in-Ok.ensures.made c.set_ref.ensures.written) in
    sym ((c.lay_refs.ensures.stands c.in-Ok.made h.0).refs ∙ h.1)

pub lay_nums-requires-clause-room : goal.lay_nums-requires-clause-room
lay_nums-requires-clause-room c =
    let h = made-header c.args.sw.now c.set_ref.new.self c.in-Ok.made c.args.class c.args.flags.bits c.args.nums.now c.args.refs.now (1 + length c.args.refs.now) (1 + length c.args.nums.now) refl refl
    (made-roomy c.args.sw.now c.set_ref.new.self c.in-Ok.made c.args.class c.args.flags.bits c.args.nums.now c.args.refs.now _ _ refl refl c.make.new.self c.in-Ok.ensures.made c.set_ref.ensures.written) in
    let s = c.lay_refs.ensures.stands c.in-Ok.made h.0 in
    omega (arith, h.2, s.nums)

pub returns-clause-filled : goal.returns-clause-filled
returns-clause-filled c =
    made-filled c.args.sw.now c.set_ref.new.self c.in-Ok.made c.args.class c.args.flags.bits c.args.nums.now c.args.refs.now (1 + length c.args.refs.now) (1 + length c.args.nums.now) refl refl
    c.lay_refs.new.sw c.lay_nums.new.sw (made-roomy c.args.sw.now c.set_ref.new.self c.in-Ok.made c.args.class c.args.flags.bits c.args.nums.now c.args.refs.now _ _ refl refl c.make.new.self c.in-Ok.ensures.made c.set_ref.ensures.written) c.lay_refs.ensures.laid c.lay_nums.ensures.laid
