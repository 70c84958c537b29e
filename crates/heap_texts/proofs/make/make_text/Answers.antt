use Rattle.std.proofs.Common.{inl, ◌≡◌, ℕ, ap, length, subst, arith}
use Rattle.swizzle.specs.Heap.{IsMade}
use Rattle.swizzle.specs.Objects.{Object}
use Rattle.swizzle.specs.Text.{with_bytes_at}
use Rattle.swizzle.proofs.MadeLaws.{made-held, made-object, made-text}
use Rattle.heap_texts.specs.Texts.{blank_text, text_object}
use Rattle.heap_texts.proofs.make.make_text.Goals as goal

-- src/make.rt:22:5
pub write_text-requires-clause-held : goal.write_text-requires-clause-held
write_text-requires-clause-held c = made-held _ _ c.in_ok-at.at _ c.in_ok-at.ensures

-- src/make.rt:22:5
pub write_text-requires-clause-kind : goal.write_text-requires-clause-kind
write_text-requires-clause-kind c = inl (ap (λ (o : Object). o.header.kind) (made-object _ _ c.in_ok-at.at _ c.in_ok-at.ensures))

-- src/make.rt:22:5
pub write_text-requires-clause-within : goal.write_text-requires-clause-within
write_text-requires-clause-within c =
    let is = ap (λ (o : Object). o.header.bytes) (made-object _ _ c.in_ok-at.at _ c.in_ok-at.ensures) in
    omega (arith, c.in-Ok.ensures)

-- src/make.rt:10:1
pub returns : goal.returns
unfolding text_object
returns c =
    let from = c.args.from.now in
    let long : c.in-Ok.bytes ≡ length from = omega (arith, c.in-Ok.ensures) in
    subst (λ (n : ℕ). IsMade c.args.sw.now c.write_text.new.self c.in_ok-at.at (with_bytes_at (blank_text n) 0 from)) long
    (made-text c.args.sw.now c.make_blank_text.new.sw _ c.in_ok-at.at 0 (blank_text c.in-Ok.bytes) from c.in_ok-at.ensures c.write_text.ensures.written)
