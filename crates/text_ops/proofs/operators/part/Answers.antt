use Rattle.std.proofs.Common.{◌∙◌, ℕ, List, take, drop, refl, sym, ap, arith}
use Rattle.heap_texts.specs.swizzle.Text.{text_at, with_text}
use Rattle.heap_texts.proofs.of_swizzle.MadeLaws.{made-text}
use Rattle.heap_texts.specs.Texts.{blank_text}
use Rattle.text_ops.proofs.Copying.{source, target, gives_full, gives_part, part_long, parted, passed}
use Rattle.text_ops.proofs.operators.part.Goals as goal

-- src/operators.rt:50:14
pub returns-in_err-at : goal.returns-in_err-at
returns-in_err-at c =
    let text = text_at c.args.sw.now c.args.a in
    let n = c.in-Some.span.count in
    let bytes = take n (drop c.in-Some.span.before text) in
    let is = passed text c.args.from c.args.count _ c.ranges.from c.ranges.count (c.in-Some.ensures.value text (sym c.text_length.ensures.value)) in
    gives_full c.args.sw.now c.make_blank_text.new.sw text c.args.from c.args.count bytes n c.in_err-at.field-0.0 c.from_residual.result is
    (part_long c.text_length.result c.in-Some.span.before n text c.text_length.ensures.value c.in-Some.ensures.within)
    c.in_err-at.ensures (c.from_residual.ensures.1)

-- src/operators.rt:51:5
pub copy_text-requires-clause-from_held : goal.copy_text-requires-clause-from_held
copy_text-requires-clause-from_held c = (source _ _ c.in_ok-at.at _ c.args.a c.in_ok-at.ensures c.requires.held c.requires.text).held

-- src/operators.rt:51:5
pub copy_text-requires-clause-from_kind : goal.copy_text-requires-clause-from_kind
copy_text-requires-clause-from_kind c = (source _ _ c.in_ok-at.at _ c.args.a c.in_ok-at.ensures c.requires.held c.requires.text).kind

-- src/operators.rt:51:5
pub copy_text-requires-clause-from_within : goal.copy_text-requires-clause-from_within
copy_text-requires-clause-from_within c =
    let bytes = (source _ _ c.in_ok-at.at _ c.args.a c.in_ok-at.ensures c.requires.held c.requires.text).bytes in
    omega (arith, c.text_length.ensures.header, c.in-Some.ensures.within)

-- src/operators.rt:51:5
pub copy_text-requires-clause-to_held : goal.copy_text-requires-clause-to_held
copy_text-requires-clause-to_held c = (target _ _ c.in_ok-at.at _ c.in_ok-at.ensures refl).held

-- src/operators.rt:51:5
pub copy_text-requires-clause-to_kind : goal.copy_text-requires-clause-to_kind
copy_text-requires-clause-to_kind c = (target _ _ c.in_ok-at.at _ c.in_ok-at.ensures refl).kind

-- src/operators.rt:51:5
pub copy_text-requires-clause-to_within : goal.copy_text-requires-clause-to_within
copy_text-requires-clause-to_within c =
    let bytes = (target _ _ c.in_ok-at.at _ c.in_ok-at.ensures refl).bytes_are in
    omega arith

-- src/operators.rt:42:1
pub returns : goal.returns
returns c =
    let old = c.args.sw.now in
    let mid = c.make_blank_text.new.sw in
    let text = text_at old c.args.a in
    let n = c.in-Some.span.count in
    let before = c.in-Some.span.before in
    let bytes = take n (drop before text) in
    let of_a = source old mid c.in_ok-at.at (blank_text n) c.args.a c.in_ok-at.ensures c.requires.held c.requires.text in
    let made = made-text old mid c.copy_text.new.self c.in_ok-at.at 0 (blank_text n) bytes c.in_ok-at.ensures
    (c.copy_text.ensures.written ∙ ap (λ (r : List ℕ). with_text mid c.in_ok-at.at 0 (take n (drop before r))) of_a.text) in
    let is = passed text c.args.from c.args.count _ c.ranges.from c.ranges.count (c.in-Some.ensures.value text (sym c.text_length.ensures.value)) in
    let long = part_long c.text_length.result before n text c.text_length.ensures.value c.in-Some.ensures.within in
    gives_part old c.copy_text.new.self c.in_ok-at.at text c.args.from c.args.count bytes is
    (parted old c.copy_text.new.self c.in_ok-at.at n bytes long made)
