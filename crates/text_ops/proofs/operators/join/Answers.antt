use Rattle.std.proofs.Common.{◌∙◌, ◌+◌, ℕ, List, refl, ap, arith}
use Rattle.heap_texts.specs.swizzle.Text.{text_at, with_bytes_at, with_text}
use Rattle.heap_texts.proofs.of_swizzle.MadeLaws.{made-text}
use Rattle.heap_texts.specs.Texts.{blank_text}
use Rattle.text_ops.proofs.Copying.{source, target, source_now, target_now, gives_joined, joined, copied, copied_bytes}
use Rattle.text_ops.proofs.operators.join.Goals as goal

-- src/operators.rt:35:5
pub copy_text-requires-clause-from_held : goal.copy_text-requires-clause-from_held
copy_text-requires-clause-from_held c = (source _ _ c.in_ok-at.at _ c.args.a c.in_ok-at.ensures c.requires.a_held c.requires.a_text).held

-- src/operators.rt:35:5
pub copy_text-requires-clause-from_kind : goal.copy_text-requires-clause-from_kind
copy_text-requires-clause-from_kind c = (source _ _ c.in_ok-at.at _ c.args.a c.in_ok-at.ensures c.requires.a_held c.requires.a_text).kind

-- src/operators.rt:35:5
pub copy_text-requires-clause-from_within : goal.copy_text-requires-clause-from_within
copy_text-requires-clause-from_within c =
    let bytes = (source _ _ c.in_ok-at.at _ c.args.a c.in_ok-at.ensures c.requires.a_held c.requires.a_text).bytes in
    omega (arith, c.text_length-front.ensures.header)

-- src/operators.rt:35:5
pub copy_text-requires-clause-to_held : goal.copy_text-requires-clause-to_held
copy_text-requires-clause-to_held c = (target _ _ c.in_ok-at.at _ c.in_ok-at.ensures refl).held

-- src/operators.rt:35:5
pub copy_text-requires-clause-to_kind : goal.copy_text-requires-clause-to_kind
copy_text-requires-clause-to_kind c = (target _ _ c.in_ok-at.at _ c.in_ok-at.ensures refl).kind

-- src/operators.rt:35:5
pub copy_text-requires-clause-to_within : goal.copy_text-requires-clause-to_within
copy_text-requires-clause-to_within c =
    let bytes = (target _ _ c.in_ok-at.at _ c.in_ok-at.ensures refl).bytes_are in
    omega arith

-- src/operators.rt:36:5
pub copy_text-requires-2-clause-from_held : goal.copy_text-requires-2-clause-from_held
copy_text-requires-2-clause-from_held c =
    (source_now _ _ _ c.in_ok-at.at 0 _ _ c.args.b c.in_ok-at.ensures c.copy_text.ensures.written c.requires.b_held c.requires.b_text).held

-- src/operators.rt:36:5
pub copy_text-requires-2-clause-from_kind : goal.copy_text-requires-2-clause-from_kind
copy_text-requires-2-clause-from_kind c =
    (source_now _ _ _ c.in_ok-at.at 0 _ _ c.args.b c.in_ok-at.ensures c.copy_text.ensures.written c.requires.b_held c.requires.b_text).kind

-- src/operators.rt:36:5
pub copy_text-requires-2-clause-from_within : goal.copy_text-requires-2-clause-from_within
copy_text-requires-2-clause-from_within c =
    let bytes = (source_now _ _ _ c.in_ok-at.at 0 _ _ c.args.b c.in_ok-at.ensures c.copy_text.ensures.written c.requires.b_held c.requires.b_text).bytes in
    omega (arith, c.text_length-back.ensures.header)

-- src/operators.rt:36:5
pub copy_text-requires-2-clause-to_held : goal.copy_text-requires-2-clause-to_held
copy_text-requires-2-clause-to_held c = (target_now _ _ _ c.in_ok-at.at 0 _ _ c.in_ok-at.ensures c.copy_text.ensures.written refl).held

-- src/operators.rt:36:5
pub copy_text-requires-2-clause-to_kind : goal.copy_text-requires-2-clause-to_kind
copy_text-requires-2-clause-to_kind c = (target_now _ _ _ c.in_ok-at.at 0 _ _ c.in_ok-at.ensures c.copy_text.ensures.written refl).kind

-- src/operators.rt:36:5
pub copy_text-requires-2-clause-to_within : goal.copy_text-requires-2-clause-to_within
copy_text-requires-2-clause-to_within c =
    let bytes = (target_now _ _ _ c.in_ok-at.at 0 _ _ c.in_ok-at.ensures c.copy_text.ensures.written refl).bytes_are in
    omega arith

-- src/operators.rt:22:1
pub returns : goal.returns
returns c =
    let old = c.args.sw.now in
    let mid = c.make_blank_text.new.sw in
    let second = c.copy_text.new.self in
    let new = c.copy_text-2.new.self in
    let at = c.in_ok-at.at in
    let a = text_at old c.args.a in
    let b = text_at old c.args.b in
    let front = c.text_length-front.result in
    let back = c.text_length-back.result in
    let ea = c.text_length-front.ensures.value in
    let eb = c.text_length-back.ensures.value in
    let of_a = source old mid at (blank_text (front + back)) c.args.a c.in_ok-at.ensures c.requires.a_held c.requires.a_text in
    let of_b =
    source_now old mid second at 0 (blank_text (front + back)) _ c.args.b c.in_ok-at.ensures c.copy_text.ensures.written c.requires.b_held c.requires.b_text in
    let begun = made-text old mid second at 0 (blank_text (front + back)) a c.in_ok-at.ensures
    (c.copy_text.ensures.written ∙ ap (λ (r : List ℕ). with_text mid at 0 r) (copied old mid c.args.a front of_a ea)) in
    let ended = made-text old second new at front (with_bytes_at (blank_text (front + back)) 0 a) b begun
    (c.copy_text-2.ensures.written ∙ ap (λ (r : List ℕ). with_text second at front r) (copied old second c.args.b back of_b eb)) in
    gives_joined old new at a b (omega (arith, c.if-front-back-gt-MOST_BYTES.false, ea, eb))
    (joined old new at front back a b ea eb
    (copied_bytes old mid c.args.a front of_a ea) ended)
