use Rattle.std.proofs.Common.{inr, ◌≡◌, List, length, ap, sym, ◌∙◌, subst, arith}
use Rattle.ps_base.specs.CodeUnit.{constants_view, unit_view}
use Rattle.ps_base.specs.declared.code_unit.Constant.{Constant}
use Rattle.heap_texts.specs.obj_layout.declared.header.Header.{Header}
use Rattle.heap_texts.specs.swizzle.Heap.{IsMade, with_new, with_num}
use Rattle.proc_values.specs.Units.{frame_word, code_object, constants_places}
use Rattle.proc_values.specs.inside.Loading.{AreLoaded, MakesCode}
use Rattle.proc_values.proofs.FoundLaws.{loaded-held, held-more}
use Rattle.proc_values.proofs.CodeLaws.{framed, spelled, loaded-few, loaded-small, after-num, after-both, last-held, last-header, code-made, code-full}
use Rattle.proc_values.proofs.LoadLaws.{exits}
use Rattle.proc_values.proofs.load.load_code.Goals as goal

pub make_blank-requires : goal.make_blank-requires
make_blank-requires c =
    let loaded = subst (λ (xs : List Constant). AreLoaded c.args.sw.now c.args.first (constants_view xs)) (sym c.as_slice-constants.ensures) c.requires in
    loaded-few c.args.sw.now c.args.first c.as_slice-constants.result.now c.sound.ensures loaded

pub returns-in_err-at : goal.returns-in_err-at
returns-in_err-at c =
    exits c.from_residual.result (MakesCode c.args.sw.now c.make_blank.new.sw c.args.first (unit_view c.args.unit.now)) c.in_err-at.field-0.0
    c.from_residual.ensures.1
    (code-full c.args.sw.now c.make_blank.new.sw c.args.first c.args.unit.now.code c.as_slice-code.result.now c.as_slice-constants.result.now _
    c.args.unit.now.frame c.in_err-at.field-0.0
    c.as_slice-code.ensures c.as_slice-constants.ensures c.in_err-at.ensures)

pub set_num-requires-clause-held : goal.set_num-requires-clause-held
set_num-requires-clause-held c = last-held c.args.sw.now c.make_blank.new.sw _ c.in_ok-at.at c.in_ok-at.ensures.made c.in_ok-at.ensures.place

pub set_num-requires-clause-below : goal.set_num-requires-clause-below
set_num-requires-clause-below c =
    let header = ap (λ (h : Header). h.nums) (last-header c.args.sw.now c.make_blank.new.sw _ c.in_ok-at.at c.in_ok-at.ensures.made c.in_ok-at.ensures.place) in
    omega (arith, header)

-- the heap after the frame was written
second : (c : goal.After-write_text-arg-1) → c.set_num.new.self ≡ with_new c.args.sw.now
    (framed (length c.as_slice-constants.result.now) (length c.as_slice-code.result.now) (frame_word c.args.unit.now.frame))
second c =
    after-num c.args.sw.now c.make_blank.new.sw c.set_num.new.self c.in_ok-at.at _ _ _ c.in_ok-at.ensures
    (c.set_num.ensures.written ∙ ap (with_num c.make_blank.new.sw c.in_ok-at.at 1) c.word_of_frame.ensures)

pub write_text-requires-clause-held : goal.write_text-requires-clause-held
write_text-requires-clause-held c = last-held c.args.sw.now c.set_num.new.self _ c.in_ok-at.at (second c) c.in_ok-at.ensures.place

pub write_text-requires-clause-kind : goal.write_text-requires-clause-kind
write_text-requires-clause-kind c = inr (ap (λ (h : Header). h.kind)
    (last-header c.args.sw.now c.set_num.new.self _ c.in_ok-at.at (second c) c.in_ok-at.ensures.place))

pub write_text-requires-clause-within : goal.write_text-requires-clause-within
write_text-requires-clause-within c =
    let bytes = ap (λ (h : Header). h.bytes) (last-header c.args.sw.now c.set_num.new.self _ c.in_ok-at.at (second c) c.in_ok-at.ensures.place) in
    omega (arith, bytes)

-- and after the code was
third : (c : goal.After-link-arg-1)
    → c.write_text.new.self ≡ with_new c.args.sw.now (spelled (length c.as_slice-constants.result.now) (length c.as_slice-code.result.now)
    (frame_word c.args.unit.now.frame) c.as_slice-code.result.now)
third c = after-both c.args.sw.now c.make_blank.new.sw c.set_num.new.self c.write_text.new.self c.in_ok-at.at _ _ _ _ c.as_slice-code.result.now
    c.in_ok-at.ensures c.set_num.ensures.written c.word_of_frame.ensures c.write_text.ensures.written

pub link-requires-clause-held : goal.link-requires-clause-held
link-requires-clause-held c = last-held c.args.sw.now c.write_text.new.self _ c.in_ok-at.at (third c) c.in_ok-at.ensures.place

pub link-requires-clause-slots : goal.link-requires-clause-slots
link-requires-clause-slots c = ap (λ (h : Header). h.refs) (last-header c.args.sw.now c.write_text.new.self _ c.in_ok-at.at (third c) c.in_ok-at.ensures.place)

pub link-requires-clause-fits : goal.link-requires-clause-fits
link-requires-clause-fits c =
    let loaded = subst (λ (xs : List Constant). AreLoaded c.args.sw.now c.args.first (constants_view xs)) (sym c.as_slice-constants.ensures) c.requires in
    omega (arith, loaded-small c.args.sw.now c.args.first (constants_view c.as_slice-constants.result.now) c.sound.ensures loaded)

pub link-requires-clause-there : goal.link-requires-clause-there
link-requires-clause-there c =
    let loaded = subst (λ (xs : List Constant). AreLoaded c.args.sw.now c.args.first (constants_view xs)) (sym c.as_slice-constants.ensures) c.requires in
    held-more c.args.sw.now c.write_text.new.self _ (constants_places c.args.first (constants_view c.as_slice-constants.result.now)) (third c)
    (loaded-held c.args.sw.now c.args.first (constants_view c.as_slice-constants.result.now) loaded)

pub returns : goal.returns
returns c =
    let written = after-both c.args.sw.now c.make_blank.new.sw c.set_num.new.self c.write_text.new.self c.in_ok-at.at _ _ _ _ c.as_slice-code.result.now
    c.in_ok-at.ensures c.set_num.ensures.written c.word_of_frame.ensures c.write_text.ensures.written in
    let made = code-made c.args.sw.now c.make_blank.new.sw c.write_text.new.self c.link.new.sw c.in_ok-at.at c.args.first c.args.unit.now.code
    c.as_slice-code.result.now c.as_slice-constants.result.now c.args.unit.now.frame
    c.in_ok-at.ensures c.as_slice-code.ensures written c.link.ensures in
    subst (λ (xs : List Constant). IsMade c.args.sw.now c.link.new.sw c.in_ok-at.at
    (code_object c.args.unit.now.code c.args.unit.now.frame (constants_places c.args.first (constants_view xs)))) c.as_slice-constants.ensures made
