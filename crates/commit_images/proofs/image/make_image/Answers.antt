use Rattle.std.proofs.Common.{length, drop, sym, ap, ◌∙◌, arith, length-append}
use Rattle.std.proofs.lemmas.List.{length-take-le, take_at}
use Rattle.swizzle.specs.obj_layout.Header.{object_length}
use Rattle.commit_images.specs.Images.{image_of}
use Rattle.commit_images.proofs.StoreLaws.{image-headed, image-long, object-small}
use Rattle.commit_images.proofs.image.make_image.Goals as goal

pub slice_bounds-image-end : goal.slice_bounds-image-end
slice_bounds-image-end c =
    let small = object-small c.args.sw.now c.args.object c.sound.ensures c.requires.held in
    let count = ap object_length c.header-header.ensures.value in
    omega (arith, small, c.requires.room, count)

pub slice_bounds-image-end-2 : goal.slice_bounds-image-end-2
slice_bounds-image-end-2 c =
    let small = object-small c.args.sw.now c.args.object c.sound.ensures c.requires.held in
    let count = ap object_length c.header-header.ensures.value in
    sym (length-take-le _ c.args.buffer.now (omega (arith, small, c.requires.room, count)))

pub image-requires-clause-long : goal.image-requires-clause-long
image-requires-clause-long c =
    let small = object-small c.args.sw.now c.args.object c.sound.ensures c.requires.held in
    let count = ap object_length c.header-header.ensures.value in
    length-take-le _ c.args.buffer.now (omega (arith, small, c.requires.room, count)) ∙ count

pub returns-clause-within : goal.returns-clause-within
unfolding image_of
returns-clause-within c =
    let count = ap object_length c.header-header.ensures.value in
    let long = ap length c.image.ensures ∙ image-long c.args.sw.now c.args.object c.sound.ensures c.requires.held c.requires.pids in
    omega (arith, long, count, length-append c.image.new.into (drop (object_length c.header-header.result) c.args.buffer.now))

pub returns-clause-image : goal.returns-clause-image
unfolding image_of
returns-clause-image c =
    let count = ap object_length c.header-header.ensures.value in
    let long = ap length c.image.ensures ∙ image-long c.args.sw.now c.args.object c.sound.ensures c.requires.held c.requires.pids in
    take_at c.image.new.into (drop (object_length c.header-header.result) c.args.buffer.now) (object_length c.header-header.result) (omega (arith, long, count)) ∙ c.image.ensures

pub returns-clause-headed : goal.returns-clause-headed
returns-clause-headed c = image-headed c.args.sw.now c.args.object c.sound.ensures c.requires.held c.requires.pids
