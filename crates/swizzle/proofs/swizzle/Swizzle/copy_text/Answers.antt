use Rattle.std.proofs.Common.{◌≡◌, ◌∙◌, ap, arith, length, take, drop, length-drop}
use Rattle.std.proofs.lemmas.List.{length-take-le}
use Rattle.obj_area.specs.Area.{byte_place, with_bytes_from}
use Rattle.swizzle.specs.Heap.{object_at}
use Rattle.swizzle.specs.Text.{text_at, with_text}
use Rattle.swizzle.specs.View.{noted_of, beside_of}
use Rattle.swizzle.proofs.KeptLaws.{lies_in, Again}
use Rattle.swizzle.proofs.TextLaws.{place_fits, place_by, lies-spanned, place_in_bytes, lies-bytes, retexted, text-bytes, length-text}
use Rattle.swizzle.proofs.StandLaws.{stands-object, like_nums}
use Rattle.swizzle.proofs.swizzle.Swizzle.copy_text.Goals as goal

pub place_of_bytes-place-requires : goal.place_of_bytes-place-requires
place_of_bytes-place-requires c = place_fits _ _ c.args.from c.header-source.result (lies_in c.self.inside _ c.args.from c.self.view_is c.self.invariant c.requires.from_held) c.header-source.ensures.value

pub place_of_bytes-end-requires : goal.place_of_bytes-end-requires
place_of_bytes-end-requires c = place_fits _ _ c.args.to c.header-target.result (lies_in c.self.inside _ c.args.to c.self.view_is c.self.invariant c.requires.to_held) c.header-target.ensures.value

pub copy_bytes-requires-clause-from : goal.copy_bytes-requires-clause-from
copy_bytes-requires-clause-from c =
    let l = lies_in c.self.inside _ c.args.from c.self.view_is c.self.invariant c.requires.from_held in
    lies-spanned c.self.inside.area _ c.args.from _ c.args.from_start c.args.count l (place_by _ _ c.args.from _ c.place_of_bytes-place.ensures c.header-source.ensures.value) c.requires.from_within

pub copy_bytes-requires-clause-to : goal.copy_bytes-requires-clause-to
copy_bytes-requires-clause-to c =
    let l = lies_in c.self.inside _ c.args.to c.self.view_is c.self.invariant c.requires.to_held in
    lies-spanned c.self.inside.area _ c.args.to _ c.args.to_start c.args.count l (place_by _ _ c.args.to _ c.place_of_bytes-end.ensures c.header-target.ensures.value) c.requires.to_within

written : (c : goal.After-copy_bytes) → Again c.copy_bytes.new.self.words c.copy_bytes.new.self.size (noted_of c.self.inside) (beside_of c.self.inside) (with_text c.args.self.now c.args.to c.args.to_start (take c.args.count (drop c.args.from_start (text_at c.args.self.now c.args.from))))
written c =
    let now = c.args.self.now in
    let f = lies_in c.self.inside _ c.args.from c.self.view_is c.self.invariant c.requires.from_held in
    let l = lies_in c.self.inside _ c.args.to c.self.view_is c.self.invariant c.requires.to_held in
    let source = place_by _ _ c.args.from _ c.place_of_bytes-place.ensures c.header-source.ensures.value in
    let target = place_by _ _ c.args.to _ c.place_of_bytes-end.ensures c.header-target.ensures.value in
    let bytes = take c.args.count (drop c.args.from_start (text_at now c.args.from)) in
    let long : length bytes ≡ c.args.count = length-take-le c.args.count (drop c.args.from_start (text_at now c.args.from)) (omega (arith, length-drop c.args.from_start (text_at now c.args.from), length-text (object_at now c.args.from) f.split.fit, c.requires.from_within)) in
    let same = lies-bytes c.self.inside.area.words now c.args.from _ c.args.from_start f (place_in_bytes c.self.inside.area.words now c.args.from _ c.args.from_start f source) c.args.count c.requires.from_within in
    retexted c.self.inside c.copy_bytes.new.self now c.args.to _ c.args.to_start bytes c.self.view_is c.self.invariant l c.top-top.ensures.area.fits
    (c.copy_bytes.ensures ∙ ap (with_bytes_from c.self.inside.area (byte_place c.place_of_bytes-end.result c.args.to_start)) same)
    (text-bytes (object_at now c.args.from) c.args.from_start c.args.count)
    (place_in_bytes c.self.inside.area.words now c.args.to _ c.args.to_start l target) (omega (arith, c.requires.to_within))

pub invariant_of-self : goal.invariant_of-self
invariant_of-self c = (written c).kept

pub returns-clause-written : goal.returns-clause-written
returns-clause-written c = (written c).seen

pub returns-clause-stands : goal.returns-clause-stands
returns-clause-stands c = stands-object c.args.self.now _ c.args.to _ (written c).seen c.requires.to_held (like_nums _ _)
