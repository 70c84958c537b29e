use Rattle.std.proofs.Common.{◌≡◌, ◌∙◌, ◌+◌, ℕ, ◌-◌, ◌*◌, ap, arith, subst, take, drop}
use Rattle.std.proofs.lemmas.List.{take_all}
use Rattle.obj_area.specs.Area.{IsGivenOut, words_spanned, byte_place}
use Rattle.obj_area.specs.Words.{bytes_of}
use Rattle.swizzle.specs.Heap.{object_at}
use Rattle.swizzle.specs.Text.{text_at}
use Rattle.swizzle.proofs.KeptLaws.{lies_in}
use Rattle.swizzle.proofs.TextLaws.{lies-spanned, place_in_bytes, lies-bytes, length-text}
use Rattle.swizzle.proofs.swizzle.Swizzle.text_within.Goals as goal

pub bytes-requires : goal.bytes-requires
bytes-requires c =
    let l = lies_in c.self.inside _ c.args.object c.self.view_is c.self.invariant c.requires.held in
    let spanned = lies-spanned c.self.inside.area _ c.args.object c.args.first 0 c.args.count l c.requires.first (omega (arith, c.requires.count)) in
    let count : 0 + c.args.count ≡ c.args.count = omega arith in
    subst (λ (n : ℕ). IsGivenOut c.self.inside.area c.args.first (words_spanned n)) count spanned

pub returns-clause-value : goal.returns-clause-value
returns-clause-value c =
    let now = c.args.self.now in
    let o = object_at now c.args.object in
    let l = lies_in c.self.inside _ c.args.object c.self.view_is c.self.invariant c.requires.held in
    let place = c.args.first in
    let first : 8 * (place - 1) ≡ byte_place place 0 = omega arith in
    c.bytes.ensures.value
    ∙ ap (λ (n : ℕ). take c.args.count (drop n (bytes_of c.self.inside.area.words))) first
    ∙ lies-bytes c.self.inside.area.words now c.args.object (byte_place place 0) 0 l
    (place_in_bytes c.self.inside.area.words now c.args.object place 0 l c.requires.first) c.args.count (omega (arith, c.requires.count))
    ∙ take_all c.args.count (text_at now c.args.object) (omega (arith, length-text o l.split.fit, c.requires.count))
