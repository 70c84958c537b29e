use Rattle.std.proofs.Common.{◌≡◌, ◌+◌, ◌++◌, take, map}
use Rattle.obj_layout.specs.Header.{header_words}
use Rattle.obj_layout.specs.Reference.{reference_word}
use Rattle.swizzle.specs.Image.{far_object}
use Rattle.swizzle.proofs.swizzle.Swizzle.image.Given as goal

abbrev pub invariant-loop-slot : goal.invariant-loop-slot
invariant-loop-slot l =
    take (4 + l.slot) l.into ≡ header_words (far_object l.self l.object).header ++ take l.slot (map reference_word (far_object l.self l.object).refs)
