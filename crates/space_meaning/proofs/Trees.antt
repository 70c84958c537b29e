-- What is seen of a table's node in a space.
use Rattle.std.proofs.Common.{ℕ, [], ◌∷◌}
use Rattle.heap_meaning.specs.obj_layout.declared.kind.Kind.TheVariants as kind
use Rattle.heap_meaning.specs.obj_layout.declared.reference.Reference.{Reference}
use Rattle.heap_meaning.specs.swizzle.Joint.{Shown}

-- its sides, its key's text and its value, and its key and its height as words
abbrev pub node_shown : Reference → Reference → Reference → Reference → ℕ → ℕ → Shown
node_shown left right key value word high =
    record { kind = kind.Node; refs = left ∷ right ∷ key ∷ value ∷ []; nums = 0 ∷ word ∷ high ∷ []; bytes = 0 }
