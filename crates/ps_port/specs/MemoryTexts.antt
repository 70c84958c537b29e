-- The texts of a shelf in memory: a finite map from names to bytes.
use Rattle.std.specs.Prelude.{◌≡◌, ℕ, Bool, is_none, List, Option, Some, None, if◌then◌else◌}
use Rattle.std.specs.Option.{option_map}
use Rattle.std.specs.Str.{bytes_eq}
use Rattle.std.specs.BTreeMap.{get_by_text}
use Rattle.ps_port.specs.declared.memory_shelf.MemoryShelf.{MemoryShelf}

-- the text under a name, if there is one
abbrev pub text_of : MemoryShelf → List ℕ → Option (List ℕ)
text_of shelf name = option_map (λ text. text.items) (get_by_text shelf.texts name)

-- under this name the shelf has this text
abbrev pub HoldsText : MemoryShelf → List ℕ → List ℕ → Type 0
HoldsText shelf name text = text_of shelf name ≡ Some text

-- the shelf has no text of this name
abbrev pub LacksText : MemoryShelf → List ℕ → Type 0
LacksText shelf name = text_of shelf name ≡ None

abbrev pub is_lacking : MemoryShelf → List ℕ → Bool
is_lacking shelf name = is_none (text_of shelf name)

-- the new shelf has this text under this name, and under each other name what the old one had
abbrev pub Puts : MemoryShelf → MemoryShelf → List ℕ → List ℕ → Type 0
Puts old new name bytes = (q : List ℕ) → text_of new q ≡ (if bytes_eq name q then Some bytes else text_of old q)

abbrev pub SameTexts : MemoryShelf → MemoryShelf → Type 0
SameTexts old new = (q : List ℕ) → text_of new q ≡ text_of old q
