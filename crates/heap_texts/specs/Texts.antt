-- Texts as objects, and operations that make one.
use Rattle.std.specs.Prelude.{◌≡◌, ℕ, ◌+◌, ◌-◌, ◌^◌, min, List, length, Result, Ok, Err}
use Rattle.swizzle.specs.obj_area.Area.{words_spanned}
use Rattle.swizzle.specs.obj_layout.declared.kind.Kind.TheVariants.{Text}
use Rattle.swizzle.specs.declared.fault.SwizzleFault.{SwizzleFault}
use Rattle.swizzle.specs.Objects.{Object}
use Rattle.swizzle.specs.Heap.{Heap, IsHeld, IsMade, IsFull, header_at, blank}
use Rattle.swizzle.specs.Text.{with_bytes_at}
use Rattle.ps_heap.specs.Texts.{Attempt, Yields, Fails}
use Rattle.heap_texts.specs.declared.fault.OpFault.{OpFault}
use Rattle.heap_texts.specs.declared.fault.OpFault.TheVariants.{Trap, Swizzle}

-- the number words of a text of so many bytes: its home, and the bytes, the rest of the last word 0
abbrev pub text_nums : ℕ → ℕ
text_nums bytes = 1 + words_spanned bytes

-- a text of so many bytes, all 0
abbrev pub blank_text : ℕ → Object
blank_text bytes = blank Text 0 (text_nums bytes) bytes

-- the object of a text
unfoldable pub text_object : List ℕ → Object
text_object bytes = with_bytes_at (blank_text (length bytes)) 0 bytes

-- a text begins there
pub record HoldsText (heap : Heap) (at : ℕ) : Type 0 where
  pub held : IsHeld heap at
  pub kind : (header_at heap at).kind ≡ Text

-- each text of before is still one
abbrev pub StillTexts : Heap → Heap → Type 0
StillTexts old new = (at : ℕ) → HoldsText old at → HoldsText new at

-- how many words an object is said to want: a number of 32 bits, the greatest where it has more
abbrev pub wanted_of : ℕ → ℕ
wanted_of words = min words (2 ^ 32 - 1)

-- the text was made, or there was no room for it
abbrev pub MakesText : Heap → Heap → List ℕ → Result ℕ SwizzleFault → Type 0
MakesText old new bytes (Ok at) = IsMade old new at (text_object bytes)
MakesText old new bytes (Err fault) = IsFull old new (wanted_of (4 + text_nums (length bytes))) fault

-- so it was with one of so many bytes, all 0
abbrev pub MakesBlankText : Heap → Heap → ℕ → Result ℕ SwizzleFault → Type 0
MakesBlankText old new bytes (Ok at) = IsMade old new at (blank_text bytes)
MakesBlankText old new bytes (Err fault) = IsFull old new (wanted_of (4 + text_nums bytes)) fault

-- an operation whose result is a text: it is made, or the operation ends in its trap and the area stays
abbrev pub GivesText : Heap → Heap → Attempt (List ℕ) → Result ℕ OpFault → Type 0
GivesText old new (Yields bytes) (Ok at) = IsMade old new at (text_object bytes)
GivesText old new (Yields bytes) (Err (Swizzle fault)) = IsFull old new (wanted_of (4 + text_nums (length bytes))) fault
GivesText old new (Yields bytes) (Err (Trap trap)) = ⊥
GivesText old new (Fails trap) result = (result ≡ Err (Trap trap)) × (new ≡ old)
