-- Places of classes that were looked up before.
use Rattle.std.specs.Prelude.{◌≡◌, ◌⊎◌, List, [], ◌∷◌, Some}
use Rattle.heap_places.specs.obj_layout.declared.kind.Kind.TheVariants.{Text}
use Rattle.heap_places.specs.swizzle.Heap.{Heap, IsHeld, header_at}
use Rattle.heap_places.specs.swizzle.Text.{text_at}
use Rattle.heap_places.specs.text_forms.Forms.{forms_of, located_in}
use Rattle.heap_ops.specs.declared.layouts.Entry.{Entry}

-- What an entry says is so of the area: its class is a text, and names this place. An entry of class 0 says nothing.
pub record IsSo (heap : Heap) (entry : Entry) : Type 0 where
  pub held : IsHeld heap entry.class
  pub kind : (header_at heap entry.class).kind ≡ Text
  pub place : located_in (forms_of (text_at heap entry.class)) entry.field ≡ Some entry.located

abbrev pub AreSo : Heap → List Entry → Type 0
AreSo heap [] = Unit {0}
AreSo heap (entry ∷ entries) = ((entry.class ≡ 0) ⊎ IsSo heap entry) × AreSo heap entries
