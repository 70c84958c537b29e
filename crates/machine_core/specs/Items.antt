-- What a write writes.
use Rattle.std.specs.Prelude.{◌≡◌, ℕ, List}
use Rattle.std.specs.Fmt.{signed_decimal}
use Rattle.joint_ops.specs.obj_layout.declared.kind.Kind.TheVariants.{Text}
use Rattle.joint_ops.specs.swizzle.Heap as area
use Rattle.joint_ops.specs.swizzle.Heap.{IsHeld, header_at}
use Rattle.joint_ops.specs.swizzle.Text.{text_at}
use Rattle.ps_stepping.specs.ps_heap.Values.{flag_text}
use Rattle.ps_stepping.specs.ps_meaning.Meaning.{in_places}
use Rattle.machine_core.specs.declared.stepped.Item.{Item}
use Rattle.machine_core.specs.declared.stepped.Item.TheVariants as item
use Rattle.machine_core.specs.declared.stepped.Writing.{Writing}

-- the text of an item; that of a text lies in the area
abbrev pub item_text : area.Heap → Item → List ℕ
item_text here (item.Int z) = signed_decimal z
item_text here (item.Flag b) = flag_text b
item_text here (item.Text at) = text_at here at

abbrev pub IsItem : area.Heap → Item → Type 0
IsItem here (item.Text at) = IsHeld here at × ((header_at here at).kind ≡ Text)
IsItem here _ = Unit {0}

-- its item, right in its places
abbrev pub text_of : area.Heap → Writing → List ℕ
text_of here w = in_places w.width (item_text here w.item)
