-- An object stays where a text is made.
use Rattle.std.proofs.Common.{ℕ, List, Ok, Err, sym, subst}
use Rattle.std.specs.Prelude.{Result}
use Rattle.proc_values.specs.swizzle.declared.fault.SwizzleFault.{SwizzleFault}
use Rattle.proc_values.specs.swizzle.Heap.{Heap, IsHeld}
use Rattle.proc_values.proofs.of_swizzle.MadeLaws.{made-other}
use Rattle.proc_values.specs.heap_texts.Texts.{MakesText, text_object}

pub still-held : (old new : Heap) (bytes : List ℕ) (result : Result ℕ SwizzleFault) (object : ℕ)
    → MakesText old new bytes result → IsHeld old object → IsHeld new object
still-held old new bytes (Ok at) object made held = (made-other old new at (text_object bytes) object made held).0
still-held old new bytes (Err fault) object full held = subst (λ (heap : Heap). IsHeld heap object) (sym full.stays) held
