-- What holds unless an operation failed as a whole.
use Rattle.std.specs.Prelude.{Result, Ok, Err}
use Rattle.heap_places.specs.heap_texts.declared.fault.OpFault.{OpFault}
use Rattle.heap_places.specs.heap_texts.declared.fault.OpFault.TheVariants.{Trap, Swizzle}

-- whatever the operation answered, but for a full area or a refusal of the store
abbrev pub UnlessFault : {T : Type 0} → Result T OpFault → Type 0 → Type 0
UnlessFault (Ok value) so = so
UnlessFault (Err (Trap trap)) so = so
UnlessFault (Err (Swizzle fault)) so = Unit {0}
