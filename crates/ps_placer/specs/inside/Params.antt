-- Parameters with their places, and the text of a scope in a box.
use Rattle.std.specs.Prelude.{ℕ, List, map, Option, option_map}
use Rattle.std.specs.declared.boxed.Box.{Box}
use Rattle.std.specs.declared.alloc.Global.{Global}
use Rattle.ps_base.specs.declared.bytes.Bytes.{Bytes}
use Rattle.ps_program.specs.Node.{Param}
use Rattle.ps_typing.specs.Placing.{Around, Locals, place_of}

abbrev pub text_in : Option (Box Bytes Global) → Option (List ℕ)
text_in = option_map (λ (bytes : Box Bytes Global). bytes.value)

abbrev pub placed_params : Around → Locals → List Param → List Param
placed_params around locals params = map (λ (param : Param). record param { place = place_of around locals param.place }) params
