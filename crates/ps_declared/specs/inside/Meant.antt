-- A class that is meant, and whether an object is of it.
use Rattle.std.specs.Prelude.{ℕ, Bool, List, Option, Some, None, if◌then◌else◌}
use Rattle.ps_program.specs.Node.{Node}
use Rattle.ps_program.specs.Node as node
use Rattle.ps_scope.specs.ps_typing.Names.{Meaning, class}

-- a class, where one is meant
abbrev pub class_meant : Option Meaning → Option Meaning
class_meant (Some (class text fields)) = Some (class text fields)
class_meant _ = None

abbrev pub class_test : Bool → Node → List ℕ → Node
class_test negated e of = if negated then node.Not (node.Is e of) else node.Is e of
