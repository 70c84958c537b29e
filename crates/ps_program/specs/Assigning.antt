-- The assignment of a value to what a clause is: a variable, an element or a field.
use Rattle.std.specs.Prelude.{Option, Some, None}
use Rattle.ps_program.specs.Node.{Node}
use Rattle.ps_program.specs.Node as node

abbrev pub assignment : Node → Node → Option Node
assignment (node.Name place ty) e = Some (node.SetName place ty e)
assignment (node.Element v i ty line) e = Some (node.SetElement v i e ty line)
assignment (node.Field p of index ty line) e = Some (node.SetField p of index ty e line)
assignment _ e = None
