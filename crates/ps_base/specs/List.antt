-- A list inside a tree, as the list of its items.
use Rattle.std.specs.Prelude.{List}
use Rattle.ps_base.specs.declared.list.List.{List as ListOf}

abbrev pub items_of : {A : Type 0} → ListOf A → List A
items_of list = list.vec.items
