-- The kinds of objects, and the numbers that stand for them.
use Rattle.std.specs.Prelude.{ℕ, Option, Some, None, ◌==◌, if◌then◌else◌}
use Rattle.obj_layout.specs.declared.kind.Kind.{Kind}
use Rattle.obj_layout.specs.declared.kind.Kind.TheVariants.{Text, Structure, Vector, Scope, Closure, Code, Table, Node, Directory}

-- the number of a kind
abbrev pub kind_number : Kind → ℕ
kind_number Text = 1
kind_number Structure = 2
kind_number Vector = 3
kind_number Scope = 4
kind_number Closure = 5
kind_number Code = 6
kind_number Table = 7
kind_number Node = 8
kind_number Directory = 9

-- the kind of a number
abbrev pub kind_numbered : ℕ → Option Kind
kind_numbered number =
    if number == 1 then Some Text else
    if number == 2 then Some Structure else
    if number == 3 then Some Vector else
    if number == 4 then Some Scope else
    if number == 5 then Some Closure else
    if number == 6 then Some Code else
    if number == 7 then Some Table else
    if number == 8 then Some Node else
    if number == 9 then Some Directory else None
