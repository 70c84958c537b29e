-- The programs, or the first faults, of worked trees.
use Rattle.std.proofs.Common.{◌≡◌, refl, ℕ, pos, List, [], ◌∷◌, None, Some, false, true}
use Rattle.std.specs.Prelude.{codes, replicate}
use Rattle.ps_tree.specs.ps_base.TyView.{TyView}
use Rattle.ps_tree.specs.ps_base.TyView as types
use Rattle.ps_tree.specs.ps_base.declared.line.Line.{Line}
use Rattle.ps_tree.specs.ps_base.declared.operator.Operator.TheVariants.{Add}
use Rattle.ps_tree.specs.Phrase.{NameAt, GroupAt, Phrase, at, Form, Phrases, none, more, absent, present, item, no_items, more_items}
use Rattle.ps_tree.specs.Phrase as form
use Rattle.ps_program.specs.declared.place.Place.TheVariants.{Plain, Kept}
use Rattle.ps_program.specs.Node.{Node, Nodes, body}
use Rattle.ps_program.specs.Node as node
use Rattle.ps_typing.specs.Placed as placed
use Rattle.ps_typing.specs.Fault.{Unknown, Twice, Mismatch, NotAssignable, NotApplicable, TooComplex}
use Rattle.ps_typing.specs.Checking.{◌>>=◌, passes, assigned}
use Rattle.ps_typing.specs.Program.{Typed, Fails, check_program}

abbrev on : ℕ → Line
on n = record { 0 = n }

abbrev named : List ℕ → NameAt
named n = record { name = n; line = on 1 }

abbrev group : TyView → List ℕ → GroupAt
group t n = record { ty = t; name = named n }

abbrev the : Form → Phrase
the f = at f (on 1)

abbrev int : ℕ → Phrase
int n = the (form.Int (pos n))

abbrev name : List ℕ → Phrase
name n = the (form.Name n)

abbrev two : Phrase → Phrase → Phrases
two a b = more a (more b none)

abbrev program : Phrases → Phrase
program items = the (form.Sequence items)

abbrev block : Nodes → Node
block items = node.Block None items

-- `structure box(int n)`, `let x = box(1)`, `x(n) := 2`: a class, an object, and the field of an object assigned
structures : check_program (program (more (the (form.Structure (named (codes "box")) (group types.Int (codes "n") ∷ [])))
    (two (the (form.Let (named (codes "x")) false (the (form.Apply (name (codes "box")) (more (int 1) none)))))
    (the (form.Assign (the (form.Apply (name (codes "x")) (more (name (codes "n")) none))) (int 2))))))
    ≡ Typed (body [] types.Void (block (node.more node.Class (node.more (node.Let (Plain 0) types.Pntr (node.Make (codes "box(int n)") (node.more (node.Int (pos 1)) node.none)))
    (node.more (node.SetField (node.Name (Plain 0) types.Pntr) (codes "box(int n)") 0 types.Int (node.Int (pos 2)) (on 1)) node.none)))) None (on 1))
unfolding ◌>>=◌ passes assigned placed.then_give placed.◌>>=◌
structures = refl

-- `let f = proc(int n -> int); f(n)`: the name of a literal is in scope inside it, and is kept
itself : check_program (program (more (the (form.Let (named (codes "f")) false (the (form.Proc (group types.Int (codes "n") ∷ []) types.Int (the (form.Apply (name (codes "f")) (more (name (codes "n")) none))))))) none))
    ≡ Typed (body [] types.Void (node.Block (Some (codes "scope(proc(int->int) f)")) (node.more (node.Let (Kept 0 0) (types.Proc (types.more types.Int types.none) types.Int)
    (node.Proc (body (record { ty = types.Int; place = Plain 0 } ∷ []) types.Int (node.Call (node.Name (Kept 0 0) (types.Proc (types.more types.Int types.none) types.Int)) (node.more (node.Name (Plain 0) types.Int) node.none) (on 1)) None (on 1)))) node.none)) None (on 1))
unfolding ◌>>=◌ passes assigned placed.then_give placed.◌>>=◌
itself = refl

-- `let v = vector 1::3 of vector 1::2 of true`, `v(1, 2) := false`
elements : check_program (program (two (the (form.Let (named (codes "v")) false (the (form.Vector (int 1) (int 3) (the (form.Vector (int 1) (int 2) (the (form.Flag true))))))))
    (the (form.Assign (the (form.Apply (name (codes "v")) (two (int 1) (int 2)))) (the (form.Flag false))))))
    ≡ Typed (body [] types.Void (block (node.more (node.Let (Plain 0) (types.Vector (types.Vector types.Bool)) (node.Fill (node.Int (pos 1)) (node.Int (pos 3)) (node.Fill (node.Int (pos 1)) (node.Int (pos 2)) (node.Flag true) (types.Vector types.Bool) (on 1)) (types.Vector (types.Vector types.Bool)) (on 1)))
    (node.more (node.SetElement (node.Element (node.Name (Plain 0) (types.Vector (types.Vector types.Bool))) (node.Int (pos 1)) (types.Vector types.Bool) (on 1)) (node.Int (pos 2)) (node.Flag false) types.Bool (on 1)) node.none))) None (on 1))
unfolding ◌>>=◌ passes assigned placed.then_give placed.◌>>=◌
elements = refl

-- `write "a" + 1`
string_added : check_program (program (more (the (form.Write (more_items (item (the (form.Arith Add (the (form.Text (codes "a"))) (int 1))) absent (on 1)) no_items))) none)) ≡ Fails (Mismatch (on 1) types.Str types.Int)
unfolding ◌>>=◌ passes assigned placed.then_give placed.◌>>=◌
string_added = refl

-- `x`
unknown : check_program (program (more (name (codes "x")) none)) ≡ Fails (Unknown (on 1))
unfolding ◌>>=◌ passes assigned placed.then_give placed.◌>>=◌
unknown = refl

-- `length`, a library procedure that isn't applied
not_applied : check_program (program (more (name (codes "length")) none)) ≡ Fails (NotApplicable (on 1))
unfolding ◌>>=◌ passes assigned placed.then_give placed.◌>>=◌
not_applied = refl

-- `let x = 1; x := 2`
constant_assigned : check_program (program (two (the (form.Let (named (codes "x")) false (int 1))) (the (form.Assign (name (codes "x")) (int 2))))) ≡ Fails (NotAssignable (on 1))
unfolding ◌>>=◌ passes assigned placed.then_give placed.◌>>=◌
constant_assigned = refl

-- `let x = 1; let x = 2`, and the same with a block between
twice : check_program (program (two (the (form.Let (named (codes "x")) false (int 1))) (the (form.Let (named (codes "x")) false (int 2))))) ≡ Fails (Twice (on 1))
unfolding ◌>>=◌ passes assigned placed.then_give placed.◌>>=◌
twice = refl

across_blocks : check_program (program (two (the (form.Let (named (codes "x")) false (int 1))) (program (more (the (form.Let (named (codes "x")) false (int 2))) none))))
    ≡ Typed (body [] types.Void (block (node.more (node.Let (Plain 0) types.Int (node.Int (pos 1))) (node.more (block (node.more (node.Let (Plain 1) types.Int (node.Int (pos 2))) node.none)) node.none))) None (on 1))
unfolding ◌>>=◌ passes assigned placed.then_give placed.◌>>=◌
across_blocks = refl

-- `structure box(int n); box`, a class that isn't applied
class_not_applied : check_program (program (two (the (form.Structure (named (codes "box")) (group types.Int (codes "n") ∷ []))) (name (codes "box")))) ≡ Fails (NotApplicable (on 1))
unfolding ◌>>=◌ passes assigned placed.then_give placed.◌>>=◌
class_not_applied = refl

-- `nil(1)`, a pointer applied to what is no name
no_field : check_program (program (more (the (form.Apply (the form.Nil) (more (int 1) none))) none)) ≡ Fails (NotApplicable (on 1))
unfolding ◌>>=◌ passes assigned placed.then_give placed.◌>>=◌
no_field = refl

-- `let v = @1 of int[0, .., 0]` of so many elements: a local, and the lower bound and the elements on the stack
abbrev zeros : List ℕ → Phrases
zeros [] = none
zeros (n ∷ ns) = more (int n) (zeros ns)

abbrev zero_nodes : List ℕ → Nodes
zero_nodes [] = node.none
zero_nodes (n ∷ ns) = node.more (node.Int (pos n)) (zero_nodes ns)

abbrev with_elements : ℕ → Phrase
with_elements count = program (more (the (form.Let (named (codes "v")) false (the (form.Elems (int 1) types.Int (zeros (replicate count 0)))))) none)

-- 512 slots, and 513
at_the_limit : check_program (with_elements 510) ≡ Typed (body [] types.Void (block (node.more (node.Let (Plain 0) (types.Vector types.Int)
    (node.Elems (node.Int (pos 1)) (zero_nodes (replicate 510 0)) (types.Vector types.Int) (on 1))) node.none)) None (on 1))
unfolding ◌>>=◌ passes assigned placed.then_give placed.◌>>=◌
at_the_limit = refl

too_complex : check_program (with_elements 511) ≡ Fails (TooComplex (on 1) 513)
unfolding ◌>>=◌ passes assigned placed.then_give placed.◌>>=◌
too_complex = refl
