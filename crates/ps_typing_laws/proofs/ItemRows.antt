-- Why each `let` is to be an item of a sequence: in a tree that no grammar gives, a kept name would have no scope.
use Rattle.std.proofs.Common.{◌≡◌, refl, pos, List, [], None, true}
use Rattle.std.specs.Prelude.{codes, ℕ}
use Rattle.ps_typing.specs.ps_base.TyView as types
use Rattle.ps_typing.specs.ps_base.declared.line.Line.{Line}
use Rattle.ps_typing.specs.ps_tree.Phrase.{NameAt, Phrase, at, Form, none, more}
use Rattle.ps_typing.specs.ps_tree.Phrase as form
use Rattle.ps_typing.specs.ps_program.declared.place.Place.TheVariants.{Plain}
use Rattle.ps_typing.specs.ps_program.Node.{body}
use Rattle.ps_typing.specs.ps_program.Node as node
use Rattle.ps_typing.specs.Placed as placed
use Rattle.ps_typing.specs.Checking.{◌>>=◌, passes, assigned}
use Rattle.ps_typing.specs.Program.{Typed, check_program}
use Rattle.ps_typing.specs.Items.{LetsAreItems}

abbrev one : Line
one = record { 0 = 1 }

abbrev the : Form → Phrase
the f = at f one

abbrev named : List ℕ → NameAt
named n = record { name = n; line = one }

-- `if true do let x := 1; let f = proc(); x := 2`, which has no text
abbrev let_in_a_branch : Phrase
let_in_a_branch = the (form.Sequence (more (the (form.IfDo (the (form.Flag true)) (the (form.Let (named (codes "x")) true (the (form.Int (pos 1)))))))
    (more (the (form.Let (named (codes "f")) true (the (form.Proc [] types.Void
    (the (form.Assign (the (form.Name (codes "x"))) (the (form.Int (pos 2))))))))) none)))

-- the procedure would assign to a local that it hasn't
without_a_scope : check_program let_in_a_branch
    ≡ Typed (body [] types.Void (node.Block None (node.more (node.IfDo (node.Flag true) (node.Let (Plain 0) types.Int (node.Int (pos 1))))
    (node.more (node.Let (Plain 0) (types.Proc types.none types.Void)
    (node.Proc (body [] types.Void (node.SetName (Plain 0) types.Int (node.Int (pos 2))) None one))) node.none))) None one)
unfolding ◌>>=◌ passes assigned placed.then_give placed.◌>>=◌
without_a_scope = refl

isnt_of_the_grammar : LetsAreItems let_in_a_branch → ⊥
isnt_of_the_grammar h = absurd (let e = h.0.1.0 in cc)
