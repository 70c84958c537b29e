-- A text with a procedure that assigns to a name outside it, and the program that it is, which runs.
use Rattle.std.proofs.Common.{◌≡◌, ℕ, List, [], true, false, refl}
use Rattle.std.specs.Prelude.{None, Some, codes}
use Rattle.ps_base.specs.TyView as types
use Rattle.ps_base.specs.declared.line.Line.{Line}
use Rattle.ps_typing_laws.specs.ps_tree.Phrase.{NameAt, Phrase, at, none, more}
use Rattle.ps_typing_laws.specs.ps_tree.Phrase as form
use Rattle.ps_program.specs.declared.place.Place.{Place}
use Rattle.ps_program.specs.declared.place.Place.TheVariants.{Plain, Kept}
use Rattle.ps_program.specs.Node.{BodyNode, body}
use Rattle.ps_program.specs.Node as node
use Rattle.ps_typing_laws.specs.ps_typing.Checking as checking
use Rattle.ps_typing_laws.specs.ps_typing.Items.{LetsAreItems}
use Rattle.ps_typing_laws.specs.ps_typing.Placed as placed
use Rattle.ps_typing_laws.specs.ps_typing.Program.{Typed, check_program}
use Rattle.ps_fit_laws.specs.ps_soundness.Running.{BodyRuns, RunsIn}
use Rattle.ps_fit_laws.specs.ps_leaf_laws.Leaves.{LeavesFit}
use Rattle.ps_running_laws.proofs.OfProgram.{program_runs}

abbrev one : Line
one = record { 0 = 1 }

abbrev here : form.Form → Phrase
here f = at f one

abbrev named : List ℕ → NameAt
named name = record { name = name; line = one }

-- `let x := ""; procedure f(); x := read.a.line(); f()`
abbrev tree : Phrase
tree = here (form.Sequence (more (here (form.Let (named (codes "x")) true (here (form.Text []))))
    (more (here (form.Let (named (codes "f")) false (here (form.Proc [] types.Void
    (here (form.Assign (here (form.Name (codes "x"))) (here (form.Apply (here (form.Name (codes "read.a.line"))) none))))))))
    (more (here (form.Apply (here (form.Name (codes "f"))) none)) none))))

-- the body of `f`, with `x` at a place
abbrev assigns : Place → BodyNode
assigns place = body [] types.Void (node.SetName place types.Str (node.Lib 9 node.none one)) None one

abbrev program : BodyNode
program = body [] types.Void (node.Block (Some (codes "scope(string x)")) (node.more (node.Let (Kept 0 0) types.Str (node.Text []))
    (node.more (node.Let (Plain 0) (types.Proc types.none types.Void) (node.Proc (assigns (Kept 0 0))))
    (node.more (node.Call (node.Name (Plain 0) (types.Proc types.none types.Void)) node.none one) node.none)))) None one

is_program : check_program tree ≡ Typed program
unfolding checking.passes checking.◌>>=◌ checking.assigned placed.◌>>=◌ placed.then_give
is_program = refl

runs : LetsAreItems tree → LeavesFit tree → BodyRuns [] program
runs lets leaves = program_runs tree program lets is_program leaves

-- the same literal doesn't run where no scope is round it
nowhere : RunsIn (Some []) (node.Proc (assigns (Kept 0 0))) → ⊥
nowhere h = absurd h.1.0
