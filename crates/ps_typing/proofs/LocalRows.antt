-- How many locals worked clauses take on each stack.
use Rattle.std.proofs.Common.{◌≡◌, refl, ℕ, pos, None, true, false}
use Rattle.ps_tree.specs.ps_base.TyView as types
use Rattle.ps_tree.specs.ps_base.declared.line.Line.{Line}
use Rattle.ps_program.specs.declared.place.Place.TheVariants.{Plain}
use Rattle.ps_program.specs.Node.{Node}
use Rattle.ps_program.specs.Node as node
use Rattle.ps_typing.specs.Locals.{taken_in}

abbrev line : Line
line = record { 0 = 1 }

abbrev int : ℕ → Node
int n = node.Int (pos n)

-- `for i = 1 to 2 do {}`: three numbers, and the control
loop_takes_four : taken_in true (node.For 0 (int 1) (int 2) (int 1) None (Plain 3) node.Empty line) ≡ 4
loop_takes_four = refl

loop_takes_no_reference : taken_in false (node.For 0 (int 1) (int 2) (int 1) None (Plain 3) node.Empty line) ≡ 0
loop_takes_no_reference = refl

-- a scan of a table: three numbers and three references
scan_takes_numbers : taken_in true (node.Scan true (node.Name (Plain 0) types.Pntr) (node.Name (Plain 1) types.Pntr) 2 0 line) ≡ 3
scan_takes_numbers = refl

scan_takes_references : taken_in false (node.Scan true (node.Name (Plain 0) types.Pntr) (node.Name (Plain 1) types.Pntr) 2 0 line) ≡ 3
scan_takes_references = refl
