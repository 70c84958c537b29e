-- The units of programs, computed: the emission table on worked examples.
use Rattle.std.proofs.Common.{◌≡◌, ℕ, [], ◌∷◌, refl, pos, true, false, None, Some}
use Rattle.std.specs.Prelude.{codes}
use Rattle.ps_base.specs.TyView as ty
use Rattle.ps_base.specs.Instr.{spelled, word}
use Rattle.ps_base.specs.CodeUnit.{unit, text, literal, no_constants, constant_then}
use Rattle.ps_base.specs.declared.line.Line.{Line}
use Rattle.ps_base.specs.declared.operator.Operator.TheVariants.{Add}
use Rattle.ps_base.specs.declared.operator.Relation.TheVariants.{Less}
use Rattle.ps_base.specs.declared.instr.Instr.{Instr}
use Rattle.ps_base.specs.declared.instr.Instr.TheVariants as instr
use Rattle.ps_program.specs.declared.place.Place.TheVariants.{Plain, Kept}
use Rattle.ps_program.specs.Node.{Node, Nodes, none, more, Arms, no_arms, more_arms, arm, BodyNode, body}
use Rattle.ps_program.specs.Node as node
use Rattle.ps_gen.specs.Emission.{emit}
use Rattle.ps_gen.specs.Units.{constants, unit_of}

abbrev line : ℕ → Line
line n = record { 0 = n }

abbrev num : ℕ → Node
num n = node.Int (pos n)

abbrev int : ℕ → Instr
int n = instr.Int (pos n)

abbrev write : Node → Node
write e = node.Write e node.Empty false ty.Int (line 1)

abbrev wrote : Instr
wrote = instr.WriteI 0 (line 1)

-- `int 3` has the spelling 01 03 00 00 00
int_is_spelled : spelled (int 3 ∷ []) ≡ 1 ∷ 3 ∷ 0 ∷ 0 ∷ 0 ∷ []
unfolding word
int_is_spelled = refl

-- write 1 + 2, "'n" ?
sum_is_emitted : emit (node.Block None (more (write (node.Arith Add (num 1) (num 2) (line 1))) (more (node.Write (node.Text (codes "\n")) node.Empty false ty.Str (line 1)) none))) 0 1
    ≡ int 1 ∷ int 2 ∷ instr.Add (line 1) ∷ wrote ∷ instr.Text 1 ∷ instr.WriteT 0 (line 1) ∷ []
sum_is_emitted = refl

-- if 1 < 2 then write 1 else write 2
choice_is_emitted : emit (node.IfElse (node.Compare Less ty.Int (num 1) (num 2)) (write (num 1)) (write (num 2))) 100 1
    ≡ int 1 ∷ int 2 ∷ instr.LtM ∷ instr.JumpFalse 135 ∷ int 1 ∷ wrote ∷ instr.Jump 149 ∷ int 2 ∷ wrote ∷ []
choice_is_emitted = refl

-- while true do write 1, and repeat write 1 while true do write 2
loop_is_emitted : emit (node.While (node.Flag true) (write (num 1))) 0 1 ≡ instr.Jump 19 ∷ int 1 ∷ wrote ∷ instr.True ∷ instr.Again 5 ∷ []
loop_is_emitted = refl

repeat_is_emitted : emit (node.Repeat (write (num 1)) (node.Flag true) (write (num 2))) 0 1
    ≡ instr.Jump 19 ∷ int 2 ∷ wrote ∷ int 1 ∷ wrote ∷ instr.True ∷ instr.Again 5 ∷ []
repeat_is_emitted = refl

-- for i = 1 to 3 do write i
for_is_emitted : emit (node.For 0 (num 1) (num 3) (num 1) None (Plain 3) (write (node.Name (Plain 3) ty.Int)) (line 1)) 0 1
    ≡ int 1 ∷ instr.SetM 0 ∷ int 3 ∷ instr.SetM 1 ∷ int 1 ∷ instr.SetM 2 ∷ instr.ForStart 0 76 (line 1)
    ∷ instr.GetM 0 ∷ instr.SetM 3 ∷ instr.GetM 3 ∷ wrote ∷ instr.ForNext 0 43 ∷ []
for_is_emitted = refl

-- case 2 of 1, 2 : write 5; default : write 6
case_is_emitted : emit (node.Case (num 2) (more_arms (arm (more (num 1) (more (num 2) none)) (write (num 5))) no_arms) (write (num 6)) ty.Int) 0 1
    ≡ int 2
    ∷ instr.DupM ∷ int 1 ∷ instr.EqM ∷ instr.JumpTrue 34
    ∷ instr.DupM ∷ int 2 ∷ instr.EqM ∷ instr.JumpTrue 34
    ∷ instr.Jump 54 ∷ instr.DropM ∷ int 5 ∷ wrote ∷ instr.Jump 69
    ∷ instr.DropM ∷ int 6 ∷ wrote ∷ []
case_is_emitted = refl

-- the empty program: a return alone, and the type of the program as its one constant
empty_unit : unit_of (body [] ty.Void (node.Block None none) None (line 1))
    ≡ unit (62 ∷ 0 ∷ 0 ∷ 0 ∷ 0 ∷ []) (constant_then (text (codes "proc()")) no_constants) (record { nums = 0; refs = 0; num_params = 0; ref_params = 0 })
unfolding word
empty_unit = refl

-- a block that keeps a name: `let n := 0; proc( -> int); { n := n + 1; n }`
abbrev kept : Node
kept = node.Name (Kept 0 0) ty.Int

abbrev counter : BodyNode
counter = body [] ty.Int (node.Block None (more (node.SetName (Kept 0 0) ty.Int (node.Arith Add kept (num 1) (line 3))) (more kept none))) None (line 2)

block_keeps_a_name : emit (node.Block (Some (codes "scope(int n)")) (more (node.Let (Kept 0 0) ty.Int (num 0)) (more (node.Proc counter) none))) 0 1
    ≡ instr.Scope 1 ∷ int 0 ∷ instr.KeepM 0 0 ∷ instr.Closure 2 ∷ instr.Leave ∷ []
block_keeps_a_name = refl

literal_is_a_constant : constants (node.Proc counter)
    ≡ literal (unit (spelled (instr.KeptM 0 0 ∷ int 1 ∷ instr.Add (line 3) ∷ instr.KeepM 0 0 ∷ instr.KeptM 0 0 ∷ instr.Return 1 ∷ []))
    (constant_then (text (codes "proc(->int)")) no_constants) (record { nums = 0; refs = 0; num_params = 0; ref_params = 0 })) ∷ []
literal_is_a_constant = refl
