-- The unit of a body: its code, its constants and its frame.
use Rattle.std.specs.Prelude.{ℕ, ◌+◌, true, false, List, [], ◌∷◌, ◌++◌, Option, Some, None, if◌then◌else◌}
use Rattle.ps_base.specs.TyView.{TyView}
use Rattle.ps_base.specs.TyView as types
use Rattle.std.specs.List.{AllByRecursion}
use Rattle.ps_base.specs.Instr.{spelled, IsInstr}
use Rattle.ps_base.specs.CodeUnit.{UnitView, unit, ConstantView, text, literal, ConstantsView, no_constants, constant_then}
use Rattle.ps_base.specs.declared.instr.Instr.{Instr}
use Rattle.ps_base.specs.declared.instr.Instr.TheVariants as instr
use Rattle.ps_base.specs.declared.code_unit.Frame.{Frame}
use Rattle.ps_program.specs.declared.place.Place.{Place}
use Rattle.ps_program.specs.declared.place.Place.TheVariants.{Plain, Kept}
use Rattle.ps_program.specs.Node.{Param, Node, Nodes, none, more, Arms, no_arms, more_arms, arm, BodyNode, body}
use Rattle.ps_program.specs.Node as node
use Rattle.ps_emitter.specs.ps_type_text.Texts.{type_text}
use Rattle.ps_emitter.specs.ps_typing.Placing.{is_number}
use Rattle.ps_emitter.specs.ps_typing.WellTyped.{types_of_params}
use Rattle.ps_emitter.specs.ps_typing.Locals.{locals_on, taken_by_params}
use Rattle.ps_emitter.specs.Choices as choice
use Rattle.ps_gen.specs.Emission.{size_entered, count_scope, entered, emit}

-- a scope keeps an argument: it is pushed from its local, and kept
abbrev pub kept_at : Place → Instr → (ℕ → ℕ → Instr) → List Instr
kept_at (Plain slot) push keep = []
kept_at (Kept up position) push keep = push ∷ keep up position ∷ []

abbrev pub size_kept_at : Place → ℕ
size_kept_at (Plain slot) = 0
size_kept_at (Kept up position) = 14

-- the parameters after so many on each stack
abbrev pub keeps : List Param → ℕ → ℕ → List Instr
keeps [] nums refs = []
keeps (param ∷ rest) nums refs =
    if is_number param.ty then kept_at param.place (instr.GetM nums) (λ u i. instr.KeepM u i) ++ keeps rest (nums + 1) refs
    else kept_at param.place (instr.GetP refs) (λ u i. instr.KeepP u i) ++ keeps rest nums (refs + 1)

abbrev pub size_keeps : List Param → ℕ
size_keeps [] = 0
size_keeps (param ∷ rest) = size_kept_at param.place + size_keeps rest

-- Constant 0 is the type of the procedure. The clause's own begin after it and the scope's.
abbrev pub body_instrs : List Param → TyView → Node → Option (List ℕ) → List Instr
body_instrs params gives tree scope =
    entered scope 1 ++ (keeps params 0 0 ++ (emit tree (size_entered scope + size_keeps params) (1 + count_scope scope) ++ instr.Return (choice.kind_of gives) ∷ []))

abbrev pub scope_constants : Option (List ℕ) → List ConstantView
scope_constants None = []
scope_constants (Some bytes) = text bytes ∷ []

abbrev pub row_of : List ConstantView → ConstantsView
row_of [] = no_constants
row_of (first ∷ rest) = constant_then first (row_of rest)

abbrev pub frame_of : BodyNode → Frame
frame_of (body params gives tree scope line) = record {
  nums = locals_on true (body params gives tree scope line);
  refs = locals_on false (body params gives tree scope line);
  num_params = taken_by_params true params;
  ref_params = taken_by_params false params;
}

abbrev pub type_constant : List Param → TyView → ConstantView
type_constant params gives = text (type_text (types.Proc (types_of_params params) gives))

-- the constants of a clause, in the order of the instructions that name them
abbrev mutual
  pub constants : Node → List ConstantView
  constants (node.Text bytes) = text bytes ∷ []
  constants (node.SetName place ty e) = constants e
  constants (node.Let place ty e) = constants e
  constants (node.Block scope items) = scope_constants scope ++ constants_of_all items
  constants (node.IfDo c a) = constants c ++ constants a
  constants (node.IfElse c a b) = constants c ++ (constants a ++ constants b)
  constants (node.While c a) = constants a ++ constants c
  constants (node.Repeat a c b) = constants b ++ (constants a ++ constants c)
  constants (node.For slot a b c scope control s line) = constants a ++ (constants b ++ (constants c ++ (scope_constants scope ++ constants s)))
  constants (node.Case e arms d ty) = constants e ++ (constants_of_arms arms ++ constants d)
  constants (node.And a b) = constants a ++ constants b
  constants (node.Or a b) = constants a ++ constants b
  constants (node.Not e) = constants e
  constants (node.Neg e line) = constants e
  constants (node.Plus e) = constants e
  constants (node.Arith op a b line) = constants a ++ constants b
  constants (node.Compare op ty a b) = constants a ++ constants b
  constants (node.Is e class) = constants e ++ text class ∷ []
  constants (node.Join a b line) = constants a ++ constants b
  constants (node.Part a i n line) = constants a ++ (constants i ++ constants n)
  constants (node.Make class args) = constants_of_all args ++ text class ∷ []
  constants (node.Field e class index ty line) = constants e ++ text class ∷ []
  constants (node.SetField p class index ty e line) = constants p ++ (constants e ++ text class ∷ [])
  constants (node.Fill l u e ty line) = constants l ++ (constants u ++ (constants e ++ text (type_text ty) ∷ []))
  constants (node.Elems l items ty line) = constants l ++ (constants_of_all items ++ text (type_text ty) ∷ [])
  constants (node.Element v i ty line) = constants v ++ constants i
  constants (node.SetElement v i e ty line) = constants v ++ (constants i ++ constants e)
  constants (node.Bound v upper) = constants v
  constants (node.Proc (body params gives tree scope line)) =
      literal (unit (spelled (body_instrs params gives tree scope))
      (row_of (type_constant params gives ∷ (scope_constants scope ++ constants tree)))
      (frame_of (body params gives tree scope line))) ∷ []
  constants (node.Call f args line) = constants f ++ constants_of_all args
  constants (node.Lib code args line) = constants_of_all args
  constants (node.Scan string a f q s line) = constants a ++ constants f
  constants (node.Write e w wide ty line) = constants e ++ constants w
  constants _ = []

  pub constants_of_all : Nodes → List ConstantView
  constants_of_all none = []
  constants_of_all (more first rest) = constants first ++ constants_of_all rest

  pub constants_of_arms : Arms → List ConstantView
  constants_of_arms no_arms = []
  constants_of_arms (more_arms (arm labels a) rest) = constants_of_all labels ++ (constants a ++ constants_of_arms rest)

-- the unit of a body
abbrev pub unit_of : BodyNode → UnitView
unit_of (body params gives tree scope line) =
    unit (spelled (body_instrs params gives tree scope)) (row_of (type_constant params gives ∷ (scope_constants scope ++ constants tree)))
    (frame_of (body params gives tree scope line))

-- the instructions of a body's own code
abbrev pub instrs_of : BodyNode → List Instr
instrs_of (body params gives tree scope line) = body_instrs params gives tree scope

-- a body has a unit where each of its instructions can be spelled
abbrev pub HasUnit : BodyNode → Type 0
HasUnit of = AllByRecursion IsInstr (instrs_of of)
