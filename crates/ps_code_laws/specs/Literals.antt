-- The bodies of a program: those of its procedure literals, and of the literals inside them. What a run of it holds has no other procedures.
use Rattle.std.specs.Prelude.{◌≡◌, ℕ, ◌≤◌, Bool, true, List}
use Rattle.std.specs.List.{AllByRecursion}
use Rattle.ps_gen.specs.ps_base.TyView.{TyView}
use Rattle.ps_gen.specs.ps_program.Node.{Node, Nodes, none, more, Arms, no_arms, more_arms, arm, BodyNode, body}
use Rattle.ps_gen.specs.ps_program.Node as node
use Rattle.ps_gen.specs.ps_program.Slots.{slot_count}
use Rattle.ps_stepping.specs.ps_heap.Values.{Value, Procedure, as_written}
use Rattle.ps_stepping.specs.ps_heap.Objects.{Heap, Object, Structure, Elements, Scope, Keyed}
use Rattle.ps_stepping.specs.ps_heap.References.{values_of}
use Rattle.ps_stepping.specs.ps_meaning.Meaning.{Frame}
use Rattle.ps_soundness.specs.Valued.{IsValued}
use Rattle.ps_soundness.specs.Shapes.{type_of_body}
use Rattle.ps_gen.specs.ps_base.declared.instr.Instr.{Instr}
use Rattle.heap_fit.specs.Bodies.{Level, HasDeclared}
use Rattle.ps_gen.specs.Units.{HasUnit, body_instrs}
use Rattle.ps_stepping.specs.Config.{frame_words}

-- each body of a clause is such a one, and each name that is mentioned in it is of such a type
abbrev mutual
  pub BodiesAre : (BodyNode → Type 0) → (TyView → Type 0) → Node → Type 0
  BodiesAre P Q (node.Name place ty) = Q ty
  BodiesAre P Q (node.SetName place ty e) = Q ty × BodiesAre P Q e
  BodiesAre P Q (node.Let place ty e) = Q ty × BodiesAre P Q e
  BodiesAre P Q (node.Block scope items) = AllBodiesAre P Q items
  BodiesAre P Q (node.IfDo c a) = BodiesAre P Q c × BodiesAre P Q a
  BodiesAre P Q (node.IfElse c a b) = BodiesAre P Q c × BodiesAre P Q a × BodiesAre P Q b
  BodiesAre P Q (node.While c a) = BodiesAre P Q c × BodiesAre P Q a
  BodiesAre P Q (node.Repeat a c b) = BodiesAre P Q a × BodiesAre P Q c × BodiesAre P Q b
  BodiesAre P Q (node.For slot a b c scope control s line) = BodiesAre P Q a × BodiesAre P Q b × BodiesAre P Q c × BodiesAre P Q s
  BodiesAre P Q (node.Case e arms d ty) = BodiesAre P Q e × ArmsBodiesAre P Q arms × BodiesAre P Q d
  BodiesAre P Q (node.And a b) = BodiesAre P Q a × BodiesAre P Q b
  BodiesAre P Q (node.Or a b) = BodiesAre P Q a × BodiesAre P Q b
  BodiesAre P Q (node.Not e) = BodiesAre P Q e
  BodiesAre P Q (node.Neg e line) = BodiesAre P Q e
  BodiesAre P Q (node.Plus e) = BodiesAre P Q e
  BodiesAre P Q (node.Arith op a b line) = BodiesAre P Q a × BodiesAre P Q b
  BodiesAre P Q (node.Compare op ty a b) = BodiesAre P Q a × BodiesAre P Q b
  BodiesAre P Q (node.Is e class) = BodiesAre P Q e
  BodiesAre P Q (node.Join a b line) = BodiesAre P Q a × BodiesAre P Q b
  BodiesAre P Q (node.Part a i n line) = BodiesAre P Q a × BodiesAre P Q i × BodiesAre P Q n
  BodiesAre P Q (node.Make class args) = AllBodiesAre P Q args
  BodiesAre P Q (node.Field e class index ty line) = BodiesAre P Q e
  BodiesAre P Q (node.SetField p class index ty e line) = BodiesAre P Q p × BodiesAre P Q e
  BodiesAre P Q (node.Fill l u e ty line) = BodiesAre P Q l × BodiesAre P Q u × BodiesAre P Q e
  BodiesAre P Q (node.Elems l items ty line) = BodiesAre P Q l × AllBodiesAre P Q items
  BodiesAre P Q (node.Element v i ty line) = BodiesAre P Q v × BodiesAre P Q i
  BodiesAre P Q (node.SetElement v i e ty line) = BodiesAre P Q v × BodiesAre P Q i × BodiesAre P Q e
  BodiesAre P Q (node.Bound v upper) = BodiesAre P Q v
  BodiesAre P Q (node.Lib code args line) = AllBodiesAre P Q args
  BodiesAre P Q (node.Write e w wide ty line) = BodiesAre P Q e × BodiesAre P Q w
  BodiesAre P Q (node.Proc of) = BodyIs P Q of
  BodiesAre P Q (node.Call f args line) = BodiesAre P Q f × AllBodiesAre P Q args
  BodiesAre P Q (node.Scan text a f q s line) = BodiesAre P Q a × BodiesAre P Q f
  BodiesAre P Q _ = Unit {0}

  -- a body with those inside it
  pub BodyIs : (BodyNode → Type 0) → (TyView → Type 0) → BodyNode → Type 0
  BodyIs P Q (body params gives tree scope line) = P (body params gives tree scope line) × BodiesAre P Q tree

  pub AllBodiesAre : (BodyNode → Type 0) → (TyView → Type 0) → Nodes → Type 0
  AllBodiesAre P Q none = Unit {0}
  AllBodiesAre P Q (more first rest) = BodiesAre P Q first × AllBodiesAre P Q rest

  pub ArmsBodiesAre : (BodyNode → Type 0) → (TyView → Type 0) → Arms → Type 0
  ArmsBodiesAre P Q no_arms = Unit {0}
  ArmsBodiesAre P Q (more_arms (arm labels a) rest) = AllBodiesAre P Q labels × BodiesAre P Q a × ArmsBodiesAre P Q rest

-- a procedure has such bodies, and its names are of types that have values; and so it is of the procedures in values, objects and frames
abbrev pub ValueIs : (BodyNode → Type 0) → Value → Type 0
ValueIs P (Procedure (as_written of) scope) = BodyIs P IsValued of
ValueIs P (Procedure does scope) = ⊥
ValueIs P v = Unit {0}

abbrev pub ValuesAre : (BodyNode → Type 0) → List Value → Type 0
ValuesAre P vs = AllByRecursion (ValueIs P) vs

abbrev pub ObjectIs : (BodyNode → Type 0) → Object → Type 0
ObjectIs P (Structure class fields) = ValuesAre P fields
ObjectIs P (Elements ty low elements) = ValuesAre P elements
ObjectIs P (Scope text parent names) = ValuesAre P names
ObjectIs P (Keyed table) = Unit {0}

abbrev pub HeapIs : (BodyNode → Type 0) → Heap → Type 0
HeapIs P heap = AllByRecursion (ObjectIs P) heap

abbrev pub FrameIs : (BodyNode → Type 0) → Frame → Type 0
FrameIs P frame = ((slot : ℕ) → ValueIs P (frame.nums slot)) × ((slot : ℕ) → ValueIs P (frame.refs slot))

-- a procedure as it is written has a unit, and so has each literal in it
abbrev pub HasUnits : Value → Type 0
HasUnits (Procedure (as_written of) scope) = BodyIs HasUnit (λ ty. Unit {0}) of
HasUnits v = Unit {0}

-- the procedures of a heap, as they are written, have units
abbrev pub HaveUnits : Heap → Type 0
HaveUnits heap = AllByRecursion (λ (object : Object). AllByRecursion HasUnits (values_of object)) heap

-- What the machine needs of each body: what it takes and gives are values, it is not too large for a frame, and each of its instructions can be spelled.
pub record Fits (of : BodyNode) : Type 0 where
  pub valued : IsValued (type_of_body of)
  pub slots : slot_count of ≤ frame_words
  pub unit : HasUnit of

-- the instructions of a body
abbrev pub instrs_of : BodyNode → List Instr
instrs_of (body params gives tree scope line) = body_instrs params gives tree scope

-- what is needed where these instructions may run: each of the body may
pub record FitsBy (may : Instr → Bool) (of : BodyNode) : Type 0 where
  pub fits : Fits of
  pub each_may : AllByRecursion (λ i. may i ≡ true) (instrs_of of)

-- the names that have had their declarations are of types that have values
abbrev pub IsLevelValued : Level → Type 0
IsLevelValued level = (position : ℕ) (ty : TyView) → HasDeclared position ty level → IsValued ty

abbrev pub AreLevelsValued : List Level → Type 0
AreLevelsValued levels = AllByRecursion IsLevelValued levels
