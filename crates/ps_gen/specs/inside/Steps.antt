-- What single calls do.
use Rattle.std.specs.Prelude.{◌≡◌, ℕ, ◌+◌, true, false, List, [], Option}
use Rattle.std.specs.Borrow.{Bor}
use Rattle.std.specs.List.{AllByRecursion}
use Rattle.ps_base.specs.CodeUnit.{UnitView, unit}
use Rattle.ps_base.specs.TyView.{TyView}
use Rattle.ps_base.specs.declared.instr.Instr.TheVariants as instr
use Rattle.ps_program.specs.declared.form.Tree.{Tree}
use Rattle.ps_program.specs.Node.{Param, Node, BodyNode}
use Rattle.ps_program.specs.Node as node
use Rattle.ps_emitter.specs.ps_typing.Locals.{taken_by_params}
use Rattle.ps_emitter.specs.Choices as choice
use Rattle.ps_emitter.specs.Giving.{type_of}
use Rattle.ps_emitter.specs.Pieces.{State, Puts, AreInstrs, one, constant}
use Rattle.ps_emitter.specs.Chains.{Chained, called, type_in}
use Rattle.ps_emitter.specs.declared.known.Known.{Known}
use Rattle.ps_emitter.specs.declared.frame.Counts.{Counts}
use Rattle.ps_gen.specs.Units.{unit_of, type_constant, row_of}
use Rattle.ps_gen.specs.inside.Literals.{literals_in}
use Rattle.ps_gen.specs.inside.Clauses.{clause, entering, keeping}

-- a part of the whole whose code stands, with what is known of its type and the links around it
pub record Stands (whole : Node) (links : List (Bor Tree)) (known : Known) (start now : State) : Type 0 where
  pub inner : Node
  pub chained : Chained whole links inner
  pub knows : called (type_in known) ≡ called (type_of inner)
  pub puts : Puts (clause inner) start now

-- what stands in the code of a body before that of its clause: the type of the procedure, the scope, and what is kept of the parameters
pub record IsBegun (params : List Param) (gives : TyView) (scope : Option (List ℕ)) (counts : Counts) (now : State) : Type 0 where
  pub typed : State
  pub scoped : State
  pub type : Puts (constant (type_constant params gives)) (record { code = []; constants = []; nums = 0; refs = 0 }) typed
  pub enter : Puts (entering scope) typed scoped
  pub keep : Puts (keeping params 0 0) scoped now
  pub nums : counts.nums ≡ taken_by_params true params
  pub refs : counts.refs ≡ taken_by_params false params

-- the unit that the code of a body ends as, after that of its clause
pub record Ends (gives : TyView) (counts : Counts) (now : State) (made : UnitView) : Type 0 where
  pub end : State
  pub puts : Puts (one (instr.Return (choice.kind_of gives))) now end
  pub is : made ≡ unit end.code (row_of end.constants) (record { nums = counts.nums + end.nums; refs = counts.refs + end.refs; num_params = counts.nums; ref_params = counts.refs })

-- this is the unit of a body, which has one, as has each literal inside it
pub record IsUnit (of : BodyNode) (made : UnitView) : Type 0 where
  pub unit : made ≡ unit_of of
  pub units : AllByRecursion AreInstrs (literals_in (node.Proc of))
