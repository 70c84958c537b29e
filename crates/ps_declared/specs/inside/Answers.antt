-- What the functions of the check answer.
use Rattle.std.specs.Prelude.{◌≡◌, Option, Some, None, Result, MatchResult}
use Rattle.ps_base.specs.TyView.{TyView, ty_view}
use Rattle.ps_program.specs.declared.form.Tree.{Tree}
use Rattle.ps_program.specs.Node.{Node}
use Rattle.ps_program.specs.NodeView.{node_of}
use Rattle.ps_tree.specs.Phrase.{Form}
use Rattle.ps_scope.specs.Content.{Content, names_of}
use Rattle.ps_scope.specs.ps_typing.Fault.{Fault}
use Rattle.ps_scope.specs.ps_typing.Names.{Names}
use Rattle.ps_scope.specs.ps_typing.Checking.{Outcome, Gives, Refuses, check_form}
use Rattle.ps_declared.specs.Faults.{fault_of}
use Rattle.ps_declared.specs.declared.clause.Clause.{Clause}
use Rattle.ps_declared.specs.declared.fault.CheckFault.{CheckFault}

-- this is the fault, where there is one
abbrev pub Refused : {A : Type 0} → Outcome A → Option Fault → Type 0
Refused outcome None = Unit {0}
Refused outcome (Some fault) = outcome ≡ Refuses fault

-- where it isn't for want of memory, this is the fault
pub record IsFault {A : Type 0} (outcome : Outcome A) (fault : CheckFault) : Type 0 where
  pub is : Refused outcome (fault_of fault)

-- a clause, with its tree and its type, and the names after it
abbrev pub IsClause : Outcome Node → Result Clause CheckFault → Content → Type 0
IsClause outcome result scope = MatchResult result (λ clause. outcome ≡ Gives (node_of clause.tree) (ty_view clause.ty) (names_of scope)) (IsFault outcome)

-- the tree of a clause whose type is known
abbrev pub IsOfType : TyView → Outcome Node → Result Tree CheckFault → Content → Type 0
IsOfType ty outcome result scope = MatchResult result (λ tree. outcome ≡ Gives (node_of tree) ty (names_of scope)) (IsFault outcome)

-- a clause with this tree and this type is made, or there is no memory for it
abbrev pub IsMade : Node → TyView → Result Clause CheckFault → Type 0
IsMade tree ty result = MatchResult result (λ clause. (node_of clause.tree ≡ tree) × (ty_view clause.ty ≡ ty)) (λ fault. fault_of fault ≡ None)

-- the only fault is want of memory
abbrev pub IsMemory : CheckFault → Type 0
IsMemory fault = fault_of fault ≡ None

-- a form whose own line doesn't matter
abbrev pub check_unlined : Names → Form → Outcome Node
check_unlined names form = check_form names (record { 0 = 0 }) form
