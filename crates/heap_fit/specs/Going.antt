-- How fit bodies and heaps go on: what stays fit where more is in scope, which procedures a literal makes, and which names hold values.
use Rattle.std.specs.Prelude.{◌≡◌, ℕ, ◌<◌, true, Option, Some, List, [], ◌∷◌, length, map, codes}
use Rattle.ps_heap.specs.ps_base.TyView.{TyView}
use Rattle.ps_soundness.specs.ps_program.Node.{BodyNode}
use Rattle.ps_soundness.specs.ps_program.Node as node
use Rattle.ps_soundness.specs.ps_type_text.Texts.{Field, class_text, IsNamed}
use Rattle.ps_soundness.specs.ps_typing.WellTyped.{At, IsOfType}
use Rattle.ps_heap.specs.Values.{Value, Procedure, as_written}
use Rattle.ps_heap.specs.Objects.{Heap, Object, Scope, object_at, value_at}
use Rattle.ps_heap.specs.References.{values_of}
use Rattle.ps_heap.specs.Held.{StoredHeap}
use Rattle.ps_heap.specs.reaching.Reaching.{IsIn}
use Rattle.database_meaning.specs.Same.{IsInHeap}
use Rattle.heap_fit.specs.Slots.{mentions}
use Rattle.heap_fit.specs.Bodies.{Level, InScope, IsFit, IsFitBody}
use Rattle.heap_fit.specs.Heaps.{AreRound, IsFitValue, HasPart, IsOut, IsFitHeap}

-- the same scopes, in which as many names have had their declarations or more, and further scopes round them
pub record HasMore (level other : Level) : Type 0 where
  pub names : other.names ≡ level.names
  pub declared : (position : ℕ) → position < length level.names → IsIn position level.declared → IsIn position other.declared

abbrev pub HaveMore : (levels others : List Level) → Type 0
HaveMore [] others = Unit {0}
HaveMore (level ∷ levels) (other ∷ others) = HasMore level other × HaveMore levels others
HaveMore (level ∷ levels) [] = ⊥

abbrev pub BodiesStayFit : Type 0
BodiesStayFit = (levels others : List Level) (of : BodyNode) → HaveMore levels others → IsFitBody levels of → IsFitBody others of

abbrev pub names_of : List Level → List (List Field)
names_of levels = map (λ level. level.names) levels

-- A literal in a fit clause makes a fit procedure, over scopes with the names that the clause has round it.
abbrev pub LiteralsMakeFitProcedures : Type 0
LiteralsMakeFitProcedures = (heap : Heap) (env : InScope) (of : BodyNode) (ty : TyView) (scope : Option ℕ) → IsFit env (node.Proc of) ty
    → AreRound heap scope (names_of env.levels) → IsFitValue heap ty (Procedure (as_written of) scope)

-- A name that a procedure in a fit heap mentions holds a value of its type, in whichever scope round the procedure it is.
abbrev pub MentionedNamesHoldValues : Type 0
MentionedNamesHoldValues = (stored : StoredHeap) (holder : ℕ) (object : Object) (of : BodyNode) (scope : Option ℕ) (out position id : ℕ) (names : List Field) (parent : Option ℕ)
    (values : List Value) (ty : TyView) → IsFitHeap stored → IsInHeap stored holder → object_at stored.objects holder ≡ Some object
    → HasPart (Procedure (as_written of) scope) (values_of object) → IsOut stored.objects id scope out → mentions out position of ≡ true
    → object_at stored.objects id ≡ Some (Scope (class_text (codes "scope") names) parent values) → IsNamed (codes "scope") names → At (IsOfType ty) names position
    → IsFitValue stored.objects ty (value_at values position)
