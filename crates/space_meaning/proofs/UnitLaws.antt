-- Where each body fits, each procedure as it is written has a unit.
use Rattle.std.proofs.Common.{ℕ, List, [], ◌∷◌}
use Rattle.std.specs.List.{AllByRecursion}
use Rattle.ps_code_laws.specs.ps_gen.ps_base.TyView.{TyView}
use Rattle.ps_code_laws.specs.ps_gen.ps_program.Node.{Node, Nodes, none, more, Arms, no_arms, more_arms, arm, BodyNode, body}
use Rattle.ps_code_laws.specs.ps_gen.ps_program.Node as node
use Rattle.ps_code_laws.specs.ps_gen.Units.{HasUnit}
use Rattle.ps_code_laws.specs.ps_heap.Values.{Value, Num, Flag, Text, Nil, Pointer, Vector, Procedure, Nothing, as_written, as_compiled}
use Rattle.ps_code_laws.specs.ps_heap.Objects.{Heap, Object, Structure, Elements, Scope, Keyed}
use Rattle.ps_code_laws.specs.ps_heap.Tables.{Entry, without_keys, by_strings, by_ints}
use Rattle.ps_code_laws.specs.ps_heap.References.{pointers, values_of}
use Rattle.ps_code_laws.specs.Literals.{BodiesAre, BodyIs, AllBodiesAre, ArmsBodiesAre, ValueIs, ValuesAre, ObjectIs, HeapIs, Fits}
use Rattle.space_meaning.specs.Stands.{HasUnits}
use Rattle.space_meaning.specs.Keeping.{HaveUnits}

-- what is so of each body and each type is what follows of each
module _ (P R : BodyNode → Type 0) (Q S : TyView → Type 0) (p : (of : BodyNode) → P of → R of) (q : (ty : TyView) → Q ty → S ty) where
  mutual
    clause-weaker : (t : Node) → BodiesAre P Q t → BodiesAre R S t
    clause-weaker (node.Name place ty) k = q ty k
    clause-weaker (node.SetName place ty e) k = (q ty k.0, clause-weaker e k.1)
    clause-weaker (node.Let place ty e) k = (q ty k.0, clause-weaker e k.1)
    clause-weaker (node.Block scope items) k = clauses-weaker items k
    clause-weaker (node.IfDo c a) k = (clause-weaker c k.0, clause-weaker a k.1)
    clause-weaker (node.IfElse c a b) k = (clause-weaker c k.0, clause-weaker a k.1, clause-weaker b k.2)
    clause-weaker (node.While c a) k = (clause-weaker c k.0, clause-weaker a k.1)
    clause-weaker (node.Repeat a c b) k = (clause-weaker a k.0, clause-weaker c k.1, clause-weaker b k.2)
    clause-weaker (node.For slot a b c scope control s line) k = (clause-weaker a k.0, clause-weaker b k.1, clause-weaker c k.2, clause-weaker s k.3)
    clause-weaker (node.Case e arms d ty) k = (clause-weaker e k.0, arms-weaker arms k.1, clause-weaker d k.2)
    clause-weaker (node.And a b) k = (clause-weaker a k.0, clause-weaker b k.1)
    clause-weaker (node.Or a b) k = (clause-weaker a k.0, clause-weaker b k.1)
    clause-weaker (node.Not e) k = clause-weaker e k
    clause-weaker (node.Neg e line) k = clause-weaker e k
    clause-weaker (node.Plus e) k = clause-weaker e k
    clause-weaker (node.Arith op a b line) k = (clause-weaker a k.0, clause-weaker b k.1)
    clause-weaker (node.Compare op ty a b) k = (clause-weaker a k.0, clause-weaker b k.1)
    clause-weaker (node.Is e class) k = clause-weaker e k
    clause-weaker (node.Join a b line) k = (clause-weaker a k.0, clause-weaker b k.1)
    clause-weaker (node.Part a i n line) k = (clause-weaker a k.0, clause-weaker i k.1, clause-weaker n k.2)
    clause-weaker (node.Make class args) k = clauses-weaker args k
    clause-weaker (node.Field e class index ty line) k = clause-weaker e k
    clause-weaker (node.SetField p class index ty e line) k = (clause-weaker p k.0, clause-weaker e k.1)
    clause-weaker (node.Fill l u e ty line) k = (clause-weaker l k.0, clause-weaker u k.1, clause-weaker e k.2)
    clause-weaker (node.Elems l items ty line) k = (clause-weaker l k.0, clauses-weaker items k.1)
    clause-weaker (node.Element v i ty line) k = (clause-weaker v k.0, clause-weaker i k.1)
    clause-weaker (node.SetElement v i e ty line) k = (clause-weaker v k.0, clause-weaker i k.1, clause-weaker e k.2)
    clause-weaker (node.Bound v upper) k = clause-weaker v k
    clause-weaker (node.Lib code args line) k = clauses-weaker args k
    clause-weaker (node.Write e w wide ty line) k = (clause-weaker e k.0, clause-weaker w k.1)
    clause-weaker (node.Proc of) k = body-weaker of k
    clause-weaker (node.Call f args line) k = (clause-weaker f k.0, clauses-weaker args k.1)
    clause-weaker (node.Scan text a f q s line) k = (clause-weaker a k.0, clause-weaker f k.1)
    clause-weaker (node.Int value) k = tt
    clause-weaker node.Nil k = tt
    clause-weaker node.Class k = tt
    clause-weaker node.Empty k = tt
    clause-weaker (node.Flag value) k = tt
    clause-weaker (node.Text bytes) k = tt
    clause-weaker (node.Abort line) k = tt

    pub body-weaker : (of : BodyNode) → BodyIs P Q of → BodyIs R S of
    body-weaker (body params gives tree scope line) k = (p (body params gives tree scope line) k.0, clause-weaker tree k.1)

    clauses-weaker : (ts : Nodes) → AllBodiesAre P Q ts → AllBodiesAre R S ts
    clauses-weaker none k = tt
    clauses-weaker (more first rest) k = (clause-weaker first k.0, clauses-weaker rest k.1)

    arms-weaker : (ts : Arms) → ArmsBodiesAre P Q ts → ArmsBodiesAre R S ts
    arms-weaker no_arms k = tt
    arms-weaker (more_arms (arm labels a) rest) k = (clauses-weaker labels k.0, clause-weaker a k.1, arms-weaker rest k.2)

value-units : (v : Value) → ValueIs Fits v → HasUnits v
value-units (Procedure (as_written of) scope) f = body-weaker Fits HasUnit _ (λ ty. Unit {0}) (λ b k. k.unit) (λ ty k. tt) of f
value-units (Procedure (as_compiled of) scope) f = absurd f
value-units (Num z) f = tt
value-units (Flag b) f = tt
value-units (Text bytes) f = tt
value-units Nil f = tt
value-units (Pointer id) f = tt
value-units (Vector id) f = tt
value-units Nothing f = tt

values-units : (vs : List Value) → ValuesAre Fits vs → AllByRecursion HasUnits vs
values-units [] f = tt
values-units (v ∷ vs) f = (value-units v f.0, values-units vs f.1)

pointers-units : {K : Type 0} (entries : List (Entry K)) → AllByRecursion HasUnits (pointers entries)
pointers-units [] = tt
pointers-units (entry ∷ entries) = (tt, pointers-units entries)

object-units : (object : Object) → ObjectIs Fits object → AllByRecursion HasUnits (values_of object)
object-units (Structure class fields) f = values-units fields f
object-units (Elements ty low elements) f = values-units elements f
object-units (Scope text parent names) f = values-units names f
object-units (Keyed without_keys) f = tt
object-units (Keyed (by_strings entries)) f = pointers-units entries
object-units (Keyed (by_ints entries)) f = pointers-units entries

pub heap-units : (heap : Heap) → HeapIs Fits heap → HaveUnits heap
heap-units [] f = tt
heap-units (object ∷ objects) f = (object-units object f.0, heap-units objects f.1)
