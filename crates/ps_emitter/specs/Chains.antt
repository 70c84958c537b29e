-- Chains: clauses that stand inside one another as first parts, as far as the text is long. And what is known of the type of a value
-- that is called.
use Rattle.std.specs.Prelude.{◌≡◌, List, [], ◌∷◌, Option, Some, None}
use Rattle.std.specs.Borrow.{Bor}
use Rattle.ps_base.specs.TyView.{TyView, ty_view}
use Rattle.ps_base.specs.TyView as types
use Rattle.ps_program.specs.declared.form.Tree.{Tree}
use Rattle.ps_program.specs.Node.{Node}
use Rattle.ps_program.specs.Node as node
use Rattle.ps_program.specs.NodeView.{node_of, body_of}
use Rattle.ps_emitter.specs.Giving.{type_of, result_of}
use Rattle.ps_emitter.specs.declared.known.Known.{Known}
use Rattle.ps_emitter.specs.declared.known.Known.TheVariants as known

-- what stands first in a clause, where its code is that of a first clause and more
abbrev pub first_part : Node → Option Node
first_part (node.SetName place ty e) = Some e
first_part (node.Let place ty e) = Some e
first_part (node.And a b) = Some a
first_part (node.Or a b) = Some a
first_part (node.Not e) = Some e
first_part (node.Neg e line) = Some e
first_part (node.Plus e) = Some e
first_part (node.Arith op a b line) = Some a
first_part (node.Compare op ty a b) = Some a
first_part (node.Is e class) = Some e
first_part (node.Join a b line) = Some a
first_part (node.Part a i n line) = Some a
first_part (node.Field e class index ty line) = Some e
first_part (node.SetField p class index ty e line) = Some p
first_part (node.Element v i ty line) = Some v
first_part (node.SetElement v i e ty line) = Some v
first_part (node.Bound v upper) = Some v
first_part (node.Call f args line) = Some f
first_part _ = None

-- the links of a chain, the outermost first, lead from the whole to its innermost first part
abbrev pub Chained : Node → List (Bor Tree) → Node → Type 0
Chained whole [] inner = whole ≡ inner
Chained whole (link ∷ links) inner = (whole ≡ node_of link.now) × ((f : Node) × (first_part whole ≡ Some f) × Chained f links inner)

-- the type of what a link gives, after a first part of this type
abbrev pub type_behind : TyView → Node → TyView
type_behind before (node.Call f args line) = result_of before
type_behind before (node.Field e class index ty line) = ty
type_behind before (node.Element v i ty line) = ty
type_behind before _ = types.Void

-- a type as far as a call of its values asks for it
abbrev pub called : TyView → TyView
called (types.Proc params gives) = types.Proc params gives
called _ = types.Void

abbrev pub type_in : Known → TyView
type_in known.Nothing = types.Void
type_in (known.Type ty) = ty_view ty.now
type_in (known.Literal it) = type_of (node.Proc (body_of it.now))
