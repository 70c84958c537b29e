-- The view of a clause that has a list of clauses, over the list of its items.
use Rattle.std.proofs.Common.{◌≡◌, Option, List, refl, sym, ap, ◌∙◌}
use Rattle.std.specs.Prelude.{option_map, ℕ}
use Rattle.std.specs.Rc.{rc_value}
use Rattle.std.specs.declared.boxed.Box.{Box}
use Rattle.std.specs.declared.rc.Rc.{Rc}
use Rattle.std.specs.declared.alloc.Global.{Global}
use Rattle.ps_base.specs.List.{items_of}
use Rattle.ps_base.specs.TyView.{ty_view}
use Rattle.ps_base.specs.declared.bytes.Bytes.{Bytes}
use Rattle.ps_base.specs.declared.line.Line.{Line}
use Rattle.ps_base.specs.declared.list.List.{List as ListOf}
use Rattle.ps_base.specs.declared.ty.Ty.{Ty}
use Rattle.ps_program.specs.declared.form.Tree.{Tree}
use Rattle.ps_program.specs.declared.form.Arm.{Arm as ArmOf, out-Arm}
use Rattle.ps_program.specs.declared.form.TreeForm.{TreeForm}
use Rattle.ps_program.specs.declared.form.TreeForm.TheBlock.{struct-Arm, Row_of-Tree, end_of-Tree, more_of-Tree, items-the_row-Tree, items_hidden-the_row-Tree-0, items_shown-the_row-Tree-0, shown-the_row-Tree-0, Row_of-Arm, end_of-Arm, more_of-Arm, items-the_row-Arm, items_hidden-the_row-Arm-1}
use Rattle.ps_program.specs.declared.form.TreeForm.TheVariants as code
use Rattle.ps_program.specs.Node.{Node, Nodes, none, more, Arm, arm, Arms, more_arms}
use Rattle.ps_program.specs.Node as node
use Rattle.ps_program.specs.NodeView.{node_of, node_of_form, nodes_of, nodes_in, arms_of, arm_of}
use Rattle.ps_program.specs.inside.PartsView.{arms_in}
use denote.Hole.Carrier.{out}
use mathlib.Core.Former.{Count}

rows : (n : _) (row : Row_of-Tree n) → nodes_of row ≡ nodes_in (items-the_row-Tree n row)
rows n end_of-Tree = refl
rows n (more_of-Tree p form rest) = ap (λ (ts : Nodes). more (node_of_form form) ts) (rows _ rest)

arm_rows : (n : _) (row : Row_of-Arm n) → arms_of row ≡ arms_in (items-the_row-Arm n row)
arm_rows n end_of-Arm = refl
arm_rows n (more_of-Arm first rest) = ap (λ (a : Arms). more_arms (arm_of first) a) (arm_rows _ rest)

abbrev row_of : TreeForm → (n : Count) × Row_of-Tree n
row_of (code.Block' scope _ row) = (_, row)
row_of (code.Make' class _ row) = (_, row)
row_of (code.Elems' p l _ row ty line) = (_, row)
row_of (code.Call' p f _ row line) = (_, row)
row_of (code.Lib' k _ row line) = (_, row)
row_of _ = (_, end_of-Tree)

abbrev arms_row_of : TreeForm → (n : Count) × Row_of-Arm n
arms_row_of (code.Case' p e _ row q d ty) = (_, row)
arms_row_of _ = (_, end_of-Arm)

pub block_is : (form : TreeForm) (scope : Option (Box Bytes Global)) (items : ListOf Tree) (ts : List Tree) → form ≡ code.Block scope items → ts ≡ items_of items → node_of_form form ≡ node.Block (option_map (λ bytes. bytes.value) scope) (nodes_in ts)
block_is form scope items ts form_is ts_is =
    let row = row_of (code.Block scope items) in
    ap node_of_form form_is ∙ ap (node.Block (option_map (λ bytes. bytes.value) scope)) (rows row.0 row.1 ∙ ap nodes_in (items_hidden-the_row-Tree-0 items.vec ∙ sym ts_is))

pub make_is : (form : TreeForm) (class : Rc Bytes Global) (args : ListOf Tree) (ts : List Tree) → form ≡ code.Make class args → ts ≡ items_of args → node_of_form form ≡ node.Make (rc_value class) (nodes_in ts)
make_is form class args ts form_is ts_is =
    let row = row_of (code.Make class args) in
    ap node_of_form form_is ∙ ap (node.Make (rc_value class)) (rows row.0 row.1 ∙ ap nodes_in (items_hidden-the_row-Tree-0 args.vec ∙ sym ts_is))

pub elems_is : (form : TreeForm) (l : Tree) (items : ListOf Tree) (ty : Box Ty Global) (line : Line) (ts : List Tree) → form ≡ code.Elems l items ty line → ts ≡ items_of items → node_of_form form ≡ node.Elems (node_of l) (nodes_in ts) (ty_view ty.value) line
elems_is form l items ty line ts form_is ts_is =
    let row = row_of (code.Elems l items ty line) in
    ap node_of_form form_is ∙ ap (λ (ns : Nodes). node.Elems (node_of l) ns (ty_view ty.value) line) (rows row.0 row.1 ∙ ap nodes_in (items_hidden-the_row-Tree-0 items.vec ∙ sym ts_is))

pub call_is : (form : TreeForm) (f : Tree) (args : ListOf Tree) (line : Line) (ts : List Tree) → form ≡ code.Call f args line → ts ≡ items_of args → node_of_form form ≡ node.Call (node_of f) (nodes_in ts) line
call_is form f args line ts form_is ts_is =
    let row = row_of (code.Call f args line) in
    ap node_of_form form_is ∙ ap (λ (ns : Nodes). node.Call (node_of f) ns line) (rows row.0 row.1 ∙ ap nodes_in (items_hidden-the_row-Tree-0 args.vec ∙ sym ts_is))

pub lib_is : (form : TreeForm) (k : ℕ) (args : ListOf Tree) (line : Line) (ts : List Tree) → form ≡ code.Lib k args line → ts ≡ items_of args → node_of_form form ≡ node.Lib k (nodes_in ts) line
lib_is form k args line ts form_is ts_is =
    let row = row_of (code.Lib k args line) in
    ap node_of_form form_is ∙ ap (λ (ns : Nodes). node.Lib k ns line) (rows row.0 row.1 ∙ ap nodes_in (items_hidden-the_row-Tree-0 args.vec ∙ sym ts_is))

pub case_is : (form : TreeForm) (e : Tree) (arms : ListOf ArmOf) (d : Tree) (ty : Box Ty Global) (ts : List ArmOf) → form ≡ code.Case e arms d ty → ts ≡ items_of arms → node_of_form form ≡ node.Case (node_of e) (arms_in ts) (node_of d) (ty_view ty.value)
case_is form e arms d ty ts form_is ts_is =
    let row = arms_row_of (code.Case e arms d ty) in
    ap node_of_form form_is ∙ ap (λ (a : Arms). node.Case (node_of e) a (node_of d) (ty_view ty.value)) (arm_rows row.0 row.1 ∙ ap arms_in (items_hidden-the_row-Arm-1 arms.vec ∙ sym ts_is))

-- the labels of an arm, and its clause
pub arm_of-parts : (a : ArmOf) → arm_of a ≡ arm (nodes_in (items_of (out-Arm a).labels)) (node_of (out-Arm a).a)
unfolding out-Arm out shown-the_row-Tree-0
arm_of-parts (struct-Arm shape labels p a) = ap (λ (ts : Nodes). arm ts (node_of_form a)) (rows _ labels ∙ ap nodes_in (sym (items_shown-the_row-Tree-0 shape labels)))
