-- How many bytes the code of a clause has, and how many constants it names: as many as `size` and `count` say.
use Rattle.std.proofs.Common.{◌≡◌, ℕ, ◌+◌, List, [], ◌∷◌, ◌++◌, length, Option, Some, None, refl, arith, length-append}
use Rattle.ps_base.specs.TyView.{TyView}
use Rattle.ps_base.specs.Instr.{width_of}
use Rattle.ps_base.specs.declared.instr.Instr.{Instr}
use Rattle.ps_base.specs.declared.instr.Instr.TheVariants as instr
use Rattle.ps_program.specs.declared.place.Place.{Place}
use Rattle.ps_program.specs.declared.place.Place.TheVariants.{Plain, Kept}
use Rattle.ps_program.specs.Node.{Node, Nodes, none, more, Arms, no_arms, more_arms, arm, body}
use Rattle.ps_program.specs.Node as node
use Rattle.ps_emitter.specs.Giving.{element_of}
use Rattle.ps_emitter.specs.Choices as choice
use Rattle.ps_emitter.proofs.ChoiceWidths.{width_by_type, width_flag, width_arith, width_compare, width_write, width_bound, width_scan}
use Rattle.ps_gen.specs.Emission.{size_at, size_entered, size_left, size, size_all, size_arms, size_labels, count_scope, count, count_all, count_arms, entered, left, items_in, emit, emit_all, emit_arms, emit_labels}
use Rattle.ps_gen.specs.Units.{scope_constants, constants, constants_of_all, constants_of_arms}

-- the bytes of instructions one after the other
abbrev pub widths : List Instr → ℕ
widths [] = 0
widths (i ∷ is) = width_of i + widths is

pub widths_append : (is js : List Instr) → widths (is ++ js) ≡ widths is + widths js
widths_append [] js = omega arith
widths_append (i ∷ is) js = let h = widths_append is js in omega arith

pub width_get : (place : Place) (ty : TyView) → width_of (choice.get place ty) ≡ size_at place
width_get (Plain s) ty = width_by_type 5 ty (instr.GetM s) (instr.GetP s) refl refl
width_get (Kept u i) ty = width_by_type 9 ty (instr.KeptM u i) (instr.KeptP u i) refl refl

pub width_set : (place : Place) (ty : TyView) → width_of (choice.set place ty) ≡ size_at place
width_set (Plain s) ty = width_by_type 5 ty (instr.SetM s) (instr.SetP s) refl refl
width_set (Kept u i) ty = width_by_type 9 ty (instr.KeepM u i) (instr.KeepP u i) refl refl

pub widths_entered : (scope : Option (List ℕ)) (k : ℕ) → widths (entered scope k) ≡ size_entered scope
widths_entered None k = refl
widths_entered (Some text) k = refl

pub widths_left : (scope : Option (List ℕ)) → widths (left scope) ≡ size_left scope
widths_left None = refl
widths_left (Some text) = refl

mutual
  pub width_emit : (t : Node) (at k : ℕ) → widths (emit t at k) ≡ size t
  width_emit (node.Int v) at k = refl
  width_emit (node.Flag b) at k = let h = width_flag b in omega arith
  width_emit (node.Text bytes) at k = refl
  width_emit node.Nil at k = refl
  width_emit (node.Name place ty) at k = let h = width_get place ty in omega arith
  width_emit (node.SetName place ty e) at k = let h = width_set place ty in simp (widths_append, width_emit e) (omega arith)
  width_emit (node.Let place ty e) at k = let h = width_set place ty in simp (widths_append, width_emit e) (omega arith)
  width_emit node.Class at k = refl
  width_emit node.Empty at k = refl
  width_emit (node.Block scope items) at k = simp (widths_append, widths_entered, widths_left, width_all items) (omega arith)
  width_emit (node.IfDo c a) at k = simp (widths_append, width_emit c, width_emit a) (omega arith)
  width_emit (node.IfElse c a b) at k = simp (widths_append, width_emit c, width_emit a, width_emit b) (omega arith)
  width_emit (node.While c a) at k = simp (widths_append, width_emit c, width_emit a) (omega arith)
  width_emit (node.Repeat a c b) at k = simp (widths_append, width_emit a, width_emit c, width_emit b) (omega arith)
  width_emit (node.For slot a b c scope control s line) at k =
      simp (widths_append, width_emit a, width_emit b, width_emit c, widths_entered, width_set, width_emit s, widths_left) (omega arith)
  width_emit (node.Case e arms d ty) at k =
      let h = width_by_type 1 ty instr.DropM instr.DropP refl refl in
      simp (widths_append, width_emit e, width_arms arms ty, width_emit d) (omega arith)
  width_emit (node.And a b) at k = simp (widths_append, width_emit a, width_emit b) (omega arith)
  width_emit (node.Or a b) at k = simp (widths_append, width_emit a, width_emit b) (omega arith)
  width_emit (node.Not e) at k = simp (widths_append, width_emit e) (omega arith)
  width_emit (node.Neg e line) at k = simp (widths_append, width_emit e) (omega arith)
  width_emit (node.Plus e) at k = width_emit e at k
  width_emit (node.Arith op a b line) at k = simp (widths_append, width_emit a, width_emit b, width_arith) (omega arith)
  width_emit (node.Compare op ty a b) at k = simp (widths_append, width_emit a, width_emit b, width_compare) (omega arith)
  width_emit (node.Is e class) at k = simp (widths_append, width_emit e) (omega arith)
  width_emit (node.Join a b line) at k = simp (widths_append, width_emit a, width_emit b) (omega arith)
  width_emit (node.Part a i n line) at k = simp (widths_append, width_emit a, width_emit i, width_emit n) (omega arith)
  width_emit (node.Make class args) at k = simp (widths_append, width_all args) (omega arith)
  width_emit (node.Field e class index ty line) at k =
      let h = width_by_type 13 ty (instr.FieldM (k + count e) index line) (instr.FieldP (k + count e) index line) refl refl in
      simp (widths_append, width_emit e) (omega arith)
  width_emit (node.SetField p class index ty e line) at k =
      let named = k + count p + count e in
      let h = width_by_type 13 ty (instr.SetFieldM named index line) (instr.SetFieldP named index line) refl refl in
      simp (widths_append, width_emit p, width_emit e) (omega arith)
  width_emit (node.Fill l u e ty line) at k =
      let named = k + count l + count u + count e in
      let h = width_by_type 9 (element_of ty) (instr.FillM named line) (instr.FillP named line) refl refl in
      simp (widths_append, width_emit l, width_emit u, width_emit e) (omega arith)
  width_emit (node.Elems l items ty line) at k =
      let named = k + count l + count_all items in
      let h = width_by_type 13 (element_of ty) (instr.ListM named (items_in items) line) (instr.ListP named (items_in items) line) refl refl in
      simp (widths_append, width_emit l, width_all items) (omega arith)
  width_emit (node.Element v i ty line) at k =
      let h = width_by_type 5 ty (instr.ElemM line) (instr.ElemP line) refl refl in
      simp (widths_append, width_emit v, width_emit i) (omega arith)
  width_emit (node.SetElement v i e ty line) at k =
      let h = width_by_type 5 ty (instr.SetElemM line) (instr.SetElemP line) refl refl in
      simp (widths_append, width_emit v, width_emit i, width_emit e) (omega arith)
  width_emit (node.Bound v upper) at k = simp (widths_append, width_emit v, width_bound) (omega arith)
  width_emit (node.Proc of) at k = refl
  width_emit (node.Call f args line) at k = simp (widths_append, width_emit f, width_all args) (omega arith)
  width_emit (node.Lib code args line) at k = simp (widths_append, width_all args) (omega arith)
  width_emit (node.Scan text a f q s line) at k = simp (widths_append, width_emit a, width_emit f, width_scan) (omega arith)
  width_emit (node.Write e w wide ty line) at k = simp (widths_append, width_emit e, width_emit w, width_write) (omega arith)
  width_emit (node.Abort line) at k = refl

  pub width_all : (ts : Nodes) (at k : ℕ) → widths (emit_all ts at k) ≡ size_all ts
  width_all none at k = refl
  width_all (more t ts) at k = simp (widths_append, width_emit t, width_all ts) (omega arith)

  pub width_arms : (arms : Arms) (ty : TyView) (end at k : ℕ) → widths (emit_arms ty end arms at k) ≡ size_arms arms
  width_arms no_arms ty end at k = refl
  width_arms (more_arms (arm labels a) rest) ty end at k =
      let h = width_by_type 1 ty instr.DropM instr.DropP refl refl in
      simp (widths_append, width_labels labels ty, width_emit a, width_arms rest ty) (omega arith)

  pub width_labels : (labels : Nodes) (ty : TyView) (chosen at k : ℕ) → widths (emit_labels ty chosen labels at k) ≡ size_labels labels
  width_labels none ty chosen at k = refl
  width_labels (more label rest) ty chosen at k =
      let h = width_by_type 1 ty instr.DupM instr.DupP refl refl in
      simp (widths_append, width_emit label, width_compare, width_labels rest ty) (omega arith)

pub count_of_scope : (scope : Option (List ℕ)) → length (scope_constants scope) ≡ count_scope scope
count_of_scope None = refl
count_of_scope (Some text) = refl

mutual
  pub count_constants : (t : Node) → length (constants t) ≡ count t
  count_constants (node.Text bytes) = refl
  count_constants (node.SetName place ty e) = count_constants e
  count_constants (node.Let place ty e) = count_constants e
  count_constants (node.Block scope items) = simp (length-append, count_of_scope, count_of_all items) refl
  count_constants (node.IfDo c a) = simp (length-append, count_constants c, count_constants a) refl
  count_constants (node.IfElse c a b) = simp (length-append, count_constants c, count_constants a, count_constants b) (omega arith)
  count_constants (node.While c a) = simp (length-append, count_constants c, count_constants a) refl
  count_constants (node.Repeat a c b) = simp (length-append, count_constants a, count_constants c, count_constants b) (omega arith)
  count_constants (node.For slot a b c scope control s line) =
      simp (length-append, count_constants a, count_constants b, count_constants c, count_of_scope, count_constants s) (omega arith)
  count_constants (node.Case e arms d ty) = simp (length-append, count_constants e, count_of_arms arms, count_constants d) (omega arith)
  count_constants (node.And a b) = simp (length-append, count_constants a, count_constants b) refl
  count_constants (node.Or a b) = simp (length-append, count_constants a, count_constants b) refl
  count_constants (node.Not e) = count_constants e
  count_constants (node.Neg e line) = count_constants e
  count_constants (node.Plus e) = count_constants e
  count_constants (node.Arith op a b line) = simp (length-append, count_constants a, count_constants b) refl
  count_constants (node.Compare op ty a b) = simp (length-append, count_constants a, count_constants b) refl
  count_constants (node.Is e class) = simp (length-append, count_constants e) (omega arith)
  count_constants (node.Join a b line) = simp (length-append, count_constants a, count_constants b) refl
  count_constants (node.Part a i n line) = simp (length-append, count_constants a, count_constants i, count_constants n) (omega arith)
  count_constants (node.Make class args) = simp (length-append, count_of_all args) (omega arith)
  count_constants (node.Field e class index ty line) = simp (length-append, count_constants e) (omega arith)
  count_constants (node.SetField p class index ty e line) = simp (length-append, count_constants p, count_constants e) (omega arith)
  count_constants (node.Fill l u e ty line) = simp (length-append, count_constants l, count_constants u, count_constants e) (omega arith)
  count_constants (node.Elems l items ty line) = simp (length-append, count_constants l, count_of_all items) (omega arith)
  count_constants (node.Element v i ty line) = simp (length-append, count_constants v, count_constants i) refl
  count_constants (node.SetElement v i e ty line) = simp (length-append, count_constants v, count_constants i, count_constants e) (omega arith)
  count_constants (node.Bound v upper) = count_constants v
  count_constants (node.Proc (body params gives tree scope line)) = refl
  count_constants (node.Call f args line) = simp (length-append, count_constants f, count_of_all args) refl
  count_constants (node.Lib code args line) = count_of_all args
  count_constants (node.Scan text a f q s line) = simp (length-append, count_constants a, count_constants f) refl
  count_constants (node.Write e w wide ty line) = simp (length-append, count_constants e, count_constants w) refl
  count_constants other = refl

  pub count_of_all : (ts : Nodes) → length (constants_of_all ts) ≡ count_all ts
  count_of_all none = refl
  count_of_all (more t ts) = simp (length-append, count_constants t, count_of_all ts) refl

  pub count_of_arms : (arms : Arms) → length (constants_of_arms arms) ≡ count_arms arms
  count_of_arms no_arms = refl
  count_of_arms (more_arms (arm labels a) rest) = simp (length-append, count_of_all labels, count_constants a, count_of_arms rest) (omega arith)
