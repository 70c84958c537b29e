-- A body of small mass is within the limits of a unit, and so is each literal in it.
use Rattle.std.proofs.Common.{ℕ, ◌+◌, ◌*◌, ◌<◌, ◌≤◌, List, [], ◌∷◌, ◌++◌, length, Option, Some, None, arith}
use Rattle.std.specs.Prelude.{◌^◌}
use Rattle.std.specs.List.{AllByRecursion}
use Rattle.ps_unit_laws.specs.ps_base.Instr.{spelled}
use Rattle.ps_unit_laws.specs.ps_program.declared.place.Place.{Place}
use Rattle.ps_unit_laws.specs.ps_program.declared.place.Place.TheVariants.{Plain, Kept}
use Rattle.ps_unit_laws.specs.ps_program.Node.{Param, Node, Nodes, none, more, Arms, no_arms, more_arms, arm, BodyNode, body}
use Rattle.ps_unit_laws.specs.ps_program.Node as node
use Rattle.ps_unit_laws.specs.ps_program.Parts.{Part, operand, label, branch, literal, fold_all, fold_arms}
use Rattle.ps_unit_laws.specs.ps_typing.Program.{bodies, bodies_of, bodies_with, bodies_in}
use Rattle.ps_unit_laws.specs.ps_gen.Emission.{size_at, size_entered, size_left, size, size_all, size_arms, size_labels}
use Rattle.ps_unit_laws.specs.ps_gen.Units.{size_kept_at, size_keeps, body_instrs, instrs_of}
use Rattle.ps_unit_laws.specs.Fields.{IsPlace, FieldsFit, AllFieldsFit, ArmFieldsFit, ArePlaces, BodyFieldsFit}
use Rattle.ps_unit_laws.proofs.Units.{length_spelled, widths_body}
use Rattle.ps_text_units.proofs.Weights.{over, small_over, small_int, over_place, mass, mass_all, mass_arms, mass_params, mass_body}

-- The bytes of a clause's own code.

place_size : (place : Place) → size_at place ≤ 9
place_size (Plain slot) = omega arith
place_size (Kept up position) = omega arith

scope_size : (scope : Option (List ℕ)) → size_entered scope + size_left scope ≤ 6
scope_size None = omega arith
scope_size (Some text) = omega arith

mutual
  size_small : (t : Node) → size t + 20 ≤ 64 * mass t
  size_small (node.Int v) = omega arith
  size_small (node.Flag b) = omega arith
  size_small (node.Text bytes) = omega arith
  size_small node.Nil = omega arith
  size_small (node.Name place ty) = let p = place_size place in omega arith
  size_small (node.SetName place ty e) = let p = place_size place in let h = size_small e in omega arith
  size_small (node.Let place ty e) = let p = place_size place in let h = size_small e in omega arith
  size_small node.Class = omega arith
  size_small node.Empty = omega arith
  size_small (node.Block scope items) = let s = scope_size scope in let h = size_all_small items in omega arith
  size_small (node.IfDo c a) = let h = size_small c in let k = size_small a in omega arith
  size_small (node.IfElse c a b) = let h = size_small c in let k = size_small a in let l = size_small b in omega arith
  size_small (node.While c a) = let h = size_small c in let k = size_small a in omega arith
  size_small (node.Repeat a c b) = let h = size_small c in let k = size_small a in let l = size_small b in omega arith
  size_small (node.For slot a b c scope control s line) =
      let h = size_small a in let k = size_small b in let l = size_small c in let m = size_small s in let n = scope_size scope in
      let p = place_size control in omega arith
  size_small (node.Case e arms d ty) = let h = size_small e in let k = size_arms_small arms in let l = size_small d in omega arith
  size_small (node.And a b) = let h = size_small a in let k = size_small b in omega arith
  size_small (node.Or a b) = let h = size_small a in let k = size_small b in omega arith
  size_small (node.Not e) = let h = size_small e in omega arith
  size_small (node.Neg e line) = let h = size_small e in omega arith
  size_small (node.Plus e) = let h = size_small e in omega arith
  size_small (node.Arith op a b line) = let h = size_small a in let k = size_small b in omega arith
  size_small (node.Compare op ty a b) = let h = size_small a in let k = size_small b in omega arith
  size_small (node.Is e class) = let h = size_small e in omega arith
  size_small (node.Join a b line) = let h = size_small a in let k = size_small b in omega arith
  size_small (node.Part a i n line) = let h = size_small a in let k = size_small i in let l = size_small n in omega arith
  size_small (node.Make class args) = let h = size_all_small args in omega arith
  size_small (node.Field e class index ty line) = let h = size_small e in omega arith
  size_small (node.SetField p class index ty e line) = let h = size_small p in let k = size_small e in omega arith
  size_small (node.Fill l u e ty line) = let h = size_small l in let k = size_small u in let m = size_small e in omega arith
  size_small (node.Elems l items ty line) = let h = size_small l in let k = size_all_small items in omega arith
  size_small (node.Element v i ty line) = let h = size_small v in let k = size_small i in omega arith
  size_small (node.SetElement v i e ty line) = let h = size_small v in let k = size_small i in let l = size_small e in omega arith
  size_small (node.Bound v upper) = let h = size_small v in omega arith
  size_small (node.Proc of) = omega arith
  size_small (node.Call f args line) = let h = size_small f in let k = size_all_small args in omega arith
  size_small (node.Lib code args line) = let h = size_all_small args in omega arith
  size_small (node.Scan text a f q s line) = let h = size_small a in let k = size_small f in omega arith
  size_small (node.Write e w wide ty line) = let h = size_small e in let k = size_small w in omega arith
  size_small (node.Abort line) = omega arith

  size_all_small : (ts : Nodes) → size_all ts ≤ 64 * mass_all ts
  size_all_small none = omega arith
  size_all_small (more first rest) = let h = size_small first in let k = size_all_small rest in omega arith

  size_arms_small : (arms : Arms) → size_arms arms ≤ 64 * mass_arms arms
  size_arms_small no_arms = omega arith
  size_arms_small (more_arms (arm labels a) rest) =
      let h = size_labels_small labels in let k = size_small a in let l = size_arms_small rest in omega arith

  size_labels_small : (labels : Nodes) → size_labels labels ≤ 64 * mass_all labels
  size_labels_small none = omega arith
  size_labels_small (more first rest) = let h = size_small first in let k = size_labels_small rest in omega arith

kept_size : (place : Place) → size_kept_at place ≤ 64
kept_size (Plain slot) = omega arith
kept_size (Kept up position) = omega arith

keeps_small : (params : List Param) → size_keeps params ≤ 64 * mass_params params
keeps_small [] = omega arith
keeps_small (param ∷ rest) = let h = keeps_small rest in let k = kept_size param.place in omega arith

-- The numbers in it.

word : (n : ℕ) → over n < 2 ^ 32 → n < 2 ^ 32
word = small_over

place_fits : (place : Place) → over_place place < 2 ^ 32 → IsPlace place
place_fits (Plain slot) h = tt
place_fits (Kept up position) h = (word up (omega arith), word position (omega arith))

mutual
  fields_fit : (t : Node) → mass t < 2 ^ 32 → FieldsFit t
  fields_fit (node.Int v) h = small_int v (omega arith)
  fields_fit (node.Flag b) h = tt
  fields_fit (node.Text bytes) h = tt
  fields_fit node.Nil h = tt
  fields_fit (node.Name place ty) h = place_fits place (omega arith)
  fields_fit (node.SetName place ty e) h = (place_fits place (omega arith), fields_fit e (omega arith))
  fields_fit (node.Let place ty e) h = (place_fits place (omega arith), fields_fit e (omega arith))
  fields_fit node.Class h = tt
  fields_fit node.Empty h = tt
  fields_fit (node.Block scope items) h = all_fields_fit items (omega arith)
  fields_fit (node.IfDo c a) h = (fields_fit c (omega arith), fields_fit a (omega arith))
  fields_fit (node.IfElse c a b) h = (fields_fit c (omega arith), fields_fit a (omega arith), fields_fit b (omega arith))
  fields_fit (node.While c a) h = (fields_fit c (omega arith), fields_fit a (omega arith))
  fields_fit (node.Repeat a c b) h = (fields_fit a (omega arith), fields_fit c (omega arith), fields_fit b (omega arith))
  fields_fit (node.For slot a b c scope control s line) h = (
    place_fits control (omega arith),
    word line.0 (omega arith),
    fields_fit a (omega arith),
    fields_fit b (omega arith),
    fields_fit c (omega arith),
    fields_fit s (omega arith),
  )
  fields_fit (node.Case e arms d ty) h = (fields_fit e (omega arith), arm_fields_fit arms (omega arith), fields_fit d (omega arith))
  fields_fit (node.And a b) h = (fields_fit a (omega arith), fields_fit b (omega arith))
  fields_fit (node.Or a b) h = (fields_fit a (omega arith), fields_fit b (omega arith))
  fields_fit (node.Not e) h = fields_fit e (omega arith)
  fields_fit (node.Neg e line) h = (word line.0 (omega arith), fields_fit e (omega arith))
  fields_fit (node.Plus e) h = fields_fit e (omega arith)
  fields_fit (node.Arith op a b line) h = (word line.0 (omega arith), fields_fit a (omega arith), fields_fit b (omega arith))
  fields_fit (node.Compare op ty a b) h = (fields_fit a (omega arith), fields_fit b (omega arith))
  fields_fit (node.Is e class) h = fields_fit e (omega arith)
  fields_fit (node.Join a b line) h = (word line.0 (omega arith), fields_fit a (omega arith), fields_fit b (omega arith))
  fields_fit (node.Part a i n line) h = (word line.0 (omega arith), fields_fit a (omega arith), fields_fit i (omega arith), fields_fit n (omega arith))
  fields_fit (node.Make class args) h = all_fields_fit args (omega arith)
  fields_fit (node.Field e class index ty line) h = (word index (omega arith), word line.0 (omega arith), fields_fit e (omega arith))
  fields_fit (node.SetField p class index ty e line) h =
      (word index (omega arith), word line.0 (omega arith), fields_fit p (omega arith), fields_fit e (omega arith))
  fields_fit (node.Fill l u e ty line) h = (word line.0 (omega arith), fields_fit l (omega arith), fields_fit u (omega arith), fields_fit e (omega arith))
  fields_fit (node.Elems l items ty line) h = (word line.0 (omega arith), fields_fit l (omega arith), all_fields_fit items (omega arith))
  fields_fit (node.Element v i ty line) h = (word line.0 (omega arith), fields_fit v (omega arith), fields_fit i (omega arith))
  fields_fit (node.SetElement v i e ty line) h =
      (word line.0 (omega arith), fields_fit v (omega arith), fields_fit i (omega arith), fields_fit e (omega arith))
  fields_fit (node.Bound v upper) h = fields_fit v (omega arith)
  fields_fit (node.Proc of) h = tt
  fields_fit (node.Call f args line) h = (word line.0 (omega arith), fields_fit f (omega arith), all_fields_fit args (omega arith))
  fields_fit (node.Lib code args line) h = (word code (omega arith), word line.0 (omega arith), all_fields_fit args (omega arith))
  fields_fit (node.Scan text a f q s line) h = (word line.0 (omega arith), fields_fit a (omega arith), fields_fit f (omega arith))
  fields_fit (node.Write e w wide ty line) h = (word line.0 (omega arith), fields_fit e (omega arith), fields_fit w (omega arith))
  fields_fit (node.Abort line) h = word line.0 (omega arith)

  all_fields_fit : (ts : Nodes) → mass_all ts < 2 ^ 32 → AllFieldsFit ts
  all_fields_fit none h = tt
  all_fields_fit (more first rest) h = (fields_fit first (omega arith), all_fields_fit rest (omega arith))

  arm_fields_fit : (arms : Arms) → mass_arms arms < 2 ^ 32 → ArmFieldsFit arms
  arm_fields_fit no_arms h = tt
  arm_fields_fit (more_arms (arm labels a) rest) h = (all_fields_fit labels (omega arith), fields_fit a (omega arith), arm_fields_fit rest (omega arith))

params_fit : (params : List Param) → mass_params params < 2 ^ 32 → ArePlaces params
params_fit [] h = tt
params_fit (param ∷ rest) h = (place_fits param.place (omega arith), params_fit rest (omega arith))

-- A body of a mass for which its code has fewer than 2^32 bytes.
abbrev pub IsLight : BodyNode → Type 0
IsLight of = mass_body of ≤ 2 ^ 26

pub light_fields : (of : BodyNode) → IsLight of → BodyFieldsFit of
light_fields (body params gives tree scope line) h = (params_fit params (omega arith), fields_fit tree (omega arith))

pub light_bytes : (of : BodyNode) → IsLight of → length (spelled (instrs_of of)) < 2 ^ 32
light_bytes (body params gives tree scope line) h =
    let a = length_spelled (body_instrs params gives tree scope) in
    let b = widths_body params gives tree scope in
    let c = size_small tree in
    let d = keeps_small params in
    let e = scope_size scope in omega arith

-- The literals in it.

abbrev AreLight : List BodyNode → Type 0
AreLight found = AllByRecursion IsLight found

abbrev IsLightPart : Part (List BodyNode) → Type 0
IsLightPart (operand found) = AreLight found
IsLightPart (label found) = AreLight found
IsLightPart (branch found) = AreLight found
IsLightPart (literal found) = AreLight found

abbrev AreLightParts : List (Part (List BodyNode)) → Type 0
AreLightParts parts = AllByRecursion IsLightPart parts

all_of : {A : Type 0} (P : A → Type 0) (a b : List A) → AllByRecursion P a → AllByRecursion P b → AllByRecursion P (a ++ b)
all_of P [] b h k = k
all_of P (first ∷ rest) b h k = (h.0, all_of P rest b h.1 k)

both : (a b : List BodyNode) → AreLight a → AreLight b → AreLight (a ++ b)
both = all_of IsLight

both_parts : (a b : List (Part (List BodyNode))) → AreLightParts a → AreLightParts b → AreLightParts (a ++ b)
both_parts = all_of IsLightPart

in_parts : (parts : List (Part (List BodyNode))) → AreLightParts parts → AreLight (bodies_of parts)
in_parts [] h = tt
in_parts (operand found ∷ rest) h = both found _ h.0 (in_parts rest h.1)
in_parts (label found ∷ rest) h = both found _ h.0 (in_parts rest h.1)
in_parts (branch found ∷ rest) h = both found _ h.0 (in_parts rest h.1)
in_parts (literal found ∷ rest) h = both found _ h.0 (in_parts rest h.1)

one : (a : Node) → AreLight (bodies_in a) → AreLight (bodies_in a ++ [])
one a h = both (bodies_in a) [] h tt

two : (a b : Node) → AreLight (bodies_in a) → AreLight (bodies_in b) → AreLight (bodies_in a ++ (bodies_in b ++ []))
two a b h k = both (bodies_in a) _ h (one b k)

three : (a b c : Node) → AreLight (bodies_in a) → AreLight (bodies_in b) → AreLight (bodies_in c) →
    AreLight (bodies_in a ++ (bodies_in b ++ (bodies_in c ++ [])))
three a b c h k l = both (bodies_in a) _ h (two b c k l)

-- lists whose items are parts of one sort
abbrev Keeps : (List BodyNode → Part (List BodyNode)) → Type 0
Keeps as_part = (found : List BodyNode) → AreLight found → IsLightPart (as_part found)

mutual
  light : (t : Node) → mass t ≤ 2 ^ 26 → AreLight (bodies_in t)
  light (node.SetName place ty e) h = one e (light e (omega arith))
  light (node.Let place ty e) h = one e (light e (omega arith))
  light (node.Block scope items) h = in_parts (fold_all bodies_with branch items) (all_light branch (λ found h. h) items (omega arith))
  light (node.IfDo c a) h = two c a (light c (omega arith)) (light a (omega arith))
  light (node.IfElse c a b) h = three c a b (light c (omega arith)) (light a (omega arith)) (light b (omega arith))
  light (node.While c a) h = two c a (light c (omega arith)) (light a (omega arith))
  light (node.Repeat a c b) h = three a c b (light a (omega arith)) (light c (omega arith)) (light b (omega arith))
  light (node.For slot a b c scope control s line) h =
      both (bodies_in a) _ (light a (omega arith)) (three b c s (light b (omega arith)) (light c (omega arith)) (light s (omega arith)))
  light (node.Case e arms d ty) h =
      both (bodies_in e) _ (light e (omega arith)) (in_parts (fold_arms bodies_with arms ++ branch (bodies_in d) ∷ [])
      (both_parts (fold_arms bodies_with arms) _ (arms_light arms (omega arith)) (light d (omega arith), tt)))
  light (node.And a b) h = two a b (light a (omega arith)) (light b (omega arith))
  light (node.Or a b) h = two a b (light a (omega arith)) (light b (omega arith))
  light (node.Not e) h = one e (light e (omega arith))
  light (node.Neg e line) h = one e (light e (omega arith))
  light (node.Plus e) h = one e (light e (omega arith))
  light (node.Arith op a b line) h = two a b (light a (omega arith)) (light b (omega arith))
  light (node.Compare op ty a b) h = two a b (light a (omega arith)) (light b (omega arith))
  light (node.Is e class) h = one e (light e (omega arith))
  light (node.Join a b line) h = two a b (light a (omega arith)) (light b (omega arith))
  light (node.Part a i n line) h = three a i n (light a (omega arith)) (light i (omega arith)) (light n (omega arith))
  light (node.Make class args) h = in_parts (fold_all bodies_with operand args) (all_light operand (λ found h. h) args (omega arith))
  light (node.Field e class index ty line) h = one e (light e (omega arith))
  light (node.SetField p class index ty e line) h = two p e (light p (omega arith)) (light e (omega arith))
  light (node.Fill l u e ty line) h = three l u e (light l (omega arith)) (light u (omega arith)) (light e (omega arith))
  light (node.Elems l items ty line) h =
      both (bodies_in l) _ (light l (omega arith)) (in_parts (fold_all bodies_with operand items) (all_light operand (λ found h. h) items (omega arith)))
  light (node.Element v i ty line) h = two v i (light v (omega arith)) (light i (omega arith))
  light (node.SetElement v i e ty line) h = three v i e (light v (omega arith)) (light i (omega arith)) (light e (omega arith))
  light (node.Bound v upper) h = one v (light v (omega arith))
  light (node.Lib code args line) h = in_parts (fold_all bodies_with operand args) (all_light operand (λ found h. h) args (omega arith))
  light (node.Write e w wide ty line) h = two e w (light e (omega arith)) (light w (omega arith))
  light (node.Proc (body params gives tree scope line)) h = (omega arith, one tree (light tree (omega arith)))
  light (node.Call f args line) h =
      both (bodies_in f) _ (light f (omega arith)) (in_parts (fold_all bodies_with operand args) (all_light operand (λ found h. h) args (omega arith)))
  light (node.Scan text a f q s line) h = two a f (light a (omega arith)) (light f (omega arith))
  light _ h = tt

  all_light : (as_part : List BodyNode → Part (List BodyNode)) → Keeps as_part → (items : Nodes) → mass_all items ≤ 2 ^ 26 →
      AreLightParts (fold_all bodies_with as_part items)
  all_light as_part keeps none h = tt
  all_light as_part keeps (more first rest) h = (keeps (bodies_in first) (light first (omega arith)), all_light as_part keeps rest (omega arith))

  arms_light : (arms : Arms) → mass_arms arms ≤ 2 ^ 26 → AreLightParts (fold_arms bodies_with arms)
  arms_light no_arms h = tt
  arms_light (more_arms (arm labels a) rest) h =
      both_parts (fold_all bodies_with label labels) _ (all_light label (λ found h. h) labels (omega arith))
      (light a (omega arith), arms_light rest (omega arith))

pub bodies_light : (program : BodyNode) → IsLight program → AllByRecursion IsLight (bodies program)
bodies_light (body params gives tree scope line) h = (h, light tree (omega arith))
