-- Each body in a body that fits takes and gives values.
use Rattle.std.proofs.Common.{◌≡◌, List, [], ◌∷◌, ◌++◌}
use Rattle.std.specs.List.{AllByRecursion}
use Rattle.ps_leaf_laws.specs.ps_tree.Phrase.{Phrase}
use Rattle.ps_leaf_laws.specs.ps_program.Node.{Node, Nodes, none, more, Arms, no_arms, more_arms, arm, BodyNode, body}
use Rattle.ps_leaf_laws.specs.ps_program.Node as node
use Rattle.ps_leaf_laws.specs.ps_program.Parts.{Part, operand, label, branch, literal, fold_all, fold_arms}
use Rattle.ps_leaf_laws.specs.ps_typing.Program.{Typed, check_program, bodies, bodies_of, bodies_with, bodies_in}
use Rattle.ps_leaf_laws.specs.Leaves.{LeavesFit}
use Rattle.ps_fit_laws.specs.Fitting.{Fits, AllFit, ArmsFit, FitsBody, TakesAndGivesValues}
use Rattle.ps_fit_laws.proofs.OfProgram.{typed_fits}

abbrev AreValued : List BodyNode → Type 0
AreValued found = AllByRecursion TakesAndGivesValues found

-- what is found in parts
abbrev IsValuedPart : Part (List BodyNode) → Type 0
IsValuedPart (operand found) = AreValued found
IsValuedPart (label found) = AreValued found
IsValuedPart (branch found) = AreValued found
IsValuedPart (literal found) = AreValued found

abbrev AreValuedParts : List (Part (List BodyNode)) → Type 0
AreValuedParts parts = AllByRecursion IsValuedPart parts

all_of : {A : Type 0} (P : A → Type 0) (a b : List A) → AllByRecursion P a → AllByRecursion P b → AllByRecursion P (a ++ b)
all_of P [] b h k = k
all_of P (first ∷ rest) b h k = (h.0, all_of P rest b h.1 k)

both : (a b : List BodyNode) → AreValued a → AreValued b → AreValued (a ++ b)
both = all_of TakesAndGivesValues

both_parts : (a b : List (Part (List BodyNode))) → AreValuedParts a → AreValuedParts b → AreValuedParts (a ++ b)
both_parts = all_of IsValuedPart

in_parts : (parts : List (Part (List BodyNode))) → AreValuedParts parts → AreValued (bodies_of parts)
in_parts [] h = tt
in_parts (operand found ∷ rest) h = both found _ h.0 (in_parts rest h.1)
in_parts (label found ∷ rest) h = both found _ h.0 (in_parts rest h.1)
in_parts (branch found ∷ rest) h = both found _ h.0 (in_parts rest h.1)
in_parts (literal found ∷ rest) h = both found _ h.0 (in_parts rest h.1)

one : (a : Node) → AreValued (bodies_in a) → AreValued (bodies_in a ++ [])
one a h = both (bodies_in a) [] h tt

two : (a b : Node) → AreValued (bodies_in a) → AreValued (bodies_in b) → AreValued (bodies_in a ++ (bodies_in b ++ []))
two a b h k = both (bodies_in a) _ h (one b k)

three : (a b c : Node) → AreValued (bodies_in a) → AreValued (bodies_in b) → AreValued (bodies_in c) →
    AreValued (bodies_in a ++ (bodies_in b ++ (bodies_in c ++ [])))
three a b c h k l = both (bodies_in a) _ h (two b c k l)

-- lists whose items are parts of one sort
abbrev Keeps : (List BodyNode → Part (List BodyNode)) → Type 0
Keeps as_part = (found : List BodyNode) → AreValued found → IsValuedPart (as_part found)

mutual
  valued : (tree : Node) → Fits tree → AreValued (bodies_in tree)
  valued (node.SetName place ty e) h = one e (valued e h)
  valued (node.Let place ty e) h = one e (valued e h)
  valued (node.Block scope items) h = in_parts (fold_all bodies_with branch items) (all_valued branch (λ found h. h) items h)
  valued (node.IfDo c a) h = two c a (valued c h.0) (valued a h.1)
  valued (node.IfElse c a b) h = three c a b (valued c h.0) (valued a h.1) (valued b h.2)
  valued (node.While c a) h = two c a (valued c h.0) (valued a h.1)
  valued (node.Repeat a c b) h = three a c b (valued a h.0) (valued c h.1) (valued b h.2)
  valued (node.For slot a b c scope control s line) h =
      both (bodies_in a) _ (valued a h.0) (three b c s (valued b h.1) (valued c h.2) (valued s h.3))
  valued (node.Case e arms d ty) h =
      both (bodies_in e) _ (valued e h.0) (in_parts (fold_arms bodies_with arms ++ branch (bodies_in d) ∷ [])
      (both_parts (fold_arms bodies_with arms) _ (arms_valued arms h.1) (valued d h.2, tt)))
  valued (node.And a b) h = two a b (valued a h.0) (valued b h.1)
  valued (node.Or a b) h = two a b (valued a h.0) (valued b h.1)
  valued (node.Not e) h = one e (valued e h)
  valued (node.Neg e line) h = one e (valued e h)
  valued (node.Plus e) h = one e (valued e h)
  valued (node.Arith op a b line) h = two a b (valued a h.0) (valued b h.1)
  valued (node.Compare op ty a b) h = two a b (valued a h.0) (valued b h.1)
  valued (node.Is e class) h = one e (valued e h.1)
  valued (node.Join a b line) h = two a b (valued a h.0) (valued b h.1)
  valued (node.Part a i n line) h = three a i n (valued a h.0) (valued i h.1) (valued n h.2)
  valued (node.Make class args) h = in_parts (fold_all bodies_with operand args) (all_valued operand (λ found h. h) args h.1)
  valued (node.Field e class index ty line) h = one e (valued e h.1)
  valued (node.SetField p class index ty e line) h = two p e (valued p h.1) (valued e h.2)
  valued (node.Fill l u e ty line) h = three l u e (valued l h.0) (valued u h.1) (valued e h.2)
  valued (node.Elems l items ty line) h =
      both (bodies_in l) _ (valued l h.1) (in_parts (fold_all bodies_with operand items) (all_valued operand (λ found h. h) items h.2))
  valued (node.Element v i ty line) h = two v i (valued v h.0) (valued i h.1)
  valued (node.SetElement v i e ty line) h = three v i e (valued v h.0) (valued i h.1) (valued e h.2)
  valued (node.Bound v upper) h = one v (valued v h)
  valued (node.Lib code args line) h = in_parts (fold_all bodies_with operand args) (all_valued operand (λ found h. h) args h)
  valued (node.Write e w wide ty line) h = two e w (valued e h.0) (valued w h.1)
  valued (node.Proc (body params gives tree scope line)) h = (h.0, one tree (valued tree h.1))
  valued (node.Call f args line) h =
      both (bodies_in f) _ (valued f h.0) (in_parts (fold_all bodies_with operand args) (all_valued operand (λ found h. h) args h.1))
  valued (node.Scan text a f q s line) h = two a f (valued a h.0) (valued f h.1)
  valued _ h = tt

  all_valued : (as_part : List BodyNode → Part (List BodyNode)) → Keeps as_part → (items : Nodes) → AllFit items →
      AreValuedParts (fold_all bodies_with as_part items)
  all_valued as_part keeps none h = tt
  all_valued as_part keeps (more first rest) h = (keeps (bodies_in first) (valued first h.0), all_valued as_part keeps rest h.1)

  arms_valued : (arms : Arms) → ArmsFit arms → AreValuedParts (fold_arms bodies_with arms)
  arms_valued no_arms h = tt
  arms_valued (more_arms (arm labels a) rest) h =
      both_parts (fold_all bodies_with label labels) _ (all_valued label (λ found h. h) labels h.0) (valued a h.1, arms_valued rest h.2)

bodies_valued : (program : BodyNode) → FitsBody program → AreValued (bodies program)
bodies_valued (body params gives tree scope line) h = (h.0, valued tree h.1)

pub program_bodies_valued : (tree : Phrase) (program : BodyNode) → LeavesFit tree → check_program tree ≡ Typed program → AreValued (bodies program)
program_bodies_valued tree program leaves is = bodies_valued program (typed_fits tree program leaves is)
