-- Where each literal in a clause has a unit, so has each body of it, in whatever order they are told.
use Rattle.std.proofs.Common.{◌≡◌, List, [], ◌∷◌, ◌++◌, refl, sym, subst}
use Rattle.std.specs.List.{AllByRecursion}
use Rattle.ps_base.specs.declared.instr.Instr.{Instr}
use Rattle.ps_program.specs.Node.{Node, Nodes, none, more, Arms, no_arms, more_arms, arm, BodyNode, body}
use Rattle.ps_program.specs.Node as node
use Rattle.ps_program.specs.Parts.{Part, operand, label, branch, literal, fold_all, fold_arms}
use Rattle.ps_emitter.specs.ps_typing.Program.{bodies, bodies_of, bodies_with, bodies_in}
use Rattle.ps_gen.specs.Units.{HasUnit}
use Rattle.ps_emitter.specs.Pieces.{AreInstrs}
use Rattle.ps_emitter.proofs.Spelled.{all-append}
use Rattle.ps_gen.specs.inside.Literals.{literals_in, literals_in_all, literals_in_arms}

-- of a list that is joined of two, each
first_all : {A : Type 0} (P : A → Type 0) (xs ys : List A) → AllByRecursion P (xs ++ ys) → AllByRecursion P xs
first_all P [] ys are = tt
first_all P (x ∷ xs) ys are = (are.0, first_all P xs ys are.1)

rest_all : {A : Type 0} (P : A → Type 0) (xs ys : List A) → AllByRecursion P (xs ++ ys) → AllByRecursion P ys
rest_all P [] ys are = are
rest_all P (x ∷ xs) ys are = rest_all P xs ys are.1

-- each of these codes can be spelled
abbrev Fit : List (List Instr) → Type 0
Fit codes = AllByRecursion AreInstrs codes

first_of : (xs ys : List (List Instr)) → Fit (xs ++ ys) → Fit xs
first_of xs ys are = first_all AreInstrs xs ys are

rest_of : (xs ys : List (List Instr)) → Fit (xs ++ ys) → Fit ys
rest_of xs ys are = rest_all AreInstrs xs ys are

abbrev Has : List BodyNode → Type 0
Has xs = AllByRecursion HasUnit xs

-- of two parts, and of three
two : (xs ys : List BodyNode) → Has xs → Has ys → Has (xs ++ (ys ++ []))
two xs ys are and = all-append HasUnit xs (ys ++ []) are (all-append HasUnit ys [] and tt)

three : (xs ys zs : List BodyNode) → Has xs → Has ys → Has zs → Has (xs ++ (ys ++ (zs ++ [])))
three xs ys zs are and also = all-append HasUnit xs (ys ++ (zs ++ [])) are (two ys zs and also)

one : (xs : List BodyNode) → Has xs → Has (xs ++ [])
one xs are = all-append HasUnit xs [] are tt

parts_two : (ps qs : List (Part (List BodyNode))) → Has (bodies_of ps) → Has (bodies_of qs) → Has (bodies_of (ps ++ qs))
parts_two [] qs are and = and
parts_two (operand found ∷ ps) qs are and = all-append HasUnit found _ (first_all HasUnit found (bodies_of ps) are) (parts_two ps qs (rest_all HasUnit found (bodies_of ps) are) and)
parts_two (label found ∷ ps) qs are and = all-append HasUnit found _ (first_all HasUnit found (bodies_of ps) are) (parts_two ps qs (rest_all HasUnit found (bodies_of ps) are) and)
parts_two (branch found ∷ ps) qs are and = all-append HasUnit found _ (first_all HasUnit found (bodies_of ps) are) (parts_two ps qs (rest_all HasUnit found (bodies_of ps) are) and)
parts_two (literal found ∷ ps) qs are and = all-append HasUnit found _ (first_all HasUnit found (bodies_of ps) are) (parts_two ps qs (rest_all HasUnit found (bodies_of ps) are) and)

-- the same of parts whose literals are joined in the order of the code
pair : (la lb : List (List Instr)) (a b : List BodyNode) → (Fit la → Has a) → (Fit lb → Has b) → Fit (la ++ lb) → Has (a ++ (b ++ []))
pair la lb a b f g are = two a b (f (first_of la lb are)) (g (rest_of la lb are))

triple : (la lb lc : List (List Instr)) (a b c : List BodyNode) → (Fit la → Has a) → (Fit lb → Has b) → (Fit lc → Has c) → Fit (la ++ (lb ++ lc)) → Has (a ++ (b ++ (c ++ [])))
triple la lb lc a b c f g h are = all-append HasUnit a (b ++ (c ++ [])) (f (first_of la (lb ++ lc) are)) (pair lb lc b c g h (rest_of la (lb ++ lc) are))

behind : (la lns : List (List Instr)) (a ns : List BodyNode) → (Fit la → Has a) → (Fit lns → Has ns) → Fit (la ++ lns) → Has (a ++ ns)
behind la lns a ns f g are = all-append HasUnit a ns (f (first_of la lns are)) (g (rest_of la lns are))

mutual
  told_units : (n : Node) → Fit (literals_in n) → Has (bodies_in n)
  told_units (node.SetName place ty e) are = one (bodies_in e) (told_units e are)
  told_units (node.Let place ty e) are = one (bodies_in e) (told_units e are)
  told_units (node.Block scope items) are = all_units branch (λ found ps. refl) items are
  told_units (node.IfDo c a) are = pair (literals_in c) (literals_in a) (bodies_in c) (bodies_in a) (λ h. told_units c h) (λ h. told_units a h) are
  told_units (node.IfElse c a b) are =
      triple (literals_in c) (literals_in a) (literals_in b) (bodies_in c) (bodies_in a) (bodies_in b) (λ h. told_units c h) (λ h. told_units a h)
      (λ h. told_units b h) are
  told_units (node.While c a) are = two (bodies_in c) (bodies_in a) (told_units c (rest_of (literals_in a) (literals_in c) are)) (told_units a (first_of (literals_in a) (literals_in c) are))
  told_units (node.Repeat a c b) are =
      let r = rest_of (literals_in b) (literals_in a ++ literals_in c) are in
      three (bodies_in a) (bodies_in c) (bodies_in b) (told_units a (first_of (literals_in a) (literals_in c) r)) (told_units c (rest_of (literals_in a) (literals_in c) r))
      (told_units b (first_of (literals_in b) (literals_in a ++ literals_in c) are))
  told_units (node.For slot a b c scope control s line) are =
      all-append HasUnit (bodies_in a) (bodies_in b ++ (bodies_in c ++ (bodies_in s ++ []))) (told_units a (first_of (literals_in a) (literals_in b ++ (literals_in c ++ literals_in s)) are))
      (triple (literals_in b) (literals_in c) (literals_in s) (bodies_in b) (bodies_in c) (bodies_in s) (λ h. told_units b h) (λ h. told_units c h)
      (λ h. told_units s h) (rest_of (literals_in a) (literals_in b ++ (literals_in c ++ literals_in s)) are))
  told_units (node.Case e arms d ty) are =
      let r = rest_of (literals_in e) (literals_in_arms arms ++ literals_in d) are in
      all-append HasUnit (bodies_in e) _ (told_units e (first_of (literals_in e) (literals_in_arms arms ++ literals_in d) are))
      (parts_two (fold_arms bodies_with arms) (branch (bodies_in d) ∷ [])
      (arms_units arms (first_of (literals_in_arms arms) (literals_in d) r)) (one (bodies_in d) (told_units d (rest_of (literals_in_arms arms) (literals_in d) r))))
  told_units (node.And a b) are = pair (literals_in a) (literals_in b) (bodies_in a) (bodies_in b) (λ h. told_units a h) (λ h. told_units b h) are
  told_units (node.Or a b) are = pair (literals_in a) (literals_in b) (bodies_in a) (bodies_in b) (λ h. told_units a h) (λ h. told_units b h) are
  told_units (node.Not e) are = one (bodies_in e) (told_units e are)
  told_units (node.Neg e line) are = one (bodies_in e) (told_units e are)
  told_units (node.Plus e) are = one (bodies_in e) (told_units e are)
  told_units (node.Arith op a b line) are = pair (literals_in a) (literals_in b) (bodies_in a) (bodies_in b) (λ h. told_units a h) (λ h. told_units b h) are
  told_units (node.Compare op ty a b) are = pair (literals_in a) (literals_in b) (bodies_in a) (bodies_in b) (λ h. told_units a h) (λ h. told_units b h) are
  told_units (node.Is e class) are = one (bodies_in e) (told_units e are)
  told_units (node.Join a b line) are = pair (literals_in a) (literals_in b) (bodies_in a) (bodies_in b) (λ h. told_units a h) (λ h. told_units b h) are
  told_units (node.Part a i n line) are =
      triple (literals_in a) (literals_in i) (literals_in n) (bodies_in a) (bodies_in i) (bodies_in n) (λ h. told_units a h) (λ h. told_units i h)
      (λ h. told_units n h) are
  told_units (node.Make class args) are = all_units operand (λ found ps. refl) args are
  told_units (node.Field e class index ty line) are = one (bodies_in e) (told_units e are)
  told_units (node.SetField p class index ty e line) are = pair (literals_in p) (literals_in e) (bodies_in p) (bodies_in e) (λ h. told_units p h) (λ h. told_units e h) are
  told_units (node.Fill l u e ty line) are =
      triple (literals_in l) (literals_in u) (literals_in e) (bodies_in l) (bodies_in u) (bodies_in e) (λ h. told_units l h) (λ h. told_units u h)
      (λ h. told_units e h) are
  told_units (node.Elems l items ty line) are =
      behind (literals_in l) (literals_in_all items) (bodies_in l) _ (λ h. told_units l h) (λ h. all_units operand (λ found ps. refl) items h) are
  told_units (node.Element v i ty line) are = pair (literals_in v) (literals_in i) (bodies_in v) (bodies_in i) (λ h. told_units v h) (λ h. told_units i h) are
  told_units (node.SetElement v i e ty line) are =
      triple (literals_in v) (literals_in i) (literals_in e) (bodies_in v) (bodies_in i) (bodies_in e) (λ h. told_units v h) (λ h. told_units i h)
      (λ h. told_units e h) are
  told_units (node.Bound v upper) are = one (bodies_in v) (told_units v are)
  told_units (node.Proc (body params gives tree scope line)) are = (are.0, one (bodies_in tree) (told_units tree are.1))
  told_units (node.Call f args line) are =
      behind (literals_in f) (literals_in_all args) (bodies_in f) _ (λ h. told_units f h) (λ h. all_units operand (λ found ps. refl) args h) are
  told_units (node.Lib code args line) are = all_units operand (λ found ps. refl) args are
  told_units (node.Scan string a f q s line) are = pair (literals_in a) (literals_in f) (bodies_in a) (bodies_in f) (λ h. told_units a h) (λ h. told_units f h) are
  told_units (node.Write e w wide ty line) are = pair (literals_in e) (literals_in w) (bodies_in e) (bodies_in w) (λ h. told_units e h) (λ h. told_units w h) are
  told_units (node.Int v) are = tt
  told_units (node.Flag b) are = tt
  told_units (node.Text bytes) are = tt
  told_units node.Nil are = tt
  told_units (node.Name place ty) are = tt
  told_units node.Class are = tt
  told_units node.Empty are = tt
  told_units (node.Abort line) are = tt

  all_units : (as_part : List BodyNode → Part (List BodyNode)) → ((found : List BodyNode) (ps : List (Part (List BodyNode))) → bodies_of (as_part found ∷ ps) ≡ found ++ bodies_of ps) →
      (ns : Nodes) → Fit (literals_in_all ns) → Has (bodies_of (fold_all bodies_with as_part ns))
  all_units as_part is none are = tt
  all_units as_part is (more n ns) are =
      let rest = fold_all bodies_with as_part ns in
      subst (λ xs. Has xs) (sym (is (bodies_in n) rest))
      (all-append HasUnit (bodies_in n) (bodies_of rest) (told_units n (first_of (literals_in n) (literals_in_all ns) are))
      (all_units as_part is ns (rest_of (literals_in n) (literals_in_all ns) are)))

  arms_units : (arms : Arms) → Fit (literals_in_arms arms) → Has (bodies_of (fold_arms bodies_with arms))
  arms_units no_arms are = tt
  arms_units (more_arms (arm labels a) rest) are =
      let r = rest_of (literals_in_all labels) (literals_in a ++ literals_in_arms rest) are in
      parts_two (fold_all bodies_with label labels) (branch (bodies_in a) ∷ fold_arms bodies_with rest)
      (all_units label (λ found ps. refl) labels (first_of (literals_in_all labels) (literals_in a ++ literals_in_arms rest) are))
      (all-append HasUnit (bodies_in a) (bodies_of (fold_arms bodies_with rest)) (told_units a (first_of (literals_in a) (literals_in_arms rest) r))
      (arms_units rest (rest_of (literals_in a) (literals_in_arms rest) r)))

-- each body of a body, itself first
pub bodies_units : (of : BodyNode) → AllByRecursion AreInstrs (literals_in (node.Proc of)) → AllByRecursion HasUnit (bodies of)
bodies_units (body params gives tree scope line) are = (are.0, told_units tree are.1)
