-- Where all bodies of a program are of some sort, so are those inside it, each where it stands.
use Rattle.std.proofs.Common.{◌≡◌, Bool, true, false, List, [], ◌∷◌, ◌++◌, Some, None, refl, sym, ap, ◌∙◌, subst, append_assoc}
use Rattle.std.specs.Prelude.{nat_lt, if◌then◌else◌}
use Rattle.std.specs.List.{AllByRecursion}
use Rattle.std.proofs.lemmas.Bool.{ltb-false}
use Rattle.ps_gen.specs.ps_program.Node.{Node, Nodes, none, more, Arms, no_arms, more_arms, arm, BodyNode, body}
use Rattle.ps_gen.specs.ps_program.Node as node
use Rattle.ps_gen.specs.ps_program.Parts.{Part, operand, label, branch, literal, fold_all, fold_arms}
use Rattle.ps_gen.specs.ps_program.Slots.{slot_count}
use Rattle.ps_typing_laws.specs.ps_typing.Fault.{TooComplex}
use Rattle.ps_typing_laws.specs.ps_typing.Program.{most_slots, bodies_of, bodies, line_of_body, first_complex, bodies_with, bodies_in}
use Rattle.ps_soundness.specs.Valued.{IsValued}
use Rattle.ps_soundness.specs.Shapes.{type_of_body}
use Rattle.ps_soundness.proofs.Sequences.{all_left, all_right}
use Rattle.ps_gen.specs.Units.{HasUnit}
use Rattle.ps_code_laws.specs.Literals.{BodiesAre, BodyIs, AllBodiesAre, ArmsBodiesAre, Fits}
use Rattle.ps_code_laws.proofs.Naming.{AnyType}

module _ (P : BodyNode → Type 0) where
  abbrev All : List BodyNode → Type 0
  All xs = AllByRecursion P xs

  abbrev InPart : Node → Type 0
  InPart t = BodiesAre P AnyType t

  in_one : (xs : List BodyNode) → All (xs ++ []) → All xs
  in_one xs h = all_left P xs [] h

  in_two : (xs ys : List BodyNode) → All (xs ++ (ys ++ [])) → All xs × All ys
  in_two xs ys h = (all_left P xs (ys ++ []) h, in_one ys (all_right P xs (ys ++ []) h))

  in_three : (xs ys zs : List BodyNode) → All (xs ++ (ys ++ (zs ++ []))) → All xs × All ys × All zs
  in_three xs ys zs h = let k = in_two ys zs (all_right P xs (ys ++ (zs ++ [])) h) in (all_left P xs (ys ++ (zs ++ [])) h, k.0, k.1)

  in_four : (xs ys zs us : List BodyNode) → All (xs ++ (ys ++ (zs ++ (us ++ [])))) → All xs × All ys × All zs × All us
  in_four xs ys zs us h =
      let k = in_three ys zs us (all_right P xs (ys ++ (zs ++ (us ++ []))) h) in (all_left P xs (ys ++ (zs ++ (us ++ []))) h, k.0, k.1, k.2)

  -- a part that isn't a literal
  abbrev IsPart : (List BodyNode → Part (List BodyNode)) → Type 0
  IsPart as_part = (found : List BodyNode) (rest : List (Part (List BodyNode))) → bodies_of (as_part found ∷ rest) ≡ found ++ bodies_of rest

  bodies_append : (xs ys : List (Part (List BodyNode))) → bodies_of (xs ++ ys) ≡ bodies_of xs ++ bodies_of ys
  bodies_append [] ys = refl
  bodies_append (operand found ∷ rest) ys = ap (λ (all : List BodyNode). found ++ all) (bodies_append rest ys) ∙ sym (append_assoc found (bodies_of rest)
      (bodies_of ys))
  bodies_append (label found ∷ rest) ys = ap (λ (all : List BodyNode). found ++ all) (bodies_append rest ys) ∙ sym (append_assoc found (bodies_of rest)
      (bodies_of ys))
  bodies_append (branch found ∷ rest) ys = ap (λ (all : List BodyNode). found ++ all) (bodies_append rest ys) ∙ sym (append_assoc found (bodies_of rest)
      (bodies_of ys))
  bodies_append (literal found ∷ rest) ys = ap (λ (all : List BodyNode). found ++ all) (bodies_append rest ys) ∙ sym (append_assoc found (bodies_of rest)
      (bodies_of ys))

  abbrev Found : List (Part (List BodyNode)) → Type 0
  Found parts = All (bodies_of parts)

  abbrev parts_in : (List BodyNode → Part (List BodyNode)) → Nodes → List (Part (List BodyNode))
  parts_in as_part ts = fold_all bodies_with as_part ts

  abbrev arms_in : Arms → List (Part (List BodyNode))
  arms_in arms = fold_arms bodies_with arms

  mutual
    inside : (t : Node) → All (bodies_in t) → InPart t
    inside (node.SetName place ty e) h = (tt, inside e (in_one (bodies_in e) h))
    inside (node.Let place ty e) h = (tt, inside e (in_one (bodies_in e) h))
    inside (node.Block scope items) h = inside_all branch (λ found rest. refl) items h
    inside (node.IfDo c a) h = let k = in_two (bodies_in c) (bodies_in a) h in (inside c k.0, inside a k.1)
    inside (node.IfElse c a b) h =
        let k = in_three (bodies_in c) (bodies_in a) (bodies_in b) h in (inside c k.0, inside a k.1, inside b k.2)
    inside (node.While c a) h = let k = in_two (bodies_in c) (bodies_in a) h in (inside c k.0, inside a k.1)
    inside (node.Repeat a c b) h =
        let k = in_three (bodies_in a) (bodies_in c) (bodies_in b) h in (inside a k.0, inside c k.1, inside b k.2)
    inside (node.For slot a b c scope control s line) h =
        let k = in_four (bodies_in a) (bodies_in b) (bodies_in c) (bodies_in s) h in (inside a k.0, inside b k.1, inside c k.2, inside s k.3)
    inside (node.Case e arms d ty) h =
        let behind = all_right P (bodies_in e) (bodies_of (arms_in arms ++ branch (bodies_in d) ∷ [])) h in
        let parted = subst All (bodies_append (arms_in arms) (branch (bodies_in d) ∷ [])) behind in (
          inside e (all_left P (bodies_in e) (bodies_of (arms_in arms ++ branch (bodies_in d) ∷ [])) h),
          inside_arms arms (all_left P (bodies_of (arms_in arms)) (bodies_in d ++ []) parted),
          inside d (in_one (bodies_in d) (all_right P (bodies_of (arms_in arms)) (bodies_in d ++ []) parted)),
        )
    inside (node.And a b) h = let k = in_two (bodies_in a) (bodies_in b) h in (inside a k.0, inside b k.1)
    inside (node.Or a b) h = let k = in_two (bodies_in a) (bodies_in b) h in (inside a k.0, inside b k.1)
    inside (node.Not e) h = inside e (in_one (bodies_in e) h)
    inside (node.Neg e line) h = inside e (in_one (bodies_in e) h)
    inside (node.Plus e) h = inside e (in_one (bodies_in e) h)
    inside (node.Arith op a b line) h = let k = in_two (bodies_in a) (bodies_in b) h in (inside a k.0, inside b k.1)
    inside (node.Compare op ty a b) h = let k = in_two (bodies_in a) (bodies_in b) h in (inside a k.0, inside b k.1)
    inside (node.Is e class) h = inside e (in_one (bodies_in e) h)
    inside (node.Join a b line) h = let k = in_two (bodies_in a) (bodies_in b) h in (inside a k.0, inside b k.1)
    inside (node.Part a i n line) h =
        let k = in_three (bodies_in a) (bodies_in i) (bodies_in n) h in (inside a k.0, inside i k.1, inside n k.2)
    inside (node.Make class args) h = inside_all operand (λ found rest. refl) args h
    inside (node.Field e class index ty line) h = inside e (in_one (bodies_in e) h)
    inside (node.SetField p class index ty e line) h = let k = in_two (bodies_in p) (bodies_in e) h in (inside p k.0, inside e k.1)
    inside (node.Fill l u e ty line) h =
        let k = in_three (bodies_in l) (bodies_in u) (bodies_in e) h in (inside l k.0, inside u k.1, inside e k.2)
    inside (node.Elems l items ty line) h = (
      inside l (all_left P (bodies_in l) (bodies_of (parts_in operand items)) h),
      inside_all operand (λ found rest. refl) items (all_right P (bodies_in l) (bodies_of (parts_in operand items)) h),
    )
    inside (node.Element v i ty line) h = let k = in_two (bodies_in v) (bodies_in i) h in (inside v k.0, inside i k.1)
    inside (node.SetElement v i e ty line) h =
        let k = in_three (bodies_in v) (bodies_in i) (bodies_in e) h in (inside v k.0, inside i k.1, inside e k.2)
    inside (node.Bound v upper) h = inside v (in_one (bodies_in v) h)
    inside (node.Lib code args line) h = inside_all operand (λ found rest. refl) args h
    inside (node.Write e w wide ty line) h = let k = in_two (bodies_in e) (bodies_in w) h in (inside e k.0, inside w k.1)
    inside (node.Proc (body params gives tree scope line)) h = (h.0, inside tree (in_one (bodies_in tree) h.1))
    inside (node.Call f args line) h = (
      inside f (all_left P (bodies_in f) (bodies_of (parts_in operand args)) h),
      inside_all operand (λ found rest. refl) args (all_right P (bodies_in f) (bodies_of (parts_in operand args)) h),
    )
    inside (node.Scan text a f q s line) h = let k = in_two (bodies_in a) (bodies_in f) h in (inside a k.0, inside f k.1)
    inside other h = tt

    inside_all : (as_part : List BodyNode → Part (List BodyNode)) → IsPart as_part → (ts : Nodes) → Found (parts_in as_part ts) → AllBodiesAre P AnyType ts
    inside_all as_part is none h = tt
    inside_all as_part is (more first rest) h =
        let k = subst All (is (bodies_in first) (parts_in as_part rest)) h in (
          inside first (all_left P (bodies_in first) (bodies_of (parts_in as_part rest)) k),
          inside_all as_part is rest (all_right P (bodies_in first) (bodies_of (parts_in as_part rest)) k),
        )

    inside_arms : (arms : Arms) → Found (arms_in arms) → ArmsBodiesAre P AnyType arms
    inside_arms no_arms h = tt
    inside_arms (more_arms (arm labels a) rest) h =
        let parted = subst All (bodies_append (parts_in label labels) (branch (bodies_in a) ∷ arms_in rest)) h in
        let behind = all_right P (bodies_of (parts_in label labels)) (bodies_in a ++ bodies_of (arms_in rest)) parted in (
          inside_all label (λ found others. refl) labels (all_left P (bodies_of (parts_in label labels)) (bodies_in a ++ bodies_of (arms_in rest)) parted),
          inside a (all_left P (bodies_in a) (bodies_of (arms_in rest)) behind),
          inside_arms rest (all_right P (bodies_in a) (bodies_of (arms_in rest)) behind),
        )

  pub bodies_inside : (of : BodyNode) → All (bodies of) → BodyIs P AnyType of
  bodies_inside (body params gives tree scope line) h = (h.0, inside tree h.1)

-- a body that isn't too complex, and those after it
not_complex : (b : BodyNode) (rest : List BodyNode) (is : Bool) → nat_lt most_slots (slot_count b) ≡ is →
    (if is then Some (TooComplex (line_of_body b) (slot_count b)) else first_complex rest) ≡ None →
    (nat_lt most_slots (slot_count b) ≡ false) × (first_complex rest ≡ None)
not_complex b rest true e h = absurd cc
not_complex b rest false e h = (e, h)

-- bodies whose types are of values, none of which is too complex, and which have units
pub bodies_fit : (all : List BodyNode) → AllByRecursion (λ (of : BodyNode). IsValued (type_of_body of)) all → first_complex all ≡ None →
    AllByRecursion HasUnit all → AllByRecursion Fits all
bodies_fit [] valued few units = tt
bodies_fit (b ∷ rest) valued few units =
    let k = not_complex b rest (nat_lt most_slots (slot_count b)) refl few in (
      record { valued = valued.0; slots = ltb-false most_slots (slot_count b) k.0; unit = units.0 },
      bodies_fit rest valued.1 k.1 units.1,
    )
