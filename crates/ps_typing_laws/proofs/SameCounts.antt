-- What is counted over a clause is the same when its names are placed.
use Rattle.std.proofs.Common.{◌≡◌, ℕ, ◌+◌, List, [], ◌∷◌, ◌++◌, refl, sym, ap, ◌∙◌}
use Rattle.std.specs.Prelude.{Option, Some, None, map, length, nat_lt, if◌then◌else◌}
use Rattle.std.proofs.lemmas.List.{map-append, length-map}
use Rattle.ps_typing.specs.ps_base.declared.line.Line.{Line}
use Rattle.ps_typing.specs.ps_program.Node.{Param, Node, Nodes, none, more, Arms, no_arms, more_arms, arm, BodyNode, body}
use Rattle.ps_typing.specs.ps_program.Node as node
use Rattle.ps_typing.specs.ps_program.Parts.{Part, operand, label, branch, literal, fold, fold_all, fold_arms}
use Rattle.ps_typing.specs.ps_program.Slots.{sum_of, own_locals, locals, reaches, depth, slot_count}
use Rattle.ps_typing.specs.ps_type_text.Texts.{Field}
use Rattle.ps_typing.specs.Mentions.{numbers, common}
use Rattle.ps_typing.specs.Placing.{Locals, Around, place_of, inside}
use Rattle.ps_typing.specs.Placed.{then_give, ◌>>=◌, placed, placed_all, placed_arms, placed_literal, placed_program, with_params}
use Rattle.ps_typing.specs.Fault.{Fault, TooComplex}
use Rattle.ps_typing.specs.Program.{bodies_of, own_body, bodies, line_of_body, first_complex, most_slots, bodies_with, bodies_in}
use Rattle.ps_typing_laws.specs.Counted.{measure}

-- parts of the same kinds, of which this is so
abbrev SamePart : {A : Type 0} → (A → A → Type 0) → Part A → Part A → Type 0
SamePart R (operand a) (operand b) = R a b
SamePart R (label a) (label b) = R a b
SamePart R (branch a) (branch b) = R a b
SamePart R (literal a) (literal b) = R a b
SamePart R a b = ⊥

abbrev SameParts : {A : Type 0} → (A → A → Type 0) → List (Part A) → List (Part A) → Type 0
SameParts R [] [] = Unit {0}
SameParts R (p ∷ ps) (q ∷ qs) = SamePart R p q × SameParts R ps qs
SameParts R ps qs = ⊥

same_append : {A : Type 0} (R : A → A → Type 0) (ps qs rs ss : List (Part A)) → SameParts R ps qs → SameParts R rs ss → SameParts R (ps ++ rs) (qs ++ ss)
same_append R [] [] rs ss h k = k
same_append R (p ∷ ps) (q ∷ qs) rs ss h k = (h.0, same_append R ps qs rs ss h.1 k)
same_append R [] (q ∷ qs) rs ss h k = absurd h
same_append R (p ∷ ps) [] rs ss h k = absurd h

module _ {A : Type 0} (g : Node → List (Part A) → A) (R : A → A → Type 0)
    (blind : (around : Around) (l : Locals) (tree : Node) (ps qs : List (Part A)) → SameParts R ps qs → R (g (placed around l tree).of ps) (g tree qs)) where
  mutual
    unfolding then_give ◌>>=◌

    pub same : (around : Around) (l : Locals) (tree : Node) → R (fold g (placed around l tree).of) (fold g tree)
    same around l (node.Int v) = blind around l (node.Int v) [] [] tt
    same around l (node.Flag b) = blind around l (node.Flag b) [] [] tt
    same around l (node.Text bytes) = blind around l (node.Text bytes) [] [] tt
    same around l node.Nil = blind around l node.Nil [] [] tt
    same around l node.Class = blind around l node.Class [] [] tt
    same around l node.Empty = blind around l node.Empty [] [] tt
    same around l (node.Name place ty) = blind around l (node.Name place ty) [] [] tt
    same around l (node.SetName place ty e) = blind around l (node.SetName place ty e) _ _ (same around l e, tt)
    same around l (node.Let place ty e) = blind around l (node.Let place ty e) _ _ (same around _ e, tt)
    same around l (node.Block scope items) = blind around l (node.Block scope items) _ _ (same_all branch (λ a b r. r) _ l items)
    same around l (node.IfDo c a) = blind around l (node.IfDo c a) _ _ (same around l c, (same around _ a, tt))
    same around l (node.IfElse c a b) = blind around l (node.IfElse c a b) _ _ (same around l c, (same around _ a, (same around _ b, tt)))
    same around l (node.While c a) = blind around l (node.While c a) _ _ (same around l c, (same around _ a, tt))
    same around l (node.Repeat a c b) = blind around l (node.Repeat a c b) _ _ (same around l a, (same around _ c, (same around _ b, tt)))
    same around l (node.For slot a b c scope control s line) =
        blind around l (node.For slot a b c scope control s line) _ _ (same around _ a, (same around _ b, (same around _ c, (same _ _ s, tt))))
    same around l (node.Case e arms d ty) = blind around l (node.Case e arms d ty) _ _ (
      same around l e,
      same_append R (fold_arms g (placed_arms around (placed around l e).locals arms).of) (fold_arms g arms) _ _
          (same_arms around (placed around l e).locals arms) (same around _ d, tt),
    )
    same around l (node.And a b) = blind around l (node.And a b) _ _ (same around l a, (same around _ b, tt))
    same around l (node.Or a b) = blind around l (node.Or a b) _ _ (same around l a, (same around _ b, tt))
    same around l (node.Not e) = blind around l (node.Not e) _ _ (same around l e, tt)
    same around l (node.Neg e line) = blind around l (node.Neg e line) _ _ (same around l e, tt)
    same around l (node.Plus e) = blind around l (node.Plus e) _ _ (same around l e, tt)
    same around l (node.Arith op a b line) = blind around l (node.Arith op a b line) _ _ (same around l a, (same around _ b, tt))
    same around l (node.Compare op ty a b) = blind around l (node.Compare op ty a b) _ _ (same around l a, (same around _ b, tt))
    same around l (node.Is e class) = blind around l (node.Is e class) _ _ (same around l e, tt)
    same around l (node.Join a b line) = blind around l (node.Join a b line) _ _ (same around l a, (same around _ b, tt))
    same around l (node.Part a i n line) = blind around l (node.Part a i n line) _ _ (same around l a, (same around _ i, (same around _ n, tt)))
    same around l (node.Make class args) = blind around l (node.Make class args) _ _ (same_all operand (λ a b r. r) around l args)
    same around l (node.Field e class index ty line) = blind around l (node.Field e class index ty line) _ _ (same around l e, tt)
    same around l (node.SetField p class index ty e line) = blind around l (node.SetField p class index ty e line) _ _ (same around l p, (same around _ e, tt))
    same around l (node.Fill a b e ty line) = blind around l (node.Fill a b e ty line) _ _ (same around l a, (same around _ b, (same around _ e, tt)))
    same around l (node.Elems a items ty line) = blind around l (node.Elems a items ty line) _ _ (same around l a, same_all operand (λ a b r. r) around _ items)
    same around l (node.Element v i ty line) = blind around l (node.Element v i ty line) _ _ (same around l v, (same around _ i, tt))
    same around l (node.SetElement v i e ty line) = blind around l (node.SetElement v i e ty line) _ _
        (same around l v, (same around _ i, (same around _ e, tt)))
    same around l (node.Bound v upper) = blind around l (node.Bound v upper) _ _ (same around l v, tt)
    same around l (node.Proc (body params gives_ tree scope line)) = blind around l (node.Proc (body params gives_ tree scope line)) _ _ (same _ _ tree, tt)
    same around l (node.Call f args line) = blind around l (node.Call f args line) _ _ (same around l f, same_all operand (λ a b r. r) around _ args)
    same around l (node.Lib code args line) = blind around l (node.Lib code args line) _ _ (same_all operand (λ a b r. r) around l args)
    same around l (node.Scan text a f q s line) = blind around l (node.Scan text a f q s line) _ _ (same around _ a, (same around _ f, tt))
    same around l (node.Write e w wide ty line) = blind around l (node.Write e w wide ty line) _ _ (same around l e, (same around _ w, tt))
    same around l (node.Abort line) = blind around l (node.Abort line) [] [] tt

    same_all : (as_part : A → Part A) → ((a b : A) → R a b → SamePart R (as_part a) (as_part b)) → (around : Around) (l : Locals) (ns : Nodes) →
        SameParts R (fold_all g as_part (placed_all around l ns).of) (fold_all g as_part ns)
    same_all as_part is around l none = tt
    same_all as_part is around l (more first rest) = (is _ _ (same around l first), same_all as_part is around _ rest)

    same_arms : (around : Around) (l : Locals) (arms : Arms) → SameParts R (fold_arms g (placed_arms around l arms).of) (fold_arms g arms)
    same_arms around l no_arms = tt
    same_arms around l (more_arms (arm labels a) rest) =
        same_append R (fold_all g label (placed_all around l labels).of) (fold_all g label labels) _ _ (same_all label (λ a b r. r) around l labels)
        (same around _ a, same_arms around _ rest)

-- where equal parts are the same parts
equal_part : {A : Type 0} (p q : Part A) → SamePart (λ (a b : A). a ≡ b) p q → p ≡ q
equal_part (operand a) (operand b) h = ap operand h
equal_part (label a) (label b) h = ap label h
equal_part (branch a) (branch b) h = ap branch h
equal_part (literal a) (literal b) h = ap literal h
equal_part p q h = absurd h

equal_parts : {A : Type 0} (ps qs : List (Part A)) → SameParts (λ (a b : A). a ≡ b) ps qs → ps ≡ qs
equal_parts [] [] h = refl
equal_parts (p ∷ ps) (q ∷ qs) h = ap (λ x. x ∷ ps) (equal_part p q h.0) ∙ ap (λ rest. q ∷ rest) (equal_parts ps qs h.1)
equal_parts [] (q ∷ qs) h = absurd h
equal_parts (p ∷ ps) [] h = absurd h

same_own_locals : (around : Around) (l : Locals) (tree : Node) → own_locals (placed around l tree).of ≡ own_locals tree
unfolding then_give ◌>>=◌
same_own_locals around l (node.Let place ty e) = refl
same_own_locals around l other = refl

pub same_locals : (around : Around) (l : Locals) (tree : Node) → locals (placed around l tree).of ≡ locals tree
same_locals = same (λ clause parts. own_locals clause + sum_of parts) (λ (a b : ℕ). a ≡ b)
    (λ around l tree ps qs h. ap (λ n. n + sum_of ps) (same_own_locals around l tree) ∙ ap (λ parts. own_locals tree + sum_of parts) (equal_parts ps qs h))

pub same_depth : (around : Around) (l : Locals) (tree : Node) → depth (placed around l tree).of ≡ depth tree
same_depth = same (λ clause parts. reaches 0 parts) (λ (a b : ℕ). a ≡ b) (λ around l tree ps qs h. ap (reaches 0) (equal_parts ps qs h))

same_slot_count : (around : Around) (l : Locals) (of : BodyNode) → slot_count (placed_literal around l of).of ≡ slot_count of
unfolding then_give ◌>>=◌
same_slot_count around l (body params gives_ tree scope line) =
    let within = inside around (common (numbers params) around.kept) in
    let own = with_params params (record { nums = 0; refs = 0; of = l.of }) in
    let a = length-map params (λ (param : Param). record param { place = place_of within own param.place }) in
    let b = same_locals within own tree in
    let c = same_depth within own tree in
    ap (λ n. n + (locals (placed within own tree).of + depth (placed within own tree).of)) a ∙ ap
    (λ n. length params + (n + depth (placed within own tree).of)) b ∙ ap (λ n. length params + (locals tree + n)) c

same_line : (around : Around) (l : Locals) (of : BodyNode) → line_of_body (placed_literal around l of).of ≡ line_of_body of
unfolding then_give ◌>>=◌
same_line around l (body params gives_ tree scope line) = refl

same_measure : (around : Around) (l : Locals) (of : BodyNode) → measure (placed_literal around l of).of ≡ measure of
same_measure around l of = ap (λ line. (line, slot_count (placed_literal around l of).of)) (same_line around l of) ∙ ap (λ n. (line_of_body of, n))
    (same_slot_count around l of)

abbrev SameMeasures : List BodyNode → List BodyNode → Type 0
SameMeasures as_ bs = map measure as_ ≡ map measure bs

same_own_body : (around : Around) (l : Locals) (tree : Node) → SameMeasures (own_body (placed around l tree).of) (own_body tree)
unfolding then_give ◌>>=◌
same_own_body around l (node.Proc of) = ap (λ m. m ∷ []) (same_measure around l of)
same_own_body around l other = refl

joined_measures : (as_ bs cs ds : List BodyNode) → SameMeasures as_ bs → SameMeasures cs ds → SameMeasures (as_ ++ cs) (bs ++ ds)
joined_measures as_ bs cs ds h k = map-append measure as_ cs ∙ ap (λ ms. ms ++ map measure cs) h ∙ ap (λ ms. map measure bs ++ ms) k ∙ sym
    (map-append measure bs ds)

first_measures : (p q : Part (List BodyNode)) (ps qs : List (Part (List BodyNode))) → SamePart SameMeasures p q →
    SameMeasures (bodies_of ps) (bodies_of qs) → SameMeasures (bodies_of (p ∷ ps)) (bodies_of (q ∷ qs))
first_measures (operand a) (operand b) ps qs h k = joined_measures a b (bodies_of ps) (bodies_of qs) h k
first_measures (label a) (label b) ps qs h k = joined_measures a b (bodies_of ps) (bodies_of qs) h k
first_measures (branch a) (branch b) ps qs h k = joined_measures a b (bodies_of ps) (bodies_of qs) h k
first_measures (literal a) (literal b) ps qs h k = joined_measures a b (bodies_of ps) (bodies_of qs) h k
first_measures p q ps qs h k = absurd h

parts_measures : (ps qs : List (Part (List BodyNode))) → SameParts SameMeasures ps qs → SameMeasures (bodies_of ps) (bodies_of qs)
parts_measures [] [] h = refl
parts_measures (p ∷ ps) (q ∷ qs) h = first_measures p q ps qs h.0 (parts_measures ps qs h.1)
parts_measures [] (q ∷ qs) h = absurd h
parts_measures (p ∷ ps) [] h = absurd h

same_inside : (around : Around) (l : Locals) (tree : Node) →
    SameMeasures (bodies_in (placed around l tree).of)
    (bodies_in tree)
same_inside = same bodies_with SameMeasures
    (λ around l tree ps qs h. joined_measures (own_body (placed around l tree).of) (own_body tree) (bodies_of ps) (bodies_of qs)
    (same_own_body around l tree) (parts_measures ps qs h))

same_bodies : (around : Around) (l : Locals) (of : BodyNode) → SameMeasures (bodies (placed_literal around l of).of) (bodies of)
unfolding then_give ◌>>=◌
same_bodies around l (body params gives_ tree scope line) =
    let within = inside around (common (numbers params) around.kept) in
    let own = with_params params (record { nums = 0; refs = 0; of = l.of }) in
    ap (λ m. m ∷ map measure (bodies_in (placed within own tree).of))
    (same_measure around l (body params gives_ tree scope line))
    ∙ ap (λ ms. measure (body params gives_ tree scope line) ∷ ms) (same_inside within own tree)

pub program_measures : (names : List Field) (program : BodyNode) → map measure (bodies (placed_program names program)) ≡ map measure (bodies program)
program_measures names program = same_bodies _ _ program

-- the first body with too many slots, by what is measured
complex_of : List (Line × ℕ) → Option Fault
complex_of [] = None
complex_of (m ∷ ms) = if nat_lt most_slots m.1 then Some (TooComplex m.0 m.1) else complex_of ms

complex_by_measure : (bs : List BodyNode) → first_complex bs ≡ complex_of (map measure bs)
unfolding complex_of
complex_by_measure [] = refl
complex_by_measure (b ∷ bs) = ap (λ o. if nat_lt most_slots (slot_count b) then Some (TooComplex (line_of_body b) (slot_count b)) else o)
    (complex_by_measure bs)

pub program_complex : (names : List Field) (program : BodyNode) → first_complex (bodies (placed_program names program)) ≡ first_complex (bodies program)
program_complex names program =
    complex_by_measure (bodies (placed_program names program)) ∙ ap complex_of (program_measures names program) ∙ sym (complex_by_measure (bodies program))
