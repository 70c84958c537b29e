-- The marks of a clause, from its parts.
use Rattle.std.proofs.Common.{◌≡◌, ◌<◌, ℕ, suc, length, get_or, drop, drop-cons, ◌+◌, max, nat_eq, Option, Some, None, List, [], ◌∷◌, ◌++◌, map, Result, Ok, Err, OnOk, refl, sym, ap, ◌∙◌, arith, if◌then◌else◌}
use Rattle.std.specs.Borrow.{Bor}
use Rattle.std.specs.declared.alloc.AllocError.{AllocError}
use Rattle.ps_program.specs.declared.body.Param.{Param}
use Rattle.ps_program.specs.declared.form.Tree.{Tree}
use Rattle.ps_program.specs.declared.parts.Further.{Further}
use Rattle.ps_program.specs.declared.parts.Further.TheVariants.{OneBranch, TwoBranches}
use Rattle.ps_program.specs.Node.{Node, Nodes, none, more, Arm, arm, Arms, no_arms, more_arms, BodyNode, body}
use Rattle.ps_program.specs.Node as node
use Rattle.ps_program.specs.NodeView.{node_of, params_of}
use Rattle.ps_program.specs.Parts.{Part, operand, label, branch, literal}
use Rattle.ps_program.specs.inside.Listed.{parts_all, parts_arms, parts_of, part_as}
use Rattle.ps_program.specs.inside.PartsView.{AreListed, first_as, further_in}
use Rattle.ps_program.proofs.PartLemmas.{fold_parts}
use Rattle.ps_typing.specs.Mentions.{Seen, seen, deeper, joined, mentions, declarations, own_mention, own_declared, numbers, number_of}
use Rattle.ps_placer.specs.inside.Marks.{Marks, least, no_marks, join, deepest, shallowest, marks_in, marks, marks_alone, marks_part, marks_parts, marks_all, marks_arms, marks_body}

-- marks, joined

same : (a b : Marks) → ((k : ℕ) → a.mentioned k ≡ b.mentioned k) → ((k : ℕ) → a.declared k ≡ b.declared k) → a ≡ b
same a b m d = λ i. record { mentioned = λ k. m k i; declared = λ k. d k i }

least_none : (a : Option ℕ) → least a None ≡ a
least_none None = refl
least_none (Some a) = refl

least_assoc : (a b c : Option ℕ) → least (least a b) c ≡ least a (least b c)
least_assoc None b c = refl
least_assoc (Some a) None c = refl
least_assoc (Some a) (Some b) None = refl
least_assoc (Some a) (Some b) (Some c) = ap Some (omega arith)

least_comm : (a b : Option ℕ) → least a b ≡ least b a
least_comm None None = refl
least_comm None (Some b) = refl
least_comm (Some a) None = refl
least_comm (Some a) (Some b) = ap Some (omega arith)

pub join_none : (a : Marks) → join a no_marks ≡ a
join_none a = same _ _ (λ k. omega arith) (λ k. least_none (a.declared k))

pub none_join : (a : Marks) → join no_marks a ≡ a
none_join a = same _ _ (λ k. omega arith) (λ k. refl)

pub join_assoc : (a b c : Marks) → join (join a b) c ≡ join a (join b c)
join_assoc a b c = same _ _ (λ k. omega arith) (λ k. least_assoc (a.declared k) (b.declared k) (c.declared k))

join_comm : (a b : Marks) → join a b ≡ join b a
join_comm a b = same _ _ (λ k. omega arith) (λ k. least_comm (a.declared k) (b.declared k))

-- lists of what was seen

deepest_append : (d : ℕ) (xs ys : List Seen) (k : ℕ) → deepest d (xs ++ ys) k ≡ max (deepest d xs k) (deepest d ys k)
deepest_append d [] ys k = omega arith
deepest_append d (x ∷ xs) ys k = let rest = deepest_append d xs ys k in omega arith

shallowest_append : (d : ℕ) (xs ys : List Seen) (k : ℕ) → shallowest d (xs ++ ys) k ≡ least (shallowest d xs k) (shallowest d ys k)
shallowest_append d [] ys k = refl
shallowest_append d (x ∷ xs) ys k =
    let here = if nat_eq x.name k then Some (d + x.literals) else None in
    ap (least here) (shallowest_append d xs ys k) ∙ sym (least_assoc here (shallowest d xs k) (shallowest d ys k))

pub append : (d : ℕ) (xs ys us vs : List Seen) → marks_in d (xs ++ ys) (us ++ vs) ≡ join (marks_in d xs us) (marks_in d ys vs)
append d xs ys us vs = same _ _ (deepest_append d xs ys) (shallowest_append d us vs)

deepest_deeper : (d : ℕ) (xs : List Seen) (k : ℕ) → deepest d (map deeper xs) k ≡ deepest (d + 1) xs k
deepest_deeper d [] k = refl
deepest_deeper d (x ∷ xs) k =
    ap (λ n. max n (deepest d (map deeper xs) k)) (ap (λ x'. if nat_eq x.name k then x' else 0) (let e : d + (x.literals + 1) ≡ d + 1 + x.literals = omega arith in e))
    ∙ ap (max (if nat_eq x.name k then d + 1 + x.literals else 0)) (deepest_deeper d xs k)

shallowest_deeper : (d : ℕ) (xs : List Seen) (k : ℕ) → shallowest d (map deeper xs) k ≡ shallowest (d + 1) xs k
shallowest_deeper d [] k = refl
shallowest_deeper d (x ∷ xs) k =
    ap (λ o. least o (shallowest d (map deeper xs) k)) (ap (λ n. if nat_eq x.name k then Some n else None) (let e : d + (x.literals + 1) ≡ d + 1 + x.literals = omega arith in e))
    ∙ ap (least (if nat_eq x.name k then Some (d + 1 + x.literals) else None)) (shallowest_deeper d xs k)

one_deeper : (d : ℕ) (xs us : List Seen) → marks_in d (map deeper xs) (map deeper us) ≡ marks_in (d + 1) xs us
one_deeper d xs us = same _ _ (deepest_deeper d xs) (shallowest_deeper d us)

names_deeper : (names : List ℕ) → map deeper (map (λ k. seen k 0) names) ≡ map (λ k. seen k 1) names
names_deeper [] = refl
names_deeper (k ∷ names) = ap (λ l. seen k 1 ∷ l) (names_deeper names)

-- the parts of a clause

parts_marked : (d : ℕ) (ps : List (Part Node)) → marks_in d (joined (map (part_as mentions) ps)) (joined (map (part_as declarations) ps)) ≡ marks_parts d ps
parts_marked d [] = refl
parts_marked d (operand n ∷ ps) = append d (mentions n) _ (declarations n) _ ∙ ap (join (marks d n)) (parts_marked d ps)
parts_marked d (label n ∷ ps) = append d (mentions n) _ (declarations n) _ ∙ ap (join (marks d n)) (parts_marked d ps)
parts_marked d (branch n ∷ ps) = append d (mentions n) _ (declarations n) _ ∙ ap (join (marks d n)) (parts_marked d ps)
parts_marked d (literal n ∷ ps) =
    append d (map deeper (mentions n)) _ (map deeper (declarations n)) _
    ∙ ap (λ m. join m (marks_in d (joined (map (part_as mentions) ps)) (joined (map (part_as declarations) ps)))) (one_deeper d (mentions n) (declarations n))
    ∙ ap (join (marks (d + 1) n)) (parts_marked d ps)

-- a clause has its own marks and those of its parts
pub marks_is : (d : ℕ) (n : Node) → marks d n ≡ join (marks_alone d n) (marks_parts d (parts_of n))
marks_is d n =
    let parts = parts_of n in
    let found : mentions n ≡ own_mention n ++ joined (map (part_as mentions) parts) = fold_parts (λ clause parts. own_mention clause ++ joined parts) n in
    let named : declarations n ≡ own_declared n ++ joined (map (part_as declarations) parts) = fold_parts (λ clause parts. own_declared clause ++ joined parts) n in
    ap (λ ms. marks_in d ms (declarations n)) found ∙ ap (marks_in d (own_mention n ++ joined (map (part_as mentions) parts))) named
    ∙ append d (own_mention n) _ (own_declared n) _ ∙ ap (join (marks_alone d n)) (parts_marked d parts)

pub marks_without : (d : ℕ) (n : Node) (further : Further) → AreListed n None further → marks d n ≡ join (marks_alone d n) (marks_parts d (further_in further))
marks_without d n further are = marks_is d n ∙ ap (λ ps. join (marks_alone d n) (marks_parts d ps)) (sym are.listed)

first_marks : (d : ℕ) (further : Further) (n : Node) → marks_part d (first_as further n) ≡ marks d n
first_marks d (OneBranch a) n = refl
first_marks d (TwoBranches a b) n = refl
first_marks d _ n = refl

pub marks_with : (d : ℕ) (n : Node) (first : Bor Tree) (further : Further) → AreListed n (Some first) further → marks d n ≡ join (marks_alone d n) (join (marks d (node_of first.now)) (marks_parts d (further_in further)))
marks_with d n first further are =
    marks_is d n ∙ ap (λ ps. join (marks_alone d n) (marks_parts d ps)) (sym are.listed)
    ∙ ap (λ m. join (marks_alone d n) (join m (marks_parts d (further_in further)))) (first_marks d further (node_of first.now))

-- a literal has the marks of its body, one literal further inside
pub marks_literal : (d : ℕ) (n : Node) (of : BodyNode) → n ≡ node.Proc of → marks d n ≡ marks_body (d + 1) of
marks_literal d n (body params gives tree scope line) is =
    let names = numbers params in
    ap (marks d) is ∙ marks_is d (node.Proc (body params gives tree scope line))
    ∙ ap (join (marks_in d [] (map (λ k. seen k 1) names))) (join_none (marks (d + 1) tree))
    ∙ ap (λ l. join (marks_in d [] l) (marks (d + 1) tree)) (sym (names_deeper names))
    ∙ ap (λ m. join m (marks (d + 1) tree)) (one_deeper d [] (map (λ k. seen k 0) names))

-- going over a clause and to its first part

pub gone : (n f alone rest old with_alone new whole : Marks) → n ≡ join alone (join f rest) → with_alone ≡ join old alone → new ≡ join with_alone rest → join old n ≡ whole → join new f ≡ whole
gone n f alone rest old with_alone new whole n_is alone_is new_is whole_is =
    ap (λ m. join m f) (new_is ∙ ap (λ m. join m rest) alone_is) ∙ join_assoc (join old alone) rest f ∙ ap (join (join old alone)) (join_comm rest f)
    ∙ join_assoc old alone (join f rest) ∙ ap (join old) (sym n_is) ∙ whole_is

-- lists

pub all_marked : (d : ℕ) (as_node : Node → Part Node) → ((n : Node) → marks_part d (as_node n) ≡ marks d n) → (ns : Nodes) → marks_parts d (parts_all as_node ns) ≡ marks_all d ns
all_marked d as_node is none = refl
all_marked d as_node is (more n ns) = ap (λ m. join m (marks_parts d (parts_all as_node ns))) (is n) ∙ ap (join (marks d n)) (all_marked d as_node is ns)

parts_append : (d : ℕ) (ps qs : List (Part Node)) → marks_parts d (ps ++ qs) ≡ join (marks_parts d ps) (marks_parts d qs)
parts_append d [] qs = sym (none_join (marks_parts d qs))
parts_append d (p ∷ ps) qs = ap (join (marks_part d p)) (parts_append d ps qs) ∙ sym (join_assoc (marks_part d p) (marks_parts d ps) (marks_parts d qs))

arms_marked : (d : ℕ) (arms : Arms) → marks_parts d (parts_arms arms) ≡ marks_arms d arms
arms_marked d no_arms = refl
arms_marked d (more_arms (arm labels a) rest) =
    parts_append d (parts_all label labels) (branch a ∷ parts_arms rest)
    ∙ ap (λ m. join m (join (marks d a) (marks_parts d (parts_arms rest)))) (all_marked d label (λ n. refl) labels)
    ∙ ap (λ m. join (marks_all d labels) (join (marks d a) m)) (arms_marked d rest)

pub arms_then : (d : ℕ) (arms : Arms) (last : Node) → marks_parts d (parts_arms arms ++ branch last ∷ []) ≡ join (marks_arms d arms) (marks d last)
arms_then d arms last =
    parts_append d (parts_arms arms) (branch last ∷ []) ∙ ap (λ m. join m (join (marks d last) no_marks)) (arms_marked d arms) ∙ ap (join (marks_arms d arms)) (join_none (marks d last))

pub part_more : (old p rest new whole : Marks) → new ≡ join old p → join old (join p rest) ≡ whole → join new rest ≡ whole
part_more old p rest new whole new_is whole_is = ap (λ m. join m rest) new_is ∙ join_assoc old p rest ∙ whole_is

pub arm_more : (old labels a rest here new whole : Marks) → here ≡ join old labels → new ≡ join here a → join old (join labels (join a rest)) ≡ whole → join new rest ≡ whole
arm_more old labels a rest here new whole here_is new_is whole_is =
    ap (λ m. join m rest) (new_is ∙ ap (λ m. join m a) here_is) ∙ join_assoc (join old labels) a rest ∙ join_assoc old labels (join a rest) ∙ whole_is

pub marked_so : (r : Result (Unit {0}) AllocError) (a b new : Marks) → a ≡ b → OnOk r (new ≡ a) → OnOk r (new ≡ b)
marked_so (Ok done) a b new same is = is ∙ same
marked_so (Err fault) a b new same is = is

pub further_so : (r : Result (Unit {0}) AllocError) (old new m : Marks) (d : ℕ) (further is : Further) → further ≡ is → m ≡ marks_parts d (further_in is) → OnOk r (new ≡ join old m) → OnOk r (new ≡ join old (marks_parts d (further_in further)))
further_so r old new m d further is further_is m_is = marked_so r (join old m) (join old (marks_parts d (further_in further))) new (ap (join old) m_is ∙ ap (λ f. join old (marks_parts d (further_in f))) (sym further_is))

-- the parameters from one place on
pub params_from : (d : ℕ) (params : List Param) (i : ℕ) (param e : Param) → param ≡ get_or params i e → i < length params →
    marks_in d [] (map (λ k. seen k 0) (numbers (params_of (drop i params))))
    ≡ join (marks_in d [] (seen (number_of param.place) 0 ∷ [])) (marks_in d [] (map (λ k. seen k 0) (numbers (params_of (drop (i + 1) params)))))
params_from d params i param e is below =
    let up : suc i ≡ i + 1 = omega arith in
    ap (λ ps. marks_in d [] (map (λ k. seen k 0) (numbers (params_of ps)))) (drop-cons params i e below)
    ∙ append d [] [] (seen (number_of (get_or params i e).place) 0 ∷ []) (map (λ k. seen k 0) (numbers (params_of (drop (suc i) params))))
    ∙ ap (λ p. join (marks_in d [] (seen (number_of p.place) 0 ∷ [])) (marks_in d [] (map (λ k. seen k 0) (numbers (params_of (drop (suc i) params)))))) (sym is)
    ∙ ap (λ k. join (marks_in d [] (seen (number_of param.place) 0 ∷ [])) (marks_in d [] (map (λ k. seen k 0) (numbers (params_of (drop k params)))))) up

-- one after the other
pub then_marked : (r : Result (Unit {0}) AllocError) (old mid new a b : Marks) → mid ≡ join old a → OnOk r (new ≡ join mid b) → OnOk r (new ≡ join old (join a b))
then_marked r old mid new a b mid_is = marked_so r (join mid b) (join old (join a b)) new (ap (λ m. join m b) mid_is ∙ join_assoc old a b)
