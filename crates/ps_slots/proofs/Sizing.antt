-- The size of a clause, from its parts.
use Rattle.std.proofs.Common.{◌≡◌, ℕ, ◌+◌, max, Bool, true, false, ◌||◌, Option, Some, None, List, [], ◌∷◌, ◌++◌, map, Result, Ok, Err, IfOk, append_assoc, length, refl, sym, ap, ◌∙◌, arith}
use Rattle.std.specs.Borrow.{Bor}
use Rattle.ps_program.specs.declared.form.Tree.{Tree}
use Rattle.ps_program.specs.declared.parts.Further.{Further}
use Rattle.ps_program.specs.declared.parts.Further.TheVariants.{OneBranch, TwoBranches}
use Rattle.ps_program.specs.Node.{Param, Node, Nodes, none, more, arm, Arms, no_arms, more_arms, BodyNode, body}
use Rattle.ps_program.specs.Node as node
use Rattle.ps_program.specs.NodeView.{node_of, nodes_in}
use Rattle.ps_program.specs.Parts.{Part, operand, label, branch, literal}
use Rattle.ps_program.specs.Slots.{locals, depth, own_locals, sum_of, reaches}
use Rattle.ps_program.specs.inside.Listed.{parts_all, parts_arms, parts_of, part_as, literals_of}
use Rattle.ps_program.specs.inside.PartsView.{AreListed, first_as, further_in}
use Rattle.ps_program.proofs.PartLemmas.{fold_parts}
use Rattle.std.specs.declared.alloc.AllocError.{AllocError}
use Rattle.ps_base.specs.TyView.{TyView}
use Rattle.ps_base.specs.declared.line.Line.{Line}
use Rattle.ps_slots.specs.Complexity.{IsFirstComplex}
use Rattle.ps_slots.specs.declared.complex.Complex.{Complex}
use Rattle.ps_slots.specs.declared.sizes.Sizes.{Sizes}
use Rattle.ps_slots.specs.inside.Sizes.{Extent, size_of, nothing, or_else, join, are_any, literal_in, complex_in, size, behind, size_part, size_parts, size_items, size_arms, size_alone}
use Rattle.ps_typing.specs.Fault.{Fault}
use Rattle.ps_typing.specs.Program.{first_complex, bodies_of, own_body, bodies_with, bodies_in}

-- sizes, joined

same : (a b : Extent) → a.locals ≡ b.locals → a.depth ≡ b.depth → a.literal ≡ b.literal → a.complex ≡ b.complex → a ≡ b
same a b l d t c = λ i. record { locals = l i; depth = d i; literal = t i; complex = c i }

either_none : (b : Bool) → b || false ≡ b
either_none true = refl
either_none false = refl

either_assoc : (a b c : Bool) → (a || b) || c ≡ a || (b || c)
either_assoc true b c = refl
either_assoc false b c = refl

or_none : (f : Option Fault) → or_else f None ≡ f
or_none (Some x) = refl
or_none None = refl

or_assoc : (f g h : Option Fault) → or_else (or_else f g) h ≡ or_else f (or_else g h)
or_assoc (Some x) g h = refl
or_assoc None g h = refl

pub nothing_join : (s : Extent) → join nothing s ≡ s
nothing_join s = same _ _ (omega arith) (omega arith) refl refl

pub join_nothing : (s : Extent) → join s nothing ≡ s
join_nothing s = same _ _ (omega arith) (omega arith) (either_none s.literal) (or_none s.complex)

pub join_assoc : (a b c : Extent) → join (join a b) c ≡ join a (join b c)
join_assoc a b c = same _ _ (omega arith) (omega arith) (either_assoc a.literal b.literal c.literal) (or_assoc a.complex b.complex c.complex)

-- what has no literal, and no body that is too complex, may be joined in any order
join_swap : (a b : Extent) → a.literal ≡ false → a.complex ≡ None → join a b ≡ join b a
join_swap a b plain free = same _ _ (omega arith) (omega arith)
    (ap (λ l. l || b.literal) plain ∙ sym (either_none b.literal) ∙ ap (λ l. b.literal || l) (sym plain))
    (ap (λ f. or_else f b.complex) free ∙ sym (or_none b.complex) ∙ ap (or_else b.complex) (sym free))

behind_none : (s : Extent) → behind 0 s ≡ s
behind_none s = same _ _ refl (omega arith) refl refl

-- the parts of a clause

complex_append : (xs ys : List BodyNode) → first_complex (xs ++ ys) ≡ or_else (first_complex xs) (first_complex ys)
complex_append [] ys = refl
complex_append (x ∷ xs) ys = grind (arith, complex_append xs ys)

any_append : (xs ys : List BodyNode) → are_any (xs ++ ys) ≡ are_any xs || are_any ys
any_append [] ys = refl
any_append (x ∷ xs) ys = refl

parts_locals : (b : ℕ) (ps : List (Part Node)) → (size_parts b ps).locals ≡ sum_of (map (part_as locals) ps)
parts_locals b [] = refl
parts_locals b (operand n ∷ ps) = ap (λ k. locals n + k) (parts_locals (b + 1) ps)
parts_locals b (label n ∷ ps) = ap (λ k. locals n + k) (parts_locals (b + 1) ps)
parts_locals b (branch n ∷ ps) = ap (λ k. locals n + k) (parts_locals (b + 1) ps)
parts_locals b (literal n ∷ ps) = let rest = parts_locals (b + 1) ps in omega arith

parts_depth : (b : ℕ) (ps : List (Part Node)) → reaches b (map (part_as depth) ps) ≡ max (size_parts b ps).depth 1
parts_depth b [] = refl
parts_depth b (operand n ∷ ps) = let rest = parts_depth (b + 1) ps in omega arith
parts_depth b (label n ∷ ps) = let rest = parts_depth (b + 1) ps in omega arith
parts_depth b (branch n ∷ ps) = let rest = parts_depth (b + 1) ps in omega arith
parts_depth b (literal n ∷ ps) = let rest = parts_depth (b + 1) ps in omega arith

parts_complex : (b : ℕ) (ps : List (Part Node)) → first_complex (bodies_of (map (part_as bodies_in) ps)) ≡ (size_parts b ps).complex
parts_complex b [] = refl
parts_complex b (operand n ∷ ps) = complex_append (bodies_in n) (bodies_of (map (part_as bodies_in) ps)) ∙ ap (or_else (complex_in n)) (parts_complex (b + 1) ps)
parts_complex b (label n ∷ ps) = complex_append (bodies_in n) (bodies_of (map (part_as bodies_in) ps)) ∙ ap (or_else (complex_in n)) (parts_complex (b + 1) ps)
parts_complex b (branch n ∷ ps) = complex_append (bodies_in n) (bodies_of (map (part_as bodies_in) ps)) ∙ ap (or_else (complex_in n)) (parts_complex (b + 1) ps)
parts_complex b (literal n ∷ ps) = complex_append (bodies_in n) (bodies_of (map (part_as bodies_in) ps)) ∙ ap (or_else (complex_in n)) (parts_complex (b + 1) ps)

parts_literal : (b : ℕ) (ps : List (Part Node)) → are_any (bodies_of (map (part_as bodies_in) ps)) ≡ (size_parts b ps).literal
parts_literal b [] = refl
parts_literal b (operand n ∷ ps) = any_append (bodies_in n) (bodies_of (map (part_as bodies_in) ps)) ∙ ap (λ l. literal_in n || l) (parts_literal (b + 1) ps)
parts_literal b (label n ∷ ps) = any_append (bodies_in n) (bodies_of (map (part_as bodies_in) ps)) ∙ ap (λ l. literal_in n || l) (parts_literal (b + 1) ps)
parts_literal b (branch n ∷ ps) = any_append (bodies_in n) (bodies_of (map (part_as bodies_in) ps)) ∙ ap (λ l. literal_in n || l) (parts_literal (b + 1) ps)
parts_literal b (literal n ∷ ps) = any_append (bodies_in n) (bodies_of (map (part_as bodies_in) ps)) ∙ ap (λ l. literal_in n || l) (parts_literal (b + 1) ps)

own_is : (n : Node) → own_body n ≡ literals_of n
own_is (node.Proc of) = refl
own_is _ = refl

-- a clause that is no literal has what it takes by itself and what its parts take
size_is : (n : Node) → literals_of n ≡ [] → size n ≡ join (size_alone n) (size_parts 0 (parts_of n))
size_is n free =
    let parts = parts_of n in
    let sum : locals n ≡ own_locals n + sum_of (map (part_as locals) parts) = fold_parts (λ clause parts. own_locals clause + sum_of parts) n in
    let reach : depth n ≡ reaches 0 (map (part_as depth) parts) = fold_parts (λ clause parts. reaches 0 parts) n in
    let found : bodies_in n ≡ own_body n ++ bodies_of (map (part_as bodies_in) parts) = fold_parts bodies_with n in
    let behind_own = found ∙ ap (λ own. own ++ bodies_of (map (part_as bodies_in) parts)) (own_is n ∙ free) in
    same _ _ (omega (arith, parts_locals 0 parts)) (omega (arith, parts_depth 0 parts))
    (ap are_any behind_own ∙ parts_literal 0 parts) (ap first_complex behind_own ∙ parts_complex 0 parts)

-- a clause without a first part
pub size_without : (n : Node) (further : Further) → AreListed n None further → size n ≡ join (size_alone n) (size_parts 0 (further_in further))
size_without n further are = size_is n are.no_literal ∙ ap (λ ps. join (size_alone n) (size_parts 0 ps)) (sym are.listed)

first_size : (further : Further) (n : Node) → size_part 0 (first_as further n) ≡ size n
first_size (OneBranch a) n = behind_none (size n)
first_size (TwoBranches a b) n = behind_none (size n)
first_size _ n = behind_none (size n)

-- a clause with a first part
pub size_with : (n : Node) (first : Bor Tree) (further : Further) → AreListed n (Some first) further → size n ≡ join (size (node_of first.now)) (join (size_alone n) (size_parts 1 (further_in further)))
size_with n first further are =
    let f = size (node_of first.now) in
    let alone = size_alone n in
    let rest = size_parts 1 (further_in further) in
    size_is n are.no_literal ∙ ap (λ ps. join alone (size_parts 0 ps)) (sym are.listed)
    ∙ ap (λ s. join alone (join s rest)) (first_size further (node_of first.now))
    ∙ sym (join_assoc alone f rest) ∙ ap (λ s. join s rest) (join_swap alone f refl refl) ∙ join_assoc f alone rest

-- one clause more of what was gone over
pub gone : (n f own rest both old new whole : Extent) → n ≡ join f (join own rest) → both ≡ join own rest → new ≡ join both old → join n old ≡ whole → join f new ≡ whole
gone n f own rest both old new whole n_is both_is new_is whole_is =
    ap (join f) new_is ∙ sym (join_assoc f both old) ∙ ap (λ s. join (join f s) old) both_is ∙ ap (λ s. join s old) (sym n_is) ∙ whole_is

-- a clause in which no literal stands
none_any : (bs : List BodyNode) → are_any bs ≡ false → bs ≡ []
none_any [] is = refl
none_any (b ∷ bs) is = absurd cc

pub without_literals : (s : Extent) (n : Node) → s ≡ size n → s.literal ≡ false → bodies_in n ≡ []
without_literals s n is plain = none_any (bodies_in n) (ap (λ (e : Extent). e.literal) (sym is) ∙ plain)

-- lists

labels_then : (b c : ℕ) (ns : Nodes) (ps : List (Part Node)) (s : Extent) → ((d : ℕ) → size_parts d ps ≡ s) → size_parts b (parts_all label ns ++ ps) ≡ join (size_parts c (parts_all label ns)) s
labels_then b c none ps s is = is b ∙ sym (nothing_join s)
labels_then b c (more n ns) ps s is = ap (join (behind 2 (size n))) (labels_then (b + 1) (c + 1) ns ps s is) ∙ sym (join_assoc (behind 2 (size n)) (size_parts (c + 1) (parts_all label ns)) s)

-- the items of a sequence
items_are : (b : ℕ) (items : Nodes) → size_parts b (parts_all branch items) ≡ size_items items
items_are b none = refl
items_are b (more first rest) = ap (λ s. join s (size_parts (b + 1) (parts_all branch rest))) (behind_none (size first)) ∙ ap (join (size first)) (items_are (b + 1) rest)

pub sequence_is : (scope : Option (List ℕ)) (items : Nodes) (s : Extent) (reach : ℕ) → reach ≡ max s.depth 1 → s ≡ size_items items → record s { depth = reach } ≡ size (node.Block scope items)
sequence_is scope items s reach reach_is is =
    same _ (join (size_alone (node.Block scope items)) s) (omega arith) (omega (arith, reach_is)) refl refl
    ∙ ap (join (size_alone (node.Block scope items))) (is ∙ sym (items_are 0 items)) ∙ sym (size_is (node.Block scope items) refl)

-- one item of a sequence more
pub item_more : (done : List Tree) (item : Tree) → size_items (nodes_in (done ++ item ∷ [])) ≡ join (size_items (nodes_in done)) (size (node_of item))
item_more [] item = join_nothing (size (node_of item)) ∙ sym (nothing_join (size (node_of item)))
item_more (first ∷ done) item = ap (join (size (node_of first))) (item_more done item) ∙ sym (join_assoc (size (node_of first)) (size_items (nodes_in done)) (size (node_of item)))

-- the arms of a case, and what is done where none is for the value
pub arms_then : (arms : Arms) (d : Node) (b : ℕ) → size_parts b (parts_arms arms ++ branch d ∷ []) ≡ join (size_arms arms) (behind 0 (size d))
arms_then no_arms d b = join_nothing (behind 0 (size d)) ∙ sym (nothing_join (behind 0 (size d)))
arms_then (more_arms (arm labels a) rest) d b =
    let here = size_parts 0 (parts_all label labels) in
    let last = behind 0 (size d) in
    ap (size_parts b) (append_assoc (parts_all label labels) (branch a ∷ parts_arms rest) (branch d ∷ []))
    ∙ labels_then b 0 labels (branch a ∷ (parts_arms rest ++ branch d ∷ [])) (join (size a) (join (size_arms rest) last))
    (λ k. ap (join (behind 0 (size a))) (arms_then rest d (k + 1)) ∙ ap (λ s. join s (join (size_arms rest) last)) (behind_none (size a)))
    ∙ ap (join here) (sym (join_assoc (size a) (size_arms rest) last))
    ∙ sym (join_assoc here (join (size a) (size_arms rest)) last)

-- one arm of a list more
pub arm_more : (d labels a rest here done whole : Extent) → here ≡ join d labels → done ≡ join here (behind 0 a) → join d (join labels (join a rest)) ≡ whole → join done rest ≡ whole
arm_more d labels a rest here done whole here_is done_is whole_is =
    ap (λ s. join s rest) (done_is ∙ ap (join here) (behind_none a) ∙ ap (λ s. join s a) here_is) ∙ join_assoc (join d labels) a rest ∙ join_assoc d labels (join a rest) ∙ whole_is

-- one part of a list more
pub part_more : (d done p rest whole : Extent) → done ≡ join d p → join d (join p rest) ≡ whole → join done rest ≡ whole
part_more d done p rest whole done_is whole_is = ap (λ s. join s rest) done_is ∙ join_assoc d p rest ∙ whole_is

-- two parts, and three, after nothing
pub two_parts : (empty s p q : Extent) → empty ≡ nothing → s ≡ join empty p → join s q ≡ join p (join q nothing)
two_parts empty s p q none_is s_is = ap (λ t. join t q) (s_is ∙ ap (λ t. join t p) none_is ∙ nothing_join p) ∙ ap (join p) (sym (join_nothing q))

pub three_parts : (empty s t p q r last : Extent) → empty ≡ nothing → s ≡ join empty p → t ≡ join s q → r ≡ last → join t r ≡ join p (join q (join last nothing))
three_parts empty s t p q r last none_is s_is t_is last_is =
    ap (λ u. join u r) t_is ∙ join_assoc s q r ∙ two_parts empty s p (join q r) none_is s_is
    ∙ ap (join p) (join_assoc q r nothing ∙ ap (λ l. join q (join l nothing)) last_is)

-- the first of a body, as it is of any body with such a clause and so many parameters
pub complex_so : (r : Result (Option Complex) AllocError) (params : List Param) (gives : TyView) (tree : Node) (scope : Option (List ℕ)) (line : Line) (count : ℕ) (s : Extent) → length params ≡ count → s ≡ size tree
    → IfOk r (λ found. (of : List Param) (gives : TyView) (tree : Node) (scope : Option (List ℕ)) → length of ≡ count → s ≡ size tree → IsFirstComplex (body of gives tree scope line) found)
    → IfOk r (λ found. IsFirstComplex (body params gives tree scope line) found)
complex_so (Ok found) params gives tree scope line count s many is h = h params gives tree scope many is
complex_so (Err fault) params gives tree scope line count s many is h = h

pub sized_so : (r : Result Sizes AllocError) (a b : Extent) → a ≡ b → IfOk r (λ made. size_of made ≡ a) → IfOk r (λ made. size_of made ≡ b)
sized_so (Ok made) a b same is = is ∙ same
sized_so (Err fault) a b same is = is
