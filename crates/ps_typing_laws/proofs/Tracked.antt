-- The free slots after a clause are those before it and the locals that it takes, and each slot that it names is below them.
use Rattle.std.proofs.Common.{◌≡◌, ℕ, ◌+◌, ◌≤◌, ◌<◌, Bool, true, false, List, [], ◌∷◌, ◌++◌, inl, inr, arith, refl, sym, ap, ◌∙◌, subst}
use Rattle.std.specs.Prelude.{Option, if◌then◌else◌, map, length}
use Rattle.std.proofs.lemmas.List.{append_assoc}
use Rattle.ps_typing.specs.ps_base.TyView.{TyView}
use Rattle.ps_typing.specs.ps_base.TyView as types
use Rattle.ps_typing.specs.ps_base.declared.line.Line.{Line}
use Rattle.ps_typing.specs.ps_program.declared.place.Place.{Place}
use Rattle.ps_typing.specs.ps_program.declared.place.Place.TheVariants.{Plain, Kept}
use Rattle.ps_typing.specs.ps_program.Node.{Param, Node, Nodes, none, more, Arms, no_arms, more_arms, arm, BodyNode, body}
use Rattle.ps_typing.specs.ps_program.Node as node
use Rattle.ps_typing.specs.ps_program.Parts.{Part, operand, label, branch, literal}
use Rattle.ps_typing.specs.ps_program.Slots.{sum_of, own_locals, locals}
use Rattle.ps_typing.specs.ps_program.inside.Listed.{parts_of, parts_all, parts_arms, part_as}
use Rattle.ps_typing.proofs.of_ps_program.PartLemmas.{fold_parts}
use Rattle.ps_typing.specs.ps_type_text.Texts.{Field}
use Rattle.ps_typing.specs.Placing.{is_number}
use Rattle.ps_typing.specs.Program.{bodies_of, own_body, bodies, bodies_with, bodies_in}
use Rattle.ps_typing.specs.WellTyped.{Some_is, Env, Free, IsLocal, IsAt, next_slot, behind_one, with_local, Claim, ◌has◌, all_have, arms_have, Arguments, Rule, Declares, Takes, IsTyped, AreTyped, AreItems, IsBody, IsWellTyped}
use Rattle.ps_typing.specs.WellTyped as typed
use Rattle.ps_typing.specs.Locals.{one_on, taken_on, own_taken, taken_in, taken_by_params, locals_on}
use Rattle.ps_typing_laws.specs.Counted.{Each, Slot, slot_of, own_slots, slots_of_parts, slots_in, slots_of_params, slots_of_body, IsCounted}

pub each_append : {A : Type 0} (P : A → Type 0) (xs ys : List A) → Each P xs → Each P ys → Each P (xs ++ ys)
each_append P [] ys h k = k
each_append P (x ∷ xs) ys h k = (h.0, each_append P xs ys h.1 k)

pub each_map : {A : Type 0} (P Q : A → Type 0) (xs : List A) → ((x : A) → P x → Q x) → Each P xs → Each Q xs
each_map P Q [] f h = tt
each_map P Q (x ∷ xs) f h = (f x h.0, each_map P Q xs f h.1)

-- the parts that are evaluated with a clause, and those that aren't
abbrev pub evaluated : List (Part Node) → List Node
evaluated [] = []
evaluated (operand c ∷ rest) = c ∷ evaluated rest
evaluated (label c ∷ rest) = c ∷ evaluated rest
evaluated (branch c ∷ rest) = c ∷ evaluated rest
evaluated (literal c ∷ rest) = evaluated rest

abbrev literals : List (Part Node) → List Node
literals [] = []
literals (operand c ∷ rest) = literals rest
literals (label c ∷ rest) = literals rest
literals (branch c ∷ rest) = literals rest
literals (literal c ∷ rest) = c ∷ literals rest

abbrev total : (Node → ℕ) → List Node → ℕ
total f [] = 0
total f (n ∷ ns) = f n + total f ns

sum_is : (f : Node → ℕ) (parts : List (Part Node)) → sum_of (map (part_as f) parts) ≡ total f (evaluated parts)
sum_is f [] = refl
sum_is f (operand c ∷ rest) = ap (λ n. f c + n) (sum_is f rest)
sum_is f (label c ∷ rest) = ap (λ n. f c + n) (sum_is f rest)
sum_is f (branch c ∷ rest) = ap (λ n. f c + n) (sum_is f rest)
sum_is f (literal c ∷ rest) = sum_is f rest

slots_each : (P : Slot → Type 0) (parts : List (Part Node)) → Each (λ (n : Node). Each P (slots_in n)) (evaluated parts) →
    Each P (slots_of_parts (map (part_as slots_in) parts))
slots_each P [] h = tt
slots_each P (operand c ∷ rest) h = each_append P (slots_in c) _ h.0 (slots_each P rest h.1)
slots_each P (label c ∷ rest) h = each_append P (slots_in c) _ h.0 (slots_each P rest h.1)
slots_each P (branch c ∷ rest) h = each_append P (slots_in c) _ h.0 (slots_each P rest h.1)
slots_each P (literal c ∷ rest) h = slots_each P rest h

bodies_each : (P : BodyNode → Type 0) (parts : List (Part Node)) → Each (λ (n : Node). Each P (bodies_in n)) (evaluated parts) →
    Each (λ (n : Node). Each P (bodies_in n)) (literals parts) → Each P (bodies_of (map (part_as bodies_in) parts))
bodies_each P [] h k = tt
bodies_each P (operand c ∷ rest) h k = each_append P (bodies_in c) _ h.0 (bodies_each P rest h.1 k)
bodies_each P (label c ∷ rest) h k = each_append P (bodies_in c) _ h.0 (bodies_each P rest h.1 k)
bodies_each P (branch c ∷ rest) h k = each_append P (bodies_in c) _ h.0 (bodies_each P rest h.1 k)
bodies_each P (literal c ∷ rest) h k = each_append P (bodies_in c) _ k.0 (bodies_each P rest h k.1)

-- a slot below the free ones of its stack
abbrev pub limit : Bool → Free → ℕ
limit true free = free.nums
limit false free = free.refs

abbrev pub Below : Free → Slot → Type 0
Below free s = s.slot < limit s.is_number free

pub record Grows (free free' : Free) : Type 0 where
  pub nums : free.nums ≤ free'.nums
  pub refs : free.refs ≤ free'.refs

limit_grows : (stack : Bool) (free free' : Free) → Grows free free' → limit stack free ≤ limit stack free'
limit_grows true free free' g = g.nums
limit_grows false free free' g = g.refs

below_grows : (free free' : Free) (slots : List Slot) → Grows free free' → Each (Below free) slots → Each (Below free') slots
below_grows free free' slots g h = each_map (Below free) (Below free') slots (λ s b. let l = limit_grows s.is_number free free' g in omega arith) h

-- a body in a typed tree: it is typed itself, and its slots are counted
pub record Inner (of : BodyNode) : Type 0 where
  pub around : List (List Field)
  pub typed : IsBody around of
  pub counted : IsCounted of

-- what is so of a clause with these free slots before it and after it
pub record Tracked (free : Free) (tree : Node) (free' : Free) : Type 0 where
  pub nums : free'.nums ≡ free.nums + taken_in true tree
  pub refs : free'.refs ≡ free.refs + taken_in false tree
  pub few : taken_in true tree + taken_in false tree ≤ locals tree
  pub slots : Each (Below free') (slots_in tree)
  pub bodies : Each Inner (bodies_in tree)

pub record TrackedAll (free : Free) (trees : List Node) (free' : Free) : Type 0 where
  pub nums : free'.nums ≡ free.nums + total (taken_in true) trees
  pub refs : free'.refs ≡ free.refs + total (taken_in false) trees
  pub few : total (taken_in true) trees + total (taken_in false) trees ≤ total locals trees
  pub slots : Each (λ (n : Node). Each (Below free') (slots_in n)) trees
  pub bodies : Each (λ (n : Node). Each Inner (bodies_in n)) trees

grows_by : (free free' : Free) (n r : ℕ) → free'.nums ≡ free.nums + n → free'.refs ≡ free.refs + r → Grows free free'
grows_by free free' n r nums refs = record { nums = omega arith; refs = omega arith }

pub all_grows : {free free' : Free} {trees : List Node} → TrackedAll free trees free' → Grows free free'
all_grows {free = free} {free' = free'} {trees = trees} h = grows_by free free' (total (taken_in true) trees) (total (taken_in false) trees) h.nums h.refs

pub tree_grows : {free free' : Free} {tree : Node} → Tracked free tree free' → Grows free free'
tree_grows {free = free} {free' = free'} {tree = tree} h = grows_by free free' (taken_in true tree) (taken_in false tree) h.nums h.refs

-- what a clause takes by itself, and names
record Own (free : Free) (tree : Node) (free' : Free) : Type 0 where
  pub nums : free'.nums ≡ free.nums + own_taken true tree
  pub refs : free'.refs ≡ free.refs + own_taken false tree
  pub few : own_taken true tree + own_taken false tree ≤ own_locals tree
  pub slots : Each (Below free') (own_slots tree)
  pub bodies : Each Inner (own_body tree)
  pub inside_bodies : Each (λ (n : Node). Each Inner (bodies_in n)) (literals (parts_of tree))

taken_is : (stack : Bool) (tree : Node) → taken_in stack tree ≡ own_taken stack tree + total (taken_in stack) (evaluated (parts_of tree))
taken_is stack tree = fold_parts (λ clause parts. own_taken stack clause + sum_of parts) tree ∙ ap (λ n. own_taken stack tree + n)
    (sum_is (taken_in stack) (parts_of tree))

locals_are : (tree : Node) → locals tree ≡ own_locals tree + total locals (evaluated (parts_of tree))
locals_are tree = fold_parts (λ clause parts. own_locals clause + sum_of parts) tree ∙ ap (λ n. own_locals tree + n) (sum_is locals (parts_of tree))

whole : (free between free' : Free) (tree : Node) (trees : List Node) → evaluated (parts_of tree) ≡ trees → Own free tree between →
    TrackedAll between trees free' → Tracked free tree free'
whole free between free' tree trees are own h =
    let nums = taken_is true tree ∙ ap (λ (ts : List Node). own_taken true tree + total (taken_in true) ts) are in
    let refs = taken_is false tree ∙ ap (λ (ts : List Node). own_taken false tree + total (taken_in false) ts) are in
    let all = locals_are tree ∙ ap (λ (ts : List Node). own_locals tree + total locals ts) are in
    let slots = each_append (Below free') (own_slots tree) _ (below_grows between free' (own_slots tree) (all_grows h) own.slots)
    (slots_each (Below free') (parts_of tree) (subst (Each (λ (n : Node). Each (Below free') (slots_in n))) (sym are) h.slots)) in
    let bodies = each_append Inner (own_body tree) _ own.bodies
    (bodies_each Inner (parts_of tree) (subst (Each (λ (n : Node). Each Inner (bodies_in n))) (sym are) h.bodies) own.inside_bodies) in
    record {
      nums = omega arith;
      refs = omega arith;
      few = omega arith;
      slots = subst (Each (Below free')) (sym (fold_parts (λ clause parts. own_slots clause ++ slots_of_parts parts) tree)) slots;
      bodies = subst (Each Inner) (sym (fold_parts bodies_with tree)) bodies;
    }

-- clauses one after the other
none_tracked : (free : Free) → TrackedAll free [] free
none_tracked free = record { nums = omega arith; refs = omega arith; few = omega arith; slots = tt; bodies = tt }

then_all : (free between free' : Free) (tree : Node) (trees : List Node) → Tracked free tree between → TrackedAll between trees free' →
    TrackedAll free (tree ∷ trees) free'
then_all free between free' tree trees h k = record {
  nums = let a = h.nums in let b = k.nums in omega arith;
  refs = let a = h.refs in let b = k.refs in omega arith;
  few = let a = h.few in let b = k.few in omega arith;
  slots = (below_grows between free' (slots_in tree) (all_grows k) h.slots, k.slots);
  bodies = (h.bodies, k.bodies);
}

total_append : (f : Node → ℕ) (xs ys : List Node) → total f (xs ++ ys) ≡ total f xs + total f ys
total_append f [] ys = omega arith
total_append f (x ∷ xs) ys = let h = total_append f xs ys in omega arith

all_then : (free between free' : Free) (trees : List Node) (tree : Node) → TrackedAll free trees between → Tracked between tree free' →
    TrackedAll free (trees ++ tree ∷ []) free'
all_then free between free' trees tree h k = record {
  nums = let a = total_append (taken_in true) trees (tree ∷ []) in let b = h.nums in let c = k.nums in omega arith;
  refs = let a = total_append (taken_in false) trees (tree ∷ []) in let b = h.refs in let c = k.refs in omega arith;
  few =
      let a = total_append (taken_in true) trees (tree ∷ []) in
      let b = total_append (taken_in false) trees (tree ∷ []) in
      let c = total_append locals trees (tree ∷ []) in
      let d = h.few in let e = k.few in omega arith;
  slots = each_append (λ (n : Node). Each (Below free') (slots_in n)) trees (tree ∷ [])
      (each_map (λ (n : Node). Each (Below between) (slots_in n)) (λ (n : Node). Each (Below free') (slots_in n)) trees
      (λ n b. below_grows between free' (slots_in n) (tree_grows k) b) h.slots) (k.slots, tt);
  bodies = each_append (λ (n : Node). Each Inner (bodies_in n)) trees (tree ∷ []) h.bodies (k.bodies, tt);
}

-- the parts that a rule names
abbrev pub clauses_of : List Claim → List Node
clauses_of [] = []
clauses_of (claim ∷ rest) = claim.clause ∷ clauses_of rest

operands_are : (t : TyView) (ns : Nodes) → evaluated (parts_all operand ns) ≡ clauses_of (all_have t ns)
operands_are t none = refl
operands_are t (more n ns) = ap (λ (l : List Node). n ∷ l) (operands_are t ns)

no_literals : (ns : Nodes) → literals (parts_all operand ns) ≡ []
no_literals none = refl
no_literals (more n ns) = no_literals ns

arguments_are : {ns : Nodes} {tys : _} {claims : List Claim} → Arguments ns tys claims → evaluated (parts_all operand ns) ≡ clauses_of claims
arguments_are typed.no_more = refl
arguments_are (typed.one_more {n = n} args) = ap (λ (l : List Node). n ∷ l) (arguments_are args)

labels_are : (t : TyView) (ns : Nodes) (rest : List (Part Node)) (claims : List Claim) → evaluated rest ≡ clauses_of claims →
    evaluated (parts_all label ns ++ rest) ≡ clauses_of (all_have t ns ++ claims)
labels_are t none rest claims h = h
labels_are t (more n ns) rest claims h = ap (λ (l : List Node). n ∷ l) (labels_are t ns rest claims h)

no_labels : (ns : Nodes) (rest : List (Part Node)) → literals rest ≡ [] → literals (parts_all label ns ++ rest) ≡ []
no_labels none rest h = h
no_labels (more n ns) rest h = no_labels ns rest h

arms_are : (value t : TyView) (arms : Arms) (d : Node) → evaluated (parts_arms arms ++ branch d ∷ []) ≡ clauses_of (arms_have value t arms ++ d has t ∷ [])
arms_are value t no_arms d = refl
arms_are value t (more_arms (arm labels a) rest) d =
    ap evaluated (append_assoc (parts_all label labels) (branch a ∷ parts_arms rest) (branch d ∷ []))
    ∙ labels_are value labels (branch a ∷ (parts_arms rest ++ branch d ∷ [])) (a has t ∷ (arms_have value t rest ++ d has t ∷ []))
    (ap (λ (l : List Node). a ∷ l) (arms_are value t rest d))
    ∙ ap clauses_of (sym (append_assoc (all_have value labels) (a has t ∷ arms_have value t rest) (d has t ∷ [])))

no_arm_literals : (arms : Arms) (d : Node) → literals (parts_arms arms ++ branch d ∷ []) ≡ []
no_arm_literals no_arms d = refl
no_arm_literals (more_arms (arm labels a) rest) d =
    ap literals (append_assoc (parts_all label labels) (branch a ∷ parts_arms rest) (branch d ∷ [])) ∙ no_labels labels
    (branch a ∷ (parts_arms rest ++ branch d ∷ [])) (no_arm_literals rest d)

pub parts_named : {tree : Node} {claims : List Claim} {t : TyView} → Rule tree claims t →
    (evaluated (parts_of tree) ≡ clauses_of claims) × (literals (parts_of tree) ≡ [])
parts_named (typed.make {args = ns} class args) = (arguments_are args, no_literals ns)
parts_named (typed.call {f = f} {args = ns} args) = (ap (λ (l : List Node). f ∷ l) (arguments_are args), no_literals ns)
parts_named (typed.lib {args = ns} known args) = (arguments_are args, no_literals ns)
parts_named (typed.elems {l = l} {items = items} {t = t}) = (ap (λ (ns : List Node). l ∷ ns) (operands_are t items), no_literals items)
parts_named (typed.case {e = e} {d = d} {arms = arms} {value = value} {t = t} is) =
    (ap (λ (ns : List Node). e ∷ ns) (arms_are value t arms d), no_arm_literals arms d)
parts_named other = (refl, refl)

-- no clause with a rule takes a local, names a slot or is a literal
nothing_own : {tree : Node} {claims : List Claim} {t : TyView} → Rule tree claims t →
    (own_taken true tree ≡ 0) × (own_taken false tree ≡ 0) × (own_slots tree ≡ []) × (own_body tree ≡ [])
nothing_own typed.int = (refl, refl, refl, refl)
nothing_own other = (refl, refl, refl, refl)

-- each local that is in scope is below the free slots
abbrev pub LocalsBelow : Env → Free → Type 0
LocalsBelow env free = (slot : ℕ) (ty : TyView) → Some_is (IsLocal slot ty) env.locals → slot < limit (is_number ty) free

pub locals_grow : (env : Env) (free free' : Free) → Grows free free' → LocalsBelow env free → LocalsBelow env free'
locals_grow env free free' g h = λ slot ty is. let b = h slot ty is in let l = limit_grows (is_number ty) free free' g in omega arith

-- the next slot of a name
next_by : (free : Free) (stack : Bool) → (if stack then free.nums else free.refs) ≡ limit stack free
next_by free true = refl
next_by free false = refl

pub record One (ty : TyView) (free free' : Free) : Type 0 where
  pub nums : free'.nums ≡ free.nums + one_on true ty
  pub refs : free'.refs ≡ free.refs + one_on false ty
  pub one_of : one_on true ty + one_on false ty ≡ 1
  pub here : next_slot ty free < limit (is_number ty) free'

pub one_by : (ty : TyView) (free : Free) → One ty free (behind_one ty free)
one_by types.Int free = record { nums = refl; refs = omega arith; one_of = refl; here = omega arith }
one_by types.Bool free = record { nums = refl; refs = omega arith; one_of = refl; here = omega arith }
one_by types.Str free = record { nums = omega arith; refs = refl; one_of = refl; here = omega arith }
one_by other free = record { nums = omega arith; refs = refl; one_of = refl; here = omega arith }

pub one_grows : (ty : TyView) (free : Free) → Grows free (behind_one ty free)
one_grows ty free = let h = one_by ty free in record { nums = omega arith; refs = omega arith }

pub locals_more : (env : Env) (ty : TyView) (free : Free) → LocalsBelow env free → LocalsBelow (with_local (next_slot ty free) ty env) (behind_one ty free)
locals_more env ty free h slot t (inl (s, e)) = subst (λ (n : ℕ). n < limit (is_number t) (behind_one ty free)) s
    (subst (λ (u : TyView). next_slot ty free < limit (is_number u) (behind_one ty free)) e (one_by ty free).here)
locals_more env ty free h slot t (inr is) = locals_grow env free (behind_one ty free) (one_grows ty free) h slot t is

-- a name that is declared
pub record Declared (place : Place) (ty : TyView) (free : Free) (with_name : Env) (behind : Free) : Type 0 where
  pub nums : behind.nums ≡ free.nums + taken_on true ty place
  pub refs : behind.refs ≡ free.refs + taken_on false ty place
  pub few : taken_on true ty place + taken_on false ty place ≤ 1
  pub slots : Each (Below behind) (slot_of ty place)
  pub below : LocalsBelow with_name behind

pub declared : {env with_name : Env} {free behind : Free} {place : Place} {ty : TyView} → Declares env free place ty with_name behind →
    LocalsBelow env free → Declared place ty free with_name behind
declared (typed.as_local {env = env} {free = free} {slot = slot} {ty = ty} e) below =
    let h = one_by ty free in
    record {
      nums = h.nums;
      refs = h.refs;
      few = omega arith;
      slots = (subst (λ (n : ℕ). n < limit (is_number ty) (behind_one ty free)) (sym e) h.here, tt);
      below = subst (λ (n : ℕ). LocalsBelow (with_local n ty env) (behind_one ty free)) (sym e) (locals_more env ty free below);
    }
declared (typed.as_kept name scopes position) below = record { nums = omega arith; refs = omega arith; few = omega arith; slots = tt; below = below }

-- the parameters of a body
pub record Params (params : List Param) (free : Free) (last : Env) (free' : Free) : Type 0 where
  pub nums : free'.nums ≡ free.nums + taken_by_params true params
  pub refs : free'.refs ≡ free.refs + taken_by_params false params
  pub many : taken_by_params true params + taken_by_params false params ≡ length params
  pub slots : Each (Below free') (slots_of_params params)
  pub below : LocalsBelow last free'

pub params_tracked : {env last : Env} {free free' : Free} {params : List Param} → Takes env free params last free' → LocalsBelow env free →
    Params params free last free'
params_tracked typed.no_more below = record { nums = omega arith; refs = omega arith; many = refl; slots = tt; below = below }
params_tracked (typed.as_local {env = env} {free = free} {free' = free'} {slot = slot} {ty = ty} {rest = rest} e takes) below =
    let one = one_by ty free in
    let h = params_tracked takes (subst (λ (n : ℕ). LocalsBelow (with_local n ty env) (behind_one ty free)) (sym e) (locals_more env ty free below)) in
    let grows = grows_by (behind_one ty free) free' (taken_by_params true rest) (taken_by_params false rest) h.nums h.refs in
    let here : slot < limit (is_number ty) free' = let a = limit_grows (is_number ty) (behind_one ty free) free' grows in let b = one.here in omega arith in
    record { nums = omega arith; refs = omega arith; many = omega arith; slots = (here, h.slots); below = h.below }
params_tracked (typed.as_kept {env = env} {free = free} {ty = ty} name scopes position takes) below =
    let one = one_by ty free in
    let h = params_tracked takes (locals_grow env free (behind_one ty free) (one_grows ty free) below) in
    record { nums = omega arith; refs = omega arith; many = omega arith; slots = h.slots; below = h.below }

own_nothing : (free : Free) (tree : Node) → (own_taken true tree ≡ 0) × (own_taken false tree ≡ 0) × (own_slots tree ≡ []) × (own_body tree ≡ []) →
    literals (parts_of tree) ≡ [] → Own free tree free
own_nothing free tree (nums, refs, slots, bodies) literals_are = record {
  nums = omega arith;
  refs = omega arith;
  few = omega arith;
  slots = subst (Each (Below free)) (sym slots) tt;
  bodies = subst (Each Inner) (sym bodies) tt;
  inside_bodies = subst (Each (λ (n : Node). Each Inner (bodies_in n))) (sym literals_are) tt;
}

slot_below : (env : Env) (free : Free) (place : Place) (ty : TyView) → IsAt env place ty → LocalsBelow env free → Each (Below free) (slot_of ty place)
slot_below env free (Plain slot) ty is below = (below slot ty is, tt)
slot_below env free (Kept up position) ty is below = tt

abbrev pub item_nodes : Nodes → List Node
item_nodes none = []
item_nodes (more first rest) = first ∷ item_nodes rest

items_are : (items : Nodes) → evaluated (parts_all branch items) ≡ item_nodes items
items_are none = refl
items_are (more first rest) = ap (λ (l : List Node). first ∷ l) (items_are rest)

no_item_literals : (items : Nodes) → literals (parts_all branch items) ≡ []
no_item_literals none = refl
no_item_literals (more first rest) = no_item_literals rest

let_tracked : (env with_name : Env) (free behind between : Free) (place : Place) (of : TyView) (e : Node) → Declared place of free with_name behind →
    Tracked behind e between → Tracked free (node.Let place of e) between
let_tracked env with_name free behind between place of e d h =
    whole free behind between (node.Let place of e) (e ∷ []) refl
    (record { nums = d.nums; refs = d.refs; few = d.few; slots = d.slots; bodies = tt; inside_bodies = tt })
    (then_all behind between between e [] h (none_tracked between))

abbrev pub tree_of : BodyNode → Node
tree_of (body params gives tree scope line) = tree

pub record BodyTracked (of : BodyNode) : Type 0 where
  pub counted : IsCounted of
  pub inside_it : Each Inner (bodies_in (tree_of of))

pub limit_is : (free free' : Free) (params : List Param) (tree : Node) (gives : TyView) (scope : Option (List ℕ)) (line : Line) →
    free.nums ≡ 0 + taken_by_params true params → free.refs ≡ 0 + taken_by_params false params → Tracked free tree free' →
    (stack : Bool) → limit stack free' ≡ locals_on stack (body params gives tree scope line)
limit_is free free' params tree gives scope line nums refs h true = let a = h.nums in omega arith
limit_is free free' params tree gives scope line nums refs h false = let a = h.refs in omega arith

mutual
  pub track : {env : Env} {free free' : Free} {tree : Node} {ty : TyView} → IsTyped env free tree ty free' → LocalsBelow env free → Tracked free tree free'
  track (typed.by_rule {free = free} {free' = free'} {clause = clause} {claims = claims} r are) below =
      let parts = parts_named r in
      whole free free free' clause (clauses_of claims) parts.0 (own_nothing free clause (nothing_own r) parts.1) (track_all are below)
  track (typed.name {env = env} {free = free} {place = place} {ty = ty} is) below =
      whole free free free (node.Name place ty) [] refl (record {
        nums = omega arith;
        refs = omega arith;
        few = omega arith;
        slots = slot_below env free place ty is below;
        bodies = tt;
        inside_bodies = tt;
      }) (none_tracked free)
  track (typed.set_name {env = env} {free = free} {free' = free'} {place = place} {ty = ty} {e = e} is t) below =
      whole free free free' (node.SetName place ty e) (e ∷ []) refl
      (record { nums = omega arith; refs = omega arith; few = omega arith; slots = slot_below env free place ty is below; bodies = tt; inside_bodies = tt })
      (then_all free free' free' e [] (track t below) (none_tracked free'))
  track (typed.block {free = free} {free' = free'} {scope = scope} {items = items} opens are is) below =
      whole free free free' (node.Block scope items) (item_nodes items) (items_are items)
      (own_nothing free (node.Block scope items) (refl, refl, refl, refl) (no_item_literals items)) (track_items are below)
  track (typed.loop {env = env} {own = own} {free = free} {behind = behind} {between = between} {free' = free'} {slot = slot} {a = a} {b = b} {c = c}
      {s = s} {scope = scope} {control = control} {line = line} slot_is opens declares is are t) below =
      let d = declared declares (λ n ty found. let l = below n ty found in let g = limit_grows (is_number ty) free
      (record free { nums = free.nums + 3 }) (record { nums = omega arith; refs = omega arith }) in omega arith) in
      let grows : Grows free behind = record { nums = let x = d.nums in omega arith; refs = let x = d.refs in omega arith } in
      let three = track_all are (locals_grow env free behind grows below) in
      let last = track t (locals_grow own behind between (all_grows three) d.below) in
      whole free behind free' (node.For slot a b c scope control s line) (a ∷ b ∷ c ∷ s ∷ []) refl
      (record {
        nums = let x = d.nums in omega arith;
        refs = let x = d.refs in omega arith;
        few = let x = d.few in omega arith;
        slots = let x = d.nums in (omega arith, (omega arith, (omega arith, d.slots)));
        bodies = tt;
        inside_bodies = tt;
      })
      (all_then behind between free' (a ∷ b ∷ c ∷ []) s three last)
  track (typed.scan {env = env} {free = free} {free' = free'} {string = string} {a = a} {f = f} {q = q} {s = s} {line = line} q_is s_is are) below =
      let behind : Free = record { nums = free.nums + 3; refs = free.refs + 3 } in
      let grows : Grows free behind = record { nums = omega arith; refs = omega arith } in
      whole free behind free' (node.Scan string a f q s line) (a ∷ f ∷ []) refl
      (record {
        nums = refl;
        refs = refl;
        few = omega arith;
        slots = (omega arith, (omega arith, (omega arith, (omega arith, (omega arith, (omega arith, tt))))));
        bodies = tt;
        inside_bodies = tt;
      })
      (track_all are (locals_grow env free behind grows below))
  track (typed.literal {env = env} {free = free} {params = params} {gives = gives} {tree = tree} {scope = scope} {line = line} is_body) below =
      let b = track_body is_body in
      whole free free free (node.Proc (body params gives tree scope line)) [] refl
      (record {
        nums = omega arith;
        refs = omega arith;
        few = omega arith;
        slots = tt;
        bodies = (record { around = env.scopes; typed = is_body; counted = b.counted }, tt);
        inside_bodies =
            (b.inside_it, tt);
      }) (none_tracked free)

  pub track_all : {env : Env} {free free' : Free} {claims : List Claim} → AreTyped env free claims free' → LocalsBelow env free →
      TrackedAll free (clauses_of claims) free'
  track_all (typed.no_more {free = free}) below = none_tracked free
  track_all (typed.one_more {env = env} {free = free} {between = between} {free' = free'} {clause = clause} {rest = rest} first others) below =
      let h = track first below in
      then_all free between free' clause (clauses_of rest) h (track_all others (locals_grow env free between (tree_grows h) below))

  pub track_items : {env last : Env} {free free' : Free} {before ty : TyView} {items : Nodes} → AreItems env free before items ty last free' →
      LocalsBelow env free → TrackedAll free (item_nodes items) free'
  track_items (typed.at_end {free = free}) below = none_tracked free
  track_items (typed.a_clause {env = env} {free = free} {between = between} {free' = free'} {item = item} {rest = rest} first others) below =
      let h = track first below in
      then_all free between free' item (item_nodes rest) h (track_items others (locals_grow env free between (tree_grows h) below))
  track_items (typed.a_value {env = env} {with_name = with_name} {free = free} {behind = behind} {between = between} {free' = free'} {place = place}
      {e = e} {rest = rest} {of = of} isnt declares t others) below =
      let d = declared declares below in
      let grows : Grows free behind = record { nums = let x = d.nums in omega arith; refs = let x = d.refs in omega arith } in
      let h = track t (locals_grow env free behind grows below) in
      then_all free between free' (node.Let place of e) (item_nodes rest) (let_tracked env with_name free behind between place of e d h)
      (track_items others (locals_grow with_name behind between (tree_grows h) d.below))
  track_items (typed.a_literal {env = env} {with_name = with_name} {free = free} {behind = behind} {between = between} {free' = free'} {place = place}
      {procedure = procedure} {rest = rest} {of = of} declares t others) below =
      let d = declared declares below in
      let h = track t d.below in
      then_all free between free' (node.Let place of (node.Proc procedure)) (item_nodes rest)
      (let_tracked env with_name free behind between place of (node.Proc procedure) d h)
      (track_items others (locals_grow with_name behind between (tree_grows h) d.below))

  pub track_body : {around : List _} {of : BodyNode} → IsBody around of → BodyTracked of
  track_body (typed.of_params {params = params} {gives = gives} {tree = tree} {scope = scope} {line = line} {env = env} {free = free}
      {free' = free'} opens takes is t) =
      let p = params_tracked takes (λ slot ty found. absurd found) in
      let h = track t p.below in
      let of : BodyNode = body params gives tree scope line in
      let is_limit = limit_is free free' params tree gives scope line p.nums p.refs h in
      record {
        counted = record {
          slots = each_map (Below free') (λ (s : Slot). s.slot < locals_on s.is_number of) (slots_of_body of)
              (λ s b. let l = is_limit s.is_number in omega arith)
              (each_append (Below free') (slots_of_params params) (slots_in tree)
              (below_grows free free' (slots_of_params params) (tree_grows h) p.slots) h.slots);
          room = let a = p.many in let b = h.few in omega arith;
        };
        inside_it = h.bodies;
      }

-- each body of a typed one, itself and the literals in it
pub bodies_inner : {around : List (List Field)} {of : BodyNode} → IsBody around of → Each Inner (bodies of)
bodies_inner {around = around} {of = body params gives tree scope line} is_body =
    let b = track_body is_body in (record { around = around; typed = is_body; counted = b.counted }, b.inside_it)

pub program_counted : (program : BodyNode) → IsWellTyped program → Each IsCounted (bodies program)
program_counted (body params gives tree scope line) (p, q, is_body) =
    each_map Inner IsCounted (bodies (body params gives tree scope line)) (λ of h. h.counted) (bodies_inner is_body)
