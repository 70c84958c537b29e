-- The clauses that are evaluated with a typed one are typed, as deep at most, and name no other slots.
use Rattle.std.proofs.Common.{◌≡◌, ℕ, ◌+◌, ◌<◌, ◌≤◌, List, [], ◌∷◌, ◌++◌, refl, sym, ap, subst, arith}
use Rattle.std.specs.Prelude.{max, map}
use Rattle.ps_gen.specs.ps_base.TyView.{TyView}
use Rattle.ps_gen.specs.ps_program.declared.place.Place.{Place}
use Rattle.ps_gen.specs.ps_program.Node.{Node, Nodes, none, more, BodyNode}
use Rattle.ps_gen.specs.ps_program.Node as node
use Rattle.ps_gen.specs.ps_program.Parts.{Part, operand, label, branch, literal}
use Rattle.ps_gen.specs.ps_program.Slots.{reaches, depth}
use Rattle.ps_gen.specs.ps_program.inside.Listed.{parts_of, parts_all, part_as}
use Rattle.ps_gen.proofs.of_ps_program.PartLemmas.{fold_parts}
use Rattle.ps_typing_laws.specs.ps_typing.WellTyped.{Env, Free, Claim, IsTyped, AreTyped, AreItems}
use Rattle.ps_typing_laws.specs.ps_typing.WellTyped as typed
use Rattle.ps_typing_laws.specs.Counted.{Each, Slot, own_slots, slots_of_parts, slots_in}
use Rattle.ps_typing_laws.proofs.Tracked.{evaluated, clauses_of, parts_named, item_nodes}
use Rattle.ps_gen.specs.Emission.{items_in}

-- a clause that is typed somewhere, or an item that declares the value of one
pub data Typed : Node → Type 0 where
  clause : {env : Env} {free free' : Free} {t : Node} {ty : TyView} → IsTyped env free t ty free' → Typed t
  declaring : {env : Env} {free free' : Free} {place : Place} {of ty : TyView} {e : Node} → IsTyped env free e ty free' → Typed (node.Let place of e)

-- a clause that is typed, less deep than this, and all of whose slots are less too
pub record Good (most : ℕ) (t : Node) : Type 0 where
  pub typed_clause : Typed t
  pub deep : depth t < most
  pub slots : Each (λ (s : Slot). s.slot < most) (slots_in t)

pub items_are : (items : Nodes) → evaluated (parts_all branch items) ≡ item_nodes items
items_are none = refl
items_are (more first rest) = ap (λ (l : List Node). first ∷ l) (items_are rest)

claims_typed : {env : Env} {free free' : Free} {claims : List Claim} → AreTyped env free claims free' → Each Typed (clauses_of claims)
claims_typed typed.no_more = tt
claims_typed (typed.one_more first others) = (clause first, claims_typed others)

items_typed : {env last : Env} {free free' : Free} {before ty : TyView} {items : Nodes} → AreItems env free before items ty last free' →
    Each Typed (item_nodes items)
items_typed typed.at_end = tt
items_typed (typed.a_clause first others) = (clause first, items_typed others)
items_typed (typed.a_value isnt declares t others) = (declaring t, items_typed others)
items_typed (typed.a_literal declares t others) = (declaring t, items_typed others)

clause_parts : {env : Env} {free free' : Free} {t : Node} {ty : TyView} → IsTyped env free t ty free' → Each Typed (evaluated (parts_of t))
clause_parts (typed.by_rule r are) = subst (Each Typed) (sym (parts_named r).0) (claims_typed are)
clause_parts (typed.name is) = tt
clause_parts (typed.set_name is e) = (clause e, tt)
clause_parts (typed.block {items = items} opens are is) = subst (Each Typed) (sym (items_are items)) (items_typed are)
clause_parts (typed.loop slot_is opens declares is (typed.one_more a (typed.one_more b (typed.one_more c typed.no_more))) s) =
    (clause a, (clause b, (clause c, (clause s, tt))))
clause_parts (typed.scan q_is s_is (typed.one_more a (typed.one_more f typed.no_more))) = (clause a, (clause f, tt))
clause_parts (typed.literal is_body) = tt

typed_parts : {t : Node} → Typed t → Each Typed (evaluated (parts_of t))
typed_parts (clause h) = clause_parts h
typed_parts (declaring h) = (clause h, tt)

deep_parts : (most before : ℕ) (parts : List (Part Node)) → reaches before (map (part_as depth) parts) < most → Each (λ (n : Node). depth n < most) (evaluated parts)
deep_parts most before [] h = tt
deep_parts most before (operand c ∷ rest) h = (omega arith, deep_parts most (before + 1) rest (omega arith))
deep_parts most before (label c ∷ rest) h = (omega arith, deep_parts most (before + 1) rest (omega arith))
deep_parts most before (branch c ∷ rest) h = (omega arith, deep_parts most (before + 1) rest (omega arith))
deep_parts most before (literal c ∷ rest) h = deep_parts most (before + 1) rest (omega arith)

depth_is : (t : Node) → depth t ≡ reaches 0 (map (part_as depth) (parts_of t))
depth_is t = fold_parts (λ clause parts. reaches 0 parts) t

some_depth : (before : ℕ) (parts : List (Part ℕ)) → 1 ≤ reaches before parts
some_depth before [] = omega arith
some_depth before (first ∷ rest) = let h = some_depth (before + 1) rest in omega arith

is_deep : (t : Node) → 1 ≤ depth t
is_deep t = let h = some_depth 0 (map (part_as depth) (parts_of t)) in let e = depth_is t in omega arith

-- operands are no more than the stacks are deep over them
many_operands : (before : ℕ) (ns : Nodes) → items_in ns + before ≤ max before (reaches before (map (part_as depth) (parts_all operand ns)))
many_operands before none = omega arith
many_operands before (more n ns) = let h = many_operands (before + 1) ns in let d = is_deep n in omega arith

pub few_operands : (most before : ℕ) (ns : Nodes) → before < most → reaches before (map (part_as depth) (parts_all operand ns)) < most → items_in ns < most
few_operands most before ns b h = let k = many_operands before ns in omega arith

-- the operands of a clause that is not too deep
pub parts_deep : (most : ℕ) (t : Node) → depth t < most → reaches 0 (map (part_as depth) (parts_of t)) < most
parts_deep most t h = let e = depth_is t in omega arith

each_left : {A : Type 0} (P : A → Type 0) (xs ys : List A) → Each P (xs ++ ys) → Each P xs
each_left P [] ys h = tt
each_left P (x ∷ xs) ys h = (h.0, each_left P xs ys h.1)

pub each_right : {A : Type 0} (P : A → Type 0) (xs ys : List A) → Each P (xs ++ ys) → Each P ys
each_right P [] ys h = h
each_right P (x ∷ xs) ys h = each_right P xs ys h.1

slots_parts : (P : Slot → Type 0) (parts : List (Part Node)) → Each P (slots_of_parts (map (part_as slots_in) parts)) →
    Each (λ (n : Node). Each P (slots_in n)) (evaluated parts)
slots_parts P [] h = tt
slots_parts P (operand c ∷ rest) h = (each_left P (slots_in c) _ h, slots_parts P rest (each_right P (slots_in c) _ h))
slots_parts P (label c ∷ rest) h = (each_left P (slots_in c) _ h, slots_parts P rest (each_right P (slots_in c) _ h))
slots_parts P (branch c ∷ rest) h = (each_left P (slots_in c) _ h, slots_parts P rest (each_right P (slots_in c) _ h))
slots_parts P (literal c ∷ rest) h = slots_parts P rest h

slots_are : (t : Node) → slots_in t ≡ own_slots t ++ slots_of_parts (map (part_as slots_in) (parts_of t))
slots_are t = fold_parts (λ clause parts. own_slots clause ++ slots_of_parts parts) t

pub own_small : (most : ℕ) (t : Node) → Good most t → Each (λ (s : Slot). s.slot < most) (own_slots t)
own_small most t g = each_left (λ (s : Slot). s.slot < most) (own_slots t) _ (subst (Each (λ (s : Slot). s.slot < most)) (slots_are t) g.slots)

all_good : (most : ℕ) (ns : List Node) → Each Typed ns → Each (λ (n : Node). depth n < most) ns →
    Each (λ (n : Node). Each (λ (s : Slot). s.slot < most) (slots_in n)) ns → Each (Good most) ns
all_good most [] h d s = tt
all_good most (n ∷ ns) h d s = (record { typed_clause = h.0; deep = d.0; slots = s.0 }, all_good most ns h.1 d.1 s.1)

pub good_parts : (most : ℕ) (t : Node) → Good most t → Each (Good most) (evaluated (parts_of t))
good_parts most t g =
    all_good most (evaluated (parts_of t)) (typed_parts g.typed_clause) (deep_parts most 0 (parts_of t) (parts_deep most t g.deep))
    (slots_parts (λ (s : Slot). s.slot < most) (parts_of t)
    (each_right (λ (s : Slot). s.slot < most) (own_slots t) _ (subst (Each (λ (s : Slot). s.slot < most)) (slots_are t) g.slots)))
