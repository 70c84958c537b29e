-- A fit body has as many locals on each stack as its slots take, and its slot count has room for them and for its clause above them.
use Rattle.std.proofs.Common.{◌≡◌, ℕ, ◌+◌, ◌≤◌, Bool, true, false, not, List, [], ◌∷◌, ◌++◌, map, length, length-append, refl, sym, ap, ◌∙◌, arith}
use Rattle.std.specs.Prelude.{if◌then◌else◌}
use Rattle.ps_gen.specs.ps_base.TyView.{TyView}
use Rattle.ps_gen.specs.ps_base.TyView as types
use Rattle.ps_gen.specs.ps_program.declared.place.Place.{Place}
use Rattle.ps_gen.specs.ps_program.declared.place.Place.TheVariants.{Plain, Kept}
use Rattle.ps_gen.specs.ps_program.Node.{Param, Node, Nodes, BodyNode, body}
use Rattle.ps_gen.specs.ps_program.Node as node
use Rattle.ps_gen.specs.ps_program.Parts.{Part, operand, label, branch, literal}
use Rattle.ps_gen.specs.ps_program.Slots.{sum_of, own_locals, locals, slot_count}
use Rattle.ps_gen.specs.ps_program.inside.Listed.{parts_of, part_as}
use Rattle.ps_gen.proofs.of_ps_program.PartLemmas.{fold_parts}
use Rattle.ps_typing_laws.specs.ps_typing.Placing.{is_number}
use Rattle.ps_typing_laws.specs.ps_typing.Locals.{taken_on, own_taken, taken_in, taken_by_params, locals_on}
use Rattle.ps_typing_laws.specs.ps_typing.WellTyped.{Claim}
use Rattle.ps_typing_laws.specs.Counted.{depth_of_body}
use Rattle.ps_typing_laws.proofs.Tracked.{evaluated, clauses_of, item_nodes, parts_named}
use Rattle.heap_fit.specs.Slots.{from, slot_on, own_slots, params_on, slots_of}
use Rattle.heap_fit.specs.Bodies.{Level, IsFit, AreFit, AreItems, IsFitBody}
use Rattle.heap_fit.specs.Bodies as fit
use Rattle.heap_fit.proofs.InOrder.{slots, all_slots, slots_are, items_are, run_from, run_length}

abbrev total : (Node → ℕ) → List Node → ℕ
total f [] = 0
total f (n ∷ ns) = f n + total f ns

sum_is : (f : Node → ℕ) (parts : List (Part Node)) → sum_of (map (part_as f) parts) ≡ total f (evaluated parts)
sum_is f [] = refl
sum_is f (operand c ∷ rest) = ap (λ n. f c + n) (sum_is f rest)
sum_is f (label c ∷ rest) = ap (λ n. f c + n) (sum_is f rest)
sum_is f (branch c ∷ rest) = ap (λ n. f c + n) (sum_is f rest)
sum_is f (literal c ∷ rest) = sum_is f rest

taken_is : (stack : Bool) (tree : Node) → taken_in stack tree ≡ own_taken stack tree + total (taken_in stack) (evaluated (parts_of tree))
taken_is stack tree = fold_parts (λ clause parts. own_taken stack clause + sum_of parts) tree ∙ ap (λ n. own_taken stack tree + n)
    (sum_is (taken_in stack) (parts_of tree))

locals_are : (tree : Node) → locals tree ≡ own_locals tree + total locals (evaluated (parts_of tree))
locals_are tree = fold_parts (λ clause parts. own_locals clause + sum_of parts) tree ∙ ap (λ n. own_locals tree + n) (sum_is locals (parts_of tree))

-- The slots that a clause takes by itself.

pub from_long : (first count : ℕ) → length (from first count) ≡ count
from_long first count = let h = run_length first (first + count) (from first count) (run_from first count) in omega arith

slot_long : (numbers : Bool) (ty : TyView) (place : Place) → length (slot_on numbers ty place) ≡ taken_on numbers ty place
slot_long true ty (Plain slot) = go (is_number ty)
  where
    go : (b : Bool) → length (if b then slot ∷ [] else []) ≡ (if b then 1 else 0)
    go true = refl
    go false = refl
slot_long false ty (Plain slot) = go (is_number ty)
  where
    go : (b : Bool) → length (if not b then slot ∷ [] else []) ≡ (if b then 0 else 1)
    go true = refl
    go false = refl
slot_long numbers ty (Kept up position) = refl

own_long : (numbers : Bool) (tree : Node) → length (own_slots numbers tree) ≡ own_taken numbers tree
own_long numbers (node.Let place ty e) = slot_long numbers ty place
own_long true (node.For slot a b c scope control s line) =
    length-append (from slot 3) (slot_on true types.Int control) ∙ ap (λ n. n + length (slot_on true types.Int control)) (from_long slot 3)
    ∙ ap (λ n. 3 + n) (slot_long true types.Int control)
own_long false (node.For slot a b c scope control s line) =
    let e = slot_long false types.Int control in omega arith
own_long true (node.Scan text a f q s line) = from_long s 3
own_long false (node.Scan text a f q s line) = from_long q 3
own_long numbers other = refl

taken_few : (ty : TyView) (place : Place) → taken_on true ty place + taken_on false ty place ≤ 1
taken_few ty (Plain slot) = go (is_number ty)
  where
    go : (b : Bool) → (if b then 1 else 0) + (if b then 0 else 1) ≤ 1
    go true = omega arith
    go false = omega arith
taken_few ty (Kept up position) = omega arith

own_few : (tree : Node) → own_taken true tree + own_taken false tree ≤ own_locals tree
own_few (node.Let place ty e) = taken_few ty place
own_few (node.For slot a b c scope control s line) = let few = taken_few types.Int control in omega arith
own_few (node.Scan text a f q s line) = omega arith
own_few other = omega arith

-- as many as are counted of a clause, and of clauses one after the other
record Counted (tree : Node) : Type 0 where
  long : (numbers : Bool) → length (slots numbers tree) ≡ taken_in numbers tree
  few : taken_in true tree + taken_in false tree ≤ locals tree

record AllCounted (trees : List Node) : Type 0 where
  long : (numbers : Bool) → length (all_slots numbers trees) ≡ total (taken_in numbers) trees
  few : total (taken_in true) trees + total (taken_in false) trees ≤ total locals trees

none_counted : AllCounted []
none_counted = record { long = λ numbers. refl; few = omega arith }

then_counted : (tree : Node) (trees : List Node) → Counted tree → AllCounted trees → AllCounted (tree ∷ trees)
then_counted tree trees h k = record {
  long = λ numbers. length-append (slots numbers tree) (all_slots numbers trees) ∙ ap (λ n. n + length (all_slots numbers trees)) (h.long numbers)
      ∙ ap (λ n. taken_in numbers tree + n) (k.long numbers);
  few = let a = h.few in let b = k.few in omega arith;
}

whole_counted : (tree : Node) (trees : List Node) → evaluated (parts_of tree) ≡ trees → AllCounted trees → Counted tree
whole_counted tree trees are h = record {
  long = λ numbers. ap length (slots_are numbers tree trees are) ∙ length-append (own_slots numbers tree) (all_slots numbers trees)
      ∙ ap (λ n. n + length (all_slots numbers trees)) (own_long numbers tree) ∙ ap (λ n. own_taken numbers tree + n) (h.long numbers)
      ∙ sym (taken_is numbers tree ∙ ap (λ ts. own_taken numbers tree + total (taken_in numbers) ts) are);
  few =
      let own = own_few tree in
      let nums = taken_is true tree ∙ ap (λ ts. own_taken true tree + total (taken_in true) ts) are in
      let refs = taken_is false tree ∙ ap (λ ts. own_taken false tree + total (taken_in false) ts) are in
      let all = locals_are tree ∙ ap (λ ts. own_locals tree + total locals ts) are in
      let rest = h.few in omega arith;
}

three_counted : (a b c s : Node) → AllCounted (a ∷ b ∷ c ∷ []) → AllCounted (s ∷ []) → AllCounted (a ∷ b ∷ c ∷ s ∷ [])
three_counted a b c s h k = record {
  long = λ numbers.
      let x = h.long numbers in
      let y = k.long numbers in
      let sa = length-append (slots numbers a) (slots numbers b ++ (slots numbers c ++ [])) in
      let sb = length-append (slots numbers b) (slots numbers c ++ []) in
      let sc = length-append (slots numbers c) [] in
      let sd = length-append (slots numbers s) [] in
      let la = length-append (slots numbers a) (slots numbers b ++ (slots numbers c ++ (slots numbers s ++ []))) in
      let lb = length-append (slots numbers b) (slots numbers c ++ (slots numbers s ++ [])) in
      let lc = length-append (slots numbers c) (slots numbers s ++ []) in omega arith;
  few = let a = h.few in let b = k.few in omega arith;
}

mutual
  counted : {env : fit.InScope} {tree : Node} {ty : TyView} → IsFit env tree ty → Counted tree
  counted (fit.by_rule {clause = clause} {claims = claims} rule names parts) = whole_counted clause (clauses_of claims) (parts_named rule).0 (all_counted parts)
  counted (fit.name {place = place} {ty = ty} at) = whole_counted (node.Name place ty) [] refl none_counted
  counted (fit.set_name {place = place} {ty = ty} {e = e} at te) =
      whole_counted (node.SetName place ty e) (e ∷ []) refl (then_counted e [] (counted te) none_counted)
  counted (fit.block {scope = scope} {items = items} opens are) = whole_counted (node.Block scope items) (item_nodes items) (items_are items) (items_counted are)
  counted (fit.loop {slot = slot} {a = a} {b = b} {c = c} {s = s} {scope = scope} {control = control} {line = line} opens declares are t) =
      whole_counted (node.For slot a b c scope control s line) (a ∷ b ∷ c ∷ s ∷ []) refl
      (three_counted a b c s (all_counted are) (then_counted s [] (counted t) none_counted))
  counted (fit.scan {string = string} {a = a} {f = f} {q = q} {s = s} {line = line} are) =
      whole_counted (node.Scan string a f q s line) (a ∷ f ∷ []) refl (all_counted are)
  counted (fit.literal {params = params} {gives = gives} {tree = tree} {scope = scope} {line = line} is_body) =
      whole_counted (node.Proc (body params gives tree scope line)) [] refl none_counted

  all_counted : {env : fit.InScope} {claims : List Claim} → AreFit env claims → AllCounted (clauses_of claims)
  all_counted fit.AreFit.no_more = none_counted
  all_counted (fit.one_more {clause = clause} {rest = rest} first others) = then_counted clause (clauses_of rest) (counted first) (all_counted others)

  items_counted : {scope : _} {env last : fit.InScope} {before ty : TyView} {items : Nodes} → AreItems scope env before items ty last → AllCounted (item_nodes items)
  items_counted fit.at_end = none_counted
  items_counted (fit.a_clause {item = item} {rest = rest} first others) = then_counted item (item_nodes rest) (counted first) (items_counted others)
  items_counted (fit.a_value {place = place} {e = e} {rest = rest} {of = of} isnt declares te others) =
      then_counted (node.Let place of e) (item_nodes rest)
      (whole_counted (node.Let place of e) (e ∷ []) refl (then_counted e [] (counted te) none_counted)) (items_counted others)
  items_counted (fit.a_literal {place = place} {procedure = procedure} {rest = rest} {of = of} declares te others) =
      then_counted (node.Let place of (node.Proc procedure)) (item_nodes rest)
      (whole_counted (node.Let place of (node.Proc procedure)) (node.Proc procedure ∷ []) refl (then_counted (node.Proc procedure) [] (counted te) none_counted))
      (items_counted others)

-- The parameters.

params_are : (numbers : Bool) (params : List Param) → params_on numbers params ≡ taken_by_params numbers params
params_are numbers [] = refl
params_are true (param ∷ params) = let rest = params_are true params in omega arith
params_are false (param ∷ params) = let rest = params_are false params in let here = go (is_number param.ty) in omega arith
  where
    one : ℕ
    one = 1

    none_here : ℕ
    none_here = 0

    go : (b : Bool) → (if not b then one else none_here) ≡ (if b then none_here else one)
    go true = refl
    go false = refl

params_few : (params : List Param) → taken_by_params true params + taken_by_params false params ≡ length params
params_few [] = refl
params_few (param ∷ params) = let rest = params_few params in go (is_number param.ty) rest
  where
    go : (b : Bool) → taken_by_params true params + taken_by_params false params ≡ length params →
        ((if b then 1 else 0) + taken_by_params true params) + ((if b then 0 else 1) + taken_by_params false params) ≡ length (param ∷ params)
    go true rest = omega arith
    go false rest = omega arith

pub record HasLocals (of : BodyNode) : Type 0 where
  pub long : (numbers : Bool) → length (slots_of numbers of) ≡ locals_on numbers of
  pub room : locals_on true of + locals_on false of + depth_of_body of ≤ slot_count of

pub has_locals : {levels : List Level} {of : BodyNode} → IsFitBody levels of → HasLocals of
has_locals (fit.of_params {params = params} {gives = gives} {tree = tree} {scope = scope} {line = line} opens takes t valued slots_are) =
    let h = counted t in
    record {
      long = λ numbers. length-append (from 0 (params_on numbers params)) (slots numbers tree)
          ∙ ap (λ n. n + length (slots numbers tree)) (from_long 0 (params_on numbers params) ∙ params_are numbers params)
          ∙ ap (λ n. taken_by_params numbers params + n) (h.long numbers);
      room = let few = h.few in let params = params_few params in omega arith;
    }
