-- The slots of a typed body are all from 0 on, in their order: so no slot is that of two names.
use Rattle.std.proofs.Common.{◌≡◌, ◌≢◌, ℕ, zero, suc, ◌+◌, ◌<◌, ◌≤◌, Bool, true, false, List, [], ◌∷◌, ◌++◌, map, length, refl, sym, ap, ◌∙◌, subst, arith, if◌then◌else◌}
use Rattle.std.specs.Prelude.{not}
use Rattle.std.specs.List.{AllByRecursion}
use Rattle.std.proofs.lemmas.List.{append_assoc}
use Rattle.ps_heap.specs.ps_base.TyView.{TyView}
use Rattle.ps_heap.specs.ps_base.TyView as types
use Rattle.ps_soundness.specs.ps_program.declared.place.Place.{Place}
use Rattle.ps_soundness.specs.ps_program.declared.place.Place.TheVariants.{Plain, Kept}
use Rattle.ps_soundness.specs.ps_program.Node.{Param, Node, Nodes, none, more, BodyNode, body}
use Rattle.ps_soundness.specs.ps_program.Node as node
use Rattle.ps_soundness.specs.ps_program.Slots.{slot_count}
use Rattle.ps_soundness.specs.ps_type_text.Texts.{Field}
use Rattle.ps_heap.specs.ps_base.Limits.{most_slots}
use Rattle.ps_soundness.specs.ps_program.Parts.{Part, operand, label, branch, literal, fold}
use Rattle.ps_soundness.specs.ps_program.inside.Listed.{parts_of, parts_all, part_as}
use Rattle.ps_typing.proofs.of_ps_program.PartLemmas.{fold_parts}
use Rattle.ps_typing_laws.proofs.Tracked.{evaluated, clauses_of, item_nodes, parts_named}
use Rattle.ps_soundness.specs.ps_typing.Placing.{is_number}
use Rattle.ps_soundness.specs.ps_typing.WellTyped.{Env, Free, Claim, Rule, Declares, Takes, IsTyped, AreTyped, AreItems, IsBody}
use Rattle.ps_soundness.specs.ps_typing.WellTyped as typed
use Rattle.ps_heap.specs.Held.{row}
use Rattle.heap_fit.specs.Slots.{from, slot_on, own_slots, joined, params_on, slots_of}
use Rattle.heap_fit.specs.Bodies.{AreApart, HasSlots}

-- Numbers from one on, one after the other, up to another one.

abbrev pub Run : ℕ → List ℕ → ℕ → Type 0
Run first [] last = first ≡ last
Run first (x ∷ xs) last = (x ≡ first) × Run (first + 1) xs last

run_then : (first between last : ℕ) (xs ys : List ℕ) → Run first xs between → Run between ys last → Run first (xs ++ ys) last
run_then first between last [] ys e r = subst (λ n. Run n ys last) (sym e) r
run_then first between last (x ∷ xs) ys (e, h) r = (e, run_then (first + 1) between last xs ys h r)

pub run_from : (first count : ℕ) → Run first (from first count) (first + count)
unfolding row
run_from first zero = omega arith
run_from first (suc count) = (refl, subst (λ n. Run n (from (suc first) count) (first + suc count)) (omega arith) (subst (Run (suc first) (from (suc first) count)) (omega arith) (run_from (suc first) count)))

pub run_length : (first last : ℕ) (xs : List ℕ) → Run first xs last → first + length xs ≡ last
run_length first last [] e = omega (arith, e)
run_length first last (x ∷ xs) (e, h) = omega (arith, run_length (first + 1) last xs h)

pub run_below : (first last : ℕ) (xs : List ℕ) → Run first xs last → AllByRecursion (λ x. x < last) xs
run_below first last [] e = tt
run_below first last (x ∷ xs) (e, h) = (omega (arith, e, run_length (first + 1) last xs h), run_below (first + 1) last xs h)

run_other : (first last x : ℕ) (xs : List ℕ) → x < first → Run first xs last → AllByRecursion (λ y. y ≢ x) xs
run_other first last x [] l e = tt
run_other first last x (y ∷ ys) l (e, h) = (λ same. absurd (omega (arith, l, e, same)), run_other (first + 1) last x ys (omega (arith, l)) h)

pub run_apart : (first last : ℕ) (xs : List ℕ) → Run first xs last → AreApart xs
run_apart first last [] e = tt
run_apart first last (x ∷ xs) (e, h) = (run_other (first + 1) last x xs (omega (arith, e)) h, run_apart (first + 1) last xs h)

pub run_in : (last : ℕ) (xs : List ℕ) → Run 0 xs last → AllByRecursion (λ x. x < length xs) xs
run_in last xs h = subst (λ n. AllByRecursion (λ x. x < n) xs) (omega (arith, run_length 0 last xs h)) (run_below 0 last xs h)

-- The slots of clauses, on both stacks.

abbrev pub slots : Bool → Node → List ℕ
slots numbers = fold (λ clause parts. own_slots numbers clause ++ joined parts)

abbrev pub all_slots : Bool → List Node → List ℕ
all_slots numbers [] = []
all_slots numbers (clause ∷ clauses) = slots numbers clause ++ all_slots numbers clauses

-- the free slots before and after these have been taken
pub record TakesSlots (free : Free) (taken : Bool → List ℕ) (free' : Free) : Type 0 where
  pub nums : Run free.nums (taken true) free'.nums
  pub refs : Run free.refs (taken false) free'.refs

takes_none : (free : Free) → TakesSlots free (λ numbers. []) free
takes_none free = record { nums = refl; refs = refl }

takes_then : (free between free' : Free) (first rest : Bool → List ℕ) → TakesSlots free first between → TakesSlots between rest free' →
    TakesSlots free (λ numbers. first numbers ++ rest numbers) free'
takes_then free between free' first rest h k = record {
  nums = run_then free.nums between.nums free'.nums (first true) (rest true) h.nums k.nums;
  refs = run_then free.refs between.refs free'.refs (first false) (rest false) h.refs k.refs;
}

takes_as : (free free' : Free) (taken other : Bool → List ℕ) → ((numbers : Bool) → other numbers ≡ taken numbers) → TakesSlots free taken free' → TakesSlots free other free'
takes_as free free' taken other same h = record {
  nums = subst (λ xs. Run free.nums xs free'.nums) (sym (same true)) h.nums;
  refs = subst (λ xs. Run free.refs xs free'.refs) (sym (same false)) h.refs;
}

pub joined_are : (numbers : Bool) (parts : List (Part Node)) → joined (map (part_as (slots numbers)) parts) ≡ all_slots numbers (evaluated parts)
joined_are numbers [] = refl
joined_are numbers (operand c ∷ rest) = ap (λ xs. slots numbers c ++ xs) (joined_are numbers rest)
joined_are numbers (label c ∷ rest) = ap (λ xs. slots numbers c ++ xs) (joined_are numbers rest)
joined_are numbers (branch c ∷ rest) = ap (λ xs. slots numbers c ++ xs) (joined_are numbers rest)
joined_are numbers (literal c ∷ rest) = joined_are numbers rest

-- a clause takes its own slots, and its parts take theirs
pub slots_are : (numbers : Bool) (tree : Node) (clauses : List Node) → evaluated (parts_of tree) ≡ clauses →
    slots numbers tree ≡ own_slots numbers tree ++ all_slots numbers clauses
slots_are numbers tree clauses are =
    fold_parts (λ clause parts. own_slots numbers clause ++ joined parts) tree
    ∙ ap (λ xs. own_slots numbers tree ++ xs) (joined_are numbers (parts_of tree) ∙ ap (all_slots numbers) are)

whole : (free between free' : Free) (tree : Node) (clauses : List Node) → evaluated (parts_of tree) ≡ clauses → TakesSlots free (λ numbers. own_slots numbers tree) between →
    TakesSlots between (λ numbers. all_slots numbers clauses) free' → TakesSlots free (λ numbers. slots numbers tree) free'
whole free between free' tree clauses are own h =
    takes_as free free' (λ numbers. own_slots numbers tree ++ all_slots numbers clauses) (λ numbers. slots numbers tree)
    (λ numbers. slots_are numbers tree clauses are)
    (takes_then free between free' (λ numbers. own_slots numbers tree) (λ numbers. all_slots numbers clauses) own h)

then_all : (free between free' : Free) (tree : Node) (clauses : List Node) → TakesSlots free (λ numbers. slots numbers tree) between →
    TakesSlots between (λ numbers. all_slots numbers clauses) free' → TakesSlots free (λ numbers. all_slots numbers (tree ∷ clauses)) free'
then_all free between free' tree clauses h k = takes_then free between free' (λ numbers. slots numbers tree) (λ numbers. all_slots numbers clauses) h k

pub append_slots : (numbers : Bool) (xs ys : List Node) → all_slots numbers (xs ++ ys) ≡ all_slots numbers xs ++ all_slots numbers ys
append_slots numbers [] ys = refl
append_slots numbers (x ∷ xs) ys = ap (λ zs. slots numbers x ++ zs) (append_slots numbers xs ys) ∙ sym (append_assoc (slots numbers x) (all_slots numbers xs) (all_slots numbers ys))

all_then : (free between free' : Free) (clauses rest : List Node) → TakesSlots free (λ numbers. all_slots numbers clauses) between →
    TakesSlots between (λ numbers. all_slots numbers rest) free' → TakesSlots free (λ numbers. all_slots numbers (clauses ++ rest)) free'
all_then free between free' clauses rest h k =
    takes_as free free' (λ numbers. all_slots numbers clauses ++ all_slots numbers rest) (λ numbers. all_slots numbers (clauses ++ rest)) (λ numbers. append_slots numbers clauses rest)
    (takes_then free between free' (λ numbers. all_slots numbers clauses) (λ numbers. all_slots numbers rest) h k)

-- no clause with a rule takes a slot by itself
pub none_own : {tree : Node} {claims : List Claim} {t : TyView} → Rule tree claims t → (numbers : Bool) → own_slots numbers tree ≡ []
none_own typed.int numbers = refl
none_own other numbers = refl

-- a name takes the next slot of its stack
takes_one : (ty : TyView) (free : Free) (slot : ℕ) → slot ≡ typed.next_slot ty free → TakesSlots free (λ numbers. slot_on numbers ty (Plain slot)) (typed.behind_one ty free)
takes_one ty free slot e = record { nums = nums (is_number ty) e; refs = refs (is_number ty) e }
  where
    nums : (b : Bool) → slot ≡ (if b then free.nums else free.refs) → Run free.nums (if b then slot ∷ [] else []) (if b then record free { nums = free.nums + 1 } else record free { refs = free.refs + 1 }).nums
    nums true is = (is, refl)
    nums false is = refl

    refs : (b : Bool) → slot ≡ (if b then free.nums else free.refs) → Run free.refs (if not b then slot ∷ [] else []) (if b then record free { nums = free.nums + 1 } else record free { refs = free.refs + 1 }).refs
    refs true is = refl
    refs false is = (is, refl)

declares_one : {env own : Env} {free behind : Free} {place : Place} {ty : TyView} → Declares env free place ty own behind → TakesSlots free (λ numbers. slot_on numbers ty place) behind
declares_one (typed.as_local {free = free} {slot = slot} {ty = ty} e) = takes_one ty free slot e
declares_one (typed.as_kept {free = free} name scopes is) = takes_none free

pub items_are : (items : Nodes) → evaluated (parts_all branch items) ≡ item_nodes items
items_are none = refl
items_are (more first rest) = ap (λ l. first ∷ l) (items_are rest)

mutual
  pub in_order : {env : Env} {free free' : Free} {tree : Node} {ty : TyView} → IsTyped env free tree ty free' → TakesSlots free (λ numbers. slots numbers tree) free'
  in_order (typed.by_rule {free = free} {free' = free'} {clause = clause} {claims = claims} r are) =
      whole free free free' clause (clauses_of claims) (parts_named r).0 (takes_as free free (λ numbers. []) (λ numbers. own_slots numbers clause) (none_own r) (takes_none free)) (all_in_order are)
  in_order (typed.name {free = free} {place = place} {ty = ty} is) = whole free free free (node.Name place ty) [] refl (takes_none free) (takes_none free)
  in_order (typed.set_name {free = free} {free' = free'} {place = place} {ty = ty} {e = e} is t) =
      whole free free free' (node.SetName place ty e) (e ∷ []) refl (takes_none free) (then_all free free' free' e [] (in_order t) (takes_none free'))
  in_order (typed.block {free = free} {free' = free'} {scope = scope} {items = items} opens are is) =
      whole free free free' (node.Block scope items) (item_nodes items) (items_are items) (takes_none free) (items_in_order are)
  in_order (typed.loop {free = free} {behind = behind} {between = between} {free' = free'} {slot = slot} {a = a} {b = b} {c = c} {s = s} {scope = scope}
      {control = control} {line = line} slot_is opens declares is are t) =
      whole free behind free' (node.For slot a b c scope control s line) (a ∷ b ∷ c ∷ s ∷ []) refl
      (takes_then free (typed.behind_loop free) behind (λ numbers. if numbers then from slot 3 else []) (λ numbers. slot_on numbers types.Int control)
      (record { nums = subst (λ n. Run n (from slot 3) (free.nums + 3)) slot_is (subst (Run slot (from slot 3)) (omega (arith, slot_is)) (run_from slot 3)); refs = refl }) (declares_one declares))
      (all_then behind between free' (a ∷ b ∷ c ∷ []) (s ∷ []) (all_in_order are) (then_all between free' free' s [] (in_order t) (takes_none free')))
  in_order (typed.scan {free = free} {free' = free'} {string = string} {a = a} {f = f} {q = q} {s = s} {line = line} q_is s_is are) =
      whole free (typed.behind_scan free) free' (node.Scan string a f q s line) (a ∷ f ∷ []) refl
      (record {
        nums = subst (λ n. Run n (from s 3) (free.nums + 3)) s_is (subst (Run s (from s 3)) (omega (arith, s_is)) (run_from s 3));
        refs = subst (λ n. Run n (from q 3) (free.refs + 3)) q_is (subst (Run q (from q 3)) (omega (arith, q_is)) (run_from q 3));
      })
      (all_in_order are)
  in_order (typed.literal {free = free} {params = params} {gives = gives} {tree = tree} {scope = scope} {line = line} is_body) =
      whole free free free (node.Proc (body params gives tree scope line)) [] refl (takes_none free) (takes_none free)

  all_in_order : {env : Env} {free free' : Free} {claims : List Claim} → AreTyped env free claims free' → TakesSlots free (λ numbers. all_slots numbers (clauses_of claims)) free'
  all_in_order (typed.no_more {free = free}) = takes_none free
  all_in_order (typed.one_more {free = free} {between = between} {free' = free'} {clause = clause} {rest = rest} first others) =
      then_all free between free' clause (clauses_of rest) (in_order first) (all_in_order others)

  items_in_order : {env last : Env} {free free' : Free} {before ty : TyView} {items : Nodes} → AreItems env free before items ty last free' →
      TakesSlots free (λ numbers. all_slots numbers (item_nodes items)) free'
  items_in_order (typed.at_end {free = free}) = takes_none free
  items_in_order (typed.a_clause {free = free} {between = between} {free' = free'} {item = item} {rest = rest} first others) =
      then_all free between free' item (item_nodes rest) (in_order first) (items_in_order others)
  items_in_order (typed.a_value {free = free} {behind = behind} {between = between} {free' = free'} {place = place} {e = e} {rest = rest} {of = of} isnt declares t others) =
      then_all free between free' (node.Let place of e) (item_nodes rest)
      (whole free behind between (node.Let place of e) (e ∷ []) refl (declares_one declares) (then_all behind between between e [] (in_order t) (takes_none between)))
      (items_in_order others)
  items_in_order (typed.a_literal {free = free} {behind = behind} {between = between} {free' = free'} {place = place} {procedure = procedure} {rest = rest} {of = of} declares t others) =
      then_all free between free' (node.Let place of (node.Proc procedure)) (item_nodes rest)
      (whole free behind between (node.Let place of (node.Proc procedure)) (node.Proc procedure ∷ []) refl (declares_one declares)
      (then_all behind between between (node.Proc procedure) [] (in_order t) (takes_none between)))
      (items_in_order others)

-- Parameters take the first slots of each stack, kept or not.

behind_nums : (ty : TyView) (free : Free) → (typed.behind_one ty free).nums ≡ free.nums + (if is_number ty then 1 else 0)
behind_nums ty free = go (is_number ty)
  where
    go : (b : Bool) → (if b then record free { nums = free.nums + 1 } else record free { refs = free.refs + 1 }).nums ≡ free.nums + (if b then 1 else 0)
    go true = refl
    go false = omega arith

behind_refs : (ty : TyView) (free : Free) → (typed.behind_one ty free).refs ≡ free.refs + (if not (is_number ty) then 1 else 0)
behind_refs ty free = go (is_number ty)
  where
    go : (b : Bool) → (if b then record free { nums = free.nums + 1 } else record free { refs = free.refs + 1 }).refs ≡ free.refs + (if not b then 1 else 0)
    go true = omega arith
    go false = refl

record Counted (free : Free) (params : List Param) (free' : Free) : Type 0 where
  nums : free'.nums ≡ free.nums + params_on true params
  refs : free'.refs ≡ free.refs + params_on false params

counted_then : (ty : TyView) (place : Place) (rest : List Param) (free free' : Free) → Counted (typed.behind_one ty free) rest free' → Counted free (record { ty = ty; place = place } ∷ rest) free'
counted_then ty place rest free free' h = record { nums = omega (arith, h.nums, behind_nums ty free); refs = omega (arith, h.refs, behind_refs ty free) }

counted : {env last : Env} {free free' : Free} {params : List Param} → Takes env free params last free' → Counted free params free'
counted typed.no_more = record { nums = omega arith; refs = omega arith }
counted (typed.as_local {free = free} {free' = free'} {slot = slot} {ty = ty} {rest = rest} e takes) = counted_then ty (Plain slot) rest free free' (counted takes)
counted (typed.as_kept {free = free} {free' = free'} {position = position} {ty = ty} {rest = rest} name scopes is takes) = counted_then ty (Kept 0 position) rest free free' (counted takes)

pub has_slots : {around : List (List Field)} {of : BodyNode} → IsBody around of → slot_count of ≤ most_slots → HasSlots of
has_slots (typed.of_params {params = params} {gives = gives} {tree = tree} {scope = scope} {line = line} {free = free} {free' = free'} opens takes is t) few =
    let c = counted takes in
    let h = in_order t in
    let nums : Run 0 (slots_of true (body params gives tree scope line)) free'.nums =
    run_then 0 (params_on true params) free'.nums (from 0 (params_on true params)) (slots true tree)
    (subst (Run 0 (from 0 (params_on true params))) (omega arith) (run_from 0 (params_on true params)))
    (subst (λ n. Run n (slots true tree) free'.nums) (omega (arith, c.nums)) h.nums) in
    let refs : Run 0 (slots_of false (body params gives tree scope line)) free'.refs =
    run_then 0 (params_on false params) free'.refs (from 0 (params_on false params)) (slots false tree)
    (subst (Run 0 (from 0 (params_on false params))) (omega arith) (run_from 0 (params_on false params)))
    (subst (λ n. Run n (slots false tree) free'.refs) (omega (arith, c.refs)) h.refs) in
    record {
      nums_apart = run_apart 0 free'.nums (slots_of true (body params gives tree scope line)) nums;
      nums_in = run_in free'.nums (slots_of true (body params gives tree scope line)) nums;
      refs_apart = run_apart 0 free'.refs (slots_of false (body params gives tree scope line)) refs;
      refs_in = run_in free'.refs (slots_of false (body params gives tree scope line)) refs;
      few = few;
    }
