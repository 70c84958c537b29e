-- Where kept names are found, in the scopes around and as scopes are gone into and left.
use Rattle.std.proofs.Common.{◌≡◌, ◌≤◌, ℕ, ◌+◌, ◌-◌, suc, nat_eq, Bool, true, false, if◌then◌else◌, Option, Some, None, List, [], ◌∷◌, ◌++◌, length, refl, sym, ap, ◌∙◌, arith}
use Rattle.std.proofs.lemmas.Bool.Decides.{nat_tests}
use Rattle.ps_program.specs.declared.place.Place.{Place}
use Rattle.ps_program.specs.declared.place.Place.TheVariants.{Plain, Kept}
use Rattle.ps_typing.specs.Mentions.{number_of}
use Rattle.ps_typing.specs.Placing.{Around, Locals, local_of, position, next_position, found_at, place_of}
use Rattle.ps_placer.specs.declared.placer.Placer.{Placer}
use Rattle.ps_placer.specs.declared.placer.Spot.{Spot}
use Rattle.ps_placer.specs.declared.placer.Hidden.{Hidden}
use Rattle.ps_placer.specs.inside.Tables.{value_at}
use Rattle.ps_placer.specs.inside.Standing.{Stands, spot, spot_among, spot_in, found_from, undone}

abbrev IsWithin : Option Spot → ℕ → Type 0
IsWithin None n = Unit {0}
IsWithin (Some s) n = s.scope ≤ n

within_more : (o : Option Spot) (n : ℕ) → IsWithin o n → IsWithin o (suc n)
within_more None n is = tt
within_more (Some s) n is = omega arith

within_among : (scope from n : ℕ) (p : Option ℕ) (outside : Option Spot) → scope ≤ n → IsWithin outside n → IsWithin (spot_among scope from p outside) n
within_among scope from n None outside here is = is
within_among scope from n (Some i) outside here is = here

within : (scopes : List (List ℕ)) (k : ℕ) → IsWithin (spot_in scopes k) (length scopes)
within [] k = tt
within (scope ∷ scopes) k = within_among (length scopes + 1) 0 (suc (length scopes)) (position scope k) (spot_in scopes k) (omega arith) (within_more (spot_in scopes k) (length scopes) (within scopes k))

-- a name that is found there, from a place with so many scopes around, or else has its local
abbrev place_from : List (ℕ × ℕ) → ℕ → ℕ → ℕ → Option Spot → Place
place_from locals k up scopes None = Plain (local_of locals k)
place_from locals k up scopes (Some s) = Kept (up + (scopes - s.scope)) s.position

further_out : (locals : List (ℕ × ℕ)) (k up n : ℕ) (o : Option Spot) → IsWithin o n → place_from locals k (up + 1) n o ≡ place_from locals k up (suc n) o
further_out locals k up n None is = refl
further_out locals k up n (Some s) is = ap (λ d. Kept d s.position) (omega arith)

found_here : (locals : List (ℕ × ℕ)) (k up n : ℕ) (p : Option ℕ) (outside : Place) (o : Option Spot) → outside ≡ place_from locals k up (suc n) o → (elim p as (λ _. Place) [ Some i ↦ Kept up i | None ↦ outside ]) ≡ place_from locals k up (suc n) (spot_among (n + 1) 0 p o)
found_here locals k up n None outside o is = is
found_here locals k up n (Some i) outside o is = let d : up ≡ up + (suc n - (n + 1)) = omega arith in let e : i ≡ 0 + i = omega arith in ap (λ u. Kept u i) d ∙ ap (Kept (up + (suc n - (n + 1)))) e

found_is : (locals : List (ℕ × ℕ)) (k up : ℕ) (scopes : List (List ℕ)) → found_at locals k up scopes ≡ place_from locals k up (length scopes) (spot_in scopes k)
found_is locals k up [] = refl
found_is locals k up (scope ∷ scopes) =
    found_here locals k up (length scopes) (position scope k) (found_at locals k (up + 1) scopes) (spot_in scopes k)
    (found_is locals k (up + 1) scopes ∙ further_out locals k up (length scopes) (spot_in scopes k) (within scopes k))

-- what the placer finds is where the name is kept
pub kept_place : (placer : Placer) (around : Around) (locals : Locals) (place : Place) (s : Spot) (up : ℕ) → Stands placer around locals → Some s ≡ value_at placer.spots (number_of place) → up ≡ placer.scopes - s.scope → Kept up s.position ≡ place_of around locals place
kept_place placer around locals place s up stands s_is up_is =
    let k = number_of place in
    let depth : up ≡ 0 + (length around.scopes - s.scope) = let n = stands.scopes in omega arith in
    ap (λ u. Kept u s.position) depth ∙ ap (place_from locals.of k 0 (length around.scopes)) (s_is ∙ stands.spots k) ∙ sym (found_is locals.of k 0 around.scopes)

pub plain_place : (placer : Placer) (around : Around) (locals : Locals) (place : Place) (slot : ℕ) → Stands placer around locals → None ≡ value_at placer.spots (number_of place) → slot ≡ value_at placer.locals (number_of place) → Plain slot ≡ place_of around locals place
plain_place placer around locals place slot stands s_is slot_is =
    let k = number_of place in
    ap Plain (slot_is ∙ stands.of k) ∙ ap (place_from locals.of k 0 (length around.scopes)) (s_is ∙ stands.spots k) ∙ sym (found_is locals.of k 0 around.scopes)

-- going into a scope, from its last name to its first

next_among : (scope from : ℕ) (p : Option ℕ) (outside : Option Spot) → spot_among scope (from + 1) p outside ≡ spot_among scope from (next_position p) outside
next_among scope from None outside = refl
next_among scope from (Some i) outside = ap (λ n. Some (spot scope n)) (omega arith)

first_among : (scope from : ℕ) (b : Bool) (p : Option ℕ) (outside : Option Spot) → (if b then Some (spot scope from) else spot_among scope (from + 1) p outside) ≡ spot_among scope from (if b then Some 0 else next_position p) outside
first_among scope from true p outside = ap (λ n. Some (spot scope n)) (omega arith)
first_among scope from false p outside = next_among scope from p outside

pub found_one_more : (scope from name : ℕ) (names : List ℕ) (outside now after : Option Spot) (k : ℕ) → after ≡ (if nat_eq name k then Some (spot scope from) else now) → now ≡ found_from scope (from + 1) names outside k → after ≡ found_from scope from (name ∷ names) outside k
found_one_more scope from name names outside now after k after_is now_is =
    after_is ∙ ap (λ o. if nat_eq name k then Some (spot scope from) else o) now_is ∙ first_among scope from (nat_eq name k) (position names k) outside

-- what was hidden

undone_one : (hidden : List Hidden) (it : Hidden) (now : Option Spot) (k : ℕ) → undone (hidden ++ it ∷ []) now k ≡ undone hidden (if nat_eq it.name k then it.spot else now) k
undone_one [] it now k = refl
undone_one (h ∷ hidden) it now k = ap (λ o. if nat_eq h.name k then h.spot else o) (undone_one hidden it now k)

pub hidden_undone : (hidden after : List Hidden) (it : Hidden) (now later before : Option Spot) (k : ℕ) → after ≡ hidden ++ it ∷ [] → undone hidden now k ≡ before → (if nat_eq it.name k then it.spot else later) ≡ now → undone after later k ≡ before
hidden_undone hidden after it now later before k after_is before_is same = ap (λ hs. undone hs later k) after_is ∙ undone_one hidden it later k ∙ ap (λ o. undone hidden o k) same ∙ before_is

pub undone_pop : (hidden after : List Hidden) (it : Hidden) (now later whole : Option Spot) (k : ℕ) → hidden ≡ after ++ it ∷ [] → later ≡ (if nat_eq it.name k then it.spot else now) → undone hidden now k ≡ whole → undone after later k ≡ whole
undone_pop hidden after it now later whole k hidden_is later_is whole_is = ap (λ o. undone after o k) later_is ∙ sym (undone_one after it now k) ∙ ap (λ hs. undone hs now k) (sym hidden_is) ∙ whole_is

-- the value of a name, where it is put back or was not touched
pub same_again : {A : Type 0} (name k : ℕ) (f : ℕ → A) (x later : A) → later ≡ (if nat_eq name k then x else f k) → (if nat_eq name k then f name else later) ≡ f k
same_again {A} name k f x later later_is = go (nat_eq name k) refl later_is where
  go : (b : Bool) → nat_eq name k ≡ b → later ≡ (if b then x else f k) → (if b then f name else later) ≡ f k
  go true is later_is = let same : name ≡ k = grind (arith, nat_tests) in ap f same
  go false is later_is = later_is
