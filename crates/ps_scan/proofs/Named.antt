-- What a name found among names is.
use Rattle.std.proofs.Common.{◌≡◌, ℕ, zero, suc, ◌+◌, ◌==◌, ◌<◌, ◌≤◌, cond, Bool, true, false, not, ◌||◌, IfSome, List, [], ◌∷◌, length, Option, Some, None, refl, sym, ap, ◌∙◌, arith, slice_get, get_or}
use Rattle.std.specs.List.{list_any, position_or_len}
use Rattle.std.specs.Str.{bytes_eq}
use Rattle.std.proofs.lemmas.List.Quantifiers.{position-Some}
use Rattle.std.proofs.lemmas.Bool.{lt-ltb}
use Rattle.std.proofs.lemmas.Option.{slice_get_within, slice_get-get_or}
use Rattle.std.proofs.lemmas.Slice.Eq.{bytes_eq-Decides}
use Rattle.ps_cases.specs.Table.{all_distinct}
use Rattle.ps_cases.proofs.Distinct.{one_place}
use Rattle.ps_scan.specs.Names.{place_among, marks, mark_place}

either_false : (a b : Bool) → (a || b) ≡ false → (a ≡ false) × (b ≡ false)
either_false true b e = absurd (cc)
either_false false b e = (refl, e)

-- a test that no name passes
none_passes : (test : List ℕ → Bool) (xs : List (List ℕ)) (k : ℕ) (x : List ℕ) → list_any test xs ≡ false → slice_get xs k ≡ Some x → test x ≡ false
none_passes test [] k x none at = absurd (cc)
none_passes test (y ∷ ys) zero x none at = let h = (either_false (test y) (list_any test ys) none).0 in cc
none_passes test (y ∷ ys) (suc k) x none at = none_passes test ys k x (either_false (test y) (list_any test ys) none).1 at

-- the name stands at its place
pub named_at : (names : List (List ℕ)) (name : List ℕ) (place : ℕ) → place_among names name ≡ Some place → slice_get names place ≡ Some name
named_at [] name place found = absurd (cc)
named_at (first ∷ names) name place found =
    let there = position-Some (λ other. bytes_eq other name) (first ∷ names) place name found in
    slice_get-get_or (first ∷ names) place name there.0 ∙ ap Some ((bytes_eq-Decides (get_or (first ∷ names) place name) name).0 there.1)

pub named_fails : (test : List ℕ → Bool) (names : List (List ℕ)) (name : List ℕ) (place : ℕ) → list_any test names ≡ false → place_among names name ≡ Some place → test name ≡ false
named_fails test names name place none found = none_passes test names place name none (named_at names name place found)

-- the first place that passes is no later than one that does
first_at_most : (p : List ℕ → Bool) (xs : List (List ℕ)) (k : ℕ) (x : List ℕ) → slice_get xs k ≡ Some x → p x ≡ true → position_or_len p xs ≤ k
first_at_most p [] k x at passes = absurd (cc)
first_at_most p (y ∷ ys) zero x at passes = let e : p y ≡ true = cc in rw e (omega arith)
first_at_most p (y ∷ ys) (suc k) x at passes =
    let rest = first_at_most p ys k x at passes in
    elim (p y) as (λ b. cond (not b) (1 + position_or_len p ys) 0 ≤ suc k) [ true ↦ omega arith | false ↦ omega arith ]

-- among names that are told apart, the place where a name stands is its place
pub place_is : (names : List (List ℕ)) (name : List ℕ) (k : ℕ) → all_distinct bytes_eq names ≡ true → slice_get names k ≡ Some name → place_among names name ≡ Some k
place_is names name k distinct at =
    let p : List ℕ → Bool = λ other. bytes_eq other name in
    let n = position_or_len p names in
    let same = (bytes_eq-Decides name name).1 refl in
    let bound = first_at_most p names k name at same in
    let inside = slice_get_within names k name at in
    let less : n < length names = omega arith in
    let first : place_among names name ≡ Some n = ap (λ (b : Bool). cond b (Some n) None) (lt-ltb n (length names) less) in
    first ∙ ap Some (one_place bytes_eq names name same distinct n k (named_at names name n first) at)

-- the search that finds each name where it stands answers the place
pub found_is : (names : List (List ℕ)) (name : List ℕ) (found place : Option ℕ) → all_distinct bytes_eq names ≡ true → IfSome found (λ k. slice_get names k ≡ Some name) → ((k : ℕ) → slice_get names k ≡ Some name → found ≡ Some k) → place_among names name ≡ place → found ≡ place
found_is names name (Some k) place distinct there only is = sym (place_is names name k distinct there) ∙ is
found_is names name None (Some k) distinct there only is = only k (named_at names name k is)
found_is names name None None distinct there only is = refl

pub found_within : (names : List (List ℕ)) (name : List ℕ) (found : Option ℕ) → IfSome found (λ k. slice_get names k ≡ Some name) → IfSome found (λ k. k < length names)
found_within names name (Some k) there = slice_get_within names k name there
found_within names name None there = tt

-- no mark has a newline
pub mark_without_newline : (name : List ℕ) (place : ℕ) → mark_place name ≡ Some place → list_any (λ byte. byte == 10) name ≡ false
mark_without_newline name place found = named_fails (list_any (λ byte. byte == 10)) marks name place refl found

pub second_other : (first second place : ℕ) → mark_place (first ∷ second ∷ []) ≡ Some place → (second == 10) ≡ false
second_other first second place found =
    let rest = either_false (first == 10) (list_any (λ byte. byte == 10) (second ∷ [])) (mark_without_newline (first ∷ second ∷ []) place found) in
    (either_false (second == 10) false rest.1).0
