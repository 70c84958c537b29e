-- What the tests of a table mean: a key stands at one place.
use Rattle.std.proofs.Common.{◌≡◌, ℕ, zero, suc, ◌+◌, ◌<◌, ◌≤◌, cond, Bool, true, false, not, ◌&&◌, ◌||◌, IsTrue, IfSome, nat_eq, List, [], ◌∷◌, length, map, Option, Some, None, refl, ap, ◌∙◌, arith, get_or, slice_get}
use Rattle.std.proofs.lemmas.List.Quantifiers.{position-Some}
use Rattle.std.proofs.lemmas.Option.{slice_get_within, slice_get-get_or, slice_get-map}
use Rattle.std.proofs.lemmas.Bool.{lt-ltb}
use Rattle.std.proofs.lemmas.Bool.Decides.{Decides-eqb}
use Rattle.std.proofs.lemmas.Slice.Eq.{bytes_eq-Decides}
use Rattle.std.specs.Bool.{Decides}
use Rattle.std.specs.Prelude.{◌==◌}
use Rattle.std.specs.Str.{bytes_eq}
use Rattle.std.specs.Option.{option_map}
use Rattle.std.specs.List.{list_any, position_or_len, position}
use Rattle.ps_cases.specs.Table.{all_distinct, codes, names, is_table}
use Rattle.ps_cases.specs.declared.row.Row.{Row}

-- the first place that passes is no later than one that does
first_at_most : {X : Type 0} (p : X → Bool) (xs : List X) (k : ℕ) (x : X) → slice_get xs k ≡ Some x → p x ≡ true → position_or_len p xs ≤ k
first_at_most p [] k x at passes = absurd (cc)
first_at_most p (y ∷ ys) zero x at passes = let e : p y ≡ true = cc in rw e (omega arith)
first_at_most p (y ∷ ys) (suc k) x at passes =
    let rest = first_at_most p ys k x at passes in
    elim (p y) as (λ b. cond (not b) (1 + position_or_len p ys) 0 ≤ suc k) [ true ↦ omega arith | false ↦ omega arith ]

either_false : (a b : Bool) → (a || b) ≡ false → (a ≡ false) × (b ≡ false)
either_false true b e = absurd (cc)
either_false false b e = (refl, e)

but_not : (a b : Bool) → (not a && b) ≡ true → (a ≡ false) × (b ≡ true)
but_not true b e = absurd (cc)
but_not false b e = (refl, e)

-- a test that fails for a whole list fails for each item
none_passes : {X : Type 0} (p : X → Bool) (xs : List X) (k : ℕ) (x : X) → list_any p xs ≡ false → slice_get xs k ≡ Some x → p x ≡ false
none_passes p [] k x none at = absurd (cc)
none_passes p (y ∷ ys) zero x none at = let h = (either_false (p y) (list_any p ys) none).0 in cc
none_passes p (y ∷ ys) (suc k) x none at = none_passes p ys k x (either_false (p y) (list_any p ys) none).1 at

-- equal keys of a list that passes the test stand at one place
pub one_place : {A : Type 0} (eq : A → A → Bool) (xs : List A) (x : A) → eq x x ≡ true → all_distinct eq xs ≡ true → (j k : ℕ) → slice_get xs j ≡ Some x → slice_get xs k ≡ Some x → j ≡ k
one_place eq [] x same distinct j k at_j at_k = absurd (cc)
one_place eq (y ∷ ys) x same distinct zero zero at_j at_k = refl
one_place eq (y ∷ ys) x same distinct zero (suc k) at_j at_k =
    let fails = none_passes (eq y) ys k x (but_not (list_any (eq y) ys) (all_distinct eq ys) distinct).0 at_k in
    let e : y ≡ x = cc in
    absurd (cc)
one_place eq (y ∷ ys) x same distinct (suc j) zero at_j at_k =
    let fails = none_passes (eq y) ys j x (but_not (list_any (eq y) ys) (all_distinct eq ys) distinct).0 at_j in
    let e : y ≡ x = cc in
    absurd (cc)
one_place eq (y ∷ ys) x same distinct (suc j) (suc k) at_j at_k =
    ap suc (one_place eq ys x same (but_not (list_any (eq y) ys) (all_distinct eq ys) distinct).1 j k at_j at_k)

-- where one place alone passes, it is the first that does
position_is : {X : Type 0} (p : X → Bool) (xs : List X) (k : ℕ) (x : X) → slice_get xs k ≡ Some x → p x ≡ true → ((j : ℕ) (y : X) → slice_get xs j ≡ Some y → p y ≡ true → j ≡ k) → position p xs ≡ Some k
position_is p xs k x at passes alone =
    let n = position_or_len p xs in
    let bound = first_at_most p xs k x at passes in
    let inside = slice_get_within xs k x at in
    let less : n < length xs = omega arith in
    let first : position p xs ≡ Some n = ap (λ (b : Bool). cond b (Some n) None) (lt-ltb n (length xs) less) in
    let passes_there = (position-Some p xs n x first).1 in
    let same = alone n (get_or xs n x) (slice_get-get_or xs n x less) passes_there in
    first ∙ ap Some same

-- the row after a key
row_at : {X A : Type 0} (f : X → A) (xs : List X) (k : ℕ) (key : A) → slice_get (map f xs) k ≡ Some key → (x : X) × (slice_get xs k ≡ Some x) × (f x ≡ key)
row_at f [] k key at = absurd (cc)
row_at f (x ∷ xs) zero key at = (x, refl, cc)
row_at f (x ∷ xs) (suc k) key at = row_at f xs k key at

-- the search for a key finds its one place
key_place : {X A : Type 0} (f : X → A) (eq : A → A → Bool) → ((a b : A) → Decides (eq a b) (a ≡ b)) → (xs : List X) (key : A) → all_distinct eq (map f xs) ≡ true → (k : ℕ) → slice_get (map f xs) k ≡ Some key → position (λ x. eq (f x) key) xs ≡ Some k
key_place f eq decides xs key distinct k at =
    let row = row_at f xs k key at in
    let same = (decides key key).1 refl in
    position_is (λ x. eq (f x) key) xs k row.0 row.1 (ap (λ a. eq a key) row.2 ∙ same) (λ j y at_y passes. one_place eq (map f xs) key same distinct j k (slice_get-map f xs j ∙ ap (option_map f) at_y ∙ ap Some ((decides (f y) key).0 passes)) at)

-- and what it finds is a place of that key
key_found : {X A : Type 0} (f : X → A) (eq : A → A → Bool) → ((a b : A) → Decides (eq a b) (a ≡ b)) → (xs : List X) (key : A) (k : ℕ) → position (λ x. eq (f x) key) xs ≡ Some k → slice_get (map f xs) k ≡ Some key
key_found f eq decides [] key k first = absurd (cc)
key_found f eq decides (x ∷ xs) key k first =
    let found = position-Some (λ y. eq (f y) key) (x ∷ xs) k x first in
    let at = slice_get-get_or (x ∷ xs) k x found.0 in
    slice_get-map f (x ∷ xs) k ∙ ap (option_map f) at ∙ ap Some ((decides (f (get_or (x ∷ xs) k x)) key).0 found.1)

both : (a b : Bool) → (a && b) ≡ true → (a ≡ true) × (b ≡ true)
both true b e = (refl, e)
both false b e = absurd (cc)

pub code_place : (rows : List Row) (code k : ℕ) → IsTrue (is_table rows) → slice_get (codes rows) k ≡ Some code → position (λ row. row.code == code) rows ≡ Some k
code_place rows code k table at =
    key_place (λ row. row.code) nat_eq Decides-eqb rows code (both (all_distinct nat_eq (codes rows)) (all_distinct bytes_eq (names rows)) table).0 k at

pub name_place : (rows : List Row) (name : List ℕ) (k : ℕ) → IsTrue (is_table rows) → slice_get (names rows) k ≡ Some name → position (λ row. bytes_eq row.name.now name) rows ≡ Some k
name_place rows name k table at =
    key_place (λ row. row.name.now) bytes_eq bytes_eq-Decides rows name (both (all_distinct nat_eq (codes rows)) (all_distinct bytes_eq (names rows)) table).1 k at

-- what a search finds, if it finds a place
IfSome-from_each : {A : Type 0} {P : A → Type 0} (found : Option A) → ((x : A) → found ≡ Some x → P x) → IfSome found P
IfSome-from_each None each = tt
IfSome-from_each (Some x) each = each x refl

pub code_found : (rows : List Row) (code : ℕ) → IfSome (position (λ row. row.code == code) rows) (λ k. slice_get (codes rows) k ≡ Some code)
code_found rows code = IfSome-from_each _ (λ k first. key_found (λ row. row.code) nat_eq Decides-eqb rows code k first)

pub name_found : (rows : List Row) (name : List ℕ) → IfSome (position (λ row. bytes_eq row.name.now name) rows) (λ k. slice_get (names rows) k ≡ Some name)
name_found rows name = IfSome-from_each _ (λ k first. key_found (λ row. row.name.now) bytes_eq bytes_eq-Decides rows name k first)
