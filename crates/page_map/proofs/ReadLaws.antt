-- Numbers of a map page that are read into a page map one by one.
use Rattle.std.proofs.Common.{◌≡◌, ℕ, ◌+◌, ◌*◌, ◌<◌, Bool, true, false, not, ◌&&◌, ◌||◌, List, [], ◌∷◌, ◌++◌, length, set, refl, sym, ap, ◌∙◌, arith, length-set}
use Rattle.std.specs.Prelude.{◌==◌}
use Rattle.std.specs.List.{list_any}
use Rattle.std.proofs.lemmas.List.Folds.{list_any-append}
use Rattle.page_map.specs.Pages.{is_free, names, without}
use Rattle.page_map.specs.Numbers.{number_at, first_numbers, with_numbers}
use Rattle.page_map.specs.Map.{MapView, with_read, with_staged, with_taken}
use Rattle.page_map.proofs.PageLaws.{and_true, is_free_taken, is_free_where, length_where, names_none, neither, where_from}
use Rattle.page_map.proofs.NumberLaws.{first_numbers_more, first_numbers_none, length_first_numbers, with_none, with_one_more}

or_false : (b : Bool) → (b || false) ≡ b
or_false true = refl
or_false false = refl

names_one_more : (list : List ℕ) (number page : ℕ) → names (list ++ number ∷ []) page ≡ (names list page || (number == page))
unfolding names
names_one_more list number page =
    list_any-append (λ (n : ℕ). n == page) list (number ∷ []) ∙ ap (λ (b : Bool). list_any (λ (n : ℕ). n == page) list || b) (or_false (number == page))

without_none : (free : List Bool) → without free [] ≡ free
without_none free =
    sym (where_from free (length free) (λ page. is_free free page && not (names [] page)) refl (λ page below. rw (names_none page) (sym (and_true (is_free free page)))))

without_one_more : (free : List Bool) (list : List ℕ) (number : ℕ) → set (without free list) number false ≡ without free (list ++ number ∷ [])
without_one_more free list number =
    let test : ℕ → Bool = λ page. is_free free page && not (names list page) in
    where_from (set (without free list) number false) (length free) (λ page. is_free free page && not (names (list ++ number ∷ []) page))
    (length-set (without free list) number false ∙ length_where (length free) test)
    (λ page below. is_free_taken (without free list) number page
    ∙ ap (λ (b : Bool). b && not (number == page)) (is_free_where (length free) test page below)
    ∙ neither (is_free free page) (names list page) (number == page)
    ∙ ap (λ (b : Bool). is_free free page && not b) (sym (names_one_more list number page)))

pub read_none : (map : MapView) (number : ℕ) (bytes : List ℕ) → with_read map number (first_numbers bytes 0) ≡ map
read_none map number bytes =
    ap (λ (numbers : List ℕ). with_read map number numbers) (first_numbers_none bytes)
    ∙ ap (λ (staged : List ℕ). record map { staged = staged; free = without map.free [] }) (with_none map.staged (1024 * number))
    ∙ ap (λ (free : List Bool). record map { free = free }) (without_none map.free)

-- one more number was read
pub read_more : (map : MapView) (number : ℕ) (bytes : List ℕ) (index : ℕ) → 1024 * number + index < length map.staged
    → with_staged (with_taken (with_read map number (first_numbers bytes index)) (number_at bytes index)) (1024 * number + index) (number_at bytes index)
    ≡ with_read map number (first_numbers bytes (index + 1))
read_more map number bytes index below =
    let numbers = first_numbers bytes index in
    let found = number_at bytes index in
    let place = 1024 * number in
    let at : place + index ≡ place + length numbers = omega (arith, length_first_numbers bytes index) in
    ap (λ (staged : List ℕ). record map { staged = staged; free = set (without map.free numbers) found false }) (with_one_more map.staged place numbers found (place + index) at below)
    ∙ ap (λ (free : List Bool). record map { staged = with_numbers map.staged place (numbers ++ found ∷ []); free = free }) (without_one_more map.free numbers found)
    ∙ ap (λ (all : List ℕ). with_read map number all) (sym (first_numbers_more bytes index))
