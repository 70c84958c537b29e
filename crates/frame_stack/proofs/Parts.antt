-- Words of bodies that lie one after the other, parted at the first word of the one that runs.
use Rattle.std.proofs.Common.{◌≡◌, ℕ, ◌+◌, ◌-◌, ◌≤◌, List, ◌++◌, length, take, drop, sym, ap, ◌∙◌, arith}
use Rattle.std.proofs.Math.Seq.{take-add}
use Rattle.std.proofs.lemmas.List.{drop-take, take-take, take-append-le, length-take-le, length-drop}

-- the words of the last body that waited, but for some on top
pub closed : {W : Type 0} (xs : List W) (first count dead : ℕ) → dead ≤ count → count ≤ first → first ≤ length xs
    → drop (first - count) (take (first - dead) xs) ≡ take (count - dead) (drop (length (take first xs) - count) (take first xs))
closed {W} xs first count dead few many fits =
    let low = first - count in
    let long : length (take first xs) ≡ first = length-take-le first xs fits in
    ap (λ (n : ℕ). drop low (take n xs)) (omega (arith, few, many))
    ∙ drop-take low (count - dead) xs
    ∙ sym (take-take (count - dead) count (drop low xs) (omega arith))
    ∙ ap (λ (ys : List W). take (count - dead) ys) (sym (drop-take low count xs) ∙ ap (λ (n : ℕ). drop low (take n xs)) (omega (arith, many)))
    ∙ ap (λ (n : ℕ). take (count - dead) (drop n (take first xs))) (omega (arith, long))

-- the words below some on top of the last body, with others after
pub opened : {W : Type 0} (xs more filled : List W) (n first args : ℕ) → filled ≡ xs ++ more → n ≡ length xs → first + args ≤ length xs
    → take (n - args) filled ≡ take first xs ++ take (length (drop first xs) - args) (drop first xs)
opened {W} xs more filled n first args is count fits =
    let long : length (drop first xs) ≡ length xs - first = length-drop first xs in
    ap (λ (ys : List W). take (n - args) ys) is
    ∙ ap (λ (k : ℕ). take (k - args) (xs ++ more)) count
    ∙ take-append-le (length xs - args) xs more (omega arith)
    ∙ ap (λ (k : ℕ). take k xs) (omega (arith, fits, long))
    ∙ take-add first (length (drop first xs) - args) xs
