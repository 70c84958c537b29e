-- Spellings one after the other, and bytes written over others.
use Rattle.std.proofs.Common.{◌≡◌, ℕ, ◌+◌, List, [], ◌∷◌, ◌++◌, length, take, drop, refl, sym, ap, ◌∙◌, arith, append_assoc, length-append}
use Rattle.std.proofs.lemmas.List.{take_at, drop_at, append-nil}
use Rattle.std.specs.List.{AllByRecursion}
use Rattle.ps_base.specs.declared.instr.Instr.{Instr}
use Rattle.ps_base.specs.Instr.{spelled, spelling}
use Rattle.ps_emitter.specs.Pieces.{over, filled}

pub spelled-append : (xs ys : List Instr) → spelled (xs ++ ys) ≡ spelled xs ++ spelled ys
spelled-append [] ys = refl
spelled-append (x ∷ []) [] = sym (append-nil (spelling x))
spelled-append (x ∷ []) (y ∷ ys) = refl
spelled-append (x ∷ x2 ∷ xs) ys = ap (λ z. spelling x ++ z) (spelled-append (x2 ∷ xs) ys) ∙ sym (append_assoc (spelling x) (spelled (x2 ∷ xs)) (spelled ys))

-- what holds of each element of two lists holds of each of both
pub all-append : {A : Type 0} (P : A → Type 0) (xs ys : List A) → AllByRecursion P xs → AllByRecursion P ys → AllByRecursion P (xs ++ ys)
all-append P [] ys are and = and
all-append P (x ∷ xs) ys are and = (are.0, all-append P xs ys are.1 and)

pub over_at : (at : ℕ) (pre old new post : List ℕ) → length pre ≡ at → length old ≡ length new → over at new (pre ++ (old ++ post)) ≡ pre ++ (new ++ post)
over_at at pre old new post long same =
    let rest = old ++ post in
    let whole : pre ++ rest ≡ (pre ++ old) ++ post = sym (append_assoc pre old post) in
    ap (λ z. (z ++ new) ++ drop (at + length new) (pre ++ rest)) (take_at pre rest at long)
    ∙ ap (λ z. (pre ++ new) ++ drop (at + length new) z) whole
    ∙ ap (λ z. (pre ++ new) ++ z) (drop_at (pre ++ old) post (at + length new) (omega (arith, length-append pre old)))
    ∙ append_assoc pre new post

pub filled-append : (bytes holes others code : List ℕ) → filled bytes (holes ++ others) code ≡ filled bytes others (filled bytes holes code)
filled-append bytes [] others code = refl
filled-append bytes (hole ∷ holes) others code = filled-append bytes holes others (over hole bytes code)

-- what a buffer has at its start
pub front_is : (new front old : List ℕ) (n : ℕ) → new ≡ front ++ drop n old → n ≡ length front → take n new ≡ front
front_is new front old n whole long = ap (take n) whole ∙ take_at front (drop n old) n (sym long)
