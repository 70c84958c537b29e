-- A name is kept where the survey finds it mentioned deeper than it is declared.
use Rattle.std.proofs.Common.{◌≡◌, ℕ, ◌+◌, max, nat_eq, nat_lt, Bool, true, false, ◌&&◌, ◌||◌, Option, Some, None, List, [], ◌∷◌, ◌++◌, map, refl, sym, ap, ◌∙◌, arith, if◌then◌else◌}
use Rattle.std.proofs.lemmas.Bool.Decides.{nat_tests}
use Rattle.ps_program.specs.Node.{BodyNode, body}
use Rattle.ps_typing.specs.Mentions.{Seen, seen, mentions, declarations, numbers, is_mentioned_deeper, kept_of, kept_names, is_among}
use Rattle.ps_placer.specs.inside.Marks.{least, deepest, shallowest, marks_body, is_deeper, is_kept}
use Rattle.ps_placer.proofs.Marking.{append}

lt_max : (a x y : ℕ) → nat_lt a (max x y) ≡ (nat_lt a x || nat_lt a y)
lt_max a x y = grind (arith, nat_tests)

lt_if : (a x : ℕ) (b : Bool) → nat_lt a (if b then 0 + x else 0) ≡ (b && nat_lt a x)
lt_if a x true = grind (arith, nat_tests)
lt_if a x false = grind (arith, nat_tests)

deeper_is : (found : List Seen) (it : Seen) → is_mentioned_deeper found it ≡ nat_lt it.literals (deepest 0 found it.name)
deeper_is [] it = grind (arith, nat_tests)
deeper_is (m ∷ found) it =
    ap (λ b. (nat_eq m.name it.name && nat_lt it.literals m.literals) || b) (deeper_is found it)
    ∙ ap (λ b. b || nat_lt it.literals (deepest 0 found it.name)) (sym (lt_if it.literals m.literals (nat_eq m.name it.name)))
    ∙ sym (lt_max it.literals (if nat_eq m.name it.name then 0 + m.literals else 0) (deepest 0 found it.name))

pub least_deeper : (d : ℕ) (o : Option ℕ) (m : ℕ) → is_deeper (least (Some (0 + d)) o) m ≡ (nat_lt d m || is_deeper o m)
least_deeper d None m = grind (arith, nat_tests)
least_deeper d (Some e) m = grind (arith, nat_tests)

-- one declaration before others

with_least : (e : Bool) (d : ℕ) (o : Option ℕ) (m : ℕ) → is_deeper (least (if e then Some (0 + d) else None) o) m ≡ ((e && nat_lt d m) || is_deeper o m)
with_least true d o m = least_deeper d o m
with_least false d o m = refl

with_name : (b e : Bool) (it k : ℕ) (kept : List ℕ) → nat_eq it k ≡ e → is_among (if b then it ∷ kept else kept) k ≡ ((b && e) || is_among kept k)
with_name true e it k kept is = ap (λ x. x || is_among kept k) is
with_name false e it k kept is = refl

and_true : (b : Bool) → (b && true) ≡ b
and_true true = refl
and_true false = refl

and_false : (b : Bool) → (b && false) ≡ false
and_false true = refl
and_false false = refl

same_test : (found : List Seen) (it : Seen) (k : ℕ) (e : Bool) → nat_eq it.name k ≡ e → (is_mentioned_deeper found it && e) ≡ (e && nat_lt it.literals (deepest 0 found k))
same_test found it k true is =
    let same : it.name ≡ k = grind (arith, nat_tests) in
    and_true (is_mentioned_deeper found it) ∙ deeper_is found it ∙ ap (λ n. nat_lt it.literals (deepest 0 found n)) same
same_test found it k false is = and_false (is_mentioned_deeper found it)

pub kept_is : (found declared : List Seen) (k : ℕ) → is_among (kept_of found declared) k ≡ is_deeper (shallowest 0 declared k) (deepest 0 found k)
kept_is found [] k = refl
kept_is found (it ∷ rest) k =
    let e = nat_eq it.name k in
    let m = deepest 0 found k in
    with_name (is_mentioned_deeper found it) e it.name k (kept_of found rest) refl
    ∙ ap (λ b. b || is_among (kept_of found rest) k) (same_test found it k e refl)
    ∙ ap (λ b. (e && nat_lt it.literals m) || b) (kept_is found rest k)
    ∙ sym (with_least e it.literals (shallowest 0 rest k) m)

-- the names that a program keeps are those that its survey finds kept
pub kept_names_is : (program : BodyNode) (k : ℕ) → is_kept (marks_body 0 program) k ≡ is_among (kept_names program) k
kept_names_is (body params gives tree scope line) k =
    let named = map (λ k. seen k 0) (numbers params) in
    ap (λ it. is_kept it k) (sym (append 0 [] (mentions tree) named (declarations tree))) ∙ sym (kept_is (mentions tree) (named ++ declarations tree) k)
