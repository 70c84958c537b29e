-- The way out is one.
use Rattle.std.proofs.Common.{◌≡◌, List, [], ◌∷◌, length, refl, sym, ap, ◌∙◌, subst, arith}
use Rattle.closures.specs.obj_layout.declared.reference.Reference.{Reference}
use Rattle.closures.specs.swizzle.Joint.{Shown}
use Rattle.closures.specs.heap_places.Shapes.{slot_of}
use Rattle.scopes.specs.Way.{LeadsOver}

pub one-way : (seen : Reference → Shown → Type 0) (name : Reference) (a b : List Reference)
    → ((n : Reference) (x y : Shown) → seen n x → seen n y → x ≡ y) → LeadsOver seen name a → LeadsOver seen name b → length a ≡ length b → a ≡ b
one-way seen name [] [] one p q long = refl
one-way seen name [] (y ∷ ys) one p q long = absurd (omega arith)
one-way seen name (x ∷ xs) [] one p q long = absurd (omega arith)
one-way seen name (x ∷ xs) (y ∷ ys) one p q long =
    let it : p.0.it ≡ q.0.it = one name p.0.it q.0.it p.0.there q.0.there in
    let same : x ≡ y = sym p.0.parent_is ∙ ap (λ (i : Shown). slot_of i 1) it ∙ q.0.parent_is in
    let rest : LeadsOver seen x ys = subst (λ (n : Reference). LeadsOver seen n ys) (sym same) q.1 in
    ap (λ (n : Reference). n ∷ xs) same ∙ ap (λ (l : List Reference). y ∷ l) (one-way seen x xs ys one p.1 rest (omega (arith, long)))
