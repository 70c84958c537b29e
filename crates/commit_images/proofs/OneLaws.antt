-- The list of one object, where it is to be stored and where it isn't.
use Rattle.std.proofs.Common.{◌≡◌, ◌⊎◌, ℕ, ◌+◌, ◌<◌, ◌≤◌, Bool, true, false, List, [], ◌∷◌, ◌++◌, length, take, drop, get_or, refl, sym, ap, ◌∙◌, subst, cond, arith, inl, inr}
use mir.Val.{bool_byte}
use Rattle.std.proofs.lemmas.Bool.{false≢true}
use Rattle.std.proofs.lemmas.List.{take_more, take_all, take-append-drop}
use Rattle.std.proofs.lemmas.List.Elements.{filter-append}
use Rattle.std.specs.Prelude.{filter}
use Rattle.swizzle.specs.Heap.{Heap}
use Rattle.swizzle.specs.Image.{HasPids}
use Rattle.reaching.specs.Reaching.{IsIn}
use Rattle.commit_images.specs.Staging.{AreReady}

pub none-of : (test : ℕ → Bool) (x : ℕ) → test x ≡ false → filter test (x ∷ []) ≡ []
none-of test x e = ap (λ b. cond b (x ∷ []) []) e

pub one-of : (test : ℕ → Bool) (x : ℕ) → test x ≡ true → filter test (x ∷ []) ≡ x ∷ []
one-of test x e = ap (λ b. cond b (x ∷ []) []) e

pub one-ready : (heap : Heap) (test : ℕ → Bool) (x : ℕ) → test x ≡ true → AreReady heap (filter test (x ∷ [])) → HasPids heap x
one-ready heap test x e ready = let r : AreReady heap (x ∷ []) = subst (AreReady heap) (one-of test x e) ready in (r x (inl refl)).1

pub in-filter : (test : ℕ → Bool) (xs : List ℕ) (x : ℕ) → IsIn x xs → test x ≡ true → IsIn x (filter test xs)
in-filter test [] x none e = absurd none
in-filter test (y ∷ ys) x m e = by (test y) refl (elim m [ inl same ↦ inl same | inr k ↦ inr (in-filter test ys x k e) ])
  where
    by : (b : Bool) → test y ≡ b → (x ≡ y) ⊎ IsIn x (filter test ys) → IsIn x (cond (test y) (y ∷ filter test ys) (filter test ys))
    by true is r = subst (λ b. IsIn x (cond b (y ∷ filter test ys) (filter test ys))) (sym is) r
    by false is (inl same) = absurd (false≢true (sym is ∙ (ap test (sym same) ∙ e)))
    by false is (inr k) = subst (λ b. IsIn x (cond b (y ∷ filter test ys) (filter test ys))) (sym is) k

pub filter-in : (test : ℕ → Bool) (xs : List ℕ) (x : ℕ) → IsIn x (filter test xs) → IsIn x xs × (test x ≡ true)
filter-in test [] x none = absurd none
filter-in test (y ∷ ys) x m = by (test y) refl m (λ k. filter-in test ys x k)
  where
    by : (b : Bool) → test y ≡ b → IsIn x (cond (test y) (y ∷ filter test ys) (filter test ys)) → (IsIn x (filter test ys) → IsIn x ys × (test x ≡ true)) → IsIn x (y ∷ ys) × (test x ≡ true)
    by true is k rest =
        let r : (x ≡ y) ⊎ IsIn x (filter test ys) = subst (λ b. IsIn x (cond b (y ∷ filter test ys) (filter test ys))) is k in
        elim r [ inl same ↦ (inl same, ap test same ∙ is) | inr l ↦ (inr (rest l).0, (rest l).1) ]
    by false is k rest = let r = rest (subst (λ b. IsIn x (cond b (y ∷ filter test ys) (filter test ys))) is k) in (inr r.0, r.1)

pub one-ready-at : (heap : Heap) (test : ℕ → Bool) (xs : List ℕ) (x : ℕ) → IsIn x xs → AreReady heap (filter test xs) → AreReady heap (filter test (x ∷ []))
one-ready-at heap test xs x m ready = λ y k.
    let r = filter-in test (x ∷ []) y k in
    let same : y ≡ x = elim r.0 [ inl e ↦ e | inr none ↦ absurd none ] in
    ready y (in-filter test xs y (subst (λ z. IsIn z xs) (sym same) m) r.1)

-- the objects before a place of the list, this one, and those behind it
pub record Parts (test : ℕ → Bool) (xs : List ℕ) (place : ℕ) : Type 0 where
  pub rest : List ℕ
  pub next : filter test (take (place + 1) xs) ≡ filter test (take place xs) ++ filter test (get_or xs place 0 ∷ [])
  pub whole : filter test xs ≡ (filter test (take place xs) ++ filter test (get_or xs place 0 ∷ [])) ++ rest

pub parts : (test : ℕ → Bool) (xs : List ℕ) (place : ℕ) → place < length xs → Parts test xs place
parts test xs place below =
    let next : filter test (take (place + 1) xs) ≡ filter test (take place xs) ++ filter test (get_or xs place 0 ∷ []) =
    ap (filter test) (take_more xs place 0 below) ∙ filter-append test (take place xs) (get_or xs place 0 ∷ []) in
    record {
      rest = filter test (drop (place + 1) xs);
      next = next;
      whole = ap (filter test) (sym (take-append-drop (place + 1) xs)) ∙ (filter-append test (take (place + 1) xs) (drop (place + 1) xs) ∙ ap (λ (r : List ℕ). r ++ filter test (drop (place + 1) xs)) next);
    }

pub all-of : (test : ℕ → Bool) (xs : List ℕ) (place : ℕ) → length xs ≤ place → filter test (take place xs) ≡ filter test xs
all-of test xs place end = ap (filter test) (take_all place xs end)

-- how many of one object are to be stored
pub one-count : (test : ℕ → Bool) (x : ℕ) (b : Bool) → b ≡ test x → length (filter test (x ∷ [])) ≡ bool_byte b
one-count test x true e = ap length (one-of test x (sym e))
one-count test x false e = ap length (none-of test x (sym e))

pub one-few : (b : Bool) → bool_byte b ≤ 1
one-few true = omega arith
one-few false = omega arith
