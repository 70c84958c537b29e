-- Bodies that wait: how many they are, their words, and what they stand for in an area that goes on.
use Rattle.std.proofs.Common.{◌≡◌, ℕ, zero, suc, ◌*◌, ◌≤◌, ℤ, List, [], ◌∷◌, ◌++◌, length, refl, sym, ap, ◌∙◌, arith, length-append}
use Rattle.std.specs.Prelude.{All, sum_by}
use Rattle.std.proofs.lemmas.List.Sums.{sum_by-cons}
use Rattle.joint_ops.specs.ps_outside.Outside.{Outside}
use Rattle.joint_ops.specs.obj_layout.Stored.{Space}
use Rattle.joint_ops.specs.obj_layout.declared.reference.Reference.{Reference}
use Rattle.joint_ops.specs.swizzle.Heap as area
use Rattle.ps_stepping.specs.Config.{Caller, frame_words}
use Rattle.joint_ops.specs.World.{Carries}
use Rattle.machine_core.specs.declared.caller.Caller as in_code
use Rattle.machine_core.specs.Waiting.{IsWaiting, AreWaiting, IsFramed}
use Rattle.machine_core.proofs.RefRows.{row_more}

module _ (here now : area.Heap) (before after : Outside Space) (names more : List Reference) (k : Carries here now before after names more) where
  waiting-more : (of : in_code.Caller) (nums : List ℤ) (refs : List ℕ) (c : Caller) → IsWaiting here before names of nums refs c → IsWaiting now after more of nums refs c
  waiting-more of nums refs c w = record {
    unit_is = k.units of.code c.unit w.unit_is;
    fit = w.fit;
    frame_is = w.frame_is;
    at_is = w.at_is;
    scope_is = k.scopes _ _ w.scope_is;
    nums_are = w.nums_are;
    refs_are = row_more here before names now after more k.values refs of.frame.refs c.refs c.locals.refs w.refs_are;
  }

  -- the bodies wait over an area and a vault that carry what was denoted, too
  pub all-waiting : (callers : List in_code.Caller) (nums : List ℤ) (refs : List ℕ) (cs : List Caller) → AreWaiting here before names callers nums refs cs
      → AreWaiting now after more callers nums refs cs
  all-waiting callers nums refs [] w = w
  all-waiting callers nums refs (c ∷ cs) w =
      let top = w.0 in
      (top, waiting-more top.last top.own_nums top.own_refs c w.1, all-waiting top.below top.low_nums top.low_refs cs w.2)

module _ (here : area.Heap) (outside : Outside Space) (names : List Reference) where
  -- there are as many of them as callers
  pub as-many : (callers : List in_code.Caller) (nums : List ℤ) (refs : List ℕ) (cs : List Caller) → AreWaiting here outside names callers nums refs cs → length cs ≡ length callers
  as-many callers nums refs [] w = sym (ap length w.0)
  as-many callers nums refs (c ∷ cs) w =
      let top = w.0 in
      let below = as-many top.below top.low_nums top.low_refs cs w.2 in
      let long : length callers ≡ length (top.below ++ top.last ∷ []) = ap length top.callers_are in
      omega (arith, below, long, length-append top.below (top.last ∷ []))

-- of two lists that are the same, with one item after each, the items are the same
pub ends-same : {X : Type 0} (xs ys : List X) (x y : X) → xs ++ x ∷ [] ≡ ys ++ y ∷ [] → (xs ≡ ys) × (x ≡ y)
ends-same [] [] x y e = (refl, cc)
ends-same [] (b ∷ ys) x y e = absurd (let long = ap length e in omega (arith, long, length-append ys (y ∷ [])))
ends-same (a ∷ xs) [] x y e = absurd (let long = ap length e in omega (arith, long, length-append xs (x ∷ [])))
ends-same {X} (a ∷ xs) (b ∷ ys) x y e =
    let same : xs ++ x ∷ [] ≡ ys ++ y ∷ [] = cc in
    let rest = ends-same xs ys x y same in
    let first : a ≡ b = cc in
    (ap (λ (z : X). z ∷ xs) first ∙ ap (λ (zs : List X). b ∷ zs) rest.0, rest.1)

-- words that are no more than a frame has are no more than so many frames have
pub sum-within : (f : in_code.Caller → ℕ) → ((w : in_code.Caller) → IsFramed w → f w ≤ frame_words) → (ws : List in_code.Caller) → All IsFramed ws → sum_by f ws ≤ length ws * frame_words
sum-within f low [] all = omega arith
sum-within f low (w ∷ ws) all =
    let one = low w (all zero w (omega arith)) in
    let rest = sum-within f low ws (λ k d below. all (suc k) d (omega arith)) in
    omega (arith, sum_by-cons f w ws, one, rest)
