-- Values of fields, as they lie in two rows, and as they are laid out of those.
use Rattle.std.proofs.Common.{◌≡◌, ℕ, zero, suc, ℤ, List, [], ◌∷◌, length, Option, refl, sym, ap, subst, arith}
use Rattle.std.specs.Prelude.{All}
use Rattle.std.proofs.lemmas.List.Elements.{All-head, All-tail}
use Rattle.machine_core.specs.ps_outside.Outside.{Outside}
use Rattle.machine_core.specs.obj_layout.Stored.{Space}
use Rattle.machine_core.specs.obj_layout.declared.reference.Reference.{Reference}
use Rattle.machine_core.specs.swizzle.Heap as area
use Rattle.machine_core.specs.swizzle.Heap.{IsHeld}
use Rattle.machine_core.specs.text_forms.declared.forms.Form.{Form}
use Rattle.machine_core.specs.text_forms.declared.forms.Form.TheVariants as form
use Rattle.machine_core.specs.text_forms.Forms.{rows_of}
use Rattle.machine_core.specs.heap_places.Filling.{AreNear}
use Rattle.machine_core.specs.heap_places.Places.{IsNear}
use Rattle.machine_core.specs.heap_places.declared.value.Value as code
use Rattle.machine_core.specs.heap_places.declared.value.Value.TheVariants as held
use Rattle.machine_core.specs.ps_heap.Values.{Value, Num, Flag, is_one}
use Rattle.machine_core.specs.joint_ops.World.{DenotesIn, IsForIn, IsOfForm}
use Rattle.machine_core.specs.joint_ops.Operands.{AreForIn}
use Rattle.machine_core.specs.objects.Makes.{AreRowsFor}
use Rattle.machine_core.specs.objects.structure_rows.Rows as rows
use Rattle.machine_core.specs.objects.structure_rows.Rows.{named}
use Rattle.machine_core.specs.Naming.{IsNamed}
use Rattle.machine_core.specs.Rows.{AreDenoted, object_in}
use Rattle.machine_structures.specs.inside.Making.{AreLaid}
use Rattle.machine_structures.proofs.FieldPops.{means}

-- a word names the same on the stack and in a row
same-object : (w : ℕ) → object_in w ≡ rows.object_in w
same-object zero = refl
same-object (suc w) = refl

module _ (here : area.Heap) (outside : Outside Space) (names : List Reference) where
  -- the two rows stand for the values of the fields
  pub rows-for : (fs : List Form) (zs : List ℤ) (ws : List ℕ) (vs : List Value) → AreDenoted here outside names ws vs → (rows_of fs).nums ≡ length zs
      → (rows_of fs).refs ≡ length ws → AreRowsFor here outside names fs zs ws (means fs zs vs)
  unfolding rows_of
  rows-for [] [] [] vs are n r = tt
  rows-for [] (z ∷ zs) ws vs are n r = absurd (omega (arith, n))
  rows-for [] [] (w ∷ ws) vs are n r = absurd (omega (arith, r))
  rows-for (form.Reference ∷ fs) zs (w ∷ ws) (v ∷ vs) are n r =
      (subst (λ (to : Option ℕ). DenotesIn here outside names to v) (same-object w) are.0, rows-for fs zs ws vs are.1 n (omega (arith, r)))
  rows-for (form.Reference ∷ fs) zs (w ∷ ws) [] are n r = absurd are
  rows-for (form.Reference ∷ fs) zs [] vs are n r = absurd (omega (arith, r))
  rows-for (form.Number ∷ fs) (z ∷ zs) ws vs are n r = (refl, rows-for fs zs ws vs are (omega (arith, n)) r)
  rows-for (form.Number ∷ fs) [] ws vs are n r = absurd (omega (arith, n))
  rows-for (form.Flag ∷ fs) (z ∷ zs) ws vs are n r = (refl, rows-for fs zs ws vs are (omega (arith, n)) r)
  rows-for (form.Flag ∷ fs) [] ws vs are n r = absurd (omega (arith, n))

  -- and what was laid out of them denotes those
  pub laid-for : (fs : List Form) (zs : List ℤ) (ws : List ℕ) (ks : List code.Value) (vs : List Value) → AreLaid fs zs ws ks
      → AreDenoted here outside names ws vs → AreForIn here outside names fs ks (means fs zs vs)
  laid-for [] [] [] [] vs laid are = tt
  laid-for [] [] [] (k ∷ ks) vs laid are = absurd laid
  laid-for [] [] (w ∷ ws) ks vs laid are = absurd laid
  laid-for [] (z ∷ zs) ws ks vs laid are = absurd laid
  laid-for (form.Number ∷ fs) (z ∷ zs) ws (k ∷ ks) vs laid are = (
    subst (λ (x : code.Value). IsOfForm form.Number x) (sym laid.1) laid.0,
    subst (λ (x : code.Value). IsForIn here outside names x (Num z)) (sym laid.1) refl,
    laid-for fs zs ws ks vs laid.2 are,
  )
  laid-for (form.Number ∷ fs) (z ∷ zs) ws [] vs laid are = absurd laid
  laid-for (form.Number ∷ fs) [] ws ks vs laid are = absurd laid
  laid-for (form.Flag ∷ fs) (z ∷ zs) ws (k ∷ ks) vs laid are = (
    subst (λ (x : code.Value). IsOfForm form.Flag x) (sym laid.0) tt,
    subst (λ (x : code.Value). IsForIn here outside names x (Flag (is_one z))) (sym laid.0) refl,
    laid-for fs zs ws ks vs laid.1 are,
  )
  laid-for (form.Flag ∷ fs) (z ∷ zs) ws [] vs laid are = absurd laid
  laid-for (form.Flag ∷ fs) [] ws ks vs laid are = absurd laid
  laid-for (form.Reference ∷ fs) zs (w ∷ ws) (k ∷ ks) (v ∷ vs) laid are = (
    subst (λ (x : code.Value). IsOfForm form.Reference x) (sym laid.0) tt,
    subst (λ (x : code.Value). IsForIn here outside names x v) (sym laid.0) are.0,
    laid-for fs zs ws ks vs laid.1 are.1,
  )
  laid-for (form.Reference ∷ fs) zs (w ∷ ws) (k ∷ ks) [] laid are = absurd are
  laid-for (form.Reference ∷ fs) zs (w ∷ ws) [] vs laid are = absurd laid
  laid-for (form.Reference ∷ fs) zs [] ks vs laid are = absurd laid

  pub denoted-long : (ws : List ℕ) (vs : List Value) → AreDenoted here outside names ws vs → length ws ≡ length vs
  denoted-long [] [] are = refl
  denoted-long (w ∷ ws) (v ∷ vs) are = ap suc (denoted-long ws vs are.1)
  denoted-long [] (v ∷ vs) are = absurd are
  denoted-long (w ∷ ws) [] are = absurd are

-- What the words name lies in the area.

word-near : (here : area.Heap) (w : ℕ) → IsNamed here w → IsNear here (held.Ref (object_in w))
word-near here zero there = tt
word-near here (suc w) there = there

pub near-named : (here : area.Heap) (ws : List ℕ) → All (λ word. IsNamed here word) ws → AreNear here (named ws)
near-named here [] all = tt
near-named here (w ∷ ws) all = (
  subst (λ (to : Option ℕ). IsNear here (held.Ref to)) (same-object w) (word-near here w (All-head (λ word. IsNamed here word) w ws all)),
  near-named here ws (All-tail (λ word. IsNamed here word) w ws all),
)

pub near-laid : (here : area.Heap) (fs : List Form) (zs : List ℤ) (ws : List ℕ) (ks : List code.Value) → AreLaid fs zs ws ks
    → All (λ word. IsNamed here word) ws → AreNear here ks
near-laid here [] [] [] [] laid all = tt
near-laid here [] [] [] (k ∷ ks) laid all = absurd laid
near-laid here [] [] (w ∷ ws) ks laid all = absurd laid
near-laid here [] (z ∷ zs) ws ks laid all = absurd laid
near-laid here (form.Number ∷ fs) (z ∷ zs) ws (k ∷ ks) laid all =
    (subst (IsNear here) (sym laid.1) tt, near-laid here fs zs ws ks laid.2 all)
near-laid here (form.Number ∷ fs) (z ∷ zs) ws [] laid all = absurd laid
near-laid here (form.Number ∷ fs) [] ws ks laid all = absurd laid
near-laid here (form.Flag ∷ fs) (z ∷ zs) ws (k ∷ ks) laid all =
    (subst (IsNear here) (sym laid.0) tt, near-laid here fs zs ws ks laid.1 all)
near-laid here (form.Flag ∷ fs) (z ∷ zs) ws [] laid all = absurd laid
near-laid here (form.Flag ∷ fs) [] ws ks laid all = absurd laid
near-laid here (form.Reference ∷ fs) zs (w ∷ ws) (k ∷ ks) laid all = (
  subst (IsNear here) (sym laid.0) (word-near here w (All-head (λ word. IsNamed here word) w ws all)),
  near-laid here fs zs ws ks laid.1 (All-tail (λ word. IsNamed here word) w ws all),
)
near-laid here (form.Reference ∷ fs) zs (w ∷ ws) [] laid all = absurd laid
near-laid here (form.Reference ∷ fs) zs [] ks laid all = absurd laid
