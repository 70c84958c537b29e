-- The shape of an object, and what is wrong with one.
use Rattle.std.proofs.Common.{inl, inr, ◌≡◌, ◌≢◌, ℕ, length, Bool, true, false, nat_eq, None, refl, sym, ap, ◌∙◌, arith}
use Rattle.std.proofs.lemmas.Bool.{cases_eq}
use Rattle.std.proofs.lemmas.Grind.{common_steps}
use Rattle.heap_places.specs.obj_layout.Kind.{kind_number}
use Rattle.heap_places.specs.obj_layout.Stored.{damage}
use Rattle.heap_places.specs.obj_layout.declared.kind.Kind.{Kind}
use Rattle.heap_places.specs.obj_layout.declared.vault.VaultFault.TheVariants.{Damaged}
use Rattle.heap_places.specs.swizzle.declared.fault.SwizzleFault.{SwizzleFault}
use Rattle.heap_places.specs.swizzle.declared.fault.SwizzleFault.TheVariants.{Vault}
use Rattle.heap_places.specs.swizzle.Heap.{Heap, IsHeap, IsHeld, header_at}
use Rattle.heap_places.specs.swizzle.Joint.{Shown, shown_at}
use Rattle.heap_places.proofs.of_swizzle.NameLaws.{shown-counts}
use Rattle.heap_places.specs.Shapes.{shape_damage}
use Rattle.heap_places.specs.Places.{NamesDamage}
use Rattle.heap_places.proofs.PlaceLaws.{names-damage}

-- The first test that fails.

shape-kind : (it : Shown) (kind : Kind) (refs nums : ℕ) → nat_eq (kind_number it.kind) (kind_number kind) ≡ false
    → shape_damage it kind refs nums ≡ damage (kind_number it.kind) (kind_number kind)
unfolding shape_damage
shape-kind it kind refs nums other = grind (arith, common_steps)

shape-refs : (it : Shown) (kind : Kind) (refs nums : ℕ) → nat_eq (kind_number it.kind) (kind_number kind) ≡ true → length it.refs ≢ refs
    → shape_damage it kind refs nums ≡ damage (length it.refs) refs
unfolding shape_damage
shape-refs it kind refs nums same apart = grind (arith, common_steps)

shape-nums : (it : Shown) (kind : Kind) (refs nums : ℕ) → nat_eq (kind_number it.kind) (kind_number kind) ≡ true → length it.refs ≡ refs
    → length it.nums ≢ nums → shape_damage it kind refs nums ≡ damage (length it.nums) nums
unfolding shape_damage
shape-nums it kind refs nums same equal apart = grind (arith, common_steps)

shape-none : (it : Shown) (kind : Kind) (refs nums : ℕ) → nat_eq (kind_number it.kind) (kind_number kind) ≡ true → length it.refs ≡ refs
    → length it.nums ≡ nums → shape_damage it kind refs nums ≡ None
unfolding shape_damage
shape-none it kind refs nums same equal too = grind (arith, common_steps)

-- its parts, where it has no damage
pub record HasShape (it : Shown) (refs nums : ℕ) : Type 0 where
  pub refs_are : length it.refs ≡ refs
  pub nums_are : length it.nums ≡ nums

shape-other : (it : Shown) (kind : Kind) (refs nums : ℕ) → shape_damage it kind refs nums ≡ None
    → nat_eq (kind_number it.kind) (kind_number kind) ≢ false
shape-other it kind refs nums none other = let no = sym (shape-kind it kind refs nums other) ∙ none in cc

shaped-by : (it : Shown) (kind : Kind) (refs nums : ℕ) → shape_damage it kind refs nums ≡ None
    → nat_eq (kind_number it.kind) (kind_number kind) ≡ true
    → HasShape it refs nums
shaped-by it kind refs nums none same =
    elim (cases_eq (length it.refs) refs) [
      | inl equal ↦ elim (cases_eq (length it.nums) nums) [
        | inl too ↦ record { refs_are = equal; nums_are = too }
        | inr apart ↦ let no = sym (shape-nums it kind refs nums same equal apart) ∙ none in absurd (cc)
      ]
      | inr apart ↦ let no = sym (shape-refs it kind refs nums same apart) ∙ none in absurd (cc)
    ]

pub shaped : (it : Shown) (kind : Kind) (refs nums : ℕ) → shape_damage it kind refs nums ≡ None → HasShape it refs nums
shaped it kind refs nums none = of (nat_eq (kind_number it.kind) (kind_number kind)) refl
  where
    of : (b : Bool) → nat_eq (kind_number it.kind) (kind_number kind) ≡ b → HasShape it refs nums
    of true same = shaped-by it kind refs nums none same
    of false other = absurd (shape-other it kind refs nums none other)

-- The damage that is named.

pub kind-damaged : (heap : Heap) (at : ℕ) (kind : Kind) (refs nums : ℕ) (fault : SwizzleFault)
    → nat_eq (kind_number (header_at heap at).kind) (kind_number kind) ≡ false
    → fault ≡ Vault (Damaged (header_at heap at).pid (kind_number (header_at heap at).kind) (kind_number kind))
    → NamesDamage heap at (shape_damage (shown_at heap at) kind refs nums) fault
kind-damaged heap at kind refs nums fault other named =
    names-damage heap at (shape_damage (shown_at heap at) kind refs nums) (kind_number (header_at heap at).kind) (kind_number kind) fault
    (shape-kind (shown_at heap at) kind refs nums other) named

pub refs-damaged : (heap : Heap) (at : ℕ) (kind : Kind) (refs nums found : ℕ) (fault : SwizzleFault) → IsHeap heap → IsHeld heap at
    → nat_eq (kind_number (header_at heap at).kind) (kind_number kind) ≡ true → found ≡ (header_at heap at).refs → found ≢ refs
    → fault ≡ Vault (Damaged (header_at heap at).pid found refs) → NamesDamage heap at (shape_damage (shown_at heap at) kind refs nums) fault
refs-damaged heap at kind refs nums found fault h held same is apart named =
    let count : length (shown_at heap at).refs ≡ found = (shown-counts heap at h held).0 ∙ sym is in
    names-damage heap at (shape_damage (shown_at heap at) kind refs nums) found refs fault
    (shape-refs (shown_at heap at) kind refs nums same (λ e. apart (sym count ∙ e)) ∙ ap (λ (n : ℕ). damage n refs) count) named

pub nums-damaged : (heap : Heap) (at : ℕ) (kind : Kind) (refs nums equal found : ℕ) (fault : SwizzleFault) → IsHeap heap → IsHeld heap at
    → nat_eq (kind_number (header_at heap at).kind) (kind_number kind) ≡ true → equal ≡ (header_at heap at).refs → equal ≡ refs
    → found ≡ (header_at heap at).nums → found ≢ nums
    → fault ≡ Vault (Damaged (header_at heap at).pid found nums) → NamesDamage heap at (shape_damage (shown_at heap at) kind refs nums) fault
nums-damaged heap at kind refs nums equal found fault h held same there all is apart named =
    let counts = shown-counts heap at h held in
    let count : length (shown_at heap at).nums ≡ found = counts.1 ∙ sym is in
    names-damage heap at (shape_damage (shown_at heap at) kind refs nums) found nums fault
    (shape-nums (shown_at heap at) kind refs nums same (counts.0 ∙ sym there ∙ all) (λ e. apart (sym count ∙ e))
    ∙ ap (λ (n : ℕ). damage n nums) count) named

pub not-damaged : (heap : Heap) (at : ℕ) (kind : Kind) (refs nums equal found : ℕ) → IsHeap heap → IsHeld heap at
    → nat_eq (kind_number (header_at heap at).kind) (kind_number kind) ≡ true → equal ≡ (header_at heap at).refs → equal ≡ refs
    → found ≡ (header_at heap at).nums → found ≡ nums → shape_damage (shown_at heap at) kind refs nums ≡ None
not-damaged heap at kind refs nums equal found h held same there all is too =
    let counts = shown-counts heap at h held in
    shape-none (shown_at heap at) kind refs nums same (counts.0 ∙ sym there ∙ all) (counts.1 ∙ sym is ∙ too)
