-- The slots of a code object, as they are made to refer to its constants one after the other.
use Rattle.std.proofs.Common.{inl, inr, Some, ◌≡◌, ℕ, suc, ◌+◌, ◌-◌, ◌^◌, ◌<◌, ◌≤◌, List, [], ◌∷◌, ◌++◌, length, drop, get_or, set, refl, sym, ap, ◌∙◌, subst, arith, append_assoc, length-append, drop-cons}
use Rattle.std.proofs.lemmas.Bool.{cases_eq}
use Rattle.std.proofs.lemmas.List.{append-nil, drop_all, get_or-append-add, set-append_right}
use Rattle.ps_base.specs.CodeUnit.{ConstantView, ConstantsView, constant_then, constant_view, constants_view}
use Rattle.ps_base.specs.declared.code_unit.Constant.{Constant}
use Rattle.heap_texts.specs.obj_layout.declared.reference.Reference.{Reference}
use Rattle.heap_texts.specs.obj_layout.declared.reference.Reference.TheVariants.{Nil, Local}
use Rattle.heap_texts.specs.swizzle.Objects.{Object, size_of, find_from, replace_from}
use Rattle.heap_texts.specs.swizzle.Heap.{Heap, IsHeap, IsHeld, object_at, header_at, with_object, with_ref}
use Rattle.heap_texts.proofs.of_swizzle.ObjectLaws.{here, elsewhere, split}
use Rattle.heap_texts.proofs.of_swizzle.HeapLaws.{held-replaced, first_is, behind_is}
use Rattle.heap_texts.proofs.of_swizzle.KeptLaws.{held_is}
use Rattle.heap_texts.proofs.of_swizzle.JointLaws.{object-replaced}
use Rattle.proc_values.specs.Units.{constants_places, constant_place, constant_words}
use Rattle.proc_values.specs.inside.Loading.{AreHeld}
use Rattle.proc_values.proofs.UnitLaws.{constants_from}

abbrev pub with_refs : Object → List Reference → Object
with_refs o refs = record o { refs = refs }

-- These slots refer to the constants before this one, and the others are as they were.
pub record Linked (old new : Heap) (code : ℕ) (all : List Reference) (at slot : ℕ) (rest : ConstantsView) : Type 0 where
  pub done : List Reference
  pub linked : new ≡ with_object old code (with_refs (object_at old code) (done ++ drop slot (object_at old code).refs))
  pub all_is : all ≡ done ++ constants_places at rest
  pub slot_is : slot ≡ length done

replace-twice : (at : ℕ) (os : List Object) (i : ℕ) (o new : Object) → replace_from at (replace_from at os i o) i new ≡ replace_from at os i new
replace-twice at [] i o new = refl
replace-twice at (p ∷ os) i o new =
    elim (cases_eq i at) [
      | inl same ↦
          ap (λ (r : List Object). replace_from at r i new) (here i at (o ∷ os) (p ∷ replace_from (at + size_of p) os i o) same)
          ∙ here i at (new ∷ os) (o ∷ replace_from (at + size_of o) os i new) same
          ∙ sym (here i at (new ∷ os) (p ∷ replace_from (at + size_of p) os i new) same)
      | inr apart ↦
          ap (λ (r : List Object). replace_from at r i new) (elsewhere i at (o ∷ os) (p ∷ replace_from (at + size_of p) os i o) apart)
          ∙ elsewhere i at (new ∷ replace_from (at + size_of p) os i o) (p ∷ replace_from (at + size_of p) (replace_from (at + size_of p) os i o) i new) apart
          ∙ ap (λ (r : List Object). p ∷ r) (replace-twice (at + size_of p) os i o new)
          ∙ sym (elsewhere i at (new ∷ os) (p ∷ replace_from (at + size_of p) os i new) apart)
    ]

with-twice : (heap : Heap) (at : ℕ) (o new : Object) → with_object (with_object heap at o) at new ≡ with_object heap at new
with-twice heap at o new = ap (λ (os : List Object). record heap { objects = os }) (replace-twice 1 heap.objects at o new)

-- an object has as many references as its header counts
pub refs-long : (heap : Heap) (at : ℕ) → IsHeap heap → IsHeld heap at → length (object_at heap at).refs ≡ (header_at heap at).refs
refs-long heap at h held = (split 1 heap.objects at (object_at heap at) h.fit (held_is heap at held)).fit.refs

pub refs-few : (heap : Heap) (at : ℕ) → IsHeap heap → IsHeld heap at → (header_at heap at).refs < 2 ^ 32
refs-few heap at h held = (split 1 heap.objects at (object_at heap at) h.fit (held_is heap at held)).fit.fields.refs

replace-same : (at : ℕ) (os : List Object) (i : ℕ) (o : Object) → find_from at os i ≡ Some o → replace_from at os i o ≡ os
replace-same at [] i o e = refl
replace-same at (p ∷ os) i o e =
    elim (cases_eq i at) [
      | inl same ↦ here i at (o ∷ os) (p ∷ replace_from (at + size_of p) os i o) same ∙ ap (λ (x : Object). x ∷ os) (sym (first_is at p os i o e same))
      | inr apart ↦
          elsewhere i at (o ∷ os) (p ∷ replace_from (at + size_of p) os i o) apart
          ∙ ap (λ (r : List Object). p ∷ r) (replace-same (at + size_of p) os i o (behind_is at p os i o e apart))
    ]

same-refs : (heap : Heap) (at : ℕ) (refs : List Reference) → IsHeld heap at → refs ≡ (object_at heap at).refs
    → heap ≡ with_object heap at (with_refs (object_at heap at) refs)
same-refs heap at refs held e =
    sym (ap (λ (rs : List Reference). with_object heap at (with_refs (object_at heap at) rs)) e
    ∙ ap (λ (os : List Object). record heap { objects = os }) (replace-same 1 heap.objects at (object_at heap at) (held_is heap at held)))

pub linked-none : (heap : Heap) (code first : ℕ) (cs : ConstantsView) → IsHeld heap code → Linked heap heap code (constants_places first cs) first 0 cs
linked-none heap code first cs held = record { done = []; linked = same-refs heap code (object_at heap code).refs held refl; all_is = refl; slot_is = refl }

-- Before a slot is written.

pub linked-held : (old new : Heap) (code : ℕ) (all : List Reference) (at slot : ℕ) (rest : ConstantsView) (j : ℕ) → Linked old new code all at slot rest
    → IsHeld old code → IsHeld old j → IsHeld new j
linked-held old new code all at slot rest j l held there =
    let o = object_at old code in
    subst (λ (h : Heap). IsHeld h j) (sym l.linked) (held-replaced old code o (with_refs o (l.done ++ drop slot o.refs)) j (held_is old code held) refl there)

pub linked-object : (old new : Heap) (code : ℕ) (all : List Reference) (at slot : ℕ) (rest : ConstantsView) (l : Linked old new code all at slot rest)
    → IsHeld old code
    → object_at new code ≡ with_refs (object_at old code) (l.done ++ drop slot (object_at old code).refs)
linked-object old new code all at slot rest l held =
    ap (λ (h : Heap). object_at h code) l.linked ∙ object-replaced old code
    (with_refs (object_at old code) (l.done ++ drop slot (object_at old code).refs)) held

places_then : (at : ℕ) (c : ConstantView) (cs : ConstantsView)
    → constants_places at (constant_then c cs) ≡ Local (constant_place at c) ∷ constants_places (at + constant_words c) cs
unfolding constants_places
places_then at c cs = refl

pub places_from : (at : ℕ) (xs : List Constant) (i : ℕ) (x d : Constant) → x ≡ get_or xs i d → i < length xs
    → constants_places at (constants_view (drop i xs)) ≡ Local (constant_place at (constant_view x)) ∷ constants_places (at + constant_words (constant_view x))
    (constants_view (drop (i + 1) xs))
places_from at xs i x d is below = ap (constants_places at) (constants_from xs i x d is below)
    ∙ places_then at (constant_view x) (constants_view (drop (i + 1) xs))

places_none : (at : ℕ) → constants_places at (constants_view []) ≡ []
unfolding constants_places constants_view
places_none at = refl

-- the place of the next constant is held
pub linked-there : (old new : Heap) (code : ℕ) (all : List Reference) (at slot : ℕ) (xs : List Constant) (i : ℕ) (x d : Constant) → x ≡ get_or xs i d
    → i < length xs
    → Linked old new code all at slot (constants_view (drop i xs)) → IsHeld old code → AreHeld old all → IsHeld new (constant_place at (constant_view x))
linked-there old new code all at slot xs i x d is below l held there =
    let place = Local (constant_place at (constant_view x)) in
    let behind = constants_places (at + constant_words (constant_view x)) (constants_view (drop (i + 1) xs)) in
    let whole : all ≡ l.done ++ (place ∷ behind) = l.all_is ∙ ap (λ (rs : List Reference). l.done ++ rs) (places_from at xs i x d is below) in
    let end : length l.done ≡ length l.done + 0 = omega arith in
    let found : get_or all (length l.done) Nil ≡ place =
    ap (λ (rs : List Reference). get_or rs (length l.done) Nil) whole
    ∙ ap (λ (n : ℕ). get_or (l.done ++ (place ∷ behind)) n Nil) end
    ∙ get_or-append-add l.done (place ∷ behind) 0 Nil in
    linked-held old new code all at slot (constants_view (drop i xs)) (constant_place at (constant_view x)) l held
    (there (length l.done) (constant_place at (constant_view x)) found)

-- A slot was written.

set_next : (done refs : List Reference) (slot : ℕ) (r : Reference) → slot ≡ length done → slot < length refs
    → set (done ++ drop slot refs) slot r ≡ (done ++ r ∷ []) ++ drop (slot + 1) refs
set_next done refs slot r e below =
    let rest : slot - slot ≡ 0 = omega arith in
    let up : suc slot ≡ slot + 1 = omega arith in
    set-append_right done (drop slot refs) slot slot r (sym e) (omega arith)
    ∙ ap (λ (k : ℕ). done ++ set (drop slot refs) k r) rest
    ∙ ap (λ (rs : List Reference). done ++ set rs 0 r) (drop-cons refs slot Nil below)
    ∙ ap (λ (k : ℕ). done ++ (r ∷ drop k refs)) up
    ∙ sym (append_assoc done (r ∷ []) (drop (slot + 1) refs))

pub linked-more : (old mid new : Heap) (code : ℕ) (all : List Reference) (at slot to : ℕ) (xs : List Constant) (i : ℕ) (x d : Constant) → x ≡ get_or xs i d
    → i < length xs
    → Linked old mid code all at slot (constants_view (drop i xs)) → IsHeld old code → slot < length (object_at old code).refs
    → new ≡ with_ref mid code slot (Local (constant_place at (constant_view x))) → to ≡ at + constant_words (constant_view x)
    → Linked old new code all to (slot + 1) (constants_view (drop (i + 1) xs))
linked-more old mid new code all at slot to xs i x d is below l held room written behind =
    let r = Local (constant_place at (constant_view x)) in
    let o = object_at old code in
    let was = with_refs o (l.done ++ drop slot o.refs) in
    let it = linked-object old mid code all at slot (constants_view (drop i xs)) l held in
    let rest = constants_view (drop (i + 1) xs) in
    record {
      done = l.done ++ r ∷ [];
      linked =
          written
          ∙ ap (λ (p : Object). with_object mid code (with_refs p (set p.refs slot r))) it
          ∙ ap (λ (h : Heap). with_object h code (with_refs o (set (l.done ++ drop slot o.refs) slot r))) l.linked
          ∙ with-twice old code was (with_refs o (set (l.done ++ drop slot o.refs) slot r))
          ∙ ap (λ (rs : List Reference). with_object old code (with_refs o rs)) (set_next l.done o.refs slot r l.slot_is room);
      all_is =
          l.all_is
          ∙ ap (λ (rs : List Reference). l.done ++ rs) (places_from at xs i x d is below)
          ∙ ap (λ (n : ℕ). l.done ++ (r ∷ constants_places n rest)) (sym behind)
          ∙ sym (append_assoc l.done (r ∷ []) (constants_places to rest));
      slot_is = omega (arith, l.slot_is, length-append l.done (r ∷ []));
    }

-- All slots were written.
pub linked-all : (old new : Heap) (code : ℕ) (all : List Reference) (at slot : ℕ) (xs : List Constant) (i : ℕ) → length xs ≤ i
    → length (object_at old code).refs ≤ slot
    → Linked old new code all at slot (constants_view (drop i xs)) → new ≡ with_object old code (with_refs (object_at old code) all)
linked-all old new code all at slot xs i h long l =
    let o = object_at old code in
    let none : constants_places at (constants_view (drop i xs)) ≡ [] = ap (λ (ys : List Constant). constants_places at (constants_view ys)) (drop_all i xs h)
    ∙ places_none at in
    let whole : all ≡ l.done = l.all_is ∙ ap (λ (rs : List Reference). l.done ++ rs) none ∙ append-nil l.done in
    l.linked
    ∙ ap (λ (rs : List Reference). with_object old code (with_refs o (l.done ++ rs))) (drop_all slot o.refs long)
    ∙ ap (λ (rs : List Reference). with_object old code (with_refs o rs)) (append-nil l.done ∙ sym whole)
