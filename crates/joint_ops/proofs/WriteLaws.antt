-- A value that code writes into a place of an object of the area, and notes it.
use Rattle.std.proofs.Common.{true, false, Bool, inl, inr, ◌⊎◌, ◌≡◌, ℕ, zero, suc, ◌+◌, ◌≤◌, List, [], ◌∷◌, ◌++◌, refl, sym, ap, ◌∙◌, arith, set, nat_eq, ◌%◌, if◌then◌else◌}
use Rattle.std.specs.Prelude.{slice_index, slice_set}
use Rattle.heap_meaning.specs.obj_layout.declared.header.Header.{Header}
use Rattle.heap_meaning.specs.swizzle.Objects.{Object, size_of}
use Rattle.heap_meaning.specs.swizzle.Heap.{Heap, IsHeap, IsHeld, IsListed, object_at, header_at, with_object, with_mark, is_assigned, flagged, reference_to}
use Rattle.heap_meaning.proofs.of_swizzle.HeapLaws.{held-replaced}
use Rattle.heap_meaning.proofs.of_swizzle.JointLaws.{object-replaced, object-replaced_other, held-back}
use Rattle.heap_meaning.proofs.of_swizzle.KeptLaws.{held_is}
use Rattle.heap_meaning.specs.heap_places.Words.{int_word, flag_word}
use Rattle.heap_meaning.specs.heap_places.Places.{assigned_value}
use Rattle.heap_meaning.specs.heap_places.declared.value.Value as code
use Rattle.heap_meaning.specs.heap_places.declared.value.Value.TheVariants as value
use Rattle.joint_ops.specs.Writing.{HasParts, IsWrite, IsBehindHome}

-- The object with other references or number words, but for its home.
record Rewrites (o new : Object) : Type 0 where
  header : new.header ≡ o.header
  home : slice_index new.nums 0 ≡ slice_index o.nums 0

home-stays : (ns : List ℕ) (i v : ℕ) → 1 ≤ i → slice_index (slice_set ns i v) 0 ≡ slice_index ns 0
home-stays [] i v le = refl
home-stays (n ∷ ns) zero v le = absurd (omega (arith, le))
home-stays (n ∷ ns) (suc i) v le = refl

listed-last : (x : ℕ) (xs : List ℕ) → IsListed x (xs ++ x ∷ [])
listed-last x [] = inl refl
listed-last x (y ∷ ys) = inr (listed-last x ys)

listed-front : (y : ℕ) (xs ys : List ℕ) → IsListed y xs → IsListed y (xs ++ ys)
listed-front y [] ys l = absurd l
listed-front y (x ∷ xs) ys (inl e) = inl e
listed-front y (x ∷ xs) ys (inr l) = inr (listed-front y xs ys l)

listed-cases : (y x : ℕ) (xs : List ℕ) → IsListed y (xs ++ x ∷ []) → IsListed y xs ⊎ (y ≡ x)
listed-cases y x [] l = elim l [ inl e ↦ inr e | inr none ↦ absurd none ]
listed-cases y x (z ∷ zs) (inl e) = inl (inl e)
listed-cases y x (z ∷ zs) (inr l) = elim (listed-cases y x zs l) [ inl a ↦ inl (inr a) | inr e ↦ inr e ]

module _ (heap : Heap) (at : ℕ) (sound : IsHeap heap) (held : IsHeld heap at) (parts : HasParts (header_at heap at).kind) (new : Object) (r : Rewrites (object_at heap at) new) where
  abbrev mid : Heap
  mid = with_object heap at new

  size-same : size_of new ≡ size_of (object_at heap at)
  size-same = ap (λ (h : Header). 4 + h.refs + h.nums) r.header

  mid-held : IsHeld mid at
  mid-held = held-replaced heap at (object_at heap at) new at (held_is heap at held) size-same held

  here : object_at mid at ≡ new
  here = object-replaced heap at new held

  same-assigned : is_assigned (object_at mid at) ≡ is_assigned (object_at heap at)
  same-assigned = ap is_assigned here ∙ ap (λ (h : Header). nat_eq (h.flags % 2) 1) r.header

  -- it was noted before
  before : is_assigned (object_at heap at) ≡ true → IsWrite heap mid at
  before e = record {
    held = held;
    parts = parts;
    stand = λ y k. held-replaced heap at (object_at heap at) new y (held_is heap at held) size-same k;
    back = λ y k. held-back heap at y new held size-same k;
    others = λ y ne. object-replaced_other heap at y new held size-same ne;
    kind = ap (λ (o : Object). o.header.kind) here ∙ ap (λ (h : Header). h.kind) r.header;
    refs = ap (λ (o : Object). o.header.refs) here ∙ ap (λ (h : Header). h.refs) r.header;
    nums = ap (λ (o : Object). o.header.nums) here ∙ ap (λ (h : Header). h.nums) r.header;
    bytes = ap (λ (o : Object). o.header.bytes) here ∙ ap (λ (h : Header). h.bytes) r.header;
    pid = ap (λ (o : Object). o.header.pid) here ∙ ap (λ (h : Header). h.pid) r.header;
    home = ap (λ (o : Object). slice_index o.nums 0) here ∙ r.home;
    noted = sound.noted.listed at (record { object = object_at heap at; is = held_is heap at held; flag = e });
    kept = λ y l. l;
    only = λ y l. inl l;
  }

  abbrev last : Heap
  last = record (with_object mid at (flagged (object_at mid at))) { assigned = mid.assigned ++ at ∷ [] }

  -- or it is noted now
  now : IsWrite heap last at
  now =
      let top = flagged (object_at mid at) in
      let there : object_at last at ≡ top = object-replaced mid at top mid-held in
      let head : top.header ≡ record (object_at heap at).header { flags = (object_at mid at).header.flags + 1 } =
      ap (λ (h : Header). record h { flags = (object_at mid at).header.flags + 1 }) (ap (λ (o : Object). o.header) here ∙ r.header) in
      record {
        held = held;
        parts = parts;
        stand = λ y k.
            let one = held-replaced heap at (object_at heap at) new y (held_is heap at held) size-same k in
            let two = held-replaced mid at (object_at mid at) top y (held_is mid at mid-held) refl one in
            record { object = two.object; is = two.is };
        back = λ y k. held-back heap at y new held size-same (held-back mid at y top mid-held refl (record { object = k.object; is = k.is }));
        others = λ y ne. object-replaced_other mid at y top mid-held refl ne ∙ object-replaced_other heap at y new held size-same ne;
        kind = ap (λ (o : Object). o.header.kind) there ∙ ap (λ (h : Header). h.kind) head;
        refs = ap (λ (o : Object). o.header.refs) there ∙ ap (λ (h : Header). h.refs) head;
        nums = ap (λ (o : Object). o.header.nums) there ∙ ap (λ (h : Header). h.nums) head;
        bytes = ap (λ (o : Object). o.header.bytes) there ∙ ap (λ (h : Header). h.bytes) head;
        pid = ap (λ (o : Object). o.header.pid) there ∙ ap (λ (h : Header). h.pid) head;
        home = ap (λ (o : Object). slice_index o.nums 0) there ∙ (ap (λ (o : Object). slice_index o.nums 0) here ∙ r.home);
        noted = listed-last at heap.assigned;
        kept = λ y l. listed-front y heap.assigned (at ∷ []) l;
        only = λ y l. listed-cases y at heap.assigned l;
      }

  marked-by : (b : Bool) → is_assigned (object_at mid at) ≡ b → IsWrite heap (if b then mid else last) at
  marked-by true e = before (sym same-assigned ∙ e)
  marked-by false e = now

  marked : IsWrite heap (with_mark mid at) at
  marked = marked-by (is_assigned (object_at mid at)) refl

pub value-write : (heap : Heap) (at index : ℕ) (v : code.Value) → IsHeap heap → IsHeld heap at → HasParts (header_at heap at).kind → IsBehindHome v index → IsWrite heap (assigned_value heap at index v) at
value-write heap at index (value.Num z) sound held parts behind =
    let o = object_at heap at in
    marked heap at sound held parts (record o { nums = slice_set o.nums index (int_word z) }) (record { header = refl; home = home-stays o.nums index (int_word z) behind })
value-write heap at index (value.Flag b) sound held parts behind =
    let o = object_at heap at in
    marked heap at sound held parts (record o { nums = slice_set o.nums index (flag_word b) }) (record { header = refl; home = home-stays o.nums index (flag_word b) behind })
value-write heap at index (value.Ref to) sound held parts behind =
    let o = object_at heap at in
    marked heap at sound held parts (record o { refs = set o.refs index (reference_to to) }) (record { header = refl; home = refl })

-- A place that isn't the first of its row lies behind the home.
pub behind : (v : code.Value) (index : ℕ) → 1 ≤ index → IsBehindHome v index
behind (value.Num z) index le = le
behind (value.Flag b) index le = le
behind (value.Ref to) index le = tt
