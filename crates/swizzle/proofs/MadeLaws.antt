-- What an object that was made leaves of the heap, and what becomes of it as its bytes are written.
use Rattle.std.proofs.Common.{◌≡◌, ℕ, ◌+◌, List, [], ◌∷◌, ◌++◌, refl, ap, sym, ◌∙◌, subst, arith}
use Rattle.swizzle.specs.Objects.{Object, size_of, size_of_all, replace_from}
use Rattle.swizzle.specs.Heap.{Heap, IsHeld, IsMade, object_at, top_of, with_new, with_object}
use Rattle.swizzle.specs.Text.{text_of, with_bytes_at, with_text}
use Rattle.swizzle.specs.Reading.{TextsStay}
use Rattle.swizzle.proofs.ObjectLaws.{here, elsewhere}
use Rattle.swizzle.proofs.HeapLaws.{held-new}
use Rattle.swizzle.proofs.JointLaws.{held-top, object-append, object-top}

-- The last object, in whose place another one comes.

pub replace-new : (at : ℕ) (os : List Object) (last new : Object) → replace_from at (os ++ last ∷ []) (at + size_of_all os) new ≡ os ++ new ∷ []
replace-new at [] last new = here (at + 0) at (new ∷ []) (last ∷ []) (omega arith)
replace-new at (p ∷ os) last new =
    let i = at + size_of_all (p ∷ os) in
    let place : i ≡ at + size_of p + size_of_all os = omega arith in
    elsewhere i at (new ∷ (os ++ last ∷ [])) (p ∷ replace_from (at + size_of p) (os ++ last ∷ []) i new) (λ (q : i ≡ at). omega arith)
    ∙ ap (λ (j : ℕ). p ∷ replace_from (at + size_of p) (os ++ last ∷ []) j new) place
    ∙ ap (λ (r : List Object). p ∷ r) (replace-new (at + size_of p) os last new)

pub object-new : (heap : Heap) (last new : Object) → with_object (with_new heap last) (top_of heap) new ≡ with_new heap new
object-new heap last new = ap (λ (os : List Object). record heap { objects = os }) (replace-new 1 heap.objects last new)

-- An object that was made is there.

pub made-held : (old new : Heap) (at : ℕ) (o : Object) → IsMade old new at o → IsHeld new at
made-held old new at o made =
    subst (λ (h : Heap). IsHeld h at) (sym made.made) (subst (IsHeld (with_new old o)) (sym made.place) (held-top old o))

pub made-object : (old new : Heap) (at : ℕ) (o : Object) → IsMade old new at o → object_at new at ≡ o
made-object old new at o made =
    ap (λ (h : Heap). object_at h at) made.made ∙ ap (object_at (with_new old o)) made.place ∙ object-top old o

-- another one of its size is in its place
pub made-replaced : (old mid new : Heap) (at : ℕ) (last o : Object) → IsMade old mid at last → new ≡ with_object mid at o → size_of o ≡ size_of last
    → IsMade old new at o
made-replaced old mid new at last o made e long = record {
  room = omega (arith, made.room);
  place = made.place;
  made = e ∙ ap (λ (i : ℕ). with_object mid i o) made.place ∙ ap (λ (h : Heap). with_object h (top_of old) o) made.made ∙ object-new old last o;
}

-- bytes were written over its own
pub made-text : (old mid new : Heap) (at start : ℕ) (o : Object) (bytes : List ℕ) → IsMade old mid at o → new ≡ with_text mid at start bytes
    → IsMade old new at (with_bytes_at o start bytes)
made-text old mid new at start o bytes made e =
    made-replaced old mid new at o (with_bytes_at o start bytes) made
    (e ∙ ap (λ (x : Object). with_object mid at (with_bytes_at x start bytes)) (made-object old mid at o made)) refl

-- Every object of before is there and is as it was, texts among them.

pub made-other : (old new : Heap) (at : ℕ) (o : Object) (j : ℕ) → IsMade old new at o → IsHeld old j → IsHeld new j × (object_at new j ≡ object_at old j)
made-other old new at o j made held =
    (subst (λ (h : Heap). IsHeld h j) (sym made.made) (held-new old o j held), ap (λ (h : Heap). object_at h j) made.made ∙ object-append old o j held)

pub texts-made : (old new : Heap) (at : ℕ) (o : Object) → IsMade old new at o → TextsStay old new
texts-made old new at o made j held is =
    let other = made-other old new at o j made held in
    record { held = other.0; kind = ap (λ (x : Object). x.header.kind) other.1 ∙ is; bytes = ap text_of other.1 }
