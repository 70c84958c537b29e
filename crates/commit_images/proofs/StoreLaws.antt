-- What a space holds once the images of a list of objects are stored in it.
use Rattle.std.proofs.Common.{◌≡◌, ℕ, ◌+◌, ◌<◌, ◌≤◌, List, [], ◌∷◌, ◌++◌, length, take, drop, refl, sym, ap, ◌∙◌, subst, arith, length-append, length-take, length-drop, inl, inr, ◌⊎◌, Some}
use Rattle.std.proofs.lemmas.Bool.{cases_eq}
use Rattle.std.proofs.lemmas.List.Sums.{sum_by-cons}
use Rattle.swizzle.specs.obj_layout.Objects.{IsObject}
use Rattle.swizzle.specs.obj_layout.Stored.{Space, HasObject, IsHeaded, appended, overwritten, directed, with_words}
use Rattle.swizzle.proofs.of_obj_layout.StoredLaws.{HasObject-one, HasObject-within}
use Rattle.swizzle.specs.Objects.{size_of, size_of_all}
use Rattle.swizzle.proofs.ObjectLaws.{split, size_of_all-append}
use Rattle.swizzle.specs.Heap.{Heap, IsHeap, IsHeld, object_at, header_at, local_of, top_of}
use Rattle.swizzle.specs.Image.{far_object, HasPids}
use Rattle.swizzle.proofs.KeptLaws.{held_is}
use Rattle.swizzle.proofs.ImageLaws.{image-far}
use Rattle.reaching.specs.Reaching.{IsIn}
use Rattle.commit_images.specs.Images.{image_of, words_of, with_images, over_images}
use Rattle.commit_images.specs.Staging.{AreReady, AreThere}
use Rattle.commit_images.specs.Stored.{IsCut, IsWhole, AreWhole, AreNumbered, HasNone, IsImage, Stores}
use Rattle.commit_images.proofs.CutLaws.{more-cut, more-stays, more-here, more-cases, over-cut, over-here, over-stays, over-back, tested-long}

-- An image begins with a header that gives its number of words, and is an object, where its counts are those of its kind.

pub image-headed : (heap : Heap) (x : ℕ) → IsHeap heap → IsHeld heap x → HasPids heap x → IsHeaded (image_of heap x)
unfolding image_of
image-headed heap x h held pids =
    let f = image-far heap x h held pids in
    record { header = (far_object heap x).header; fields = f.fields; lengths = f.lengths; spelled = f.spelled; long = f.long }

pub image-long : (heap : Heap) (x : ℕ) → IsHeap heap → IsHeld heap x → HasPids heap x → length (image_of heap x) ≡ size_of (object_at heap x)
unfolding image_of
image-long heap x h held pids = (image-far heap x h held pids).long

image-object : (heap : Heap) (x : ℕ) → IsHeap heap → IsHeld heap x × HasPids heap x → IsWhole heap x → IsObject (image_of heap x)
unfolding image_of
image-object heap x h r w =
    let f = image-far heap x h r.0 r.1 in
    record {
      header = (far_object heap x).header;
      contents = w.contents;
      fields = f.fields;
      lengths = f.lengths;
      spelled = sym f.spelled;
      long = f.long;
      holds = record { kind = w.counts.kind; counted = w.counts.counted; allowed = w.counts.allowed };
    }

-- two objects of the area with one PID are one
pub one-object : (heap : Heap) (x y : ℕ) → IsHeap heap → IsHeld heap x → IsHeld heap y → 1 ≤ (header_at heap y).pid → (header_at heap x).pid ≡ (header_at heap y).pid → x ≡ y
one-object heap x y h k l low e =
    let a : local_of heap (header_at heap x).pid ≡ Some x = h.one x (object_at heap x) (held_is heap x k) (omega (arith, e, low)) in
    let b : local_of heap (header_at heap y).pid ≡ Some y = h.one y (object_at heap y) (held_is heap y l) low in
    let c : Some x ≡ Some y = sym a ∙ (ap (local_of heap) e ∙ b) in
    cc

-- The images of new objects, behind what is there.

record Behind (heap : Heap) (xs : List ℕ) (before after : Space) : Type 0 where
  cut : IsCut after
  long : length after.words ≡ length before.words + words_of heap xs
  directory : after.directory ≡ before.directory
  here : (x : ℕ) → IsIn x xs → HasObject after (header_at heap x).pid (image_of heap x)
  stays : (pid : ℕ) (words : List ℕ) → HasObject before pid words → HasObject after pid words
  cases : (pid : ℕ) (words : List ℕ) → HasObject after pid words → HasObject before pid words ⊎ IsImage heap xs [] pid words

one-more : (heap : Heap) (x : ℕ) (xs : List ℕ) (pid : ℕ) (words : List ℕ) → IsImage heap xs [] pid words → IsImage heap (x ∷ xs) [] pid words
one-more heap x xs pid words i = record { at = i.at; listed = more i.listed; pid_is = i.pid_is; words_are = i.words_are }
  where
    more : IsIn i.at xs ⊎ IsIn i.at [] → IsIn i.at (x ∷ xs) ⊎ IsIn i.at []
    more (inl m) = inl (inr m)
    more (inr none) = absurd none

behind : (heap : Heap) (xs : List ℕ) (space : Space) → IsHeap heap → IsCut space → AreReady heap xs → AreWhole heap xs → AreNumbered heap xs (length space.words) → Behind heap xs space (with_images heap xs space)
unfolding with_images AreNumbered
behind heap [] space h c ready whole numbered = record {
  cut = c;
  long = omega arith;
  directory = refl;
  here = λ x none. absurd none;
  stays = λ pid words k. k;
  cases = λ pid words k. inl k;
}
behind heap (x ∷ xs) space h c ready whole numbered =
    let r = ready x (inl refl) in
    let o = image-object heap x h r (whole x (inl refl)) in
    let put = image_of heap x in
    let long : length put ≡ size_of (object_at heap x) = image-long heap x h r.0 r.1 in
    let next = appended put space in
    let grown : length next.words ≡ length space.words + size_of (object_at heap x) = length-append space.words put ∙ ap (λ n. length space.words + n) long in
    let rest = behind heap xs next h (more-cut space put c o) (λ y m. ready y (inr m)) (λ y m. whole y (inr m)) (subst (AreNumbered heap xs) (sym grown) numbered.1) in
    record {
      cut = rest.cut;
      long = let sum = sum_by-cons (λ y. size_of (object_at heap y)) x xs in let l = rest.long in omega (arith, l, grown, sum);
      directory = rest.directory;
      here = λ y m. elim m [
        | inl e ↦ subst (λ z. HasObject (with_images heap xs next) (header_at heap z).pid (image_of heap z)) (sym e)
            (rest.stays (header_at heap x).pid put (subst (λ n. HasObject next n put) (sym numbered.0) (more-here space put c o)))
        | inr k ↦ rest.here y k
      ];
      stays = λ pid words k. rest.stays pid words (more-stays space put pid words o k);
      cases = λ pid words k. elim (rest.cases pid words k) [
        | inl l ↦ elim (more-cases space put pid words c o l) [
          | inl before ↦ inl before
          | inr last ↦ inr (record { at = x; listed = inl (inl refl); pid_is = last.0 ∙ sym numbered.0; words_are = last.1 })
        ]
        | inr i ↦ inr (one-more heap x xs pid words i)
      ];
    }

-- The images of changed objects, in place of what is there.

record Over (heap : Heap) (xs : List ℕ) (before after : Space) : Type 0 where
  cut : IsCut after
  long : length after.words ≡ length before.words
  directory : after.directory ≡ before.directory
  here : (x : ℕ) → IsIn x xs → HasObject after (header_at heap x).pid (image_of heap x)
  stays : (pid : ℕ) (words : List ℕ) → HasNone heap xs pid → HasObject before pid words → HasObject after pid words
  cases : (pid : ℕ) (words : List ℕ) → HasObject after pid words → (HasNone heap xs pid × HasObject before pid words) ⊎ IsImage heap [] xs pid words

-- an object of the list that has this PID
pub record HasOne (heap : Heap) (xs : List ℕ) (pid : ℕ) : Type 0 where
  pub at : ℕ
  pub listed : IsIn at xs
  pub pid_is : (header_at heap at).pid ≡ pid

pub none-or-one : (heap : Heap) (xs : List ℕ) (pid : ℕ) → HasNone heap xs pid ⊎ HasOne heap xs pid
none-or-one heap [] pid = inl (λ x none. absurd none)
none-or-one heap (x ∷ xs) pid = elim (cases_eq (header_at heap x).pid pid) [
  | inl e ↦ inr (record { at = x; listed = inl refl; pid_is = e })
  | inr ne ↦ elim (none-or-one heap xs pid) [
    | inl none ↦ inl (λ y m. elim m [ inl e ↦ λ k. ne (ap (λ z. (header_at heap z).pid) (sym e) ∙ k) | inr l ↦ none y l ])
    | inr one ↦ inr (record { at = one.at; listed = inr one.listed; pid_is = one.pid_is })
  ]
]

-- what a space holds under the PID of each object of a list
abbrev pub AreStored : Heap → List ℕ → Space → Type 0
AreStored heap xs space = (x : ℕ) → IsIn x xs → (words : List ℕ) × HasObject space (header_at heap x).pid words

overwritten-long : (words put : List ℕ) (pid : ℕ) → pid + length put ≤ length words → length (with_words words pid put) ≡ length words
overwritten-long words put pid fits =
    omega (arith, fits, length-append (take pid words) (put ++ drop (pid + length put) words), length-append put (drop (pid + length put) words), length-take pid words, length-drop (pid + length put) words)

over-more : (heap : Heap) (x : ℕ) (xs : List ℕ) (pid : ℕ) (words : List ℕ) → IsImage heap [] xs pid words → IsImage heap [] (x ∷ xs) pid words
over-more heap x xs pid words i = record { at = i.at; listed = more i.listed; pid_is = i.pid_is; words_are = i.words_are }
  where
    more : IsIn i.at [] ⊎ IsIn i.at xs → IsIn i.at [] ⊎ IsIn i.at (x ∷ xs)
    more (inl none) = absurd none
    more (inr m) = inr (inr m)

over : (heap : Heap) (xs : List ℕ) (space : Space) → IsHeap heap → IsCut space → AreReady heap xs → AreWhole heap xs → AreStored heap xs space → AreThere heap xs space → Over heap xs space (over_images heap xs space)
unfolding over_images AreThere
over heap [] space h c ready whole stored there = record {
  cut = c;
  long = refl;
  directory = refl;
  here = λ x none. absurd none;
  stays = λ pid words none k. k;
  cases = λ pid words k. inl (λ x none. absurd none, k);
}
over heap (x ∷ xs) space h c ready whole stored there =
    let r = ready x (inl refl) in
    let o = image-object heap x h r (whole x (inl refl)) in
    let put = image_of heap x in
    let pid = (header_at heap x).pid in
    let old = stored x (inl refl) in
    let within = HasObject-within space pid old.0 old.1 in
    let wanted : size_of (object_at heap x) ≡ length old.0 = tested-long space pid old.0 (size_of (object_at heap x)) old.1 there.0 in
    let long : length put ≡ length old.0 = image-long heap x h r.0 r.1 ∙ wanted in
    let next = overwritten pid put space in
    let now = over-here space pid old.0 put old.1 long o in
    let stored_now : AreStored heap xs next = λ y m. elim (cases_eq (header_at heap y).pid pid) [
      | inl e ↦ (put, subst (λ n. HasObject next n put) (sym e) now)
      | inr ne ↦ let k = stored y (inr m) in (k.0, over-stays space pid old.0 put (header_at heap y).pid k.0 old.1 long o ne k.1)
    ] in
    let rest = over heap xs next h (over-cut space pid old.0 put old.1 long o) (λ y m. ready y (inr m)) (λ y m. whole y (inr m)) stored_now there.1 in
    let last = over_images heap xs next in
    let mine : HasObject last pid put = elim (none-or-one heap xs pid) [
      | inl none ↦ rest.stays pid put none now
      | inr one ↦
          let same : one.at ≡ x = one-object heap one.at x h (ready one.at (inr one.listed)).0 r.0 within.low one.pid_is in
          subst (λ z. HasObject last (header_at heap z).pid (image_of heap z)) same (rest.here one.at one.listed)
    ] in
    record {
      cut = rest.cut;
      long = rest.long ∙ overwritten-long space.words put pid (omega (arith, within.high, long));
      directory = rest.directory;
      here = λ y m. elim m [
        | inl e ↦ subst (λ z. HasObject last (header_at heap z).pid (image_of heap z)) (sym e) mine
        | inr k ↦ rest.here y k
      ];
      stays = λ q words none k. rest.stays q words (λ y m. none y (inr m)) (over-stays space pid old.0 put q words old.1 long o (λ e. none x (inl refl) (sym e)) k);
      cases = λ q words k. elim (rest.cases q words k) [
        | inl l ↦ elim (cases_eq q pid) [
          | inl e ↦ inr (record { at = x; listed = inr (inl refl); pid_is = e; words_are = HasObject-one last q words put k (subst (λ n. HasObject last n put) (sym e) mine) })
          | inr ne ↦ inl (λ y m. elim m [ inl e ↦ λ d. ne (sym (ap (λ z. (header_at heap z).pid) (sym e) ∙ d)) | inr j ↦ l.0 y j ], over-back space pid old.0 put q words old.1 long o ne l.1)
        ]
        | inr i ↦ inr (over-more heap x xs q words i)
      ];
    }

-- Both.

image-left : (heap : Heap) (new changed : List ℕ) (pid : ℕ) (words : List ℕ) → IsImage heap new [] pid words → IsImage heap new changed pid words
image-left heap new changed pid words i = record { at = i.at; listed = left i.listed; pid_is = i.pid_is; words_are = i.words_are }
  where
    left : IsIn i.at new ⊎ IsIn i.at [] → IsIn i.at new ⊎ IsIn i.at changed
    left (inl m) = inl m
    left (inr none) = absurd none

image-right : (heap : Heap) (new changed : List ℕ) (pid : ℕ) (words : List ℕ) → IsImage heap [] changed pid words → IsImage heap new changed pid words
image-right heap new changed pid words i = record { at = i.at; listed = right i.listed; pid_is = i.pid_is; words_are = i.words_are }
  where
    right : IsIn i.at [] ⊎ IsIn i.at changed → IsIn i.at new ⊎ IsIn i.at changed
    right (inl none) = absurd none
    right (inr m) = inr m

-- A space with the images of new objects behind it, and those of changed ones in place of their words.
pub stores : (heap : Heap) (new changed : List ℕ) (space : Space) → IsHeap heap → IsCut space → AreReady heap new → AreReady heap changed → AreWhole heap new → AreWhole heap changed
    → AreNumbered heap new (length space.words) → AreStored heap changed space → AreThere heap changed (with_images heap new space)
    → Stores heap new changed space (over_images heap changed (with_images heap new space))
stores heap new changed space h c ready again whole also numbered stored there =
    let b = behind heap new space h c ready whole numbered in
    let mid = with_images heap new space in
    let stored_now : AreStored heap changed mid = λ x m. let k = stored x m in (k.0, b.stays (header_at heap x).pid k.0 k.1) in
    let o = over heap changed mid h b.cut again also stored_now there in
    let last = over_images heap changed mid in
    record {
      cut = o.cut;
      long = o.long ∙ b.long;
      here = λ x m. elim m [
        | inl k ↦ elim (none-or-one heap changed (header_at heap x).pid) [
          | inl none ↦ o.stays (header_at heap x).pid (image_of heap x) none (b.here x k)
          | inr one ↦
              let low = (HasObject-within mid (header_at heap x).pid (image_of heap x) (b.here x k)).low in
              let same : one.at ≡ x = one-object heap one.at x h (again one.at one.listed).0 (ready x k).0 low one.pid_is in
              subst (λ z. HasObject last (header_at heap z).pid (image_of heap z)) same (o.here one.at one.listed)
        ]
        | inr k ↦ o.here x k
      ];
      stays = λ pid words none k. o.stays pid words none (b.stays pid words k);
      no_other = λ pid words k. elim (o.cases pid words k) [
        | inl l ↦ elim (b.cases pid words l.1) [ inl before ↦ inl (l.0, before) | inr i ↦ inr (image-left heap new changed pid words i) ]
        | inr i ↦ inr (image-right heap new changed pid words i)
      ];
    }

-- an object ends below the top
pub object-small : (heap : Heap) (x : ℕ) → IsHeap heap → IsHeld heap x → size_of (object_at heap x) < top_of heap
object-small heap x h held =
    let s = split 1 heap.objects x (object_at heap x) h.fit (held_is heap x held) in
    let whole : size_of_all heap.objects ≡ size_of_all s.front + (size_of (object_at heap x) + size_of_all s.back) = ap size_of_all s.is ∙ size_of_all-append s.front (object_at heap x ∷ s.back) in
    omega (arith, whole)

-- the directory is no object
pub stores-directed : (heap : Heap) (new changed : List ℕ) (before after : Space) (directory : ℕ) → Stores heap new changed before after → Stores heap new changed before (directed directory after)
stores-directed heap new changed before after directory s = record {
  cut = record { objects = s.cut.objects; cut = s.cut.cut };
  long = s.long;
  here = λ x m. let k = s.here x m in record { objects = k.objects; cut = k.cut; among = k.among };
  stays = λ pid words none k. let l = s.stays pid words none k in record { objects = l.objects; cut = l.cut; among = l.among };
  no_other = λ pid words k. s.no_other pid words (record { objects = k.objects; cut = k.cut; among = k.among });
}
