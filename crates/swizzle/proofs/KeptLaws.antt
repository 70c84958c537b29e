-- What the words of an area say of the objects that a swizzle's callers see, and the other way round.
use Rattle.std.proofs.Common.{IfSome, ◌⊎◌, vec_capacity, Bool, false, inl, inr, replicate, ◌≡◌, ◌≢◌, ℕ, zero, suc, ◌+◌, ◌-◌, ◌*◌, ◌/◌, ◌%◌, ◌^◌, ◌<◌, ◌≤◌, ◌==◌, List, [], ◌∷◌, ◌++◌, length, drop, map, set, slice_index, get_or, refl, sym, ap, ◌∙◌, subst, arith, length-append, Option, Some, None, unwrap_or}
use Rattle.std.proofs.lemmas.List.{length-replicate, drop-drop, drop_at, take_at, drop-replicate, replicate-append-replicate, append-nil}
use Rattle.obj_area.specs.Words.{overwritten, AreWords}
use Rattle.obj_area.proofs.WordLaws.{overwritten-inside}
use Rattle.obj_layout.specs.declared.kind.Kind.{Kind}
use Rattle.obj_layout.specs.declared.reference.Reference.{Reference}
use Rattle.obj_layout.specs.declared.reference.Reference.TheVariants.{Nil, Pid, Local}
use Rattle.obj_layout.specs.Reference.{IsReference, reference_word}
use Rattle.obj_layout.proofs.HeaderLaws.{kind_number-lt}
use Rattle.obj_layout.specs.Header.{HasFitLengths, header_words, object_length}
use Rattle.obj_layout.specs.declared.header.Header.{Header}
use Rattle.obj_area.specs.Area.{AreaView, IsGivenOut, with_word, fresh_area}
use Rattle.swizzle.specs.Objects.{Object, HasRoomForBytes, size_of, object_words, IsFit, AreReferences, AreFit, words_of_all, size_of_all, objects_of, replace_from}
use Rattle.swizzle.specs.Heap.{Heap, IsHeap, IsHeld, AreNoted, found, object_at, local_of, nothing, with_object, with_new, top_of, IsInside, is_assigned, is_reached, flagged, unflagged, reach_flagged, reach_unflagged, reference_to, blank, fresh_heap}
use Rattle.swizzle.specs.Mapped.{heap_from}
use Rattle.swizzle.specs.Kept.{Beside, IsKept, IsMapped, Noted, with_room}
use Rattle.swizzle.specs.View.{heap_of, beside_of, noted_of, IsKeptIn}
use Rattle.swizzle.specs.declared.swizzle.Swizzle.TheInside.{Inside}
use Rattle.swizzle.proofs.HeapLaws.{IsHeap-replaced, IsHeap-new, room-objects}
use Rattle.swizzle.proofs.ChainedLaws.{mapped-replaced, mapped-none}
use Rattle.swizzle.proofs.NotedLaws.{both-replaced, noted-new, noted-none, flag_is_not, reach_is_not, marked-lt}
use Rattle.swizzle.proofs.ObjectLaws.{words_of_all-append, objects_of-words, length-words_of_all, Split, split, word_of_object, set_of_object, size_of_all-append}

abbrev pub heap_with : List Object → ℕ → Noted → Heap
heap_with os size noted = record { objects = os; size = size; assigned = noted.assigned; reached = noted.reached }

-- the lists of a heap
abbrev pub lists_of : Heap → Noted
lists_of heap = record { assigned = heap.assigned; reached = heap.reached }

-- An object of the heap, and where it lies in the words.
pub record Lies (words : List ℕ) (heap : Heap) (at : ℕ) : Type 0 where
  pub is : found heap at ≡ Some (object_at heap at)
  pub split : Split 1 heap.objects at (object_at heap at)
  pub heap_is : IsHeap heap
  pub cut : words_of_all heap.objects ≡ words
  pub from : 1 ≤ at
  pub to : at + size_of (object_at heap at) ≤ length words + 1
  pub small : length words ≤ 2 ^ 25

pub held_is : (heap : Heap) (at : ℕ) → IsHeld heap at → found heap at ≡ Some (object_at heap at)
held_is heap at held = held.is ∙ ap (λ (x : Object). Some x) (sym (ap (λ (o : Option Object). unwrap_or o nothing) held.is))

size_around : (front : List Object) (o : Object) (back : List Object) → size_of_all (front ++ o ∷ back) ≡ size_of_all front + (size_of o + size_of_all back)
size_around front o back = size_of_all-append front (o ∷ back)

pub lies : (words : List ℕ) (size : ℕ) (noted : Noted) (heap : Heap) (at : ℕ) → heap_from words size noted ≡ heap → words_of_all (objects_of words) ≡ words → IsHeap (heap_from words size noted) → IsHeld heap at → Lies words heap at
lies words size noted heap at e cut h held =
    let is = held_is heap at held in
    let good : IsHeap heap = subst IsHeap e h in
    let parts = split 1 heap.objects at (object_at heap at) good.fit is in
    let all : words_of_all heap.objects ≡ words = ap (λ (x : Heap). words_of_all x.objects) (sym e) ∙ cut in
    let long : length words ≡ size_of_all heap.objects = ap length (sym all) ∙ length-words_of_all heap.objects good.fit in
    let around = ap size_of_all parts.is ∙ size_around parts.front (object_at heap at) parts.back in
    record {
      is = is;
      split = parts;
      heap_is = good;
      cut = all;
      from = omega (arith, parts.place);
      to = omega (arith, parts.place);
      small = omega (arith, good.within, good.small);
    }

pub lies-given : (area : AreaView) (heap : Heap) (at k place : ℕ) → Lies area.words heap at → place ≡ at + k → k < size_of (object_at heap at) → IsGivenOut area place 1
lies-given area heap at k place l e below = record { placed = omega (arith, l.from); below = omega (arith, l.to) }

same_four : {a b c d p q r s : ℕ} → a ≡ p → b ≡ q → c ≡ r → d ≡ s → a ∷ b ∷ c ∷ d ∷ [] ≡ p ∷ q ∷ r ∷ s ∷ []
same_four {a} {b} {c} {d} {p} {q} {r} {s} ea eb ec ed = cc

pub lies-word : (words : List ℕ) (heap : Heap) (at k : ℕ) → Lies words heap at → k < size_of (object_at heap at) → slice_index words (at + k - 1) ≡ slice_index (object_words (object_at heap at)) k
lies-word words heap at k l below =
    ap (λ (ws : List ℕ). slice_index ws (at + k - 1)) (sym l.cut) ∙ word_of_object heap.objects at k (object_at heap at) l.split below

pub lies-word_at : (words : List ℕ) (heap : Heap) (at k place w : ℕ) → Lies words heap at → place ≡ at + k → k < size_of (object_at heap at) → w ≡ slice_index words (place - 1) → w ≡ slice_index (object_words (object_at heap at)) k
lies-word_at words heap at k place w l e below r =
    r ∙ ap (λ (n : ℕ). slice_index words (n - 1)) e ∙ lies-word words heap at k l below

-- the four words of the header
pub lies-header : (words : List ℕ) (heap : Heap) (at a b c d : ℕ) → Lies words heap at → a ≡ slice_index words (at - 1) → b ≡ slice_index words (at + 1 - 1) → c ≡ slice_index words (at + 2 - 1) → d ≡ slice_index words (at + 3 - 1) → a ∷ b ∷ c ∷ d ∷ [] ≡ header_words (object_at heap at).header
lies-header words heap at a b c d l ea eb ec ed =
    let wa = lies-word_at words heap at 0 at a l (omega arith) (omega arith) ea in
    let wb = lies-word_at words heap at 1 (at + 1) b l (omega arith) (omega arith) eb in
    let wc = lies-word_at words heap at 2 (at + 2) c l (omega arith) (omega arith) ec in
    let wd = lies-word_at words heap at 3 (at + 3) d l (omega arith) (omega arith) ed in
    same_four wa wb wc wd

-- the heap whose objects these words are
pub seen_again : (os : List Object) (words : List ℕ) (size : ℕ) (noted : Noted) → AreFit os → words ≡ words_of_all os → heap_from words size noted ≡ heap_with os size noted
seen_again os words size noted fit e =
    ap (λ (x : List Object). heap_with x size noted) (ap objects_of e ∙ objects_of-words os fit)

kept_again : (os : List Object) (words : List ℕ) (size : ℕ) (noted : Noted) (b : Beside) → words ≡ words_of_all os → IsHeap (heap_with os size noted) → size ≤ 5 * b.places + 5 → size ≤ 5 * b.stops + 5 → IsMapped os size b → IsKept words size noted b
kept_again os words size noted b e h room stop pids =
    let is : objects_of words ≡ os = ap objects_of e ∙ objects_of-words os h.fit in
    record {
      cut = ap words_of_all is ∙ sym e;
      heap = subst (λ (x : List Object). IsHeap (heap_with x size noted)) (sym is) h;
      for_assigned = room;
      for_reached = stop;
      pids = subst (λ (x : List Object). IsMapped x size b) (sym is) pids;
    }

pub lies_in : (a : Inside) (heap : Heap) (at : ℕ) → heap_of a ≡ heap → IsKeptIn a → IsHeld heap at → Lies a.area.words heap at
lies_in a heap at e kept held = lies a.area.words a.area.size (noted_of a) heap at e kept.cut kept.heap held

-- What is kept again, and the heap that is seen.
pub record Again (words : List ℕ) (size : ℕ) (noted : Noted) (b : Beside) (heap : Heap) : Type 0 where
  pub kept : IsKept words size noted b
  pub seen : heap_from words size noted ≡ heap

pub again : (os : List Object) (words : List ℕ) (size : ℕ) (noted : Noted) (b : Beside) → words ≡ words_of_all os → IsHeap (heap_with os size noted) → size ≤ 5 * b.places + 5 → size ≤ 5 * b.stops + 5 → IsMapped os size b → Again words size noted b (heap_with os size noted)
again os words size noted b e h room stop pids = record {
  kept = kept_again os words size noted b e h room stop pids;
  seen = seen_again os words size noted h.fit e;
}

-- the words of an object are written anew, and the list of the assigned may change
pub relaid : (a : Inside) (new : AreaView) (more : Noted) (places stops : ℕ) (heap : Heap) (at : ℕ) (o : Object) → heap_of a ≡ heap → IsKeptIn a → Lies a.area.words heap at
    → new.words ≡ words_of_all (replace_from 1 heap.objects at o) → new.size ≡ a.area.size → IsFit o → size_of o ≡ size_of (object_at heap at) → o.header.pid ≡ (object_at heap at).header.pid → o.header.chain ≡ (object_at heap at).header.chain
    → AreNoted is_assigned (replace_from 1 heap.objects at o) more.assigned → AreNoted is_reached (replace_from 1 heap.objects at o) more.reached → a.area.size ≤ 5 * places + 5 → a.area.size ≤ 5 * stops + 5 → IsInside heap o
    → Again new.words new.size more (with_room (beside_of a) places stops) (heap_with (replace_from 1 heap.objects at o) heap.size more)
relaid a new more places stops heap at o e kept l words size_is fit long pid link noted walked room stop inside =
    let was : a.area.size ≡ heap.size = ap (λ (x : Heap). x.size) e in
    let size : new.size ≡ heap.size = size_is ∙ was in
    let objects : objects_of a.area.words ≡ heap.objects = ap (λ (x : Heap). x.objects) e in
    let b = with_room (beside_of a) places stops in
    let pids : IsMapped heap.objects heap.size (beside_of a) =
    subst (λ (n : ℕ). IsMapped heap.objects n (beside_of a)) was (subst (λ (os : List Object). IsMapped os a.area.size (beside_of a)) objects kept.pids) in
    let it = again (replace_from 1 heap.objects at o) new.words heap.size more b words
    (IsHeap-replaced heap at (object_at heap at) o more.assigned more.reached l.heap_is l.is fit long pid noted walked inside)
    (omega arith) (omega arith) (mapped-replaced heap.objects heap.size (beside_of a) places stops at (object_at heap at) o pids l.is long pid link) in
    subst (λ (n : ℕ). Again new.words n more b (heap_with (replace_from 1 heap.objects at o) heap.size more)) (sym size) it

-- one word of it is written
pub rewritten : (a : Inside) (new : AreaView) (more : Noted) (places stops : ℕ) (heap : Heap) (at k place v : ℕ) (o : Object) → heap_of a ≡ heap → IsKeptIn a → Lies a.area.words heap at → new ≡ with_word a.area place v → place ≡ at + k → k < size_of (object_at heap at) → set (object_words (object_at heap at)) k v ≡ object_words o → IsFit o → size_of o ≡ size_of (object_at heap at) → o.header.pid ≡ (object_at heap at).header.pid → o.header.chain ≡ (object_at heap at).header.chain → AreNoted is_assigned (replace_from 1 heap.objects at o) more.assigned → AreNoted is_reached (replace_from 1 heap.objects at o) more.reached → a.area.size ≤ 5 * places + 5 → a.area.size ≤ 5 * stops + 5 → IsInside heap o
    → Again new.words new.size more (with_room (beside_of a) places stops) (heap_with (replace_from 1 heap.objects at o) heap.size more)
rewritten a new more places stops heap at k place v o e kept l written place_is below set_is fit long pid link noted walked room stop inside =
    let words : new.words ≡ words_of_all (replace_from 1 heap.objects at o) =
    ap (λ (x : AreaView). x.words) written
    ∙ ap (λ (n : ℕ). set a.area.words (n - 1) v) place_is
    ∙ ap (λ (ws : List ℕ). set ws (at + k - 1) v) (sym l.cut)
    ∙ set_of_object heap.objects at k v (object_at heap at) o l.split below set_is in
    relaid a new more places stops heap at o e kept l words (ap (λ (x : AreaView). x.size) written) fit long pid link noted walked room stop inside

-- the lists stay where the header does
pub noted_still : (heap : Heap) (at : ℕ) (o : Object) → IsHeap heap → found heap at ≡ Some (object_at heap at) → o.header ≡ (object_at heap at).header
    → AreNoted is_assigned (replace_from 1 heap.objects at o) heap.assigned × AreNoted is_reached (replace_from 1 heap.objects at o) heap.reached
noted_still heap at o h is head = both-replaced heap at (object_at heap at) o h.noted h.walked is (ap object_length head) (ap (λ (x : Header). x.flags) head)

-- the same where the header stays
pub relaid_same : (a : Inside) (new : AreaView) (heap : Heap) (at : ℕ) (o : Object) → heap_of a ≡ heap → IsKeptIn a → Lies a.area.words heap at
    → new.words ≡ words_of_all (replace_from 1 heap.objects at o) → new.size ≡ a.area.size → IsFit o → o.header ≡ (object_at heap at).header → IsInside heap o → Again new.words new.size (noted_of a) (beside_of a) (with_object heap at o)
relaid_same a new heap at o e kept l words size_is fit head inside =
    let lists : noted_of a ≡ lists_of heap = ap lists_of e in
    let still = noted_still heap at o l.heap_is l.is head in
    let now = replace_from 1 heap.objects at o in
    let it = relaid a new (noted_of a) (vec_capacity a.assigned) (vec_capacity a.reached) heap at o e kept l words size_is fit
    (ap object_length head) (ap (λ (h : Header). h.pid) head) (ap (λ (h : Header). h.chain) head)
    (subst (λ (x : Noted). AreNoted is_assigned now x.assigned) (sym lists) still.0) (subst (λ (x : Noted). AreNoted is_reached now x.reached) (sym lists) still.1)
    kept.for_assigned kept.for_reached inside in
    subst (λ (x : Noted). Again new.words new.size (noted_of a) (beside_of a) (heap_with now heap.size x)) lists it

pub rewritten_same : (a : Inside) (new : AreaView) (heap : Heap) (at k place v : ℕ) (o : Object) → heap_of a ≡ heap → IsKeptIn a → Lies a.area.words heap at → new ≡ with_word a.area place v → place ≡ at + k → k < size_of (object_at heap at) → set (object_words (object_at heap at)) k v ≡ object_words o → IsFit o → o.header ≡ (object_at heap at).header → IsInside heap o → Again new.words new.size (noted_of a) (beside_of a) (with_object heap at o)
rewritten_same a new heap at k place v o e kept l written place_is below set_is fit head inside =
    let words : new.words ≡ words_of_all (replace_from 1 heap.objects at o) =
    ap (λ (x : AreaView). x.words) written
    ∙ ap (λ (n : ℕ). set a.area.words (n - 1) v) place_is
    ∙ ap (λ (ws : List ℕ). set ws (at + k - 1) v) (sym l.cut)
    ∙ set_of_object heap.objects at k v (object_at heap at) o l.split below set_is in
    relaid_same a new heap at o e kept l words (ap (λ (x : AreaView). x.size) written) fit head inside

-- a reference to an object of the area is one
pub target_fits : (a : Inside) (heap : Heap) (to : Option ℕ) → heap_of a ≡ heap → IsKeptIn a → IfSome to (IsHeld heap) → IsReference (reference_to to)
target_fits a heap None e kept held = tt
target_fits a heap (Some at) e kept held =
    let l = lies_in a heap at e kept held in
    (l.from, omega (arith, l.to, l.small))

-- The flags in the first word: that of an assigned object counts 256 there, and that of a reached one 512.

pub set_of_flag : (o : Object) (w : ℕ) → w ≡ slice_index (object_words o) 0 → set (object_words o) 0 (w + 256) ≡ object_words (flagged o)
set_of_flag o w e =
    ap (λ (n : ℕ). n ∷ (o.header.pid ∷ (o.header.nums + 2 ^ 32 * o.header.bytes) ∷ o.header.chain ∷ (map reference_word o.refs ++ o.nums))) (omega arith)

pub clear_of_flag : (o : Object) (w : ℕ) → w ≡ slice_index (object_words o) 0 → 1 ≤ o.header.flags → set (object_words o) 0 (w - 256) ≡ object_words (unflagged o)
clear_of_flag o w e some =
    ap (λ (n : ℕ). n ∷ (o.header.pid ∷ (o.header.nums + 2 ^ 32 * o.header.bytes) ∷ o.header.chain ∷ (map reference_word o.refs ++ o.nums))) (omega arith)

pub set_of_reach : (o : Object) (w : ℕ) → w ≡ slice_index (object_words o) 0 → set (object_words o) 0 (w + 512) ≡ object_words (reach_flagged o)
set_of_reach o w e =
    ap (λ (n : ℕ). n ∷ (o.header.pid ∷ (o.header.nums + 2 ^ 32 * o.header.bytes) ∷ o.header.chain ∷ (map reference_word o.refs ++ o.nums))) (omega arith)

pub clear_of_reach : (o : Object) (w : ℕ) → w ≡ slice_index (object_words o) 0 → 2 ≤ o.header.flags → set (object_words o) 0 (w - 512) ≡ object_words (reach_unflagged o)
clear_of_reach o w e some =
    ap (λ (n : ℕ). n ∷ (o.header.pid ∷ (o.header.nums + 2 ^ 32 * o.header.bytes) ∷ o.header.chain ∷ (map reference_word o.refs ++ o.nums))) (omega arith)

pub first_word-lt : (o : Object) (w : ℕ) → IsFit o → w ≡ slice_index (object_words o) 0 → w + 512 < 2 ^ 64
first_word-lt o w fit e = omega (arith, fit.fields.flags, fit.lengths.words, kind_number-lt o.header.kind)

-- bit 8 of the first word is the flag of an assigned object
flag_of_word : (o : Object) (w : ℕ) → IsFit o → w ≡ slice_index (object_words o) 0 → w / 256 % 2 ≡ o.header.flags % 2
flag_of_word o w fit e = omega (arith, kind_number-lt o.header.kind)

pub lies-flag : (words : List ℕ) (heap : Heap) (at w : ℕ) → Lies words heap at → w ≡ slice_index words (at - 1) → w / 256 % 2 ≡ (object_at heap at).header.flags % 2
lies-flag words heap at w l e = flag_of_word (object_at heap at) w l.split.fit (lies-word_at words heap at 0 at w l (omega arith) (omega arith) e)

-- and bit 9 that of a reached one
reach_of_word : (o : Object) (w : ℕ) → IsFit o → w ≡ slice_index (object_words o) 0 → w / 512 % 2 ≡ o.header.flags / 2 % 2
reach_of_word o w fit e = omega (arith, kind_number-lt o.header.kind)

pub lies-reach : (words : List ℕ) (heap : Heap) (at w : ℕ) → Lies words heap at → w ≡ slice_index words (at - 1) → w / 512 % 2 ≡ (object_at heap at).header.flags / 2 % 2
lies-reach words heap at w l e = reach_of_word (object_at heap at) w l.split.fit (lies-word_at words heap at 0 at w l (omega arith) (omega arith) e)

-- the object with other flags
reflagged : (o : Object) (flags : ℕ) → IsFit o → flags < 2 ^ 8 → IsFit (record o { header = record (o.header) { flags = flags } })
reflagged o flags fit h = record {
  fields = record {
    flags = h;
    refs = fit.fields.refs;
    nums = fit.fields.nums;
    bytes = fit.fields.bytes;
    pid = fit.fields.pid;
    chain = fit.fields.chain;
  };
  lengths = record { bytes = fit.lengths.bytes; words = fit.lengths.words };
  pid = fit.pid;
  refs = fit.refs;
  nums = fit.nums;
  home = fit.home;
  bytes = fit.bytes;
  references = fit.references;
  words = fit.words;
}

pub IsFit-flagged : (o : Object) → IsFit o → o.header.flags % 2 ≢ 1 → IsFit (flagged o)
IsFit-flagged o fit ne = reflagged o (o.header.flags + 1) fit (omega (arith, fit.fields.flags))

pub IsFit-unflagged : (o : Object) → IsFit o → IsFit (unflagged o)
IsFit-unflagged o fit = reflagged o (o.header.flags - 1) fit (omega (arith, fit.fields.flags))

pub IsFit-reach_flagged : (o : Object) → IsFit o → o.header.flags / 2 % 2 ≢ 1 → IsFit (reach_flagged o)
IsFit-reach_flagged o fit ne = reflagged o (o.header.flags + 2) fit (omega (arith, fit.fields.flags))

pub IsFit-reach_unflagged : (o : Object) → IsFit o → IsFit (reach_unflagged o)
IsFit-reach_unflagged o fit = reflagged o (o.header.flags - 2) fit (omega (arith, fit.fields.flags))

pub room_to_mark : (heap : Heap) (at : ℕ) (o : Object) (places : ℕ) → IsHeap heap → found heap at ≡ Some o → o.header.flags % 2 ≢ 1 → heap.size ≤ 5 * places + 5 → length heap.assigned < places
room_to_mark heap at o places h is ne room =
    omega (arith, h.noted.counted, h.within, marked-lt is_assigned 1 heap.objects at o is (flag_is_not o ne), room-objects heap.objects h.fit)

pub room_to_reach : (heap : Heap) (at : ℕ) (o : Object) (stops : ℕ) → IsHeap heap → found heap at ≡ Some o → o.header.flags / 2 % 2 ≢ 1 → heap.size ≤ 5 * stops + 5 → length heap.reached < stops
room_to_reach heap at o stops h is ne room =
    omega (arith, h.walked.counted, h.within, marked-lt is_reached 1 heap.objects at o is (reach_is_not o ne), room-objects heap.objects h.fit)

-- The area after words were given out and written.

pub written_new : (words ws : List ℕ) (n place : ℕ) → place ≡ length words → length ws ≤ n → overwritten (words ++ replicate n 0) place ws ≡ words ++ (ws ++ replicate (n - length ws) 0)
written_new words ws n place e h =
    let long : length (replicate n 0) ≡ n = length-replicate {A = ℕ} n 0 in
    let whole = words ++ replicate n 0 in
    let behind : drop (place + length ws) whole ≡ replicate (n - length ws) 0 =
    sym (drop-drop (length ws) place whole) ∙ ap (drop (length ws)) (drop_at words (replicate n 0) place (sym e)) ∙ drop-replicate (length ws) n 0 in
    overwritten-inside whole place ws (omega (arith, long, e, length-append words (replicate n 0)))
    ∙ ap (λ (r : List ℕ). r ++ (ws ++ drop (place + length ws) whole)) (take_at words (replicate n 0) place (sym e))
    ∙ ap (λ (r : List ℕ). words ++ (ws ++ r)) behind

nil_words : (n : ℕ) → map reference_word (replicate n Nil) ≡ replicate n 0
nil_words zero = refl
nil_words (suc n) = ap (λ (r : List ℕ). 0 ∷ r) (nil_words n)

pub blank_words : (kind : Kind) (refs nums bytes : ℕ) → object_words (blank kind refs nums bytes) ≡ header_words (blank kind refs nums bytes).header ++ replicate (refs + nums) 0
blank_words kind refs nums bytes =
    ap (λ (r : List ℕ). header_words (blank kind refs nums bytes).header ++ (r ++ replicate nums 0)) (nil_words refs)
    ∙ ap (λ (r : List ℕ). header_words (blank kind refs nums bytes).header ++ r) (replicate-append-replicate refs nums 0)

nil_references : (n : ℕ) → AreReferences (replicate n Nil)
nil_references zero = tt
nil_references (suc n) = (tt, nil_references n)

zero_words : (n : ℕ) → AreWords (replicate n 0)
zero_words zero k = omega arith
zero_words (suc n) zero = omega arith
zero_words (suc n) (suc k) = zero_words n k

pub IsFit-blank : (kind : Kind) (refs nums bytes : ℕ) → refs < 2 ^ 32 → nums < 2 ^ 32 → bytes < 2 ^ 32 → 1 ≤ nums → HasFitLengths (blank kind refs nums bytes).header → HasRoomForBytes kind nums bytes → IsFit (blank kind refs nums bytes)
IsFit-blank kind refs nums bytes a b c home lengths room = record {
  fields = record { flags = omega arith; refs = a; nums = b; bytes = c; pid = omega arith; chain = omega arith };
  lengths = lengths;
  pid = omega arith;
  refs = length-replicate refs Nil;
  nums = length-replicate nums 0;
  home = home;
  bytes = room;
  references = nil_references refs;
  words = zero_words nums;
}

one_more : (os : List Object) (new : Object) → words_of_all (os ++ new ∷ []) ≡ words_of_all os ++ object_words new
one_more os new = words_of_all-append os (new ∷ []) ∙ ap (λ (r : List ℕ). words_of_all os ++ r) (append-nil (object_words new))

-- an object that is neither assigned nor reached is laid after the others
pub laid : (a : Inside) (new : AreaView) (b : Beside) (heap : Heap) (o : Object) → heap_of a ≡ heap → IsKeptIn a → new.words ≡ a.area.words ++ object_words o → new.size ≡ a.area.size → IsFit o → top_of heap + size_of o ≤ heap.size → is_assigned o ≡ false → is_reached o ≡ false → (1 ≤ o.header.pid → local_of heap o.header.pid ≡ None) → IsInside heap o
    → b.places ≡ vec_capacity a.assigned → b.stops ≡ vec_capacity a.reached → (IsMapped heap.objects heap.size (beside_of a) → IsMapped (heap.objects ++ o ∷ []) heap.size b) → Again new.words new.size (noted_of a) b (with_new heap o)
laid a new b heap o e kept written size_is fit room plain bare apart inside places stops pids_now =
    let size : a.area.size ≡ heap.size = ap (λ (x : Heap). x.size) e in
    let objects : objects_of a.area.words ≡ heap.objects = ap (λ (x : Heap). x.objects) e in
    let lists : noted_of a ≡ lists_of heap = ap lists_of e in
    let good : IsHeap heap = subst IsHeap e kept.heap in
    let pids : IsMapped heap.objects heap.size (beside_of a) =
    subst (λ (n : ℕ). IsMapped heap.objects n (beside_of a)) size (subst (λ (os : List Object). IsMapped os a.area.size (beside_of a)) objects kept.pids) in
    let words : new.words ≡ words_of_all (heap.objects ++ o ∷ []) =
    written ∙ ap (λ (r : List ℕ). r ++ object_words o) (sym kept.cut ∙ ap words_of_all objects) ∙ sym (one_more heap.objects o) in
    let it = again (heap.objects ++ o ∷ []) new.words heap.size (lists_of heap) b words
    (IsHeap-new heap o good fit room (noted-new is_assigned heap.objects heap.assigned o good.noted plain) (noted-new is_reached heap.objects heap.reached o good.walked bare) apart inside)
    (omega (arith, kept.for_assigned)) (omega (arith, kept.for_reached)) (pids_now pids) in
    subst (λ (n : ℕ). Again new.words n (noted_of a) b (with_new heap o)) (sym (size_is ∙ size))
    (subst (λ (x : Noted). Again new.words heap.size x b (with_new heap o)) (sym lists) it)

pub kept_long : (a : Inside) (heap : Heap) → heap_of a ≡ heap → IsKeptIn a → length a.area.words ≡ size_of_all heap.objects
kept_long a heap e kept =
    let objects : objects_of a.area.words ≡ heap.objects = ap (λ (x : Heap). x.objects) e in
    let good : IsHeap heap = subst IsHeap e kept.heap in
    ap length (sym kept.cut ∙ ap words_of_all objects) ∙ length-words_of_all heap.objects good.fit

-- the heap that is seen over these areas
abbrev pub heap_is : AreaView → Noted → Heap
heap_is area noted = heap_from area.words area.size noted

abbrev pub none_noted : Noted
none_noted = record { assigned = []; reached = [] }

pub none-noted : {a b : List ℕ} → a ≡ [] → b ≡ [] → record { assigned = a; reached = b } ≡ none_noted
none-noted ea eb = cc

pub fresh_again : (words : ℕ) (area : AreaView) (noted : Noted) (b : Beside) (buckets : ℕ) → area ≡ fresh_area (words + 1) → noted ≡ none_noted → 1 ≤ buckets → b.heads ≡ replicate buckets 0 → b.greatest ≡ 0 → words ≤ 2 ^ 25
    → words + 1 ≤ 5 * b.places + 5 → words + 1 ≤ 5 * b.stops + 5 → words ≤ b.room → Again area.words area.size noted b (fresh_heap (words + 1))
fresh_again words area noted b buckets e a some none least h room stop buffer =
    let pids : IsMapped [] (words + 1) b = mapped-none buckets (words + 1) b some none least (omega arith) in
    let it : Again [] (words + 1) none_noted b (fresh_heap (words + 1)) = again [] [] (words + 1) none_noted b refl
    (record { fit = tt; within = omega arith; small = omega arith; one = λ at o is some. absurd (cc); inside = λ at o is slot to r. absurd (cc); noted = noted-none is_assigned; walked = noted-none is_reached }) room stop pids in
    subst (λ (x : AreaView). Again x.words x.size noted b (fresh_heap (words + 1))) (sym e)
    (subst (λ (x : Noted). Again [] (words + 1) x b (fresh_heap (words + 1))) (sym a) it)

-- the references stay inside
pub inside_kept : (heap : Heap) (at : ℕ) → IsHeap heap → IsHeld heap at → IsInside heap (object_at heap at)
inside_kept heap at h held = h.inside at (object_at heap at) (held_is heap at held)

set_at_cases : (rs : List Reference) (k slot : ℕ) (to : Reference) → (get_or (set rs k to) slot Nil ≡ to) ⊎ (get_or (set rs k to) slot Nil ≡ get_or rs slot Nil)
set_at_cases [] k slot to = inr refl
set_at_cases (r ∷ rs) zero zero to = inl refl
set_at_cases (r ∷ rs) zero (suc slot) to = inr refl
set_at_cases (r ∷ rs) (suc k) zero to = inr refl
set_at_cases (r ∷ rs) (suc k) (suc slot) to = set_at_cases rs k slot to

place_in : Reference → ℕ
place_in Nil = 0
place_in (Pid pid) = 0
place_in (Local at) = at

held_target : (heap : Heap) (to : Option ℕ) (i : ℕ) → IfSome to (IsHeld heap) → reference_to to ≡ Local i → IsHeld heap i
unfolding place_in
held_target heap None i held e = absurd (cc)
held_target heap (Some at) i held e = subst (IsHeld heap) (ap place_in e) held

-- a reference of an object of the area is written into another one
pub inside_copied : (heap : Heap) (at k : ℕ) (to : Reference) → IsHeap heap → IsHeld heap at → ((i : ℕ) → to ≡ Local i → IsHeld heap i) → IsInside heap (record (object_at heap at) { refs = set (object_at heap at).refs k to })
inside_copied heap at k to h held target slot i r =
    elim (set_at_cases (object_at heap at).refs k slot to) [
      | inl it ↦ target i (sym it ∙ r)
      | inr was ↦ inside_kept heap at h held slot i (sym was ∙ r)
    ]

pub inside_set : (heap : Heap) (at k : ℕ) (to : Option ℕ) → IsHeap heap → IsHeld heap at → IfSome to (IsHeld heap) → IsInside heap (record (object_at heap at) { refs = set (object_at heap at).refs k (reference_to to) })
inside_set heap at k to h held target = inside_copied heap at k (reference_to to) h held (λ i e. held_target heap to i target e)

pub inside_nil : (heap : Heap) (n slot to : ℕ) → get_or (replicate n Nil) slot Nil ≡ Local to → IsHeld heap to
inside_nil heap zero slot to e = absurd (cc)
inside_nil heap (suc n) zero to e = absurd (cc)
inside_nil heap (suc n) (suc slot) to e = inside_nil heap n slot to e
