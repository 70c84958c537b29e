-- The words of an object as a vault has them.
use Rattle.std.proofs.Common.{inl, inr, ◌≡◌, ℕ, zero, suc, ◌+◌, ◌-◌, ◌<◌, ◌≤◌, ◌^◌, List, [], ◌∷◌, ◌++◌, length, map, get_or, take, drop, refl, sym, ap, ◌∙◌, subst, arith, append_assoc, length-append}
use Rattle.std.proofs.lemmas.List.{append-nil, length-map, drop_at, take_at}
use Rattle.obj_layout.specs.declared.reference.Reference.{Reference}
use Rattle.obj_layout.specs.declared.reference.Reference.TheVariants.{Nil, Pid, Local}
use Rattle.obj_layout.specs.Reference.{IsReference, reference_word}
use Rattle.obj_layout.specs.Header.{header_words}
use Rattle.swizzle.specs.Objects.{Object, object_words, object_in, size_of_all, words_of_all, AreReferences, IsFit}
use Rattle.swizzle.specs.Heap.{Heap, IsHeap, IsHeld, object_at, header_at}
use Rattle.swizzle.specs.Joint.{shown, shown_at, shown_words, name_at, name_of, far_of}
use Rattle.swizzle.specs.Image.{far_object, HasPids}
use Rattle.swizzle.specs.Fetched.{IsFarWord, IsFar}
use Rattle.swizzle.proofs.ObjectLaws.{object_in-words, length-object_words, word_of_ref, AreReferences-at, split, length-words_of_all, words_of_all-append}
use Rattle.swizzle.proofs.KeptLaws.{Lies, held_is}
use Rattle.swizzle.proofs.NameLaws.{name-pid}

pub pid-lt : (heap : Heap) (at : ℕ) → IsHeap heap → IsHeld heap at → (header_at heap at).pid < 2 ^ 63
pid-lt heap at h held = (split 1 heap.objects at (object_at heap at) h.fit (held_is heap at held)).fit.pid

pub refs-long : (heap : Heap) (at : ℕ) → IsHeap heap → IsHeld heap at → length (object_at heap at).refs ≡ (header_at heap at).refs
refs-long heap at h held = (split 1 heap.objects at (object_at heap at) h.fit (held_is heap at held)).fit.refs

-- the number words of an object among all words
nums_part : (front : List ℕ) (o : Object) (back : List ℕ) (k : ℕ) → IsFit o → k ≡ length front + (4 + o.header.refs) → take o.header.nums (drop k (front ++ (object_words o ++ back))) ≡ o.nums
nums_part front o back k fit e =
    let refs = map reference_word o.refs in
    let head = header_words o.header ++ refs in
    let long : length refs ≡ o.header.refs = length-map o.refs reference_word ∙ fit.refs in
    let whole : front ++ (object_words o ++ back) ≡ (front ++ head) ++ (o.nums ++ back) =
    ap (λ (r : List ℕ). front ++ r) (ap (λ (r : List ℕ). header_words o.header ++ r) (append_assoc refs o.nums back)) ∙ sym (append_assoc front head (o.nums ++ back)) in
    let count : length (front ++ head) ≡ k = omega (arith, length-append front head, length-append (header_words o.header) refs) in
    ap (λ (r : List ℕ). take o.header.nums (drop k r)) whole
    ∙ ap (take o.header.nums) (drop_at (front ++ head) (o.nums ++ back) k count)
    ∙ take_at o.nums back o.header.nums fit.nums

pub lies-nums : (words : List ℕ) (heap : Heap) (at place : ℕ) → Lies words heap at → place ≡ at + (4 + (object_at heap at).header.refs) → take (object_at heap at).header.nums (drop (place - 1) words) ≡ (object_at heap at).nums
lies-nums words heap at place l e =
    let o = object_at heap at in
    let s = l.split in
    let front = words_of_all s.front in
    let long : length front ≡ size_of_all s.front = length-words_of_all s.front s.fit_front in
    let whole : words ≡ front ++ (object_words o ++ words_of_all s.back) = sym l.cut ∙ ap words_of_all s.is ∙ words_of_all-append s.front (o ∷ s.back) in
    ap (λ (r : List ℕ). take o.header.nums (drop (place - 1) r)) whole
    ∙ nums_part front o (words_of_all s.back) (place - 1) s.fit (omega (arith, s.place))

-- a name that is a PID
abbrev HasPid : Heap → ℕ → Type 0
HasPid heap to = (1 ≤ (header_at heap to).pid) × ((header_at heap to).pid < 2 ^ 63)

far_names_fit : (heap : Heap) (refs : List Reference) → AreReferences refs → ((slot to : ℕ) → get_or refs slot Nil ≡ Local to → HasPid heap to) → AreReferences (map (name_of heap) refs)
far_names_fit heap [] fit pids = tt
far_names_fit heap (Nil ∷ rs) fit pids = (tt, far_names_fit heap rs fit.1 (λ slot. pids (suc slot)))
far_names_fit heap (Pid p ∷ rs) fit pids = (fit.0, far_names_fit heap rs fit.1 (λ slot. pids (suc slot)))
far_names_fit heap (Local to ∷ rs) fit pids =
    let h = pids 0 to refl in
    (subst IsReference (sym (name-pid (header_at heap to) to h.0)) (h.0, h.1), far_names_fit heap rs fit.1 (λ slot. pids (suc slot)))

far_names_same : (heap : Heap) (refs : List Reference) → ((slot to : ℕ) → get_or refs slot Nil ≡ Local to → HasPid heap to) → map far_of (map (name_of heap) refs) ≡ map (name_of heap) refs
far_names_same heap [] pids = refl
far_names_same heap (Nil ∷ rs) pids = ap (λ (r : List Reference). Nil ∷ r) (far_names_same heap rs (λ slot. pids (suc slot)))
far_names_same heap (Pid p ∷ rs) pids = ap (λ (r : List Reference). Pid p ∷ r) (far_names_same heap rs (λ slot. pids (suc slot)))
far_names_same heap (Local to ∷ rs) pids =
    let h = pids 0 to refl in
    let name = name-pid (header_at heap to) to h.0 in
    let one : far_of (name_at heap to) ≡ name_at heap to = ap far_of name ∙ sym name in
    let more = far_names_same heap rs (λ slot. pids (suc slot)) in
    cc

-- a reference to an object of the area has the PID of that
all_pids : (heap : Heap) (at : ℕ) → IsHeap heap → IsHeld heap at → HasPids heap at → (slot to : ℕ) → get_or (object_at heap at).refs slot Nil ≡ Local to → HasPid heap to
all_pids heap at h held pids slot to e = (pids slot to e, pid-lt heap to h (h.inside at (object_at heap at) (held_is heap at held) slot to e))

get_or-far : (rs : List Reference) (slot : ℕ) → get_or (map far_of rs) slot Nil ≡ far_of (get_or rs slot Nil)
get_or-far [] slot = refl
get_or-far (r ∷ rs) zero = refl
get_or-far (r ∷ rs) (suc slot) = get_or-far rs slot

far_fit : (heap : Heap) (at : ℕ) → IsHeap heap → IsHeld heap at → HasPids heap at → IsFit (far_object heap at)
far_fit heap at h held pids =
    let o = object_at heap at in
    let fit = (split 1 heap.objects at o h.fit (held_is heap at held)).fit in
    record {
      fields = record { flags = omega arith; refs = fit.fields.refs; nums = fit.fields.nums; bytes = fit.fields.bytes; pid = omega arith; chain = omega arith };
      lengths = record { bytes = fit.lengths.bytes; words = fit.lengths.words };
      pid = omega arith;
      refs = length-map o.refs (name_of heap) ∙ fit.refs;
      nums = fit.nums;
      home = fit.home;
      bytes = fit.bytes;
      references = far_names_fit heap o.refs fit.references (all_pids heap at h held pids);
      words = fit.words;
    }

-- the words show what the object shows
pub image-shown : (heap : Heap) (at : ℕ) → IsHeap heap → IsHeld heap at → HasPids heap at → shown_words (object_words (far_object heap at)) ≡ shown_at heap at
image-shown heap at h held pids =
    let o = object_at heap at in
    let f = far_object heap at in
    let back : object_in (object_words f) ≡ f = ap object_in (sym (append-nil (object_words f))) ∙ object_in-words f [] (far_fit heap at h held pids) in
    ap (shown far_of) back
    ∙ ap (λ (rs : List Reference). record (shown_at heap at) { refs = rs }) (far_names_same heap o.refs (all_pids heap at h held pids))

far_word_is : (r : Reference) → far_of r ≡ r → IsReference r → IsFarWord (reference_word r)
far_word_is Nil e is = inl refl
far_word_is (Pid pid) e is = inr (let low = is.0 in omega (arith, low))
far_word_is (Local at) e is = absurd (let no : Nil ≡ Local at = e in cc)

-- and they may come into the area again
pub image-far : (heap : Heap) (at : ℕ) → IsHeap heap → IsHeld heap at → HasPids heap at → IsFar (object_words (far_object heap at)) (far_object heap at).header
image-far heap at h held pids =
    let o = object_at heap at in
    let f = far_object heap at in
    let good = far_fit heap at h held pids in
    let same : (slot : ℕ) → far_of (get_or f.refs slot Nil) ≡ get_or f.refs slot Nil = λ slot.
    sym (get_or-far f.refs slot) ∙ ap (λ (rs : List Reference). get_or rs slot Nil) (far_names_same heap o.refs (all_pids heap at h held pids)) in
    record {
      spelled = refl;
      fields = good.fields;
      lengths = good.lengths;
      long = length-object_words f good;
      home = good.home;
      bytes = good.bytes;
      refs = λ slot below.
          subst IsFarWord (sym (word_of_ref f slot good below)) (far_word_is (get_or f.refs slot Nil) (same slot) (AreReferences-at f.refs slot good.references));
    }
