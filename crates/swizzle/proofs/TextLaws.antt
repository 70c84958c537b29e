-- Bytes read from an object, and written over those of one.
use Rattle.std.proofs.Common.{◌≡◌, ℕ, zero, suc, ◌+◌, ◌-◌, ◌*◌, ◌<◌, ◌≤◌, ◌^◌, List, [], ◌∷◌, ◌++◌, length, take, drop, map, refl, sym, ap, ◌∙◌, subst, arith, append_assoc, length-append, length-drop}
use Rattle.std.proofs.lemmas.List.{drop-append-le, take-append-le, take-append-drop, drop-take, drop-drop, take-take, length-map, length-take-le, take_all}
use Rattle.std.proofs.Math.Seq.{take-append-add, drop-append-add}
use Rattle.obj_area.specs.Words.{bytes_of, words_of, AreWords, AreBytes, overwritten}
use Rattle.obj_area.specs.inside.Bytes.{AreWhole}
use Rattle.obj_area.specs.Area.{AreaView, IsGivenOut, words_spanned, byte_place, with_bytes_from}
use Rattle.obj_area.proofs.WordLaws.{overwritten-inside, bytes_of-append, length-bytes_of, words_of-append, words_of-bytes_of, length-words_of, bytes_of-words_of, AreWords-words_of}
use Rattle.obj_area.proofs.AreaLaws.{length-overwritten, AreBytes-bytes_of, AreBelow-overwritten, AreBelow-take, AreBelow-drop}
use Rattle.obj_layout.specs.declared.kind.Kind.{Kind}
use Rattle.obj_layout.specs.declared.kind.Kind.TheVariants.{Text, Code}
use Rattle.obj_layout.specs.Header.{header_words}
use Rattle.obj_layout.specs.declared.header.Header.{Header}
use Rattle.obj_layout.specs.Reference.{reference_word}
use Rattle.swizzle.specs.Objects.{Object, words_before, IsFit, words_of_all, size_of_all, replace_from}
use Rattle.swizzle.specs.Heap.{Heap, object_at}
use Rattle.swizzle.specs.Text.{first_byte, text_of, text_at, with_bytes_at, with_text}
use Rattle.swizzle.specs.View.{heap_of, beside_of, noted_of, IsKeptIn}
use Rattle.swizzle.specs.declared.swizzle.Swizzle.TheInside.{Inside}
use Rattle.swizzle.proofs.ObjectLaws.{words_of_all-append, length-words_of_all}
use Rattle.swizzle.proofs.KeptLaws.{Lies, Again, relaid_same, inside_kept}

-- A part in the middle of a list.

over_mid : (a body b bytes : List ℕ) (k j : ℕ) → k ≡ length a → j + length bytes ≤ length body → overwritten (a ++ (body ++ b)) (k + j) bytes ≡ a ++ (overwritten body j bytes ++ b)
over_mid a body b bytes k j e h =
    let n = length bytes in
    let all = a ++ (body ++ b) in
    let place : k + j ≡ length a + j = omega arith in
    let behind : k + j + n ≡ length a + (j + n) = omega arith in
    let front : take (k + j) all ≡ a ++ take j body =
    ap (λ (m : ℕ). take m all) place ∙ take-append-add a (body ++ b) j ∙ ap (λ (r : List ℕ). a ++ r) (take-append-le j body b (omega arith)) in
    let back : drop (k + j + n) all ≡ drop (j + n) body ++ b =
    ap (λ (m : ℕ). drop m all) behind ∙ drop-append-add a (body ++ b) (j + n) ∙ drop-append-le (j + n) body b h in
    overwritten-inside all (k + j) bytes (omega (arith, length-append a (body ++ b), length-append body b))
    ∙ ap (λ (r : List ℕ). r ++ (bytes ++ drop (k + j + n) all)) front
    ∙ ap (λ (r : List ℕ). (a ++ take j body) ++ (bytes ++ r)) back
    ∙ append_assoc a (take j body) (bytes ++ (drop (j + n) body ++ b))
    ∙ ap (λ (r : List ℕ). a ++ r)
    (ap (λ (r : List ℕ). take j body ++ r) (sym (append_assoc bytes (drop (j + n) body) b))
    ∙ sym (append_assoc (take j body) (bytes ++ drop (j + n) body) b)
    ∙ ap (λ (r : List ℕ). r ++ b) (sym (overwritten-inside body j bytes h)))

take_mid : (a body b : List ℕ) (k j n : ℕ) → k ≡ length a → j + n ≤ length body → take n (drop (k + j) (a ++ (body ++ b))) ≡ take n (drop j body)
take_mid a body b k j n e h =
    let place : k + j ≡ length a + j = omega arith in
    ap (λ (m : ℕ). take n (drop m (a ++ (body ++ b)))) place
    ∙ ap (take n) (drop-append-add a (body ++ b) j ∙ drop-append-le j body b (omega arith))
    ∙ take-append-le n (drop j body) b (omega (arith, length-drop j body))

-- The same in words.

bytes_mid : (a body b : List ℕ) (k j n : ℕ) → k ≡ length a → j + n ≤ 8 * length body → take n (drop (8 * k + j) (bytes_of (a ++ (body ++ b)))) ≡ take n (drop j (bytes_of body))
bytes_mid a body b k j n e h =
    let la = length-bytes_of a in
    let lb = length-bytes_of body in
    ap (λ (r : List ℕ). take n (drop (8 * k + j) r)) (bytes_of-append a (body ++ b) ∙ ap (λ (r : List ℕ). bytes_of a ++ r) (bytes_of-append body b))
    ∙ take_mid (bytes_of a) (bytes_of body) (bytes_of b) (8 * k) j n (omega arith) (omega arith)

words_mid : (a body b bytes : List ℕ) (k j : ℕ) → AreWords a → AreWords b → k ≡ length a → j + length bytes ≤ 8 * length body → words_of (overwritten (bytes_of (a ++ (body ++ b))) (8 * k + j) bytes) ≡ a ++ (words_of (overwritten (bytes_of body) j bytes) ++ b)
words_mid a body b bytes k j fa fb e h =
    let la = length-bytes_of a in
    let lb = length-bytes_of body in
    let lo = length-overwritten (bytes_of body) j bytes in
    let over = overwritten (bytes_of body) j bytes in
    let split : bytes_of (a ++ (body ++ b)) ≡ bytes_of a ++ (bytes_of body ++ bytes_of b) = bytes_of-append a (body ++ b) ∙ ap (λ (r : List ℕ). bytes_of a ++ r) (bytes_of-append body b) in
    let whole_a : AreWhole (bytes_of a) = omega arith in
    let whole_o : AreWhole over = omega arith in
    ap (λ (r : List ℕ). words_of (overwritten r (8 * k + j) bytes)) split
    ∙ ap words_of (over_mid (bytes_of a) (bytes_of body) (bytes_of b) bytes (8 * k) j (omega arith) (omega arith))
    ∙ words_of-append (bytes_of a) (over ++ bytes_of b) whole_a
    ∙ ap (λ (r : List ℕ). r ++ words_of (over ++ bytes_of b)) (words_of-bytes_of a fa)
    ∙ ap (λ (r : List ℕ). a ++ r) (words_of-append over (bytes_of b) whole_o ∙ ap (λ (r : List ℕ). words_of over ++ r) (words_of-bytes_of b fb))

AreWords-back : (a b : List ℕ) → AreWords (a ++ b) → AreWords b
AreWords-back [] b h k = h k
AreWords-back (x ∷ xs) b h k = AreWords-back xs b (λ j. h (suc j)) k

AreWords-front : (a b : List ℕ) → AreWords (a ++ b) → AreWords a
AreWords-front [] b h k = omega arith
AreWords-front (x ∷ xs) b h zero = h 0
AreWords-front (x ∷ xs) b h (suc k) = AreWords-front xs b (λ j. h (suc j)) k

-- An object's number words among the words of all.
pub record Mid (words : List ℕ) (heap : Heap) (at : ℕ) : Type 0 where
  pub front : List ℕ
  pub back : List ℕ
  pub is : words ≡ front ++ ((object_at heap at).nums ++ back)
  pub place : length front ≡ at + 4 + (object_at heap at).header.refs - 1
  pub replaced : (nums : List ℕ) → words_of_all (replace_from 1 heap.objects at (record (object_at heap at) { nums = nums })) ≡ front ++ (nums ++ back)

pub mid : (words : List ℕ) (heap : Heap) (at : ℕ) → Lies words heap at → Mid words heap at
mid words heap at l =
    let o = object_at heap at in
    let s = l.split in
    let front = words_of_all s.front in
    let back = words_of_all s.back in
    let refs = map reference_word o.refs in
    let pre = header_words o.header ++ refs in
    let lf : length front ≡ size_of_all s.front = length-words_of_all s.front s.fit_front in
    let lr : length refs ≡ o.header.refs = length-map o.refs reference_word ∙ s.fit.refs in
    let lp : length pre ≡ 4 + o.header.refs = length-append (header_words o.header) refs ∙ omega (arith, lr) in
    let around : (ns : List ℕ) → front ++ ((header_words o.header ++ (refs ++ ns)) ++ back) ≡ (front ++ pre) ++ (ns ++ back) = λ ns.
    ap (λ (r : List ℕ). front ++ r) (append_assoc (header_words o.header) (refs ++ ns) back ∙ ap (λ (r : List ℕ). header_words o.header ++ r) (append_assoc refs ns back) ∙ sym (append_assoc (header_words o.header) refs (ns ++ back)))
    ∙ sym (append_assoc front pre (ns ++ back)) in
    record {
      front = front ++ pre;
      back = back;
      is = sym l.cut ∙ ap words_of_all s.is ∙ words_of_all-append s.front (o ∷ s.back) ∙ around o.nums;
      place = omega (arith, length-append front pre, s.place);
      replaced = λ nums. ap words_of_all (s.replaced (record o { nums = nums })) ∙ words_of_all-append s.front (record o { nums = nums } ∷ s.back) ∙ around nums;
    }

-- Where an object's bytes begin.

pub words_before-le : (kind : Kind) → words_before kind ≤ 2
words_before-le Text = omega arith
words_before-le Code = omega arith
words_before-le _ = omega arith

pub place_fits : (words : List ℕ) (heap : Heap) (at : ℕ) (h : Header) → Lies words heap at → h ≡ (object_at heap at).header → at + h.refs + 6 < 2 ^ 32
place_fits words heap at h l e = let refs = ap (λ (x : Header). x.refs) e in omega (arith, l.to, l.small)

pub place_by : (h g : Header) (at place : ℕ) → place ≡ at + 4 + h.refs + words_before h.kind → h ≡ g → place ≡ at + 4 + g.refs + words_before g.kind
place_by h g at place e is = e ∙ ap (λ (x : Header). at + 4 + x.refs + words_before x.kind) is

-- they lie in words that are given out
pub lies-spanned : (area : AreaView) (heap : Heap) (at place n count : ℕ) → Lies area.words heap at → place ≡ at + 4 + (object_at heap at).header.refs + words_before (object_at heap at).header.kind
    → n + count ≤ (object_at heap at).header.bytes → IsGivenOut area place (words_spanned (n + count))
lies-spanned area heap at place n count l e h =
    let fit = l.split.fit in
    record { placed = omega (arith, l.from); below = omega (arith, l.to, fit.bytes) }

pub place_in_bytes : (words : List ℕ) (heap : Heap) (at place n : ℕ) → Lies words heap at → place ≡ at + 4 + (object_at heap at).header.refs + words_before (object_at heap at).header.kind
    → byte_place place n ≡ first_byte (object_at heap at) + (8 * (at + 4 + (object_at heap at).header.refs - 1) + n)
place_in_bytes words heap at place n l e = omega (arith, l.from)

-- the bytes that an object's place has are its bytes
pub lies-bytes : (words : List ℕ) (heap : Heap) (at place n : ℕ) → Lies words heap at → place ≡ first_byte (object_at heap at) + (8 * (at + 4 + (object_at heap at).header.refs - 1) + n) → (count : ℕ) → n + count ≤ (object_at heap at).header.bytes
    → take count (drop place (bytes_of words)) ≡ take count (drop n (text_at heap at))
lies-bytes words heap at place n l e count h =
    let o = object_at heap at in
    let m = mid words heap at l in
    let fit = l.split.fit in
    let first = first_byte o in
    let k = at + 4 + o.header.refs - 1 in
    let moved : place ≡ 8 * k + (first + n) = omega arith in
    let rest : o.header.bytes ≡ n + (o.header.bytes - n) = omega arith in
    let behind = drop first (bytes_of o.nums) in
    ap (λ (p : ℕ). take count (drop p (bytes_of words))) moved
    ∙ ap (λ (ws : List ℕ). take count (drop (8 * k + (first + n)) (bytes_of ws))) m.is
    ∙ bytes_mid m.front o.nums m.back k (first + n) count (sym m.place) (omega (arith, fit.bytes, fit.nums))
    ∙ ap (take count) (sym (drop-drop n first (bytes_of o.nums)))
    ∙ sym (take-take count (o.header.bytes - n) (drop n behind) (omega arith))
    ∙ ap (take count) (sym (drop-take n (o.header.bytes - n) behind))
    ∙ ap (λ (b : ℕ). take count (drop n (take b behind))) (sym rest)

pub IsFit-text : (o : Object) (start : ℕ) (bytes : List ℕ) → IsFit o → AreBytes bytes → IsFit (with_bytes_at o start bytes)
IsFit-text o start bytes fit good =
    let place = first_byte o + start in
    let over = overwritten (bytes_of o.nums) place bytes in
    let lo = length-overwritten (bytes_of o.nums) place bytes in
    let lb = length-bytes_of o.nums in
    let lw = length-words_of over in
    record {
      fields = fit.fields;
      lengths = fit.lengths;
      pid = fit.pid;
      refs = fit.refs;
      nums = omega (arith, fit.nums);
      home = fit.home;
      bytes = fit.bytes;
      references = fit.references;
      words = AreWords-words_of over (AreBelow-overwritten 256 (bytes_of o.nums) place bytes (omega arith) (AreBytes-bytes_of o.nums) good);
    }

-- bytes are written over those of an object
pub retexted : (a : Inside) (new : AreaView) (heap : Heap) (at place start : ℕ) (bytes : List ℕ) → heap_of a ≡ heap → IsKeptIn a → Lies a.area.words heap at → AreWords a.area.words → new ≡ with_bytes_from a.area place bytes → AreBytes bytes
    → place ≡ first_byte (object_at heap at) + (8 * (at + 4 + (object_at heap at).header.refs - 1) + start) → start + length bytes ≤ (object_at heap at).header.bytes
    → Again new.words new.size (noted_of a) (beside_of a) (with_text heap at start bytes)
retexted a new heap at place start bytes e kept l fits written good place_is h =
    let o = object_at heap at in
    let m = mid a.area.words heap at l in
    let fit = l.split.fit in
    let k = at + 4 + o.header.refs - 1 in
    let j = first_byte o + start in
    let moved : place ≡ 8 * k + j = omega arith in
    let all : AreWords (m.front ++ (o.nums ++ m.back)) = subst AreWords m.is fits in
    let words : new.words ≡ words_of_all (replace_from 1 heap.objects at (with_bytes_at o start bytes)) =
    ap (λ (x : AreaView). x.words) written
    ∙ ap (λ (p : ℕ). words_of (overwritten (bytes_of a.area.words) p bytes)) moved
    ∙ ap (λ (ws : List ℕ). words_of (overwritten (bytes_of ws) (8 * k + j) bytes)) m.is
    ∙ words_mid m.front o.nums m.back bytes k j (AreWords-front m.front (o.nums ++ m.back) all) (AreWords-back o.nums m.back (AreWords-back m.front (o.nums ++ m.back) all)) (sym m.place) (omega (arith, fit.bytes, fit.nums))
    ∙ sym (m.replaced (words_of (overwritten (bytes_of o.nums) j bytes))) in
    relaid_same a new heap at (with_bytes_at o start bytes) e kept l words (ap (λ (x : AreaView). x.size) written) (IsFit-text o start bytes fit good) refl
    (inside_kept heap at l.heap_is (record { object = o; is = l.is }))

-- A text has as many bytes as its header says, each below 256.

pub length-text : (o : Object) → IsFit o → length (text_of o) ≡ o.header.bytes
length-text o fit =
    let lb = length-bytes_of o.nums in
    length-take-le o.header.bytes (drop (first_byte o) (bytes_of o.nums)) (omega (arith, fit.bytes, fit.nums, length-drop (first_byte o) (bytes_of o.nums)))

pub text-bytes : (o : Object) (start count : ℕ) → AreBytes (take count (drop start (text_of o)))
text-bytes o start count =
    let all = AreBytes-bytes_of o.nums in
    let behind = AreBelow-drop 256 (first_byte o) (bytes_of o.nums) all in
    let text = AreBelow-take 256 o.header.bytes (drop (first_byte o) (bytes_of o.nums)) behind (omega arith) in
    AreBelow-take 256 count (drop start (text_of o)) (AreBelow-drop 256 start (text_of o) text) (omega arith)

-- What is written into a text is there, and nothing else of it changes.

cut_three : (b : List ℕ) (first n : ℕ) → b ≡ take first b ++ (take n (drop first b) ++ drop n (drop first b))
cut_three b first n = sym (ap (λ (r : List ℕ). take first b ++ r) (take-append-drop n (drop first b)) ∙ take-append-drop first b)

pub bytes-written : (o : Object) (start : ℕ) (bytes : List ℕ) → IsFit o → AreBytes bytes → start + length bytes ≤ o.header.bytes
    → bytes_of (with_bytes_at o start bytes).nums ≡ take (first_byte o) (bytes_of o.nums) ++ (overwritten (text_of o) start bytes ++ drop o.header.bytes (drop (first_byte o) (bytes_of o.nums)))
bytes-written o start bytes fit good h =
    let b = bytes_of o.nums in
    let first = first_byte o in
    let over = overwritten b (first + start) bytes in
    let lb = length-bytes_of o.nums in
    let lo = length-overwritten b (first + start) bytes in
    let front : length (take first b) ≡ first = length-take-le first b (omega (arith, fit.bytes, fit.nums)) in
    let long = length-text o fit in
    bytes_of-words_of over (omega arith) (AreBelow-overwritten 256 b (first + start) bytes (omega arith) (AreBytes-bytes_of o.nums) good)
    ∙ ap (λ (r : List ℕ). overwritten r (first + start) bytes) (cut_three b first o.header.bytes)
    ∙ over_mid (take first b) (text_of o) (drop o.header.bytes (drop first b)) bytes first start (sym front) (omega arith)

pub text-written : (o : Object) (start : ℕ) (bytes : List ℕ) → IsFit o → AreBytes bytes → start + length bytes ≤ o.header.bytes → text_of (with_bytes_at o start bytes) ≡ overwritten (text_of o) start bytes
text-written o start bytes fit good h =
    let b = bytes_of o.nums in
    let first = first_byte o in
    let n = o.header.bytes in
    let new = overwritten (text_of o) start bytes in
    let lb = length-bytes_of o.nums in
    let front : length (take first b) ≡ first = length-take-le first b (omega (arith, fit.bytes, fit.nums)) in
    let long = length-text o fit in
    let same = length-overwritten (text_of o) start bytes in
    let place : first ≡ first + 0 = omega arith in
    ap (λ (r : List ℕ). take n (drop first r)) (bytes-written o start bytes fit good h)
    ∙ ap (λ (m : ℕ). take n (drop m (take first b ++ (new ++ drop n (drop first b))))) place
    ∙ take_mid (take first b) new (drop n (drop first b)) first 0 n (sym front) (omega arith)
    ∙ take_all n new (omega arith)
