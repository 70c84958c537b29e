-- Objects and the words that spell them.
use Rattle.std.proofs.Common.{Bool, inl, inr, ◌≡◌, ◌≢◌, ℕ, zero, suc, ◌+◌, ◌-◌, ◌*◌, ◌/◌, ◌%◌, ◌^◌, ◌<◌, ◌≤◌, ◌==◌, List, [], ◌∷◌, ◌++◌, length, take, drop, map, set, slice_index, get_or, refl, sym, ap, ◌∙◌, subst, arith, append_assoc, length-append, Option, Some, unwrap_or, if◌then◌else◌}
use Rattle.std.proofs.lemmas.List.{take_at, drop_at, drop-drop, length-map, get_or_append_left, get_or-append-add, set-append_left, set-append_right, map-set, get_or-map, length-set}
use Rattle.std.specs.Int.Bits.{bit_and}
use Rattle.std.proofs.lemmas.Nat.{and_mask}
use Rattle.std.proofs.lemmas.Bool.{cases_eq, eq-eqb, ne_eqb}
use Rattle.obj_layout.specs.declared.kind.Kind.{Kind}
use Rattle.obj_layout.specs.declared.kind.Kind.TheVariants.{Text}
use Rattle.obj_layout.specs.declared.header.Header.{Header}
use Rattle.obj_layout.specs.declared.reference.Reference.{Reference}
use Rattle.obj_layout.specs.declared.reference.Reference.TheVariants.{Nil}
use Rattle.obj_layout.specs.Kind.{kind_number, kind_numbered}
use Rattle.obj_layout.specs.Header.{HasFitFields, header_words}
use Rattle.obj_layout.specs.Reference.{IsReference, reference_word}
use Rattle.obj_layout.proofs.HeaderLaws.{kind_numbered-kind_number, kind_number-lt}
use Rattle.obj_layout.proofs.ReferenceLaws.{reference_in-reference_word}
use Rattle.obj_area.specs.Words.{AreWords}
use Rattle.swizzle.specs.Objects.{Object, size_of, object_words, AreReferences, IsFit, AreFit, words_of_all, size_of_all, find_from, replace_from, header_in, reference_at, object_in, objects_in, objects_of}

pub length-object_words : (o : Object) → IsFit o → length (object_words o) ≡ size_of o
length-object_words o fit = simp (length-append, length-map) (omega (arith, fit.refs, fit.nums))

pub length-words_of_all : (os : List Object) → AreFit os → length (words_of_all os) ≡ size_of_all os
length-words_of_all [] fit = refl
length-words_of_all (o ∷ os) fit =
    omega (arith, length-append (object_words o) (words_of_all os), length-object_words o fit.0, length-words_of_all os fit.1)

abbrev header_by : Kind → ℕ → ℕ → ℕ → ℕ → ℕ → ℕ → Header
header_by kind flags refs nums bytes pid chain =
    record { kind = kind; flags = flags; refs = refs; nums = nums; bytes = bytes; pid = pid; chain = chain }

same_header : (k l : Kind) (f g r s n m b c p x : ℕ) → k ≡ l → f ≡ g → r ≡ s → n ≡ m → b ≡ c → header_by k f r n b p x ≡ header_by l g s m c p x
same_header k l f g r s n m b c p x ek ef er en eb = cc

-- the header that words begin with
pub header_in-words : (h : Header) (rest : List ℕ) → HasFitFields h → header_in (header_words h ++ rest) ≡ h
unfolding header_in
header_in-words h rest fit =
    let bound = kind_number-lt h.kind in
    let low : (kind_number h.kind + 2 ^ 8 * h.flags + 2 ^ 32 * h.refs) % 2 ^ 8 ≡ kind_number h.kind = omega arith in
    let flags : (kind_number h.kind + 2 ^ 8 * h.flags + 2 ^ 32 * h.refs) / 2 ^ 8 % 2 ^ 8 ≡ h.flags = omega (arith, fit.flags) in
    let refs : (kind_number h.kind + 2 ^ 8 * h.flags + 2 ^ 32 * h.refs) / 2 ^ 32 ≡ h.refs = omega (arith, fit.flags) in
    let nums : (h.nums + 2 ^ 32 * h.bytes) % 2 ^ 32 ≡ h.nums = omega (arith, fit.nums) in
    let bytes : (h.nums + 2 ^ 32 * h.bytes) / 2 ^ 32 ≡ h.bytes = omega (arith, fit.nums) in
    let kind : unwrap_or (kind_numbered ((kind_number h.kind + 2 ^ 8 * h.flags + 2 ^ 32 * h.refs) % 2 ^ 8)) Text ≡ h.kind = ap (λ (n : ℕ). unwrap_or (kind_numbered n) Text) low ∙ ap (λ (k : Option Kind). unwrap_or k Text) (kind_numbered-kind_number h.kind) in
    same_header _ _ _ _ _ _ _ _ _ _ h.pid h.chain kind flags refs nums bytes

reference_at-word : (r : Reference) → IsReference r → reference_at (reference_word r) ≡ r
unfolding reference_at
reference_at-word r fit = ap (λ (o : Option Reference). unwrap_or o Nil) (reference_in-reference_word r fit)

pub references_back : (rs : List Reference) → AreReferences rs → map reference_at (map reference_word rs) ≡ rs
references_back [] fit = refl
references_back (r ∷ rs) fit =
    let one = reference_at-word r fit.0 in
    let more = references_back rs fit.1 in
    cc

abbrev object_by : Header → List Reference → List ℕ → Object
object_by h rs ns = record { header = h; refs = rs; nums = ns }

same_object : (h : Header) (rs ss : List Reference) (ns ms : List ℕ) → rs ≡ ss → ns ≡ ms → object_by h rs ns ≡ object_by h ss ms
same_object h rs ss ns ms e f = cc

-- an object's words, and any after them, begin with that object
pub object_in-words : (o : Object) (rest : List ℕ) → IsFit o → object_in (object_words o ++ rest) ≡ o
unfolding object_in
object_in-words o rest fit =
    let body = map reference_word o.refs ++ o.nums in
    let split : object_words o ++ rest ≡ header_words o.header ++ (body ++ rest) = refl in
    let head : header_in (object_words o ++ rest) ≡ o.header = header_in-words o.header (body ++ rest) fit.fields in
    let long : length (map reference_word o.refs) ≡ o.header.refs = length-map o.refs reference_word ∙ fit.refs in
    let behind : body ++ rest ≡ map reference_word o.refs ++ (o.nums ++ rest) = append_assoc (map reference_word o.refs) o.nums rest in
    let refs_part : take o.header.refs (body ++ rest) ≡ map reference_word o.refs = ap (take o.header.refs) behind ∙ take_at (map reference_word o.refs) (o.nums ++ rest) o.header.refs long in
    let nums_rest : drop o.header.refs (body ++ rest) ≡ o.nums ++ rest = ap (drop o.header.refs) behind ∙ drop_at (map reference_word o.refs) (o.nums ++ rest) o.header.refs long in
    let nums_part : take o.header.nums (drop (4 + o.header.refs) (object_words o ++ rest)) ≡ o.nums =
    ap (take o.header.nums) (sym (drop-drop o.header.refs 4 (object_words o ++ rest)) ∙ nums_rest) ∙ take_at o.nums rest o.header.nums fit.nums in
    let refs_are : map reference_at (take o.header.refs (body ++ rest)) ≡ o.refs = ap (map reference_at) refs_part ∙ references_back o.refs fit.references in
    rw head (same_object o.header _ _ _ _ refs_are nums_part)

-- the objects of words are those that were laid there
pub objects_in-words : (n : ℕ) (os : List Object) → AreFit os → length os ≤ n → objects_in n (words_of_all os) ≡ os
unfolding objects_in
objects_in-words zero [] fit h = refl
objects_in-words (suc n) [] fit h = refl
objects_in-words zero (o ∷ os) fit h = absurd (omega arith)
objects_in-words (suc n) (o ∷ os) fit h =
    let whole = object_words o ++ words_of_all os in
    let first : object_in whole ≡ o = object_in-words o (words_of_all os) fit.0 in
    let behind : drop (size_of o) whole ≡ words_of_all os = drop_at (object_words o) (words_of_all os) (size_of o) (length-object_words o fit.0) in
    let more : objects_in n (words_of_all os) ≡ os = objects_in-words n os fit.1 (omega arith) in
    let moved : drop (size_of (object_in whole)) whole ≡ words_of_all os = ap (λ (x : Object). drop (size_of x) whole) first ∙ behind in
    ap (λ (x : Object). x ∷ objects_in n (drop (size_of (object_in whole)) whole)) first ∙ ap (λ (ws : List ℕ). o ∷ objects_in n ws) moved ∙ ap (λ (r : List Object). o ∷ r) more

count-le : (os : List Object) → length os ≤ size_of_all os
count-le [] = omega arith
count-le (o ∷ os) = omega (arith, count-le os)

pub objects_of-words : (os : List Object) → AreFit os → objects_of (words_of_all os) ≡ os
unfolding objects_of
objects_of-words os fit =
    objects_in-words (length (words_of_all os)) os fit (omega (arith, count-le os, length-words_of_all os fit))

-- Where an object lies among the others.
pub record Split (at : ℕ) (os : List Object) (i : ℕ) (o : Object) : Type 0 where
  pub front : List Object
  pub back : List Object
  pub is : os ≡ front ++ o ∷ back
  pub place : i ≡ at + size_of_all front
  pub fit_front : AreFit front
  pub fit : IsFit o
  pub fit_back : AreFit back
  pub replaced : (new : Object) → replace_from at os i new ≡ front ++ new ∷ back

pub here : {X : Type 0} (i at : ℕ) (x y : X) → i ≡ at → (if i == at then x else y) ≡ x
here {X} i at x y e = ap (λ (b : Bool). if b then x else y) (eq-eqb i at e)

pub elsewhere : {X : Type 0} (i at : ℕ) (x y : X) → i ≢ at → (if i == at then x else y) ≡ y
elsewhere {X} i at x y ne = ap (λ (b : Bool). if b then x else y) (ne_eqb i at ne)

split_here : (at : ℕ) (p : Object) (os : List Object) (i : ℕ) (o : Object) → AreFit (p ∷ os) → i ≡ at → Some p ≡ Some o → Split at (p ∷ os) i o
split_here at p os i o fit e s =
    let same : p ≡ o = cc in
    record {
      front = [];
      back = os;
      is = ap (λ (x : Object). x ∷ os) same;
      place = omega arith;
      fit_front = tt;
      fit = subst IsFit same fit.0;
      fit_back = fit.1;
      replaced = λ new. here i at (new ∷ os) (p ∷ replace_from (at + size_of p) os i new) e;
    }

split_behind : (at : ℕ) (p : Object) (os : List Object) (i : ℕ) (o : Object) → IsFit p → i ≢ at → Split (at + size_of p) os i o → Split at (p ∷ os) i o
split_behind at p os i o fit ne s =
    record {
      front = p ∷ s.front;
      back = s.back;
      is = ap (λ (r : List Object). p ∷ r) s.is;
      place = omega (arith, s.place);
      fit_front = (fit, s.fit_front);
      fit = s.fit;
      fit_back = s.fit_back;
      replaced = λ new. elsewhere i at (new ∷ os) (p ∷ replace_from (at + size_of p) os i new) ne ∙ ap (λ (r : List Object). p ∷ r) (s.replaced new);
    }

pub split : (at : ℕ) (os : List Object) (i : ℕ) (o : Object) → AreFit os → find_from at os i ≡ Some o → Split at os i o
split at [] i o fit e = absurd (cc)
split at (p ∷ os) i o fit e =
    elim (cases_eq i at) [
      | inl same ↦ split_here at p os i o fit same (sym (here i at (Some p) (find_from (at + size_of p) os i) same) ∙ e)
      | inr apart ↦ split_behind at p os i o fit.0 apart (split (at + size_of p) os i o fit.1 (sym (elsewhere i at (Some p) (find_from (at + size_of p) os i) apart) ∙ e))
    ]

-- Reading and writing the words of one object among the others.

pub words_of_all-append : (os ps : List Object) → words_of_all (os ++ ps) ≡ words_of_all os ++ words_of_all ps
words_of_all-append [] ps = refl
words_of_all-append (o ∷ os) ps =
    ap (λ (r : List ℕ). object_words o ++ r) (words_of_all-append os ps) ∙ sym (append_assoc (object_words o) (words_of_all os) (words_of_all ps))

pub size_of_all-append : (os ps : List Object) → size_of_all (os ++ ps) ≡ size_of_all os + size_of_all ps
size_of_all-append [] ps = omega arith
size_of_all-append (o ∷ os) ps = omega (arith, size_of_all-append os ps)

pub AreFit-append : (os ps : List Object) → AreFit os → AreFit ps → AreFit (os ++ ps)
AreFit-append [] ps f g = g
AreFit-append (o ∷ os) ps f g = (f.0, AreFit-append os ps f.1 g)

words_around : (front : List Object) (o : Object) (back : List Object) → words_of_all (front ++ o ∷ back) ≡ words_of_all front ++ (object_words o ++ words_of_all back)
words_around front o back = words_of_all-append front (o ∷ back)

-- word k of the object at index i
pub word_of_object : (os : List Object) (i k : ℕ) (o : Object) → Split 1 os i o → k < size_of o → slice_index (words_of_all os) (i + k - 1) ≡ slice_index (object_words o) k
word_of_object os i k o s below =
    let long : length (words_of_all s.front) ≡ size_of_all s.front = length-words_of_all s.front s.fit_front in
    let place : i + k - 1 ≡ length (words_of_all s.front) + k = omega (arith, s.place) in
    let many = length-object_words o s.fit in
    ap (λ (ws : List Object). slice_index (words_of_all ws) (i + k - 1)) s.is
    ∙ ap (λ (ws : List ℕ). slice_index ws (i + k - 1)) (words_around s.front o s.back)
    ∙ ap (slice_index (words_of_all s.front ++ (object_words o ++ words_of_all s.back))) place
    ∙ get_or-append-add (words_of_all s.front) (object_words o ++ words_of_all s.back) k 0
    ∙ get_or_append_left (object_words o) (words_of_all s.back) 0 k (omega arith)

-- a write of word k of the object at index i
pub set_of_object : (os : List Object) (i k v : ℕ) (o new : Object) → Split 1 os i o → k < size_of o → set (object_words o) k v ≡ object_words new → set (words_of_all os) (i + k - 1) v ≡ words_of_all (replace_from 1 os i new)
set_of_object os i k v o new s below e =
    let front = words_of_all s.front in
    let back = words_of_all s.back in
    let long : length front ≡ size_of_all s.front = length-words_of_all s.front s.fit_front in
    let many = length-object_words o s.fit in
    let rest : i + k - 1 - length front ≡ k = omega (arith, s.place) in
    ap (λ (ws : List Object). set (words_of_all ws) (i + k - 1) v) s.is
    ∙ ap (λ (ws : List ℕ). set ws (i + k - 1) v) (words_around s.front o s.back)
    ∙ set-append_right front (object_words o ++ back) (length front) (i + k - 1) v refl (omega (arith, s.place))
    ∙ ap (λ (j : ℕ). front ++ set (object_words o ++ back) j v) rest
    ∙ ap (λ (ws : List ℕ). front ++ ws) (set-append_left (object_words o) back k v (omega arith) ∙ ap (λ (ws : List ℕ). ws ++ back) e)
    ∙ sym (ap words_of_all (s.replaced new) ∙ words_around s.front new s.back)

-- the objects stay fit when one of them is replaced by a fit one
fit_split : (front : List Object) (o : Object) (back : List Object) → AreFit front → IsFit o → AreFit back → AreFit (front ++ o ∷ back)
fit_split front o back f g h = AreFit-append front (o ∷ back) f (g, h)

pub fit_replaced : (at : ℕ) (os : List Object) (i : ℕ) (o new : Object) → Split at os i o → IsFit new → AreFit (replace_from at os i new)
fit_replaced at os i o new s fit =
    subst AreFit (sym (s.replaced new)) (fit_split s.front new s.back s.fit_front fit s.fit_back)

-- The words of an object: the reference in a slot, and the number at an index.

refs_long : (o : Object) → IsFit o → length (map reference_word o.refs) ≡ o.header.refs
refs_long o fit = length-map o.refs reference_word ∙ fit.refs

pub word_of_ref : (o : Object) (slot : ℕ) → IsFit o → slot < o.header.refs → slice_index (object_words o) (4 + slot) ≡ reference_word (get_or o.refs slot Nil)
word_of_ref o slot fit below =
    get_or-append-add (header_words o.header) (map reference_word o.refs ++ o.nums) slot 0
    ∙ get_or_append_left (map reference_word o.refs) o.nums 0 slot (omega (arith, refs_long o fit))
    ∙ get_or-map reference_word o.refs slot Nil 0 (omega (arith, fit.refs))

pub word_of_num : (o : Object) (index : ℕ) → IsFit o → slice_index (object_words o) (4 + o.header.refs + index) ≡ slice_index o.nums index
word_of_num o index fit =
    let place : 4 + o.header.refs + index ≡ 4 + (length (map reference_word o.refs) + index) = omega (arith, refs_long o fit) in
    ap (slice_index (object_words o)) place
    ∙ get_or-append-add (header_words o.header) (map reference_word o.refs ++ o.nums) (length (map reference_word o.refs) + index) 0
    ∙ get_or-append-add (map reference_word o.refs) o.nums index 0

-- the high half of its first word counts the references
pub refs_of_word : (o : Object) (w : ℕ) → IsFit o → w ≡ slice_index (object_words o) 0 → w / 2 ^ 32 ≡ o.header.refs
refs_of_word o w fit e = omega (arith, fit.fields.flags, kind_number-lt o.header.kind)

-- the low half of its third word counts the number words
pub nums_of_word : (o : Object) (w : ℕ) → IsFit o → w ≡ slice_index (object_words o) 2 → w % 2 ^ 32 ≡ o.header.nums
nums_of_word o w fit e = omega (arith, fit.fields.nums)

-- the low byte of its first word is the number of its kind
pub kind_of_word : (o : Object) (w : ℕ) → IsFit o → w ≡ slice_index (object_words o) 0 → w % 2 ^ 8 ≡ kind_number o.header.kind
kind_of_word o w fit e = omega (arith, kind_number-lt o.header.kind)

-- its low byte is the number of the kind
pub kind_in_word : (o : Object) (w : ℕ) → IsFit o → w ≡ slice_index (object_words o) 0 → kind_numbered (bit_and w 255) ≡ Some o.header.kind
kind_in_word o w fit e =
    let low : w % 2 ^ 8 ≡ kind_number o.header.kind = omega (arith, kind_number-lt o.header.kind) in
    ap kind_numbered (and_mask w 8 ∙ low) ∙ kind_numbered-kind_number o.header.kind

-- the high half of its third word counts the bytes
pub bytes_of_word : (o : Object) (w : ℕ) → IsFit o → w ≡ slice_index (object_words o) 2 → w / 2 ^ 32 ≡ o.header.bytes
bytes_of_word o w fit e = omega (arith, fit.fields.nums)

pub set_of_ref : (o : Object) (slot : ℕ) (to : Reference) → IsFit o → slot < o.header.refs → set (object_words o) (4 + slot) (reference_word to) ≡ object_words (record o { refs = set o.refs slot to })
set_of_ref o slot to fit below =
    set-append_right (header_words o.header) (map reference_word o.refs ++ o.nums) 4 (4 + slot) (reference_word to) refl (omega arith)
    ∙ ap (λ (j : ℕ). header_words o.header ++ set (map reference_word o.refs ++ o.nums) j (reference_word to)) (omega arith)
    ∙ ap (λ (ws : List ℕ). header_words o.header ++ ws)
    (set-append_left (map reference_word o.refs) o.nums slot (reference_word to) (omega (arith, refs_long o fit))
    ∙ ap (λ (ws : List ℕ). ws ++ o.nums) (sym (map-set reference_word o.refs slot to)))

pub set_of_num : (o : Object) (index v : ℕ) → IsFit o → set (object_words o) (4 + o.header.refs + index) v ≡ object_words (record o { nums = set o.nums index v })
set_of_num o index v fit =
    let long = refs_long o fit in
    set-append_right (header_words o.header) (map reference_word o.refs ++ o.nums) 4 (4 + o.header.refs + index) v refl (omega arith)
    ∙ ap (λ (j : ℕ). header_words o.header ++ set (map reference_word o.refs ++ o.nums) j v) (omega arith)
    ∙ ap (λ (ws : List ℕ). header_words o.header ++ ws)
    (set-append_right (map reference_word o.refs) o.nums o.header.refs (o.header.refs + index) v long (omega arith)
    ∙ ap (λ (j : ℕ). map reference_word o.refs ++ set o.nums j v) (omega arith))

-- what stays so of an object

AreReferences-set : (rs : List Reference) (slot : ℕ) (to : Reference) → IsReference to → AreReferences rs → AreReferences (set rs slot to)
AreReferences-set [] slot to h f = f
AreReferences-set (r ∷ rs) zero to h f = (h, f.1)
AreReferences-set (r ∷ rs) (suc slot) to h f = (f.0, AreReferences-set rs slot to h f.1)

pub AreReferences-at : (rs : List Reference) (slot : ℕ) → AreReferences rs → IsReference (get_or rs slot Nil)
AreReferences-at [] slot f = tt
AreReferences-at (r ∷ rs) zero f = f.0
AreReferences-at (r ∷ rs) (suc slot) f = AreReferences-at rs slot f.1

AreWords-set : (ws : List ℕ) (i v : ℕ) → v < 2 ^ 64 → AreWords ws → AreWords (set ws i v)
AreWords-set [] i v h f k = f k
AreWords-set (w ∷ ws) zero v h f zero = h
AreWords-set (w ∷ ws) zero v h f (suc k) = f (suc k)
AreWords-set (w ∷ ws) (suc i) v h f zero = f 0
AreWords-set (w ∷ ws) (suc i) v h f (suc k) = AreWords-set ws i v h (λ j. f (suc j)) k

pub IsFit-ref : (o : Object) (slot : ℕ) (to : Reference) → IsFit o → IsReference to → IsFit (record o { refs = set o.refs slot to })
IsFit-ref o slot to fit h = record {
  fields = fit.fields;
  lengths = fit.lengths;
  pid = fit.pid;
  refs = length-set o.refs slot to ∙ fit.refs;
  nums = fit.nums;
  home = fit.home;
  bytes = fit.bytes;
  references = AreReferences-set o.refs slot to h fit.references;
  words = fit.words;
}

pub IsFit-num : (o : Object) (index v : ℕ) → IsFit o → v < 2 ^ 64 → IsFit (record o { nums = set o.nums index v })
IsFit-num o index v fit h = record {
  fields = fit.fields;
  lengths = fit.lengths;
  pid = fit.pid;
  refs = fit.refs;
  nums = length-set o.nums index v ∙ fit.nums;
  home = fit.home;
  bytes = fit.bytes;
  references = fit.references;
  words = AreWords-set o.nums index v h fit.words;
}
