-- Laws of areas, for the layers above: what a read finds after words were given out or written.
use Rattle.std.proofs.Common.{◌≡◌, ◌≢◌, ℕ, zero, suc, ◌+◌, ◌-◌, ◌*◌, ◌^◌, ◌<◌, ◌≤◌, List, [], ◌∷◌, ◌++◌, length, take, drop, set, slice_index, replicate, refl, sym, ap, ◌∙◌, subst, arith, append_assoc, length-append, length-drop}
use Rattle.std.proofs.Math.Seq.{take-set-lt, take-append-add}
use Rattle.std.proofs.lemmas.List.{drop-drop, take-take, take-append-drop, take_at, drop_at, take_all, take-append-le, drop-append-le, length-take-le, length-replicate, get_or-take, get_or-drop, get_or_append_left, get_or-set_same, get_or-set_other, length-set, take-set-le, drop-set-lt, drop-set-add, drop-take}
use Rattle.std.specs.Int.{bytes_low_first}
use Rattle.obj_area.specs.Words.{AreBytes, word_bytes, bytes_of, words_of, AreWords, AreBelow, overwritten}
use Rattle.obj_area.specs.Area.{AreaView, IsArea, IsGivenOut, fresh_area, top_of, words_spanned, word_at, words_at, bytes_at, with_zeros, with_word, with_words, with_bytes, with_bytes_from}
use Rattle.obj_area.proofs.WordLaws.{AreWords-words_of, bytes_of-nil, bytes_of-cons, length-bytes_of, length-words_of, words_of-bytes_of, bytes_of-words_of, bytes_of-append, overwritten-inside, words_of-take, words_of-drop}

-- Words of a range.

pub length-words_at : (area : AreaView) (at count : ℕ) → IsGivenOut area at count → length (words_at area at count) ≡ count
length-words_at area at count given =
    length-take-le count (drop (at - 1) area.words) (omega (arith, length-drop (at - 1) area.words, given.placed, given.below))

pub slice_index-words_at : (area : AreaView) (at count k : ℕ) → 1 ≤ at → k < count → slice_index (words_at area at count) k ≡ word_at area (at + k)
slice_index-words_at area at count k h below =
    let place : at - 1 + k ≡ at + k - 1 = omega arith in
    get_or-take count (drop (at - 1) area.words) k 0 below ∙ get_or-drop (at - 1) area.words k 0 ∙ ap (slice_index area.words) place

-- A write of one word.

pub top_of-with_word : (area : AreaView) (at value : ℕ) → top_of (with_word area at value) ≡ top_of area
top_of-with_word area at value = ap (λ (n : ℕ). n + 1) (length-set area.words (at - 1) value)

pub word_at-with_word : (area : AreaView) (at value : ℕ) → IsGivenOut area at 1 → word_at (with_word area at value) at ≡ value
word_at-with_word area at value given =
    get_or-set_same area.words (at - 1) value 0 (omega (arith, given.placed, given.below))

pub word_at-with_word_other : (area : AreaView) (at value other : ℕ) → 1 ≤ at → 1 ≤ other → other ≢ at → word_at (with_word area at value) other ≡ word_at area other
word_at-with_word_other area at value other h k apart =
    get_or-set_other area.words (at - 1) (other - 1) value 0 (λ e. apart (omega arith))

-- a part of a list that ends at or before a place
part-before : (xs ys : List ℕ) (k n place : ℕ) → k + n ≤ place → take place xs ≡ take place ys → take n (drop k xs) ≡ take n (drop k ys)
part-before xs ys k n place h e =
    let cut = λ (zs : List ℕ). drop-take k n zs in
    sym (cut xs) ∙ ap (drop k) (sym (take-take (k + n) place xs h) ∙ ap (take (k + n)) e ∙ take-take (k + n) place ys h) ∙ cut ys

pub words_at-with_word_before : (area : AreaView) (at value other count : ℕ) → 1 ≤ other → other + count ≤ at → words_at (with_word area at value) other count ≡ words_at area other count
words_at-with_word_before area at value other count h below =
    part-before (set area.words (at - 1) value) area.words (other - 1) count (at - 1) (omega arith) (take-set-le (at - 1) area.words (at - 1) value (omega arith))

pub words_at-with_word_after : (area : AreaView) (at value other count : ℕ) → 1 ≤ at → at < other → words_at (with_word area at value) other count ≡ words_at area other count
words_at-with_word_after area at value other count h above =
    ap (take count) (drop-set-lt (other - 1) area.words (at - 1) value (omega arith))

-- a write into a range is a write into the words of the range
pub words_at-with_word_inside : (area : AreaView) (at value other count : ℕ) → 1 ≤ other → other ≤ at → at < other + count → words_at (with_word area at value) other count ≡ set (words_at area other count) (at - other) value
words_at-with_word_inside area at value other count h from to =
    let place : at - 1 ≡ other - 1 + (at - other) = omega arith in
    ap (λ (i : ℕ). take count (drop (other - 1) (set area.words i value))) place
    ∙ ap (take count) (drop-set-add (other - 1) area.words (at - other) value)
    ∙ take-set-lt count (drop (other - 1) area.words) (at - other) value (omega arith)

-- Words that are given out.

pub top_of-with_zeros : (area : AreaView) (count : ℕ) → top_of (with_zeros area count) ≡ top_of area + count
top_of-with_zeros area count =
    omega (arith, length-append area.words (replicate count 0), length-replicate {A = ℕ} count 0)

pub word_at-with_zeros : (area : AreaView) (count at : ℕ) → IsGivenOut area at 1 → word_at (with_zeros area count) at ≡ word_at area at
word_at-with_zeros area count at given =
    get_or_append_left area.words (replicate count 0) 0 (at - 1) (omega (arith, given.placed, given.below))

pub words_at-with_zeros : (area : AreaView) (more at count : ℕ) → IsGivenOut area at count → words_at (with_zeros area more) at count ≡ words_at area at count
words_at-with_zeros area more at count given =
    let inside : at - 1 + count ≤ length area.words = omega (arith, given.placed, given.below) in
    ap (take count) (drop-append-le (at - 1) area.words (replicate more 0) (omega arith))
    ∙ take-append-le count (drop (at - 1) area.words) (replicate more 0) (omega (arith, length-drop (at - 1) area.words))

-- what is given out is 0
pub words_at-made : (area : AreaView) (count : ℕ) → words_at (with_zeros area count) (top_of area) count ≡ replicate count 0
words_at-made area count =
    ap (take count) (drop_at area.words (replicate count 0) (top_of area - 1) (omega arith))
    ∙ take_all count (replicate count 0) (omega (arith, length-replicate {A = ℕ} count 0))

-- A write of many words.

pub length-overwritten : {X : Type 0} (items : List X) (place : ℕ) (others : List X) → length (overwritten items place others) ≡ length items
length-overwritten items place others =
    let whole = take place items ++ (others ++ drop (length others) (drop place items)) in
    length-take-le (length items) (whole ++ drop (length whole) items) (omega (arith, length-append whole (drop (length whole) items), length-drop (length whole) items))

-- what was written over a list stands there
pub overwritten-there : (items : List ℕ) (place : ℕ) (others : List ℕ) → place + length others ≤ length items → take (length others) (drop place (overwritten items place others)) ≡ others
overwritten-there items place others h =
    let front = length-take-le place items (omega arith) in
    ap (λ (r : List ℕ). take (length others) (drop place r)) (overwritten-inside items place others h)
    ∙ ap (take (length others)) (drop_at (take place items) (others ++ drop (place + length others) items) place front)
    ∙ take_at others (drop (place + length others) items) (length others) refl

-- what stands before stays
pub overwritten-before : (items : List ℕ) (place : ℕ) (others : List ℕ) (k n : ℕ) → place + length others ≤ length items → k + n ≤ place → take n (drop k (overwritten items place others)) ≡ take n (drop k items)
overwritten-before items place others k n h below =
    let front = length-take-le place items (omega arith) in
    part-before (overwritten items place others) items k n place below (ap (take place) (overwritten-inside items place others h) ∙ take_at (take place items) (others ++ drop (place + length others) items) place front)

-- what stands after stays
pub overwritten-after : (items : List ℕ) (place : ℕ) (others : List ℕ) (k : ℕ) → place + length others ≤ length items → place + length others ≤ k → drop k (overwritten items place others) ≡ drop k items
overwritten-after items place others k h above =
    let end = place + length others in
    let front = length-take-le place items (omega arith) in
    let head = take place items ++ others in
    let long : length head ≡ end = length-append (take place items) others ∙ omega arith in
    let split : k ≡ end + (k - end) = omega arith in
    ap (drop k) (overwritten-inside items place others h ∙ sym (append_assoc (take place items) others (drop end items)))
    ∙ ap (λ (i : ℕ). drop i (head ++ drop end items)) split
    ∙ sym (drop-drop (k - end) end (head ++ drop end items))
    ∙ ap (drop (k - end)) (drop_at head (drop end items) end long)
    ∙ drop-drop (k - end) end items
    ∙ ap (λ (i : ℕ). drop i items) (sym split)

pub top_of-with_words : (area : AreaView) (at : ℕ) (values : List ℕ) → top_of (with_words area at values) ≡ top_of area
top_of-with_words area at values = ap (λ (n : ℕ). n + 1) (length-overwritten area.words (at - 1) values)

pub words_at-with_words : (area : AreaView) (at : ℕ) (values : List ℕ) → IsGivenOut area at (length values) → words_at (with_words area at values) at (length values) ≡ values
words_at-with_words area at values given =
    overwritten-there area.words (at - 1) values (omega (arith, given.placed, given.below))

pub words_at-with_words_before : (area : AreaView) (at : ℕ) (values : List ℕ) (other count : ℕ) → IsGivenOut area at (length values) → 1 ≤ other → other + count ≤ at → words_at (with_words area at values) other count ≡ words_at area other count
words_at-with_words_before area at values other count given h below =
    overwritten-before area.words (at - 1) values (other - 1) count (omega (arith, given.placed, given.below)) (omega arith)

pub words_at-with_words_after : (area : AreaView) (at : ℕ) (values : List ℕ) (other count : ℕ) → IsGivenOut area at (length values) → at + length values ≤ other → words_at (with_words area at values) other count ≡ words_at area other count
words_at-with_words_after area at values other count given above =
    ap (take count) (overwritten-after area.words (at - 1) values (other - 1) (omega (arith, given.placed, given.below)) (omega (arith, given.placed)))

-- Bytes.

-- the bytes of a range are the spelling of its words
pub bytes_at-words_at : (area : AreaView) (at count : ℕ) → IsGivenOut area at count → bytes_at area at (8 * count) ≡ bytes_of (words_at area at count)
bytes_at-words_at area at count given =
    let front = take (at - 1) area.words in
    let rest = drop (at - 1) area.words in
    let tail = drop count rest in
    let part = words_at area at count in
    let long = length-words_at area at count given in
    let first : length front ≡ at - 1 = length-take-le (at - 1) area.words (omega (arith, given.placed, given.below)) in
    let skipped : length (bytes_of front) ≡ 8 * (at - 1) = length-bytes_of front ∙ omega arith in
    let taken : length (bytes_of part) ≡ 8 * count = length-bytes_of part ∙ omega arith in
    let left : bytes_of area.words ≡ bytes_of front ++ bytes_of rest = ap bytes_of (sym (take-append-drop (at - 1) area.words)) ∙ bytes_of-append front rest in
    let right : bytes_of rest ≡ bytes_of part ++ bytes_of tail = ap bytes_of (sym (take-append-drop count rest)) ∙ bytes_of-append part tail in
    ap (λ (r : List ℕ). take (8 * count) (drop (8 * (at - 1)) r)) left
    ∙ ap (take (8 * count)) (drop_at (bytes_of front) (bytes_of rest) (8 * (at - 1)) skipped ∙ right)
    ∙ take_at (bytes_of part) (bytes_of tail) (8 * count) taken

-- The bound of each word, and of each byte.

AreBelow-nil : (limit : ℕ) → 0 < limit → AreBelow limit []
AreBelow-nil limit h k = h

AreBelow-append : (limit : ℕ) (xs ys : List ℕ) → AreBelow limit xs → AreBelow limit ys → AreBelow limit (xs ++ ys)
AreBelow-append limit [] ys h l k = l k
AreBelow-append limit (x ∷ xs) ys h l zero = h 0
AreBelow-append limit (x ∷ xs) ys h l (suc k) = AreBelow-append limit xs ys (λ j. h (suc j)) l k

AreBelow-set : (limit : ℕ) (xs : List ℕ) (i v : ℕ) → v < limit → AreBelow limit xs → AreBelow limit (set xs i v)
AreBelow-set limit [] i v h l k = l k
AreBelow-set limit (x ∷ xs) zero v h l zero = h
AreBelow-set limit (x ∷ xs) zero v h l (suc k) = l (suc k)
AreBelow-set limit (x ∷ xs) (suc i) v h l zero = l 0
AreBelow-set limit (x ∷ xs) (suc i) v h l (suc k) = AreBelow-set limit xs i v h (λ j. l (suc j)) k

pub AreBelow-take : (limit n : ℕ) (xs : List ℕ) → AreBelow limit xs → 0 < limit → AreBelow limit (take n xs)
AreBelow-take limit zero xs h l k = l
AreBelow-take limit (suc n) [] h l k = l
AreBelow-take limit (suc n) (x ∷ xs) h l zero = h 0
AreBelow-take limit (suc n) (x ∷ xs) h l (suc k) = AreBelow-take limit n xs (λ j. h (suc j)) l k

pub AreBelow-drop : (limit n : ℕ) (xs : List ℕ) → AreBelow limit xs → AreBelow limit (drop n xs)
AreBelow-drop limit n xs h k = rw (get_or-drop n xs k 0) (h (n + k))

AreBelow-zeros : (limit n : ℕ) → 0 < limit → AreBelow limit (replicate n 0)
AreBelow-zeros limit zero h k = h
AreBelow-zeros limit (suc n) h zero = h
AreBelow-zeros limit (suc n) h (suc k) = AreBelow-zeros limit n h k

pub AreBelow-overwritten : (limit : ℕ) (xs : List ℕ) (place : ℕ) (ys : List ℕ) → 0 < limit → AreBelow limit xs → AreBelow limit ys → AreBelow limit (overwritten xs place ys)
AreBelow-overwritten limit xs place ys h l m =
    let whole = take place xs ++ (ys ++ drop (length ys) (drop place xs)) in
    let parts : AreBelow limit whole = AreBelow-append limit (take place xs) (ys ++ drop (length ys) (drop place xs)) (AreBelow-take limit place xs l h) (AreBelow-append limit ys (drop (length ys) (drop place xs)) m (AreBelow-drop limit (length ys) (drop place xs) (AreBelow-drop limit place xs l))) in
    AreBelow-take limit (length xs) (whole ++ drop (length whole) xs) (AreBelow-append limit whole (drop (length whole) xs) parts (AreBelow-drop limit (length whole) xs l)) h

-- the bytes of a number are bytes
bytes_low_first-lt : (i n x : ℕ) → AreBytes (bytes_low_first i n x)
bytes_low_first-lt i zero x k = omega arith
bytes_low_first-lt zero (suc n) x zero = omega arith
bytes_low_first-lt (suc i) (suc n) x zero = omega arith
bytes_low_first-lt i (suc n) x (suc k) = bytes_low_first-lt (suc i) n x k

word_bytes-lt : (w : ℕ) → AreBytes (word_bytes w)
unfolding word_bytes
word_bytes-lt w = bytes_low_first-lt 0 8 w

-- the bytes of words are bytes
pub AreBytes-bytes_of : (ws : List ℕ) → AreBytes (bytes_of ws)
AreBytes-bytes_of [] = subst AreBytes (sym bytes_of-nil) (AreBelow-nil 256 (omega arith))
AreBytes-bytes_of (w ∷ ws) =
    subst AreBytes (sym (bytes_of-cons w ws)) (AreBelow-append 256 (word_bytes w) (bytes_of ws) (word_bytes-lt w) (AreBytes-bytes_of ws))

pub IsArea-fresh_area : (size : ℕ) → 1 ≤ size → size ≤ 2 ^ 25 + 1 → IsArea (fresh_area size)
IsArea-fresh_area size h l = record { within = omega arith; small = l; fits = AreBelow-nil (2 ^ 64) (omega arith) }

pub IsArea-with_zeros : (area : AreaView) (count : ℕ) → IsArea area → top_of area + count ≤ area.size → IsArea (with_zeros area count)
IsArea-with_zeros area count h room =
    record {
      within = omega (arith, top_of-with_zeros area count);
      small = h.small;
      fits = AreBelow-append (2 ^ 64) area.words (replicate count 0) h.fits (AreBelow-zeros (2 ^ 64) count (omega arith));
    }

pub IsArea-with_word : (area : AreaView) (at value : ℕ) → IsArea area → value < 2 ^ 64 → IsArea (with_word area at value)
IsArea-with_word area at value h fit =
    record {
      within = omega (arith, top_of-with_word area at value, h.within);
      small = h.small;
      fits = AreBelow-set (2 ^ 64) area.words (at - 1) value fit h.fits;
    }

pub IsArea-with_words : (area : AreaView) (at : ℕ) (values : List ℕ) → IsArea area → AreWords values → IsArea (with_words area at values)
IsArea-with_words area at values h fit =
    record {
      within = omega (arith, top_of-with_words area at values, h.within);
      small = h.small;
      fits = AreBelow-overwritten (2 ^ 64) area.words (at - 1) values (omega arith) h.fits fit;
    }

-- A write of bytes.

-- the bytes of the area after a write of bytes
pub bytes_of-with_bytes : (area : AreaView) (at : ℕ) (bytes : List ℕ) → AreBytes bytes → bytes_of (with_bytes area at bytes).words ≡ overwritten (bytes_of area.words) (8 * (at - 1)) bytes
bytes_of-with_bytes area at bytes fit =
    let old = bytes_of area.words in
    let long : length (overwritten old (8 * (at - 1)) bytes) ≡ 8 * length area.words = length-overwritten old (8 * (at - 1)) bytes ∙ length-bytes_of area.words in
    bytes_of-words_of (overwritten old (8 * (at - 1)) bytes) (omega (arith, long)) (AreBelow-overwritten 256 old (8 * (at - 1)) bytes (omega arith) (AreBytes-bytes_of area.words) fit)

pub top_of-with_bytes : (area : AreaView) (at : ℕ) (bytes : List ℕ) → top_of (with_bytes area at bytes) ≡ top_of area
top_of-with_bytes area at bytes =
    let old = bytes_of area.words in
    omega (arith, length-words_of (overwritten old (8 * (at - 1)) bytes), length-overwritten old (8 * (at - 1)) bytes, length-bytes_of area.words)

pub top_of-with_bytes_from : (area : AreaView) (place : ℕ) (bytes : List ℕ) → top_of (with_bytes_from area place bytes) ≡ top_of area
top_of-with_bytes_from area place bytes =
    let old = bytes_of area.words in
    omega (arith, length-words_of (overwritten old place bytes), length-overwritten old place bytes, length-bytes_of area.words)

pub IsArea-with_bytes : (area : AreaView) (at : ℕ) (bytes : List ℕ) → IsArea area → AreBytes bytes → IsArea (with_bytes area at bytes)
IsArea-with_bytes area at bytes h fit =
    let old = bytes_of area.words in
    record {
      within = omega (arith, top_of-with_bytes area at bytes, h.within);
      small = h.small;
      fits = AreWords-words_of (overwritten old (8 * (at - 1)) bytes) (AreBelow-overwritten 256 old (8 * (at - 1)) bytes (omega arith) (AreBytes-bytes_of area.words) fit);
    }

-- bytes that lie in words which are given out lie in the bytes of all words
bytes-inside : (area : AreaView) (at count : ℕ) → IsGivenOut area at (words_spanned count) → 8 * (at - 1) + count ≤ length (bytes_of area.words)
bytes-inside area at count given =
    omega (arith, length-bytes_of area.words, given.placed, given.below)

pub bytes_at-with_bytes : (area : AreaView) (at : ℕ) (bytes : List ℕ) → AreBytes bytes → IsGivenOut area at (words_spanned (length bytes)) → bytes_at (with_bytes area at bytes) at (length bytes) ≡ bytes
bytes_at-with_bytes area at bytes fit given =
    ap (λ (b : List ℕ). take (length bytes) (drop (8 * (at - 1)) b)) (bytes_of-with_bytes area at bytes fit)
    ∙ overwritten-there (bytes_of area.words) (8 * (at - 1)) bytes (bytes-inside area at (length bytes) given)

-- a part of the words is spelled by that part of the bytes
part-words_of : (bytes : List ℕ) (k n : ℕ) → 8 * k + 8 * n ≤ length bytes → take n (drop k (words_of bytes)) ≡ words_of (take (8 * n) (drop (8 * k) bytes))
part-words_of bytes k n h =
    ap (take n) (sym (words_of-drop k bytes (omega arith))) ∙ sym (words_of-take n (drop (8 * k) bytes) (omega (arith, length-drop (8 * k) bytes)))

-- words whose bytes stay are as before
words_at-kept : (area : AreaView) (at : ℕ) (bytes : List ℕ) (other count : ℕ) → AreWords area.words → IsGivenOut area other count → take (8 * count) (drop (8 * (other - 1)) (overwritten (bytes_of area.words) (8 * (at - 1)) bytes)) ≡ take (8 * count) (drop (8 * (other - 1)) (bytes_of area.words)) → words_at (with_bytes area at bytes) other count ≡ words_at area other count
words_at-kept area at bytes other count fits given kept =
    let old = bytes_of area.words in
    let new = overwritten old (8 * (at - 1)) bytes in
    let long = length-bytes_of area.words in
    let same = length-overwritten old (8 * (at - 1)) bytes in
    let inside : 8 * (other - 1) + 8 * count ≤ length old = omega (arith, given.placed, given.below) in
    part-words_of new (other - 1) count (omega arith)
    ∙ ap words_of kept
    ∙ sym (part-words_of old (other - 1) count inside)
    ∙ ap (λ (ws : List ℕ). take count (drop (other - 1) ws)) (words_of-bytes_of area.words fits)

pub words_at-with_bytes_before : (area : AreaView) (at : ℕ) (bytes : List ℕ) (other count : ℕ) → AreWords area.words → IsGivenOut area at (words_spanned (length bytes)) → IsGivenOut area other count → other + count ≤ at → words_at (with_bytes area at bytes) other count ≡ words_at area other count
words_at-with_bytes_before area at bytes other count fits given there below =
    words_at-kept area at bytes other count fits there (overwritten-before (bytes_of area.words) (8 * (at - 1)) bytes (8 * (other - 1)) (8 * count) (bytes-inside area at (length bytes) given) (omega (arith, there.placed)))

pub words_at-with_bytes_after : (area : AreaView) (at : ℕ) (bytes : List ℕ) (other count : ℕ) → AreWords area.words → IsGivenOut area at (words_spanned (length bytes)) → IsGivenOut area other count → at + words_spanned (length bytes) ≤ other → words_at (with_bytes area at bytes) other count ≡ words_at area other count
words_at-with_bytes_after area at bytes other count fits given there above =
    words_at-kept area at bytes other count fits there (ap (take (8 * count)) (overwritten-after (bytes_of area.words) (8 * (at - 1)) bytes (8 * (other - 1)) (bytes-inside area at (length bytes) given) (omega (arith, given.placed))))

-- the written words: the bytes, and after them what stood there
pub words_at-with_bytes : (area : AreaView) (at : ℕ) (bytes : List ℕ) (count : ℕ) → IsGivenOut area at count → length bytes ≤ 8 * count → words_at (with_bytes area at bytes) at count ≡ words_of (bytes ++ drop (length bytes) (bytes_at area at (8 * count)))
words_at-with_bytes area at bytes count given h =
    let old = bytes_of area.words in
    let place = 8 * (at - 1) in
    let long = length-bytes_of area.words in
    let inside : place + 8 * count ≤ length old = omega (arith, given.placed, given.below) in
    let same = length-overwritten old place bytes in
    let front = length-take-le place old (omega arith) in
    let split : 8 * count ≡ length bytes + (8 * count - length bytes) = omega arith in
    let rest = drop (place + length bytes) old in
    part-words_of (overwritten old place bytes) (at - 1) count (omega arith)
    ∙ ap words_of
    (ap (λ (r : List ℕ). take (8 * count) (drop place r)) (overwritten-inside old place bytes (omega arith))
    ∙ ap (take (8 * count)) (drop_at (take place old) (bytes ++ rest) place front)
    ∙ ap (λ (n : ℕ). take n (bytes ++ rest)) split
    ∙ take-append-add bytes rest (8 * count - length bytes)
    ∙ ap (λ (r : List ℕ). bytes ++ r) (ap (take (8 * count - length bytes)) (sym (drop-drop (length bytes) place old)) ∙ sym (drop-take (length bytes) (8 * count - length bytes) (drop place old)) ∙ ap (λ (n : ℕ). drop (length bytes) (take n (drop place old))) (sym split)))
