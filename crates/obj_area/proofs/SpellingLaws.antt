-- What the reads and writes of words in bytes return, in the form that `byteorder` and a range of a slice give.
use Rattle.std.proofs.Common.{◌≡◌, ℕ, ◌+◌, ◌-◌, ◌*◌, ◌^◌, ◌<◌, ◌≤◌, List, [], ◌++◌, length, take, drop, set, slice_index, sym, ap, ◌∙◌, arith, length-drop}
use Rattle.std.proofs.lemmas.List.{drop-drop, length-take-le, append-nil, ext_get_or, take_all, drop_all, drop-take, get_or-take, get_or-drop}
use Rattle.std.specs.List.{flat_map}
use Rattle.byteorder.specs.Endian.{little_bytes, little_number, IsRead}
use Rattle.byteorder.specs.Numbers.{little_from-take}
use Rattle.obj_area.specs.Words.{first_word, word_bytes, bytes_of, words_of, AreWords, overwritten}
use Rattle.obj_area.proofs.WordLaws.{length-words_of, length-bytes_of, slice_index-words_of, words_of-set, words_of-overwritten, overwritten-inside}

-- the rest of a list, as a range to its end has it
rest_is : (n k : ℕ) (bs : List ℕ) → n ≡ length bs - k → take n (drop k bs) ≡ drop k bs
rest_is n k bs e = take_all n (drop k bs) (omega (arith, length-drop k bs))

pub word_read : (bs : List ℕ) (k n : ℕ) → 8 * k + 8 ≤ length bs → n ≡ length bs - 8 * k → little_number 8 (take n (drop (8 * k) bs)) ≡ slice_index (words_of bs) k
unfolding first_word
word_read bs k n h e = ap (little_number 8) (rest_is n (8 * k) bs e) ∙ sym (slice_index-words_of k bs h)

pub word_written : (bs buf : List ℕ) (k v n : ℕ) → v < 2 ^ 64 → 8 * k + 8 ≤ length bs → n ≡ length bs - 8 * k → buf ≡ little_bytes 8 v ++ drop 8 (take n (drop (8 * k) bs)) → words_of (take (8 * k) bs ++ (buf ++ drop n (drop (8 * k) bs))) ≡ set (words_of bs) k v
unfolding word_bytes
word_written bs buf k v n fit h e w =
    let behind : drop n (drop (8 * k) bs) ≡ [] = drop_all n (drop (8 * k) bs) (omega (arith, length-drop (8 * k) bs)) in
    let kept : drop 8 (take n (drop (8 * k) bs)) ≡ drop (8 * k + 8) bs = ap (drop 8) (rest_is n (8 * k) bs e) ∙ drop-drop 8 (8 * k) bs in
    let whole : buf ++ drop n (drop (8 * k) bs) ≡ word_bytes v ++ drop (8 * k + 8) bs =
    ap (λ (r : List ℕ). buf ++ r) behind ∙ append-nil buf ∙ w ∙ ap (λ (r : List ℕ). word_bytes v ++ r) kept in
    ap (λ (r : List ℕ). words_of (take (8 * k) bs ++ r)) whole ∙ words_of-set bs k v fit h

pub words_written : (bs buf ws : List ℕ) (k n : ℕ) → AreWords ws → 8 * k + 8 * length ws ≤ length bs → n ≡ 8 * length ws → buf ≡ flat_map (little_bytes 8) ws → words_of (take (8 * k) bs ++ (buf ++ drop n (drop (8 * k) bs))) ≡ overwritten (words_of bs) k ws
unfolding bytes_of word_bytes
words_written bs buf ws k n fit h e w =
    let long = length-bytes_of ws in
    let count : n ≡ length (bytes_of ws) = omega arith in
    let behind : drop n (drop (8 * k) bs) ≡ drop (8 * k + length (bytes_of ws)) bs = drop-drop n (8 * k) bs ∙ ap (λ (m : ℕ). drop (8 * k + m) bs) count in
    let whole : buf ++ drop n (drop (8 * k) bs) ≡ bytes_of ws ++ drop (8 * k + length (bytes_of ws)) bs = ap (λ (r : List ℕ). r ++ drop n (drop (8 * k) bs)) w ∙ ap (λ (r : List ℕ). bytes_of ws ++ r) behind in
    ap (λ (r : List ℕ). words_of (take (8 * k) bs ++ r)) whole ∙ ap words_of (sym (overwritten-inside bs (8 * k) (bytes_of ws) (omega arith))) ∙ words_of-overwritten bs k ws fit h

words_read_at : (bs dst : List ℕ) (k n m i : ℕ) → i < length dst → length dst ≡ m → 8 * k + 8 * m ≤ length bs → n ≡ 8 * m → IsRead little_number 8 (take n (drop (8 * k) bs)) dst → slice_index dst i ≡ slice_index (take m (drop k (words_of bs))) i
unfolding first_word
words_read_at bs dst k n m i below l h e r =
    let split : n ≡ 8 * i + (n - 8 * i) = omega arith in
    let place : 8 * k + 8 * i ≡ 8 * (k + i) = omega arith in
    let source : drop (8 * i) (take n (drop (8 * k) bs)) ≡ take (n - 8 * i) (drop (8 * (k + i)) bs) =
    ap (λ (x : ℕ). drop (8 * i) (take x (drop (8 * k) bs))) split
    ∙ drop-take (8 * i) (n - 8 * i) (drop (8 * k) bs)
    ∙ ap (take (n - 8 * i)) (drop-drop (8 * i) (8 * k) bs ∙ ap (λ (x : ℕ). drop x bs) place) in
    r i below
    ∙ ap (little_number 8) source
    ∙ little_from-take 0 8 (n - 8 * i) (drop (8 * (k + i)) bs) (omega arith)
    ∙ sym (slice_index-words_of (k + i) bs (omega arith))
    ∙ sym (get_or-take m (drop k (words_of bs)) i 0 (omega arith) ∙ get_or-drop k (words_of bs) i 0)

pub words_read : (bs dst : List ℕ) (k n m : ℕ) → length dst ≡ m → 8 * k + 8 * m ≤ length bs → n ≡ 8 * m → IsRead little_number 8 (take n (drop (8 * k) bs)) dst → dst ≡ take m (drop k (words_of bs))
unfolding first_word
words_read bs dst k n m l h e r =
    let count = length-words_of bs in
    let long : length (take m (drop k (words_of bs))) ≡ m = length-take-le m (drop k (words_of bs)) (omega (arith, length-drop k (words_of bs))) in
    ext_get_or 0 dst (take m (drop k (words_of bs))) (omega arith) (λ i below. words_read_at bs dst k n m i below l h e r)
