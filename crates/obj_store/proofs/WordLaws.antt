-- Words of bytes go by their own bytes alone.
use Rattle.std.proofs.Common.{◌≡◌, ◌≢◌, ◌⊎◌, inl, inr, ℕ, ◌+◌, ◌-◌, ◌*◌, ◌%◌, ◌^◌, ◌<◌, ◌≤◌, List, [], ◌++◌, length, get_or, take, drop, sym, ◌∙◌, ap, subst, arith, length-drop}
use Rattle.std.proofs.Math.Nat.{mod-eq_of_lt}
use Rattle.std.proofs.lemmas.List.{append_assoc, append-nil, drop_all, drop_at, take_all, drop-drop, length-take-le}
use Rattle.byteorder.specs.Endian.{little_bytes, little_number}
use Rattle.byteorder.specs.Numbers.{little_number-reads_back, length-bytes_low_first}
use Rattle.ps_port.specs.Disk.{written, IsOutside}
use Rattle.ps_port.specs.DiskLaws.{written_elsewhere}
use Rattle.volume_parts.proofs.Numbers.{number_same}
use Rattle.obj_store.specs.Spaces.{word_at}
use Rattle.obj_store.specs.Words.{IsRead, IsPut}

pub word_same : (xs ys : List ℕ) (i j : ℕ) → ((k : ℕ) → k < 8 → get_or xs (8 * i + k) 0 ≡ get_or ys (8 * j + k) 0) → word_at xs i ≡ word_at ys j
unfolding word_at
word_same xs ys i j same = ap (λ (n : ℕ). n % 2 ^ 64) (number_same (8 * i) (8 * j) 8 xs ys same)

-- a number that was read is the word
pub word_read : (bytes : List ℕ) (index n : ℕ) → n < 2 ^ 64 → n ≡ little_number 8 (take (length bytes - 8 * index) (drop (8 * index) bytes)) → n ≡ word_at bytes index
unfolding word_at
word_read bytes index n fits is =
    sym (mod-eq_of_lt fits)
    ∙ ap (λ (m : ℕ). m % 2 ^ 64) (is ∙ ap (λ (xs : List ℕ). little_number 8 xs) (take_all (length bytes - 8 * index) (drop (8 * index) bytes) (omega (arith, length-drop (8 * index) bytes))))

-- the rest of a list, with eight bytes before it written
whole_put : (page part : List ℕ) (at word : ℕ) → at + 8 ≤ length page → part ≡ little_bytes 8 word ++ drop 8 (take (length page - at) (drop at page)) →
    take at page ++ (part ++ drop (length page - at) (drop at page)) ≡ written at (little_bytes 8 word) page
whole_put page part at word within is =
    let rest = length-drop at page in
    let all : take (length page - at) (drop at page) ≡ drop at page = take_all (length page - at) (drop at page) (omega (arith, rest)) in
    let none : drop (length page - at) (drop at page) ≡ [] = drop_all (length page - at) (drop at page) (omega (arith, rest)) in
    let size = length-bytes_low_first 0 8 word in
    let behind : drop 8 (drop at page) ≡ drop (at + length (little_bytes 8 word)) page = drop-drop 8 at page ∙ ap (λ (n : ℕ). drop n page) (omega (arith, size)) in
    (λ i. take at page ++ ((is ∙ ap (λ (xs : List ℕ). little_bytes 8 word ++ drop 8 xs) all ∙ ap (λ (xs : List ℕ). little_bytes 8 word ++ xs) behind) i ++ none i))
    ∙ ap (λ (xs : List ℕ). take at page ++ xs) (append-nil (little_bytes 8 word ++ drop (at + length (little_bytes 8 word)) page))
    ∙ sym (append_assoc (take at page) (little_bytes 8 word) (drop (at + length (little_bytes 8 word)) page))

pub put_here : (page part : List ℕ) (index word : ℕ) → 8 * index + 8 ≤ length page → word < 2 ^ 64 →
    part ≡ little_bytes 8 word ++ drop 8 (take (length page - 8 * index) (drop (8 * index) page)) →
    word_at (take (8 * index) page ++ (part ++ drop (length page - 8 * index) (drop (8 * index) page))) index ≡ word
unfolding word_at
put_here page part index word within fits is =
    let front = length-take-le (8 * index) page (omega arith) in
    ap (λ (n : ℕ). n % 2 ^ 64) (ap (λ (xs : List ℕ). little_number 8 (drop (8 * index) xs)) (whole_put page part (8 * index) word within is
    ∙ append_assoc (take (8 * index) page) (little_bytes 8 word) (drop (8 * index + length (little_bytes 8 word)) page))
    ∙ ap (λ (xs : List ℕ). little_number 8 xs) (drop_at (take (8 * index) page) (little_bytes 8 word ++ drop (8 * index + length (little_bytes 8 word)) page) (8 * index) front)
    ∙ little_number-reads_back 8 word (drop (8 * index + length (little_bytes 8 word)) page) fits)
    ∙ mod-eq_of_lt fits

pub put_elsewhere : (page part : List ℕ) (index word : ℕ) → 8 * index + 8 ≤ length page →
    part ≡ little_bytes 8 word ++ drop 8 (take (length page - 8 * index) (drop (8 * index) page)) →
    (other : ℕ) → other ≢ index → 8 * other + 8 ≤ length page →
    word_at (take (8 * index) page ++ (part ++ drop (length page - 8 * index) (drop (8 * index) page))) other ≡ word_at page other
put_elsewhere page part index word within is other differs fits =
    ap (λ (xs : List ℕ). word_at xs other) (whole_put page part (8 * index) word within is)
    ∙ word_same (written (8 * index) (little_bytes 8 word) page) page other other (λ k lt.
    written_elsewhere (8 * index) (little_bytes 8 word) page (8 * other + k) (omega arith) (apart k lt (either other index)))
  where
    either : (m n : ℕ) → (m < n) ⊎ ((m ≡ n) ⊎ (n < m))
    either m n = grind arith

    apart : (k : ℕ) → k < 8 → (other < index) ⊎ ((other ≡ index) ⊎ (index < other)) → IsOutside (8 * index) (length (little_bytes 8 word)) (8 * other + k)
    apart k lt (inl before) = inl (omega arith)
    apart k lt (inr (inl same)) = absurd (differs same)
    apart k lt (inr (inr behind)) = inr (omega (arith, length-bytes_low_first 0 8 word))

-- the loops over the words of a page end at the end of the range
pub read_done : (page : List ℕ) (first low high index at : ℕ) (old new : List ℕ) → IsRead page first low index at old new → high ≤ index → (low ≤ high → index ≤ high) →
    low ≤ high → IsRead page first low high at old new
read_done page first low high index at old new is past most ordered = subst (λ (n : ℕ). IsRead page first low n at old new) (let le = most ordered in let same : index ≡ high = omega arith in same) is

pub put_done : (first low high index at : ℕ) (put old new : List ℕ) → IsPut first low index at put old new → high ≤ index → (low ≤ high → index ≤ high) → low ≤ high →
    IsPut first low high at put old new
put_done first low high index at put old new is past most ordered = subst (λ (n : ℕ). IsPut first low n at put old new) (let le = most ordered in let same : index ≡ high = omega arith in same) is
