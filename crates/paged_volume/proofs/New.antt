-- The numbers of a new volume, how they are written, and that it is found as a volume without a database.
use Rattle.std.proofs.Common.{◌≡◌, ◌≢◌, ◌⊎◌, inl, inr, ℕ, ◌+◌, ◌-◌, ◌*◌, ◌%◌, ◌^◌, ◌<◌, ◌≤◌, Bool, true, false, ◌&&◌, ◌||◌, List, [], ◌∷◌, ◌++◌, length, get_or, drop, replicate, refl, sym, ◌∙◌, ap, subst, arith, if◌then◌else◌}
use Rattle.std.specs.Prelude.{nat_le, nat_lt, ◌==◌}
use Rattle.std.proofs.lemmas.Grind.{same_number_lists}
use Rattle.page_map.specs.Pages.{is_free, names}
use Rattle.std.proofs.lemmas.Bool.{cases_lt, le-leb, lt-leb, lt-ltb, le-ltb, leb-true, and_right, or_cases}
use Rattle.std.proofs.lemmas.List.{append-nil, get_or-drop, length-drop}
use Rattle.byteorder.specs.Endian.{little_bytes, little_number}
use Rattle.byteorder.specs.Numbers.{little_number-reads_back}
use Rattle.ps_port.specs.ps_outside.Outside.{Outside, Leaves}
use Rattle.ps_port.proofs.of_ps_outside.Moments.{along_weaker}
use Rattle.ps_port.specs.Disk.{Torn, Written, written}
use Rattle.ps_port.specs.DiskLaws.{written_elsewhere, length-written}
use Rattle.volume_parts.specs.Layout.{number_at, magic, gate, selects}
use Rattle.ps_port.proofs.Torn.{byte_written}
use Rattle.volume_parts.specs.Making.{IsOld, IsShut, IsZeroed, empty_note, empty_held}
use Rattle.volume_parts.proofs.Numbers.{number_same}
use Rattle.volume_parts.proofs.Gate.{written_before, written_inside, zeroed_more}
use Rattle.paged_volume.specs.Planning.{depth_of}
use Rattle.paged_volume.specs.Making.{Number, number, new_numbers, byte_of, Stand, IsNew, IsBegun, IsMaking}
use Rattle.paged_volume.specs.Layout.{maps_at}
use Rattle.paged_volume.specs.Found.{a_volume, found_in, numbers_of, unnamed, bytes_named}
use Rattle.paged_volume.specs.Standing.{IsFit, AreUnnamed, HasHead, HasRoot, index_of, maps_of, map_names, place_by}
use Rattle.paged_volume.specs.declared.committed.Committed.{Committed}
use Rattle.paged_volume.proofs.Bounds.{capacity_low, depth_fits, depth_none, depth_one}
use Rattle.paged_volume.proofs.Numbers.{names_append}
use Rattle.paged_volume.proofs.Reading.{maps_at_none, maps_at_one, place_in}
use Rattle.paged_volume.proofs.Held.{found_named, length_bytes, byte_at, byte_some}
use Rattle.paged_volume.proofs.Naming.{zero_at}
use Rattle.paged_volume.proofs.Spelling.{length_little, length_put}
use Rattle.paged_volume.proofs.Tables.{and_both, or_both, none_names, names_nothing, unnamed_at}

-- a byte of the first number, or of those after it
pub byte_inside : (n : Number) (rest : List Number) (k : ℕ) → n.at ≤ k → k < n.at + n.width → byte_of (n ∷ rest) k ≡ get_or (little_bytes n.width n.value) (k - n.at) 0
unfolding byte_of
byte_inside n rest k low high =
    (λ i. if le-leb n.at k low i && lt-ltb k (n.at + n.width) high i then get_or (little_bytes n.width n.value) (k - n.at) 0 else byte_of rest k)

pub byte_outside : (n : Number) (rest : List Number) (k : ℕ) → (k < n.at) ⊎ (n.at + n.width ≤ k) → byte_of (n ∷ rest) k ≡ byte_of rest k
unfolding byte_of
byte_outside n rest k (inl before) =
    (λ i. if lt-leb n.at k before i && nat_lt k (n.at + n.width) then get_or (little_bytes n.width n.value) (k - n.at) 0 else byte_of rest k)
byte_outside n rest k (inr behind) =
    (λ i. if nat_le n.at k && le-ltb k (n.at + n.width) behind i then get_or (little_bytes n.width n.value) (k - n.at) 0 else byte_of rest k)
    ∙ (λ i. if and_right (nat_le n.at k) false refl i then get_or (little_bytes n.width n.value) (k - n.at) 0 else byte_of rest k)

-- no number stands yet
pub stand_none : (count : ℕ) → Stand [] (replicate {A = ℕ} count 0)
unfolding byte_of
stand_none count k lt = zero_at count k

-- one more number is written
pub stand_more : (numbers : List Number) (at width value : ℕ) (old new : List ℕ) → at + width ≤ length old → new ≡ written at (little_bytes width value) old → Stand numbers old → Stand (number at width value ∷ numbers) new
stand_more numbers at width value old new fits new_is stand k lt =
    let size = length_little width value in
    let long : length new ≡ length old = ap length new_is ∙ length_put old at width value fits in
    ap (λ (xs : List ℕ). get_or xs k 0) new_is ∙ elim (cases_lt k at) [
      | inl before ↦
          written_before at (little_bytes width value) old k (omega arith) before ∙ stand k (omega arith) ∙ sym (byte_outside (number at width value) numbers k (inl before))
      | inr low ↦ elim (cases_lt k (at + width)) [
        | inl high ↦ written_inside at (little_bytes width value) old k (omega arith) low (omega arith) ∙ sym (byte_inside (number at width value) numbers k low high)
        | inr behind ↦ written_elsewhere at (little_bytes width value) old k (omega arith) (inr (omega arith)) ∙ stand k (omega arith) ∙ sym (byte_outside (number at width value) numbers k (inr behind))
      ]
    ]

-- whether a place is apart from numbers, by which it can be computed
pub is_apart : ℕ → ℕ → List Number → Bool
is_apart at width [] = true
is_apart at width (n ∷ rest) = (nat_le (at + width) n.at || nat_le (n.at + n.width) at) && is_apart at width rest

apart_first : (at width : ℕ) (n : Number) → (nat_le (at + width) n.at || nat_le (n.at + n.width) at) ≡ true → (at + width ≤ n.at) ⊎ (n.at + n.width ≤ at)
apart_first at width n is = elim (or_cases (nat_le (at + width) n.at) (nat_le (n.at + n.width) at) is) [
  | inl before ↦ inl (leb-true (at + width) n.at before)
  | inr behind ↦ inr (leb-true (n.at + n.width) at behind)
]

-- bytes that are apart from the first numbers, or from all
byte_past : (front rest : List Number) (at width k : ℕ) → is_apart at width front ≡ true → at ≤ k → k < at + width → byte_of (front ++ rest) k ≡ byte_of rest k
unfolding is_apart
byte_past [] rest at width k apart low high = refl
byte_past (n ∷ front) rest at width k apart low high =
    let both = and_both (nat_le (at + width) n.at || nat_le (n.at + n.width) at) (is_apart at width front) apart in
    byte_outside n (front ++ rest) k (elim (apart_first at width n both.0) [ inl before ↦ inl (omega arith) | inr behind ↦ inr (omega arith) ])
    ∙ byte_past front rest at width k both.1 low high

byte_none : (k : ℕ) → byte_of [] k ≡ 0
unfolding byte_of
byte_none k = refl

pub byte_zero : (numbers : List Number) (at width k : ℕ) → is_apart at width numbers ≡ true → at ≤ k → k < at + width → byte_of numbers k ≡ 0
byte_zero numbers at width k apart low high =
    ap (λ (ns : List Number). byte_of ns k) (sym (append-nil numbers)) ∙ byte_past numbers [] at width k apart low high ∙ byte_none k

-- a number, by its bytes
number_by : (at width value : ℕ) (image : List ℕ) → value < 256 ^ width → ((i : ℕ) → i < width → get_or image (at + i) 0 ≡ get_or (little_bytes width value) i 0) → number_at at width image ≡ value
number_by at width value image fits bytes =
    number_same at 0 width image (little_bytes width value) (λ i lt. bytes i lt ∙ ap (λ (n : ℕ). get_or (little_bytes width value) n 0) (omega arith))
    ∙ ap (λ (xs : List ℕ). little_number width xs) (sym (append-nil (little_bytes width value)))
    ∙ little_number-reads_back width value [] fits

-- bytes in which numbers stand
module _ (image : List ℕ) (numbers : List Number) (limit : ℕ) (bytes : (k : ℕ) → 1 ≤ k → k < limit → get_or image k 0 ≡ byte_of numbers k) where
  pub number_found : (front : List Number) (n : Number) (rest : List Number) → numbers ≡ front ++ n ∷ rest → 1 ≤ n.at → n.at + n.width ≤ limit → is_apart n.at n.width front ≡ true → n.value < 256 ^ n.width →
      number_at n.at n.width image ≡ n.value
  number_found front n rest numbers_are some within apart fits = number_by n.at n.width n.value image fits (λ i lt.
      bytes (n.at + i) (omega arith) (omega arith)
      ∙ ap (λ (ns : List Number). byte_of ns (n.at + i)) numbers_are
      ∙ byte_past front (n ∷ rest) n.at n.width (n.at + i) apart (omega arith) (omega arith)
      ∙ byte_inside n rest (n.at + i) (omega arith) (omega arith)
      ∙ ap (λ (j : ℕ). get_or (little_bytes n.width n.value) j 0) (omega arith))

  pub zero_found : (at width k : ℕ) → is_apart at width numbers ≡ true → 1 ≤ at → at + width ≤ limit → at ≤ k → k < at + width → get_or image k 0 ≡ 0
  zero_found at width k apart some within low high = bytes k (omega arith) (omega arith) ∙ byte_zero numbers at width k apart low high

-- what a new volume says doesn't go by the gate
pub new_torn : (pages : ℕ) (old new : List ℕ) → IsNew pages old → Torn 0 1 old new → IsNew pages new
new_torn pages old new is torn =
    let long = is.long in
    let longer = torn.no_shorter in
    record { long = omega arith; bytes = λ k low high. torn.elsewhere k (omega arith) (inr (omega arith)) ∙ is.bytes k low high }

-- whether numbers end up to a place, by which it can be computed
pub are_below : ℕ → List Number → Bool
are_below limit [] = true
are_below limit (n ∷ rest) = nat_le (n.at + n.width) limit && are_below limit rest

byte_over : (front rest : List Number) (limit k : ℕ) → are_below limit front ≡ true → limit ≤ k → byte_of (front ++ rest) k ≡ byte_of rest k
unfolding are_below
byte_over [] rest limit k below low = refl
byte_over (n ∷ front) rest limit k below low =
    let both = and_both (nat_le (n.at + n.width) limit) (are_below limit front) below in
    let ends = leb-true (n.at + n.width) limit both.0 in
    byte_outside n (front ++ rest) k (inr (omega arith)) ∙ byte_over front rest limit k both.1 low

-- behind the first pages there is no number
behind_front : (pages k : ℕ) → 24576 ≤ k → byte_of (new_numbers pages) k ≡ 0
unfolding new_numbers are_below
behind_front pages k low = ap (λ (ns : List Number). byte_of ns k) (sym (append-nil (new_numbers pages))) ∙ byte_over (new_numbers pages) [] 24576 k refl low ∙ byte_none k

-- the last of the numbers is 0 where there is no index page
small_zero : (pages : ℕ) → depth_of pages ≡ 0 → (k : ℕ) → 20480 ≤ k → byte_of (new_numbers pages) k ≡ 0
unfolding new_numbers are_below
small_zero pages none k low =
    let front = number 1 6 magic ∷ number 7 1 2 ∷ number 8 4 pages ∷ number 8200 8 1 ∷ number 8216 4 1 ∷ number 8220 4 4 ∷ number 12284 4 (depth_of pages) ∷ number 16384 4 5 ∷ [] in
    let last = number 20480 4 (6 * depth_of pages) in
    byte_over front (last ∷ []) 20480 k refl low ∙ elim (cases_lt k 20484) [
      | inl inside ↦
          byte_inside last [] k low inside
          ∙ ap (λ (n : ℕ). get_or (little_bytes 4 (6 * n)) (k - 20480) 0) none ∙ zero_at 4 (k - 20480)
      | inr past ↦ byte_outside last [] k (inr past) ∙ byte_none k
    ]

-- the first pages, and blank ones after them
pub begun_by : (pages : ℕ) (front old mid new : List ℕ) → IsShut old → Stand (new_numbers pages) front → length front ≡ 24576 → mid ≡ written 1 (drop 1 front) old → IsZeroed 24576 (4096 * pages) mid new → IsBegun pages new
begun_by pages front old mid new shut stand size mid_is zeroed =
    let long = shut.long in
    let part : length (drop 1 front) ≡ 24575 = omega (arith, length-drop 1 front) in
    record {
      is_new = record {
        long = zeroed.long;
        bytes = λ k low high. elim (cases_lt k 24576) [
          | inl inside ↦
              zeroed.before k inside ∙ ap (λ (xs : List ℕ). get_or xs k 0) mid_is
              ∙ written_inside 1 (drop 1 front) old k long low (omega arith)
              ∙ get_or-drop 1 front (k - 1) 0 ∙ ap (λ (n : ℕ). get_or front n 0) (omega arith)
              ∙ stand k (omega arith)
          | inr past ↦ zeroed.zeros k past high ∙ sym (behind_front pages k past)
        ];
      };
      shut = zeroed.before 0 (omega arith) ∙ ap (λ (xs : List ℕ). get_or xs 0 0) mid_is ∙ written_before 1 (drop 1 front) old 0 long (omega arith) ∙ shut.shut;
    }

-- while the gate is written, and once it is shut
pub making_old : (pages : ℕ) (a b : Outside (List ℕ)) → Leaves a b (IsOld a) → Leaves a b (IsMaking a pages)
making_old pages a b first = along_weaker first (λ image old. inl old)

pub making_shut : (outside : Outside (List ℕ)) (pages : ℕ) (image : List ℕ) → IsShut image → IsMaking outside pages image
making_shut outside pages image is = inr (λ opened. absurd (let zero : 0 ≡ 1 = sym is.shut ∙ opened in omega arith))

pub shut_written : (old new : List ℕ) → Written 0 (0 ∷ []) old new → IsShut new
shut_written old new by = record {
  long = omega (arith, ap length by, length-written 0 (0 ∷ []) old);
  shut = ap gate by ∙ byte_written 0 0 old (omega arith);
}

-- one more blank page
pub blank_more : (number : ℕ) (blank old mid new : List ℕ) → 6 ≤ number → length blank ≡ 4096 → ((k : ℕ) → get_or blank k 0 ≡ 0) → IsZeroed 24576 (4096 * number) old mid → Written (4096 * number) blank mid new →
    IsZeroed 24576 (4096 * (number + 1)) old new
blank_more number blank old mid new low size zeros is by =
    subst (λ (xs : List ℕ). IsZeroed 24576 (4096 * (number + 1)) old xs) (sym by)
    (subst (λ (n : ℕ). IsZeroed 24576 n old (written (4096 * number) blank mid)) (omega arith) (zeroed_more 24576 (4096 * number) 4096 old mid blank (omega arith) is zeros size))

-- the pages of a new volume are named once
module _ (pages first second third depth : ℕ) (few : depth ≤ 1) (firsts : 0 < depth → (4 ≤ first) × (first < pages) × (first ≢ second) × (first ≢ third)) (seconds : (4 ≤ second) × (second < pages) × (second ≢ third))
    (thirds : (4 ≤ third) × (third < pages)) where
  index_is : (i : ℕ) → index_of (first ∷ second ∷ []) i ≡ first
  unfolding index_of
  index_is i = refl

  map_is : maps_of (first ∷ second ∷ []) 0 ≡ second
  unfolding maps_of
  map_is = refl

  pub new_index_once : AreUnnamed pages [] (index_of (first ∷ second ∷ [])) depth
  new_index_once i lt =
      let is = firsts (omega arith) in
      unnamed_at pages [] (index_of (first ∷ second ∷ [])) i (omega (arith, index_is i, is.0), omega (arith, index_is i, is.1)) (names_nothing (index_of (first ∷ second ∷ []) i)) (λ k below. absurd (omega arith))

  index_names : (page : ℕ) → (0 < depth → first ≢ page) → names (numbers_of (index_of (first ∷ second ∷ [])) depth) page ≡ false
  index_names page apart = none_names (index_of (first ∷ second ∷ [])) depth page (λ k lt same. apart (omega arith) (sym (index_is k) ∙ same))

  pub new_maps_once : AreUnnamed pages (numbers_of (index_of (first ∷ second ∷ [])) depth) (maps_of (first ∷ second ∷ [])) 1
  new_maps_once i lt =
      let none : 0 ≡ i = omega arith in
      subst (λ (n : ℕ). is_free (unnamed pages (numbers_of (index_of (first ∷ second ∷ [])) depth ++ numbers_of (maps_of (first ∷ second ∷ [])) n)) (maps_of (first ∷ second ∷ []) n) ≡ true) none
      (unnamed_at pages (numbers_of (index_of (first ∷ second ∷ [])) depth) (maps_of (first ∷ second ∷ [])) 0 (omega (arith, map_is, seconds.0), omega (arith, map_is, seconds.1))
      (index_names (maps_of (first ∷ second ∷ []) 0) (λ deep same. (firsts deep).2 (same ∙ map_is))) (λ k below. absurd (omega arith)))

  pub new_pages_once : AreUnnamed pages (map_names depth (first ∷ second ∷ []) 1) (λ page. third) 1
  new_pages_once i lt =
      unnamed_at pages (map_names depth (first ∷ second ∷ []) 1) (λ page. third) i thirds
      (names_append (numbers_of (index_of (first ∷ second ∷ [])) depth) (numbers_of (maps_of (first ∷ second ∷ [])) 1) third
      ∙ or_both _ _ (index_names third (λ deep same. (firsts deep).3 same))
      (none_names (maps_of (first ∷ second ∷ [])) 1 third (λ k below same. let none : 0 ≡ k = omega arith in seconds.2 (sym map_is ∙ ap (λ (n : ℕ). maps_of (first ∷ second ∷ []) n) none ∙ same))))
      (λ k below. absurd (omega arith))

zero_bytes : (i : ℕ) → get_or (little_bytes 8 0) i 0 ≡ 0
zero_bytes i = zero_at 8 i

-- what the numbers of a new volume say
module _ (pages : ℕ) (image : List ℕ) (least : 32 ≤ pages) (most : pages ≤ 1048576) (is : IsNew pages image) where
  depth_few : depth_of pages ≤ 1
  depth_few = (depth_fits 2 pages).at_most_one

  at_spelled : number_at 1 6 image ≡ magic
  unfolding new_numbers is_apart
  at_spelled = number_found image (new_numbers pages) (4096 * pages) is.bytes [] (number 1 6 magic) _ refl (omega arith) (omega arith) refl (omega arith)

  at_format : number_at 7 1 image ≡ 2
  unfolding new_numbers is_apart
  at_format = number_found image (new_numbers pages) (4096 * pages) is.bytes (number 1 6 magic ∷ []) (number 7 1 2) _ refl (omega arith) (omega arith) refl (omega arith)

  at_pages : number_at 8 4 image ≡ pages
  unfolding new_numbers is_apart
  at_pages = number_found image (new_numbers pages) (4096 * pages) is.bytes (number 1 6 magic ∷ number 7 1 2 ∷ []) (number 8 4 pages) _ refl (omega arith) (omega arith) refl (omega arith)

  at_used : number_at 8200 8 image ≡ 1
  unfolding new_numbers is_apart
  at_used = number_found image (new_numbers pages) (4096 * pages) is.bytes (number 1 6 magic ∷ number 7 1 2 ∷ number 8 4 pages ∷ []) (number 8200 8 1) _ refl (omega arith) (omega arith) refl (omega arith)

  at_logical : number_at 8216 4 image ≡ 1
  unfolding new_numbers is_apart
  at_logical = number_found image (new_numbers pages) (4096 * pages) is.bytes (number 1 6 magic ∷ number 7 1 2 ∷ number 8 4 pages ∷ number 8200 8 1 ∷ []) (number 8216 4 1) _ refl (omega arith) (omega arith) refl (omega arith)

  at_first : number_at 8220 4 image ≡ 4
  unfolding new_numbers is_apart
  at_first = number_found image (new_numbers pages) (4096 * pages) is.bytes (number 1 6 magic ∷ number 7 1 2 ∷ number 8 4 pages ∷ number 8200 8 1 ∷ number 8216 4 1 ∷ []) (number 8220 4 4) _ refl (omega arith) (omega arith)
      refl (omega arith)

  at_depth : number_at 12284 4 image ≡ depth_of pages
  unfolding new_numbers is_apart
  at_depth = number_found image (new_numbers pages) (4096 * pages) is.bytes (number 1 6 magic ∷ number 7 1 2 ∷ number 8 4 pages ∷ number 8200 8 1 ∷ number 8216 4 1 ∷ number 8220 4 4 ∷ []) (number 12284 4 (depth_of pages)) _ refl
      (omega arith) (omega arith) refl (omega (arith, depth_few))

  at_fourth : number_at 16384 4 image ≡ 5
  unfolding new_numbers is_apart
  at_fourth = number_found image (new_numbers pages) (4096 * pages) is.bytes (number 1 6 magic ∷ number 7 1 2 ∷ number 8 4 pages ∷ number 8200 8 1 ∷ number 8216 4 1 ∷ number 8220 4 4 ∷ number 12284 4 (depth_of pages) ∷ [])
      (number 16384 4 5) _ refl (omega arith) (omega arith) refl (omega arith)

  at_fifth : number_at 20480 4 image ≡ 6 * depth_of pages
  unfolding new_numbers is_apart
  at_fifth = number_found image (new_numbers pages) (4096 * pages) is.bytes
      (number 1 6 magic ∷ number 7 1 2 ∷ number 8 4 pages ∷ number 8200 8 1 ∷ number 8216 4 1 ∷ number 8220 4 4 ∷ number 12284 4 (depth_of pages) ∷ number 16384 4 5 ∷ []) (number 20480 4 (6 * depth_of pages)) _ refl (omega arith)
      (omega arith) refl (omega (arith, depth_few))

  at_commits : number_at 8192 8 image ≡ 0
  unfolding new_numbers is_apart
  at_commits = number_by 8192 8 0 image (omega arith) (λ i lt. zero_found image (new_numbers pages) (4096 * pages) is.bytes 8192 8 (8192 + i) refl (omega arith) (omega arith) (omega arith) (omega arith) ∙ sym (zero_bytes i))

  at_directory : number_at 8208 8 image ≡ 0
  unfolding new_numbers is_apart
  at_directory = number_by 8208 8 0 image (omega arith) (λ i lt. zero_found image (new_numbers pages) (4096 * pages) is.bytes 8208 8 (8208 + i) refl (omega arith) (omega arith) (omega arith) (omega arith) ∙ sym (zero_bytes i))

  at_selector : selects image ≡ false
  unfolding new_numbers is_apart
  at_selector = ap (λ (byte : ℕ). byte % 2 == 1) (zero_found image (new_numbers pages) (4096 * pages) is.bytes 4096 1 4096 refl (omega arith) (omega arith) (omega arith) (omega arith))

  new_committed : Committed
  new_committed = record { format = 2; pages = pages; second = false; depth = depth_of pages; note = empty_note }

  new_fit : IsFit new_committed
  unfolding new_committed
  new_fit = record {
    head = record { formats = (omega arith, omega arith); least = least; most = most };
    some = omega arith;
    within = omega (arith, capacity_low pages least most);
    below = omega arith;
    depth = depth_fits 2 pages;
  }

  new_root : HasRoot false empty_note (depth_of pages) image
  new_root = record {
    note_is = (λ i. record { commits = at_commits i; used = at_used i; directory = at_directory i });
    logical = at_logical;
    depth_is = at_depth;
  }

  module _ (opened : gate image ≡ 1) where
    new_head : HasHead 2 pages image
    new_head = record { long = is.long; opened = opened; spelled = at_spelled; format_is = at_format; pages_are = at_pages }

    -- found with these pages for the map page, where it stands, and the logical page
    new_found : (first second third : ℕ) → (0 < depth_of pages → (4 ≤ first) × (first < pages) × (first ≢ second) × (first ≢ third)) → (4 ≤ second) × (second < pages) × (second ≢ third) → (4 ≤ third) × (third < pages) →
        (0 < depth_of pages → number_at 8220 4 image ≡ first) → number_at (maps_at false (depth_of pages) first) 4 image ≡ second → number_at (4096 * second) 4 image ≡ third →
        ((k : ℕ) → 4096 * third ≤ k → k < 4096 * third + 4096 → get_or image k 0 ≡ 0) → found_in image ≡ a_volume pages false empty_held
    unfolding new_committed
    new_found first second third firsts seconds thirds index map page zeros =
        found_named new_committed (first ∷ second ∷ []) (λ page. third) image new_fit new_head at_selector new_root
        (λ i lt. index (omega arith) ∙ sym (index_is pages first second third (depth_of pages) depth_few firsts seconds thirds i))
        (λ map_page lt. let none : 0 ≡ map_page = omega arith in
        subst (λ (n : ℕ). number_at (maps_at false (depth_of pages) first + 4 * n) 4 image ≡ maps_of (first ∷ second ∷ []) n) none
        (ap (λ (n : ℕ). number_at n 4 image) (omega arith) ∙ map ∙ sym (map_is pages first second third (depth_of pages) depth_few firsts seconds thirds)))
        (λ k lt. let none : 0 ≡ k = omega arith in
        subst (λ (n : ℕ). number_at (place_by (first ∷ second ∷ []) n) 4 image ≡ third) none
        (ap (λ (n : ℕ). number_at n 4 image) (place_in (first ∷ second ∷ []) 0 0 (omega arith) ∙ omega (arith, map_is pages first second third (depth_of pages) depth_few firsts seconds thirds)) ∙ page))
        (new_index_once pages first second third (depth_of pages) depth_few firsts seconds thirds)
        (new_maps_once pages first second third (depth_of pages) depth_few firsts seconds thirds)
        (new_pages_once pages first second third (depth_of pages) depth_few firsts seconds thirds)
        ∙ ap (λ (xs : List ℕ). a_volume pages false (record { note = empty_note; bytes = xs }))
        (same_number_lists (bytes_named (λ page. third) 1 image) (replicate {A = ℕ} 4096 0) (length_bytes (λ page. third) 1 image) (λ k lt.
        let inside : k < 4096 * 1 = omega (arith, length_bytes (λ page. third) 1 image) in
        byte_at (λ page. third) 1 image k inside ∙ byte_some (λ page. third) image k (λ none. absurd (omega (arith, thirds.0, none))) ∙ zeros (4096 * third + k % 4096) (omega arith) (omega arith) ∙ sym (zero_at 4096 k)))

    pub found_new : found_in image ≡ a_volume pages false empty_held
    found_new = elim (cases_lt pages 88) [
      | inl few ↦
          let none = depth_none pages few in
          new_found 0 4 5 (λ deep. absurd (omega (arith, none))) (omega arith, omega arith, λ e. absurd (omega arith)) (omega arith, omega arith) (λ deep. absurd (omega (arith, none)))
          (ap (λ (n : ℕ). number_at n 4 image) (maps_at_none false (depth_of pages) 0 none) ∙ at_first) at_fourth (λ k low high. zero_small none k low high)
      | inr many ↦
          let one = depth_one pages many in
          new_found 4 5 6 (λ deep. (omega arith, omega arith, λ e. absurd (omega arith), λ e. absurd (omega arith))) (omega arith, omega arith, λ e. absurd (omega arith)) (omega arith, omega arith) (λ deep. at_first)
          (ap (λ (n : ℕ). number_at n 4 image) (maps_at_one false (depth_of pages) 4 (λ none. absurd (omega (arith, one, none)))) ∙ at_fourth) (at_fifth ∙ omega (arith, one))
          (λ k low high. is.bytes k (omega arith) (omega arith) ∙ behind_front pages k (omega arith))
    ]
      where
        zero_small : depth_of pages ≡ 0 → (k : ℕ) → 20480 ≤ k → k < 24576 → get_or image k 0 ≡ 0
        zero_small none k low high = is.bytes k (omega arith) (omega arith) ∙ small_zero pages none k low
