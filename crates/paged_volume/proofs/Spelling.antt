-- Numbers that are written into a page.
use Rattle.std.proofs.Common.{◌≡◌, ◌⊎◌, inl, inr, ℕ, ◌+◌, ◌-◌, ◌*◌, ◌^◌, ◌<◌, ◌≤◌, List, [], ◌++◌, length, get_or, take, drop, sym, ◌∙◌, ap, subst, arith, length-drop, length-take, append_assoc}
use Rattle.std.proofs.lemmas.Bool.{cases_lt}
use Rattle.std.proofs.lemmas.List.{take_all, drop_all, drop-drop, append-nil}
use Rattle.byteorder.specs.Endian.{little_bytes, little_number}
use Rattle.byteorder.specs.Numbers.{little_number-reads_back, length-bytes_low_first}
use Rattle.ps_port.specs.Disk.{Torn, written}
use Rattle.ps_port.specs.DiskLaws.{written_torn, length-written}
use Rattle.ps_port.proofs.Torn.{written_range}
use Rattle.volume_parts.specs.Layout.{number_at}
use Rattle.volume_parts.proofs.Numbers.{number_torn, number_within}
use Rattle.paged_volume.specs.Standing.{maps_of, logical_of}
use Rattle.paged_volume.specs.Switching.{IsRootPage}
use Rattle.paged_volume.specs.declared.committed.Committed.{Committed}

pub number_put : (bytes part spelled : List ℕ) (place width : ℕ) → place + width ≤ length bytes → length spelled ≡ width → part ≡ spelled ++ drop width (take (length bytes - place) (drop place bytes)) →
    take place bytes ++ (part ++ drop (length bytes - place) (drop place bytes)) ≡ written place spelled bytes
number_put bytes part spelled place width fits size is =
    let none : drop (length bytes - place) (drop place bytes) ≡ [] = drop_all (length bytes - place) (drop place bytes) (omega (arith, length-drop place bytes)) in
    let rest : take (length bytes - place) (drop place bytes) ≡ drop place bytes = take_all (length bytes - place) (drop place bytes) (omega (arith, length-drop place bytes)) in
    let kept : drop width (take (length bytes - place) (drop place bytes)) ≡ drop (place + length spelled) bytes =
    ap (λ (xs : List ℕ). drop width xs) rest ∙ drop-drop width place bytes ∙ ap (λ (n : ℕ). drop (place + n) bytes) (sym size) in
    ap (λ (xs : List ℕ). take place bytes ++ xs)
    (ap (λ (xs : List ℕ). part ++ xs) none ∙ append-nil part ∙ is ∙ ap (λ (xs : List ℕ). spelled ++ xs) kept)
    ∙ sym (append_assoc (take place bytes) spelled (drop (place + length spelled) bytes))

pub length_little : (width number : ℕ) → length (little_bytes width number) ≡ width
length_little width number = length-bytes_low_first 0 width number

-- what stands in a page in which a number was written
module _ (page : List ℕ) (place width number : ℕ) (fits : place + width ≤ length page) where
  pub length_put : length (written place (little_bytes width number) page) ≡ length page
  length_put = omega (arith, length-written place (little_bytes width number) page, length_little width number, length-take place page, length-drop (place + length (little_bytes width number)) page)

  pub put_here : number < 256 ^ width → number_at place width (written place (little_bytes width number) page) ≡ number
  put_here small =
      let image = written place (little_bytes width number) page in
      let read : take width (drop place image) ≡ little_bytes width number = ap (λ (n : ℕ). take n (drop place image)) (sym (length_little width number)) ∙ written_range place (little_bytes width number) page (omega arith) in
      ap (λ (n : ℕ). number_at n width image) (omega arith)
      ∙ sym (number_within place width 0 width image (omega arith))
      ∙ ap (λ (xs : List ℕ). little_number width xs) (read ∙ sym (append-nil (little_bytes width number)))
      ∙ little_number-reads_back width number [] small

  pub put_there : (from other : ℕ) → from + other ≤ length page → (from + other ≤ place) ⊎ (place + width ≤ from) → number_at from other (written place (little_bytes width number) page) ≡ number_at from other page
  put_there from other inside apart = number_torn place width from other page (written place (little_bytes width number) page)
      (subst (λ (n : ℕ). Torn place n page (written place (little_bytes width number) page)) (length_little width number) (written_torn place (little_bytes width number) page)) inside apart

-- a root page
module _ (next : Committed) (first : ℕ) (one two three four five six seven : List ℕ) (size : length one ≡ 4096)
    (e1 : two ≡ written 0 (little_bytes 8 next.note.commits) one) (e2 : three ≡ written 8 (little_bytes 8 next.note.used) two) (e3 : four ≡ written 16 (little_bytes 8 next.note.directory) three)
    (e4 : five ≡ written 24 (little_bytes 4 (logical_of next)) four) (e5 : six ≡ written 28 (little_bytes 4 first) five) (e6 : seven ≡ written 4092 (little_bytes 4 next.depth) six) where
  s2 : length two ≡ 4096
  s2 = ap length e1 ∙ length_put one 0 8 next.note.commits (omega arith) ∙ size

  s3 : length three ≡ 4096
  s3 = ap length e2 ∙ length_put two 8 8 next.note.used (omega (arith, s2)) ∙ s2

  s4 : length four ≡ 4096
  s4 = ap length e3 ∙ length_put three 16 8 next.note.directory (omega (arith, s3)) ∙ s3

  s5 : length five ≡ 4096
  s5 = ap length e4 ∙ length_put four 24 4 (logical_of next) (omega (arith, s4)) ∙ s4

  s6 : length six ≡ 4096
  s6 = ap length e5 ∙ length_put five 28 4 first (omega (arith, s5)) ∙ s5

  s7 : length seven ≡ 4096
  s7 = ap length e6 ∙ length_put six 4092 4 next.depth (omega (arith, s6)) ∙ s6

  to6 : (from width : ℕ) → from + width ≤ 4092 → number_at from width seven ≡ number_at from width six
  to6 from width low = ap (λ (xs : List ℕ). number_at from width xs) e6 ∙ put_there six 4092 4 next.depth (omega (arith, s6)) from width (omega (arith, s6)) (inl low)

  to5 : (from width : ℕ) → from + width ≤ 28 → number_at from width seven ≡ number_at from width five
  to5 from width low = to6 from width (omega arith) ∙ ap (λ (xs : List ℕ). number_at from width xs) e5 ∙ put_there five 28 4 first (omega (arith, s5)) from width (omega (arith, s5)) (inl low)

  to4 : (from width : ℕ) → from + width ≤ 24 → number_at from width seven ≡ number_at from width four
  to4 from width low = to5 from width (omega arith) ∙ ap (λ (xs : List ℕ). number_at from width xs) e4 ∙ put_there four 24 4 (logical_of next) (omega (arith, s4)) from width (omega (arith, s4)) (inl low)

  to3 : (from width : ℕ) → from + width ≤ 16 → number_at from width seven ≡ number_at from width three
  to3 from width low = to4 from width (omega arith) ∙ ap (λ (xs : List ℕ). number_at from width xs) e3 ∙ put_there three 16 8 next.note.directory (omega (arith, s3)) from width (omega (arith, s3)) (inl low)

  to2 : (from width : ℕ) → from + width ≤ 8 → number_at from width seven ≡ number_at from width two
  to2 from width low = to3 from width (omega arith) ∙ ap (λ (xs : List ℕ). number_at from width xs) e2 ∙ put_there two 8 8 next.note.used (omega (arith, s2)) from width (omega (arith, s2)) (inl low)

  pub root_page_is : next.note.commits < 2 ^ 64 → next.note.used < 2 ^ 64 → next.note.directory < 2 ^ 64 → logical_of next < 2 ^ 32 → first < 2 ^ 32 → next.depth < 2 ^ 32 → IsRootPage next first seven
  root_page_is commits used directory logical names depth =
      let c : number_at 0 8 seven ≡ next.note.commits = to2 0 8 (omega arith) ∙ ap (λ (xs : List ℕ). number_at 0 8 xs) e1 ∙ put_here one 0 8 next.note.commits (omega (arith, size)) commits in
      let u : number_at 8 8 seven ≡ next.note.used = to3 8 8 (omega arith) ∙ ap (λ (xs : List ℕ). number_at 8 8 xs) e2 ∙ put_here two 8 8 next.note.used (omega (arith, s2)) used in
      let d : number_at 16 8 seven ≡ next.note.directory = to4 16 8 (omega arith) ∙ ap (λ (xs : List ℕ). number_at 16 8 xs) e3 ∙ put_here three 16 8 next.note.directory (omega (arith, s3)) directory in
      record {
        size = s7;
        note = (λ i. record { commits = c i; used = u i; directory = d i });
        logical = to5 24 4 (omega arith) ∙ ap (λ (xs : List ℕ). number_at 24 4 xs) e4 ∙ put_here four 24 4 (logical_of next) (omega (arith, s4)) logical;
        names = to6 28 4 (omega arith) ∙ ap (λ (xs : List ℕ). number_at 28 4 xs) e5 ∙ put_here five 28 4 first (omega (arith, s5)) names;
        depth = ap (λ (xs : List ℕ). number_at 4092 4 xs) e6 ∙ put_here six 4092 4 next.depth (omega (arith, s6)) depth;
      }

-- one more number of an index page
pub index_more : (named page next : List ℕ) (map_page number : ℕ) → length page ≡ 4096 → map_page < 1024 → 1 + map_page < length named → number ≡ get_or named (1 + map_page) 0 → number < 2 ^ 32 →
    next ≡ written (4 * map_page) (little_bytes 4 number) page → ((i : ℕ) → i < map_page → number_at (4 * i) 4 page ≡ maps_of named i) →
    (length next ≡ 4096) × ((i : ℕ) → i < map_page + 1 → number_at (4 * i) 4 next ≡ maps_of named i)
unfolding maps_of
index_more named page next map_page number size few below number_is small next_is so_far = (
  ap length next_is ∙ length_put page (4 * map_page) 4 number (omega arith) ∙ size,
  λ i lt. elim (cases_lt i map_page) [
    | inl earlier ↦ ap (λ (xs : List ℕ). number_at (4 * i) 4 xs) next_is ∙ put_there page (4 * map_page) 4 number (omega arith) (4 * i) 4 (omega arith) (inl (omega arith)) ∙ so_far i earlier
    | inr late ↦
        let same : map_page ≡ i = omega arith in
        subst (λ (n : ℕ). number_at (4 * n) 4 next ≡ get_or named (1 + n) 0) same
        (ap (λ (xs : List ℕ). number_at (4 * map_page) 4 xs) next_is ∙ put_here page (4 * map_page) 4 number (omega arith) small ∙ number_is)
  ],
)
