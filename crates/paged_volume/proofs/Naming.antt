-- What is so of a table while the numbers of its pages are read.
use Rattle.std.proofs.Common.{◌≡◌, ◌≢◌, ◌⊎◌, inl, inr, ℕ, ◌+◌, ◌-◌, ◌*◌, ◌^◌, ◌<◌, ◌≤◌, Bool, true, false, List, [], ◌∷◌, ◌++◌, length, get_or, set, take, drop, replicate, refl, sym, ◌∙◌, ap, subst, arith, get_or-set_same, get_or-set_other}
use Rattle.std.proofs.lemmas.Bool.{cases_lt}
use Rattle.std.proofs.lemmas.List.{append_assoc, append-nil, length-set, get_or-replicate, get_or_past, length-replicate, length-drop, length-take}
use Rattle.std.proofs.lemmas.List.FromFn.{get_or-map-range_with_len}
use Rattle.page_map.specs.Pages.{is_free, free_where, may_be_free, without, no_pages}
use Rattle.page_map.specs.Map.{MapView, AreGood, fresh_map, with_taken, with_read}
use Rattle.page_map.specs.Numbers.{first_numbers, number_at, with_numbers}
use Rattle.page_map.proofs.NumberLaws.{length_first_numbers}
use Rattle.ps_port.specs.Disk.{written}
use Rattle.ps_port.specs.DiskLaws.{written_elsewhere, length-written}
use Rattle.volume_parts.proofs.Gate.{written_inside}
use Rattle.paged_volume.specs.Layout.{capacity_pages, map_pages_of}
use Rattle.paged_volume.specs.Found.{numbers_of, unnamed}
use Rattle.paged_volume.specs.Standing.{IsFit, AreUnnamed, index_of, maps_of, map_names}
use Rattle.paged_volume.specs.Naming.{IsNamingOf}
use Rattle.paged_volume.specs.declared.committed.Committed.{Committed}
use Rattle.paged_volume.proofs.Numbers.{numbers_none, numbers_more, numbers_same, numbers_split, length_unnamed, unnamed_none, unnamed_taken, unnamed_without, are_none, are_same, are_more}

-- no number was read yet
none_taken : (pages : ℕ) (one two three : ℕ → ℕ) → free_where pages may_be_free ≡ unnamed pages ((numbers_of one 0 ++ numbers_of two 0) ++ numbers_of three 0)
none_taken pages one two three =
    unnamed_none pages
    ∙ ap (λ (xs : List ℕ). unnamed pages xs) (sym (λ i. (numbers_none one i ++ numbers_none two i) ++ numbers_none three i))

-- a list of zeros
pub zero_at : (count i : ℕ) → get_or (replicate {A = ℕ} count 0) i 0 ≡ 0
zero_at count i = by (cases_lt i count)
  where
    by : (i < count) ⊎ (count ≤ i) → get_or (replicate {A = ℕ} count 0) i 0 ≡ 0
    by (inl below) = get_or-replicate {A = ℕ} count i 0 0 below
    by (inr past) = get_or_past (replicate {A = ℕ} count 0) i 0 (omega (arith, length-replicate {A = ℕ} count 0))

pub zero_maps : (named : List ℕ) (map_page : ℕ) → ((i : ℕ) → get_or named i 0 ≡ 0) → maps_of named map_page ≡ 0
unfolding maps_of
zero_maps named map_page zeros = zeros (1 + map_page)

pub naming_none : (committed : Committed) (named : List ℕ) → IsFit committed → committed.note.commits < 2 ^ 64 → length named ≡ 1 + map_pages_of (capacity_pages committed.pages) → ((i : ℕ) → get_or named i 0 ≡ 0) →
    IsNamingOf committed (fresh_map (capacity_pages committed.pages) committed.pages) named 0 0 0
naming_none committed named fit commits names_are zeros = record {
  fit = fit;
  commits = commits;
  names = names_are;
  committed_none = refl;
  staged = length-replicate {A = ℕ} (capacity_pages committed.pages) 0;
  pins = refl;
  index_once = are_none committed.pages [] (index_of named);
  maps_once = are_none committed.pages (numbers_of (index_of named) 0) (maps_of named);
  pages_once = are_none committed.pages (map_names 0 named 0) (λ page. get_or (no_pages (capacity_pages committed.pages)) page 0);
  bare_index = λ none. zeros 0;
  bare_maps = λ map_page above. zero_maps named map_page zeros;
  bare = λ page above. zero_at (capacity_pages committed.pages) page;
  free = none_taken committed.pages (index_of named) (maps_of named) (λ page. get_or (no_pages (capacity_pages committed.pages)) page 0);
}

-- the numbers with one more
pub index_set : (named : List ℕ) (place number i : ℕ) → index_of (set named (1 + place) number) i ≡ index_of named i
unfolding index_of
index_set named place number i = get_or-set_other named (1 + place) 0 number 0 (λ e. absurd (omega arith))

pub map_set : (named : List ℕ) (place number : ℕ) → 1 + place < length named → maps_of (set named (1 + place) number) place ≡ number
unfolding maps_of
map_set named place number below = get_or-set_same named (1 + place) number 0 below

pub maps_before : (named : List ℕ) (place number i : ℕ) → i < place → maps_of (set named (1 + place) number) i ≡ maps_of named i
unfolding maps_of
maps_before named place number i lt = get_or-set_other named (1 + place) (1 + i) number 0 (λ e. absurd (omega arith))

pub maps_other : (named : List ℕ) (place number i : ℕ) → 1 + i ≢ place → maps_of (set named place number) i ≡ maps_of named i
unfolding maps_of
maps_other named place number i differs = get_or-set_other named place (1 + i) number 0 differs

pub first_set : (named : List ℕ) (number : ℕ) → 0 < length named → index_of (set named 0 number) 0 ≡ number
unfolding index_of
first_set named number long = get_or-set_same named 0 number 0 long

one_index : (named : List ℕ) (number : ℕ) (maps pages : ℕ → ℕ) → index_of named 0 ≡ number → (numbers_of (index_of named) 1 ++ numbers_of maps 0) ++ numbers_of pages 0 ≡ [] ++ number ∷ []
one_index named number maps pages first =
    (λ i. (numbers_more (index_of named) 0 i ++ numbers_none maps i) ++ numbers_none pages i)
    ∙ (λ i. ((numbers_none (index_of named) i ++ first i ∷ []) ++ []) ++ [])
    ∙ append-nil _ ∙ append-nil _

one_map : (named next : List ℕ) (depth maps number : ℕ) (pages : ℕ → ℕ) → numbers_of (index_of next) depth ≡ numbers_of (index_of named) depth → numbers_of (maps_of next) maps ≡ numbers_of (maps_of named) maps →
    maps_of next maps ≡ number → map_names depth next (maps + 1) ++ numbers_of pages 0 ≡ map_names depth named maps ++ number ∷ []
one_map named next depth maps number pages same_index same_maps here =
    ap (λ (xs : List ℕ). map_names depth next (maps + 1) ++ xs) (numbers_none pages)
    ∙ append-nil (map_names depth next (maps + 1))
    ∙ ap (λ (xs : List ℕ). numbers_of (index_of next) depth ++ xs) (numbers_more (maps_of next) maps)
    ∙ (λ i. same_index i ++ (same_maps i ++ here i ∷ []))
    ∙ sym (append_assoc (numbers_of (index_of named) depth) (numbers_of (maps_of named) maps) (number ∷ []))

-- the pages that were taken so far
pub free_none : {committed : Committed} {map : MapView} {named : List ℕ} → IsNamingOf committed map named 0 0 0 → map.free ≡ unnamed committed.pages []
free_none {committed = committed} {map = map} {named = named} is =
    is.free ∙ sym (none_taken committed.pages (index_of named) (maps_of named) (λ page. get_or map.staged page 0)) ∙ unnamed_none committed.pages

pub free_maps : {committed : Committed} {map : MapView} {named : List ℕ} {depth maps : ℕ} → IsNamingOf committed map named depth maps 0 → map.free ≡ unnamed committed.pages (map_names depth named maps)
free_maps {committed = committed} {map = map} {named = named} {depth = depth} {maps = maps} is =
    is.free ∙ ap (λ (xs : List ℕ). unnamed committed.pages xs) (ap (λ (xs : List ℕ). map_names depth named maps ++ xs) (numbers_none (λ page. get_or map.staged page 0)) ∙ append-nil (map_names depth named maps))

pub length_free : {committed : Committed} {map : MapView} {named : List ℕ} {depth maps pages : ℕ} → IsNamingOf committed map named depth maps pages → length map.free ≡ committed.pages
length_free {committed = committed} is = ap length is.free ∙ length_unnamed committed.pages _

module _ (committed : Committed) (map : MapView) (named : List ℕ) (number : ℕ) (is_free_page : is_free map.free number ≡ true) where
  -- the index page
  pub naming_index : IsNamingOf committed map named 0 0 0 → IsNamingOf committed (with_taken map number) (set named 0 number) 1 0 0
  naming_index is =
      let size = is.names in
      let long : 0 < length named = omega arith in
      let first = first_set named number long in
      let free = free_none is in
      let good : is_free (unnamed committed.pages []) number ≡ true = sym (ap (λ (f : List Bool). is_free f number) free) ∙ is_free_page in
      record {
        fit = is.fit;
        commits = is.commits;
        names = length-set named 0 number ∙ is.names;
        committed_none = is.committed_none;
        staged = is.staged;
        pins = is.pins;
        index_once = are_more committed.pages [] (index_of (set named 0 number)) 0 (are_none committed.pages [] (index_of (set named 0 number))) ((λ i. is_free (unnamed committed.pages ([] ++ numbers_none (index_of (set named 0 number)) i)) (first i)) ∙ good);
        maps_once = are_none committed.pages (numbers_of (index_of (set named 0 number)) 1) (maps_of (set named 0 number));
        pages_once = are_none committed.pages (map_names 1 (set named 0 number) 0) (λ page. get_or map.staged page 0);
        bare_index = λ none. absurd (omega arith);
        bare_maps = λ map_page above. maps_other named 0 number map_page (λ e. absurd (omega arith)) ∙ is.bare_maps map_page above;
        bare = is.bare;
        free =
            ap (λ (f : List Bool). set f number false) free
            ∙ unnamed_taken committed.pages [] number
            ∙ ap (λ (xs : List ℕ). unnamed committed.pages xs) (sym (one_index (set named 0 number) number (maps_of (set named 0 number)) (λ page. get_or map.staged page 0) first));
      }

  -- one more map page
  pub naming_map : (depth maps : ℕ) → 1 + maps < length named → IsNamingOf committed map named depth maps 0 → IsNamingOf committed (with_taken map number) (set named (1 + maps) number) depth (maps + 1) 0
  naming_map depth maps below is =
      let next = set named (1 + maps) number in
      let here : maps_of next maps ≡ number = map_set named maps number below in
      let same_index = numbers_same (index_of next) (index_of named) depth (λ i lt. index_set named maps number i) in
      let same_maps = numbers_same (maps_of next) (maps_of named) maps (λ i lt. maps_before named maps number i lt) in
      let free = free_maps is in
      let good : is_free (unnamed committed.pages (map_names depth named maps)) number ≡ true = sym (ap (λ (f : List Bool). is_free f number) free) ∙ is_free_page in
      record {
        fit = is.fit;
        commits = is.commits;
        names = length-set named (1 + maps) number ∙ is.names;
        committed_none = is.committed_none;
        staged = is.staged;
        pins = is.pins;
        index_once = are_same committed.pages [] (index_of named) (index_of next) depth (λ i lt. sym (index_set named maps number i)) is.index_once;
        maps_once = are_more committed.pages (numbers_of (index_of next) depth) (maps_of next) maps
            (subst (λ (xs : List ℕ). AreUnnamed committed.pages xs (maps_of next) maps) (sym same_index)
            (are_same committed.pages (numbers_of (index_of named) depth) (maps_of named) (maps_of next) maps (λ i lt. sym (maps_before named maps number i lt)) is.maps_once))
            ((λ i. is_free (unnamed committed.pages (same_index i ++ same_maps i)) (here i)) ∙ good);
        pages_once = are_none committed.pages (map_names depth next (maps + 1)) (λ page. get_or map.staged page 0);
        bare_index = λ none. get_or-set_other named (1 + maps) 0 number 0 (λ e. absurd (omega arith)) ∙ is.bare_index none;
        bare_maps = λ map_page above. maps_other named (1 + maps) number map_page (λ e. absurd (omega arith)) ∙ is.bare_maps map_page (omega arith);
        bare = is.bare;
        free =
            ap (λ (f : List Bool). set f number false) free
            ∙ unnamed_taken committed.pages (map_names depth named maps) number
            ∙ ap (λ (xs : List ℕ). unnamed committed.pages xs) (sym (one_map named next depth maps number (λ page. get_or map.staged page 0) same_index same_maps here));
      }

-- a list with other numbers in it, as a write has it
as_written : (list : List ℕ) (place : ℕ) (numbers : List ℕ) → with_numbers list place numbers ≡ written place numbers list
unfolding with_numbers
as_written list place numbers = sym (append_assoc (take place list) numbers (drop (place + length numbers) list))

pub with_numbers_elsewhere : (list : List ℕ) (place : ℕ) (numbers : List ℕ) (k : ℕ) → k < length list → (k < place) ⊎ (place + length numbers ≤ k) → get_or (with_numbers list place numbers) k 0 ≡ get_or list k 0
with_numbers_elsewhere list place numbers k lt out = ap (λ (xs : List ℕ). get_or xs k 0) (as_written list place numbers) ∙ written_elsewhere place numbers list k lt out

pub with_numbers_inside : (list : List ℕ) (place : ℕ) (numbers : List ℕ) (k : ℕ) → place ≤ length list → place ≤ k → k < place + length numbers → get_or (with_numbers list place numbers) k 0 ≡ get_or numbers (k - place) 0
with_numbers_inside list place numbers k within low high = ap (λ (xs : List ℕ). get_or xs k 0) (as_written list place numbers) ∙ written_inside place numbers list k within low high

pub length_with_numbers : (list : List ℕ) (place : ℕ) (numbers : List ℕ) → place + length numbers ≤ length list → length (with_numbers list place numbers) ≡ length list
length_with_numbers list place numbers fits =
    ap length (as_written list place numbers)
    ∙ omega (arith, length-written place numbers list, length-take place list, length-drop (place + length numbers) list)

pub first_number : (bytes : List ℕ) (count i : ℕ) → i < count → get_or (first_numbers bytes count) i 0 ≡ number_at bytes i
unfolding first_numbers
first_number bytes count i lt = get_or-map-range_with_len (number_at bytes) 0 count i i 0 lt (omega arith)

as_numbers : (bytes : List ℕ) (count : ℕ) → numbers_of (number_at bytes) count ≡ first_numbers bytes count
unfolding numbers_of first_numbers
as_numbers bytes count = refl

-- more logical pages, of a map page that was read
module _ (committed : Committed) (map : MapView) (named bytes : List ℕ) (depth maps map_page count : ℕ) (is : IsNamingOf committed map named depth maps (1024 * map_page)) (good : AreGood map bytes count)
    (fits : 1024 * map_page + count ≤ length map.staged) where
  next : List ℕ
  next = with_numbers map.staged (1024 * map_page) (first_numbers bytes count)

  pub read_before : (k : ℕ) → k < 1024 * map_page → get_or (with_numbers map.staged (1024 * map_page) (first_numbers bytes count)) k 0 ≡ get_or map.staged k 0
  read_before k lt = with_numbers_elsewhere map.staged (1024 * map_page) (first_numbers bytes count) k (omega arith) (inl lt)

  pub read_here : (i : ℕ) → i < count → get_or (with_numbers map.staged (1024 * map_page) (first_numbers bytes count)) (1024 * map_page + i) 0 ≡ number_at bytes i
  read_here i lt =
      with_numbers_inside map.staged (1024 * map_page) (first_numbers bytes count) (1024 * map_page + i) (omega arith) (omega arith) (omega (arith, length_first_numbers bytes count))
      ∙ ap (λ (n : ℕ). get_or (first_numbers bytes count) n 0) (omega arith)
      ∙ first_number bytes count i lt

  read_behind : (k : ℕ) → 1024 * map_page + count ≤ k → get_or (with_numbers map.staged (1024 * map_page) (first_numbers bytes count)) k 0 ≡ 0
  read_behind k above = by (cases_lt k (length map.staged))
    where
      by : (k < length map.staged) ⊎ (length map.staged ≤ k) → get_or (with_numbers map.staged (1024 * map_page) (first_numbers bytes count)) k 0 ≡ 0
      by (inl below) =
          with_numbers_elsewhere map.staged (1024 * map_page) (first_numbers bytes count) k below (inr (omega (arith, length_first_numbers bytes count)))
          ∙ is.bare k (omega arith)
      by (inr past) =
          get_or_past (with_numbers map.staged (1024 * map_page) (first_numbers bytes count)) k 0
          (omega (arith, length_with_numbers map.staged (1024 * map_page) (first_numbers bytes count) (omega (arith, length_first_numbers bytes count))))

  -- the numbers so far
  so_far : (number : ℕ → ℕ) → ((k : ℕ) → k < 1024 * map_page → number k ≡ get_or map.staged k 0) → ((i : ℕ) → i < count → number (1024 * map_page + i) ≡ number_at bytes i) →
      (i : ℕ) → i ≤ count → numbers_of number (1024 * map_page + i) ≡ numbers_of (λ page. get_or map.staged page 0) (1024 * map_page) ++ first_numbers bytes i
  so_far number before here i le =
      numbers_split number (1024 * map_page) i
      ∙ (λ j. numbers_same number (λ page. get_or map.staged page 0) (1024 * map_page) before j ++ numbers_same (λ k. number (1024 * map_page + k)) (number_at bytes) i (λ k lt. here k (omega arith)) j)
      ∙ ap (λ (xs : List ℕ). numbers_of (λ page. get_or map.staged page 0) (1024 * map_page) ++ xs) (as_numbers bytes i)

  taken_so_far : (i : ℕ) → i ≤ count → without map.free (first_numbers bytes i)
      ≡ unnamed committed.pages (map_names depth named maps ++ numbers_of (λ page. get_or next page 0) (1024 * map_page + i))
  unfolding next
  taken_so_far i le =
      ap (λ (f : List Bool). without f (first_numbers bytes i)) is.free
      ∙ unnamed_without committed.pages (map_names depth named maps ++ numbers_of (λ page. get_or map.staged page 0) (1024 * map_page)) (first_numbers bytes i)
      ∙ ap (λ (xs : List ℕ). unnamed committed.pages xs)
      (append_assoc (map_names depth named maps) (numbers_of (λ page. get_or map.staged page 0) (1024 * map_page)) (first_numbers bytes i)
      ∙ ap (λ (xs : List ℕ). map_names depth named maps ++ xs) (sym (so_far (λ page. get_or next page 0) read_before read_here i le)))

  pub naming_pages : IsNamingOf committed (with_read map map_page (first_numbers bytes count)) named depth maps (1024 * map_page + count)
  unfolding next
  naming_pages = record {
    fit = is.fit;
    commits = is.commits;
    names = is.names;
    committed_none = is.committed_none;
    staged = length_with_numbers map.staged (1024 * map_page) (first_numbers bytes count) (omega (arith, length_first_numbers bytes count)) ∙ is.staged;
    pins = is.pins;
    index_once = is.index_once;
    maps_once = is.maps_once;
    pages_once = λ i lt. by i lt (cases_lt i (1024 * map_page));
    bare_index = is.bare_index;
    bare_maps = is.bare_maps;
    bare = read_behind;
    free = taken_so_far count (omega arith);
  }
    where
      by : (i : ℕ) → i < 1024 * map_page + count → (i < 1024 * map_page) ⊎ (1024 * map_page ≤ i) →
          is_free (unnamed committed.pages (map_names depth named maps ++ numbers_of (λ page. get_or next page 0) i)) (get_or next i 0) ≡ true
      by i lt (inl early) =
          are_same committed.pages (map_names depth named maps) (λ page. get_or map.staged page 0) (λ page. get_or next page 0) (1024 * map_page) (λ k below. sym (read_before k below)) is.pages_once i early
      by i lt (inr late) =
          let k = i - 1024 * map_page in
          let i_is : 1024 * map_page + k ≡ i = omega arith in
          let below : k < count = omega arith in
          subst (λ (n : ℕ). is_free (unnamed committed.pages (map_names depth named maps ++ numbers_of (λ page. get_or next page 0) n)) (get_or next n 0) ≡ true) i_is
          ((λ j. is_free (sym (taken_so_far k (omega arith)) j) (read_here k below j)) ∙ good k below)

  -- a number that is bad
  pub bad_page : is_free (without map.free (first_numbers bytes count)) (number_at bytes count) ≡ false → (number : ℕ → ℕ) → ((k : ℕ) → k < 1024 * map_page → number k ≡ get_or map.staged k 0) →
      ((i : ℕ) → i < count + 1 → number (1024 * map_page + i) ≡ number_at bytes i) →
      AreUnnamed committed.pages (map_names depth named maps) number (1024 * map_page + count)
      × (is_free (unnamed committed.pages (map_names depth named maps ++ numbers_of number (1024 * map_page + count))) (number (1024 * map_page + count)) ≡ false)
  bad_page bad number before here =
      let same : (k : ℕ) → k < 1024 * map_page + count → get_or (with_numbers map.staged (1024 * map_page) (first_numbers bytes count)) k 0 ≡ number k = λ k lt. by k lt (cases_lt k (1024 * map_page)) in
      let all = numbers_same (λ page. get_or (with_numbers map.staged (1024 * map_page) (first_numbers bytes count)) page 0) number (1024 * map_page + count) same in (
        are_same committed.pages (map_names depth named maps) (λ page. get_or (with_numbers map.staged (1024 * map_page) (first_numbers bytes count)) page 0) number (1024 * map_page + count) same naming_pages.pages_once,
        ap (λ (n : ℕ). is_free (unnamed committed.pages (map_names depth named maps ++ numbers_of number (1024 * map_page + count))) n) (here count (omega arith))
            ∙ ap (λ (xs : List ℕ). is_free (unnamed committed.pages (map_names depth named maps ++ xs)) (number_at bytes count)) (sym all)
            ∙ ap (λ (f : List Bool). is_free f (number_at bytes count)) (sym naming_pages.free)
            ∙ bad,
      )
    where
      by : (k : ℕ) → k < 1024 * map_page + count → (k < 1024 * map_page) ⊎ (1024 * map_page ≤ k) → get_or (with_numbers map.staged (1024 * map_page) (first_numbers bytes count)) k 0 ≡ number k
      by k lt (inl early) = read_before k early ∙ sym (before k early)
      by k lt (inr late) =
          let i_is : 1024 * map_page + (k - 1024 * map_page) ≡ k = omega arith in
          subst (λ (n : ℕ). get_or (with_numbers map.staged (1024 * map_page) (first_numbers bytes count)) n 0 ≡ number n) i_is
          (read_here (k - 1024 * map_page) (omega arith) ∙ sym (here (k - 1024 * map_page) (omega arith)))
