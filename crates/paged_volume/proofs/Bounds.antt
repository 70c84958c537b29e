-- How large the numbers of a volume are.
use Rattle.std.proofs.Common.{◌≡◌, inl, inr, ℕ, ◌+◌, ◌-◌, ◌*◌, ◌/◌, ◌^◌, ◌<◌, ◌≤◌, Bool, true, false, refl, ap, arith, nat_eq, if◌then◌else◌}
use Rattle.volume_parts.specs.Layout.{root_at, pages_of_words}
use Rattle.std.proofs.lemmas.Bool.{cases_lt, lt-ltb, le-ltb}
use Rattle.paged_volume.specs.Planning.{depth_of}
use Rattle.paged_volume.specs.Layout.{least_indexed, most_pages_of, capacity_pages, map_pages_of, maps_at}
use Rattle.paged_volume.specs.Standing.{IsFit, IsDepth, IsHeadFit, logical_of, map_count}
use Rattle.paged_volume.specs.Naming.{names_at, skipped}
use Rattle.paged_volume.specs.declared.committed.Committed.{Committed}

most_low : (format : ℕ) → most_pages_of format ≤ 1048576
most_low format = by (nat_eq format 1)
  where
    by : (b : Bool) → (if b then 131072 else 1048576) ≤ 1048576
    by true = omega arith
    by false = omega arith

pub pages_low : (format pages : ℕ) → IsHeadFit format pages → pages ≤ 1048576
pages_low format pages fit = let most = fit.most in omega (arith, most_low format)

pub capacity_low : (pages : ℕ) → 32 ≤ pages → pages ≤ 1048576 → (13 ≤ capacity_pages pages) × (capacity_pages pages ≤ 499320)
unfolding capacity_pages
capacity_low pages least most = (omega arith, omega arith)

-- the numbers of what is committed
pub record AreLow (committed : Committed) : Type 0 where
  pub used : committed.note.used + 511 < 2 ^ 32
  pub pages : committed.pages ≤ 1048576
  pub some : 1 ≤ logical_of committed
  pub within : logical_of committed ≤ capacity_pages committed.pages
  pub capacity : capacity_pages committed.pages ≤ 499320
  pub maps : map_count committed ≤ map_pages_of (capacity_pages committed.pages)
  pub few : map_count committed ≤ 488

logical_within : (capacity used : ℕ) → 1 ≤ used → used ≤ 512 * capacity → (1 ≤ pages_of_words used) × (pages_of_words used ≤ capacity)
logical_within capacity used some within = (omega arith, omega arith)

maps_within : (logical capacity : ℕ) → logical ≤ capacity → capacity ≤ 499320 → (map_pages_of logical ≤ map_pages_of capacity) × (map_pages_of logical ≤ 488)
maps_within logical capacity within most = (omega arith, omega arith)

pub are_low : (committed : Committed) → IsFit committed → AreLow committed
are_low committed fit =
    let pages = pages_low committed.format committed.pages fit.head in
    let capacity = capacity_low committed.pages fit.head.least pages in
    let most = capacity.1 in
    let used = fit.within in
    let logical = logical_within (capacity_pages committed.pages) committed.note.used fit.some fit.within in
    let maps = maps_within (logical_of committed) (capacity_pages committed.pages) logical.1 most in
    record {
      used = omega arith;
      pages = pages;
      some = logical.0;
      within = logical.1;
      capacity = most;
      maps = maps.0;
      few = maps.1;
    }

-- the numbers of the map pages begin behind what is skipped of their page
pub skipped_to : (second : Bool) (depth index : ℕ) → names_at second depth index + skipped depth ≡ maps_at second depth index
unfolding names_at skipped maps_at
skipped_to second depth index = by (nat_eq depth 0)
  where
    by : (b : Bool) → (if b then root_at second else 4096 * index) + (if b then 28 else 0) ≡ (if b then root_at second + 28 else 4096 * index)
    by true = refl
    by false = omega arith

pub skipped_low : (depth : ℕ) → skipped depth ≤ 28
unfolding skipped
skipped_low depth = by (nat_eq depth 0)
  where
    by : (b : Bool) → (if b then 28 else 0) ≤ 28
    by true = omega arith
    by false = omega arith

-- the pages suffice
suffice : (n pages : ℕ) → n * 21 ≤ (pages - 4) * 10 → 88 ≤ pages → 2 * n + 2 * ((n + 1023) / 1024) + 2 + 4 ≤ pages
suffice n pages most least = omega arith

suffice_small : (n pages : ℕ) → n * 21 ≤ (pages - 4) * 10 → 32 ≤ pages → pages < 88 → 2 * n + 2 * ((n + 1023) / 1024) + 4 ≤ pages
suffice_small n pages most least small = omega arith

pub small_suffice : (pages : ℕ) → 32 ≤ pages → pages < 88 → 2 * capacity_pages pages + 2 * map_pages_of (capacity_pages pages) + 4 ≤ pages
unfolding capacity_pages
small_suffice pages least most = suffice_small ((pages - 4) * 10 / 21) pages (omega arith) least most

pub large_suffice : (pages : ℕ) → 88 ≤ pages → pages ≤ 1048576 → 2 * capacity_pages pages + 2 * map_pages_of (capacity_pages pages) + 2 + 4 ≤ pages
unfolding capacity_pages
large_suffice pages least most = suffice ((pages - 4) * 10 / 21) pages (omega arith) least

pub hold_least : capacity_pages 32 ≡ 13
unfolding capacity_pages
hold_least = refl

pub hold_small : capacity_pages 64 ≡ 28
unfolding capacity_pages
hold_small = refl

pub hold_indexed : capacity_pages 88 ≡ 40
unfolding capacity_pages
hold_indexed = refl

pub hold_first : capacity_pages 131072 ≡ 62413
unfolding capacity_pages
hold_first = refl

pub hold_largest : capacity_pages 1048576 ≡ 499320
unfolding capacity_pages
hold_largest = refl

-- the depth that a commit writes
pub depth_none : (pages : ℕ) → pages < 88 → depth_of pages ≡ 0
depth_none pages few = ap {B = ℕ} (λ (b : Bool). if b then 0 else 1) (lt-ltb pages least_indexed few)

pub depth_one : (pages : ℕ) → 88 ≤ pages → depth_of pages ≡ 1
depth_one pages many = ap {B = ℕ} (λ (b : Bool). if b then 0 else 1) (le-ltb pages least_indexed many)

pub depth_fits : (format pages : ℕ) → IsDepth format pages (depth_of pages)
depth_fits format pages = elim (cases_lt pages 88) [
  | inl few ↦ let none = depth_none pages few in record { at_most_one = omega (arith, none); small = λ lt. none; large = λ le second. absurd (omega arith) }
  | inr many ↦ let one = depth_one pages many in record { at_most_one = omega (arith, one); small = λ lt. absurd (omega arith); large = λ le second. one }
]
