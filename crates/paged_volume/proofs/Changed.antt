-- Which map pages change.
use Rattle.std.proofs.Common.{◌≡◌, inl, inr, ℕ, zero, suc, ◌+◌, ◌*◌, ◌<◌, ◌≤◌, Bool, true, false, not, ◌||◌, List, length, get_or, set, refl, sym, ◌∙◌, ap, subst, arith, if◌then◌else◌, get_or-set_same, get_or-set_other, length-set}
use Rattle.std.specs.Prelude.{◌==◌}
use Rattle.std.proofs.lemmas.Bool.{cases_lt, lt-ltb, le-ltb, eq-eqb, eqb-true, or_left, or_right, both_ways}
use Rattle.std.proofs.lemmas.List.{get_or_past}
use Rattle.page_map.specs.Map.{MapView, with_staged}
use Rattle.paged_volume.specs.Changing.{next_number, differs, one_of, is_changed, changed_pages}

pub next_below : (map : MapView) (logical page : ℕ) → page < logical → next_number map logical page ≡ get_or map.staged page 0
unfolding next_number
next_below map logical page lt = ap (λ (b : Bool). if b then get_or map.staged page 0 else 0) (lt-ltb page logical lt)

pub next_past : (map : MapView) (logical page : ℕ) → logical ≤ page → next_number map logical page ≡ 0
unfolding next_number
next_past map logical page le = ap (λ (b : Bool). if b then get_or map.staged page 0 else 0) (le-ltb page logical le)

-- past all lists none differs
pub differs_past : (map : MapView) (logical page : ℕ) → logical ≤ length map.committed → length map.committed ≤ page → false ≡ differs map logical page
unfolding differs
differs_past map logical page le past =
    sym (ap (λ (b : Bool). not b) (eq-eqb (next_number map logical page) (get_or map.committed page 0) (next_past map logical page (omega arith) ∙ sym (get_or_past map.committed page 0 past))))

pub differs_by : (map : MapView) (logical page next committed : ℕ) → next ≡ next_number map logical page → committed ≡ get_or map.committed page 0 → not (next == committed) ≡ differs map logical page
unfolding differs
differs_by map logical page next committed next_is committed_is = (λ i. not (next_is i == committed_is i))

pub same_by : (map : MapView) (logical page : ℕ) → differs map logical page ≡ false → next_number map logical page ≡ get_or map.committed page 0
unfolding differs
same_by map logical page e = eqb-true (next_number map logical page) (get_or map.committed page 0) (by (next_number map logical page == get_or map.committed page 0) e)
  where
    by : (b : Bool) → not b ≡ false → b ≡ true
    by true e = refl
    by false e = sym e

pub none_of : (test : ℕ → Bool) (count : ℕ) → ((i : ℕ) → i < count → test i ≡ false) → one_of test count ≡ false
unfolding one_of
none_of test zero none = refl
none_of test (suc count) none =
    let before = none_of test count (λ i lt. none i (omega arith)) in
    let here = none count (omega arith) in
    (λ j. before j || here j)

pub some_of : (test : ℕ → Bool) (count i : ℕ) → i < count → test i ≡ true → one_of test count ≡ true
unfolding one_of
some_of test zero i lt is = absurd (omega arith)
some_of test (suc count) i lt is = elim (cases_lt i count) [
  | inl early ↦ or_left (one_of test count) (test count) (some_of test count i early is)
  | inr late ↦ let same : i ≡ count = omega arith in or_right (one_of test count) (test count) (subst (λ (n : ℕ). test n ≡ true) same is)
]

pub of_none : (test : ℕ → Bool) (count i : ℕ) → one_of test count ≡ false → i < count → test i ≡ false
of_none test count i none lt = by (test i) refl
  where
    by : (b : Bool) → test i ≡ b → test i ≡ false
    by false e = e
    by true e = absurd (both_ways (one_of test count) none (some_of test count i lt e))

pub changed_some : (map : MapView) (logical map_page index : ℕ) → index < 1024 → differs map logical (1024 * map_page + index) ≡ true → is_changed map logical map_page ≡ true
unfolding is_changed
changed_some map logical map_page index lt is = some_of (λ i. differs map logical (1024 * map_page + i)) 1024 index lt is

pub changed_none : (map : MapView) (logical map_page : ℕ) → ((i : ℕ) → i < 1024 → differs map logical (1024 * map_page + i) ≡ false) → is_changed map logical map_page ≡ false
unfolding is_changed
changed_none map logical map_page none = none_of (λ i. differs map logical (1024 * map_page + i)) 1024 none

pub unchanged : (map : MapView) (logical map_page index : ℕ) → is_changed map logical map_page ≡ false → index < 1024 → differs map logical (1024 * map_page + index) ≡ false
unfolding is_changed
unchanged map logical map_page index none lt = of_none (λ i. differs map logical (1024 * map_page + i)) 1024 index none lt

pub changed_zero : (map : MapView) (logical : ℕ) → changed_pages map logical 0 ≡ 0
unfolding changed_pages
changed_zero map logical = refl

pub changed_suc : (map : MapView) (logical count : ℕ) → changed_pages map logical (suc count) ≡ changed_pages map logical count + (if is_changed map logical count then 1 else 0)
unfolding changed_pages
changed_suc map logical count = refl

pub changed_more : (map : MapView) (logical count : ℕ) → changed_pages map logical (count + 1) ≡ changed_pages map logical count + (if is_changed map logical count then 1 else 0)
changed_more map logical count = ap (λ (n : ℕ). changed_pages map logical n) (omega arith) ∙ changed_suc map logical count

pub one_most : (b : Bool) → (if b then 1 else 0) ≤ 1
one_most true = omega arith
one_most false = omega arith

pub changed_most : (map : MapView) (logical count : ℕ) → changed_pages map logical count ≤ count
unfolding changed_pages
changed_most map logical zero = omega arith
changed_most map logical (suc count) = omega (arith, changed_most map logical count, one_most (is_changed map logical count))

pub changed_within : (map : MapView) (logical few count : ℕ) → few ≤ count → changed_pages map logical few ≤ changed_pages map logical count
changed_within map logical few zero le = let none : few ≡ 0 = omega arith in omega (arith, ap (λ (n : ℕ). changed_pages map logical n) none)
changed_within map logical few (suc count) le = elim (cases_lt few (suc count)) [
  | inl less ↦ omega (arith, changed_within map logical few count (omega arith), changed_suc map logical count)
  | inr same ↦ let equal : few ≡ suc count = omega arith in omega (arith, ap (λ (n : ℕ). changed_pages map logical n) equal)
]

-- one more page is staged nowhere
pub trimmed_more : (staged now : List ℕ) (logical page : ℕ) (map : MapView) → map.staged ≡ staged → page < length now → logical ≤ page → ((k : ℕ) → k < logical → get_or now k 0 ≡ get_or staged k 0) →
    ((k : ℕ) → logical ≤ k → k < page → get_or now k 0 ≡ 0) → ((k : ℕ) → k < logical → get_or (set now page 0) k 0 ≡ get_or staged k 0) × ((k : ℕ) → logical ≤ k → k < page + 1 → get_or (set now page 0) k 0 ≡ 0)
trimmed_more staged now logical page map staged_is below from front zeros = (
  λ k lt. get_or-set_other now page k 0 0 (λ e. absurd (omega arith)) ∙ front k lt,
  λ k low high. elim (cases_lt k page) [
    | inl early ↦ get_or-set_other now page k 0 0 (λ e. absurd (omega arith)) ∙ zeros k low early
    | inr late ↦ let same : page ≡ k = omega arith in subst (λ (n : ℕ). get_or (set now page 0) n 0 ≡ 0) same (get_or-set_same now page 0 0 below)
  ],
)

pub trimmed : (old new : MapView) (logical : ℕ) → length new.staged ≡ length old.committed → ((k : ℕ) → k < logical → get_or new.staged k 0 ≡ get_or old.staged k 0) →
    ((k : ℕ) → logical ≤ k → k < length old.committed → get_or new.staged k 0 ≡ 0) → (page : ℕ) → get_or new.staged page 0 ≡ next_number old logical page
trimmed old new logical size front zeros page = elim (cases_lt page logical) [
  | inl below ↦ front page below ∙ sym (next_below old logical page below)
  | inr past ↦ elim (cases_lt page (length old.committed)) [
    | inl inside ↦ zeros page past inside ∙ sym (next_past old logical page past)
    | inr behind ↦ get_or_past new.staged page 0 (omega arith) ∙ sym (next_past old logical page past)
  ]
]

pub none_more : (map : MapView) (logical map_page index : ℕ) → ((i : ℕ) → i < index → differs map logical (1024 * map_page + i) ≡ false) → differs map logical (1024 * map_page + index) ≡ false →
    (i : ℕ) → i < index + 1 → differs map logical (1024 * map_page + i) ≡ false
none_more map logical map_page index none here i lt = elim (cases_lt i index) [
  | inl early ↦ none i early
  | inr late ↦ let same : index ≡ i = omega arith in subst (λ (n : ℕ). differs map logical (1024 * map_page + n) ≡ false) same here
]

pub trimmed_step : (old now next : MapView) (logical page : ℕ) → next ≡ with_staged now page 0 → page < length now.staged → logical ≤ page → ((k : ℕ) → k < logical → get_or now.staged k 0 ≡ get_or old.staged k 0) →
    ((k : ℕ) → logical ≤ k → k < page → get_or now.staged k 0 ≡ 0) →
    (length next.staged ≡ length now.staged) × ((k : ℕ) → k < logical → get_or next.staged k 0 ≡ get_or old.staged k 0) × ((k : ℕ) → logical ≤ k → k < page + 1 → get_or next.staged k 0 ≡ 0)
trimmed_step old now next logical page next_is below from front zeros =
    let step = trimmed_more old.staged now.staged logical page old refl below from front zeros in (
      ap (λ (m : MapView). length m.staged) next_is ∙ length-set now.staged page 0,
      λ k lt. ap (λ (m : MapView). get_or m.staged k 0) next_is ∙ step.0 k lt,
      λ k low high. ap (λ (m : MapView). get_or m.staged k 0) next_is ∙ step.1 k low high,
    )
