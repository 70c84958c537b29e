-- There is room for a commit, unless a pin holds an older list.
use Rattle.std.proofs.Common.{◌≡◌, ◌⊎◌, inl, inr, ℕ, suc, ◌+◌, ◌<◌, ◌≤◌, Bool, true, false, not, cond, ◌||◌, List, [], ◌∷◌, ◌++◌, length, get_or, set, replicate, refl, sym, ◌∙◌, ap, subst, arith, length-append, length-set, get_or-set_same, get_or-set_other, Option}
use Rattle.std.specs.Prelude.{◌==◌}
use Rattle.std.specs.List.{list_any}
use Rattle.std.proofs.lemmas.Bool.{cases_lt, cases_eq, both_ways, eq-eqb, eqb-true, or_cases, or_left, or_right}
use Rattle.std.proofs.lemmas.List.{same_lists, get_or_default, get_or-replicate, length-replicate}
use Rattle.std.proofs.lemmas.List.Folds.{sum_by-replicate}
use Rattle.page_map.specs.Pages.{is_free, held_of, names, one_names, no_pages}
use Rattle.page_map.proofs.PageLaws.{held_released}
use Rattle.page_map.proofs.MapLaws.{names_no_pages}
use Rattle.paged_volume.specs.Layout.{capacity_pages, map_pages_of}
use Rattle.paged_volume.specs.Found.{numbers_of}
use Rattle.paged_volume.specs.Standing.{IsTable, index_of, maps_of, logical_of, map_count, numbers_of_table}
use Rattle.paged_volume.specs.Pinning.{IsPin, AreLatest}
use Rattle.paged_volume.specs.Planning.{Follows}
use Rattle.paged_volume.specs.Committing.{HasRoom}
use Rattle.paged_volume.specs.declared.pinned.Pinned.{Pinned}
use Rattle.paged_volume.specs.declared.table.Table.{Table}
use Rattle.paged_volume.specs.declared.committed.Committed.{Committed}
use Rattle.paged_volume.proofs.Bounds.{are_low, small_suffice, large_suffice}
use Rattle.paged_volume.proofs.Numbers.{names_append, length_numbers}
use Rattle.paged_volume.proofs.Changed.{changed_most}
use Rattle.paged_volume.proofs.Choosing.{none_free}
use Rattle.paged_volume.proofs.PinLaws.{committed_used}

-- where all are free, none is held
none_held : (free : List Bool) → ((page : ℕ) → page < length free → is_free free page ≡ true) → held_of free ≡ 0
none_held free all =
    ap (λ (xs : List Bool). held_of xs) (same_lists free (replicate (length free) true) (sym (length-replicate (length free) true)) (λ k d lt. get_or_default free k d false lt ∙ all k lt ∙ sym (get_or-replicate (length free) k true d lt)))
    ∙ sum_by-replicate (λ (b : Bool). cond (not b) 1 0) (length free) true ∙ omega arith

names_first : (x : ℕ) (xs : List ℕ) (page : ℕ) → names (x ∷ xs) page ≡ true → (x ≡ page) ⊎ (names xs page ≡ true)
unfolding names
names_first x xs page named = elim (or_cases (x == page) (list_any (λ number. number == page) xs) named) [ inl this ↦ inl (eqb-true x page this) | inr rest ↦ inr rest ]

names_in : (x : ℕ) (xs : List ℕ) (page : ℕ) → (x ≡ page) ⊎ (names xs page ≡ true) → names (x ∷ xs) page ≡ true
unfolding names
names_in x xs page (inl this) = or_left (x == page) (list_any (λ number. number == page) xs) (eq-eqb x page this)
names_in x xs page (inr rest) = or_right (x == page) (list_any (λ number. number == page) xs) rest

names_empty : (page : ℕ) → names [] page ≡ true → ⊥
unfolding names
names_empty page e = both_ways false refl e

-- where each page in use is named by a list, no more are held than it is long
abbrev AreNamed : List Bool → List ℕ → Type 0
AreNamed free xs = (page : ℕ) → page < length free → is_free free page ≡ false → names xs page ≡ true

-- its first page isn't in use, or is one of the others
held_still : (x : ℕ) (xs : List ℕ) (free : List Bool) → AreNamed free (x ∷ xs) → (is_free free x ≡ true) ⊎ (length free ≤ x) → AreNamed free xs
held_still x xs free named free_or_past page lt in_use = elim (names_first x xs page (named page lt in_use)) [
  | inr rest ↦ rest
  | inl this ↦ elim free_or_past [
    | inl is ↦ absurd (both_ways (is_free free page) in_use (subst (λ (n : ℕ). is_free free n ≡ true) this is))
    | inr past ↦ absurd (omega arith)
  ]
]

-- or it is given up
held_less : (x : ℕ) (xs : List ℕ) (free : List Bool) → AreNamed free (x ∷ xs) → x < length free → AreNamed (set free x true) xs
held_less x xs free named lt page below in_use = elim (cases_eq page x) [
  | inl same ↦ absurd (both_ways (is_free (set free x true) page) in_use (subst (λ (n : ℕ). is_free (set free x true) n ≡ true) (sym same) (get_or-set_same free x true false lt)))
  | inr differs ↦
      let old = sym (get_or-set_other free x page true false differs) ∙ in_use in
      elim (names_first x xs page (named page (omega (arith, length-set free x true)) old)) [ inl this ↦ absurd (differs (sym this)) | inr rest ↦ rest ]
]

all_free : (free : List Bool) → AreNamed free [] → (page : ℕ) → page < length free → is_free free page ≡ true
all_free free named page lt = by (is_free free page) refl
  where
    by : (b : Bool) → is_free free page ≡ b → is_free free page ≡ true
    by true e = e
    by false e = absurd (names_empty page (named page lt e))

held_step : (x : ℕ) (xs : List ℕ) (free : List Bool) → AreNamed free (x ∷ xs) → ((other : List Bool) → AreNamed other xs → held_of other ≤ length xs) → held_of free ≤ length (x ∷ xs)
held_step x xs free named less = by (is_free free x) refl (cases_lt x (length free))
  where
    by : (b : Bool) → is_free free x ≡ b → (x < length free) ⊎ (length free ≤ x) → held_of free ≤ length (x ∷ xs)
    by true e cases = let most = less free (held_still x xs free named (inl e)) in omega arith
    by false e (inr past) = let most = less free (held_still x xs free named (inr past)) in omega arith
    by false e (inl lt) = let most = less (set free x true) (held_less x xs free named lt) in omega (arith, held_released free x lt e)

held_most : (xs : List ℕ) (free : List Bool) → AreNamed free xs → held_of free ≤ length xs
held_most [] free named = omega (arith, none_held free (all_free free named))
held_most (x ∷ xs) free named = held_step x xs free named (λ other are. held_most xs other are)

-- a page that one of the lists names
one_named : (lists : List (List ℕ)) (page : ℕ) → one_names lists page ≡ true → (i : ℕ) × (i < length lists) × (names (get_or lists i []) page ≡ true)
unfolding one_names
one_named [] page named = absurd (both_ways false refl named)
one_named (xs ∷ rest) page named = elim (or_cases (names xs page) (list_any (λ ys. names ys page) rest) named) [
  | inl first ↦ (0, omega arith, first)
  | inr more ↦ let at = one_named rest page more in let lt = at.1 in (suc at.0, omega arith, at.2)
]

module _ (table : Table) (is : IsTable table) (latest : AreLatest table) where
  pinned_committed : (page : ℕ) → 1 ≤ page → one_names table.map.pins page ≡ true → names table.map.committed page ≡ true
  pinned_committed page some pinned =
      let at = one_named table.map.pins page pinned in
      elim (latest at.0 at.1) [
        | inl same ↦ subst (λ (xs : List ℕ). names xs page ≡ true) same at.2
        | inr none ↦
            let empty = subst (λ (o : Option Pinned). IsPin table (get_or table.map.pins at.0 []) o) none (is.pins at.0 at.1) in
            absurd (both_ways (names (no_pages (capacity_pages table.committed.pages)) page) (names_no_pages (capacity_pages table.committed.pages) page some) (subst (λ (xs : List ℕ). names xs page ≡ true) empty at.2))
      ]

  is_first : (page : ℕ) → page < 4 → names (0 ∷ 1 ∷ 2 ∷ 3 ∷ []) page ≡ true
  is_first page lt = elim (cases_eq 0 page) [
    | inl is ↦ names_in 0 _ page (inl is)
    | inr a ↦ elim (cases_eq 1 page) [
      | inl is ↦ names_in 0 _ page (inr (names_in 1 _ page (inl is)))
      | inr b ↦ elim (cases_eq 2 page) [
        | inl is ↦ names_in 0 _ page (inr (names_in 1 _ page (inr (names_in 2 _ page (inl is)))))
        | inr c ↦ elim (cases_eq 3 page) [
          | inl is ↦ names_in 0 _ page (inr (names_in 1 _ page (inr (names_in 2 _ page (inr (names_in 3 _ page (inl is)))))))
          | inr d ↦ absurd (omega arith)
        ]
      ]
    ]
  ]

  -- no more pages are held than are committed and staged
  held_bound : held_of table.map.free ≤ 4 + (table.committed.depth + map_count table.committed + logical_of table.committed + capacity_pages table.committed.pages)
  held_bound =
      let four : List ℕ = 0 ∷ 1 ∷ 2 ∷ 3 ∷ [] in
      let rest = numbers_of_table table ++ table.map.staged in
      let index = numbers_of (index_of table.named.items) table.committed.depth in
      let maps = numbers_of (maps_of table.named.items) (map_count table.committed) in
      let pages = numbers_of (λ page. get_or table.map.committed page 0) (logical_of table.committed) in
      let lists = is.lists in
      let logical = is.logical in
      omega (
        arith,
        length-append four rest,
        length-append (numbers_of_table table) table.map.staged,
        length-append (index ++ maps) pages,
        length-append index maps,
        length_numbers (index_of table.named.items) table.committed.depth,
        length_numbers (maps_of table.named.items) (map_count table.committed),
        length_numbers (λ page. get_or table.map.committed page 0) (logical_of table.committed),
        held_most (four ++ rest) table.map.free (λ page lt in_use. names_append four rest page ∙ elim (cases_lt page 4) [
          | inl first ↦ or_left (names four page) (names rest page) (is_first page first)
          | inr high ↦
              let size = is.pages in
              or_right (names four page) (names rest page) (names_append (numbers_of_table table) table.map.staged page
              ∙ elim (or_cases (names (numbers_of_table table) page) (names table.map.staged page || one_names table.map.pins page) (is.used page high (omega arith) in_use)) [
                | inl committed ↦ or_left (names (numbers_of_table table) page) (names table.map.staged page) committed
                | inr more ↦ elim (or_cases (names table.map.staged page) (one_names table.map.pins page) more) [
                  | inl staged ↦ or_right (names (numbers_of_table table) page) (names table.map.staged page) staged
                  | inr pinned ↦ or_left (names (numbers_of_table table) page) (names table.map.staged page) (committed_used table is page high (pinned_committed page (omega arith) pinned))
                ]
              ])
        ]),
      )

  -- what is left
  room : (depth : ℕ) → (table.committed.pages < 88 → depth ≡ 0) → depth ≤ 1 → held_of table.map.free + (map_pages_of (capacity_pages table.committed.pages) + depth) ≤ table.committed.pages
  room depth small most =
      let low = are_low table.committed is.fit in
      let within = low.within in
      let maps = low.maps in
      let bound = held_bound in
      elim (cases_lt table.committed.pages 88) [
        | inl few ↦ let none = is.fit.depth.small few in let also = small few in omega (arith, small_suffice table.committed.pages is.fit.head.least few)
        | inr many ↦ let one = is.fit.depth.at_most_one in omega (arith, large_suffice table.committed.pages many low.pages)
      ]

  -- so there is a page for each one that is put
  pub latest_free : ((page : ℕ) → is_free table.map.free page ≡ false) → ⊥
  latest_free none =
      let low = are_low table.committed is.fit in
      let some = low.some in
      let maps = low.maps in
      let size = is.pages in
      absurd (omega (arith, none_free table.map.free none, room 0 (λ few. refl) (omega arith)))

  pub latest_room : (next : Committed) → Follows table.committed next → HasRoom table next
  latest_room next follows =
      let low = are_low next follows.fit in
      let maps = low.maps in
      let same : map_pages_of (capacity_pages next.pages) ≡ map_pages_of (capacity_pages table.committed.pages) = ap (λ (n : ℕ). map_pages_of (capacity_pages n)) follows.pages in
      let pages = follows.pages in
      let most = room next.depth (λ few. follows.fit.depth.small (omega arith)) follows.fit.depth.at_most_one in
      omega (arith, changed_most table.map (logical_of next) (map_count next))
