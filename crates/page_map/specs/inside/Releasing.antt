-- Which pages are made free when a volume settles.
use Rattle.std.specs.Prelude.{◌≡◌, ◌⊎◌, ℕ, not, ◌&&◌, ◌||◌, Bool, List, length, Option, Some}
use Rattle.page_map.specs.Pages.{is_free, free_where, may_be_free, names, without}

-- All pages are free that may be free and aren't staged; or those loose ones were made free.
abbrev pub ReleasesUnstaged : List Bool → List Bool → Option (List ℕ) → List ℕ → Type 0
ReleasesUnstaged old new loose staged =
    (new ≡ without (free_where (length old) may_be_free) staged)
    ⊎ ((list : List ℕ) × (loose ≡ Some list)
    × (new ≡ free_where (length old) (λ page. is_free old page || (may_be_free page && (names list page && not (names staged page))))))
