-- How a list is kept with marks at the pages that it names.
use Rattle.std.specs.Prelude.{◌≡◌, ℕ, ◌<◌, ◌≤◌, Bool, true, not, ◌&&◌, ◌||◌, ◌==◌, List, length, slice_index}
use Rattle.page_map.specs.Pages.{is_free, names}
use Rattle.page_map.specs.declared.marked.MarkedList.TheInside.{Inside}

-- the marks stand at exactly the pages from 1 on that the list names
abbrev pub Marks : List Bool → List ℕ → Type 0
Marks marks list = (page : ℕ) → 1 ≤ page → is_free marks page ≡ names list page

-- no page from 1 on is named twice
abbrev pub IsApart : List ℕ → Type 0
IsApart list = (one other : ℕ) → one < length list → other < length list → 1 ≤ slice_index list one → slice_index list one ≡ slice_index list other → one ≡ other

pub record AreRight (marks : List Bool) (list : List ℕ) : Type 0 where
  pub marked : Marks marks list
  pub apart : IsApart list

abbrev pub AreMarked : Inside → Type 0
AreMarked marked = marked.apart ≡ true → AreRight marked.marks.items marked.list

-- A mark was taken from a page; and one was put at another page that there is and that had none, if it isn't 0.
pub record MovesMark (old new : List Bool) (page number : ℕ) (done : Bool) : Type 0 where
  pub long : length new ≡ length old
  pub free : done ≡ true → 1 ≤ number → is_free old number ≡ true → page ≡ number
  pub moved : done ≡ true → (p : ℕ) → 1 ≤ p → is_free new p ≡ ((is_free old p && not (page == p)) || (number == p))
