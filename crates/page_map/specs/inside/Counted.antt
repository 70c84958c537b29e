-- How the free pages are kept.
use Rattle.std.specs.Prelude.{◌≡◌, ℕ, ◌<◌, ◌^◌, false, length}
use Rattle.page_map.specs.declared.free_pages.FreePages.TheInside.{Inside}
use Rattle.page_map.specs.Pages.{is_free, held_of}

pub record IsCounted (pages : Inside) : Type 0 where
  pub held : pages.held ≡ held_of pages.free.items
  pub passed : (page : ℕ) → page < pages.next → is_free pages.free.items page ≡ false
  pub fixed : (page : ℕ) → page < 4 → is_free pages.free.items page ≡ false
  pub few : length pages.free.items < 2 ^ 32
