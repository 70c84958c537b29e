-- The blanks before a text.
use Rattle.std.specs.Prelude.{ℕ, ℤ, Option, Some, None}
use Rattle.machine_core.specs.ps_meaning.Meaning.{blanks_before}

abbrev pub blanks_of : Option ℤ → ℕ → ℕ
blanks_of None length = 0
blanks_of (Some width) length = blanks_before width length
