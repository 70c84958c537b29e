-- What a shelf answers, over the texts that are told of a name.
use Rattle.std.specs.Prelude.{◌≡◌, ℕ, ◌<◌, ◌≤◌, List, length}
use Rattle.ps_port.specs.declared.shelf.ShelfFault.{ShelfFault}
use Rattle.ps_port.specs.declared.shelf.ShelfFault.TheVariants.{Failed, TooLong, Memory}

-- each text that is output is this one
abbrev pub IsTextOf : (List ℕ → Type 0) → List ℕ → Type 0
IsTextOf holds bytes = (text : List ℕ) → holds text → bytes ≡ text

-- A text is too long where it has more bytes than the longest that is given; the refusal names their
-- number. For want of memory a text is refused only where it isn't too long.
abbrev pub TooLongFor : ℕ → (List ℕ → Type 0) → ShelfFault → Type 0
TooLongFor longest holds Failed = Unit {0}
TooLongFor longest holds (TooLong count) = (longest < count) × ((text : List ℕ) → holds text → count ≡ length text)
TooLongFor longest holds Memory = (text : List ℕ) → holds text → length text ≤ longest
