use Rattle.std.proofs.Common.{◌≡◌, ◌⊎◌, take}
use Rattle.std.specs.Prelude.{Some, None}
use Rattle.page_map.proofs.page_map.note_all.Given as goal

-- the numbers so far are noted, or not all are
abbrev pub invariant-loop-number : goal.invariant-loop-number
invariant-loop-number l = (l.noted ≡ None) ⊎ (l.noted ≡ Some (take l.number-index l.numbers))
