use Rattle.std.proofs.Common.{ℕ, length}
use Rattle.text_forms.specs.inside.Reading.{AreSame, BeginsType}
use Rattle.text_forms.proofs.strict.behind_stars.Given as goal

-- after each star stands what a vector's type goes on with
abbrev pub invariant-loop-element : goal.invariant-loop-element
invariant-loop-element l = (depth : ℕ) → AreSame (BeginsType depth l.rest) (BeginsType depth l.left)

abbrev pub decreases-loop-element : goal.decreases-loop-element
decreases-loop-element l = length l.left
