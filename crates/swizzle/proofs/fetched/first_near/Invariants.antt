use Rattle.std.proofs.Common.{◌≡◌, drop}
use Rattle.swizzle.specs.Damaged.{near_word}
use Rattle.swizzle.proofs.fetched.first_near.Given as goal

abbrev pub invariant-loop-word : goal.invariant-loop-word
invariant-loop-word l = near_word (drop l.word-index l.words) ≡ near_word l.words
