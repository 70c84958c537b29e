-- Each reference has one spelling.
use Rattle.std.proofs.Common.{◌≡◌, ℕ, ◌^◌, ◌<◌, Some, refl, arith}
use Rattle.std.proofs.lemmas.Grind.{common_steps}
use Rattle.obj_layout.specs.declared.reference.Reference.{Reference}
use Rattle.obj_layout.specs.declared.reference.Reference.TheVariants.{Nil, Pid, Local}
use Rattle.obj_layout.specs.Reference.{IsReference, reference_word, reference_in}

-- what was written is read back
pub reference_in-reference_word : (reference : Reference) → IsReference reference → reference_in (reference_word reference) ≡ Some reference
reference_in-reference_word Nil h = refl
reference_in-reference_word (Pid pid) h = grind (arith, common_steps)
reference_in-reference_word (Local at) h = grind (arith, common_steps)

-- what was read is written back
pub reference_word-reference_in : (word : ℕ) (reference : Reference) → word < 2 ^ 64 → reference_in word ≡ Some reference → reference_word reference ≡ word
reference_word-reference_in word reference fit h = grind (arith, common_steps)
