-- What a contract sees of a stack of the words of bodies that call one another.
use Rattle.std.specs.Prelude.{ℕ, List, refl}
use Rattle.std.specs.Coded.{Coded, code_by, coded×, coded_list, coded_ℕ}

-- The words of the bodies that wait, one body after the other; those of the body that runs; and how many words that one may have in the memory
-- that there is.
pub record Frames (W : Type 0) : Type 0 where
  pub below : List W
  pub own : List W
  pub room : ℕ

module _ {W : Type 0} where
  abbrev pub frames : List W → List W → ℕ → Frames W
  frames below own room = record { below = below; own = own; room = room }

  abbrev pub frames_code : Coded W → Coded (Frames W)
  frames_code c =
      code_by (List W × (List W × ℕ)) (coded× (coded_list c) (coded× (coded_list c) coded_ℕ)) (λ f. (f.below, (f.own, f.room)))
      (λ p. frames p.0 p.1.0 p.1.1) (λ _. refl)
