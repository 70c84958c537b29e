use Rattle.std.proofs.Common.{ℕ, ◌*◌, [], ◌∷◌, subst}
use Rattle.volume_parts.specs.Layout.{magic}
use Rattle.paged_volume.specs.Making.{number, new_numbers, Stand}
use Rattle.paged_volume.proofs.New.{stand_none}
use Rattle.paged_volume.proofs.making.front.Goals as goal

pub returns-clause-stand : goal.returns-clause-stand
unfolding new_numbers
returns-clause-stand c =
    subst (λ (d : ℕ). Stand (number 1 6 magic ∷ number 7 1 2 ∷ number 8 4 c.args.pages ∷ number 8200 8 1 ∷ number 8216 4 1 ∷ number 8220 4 4 ∷ number 12284 4 d ∷ number 16384 4 5 ∷ number 20480 4 (6 * d) ∷ []) c.put_number-9.new.bytes)
    c.depth_of-depth.ensures
    (c.put_number-9.ensures.stand _ (c.put_number-8.ensures.stand _ (c.put_number-7.ensures.stand _ (c.put_number-6.ensures.stand _ (c.put_number-5.ensures.stand _
    (c.put_number-4.ensures.stand _ (c.put_number-3.ensures.stand _ (c.put_number-2.ensures.stand _ (c.put_number.ensures.stand [] (stand_none 24576))))))))))
