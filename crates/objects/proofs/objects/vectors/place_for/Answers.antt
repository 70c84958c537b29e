use Rattle.std.proofs.Common.{w32, sym, ◌∙◌}
use Rattle.std.proofs.lemmas.Int.{to_z-of_z}
use Rattle.objects.proofs.objects.vectors.place_for.Goals as goal

pub returns-in-Some-fit : goal.returns-in-Some-fit
returns-in-Some-fit c = λ here so.
    record { reached = rw (to_z-of_z w32 c.args.at c.ranges.at) at (c.in-Some.ensures here so); kept = sym c.fit.ensures ∙ c.in-Some-fit.is }
