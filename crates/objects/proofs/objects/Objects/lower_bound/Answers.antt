use Rattle.std.proofs.Common.{ℤ, ◌≡◌, w32, to_z, of_z, rules}
use Rattle.objects.proofs.LastingLaws.{keeps-lasts}
use Rattle.objects.proofs.KnownLaws.{right-stays}
use Rattle.objects.proofs.BrokenLaws.{keeps-broken}
use Rattle.objects.proofs.objects.Objects.lower_bound.Goals as goal

pub invariant_of-self : goal.invariant_of-self
invariant_of-self g c =
    right-stays c.self.inside.sw c.low-got.new.sw c.self.inside.known c.self.invariant (keeps-lasts c.self.inside.sw c.low-got.new.sw c.in-Ok.ensures.keeps)

pub invariant_of-self-in-Err : goal.invariant_of-self-in-Err
invariant_of-self-in-Err g c =
    c.keep.ensures.right c.self.inside.sw c.low-got.new.sw c.self.invariant (keeps-broken ℤ c.self.inside.sw c.low-got.new.sw c.in-Err.fault c.in-Err.ensures.keeps)

pub returns-in-Ok-clause-got : goal.returns-in-Ok-clause-got
returns-in-Ok-clause-got g c =
    let z = c.in-Ok.low in
    let same : to_z w32 (of_z w32 z) ≡ z = search rules in
    rw same (rw c.self.view_is at c.in-Ok.ensures.got)
