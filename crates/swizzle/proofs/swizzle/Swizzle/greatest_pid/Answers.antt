use Rattle.std.proofs.Common.{inl, inr, ◌≡◌, ◌∙◌, ℕ, List, Option, ap, subst, unwrap_or}
use Rattle.swizzle.specs.Objects.{Object}
use Rattle.swizzle.specs.Heap.{Heap, IsHeld, header_at, nothing, object_at}
use Rattle.swizzle.specs.Greatest.{HasPid, IsGreatest}
use Rattle.swizzle.proofs.KeptLaws.{held_is}
use Rattle.swizzle.proofs.swizzle.Swizzle.greatest_pid.Goals as goal
use Rattle.swizzle.proofs.swizzle.Swizzle.greatest_pid.Goals.{After-self}

greatest : (c : After-self) → IsGreatest c.args.self.now.objects c.self.inside.greatest
greatest c = subst (λ (os : List Object). IsGreatest os c.self.inside.greatest) (ap (λ (h : Heap). h.objects) c.self.view_is) c.self.invariant.pids.greatest

pub returns-clause-all : goal.returns-clause-all
returns-clause-all c x held = (greatest c).all x (object_at c.args.self.now x) (held_is c.args.self.now x held)

-- an object of the heap that has it
there : (heap : Heap) (pid : ℕ) → HasPid heap.objects pid → (x : ℕ) × IsHeld heap x × ((header_at heap x).pid ≡ pid)
there heap pid it = (
  it.at,
  record { object = it.object; is = it.is },
  ap (λ (o : Option Object). (unwrap_or o nothing).header.pid) it.is ∙ it.pid_is,
)

pub returns-clause-some : goal.returns-clause-some
returns-clause-some c =
    elim ((greatest c).some) [
      | inl none ↦ inl none
      | inr it ↦ inr (there c.args.self.now c.self.inside.greatest it)
    ]
