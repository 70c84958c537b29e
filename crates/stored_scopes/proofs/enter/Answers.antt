use Rattle.std.proofs.Common.{ℕ, zero, suc}
use Rattle.machine_run.specs.swizzle.Heap as area
use Rattle.machine_run.specs.swizzle.Heap.{IsHeld}
use Rattle.machine_run.specs.machine_core.Naming.{IsNamed}
use Rattle.machine_operands.proofs.Reading.{names-kept}
use Rattle.stored_scopes.proofs.enter.Goals as goal

-- the word of an object of the area names it
named : (here : area.Heap) (at : ℕ) → IsHeld here at → IsNamed here at
named here zero held = tt
named here (suc n) held = held

pub returns-in-Ok-clause-names : goal.returns-in-Ok-clause-names
returns-in-Ok-clause-names c =
    let kept = names-kept c.args.machine.now c.fetch.new.self c.in-Ok.ensures.keeps c.requires.names in
    record {
      code = kept.code;
      scope = named c.fetch.new.self c.in-Ok.scope c.in-Ok.ensures.held;
      own = kept.own;
      below = kept.below;
      callers = kept.callers;
      item = kept.item;
      databases = kept.databases;
    }
