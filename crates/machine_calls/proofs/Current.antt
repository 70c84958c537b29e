-- The current scope of a machine, and what becomes of it.
use Rattle.std.proofs.Common.{◌≡◌, ℕ, List, [], Option, Some, None, refl, ap, ◌∙◌, subst}
use Rattle.std.specs.Prelude.{Result, Ok, Err}
use Rattle.machine_core.specs.ps_outside.Outside.{Outside}
use Rattle.machine_core.specs.obj_layout.Stored.{Space}
use Rattle.machine_core.specs.obj_layout.declared.reference.Reference.{Reference}
use Rattle.machine_core.specs.obj_layout.declared.reference.Reference.TheVariants as name
use Rattle.machine_core.specs.swizzle.Heap as area
use Rattle.machine_core.specs.swizzle.Heap.{IsHeld}
use Rattle.machine_core.specs.swizzle.Touch.{Keeps}
use Rattle.machine_core.specs.swizzle.declared.fault.SwizzleFault.{SwizzleFault}
use Rattle.machine_core.specs.ps_heap.Objects.{Heap, Object}
use Rattle.machine_core.specs.ps_heap.Scopes.{scope_at}
use Rattle.machine_core.specs.ps_stepping.Config.{Config}
use Rattle.machine_core.specs.ps_stepping.Steps.{on}
use Rattle.machine_core.specs.ps_stepping.Procedures.{leave_scope, of_scope}
use Rattle.machine_core.specs.joint_ops.World.{IsWorld, DenotesScopeIn, seen}
use Rattle.machine_core.specs.joint_ops.heap_meaning.Standing.{StandsForScope}
use Rattle.machine_core.specs.joint_ops.heap_meaning.Paired.{paired}
use Rattle.machine_core.proofs.of_joint_ops.SeenLaws.{nil-unseen}
use Rattle.joint_procedures.specs.Scopes.{AnswersParent}
use Rattle.machine_core.specs.declared.machine.Machine.{Machine}
use Rattle.machine_core.specs.declared.stepped.Stepped.{Stepped}
use Rattle.machine_core.specs.declared.stepped.Stepped.TheVariants.{Quiet, Breaks, Damaged}
use Rattle.machine_core.specs.Calling.{Enters}
use Rattle.machine_core.specs.Holding.{HeldBy, IsSound, words_of, world_in}
use Rattle.machine_core.specs.Naming.{NamesObjects}
use Rattle.machine_core.specs.Stepped.{Takes}
use Rattle.machine_core.proofs.Carrying.{read-holds, broken-off}
use Rattle.machine_calls.proofs.Fetching.{broken, names-kept, breaks-takes}

-- this object, or none, is the current scope in each configuration
abbrev pub IsCurrent : Outside Space → Machine → Option ℕ → Type 0
IsCurrent outside m to = (names : List Reference) (c : Config) → HeldBy outside names m c → DenotesScopeIn m.objects outside names to c.scope

nil-scope : (here : area.Heap) (outside : Outside Space) (names : List Reference) (n : Reference) (s : Option ℕ) → n ≡ name.Nil
    → StandsForScope (seen here outside) (paired names) n s → s ≡ None
nil-scope here outside names n None e s = refl
nil-scope here outside names n (Some id) e s =
    absurd (nil-unseen here outside s.1.it (subst (λ (m : Reference). seen here outside m s.1.it) e s.1.there))

-- where there is no object there is no scope
pub no-current : (outside : Outside Space) (m : Machine) (names : List Reference) (c : Config) → IsCurrent outside m None → HeldBy outside names m c
    → c.scope ≡ None
no-current outside m names c in_it h = let d = in_it names c h in nil-scope m.objects outside names d.name c.scope d.denotes d.stands

-- Leaving the scope.

pub no-way_out : (before after : Outside Space) (m : Machine) → IsSound m → IsCurrent before m None → Takes before after leave_scope m m Damaged
no-way_out before after m sound in_it = record {
  sound = sound;
  names = λ n. n;
  size = refl;
  does = λ c h.
      ap (λ (s : Option ℕ). of_scope (scope_at c.store.held.objects s) (λ of parent. on (record c { scope = parent }))) (no-current before m h.names c in_it h.held);
}

module _ (before after : Outside Space) (m : Machine) (now : area.Heap) (at : ℕ) (in_it : IsCurrent before m (Some at)) where
  abbrev Got : Result (Option ℕ) SwizzleFault → Type 0
  Got r = (of : Heap) (names : List Reference) (within : Option ℕ) → IsWorld m.objects before of names → DenotesScopeIn m.objects before names (Some at) within
      → AnswersParent m.objects now before after of names within r

  pub goes-out : (to : Option ℕ) (new : Machine) → Keeps m.objects now → Got (Ok to) → IsSound new → new.objects ≡ now
      → (NamesObjects (record m { objects = now }) → NamesObjects new) → Enters after to (record m { objects = now }) new
      → Takes before after leave_scope m new Quiet
  goes-out to new keeps got sound same names enters = record {
    sound = sound;
    names = λ n. names (names-kept m now keeps n);
    size = ap (λ (a : area.Heap). a.size) same ∙ keeps.size;
    does = λ c h.
        let t = got c.store.held.objects h.names c.scope (world_in h.held.run) (in_it h.names c h.held) in (
          [],
          record c { scope = t.parent },
          ap (λ (o : Option Object). of_scope o (λ of parent. on (record c { scope = parent }))) t.is.is,
          refl,
          record {
            names = h.names;
            held = enters.holds h.names c t.parent (read-holds m.objects now before after h.names (words_of m) c h.held t.stands) t.denotes;
          },
        );
  }

  pub no-parent : (fault : SwizzleFault) (new : Machine) (r : Stepped) → r ≡ Breaks → new ≡ broken m now fault → IsSound m → Got (Err fault)
      → Takes before after leave_scope m new r
  no-parent fault new r answer is sound got =
      breaks-takes before after m now leave_scope fault new r answer is sound
      (λ c h. broken-off m.objects now before after (leave_scope c) fault (got c.store.held.objects h.names c.scope (world_in h.held.run) (in_it h.names c h.held)))
