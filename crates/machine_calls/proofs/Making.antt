-- Scopes and procedures that are made by a machine.
use Rattle.std.proofs.Common.{◌≡◌, ℕ, ◌+◌, ◌<◌, ◌≤◌, Bool, List, [], ◌∷◌, length, Option, Some, refl, sym, ap, ◌∙◌, arith, subst}
use Rattle.std.specs.Prelude.{Result, Ok, Err, if◌then◌else◌}
use Rattle.std.proofs.lemmas.Bool.{lt-ltb, le-ltb}
use Rattle.ps_base.specs.CodeUnit.{UnitView}
use Rattle.machine_core.specs.ps_outside.Outside.{Outside}
use Rattle.machine_core.specs.obj_layout.Stored.{Space}
use Rattle.machine_core.specs.obj_layout.declared.reference.Reference.{Reference}
use Rattle.machine_core.specs.swizzle.Heap as area
use Rattle.machine_core.specs.swizzle.Heap.{IsHeld}
use Rattle.machine_core.specs.swizzle.Joint.{name_at}
use Rattle.machine_core.specs.joint_ops.heap_meaning.Paired.{and_name}
use Rattle.machine_core.specs.swizzle.Touch.{Keeps}
use Rattle.machine_core.specs.swizzle.declared.fault.SwizzleFault.{SwizzleFault}
use Rattle.machine_core.specs.proc_values.Loaded.{IsFitUnit}
use Rattle.machine_core.specs.ps_heap.Values.{Text, Procedure, as_compiled}
use Rattle.machine_core.specs.ps_heap.Objects.{Heap, new_number}
use Rattle.machine_core.specs.ps_heap.Scopes.{new_scope}
use Rattle.machine_core.specs.ps_meaning.Meaning.{and_object, and_closure}
use Rattle.machine_core.specs.ps_heap.Weights.{own_weight, closure_weight}
use Rattle.machine_core.specs.ps_stepping.Config.{Config, frame_words, frame_in}
use Rattle.machine_core.specs.ps_stepping.Steps.{Stuck, on, push_ref}
use Rattle.machine_core.specs.joint_ops.World.{IsWorld, DenotesIn, DenotesScopeIn, IsUnitIn}
use Rattle.joint_procedures.specs.Scopes.{MakesScope}
use Rattle.joint_procedures.specs.Procedures.{MakesProcedure}
use Rattle.machine_core.specs.declared.machine.Machine.{Machine}
use Rattle.machine_core.specs.declared.stepped.Stepped.{Stepped}
use Rattle.machine_core.specs.declared.stepped.Stepped.TheVariants.{Quiet, Breaks, Damaged}
use Rattle.machine_core.specs.Calling.{Enters}
use Rattle.machine_core.specs.Full.{a_scope, a_procedure}
use Rattle.machine_core.specs.Holding.{IsSound, words_of, world_in}
use Rattle.machine_core.specs.Naming.{NamesObjects}
use Rattle.machine_core.specs.inside.Taking.{TakesRef}
use Rattle.machine_core.proofs.Carrying.{held-more, sound-kept, size-behind, short-full}
use Rattle.machine_core.proofs.RunLaws.{run-counting, run-gained, run-made}
use Rattle.machine_core.proofs.Popping.{refs_taken}
use Rattle.machine_calls.specs.inside.Making.{MakesScopeOf, MakesProcedureOf, in_scope, with_procedure}
use Rattle.machine_calls.proofs.Current.{IsCurrent}
use Rattle.machine_calls.proofs.Fetching.{broken, sound-broken, names-kept, done-behind}
use Rattle.machine_core.proofs.of_swizzle.ReadingLaws.{leaves-none}

module _ (outside : Outside Space) (m : Machine) (now : area.Heap) (within : Option ℕ) (in_it : IsCurrent outside m within) where
  -- A scope.
  module _ (text : ℕ) where
    abbrev MadeScope : Result ℕ SwizzleFault → Type 0
    MadeScope r = (of : Heap) (names : List Reference) (bytes : List ℕ) (round : Option ℕ) → IsWorld m.objects outside of names
        → DenotesIn m.objects outside names (Some text) (Text bytes) → DenotesScopeIn m.objects outside names within round
        → MakesScope m.objects now outside of names (new_scope bytes round) r

    pub scope-made : (at : ℕ) (new : Machine) → Keeps m.objects now → MadeScope (Ok at) → IsSound new → new.objects ≡ now → NamesObjects new
        → Enters outside (Some at) (record m { objects = now }) new → MakesScopeOf outside text m new Quiet
    scope-made at new keeps make sound same names enters = record {
      sound = sound;
      names = names;
      size = ap (λ (a : area.Heap). a.size) same ∙ keeps.size;
      does = λ ns c bytes h d.
          let object = new_scope bytes c.scope in
          let made = make c.store.held.objects ns bytes c.scope (world_in h.run) d (in_it ns c h) in
          let store = and_object object c.store in
          let more = and_name ns (name_at now at) in
          let w = words_of m in
          let run = run-made ns w.writing w.asked w.directory c.store.held m.objects now outside object at made.gains
          (record { held = made.held; unstored = made.unstored; fresh = made.fresh; world = made.world }) h.run in
          let held = held-more m.objects now outside outside ns more w c store made.carries h run refl refl in (
            [],
            record c { store = store; scope = Some (new_number c.store.held.objects) },
            refl,
            refl,
            record { names = more; held = enters.holds more (record c { store = store }) (Some (new_number c.store.held.objects)) held made.denotes },
          );
    }

    pub scope-broken : (fault : SwizzleFault) (new : Machine) (r : Stepped) → r ≡ Breaks → new ≡ broken m now fault → IsSound m → MadeScope (Err fault)
        → MakesScopeOf outside text m new r
    scope-broken fault new r answer is sound make =
        let t : MakesScopeOf outside text m (broken m now fault) Breaks =
        record {
          sound = sound-broken m now fault sound;
          names = tt;
          size = tt;
          does = λ ns c bytes h d.
              let object = new_scope bytes c.scope in
              let short = make c.store.held.objects ns bytes c.scope (world_in h.run) d (in_it ns c h) in
              let next : Config = record c { store = and_object object c.store; scope = Some (new_number c.store.held.objects) } in
              short-full m.objects now outside outside (in_scope bytes c) c.store next (own_weight object) fault refl (a_scope object refl refl) short;
        } in
        subst (λ (x : Stepped). MakesScopeOf outside text m new x) (sym answer)
        (subst (λ (n : Machine). MakesScopeOf outside text m n Breaks) (sym is) t)

  -- A procedure.
  module _ (code : ℕ) where
    abbrev MadeProcedure : Result ℕ SwizzleFault → Type 0
    MadeProcedure r = (of : Heap) (names : List Reference) (u : UnitView) (round : Option ℕ) → IsWorld m.objects outside of names → IsUnitIn m.objects outside code u
        → IsFitUnit u → DenotesScopeIn m.objects outside names within round → MakesProcedure m.objects now outside of names u round r

    pub procedure-made : (at : ℕ) (new : Machine) (r : Stepped) → Keeps m.objects now → IsHeld now at → NamesObjects (record m { objects = now })
        → MadeProcedure (Ok at) → TakesRef outside outside push_ref (record m { objects = now }) (Some at) new r → MakesProcedureOf outside code m new r
    procedure-made at new r keeps there names make push = record {
      sound = push.sound;
      names = push.names names there;
      size = size-behind r m.objects.size now.size new.objects.size keeps.size push.size;
      does = λ ns c u h is fit.
          let made = make c.store.held.objects ns u c.scope (world_in h.run) is fit (in_it ns c h) in
          let store = and_closure c.store in
          let w = words_of m in
          let read = run-gained ns w.writing w.asked w.directory c.store.held m.objects now outside outside made.stands.gains h.run in
          let run = run-counting ns w.writing w.asked w.directory c.store.held now outside closure_weight read in
          let held = held-more m.objects now outside outside ns ns w c store made.stands.carries h run refl refl in
          done-behind outside outside m now (with_procedure u c) new r (leaves-none outside) keeps
          (push.does ns (Procedure (as_compiled u) c.scope) (record c { store = store }) held made.denotes);
    }

    pub procedure-broken : (fault : SwizzleFault) (new : Machine) (r : Stepped) → r ≡ Breaks → new ≡ broken m now fault → IsSound m
        → length m.refs.own < frame_words → MadeProcedure (Err fault) → MakesProcedureOf outside code m new r
    procedure-broken fault new r answer is sound room make =
        let t : MakesProcedureOf outside code m (broken m now fault) Breaks =
        record {
          sound = sound-broken m now fault sound;
          names = tt;
          size = tt;
          does = λ ns c u h is fit.
              let short = make c.store.held.objects ns u c.scope (world_in h.run) is fit (in_it ns c h) in
              let next : Config = record c { store = and_closure c.store; refs = Procedure (as_compiled u) c.scope ∷ c.refs } in
              short-full m.objects now outside outside (with_procedure u c) c.store next closure_weight fault
              (ap (λ (b : Bool). if b then on next else Stuck)
              (lt-ltb ((frame_in c.unit).refs + length c.refs) frame_words (omega (arith, room, refs_taken m outside c ns h)))) (a_procedure refl refl) short;
        } in
        subst (λ (x : Stepped). MakesProcedureOf outside code m new x) (sym answer)
        (subst (λ (n : Machine). MakesProcedureOf outside code m n Breaks) (sym is) t)

    pub procedure-full : Keeps m.objects now → IsSound m → NamesObjects m → frame_words ≤ length m.refs.own
        → MakesProcedureOf outside code m (record m { objects = now }) Damaged
    procedure-full keeps sound names full = record {
      sound = sound-kept m now sound;
      names = names-kept m now keeps names;
      size = keeps.size;
      does = λ ns c u h is fit.
          let next : Config = record c { store = and_closure c.store; refs = Procedure (as_compiled u) c.scope ∷ c.refs } in
          ap (λ (b : Bool). if b then on next else Stuck)
          (le-ltb ((frame_in c.unit).refs + length c.refs) frame_words (omega (arith, full, refs_taken m outside c ns h)));
    }
