-- What a machine holds where what was denoted is denoted still: over another area and another vault, under other names, and with other databases.
use Rattle.std.proofs.Common.{◌≡◌, ℕ, ℤ, Bool, List, [], ◌∷◌, Option, refl, sym, ◌∙◌}
use Rattle.ps_base.specs.CodeUnit.{UnitView}
use Rattle.machine_core.specs.ps_outside.Outside.{Outside}
use Rattle.machine_core.specs.obj_layout.Stored.{Space}
use Rattle.machine_core.specs.obj_layout.declared.reference.Reference.{Reference}
use Rattle.machine_core.specs.swizzle.Heap as area
use Rattle.machine_core.specs.swizzle.Heap.{IsHeap, with_none_reached}
use Rattle.machine_core.specs.ps_heap.Values.{Value}
use Rattle.machine_core.specs.ps_meaning.Meaning.{Store}
use Rattle.machine_core.specs.ps_stepping.Config.{Caller, Config}
use Rattle.machine_core.specs.joint_ops.World.{DenotesIn, DenotesScopeIn, IsUnitIn}
use Rattle.machine_core.specs.joint_held.reach_commit.commit_walk.declared.homes.Source.{Source}
use Rattle.machine_core.specs.declared.caller.Caller as in_code
use Rattle.machine_core.specs.declared.machine.Machine.{Machine}
use Rattle.machine_core.specs.Holding.{Held, HeldBy, HoldsStore, Words, asked_in, holding, run_in, words_of}
use Rattle.machine_core.specs.Waiting.{AreWaiting, IsWaiting}
use Rattle.machine_core.proofs.RefRows.{row_more}
use Rattle.machine_commits.proofs.Cleared.{cleared-run, cleared-scopes, cleared-units, cleared-values}

module _ (here now : area.Heap) (before after : Outside Space) (names more : List Reference) where
  -- What denoted a value or a scope, or was the code object of a unit, is so still.
  pub record StayDenoted : Type 0 where
    pub values : (to : Option ℕ) (v : Value) → DenotesIn here before names to v → DenotesIn now after more to v
    pub scopes : (to scope : Option ℕ) → DenotesScopeIn here before names to scope → DenotesScopeIn now after more to scope
    pub units : (code : ℕ) (u : UnitView) → IsUnitIn here before code u → IsUnitIn now after code u

  module _ (k : StayDenoted) where
    waiting-moved : (of : in_code.Caller) (nums : List ℤ) (refs : List ℕ) (c : Caller) → IsWaiting here before names of nums refs c → IsWaiting now after more of nums refs c
    waiting-moved of nums refs c w = record {
      unit_is = k.units of.code c.unit w.unit_is;
      fit = w.fit;
      frame_is = w.frame_is;
      at_is = w.at_is;
      scope_is = k.scopes _ _ w.scope_is;
      nums_are = w.nums_are;
      refs_are = row_more here before names now after more k.values refs of.frame.refs c.refs c.locals.refs w.refs_are;
    }

    -- so the bodies that wait, wait still
    all-moved : (callers : List in_code.Caller) (nums : List ℤ) (refs : List ℕ) (cs : List Caller) → AreWaiting here before names callers nums refs cs
        → AreWaiting now after more callers nums refs cs
    all-moved callers nums refs [] w = w
    all-moved callers nums refs (c ∷ cs) w =
        let top = w.0 in
        (top, waiting-moved top.last top.own_nums top.own_refs c w.1, all-moved top.below top.low_nums top.low_refs cs w.2)

    -- The words with other databases stand for the configuration with another store.
    pub held-moved : (w : Words) (c : Config) (store : Store) (writing : List Source) (asked : Bool) (directory : Option ℕ) (places : ℕ) → Held here before names w c
        → HoldsStore now after more writing asked directory store.held → store.turns ≡ c.store.turns → store.input ≡ c.store.input
        → Held now after more (record w { writing = writing; asked = asked; directory = directory; places = places }) (record c { store = store })
    held-moved w c store writing asked directory places h run turns input = record {
      unit_is = k.units w.code c.unit h.unit_is;
      fit = h.fit;
      frame_is = h.frame_is;
      at_is = h.at_is;
      nums_are = h.nums_are;
      refs_are = row_more here before names now after more k.values w.refs.own w.frame.refs c.refs c.locals.refs h.refs_are;
      scope_is = k.scopes _ _ h.scope_is;
      callers_are = all-moved w.callers w.nums.below w.refs.below c.callers h.callers_are;
      input_is = h.input_is ∙ sym input;
      turns_are = turns ∙ h.turns_are;
      run = run;
    }

-- So it is where nothing is noted as reached any more.
pub held-cleared : (outside : Outside Space) (names : List Reference) (m : Machine) (c : Config) → IsHeap m.objects → IsHeap (with_none_reached m.objects)
    → HeldBy outside names m c → HeldBy outside names (record m { objects = with_none_reached m.objects }) c
held-cleared outside names m c sound good h =
    let here = m.objects in
    let now = with_none_reached here in
    let w = words_of m in
    let k : StayDenoted here now outside outside names names =
    record { values = cleared-values here outside names; scopes = cleared-scopes here outside names; units = cleared-units here outside } in
    let store = holding (asked_in h.run) (cleared-run here outside names w.writing w.directory c.store.held sound good (run_in h.run)) in
    held-moved here now outside outside names names k w c c.store w.writing w.asked w.directory w.places h store refl refl
