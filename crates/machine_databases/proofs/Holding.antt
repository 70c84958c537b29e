-- What a machine holds whose run and databases changed, and which carries what was denoted.
use Rattle.std.proofs.Common.{◌≡◌, ℕ, Bool, false, [], ◌∷◌, List, Option, None, refl, sym, ap, ◌∙◌, subst}
use Rattle.std.specs.Prelude.{map}
use Rattle.machine_core.specs.ps_outside.Outside.{Outside}
use Rattle.machine_core.specs.obj_layout.Stored.{Space}
use Rattle.machine_core.specs.obj_layout.declared.reference.Reference.{Reference}
use Rattle.machine_core.specs.swizzle.Heap as area
use Rattle.machine_core.specs.ps_heap.Databases.{each_once, open_for_writing}
use Rattle.machine_core.specs.ps_heap.Held.{Held as Meant}
use Rattle.machine_core.specs.ps_meaning.Meaning.{Store}
use Rattle.machine_core.specs.ps_stepping.Config.{Config}
use Rattle.machine_core.specs.joint_ops.World.{Carries}
use Rattle.machine_core.specs.joint_held.reach_commit.commit_walk.declared.homes.Source.{Source}
use Rattle.machine_core.specs.joint_held.Held.{HoldsRun}
use Rattle.machine_core.specs.Holding.{Held, HoldsStore, Words}
use Rattle.machine_core.proofs.RefRows.{row_more}
use Rattle.machine_core.proofs.Callers.{all-waiting}

-- The words with other databases stand for the configuration with another store.
pub held-now : (here now : area.Heap) (before after : Outside Space) (names more : List Reference) (w : Words) (c : Config) (store : Store) (writing : List Source)
    (asked : Bool) (directory : Option ℕ) (places : ℕ) → Carries here now before after names more → Held here before names w c
    → HoldsStore now after more writing asked directory store.held → store.turns ≡ c.store.turns → store.input ≡ c.store.input
    → Held now after more (record w { writing = writing; asked = asked; directory = directory; places = places }) (record c { store = store })
held-now here now before after names more w c store writing asked directory places k h run turns input = record {
  unit_is = k.units w.code c.unit h.unit_is;
  fit = h.fit;
  frame_is = h.frame_is;
  at_is = h.at_is;
  nums_are = h.nums_are;
  refs_are = row_more here before names now after more k.values w.refs.own w.frame.refs c.refs c.locals.refs h.refs_are;
  scope_is = k.scopes _ _ h.scope_is;
  callers_are = all-waiting here now before after names more k w.callers w.nums.below w.refs.below c.callers h.callers_are;
  input_is = h.input_is ∙ sym input;
  turns_are = turns ∙ h.turns_are;
  run = run;
}

-- Before the first call on databases none is open for writing, and there is no directory.
module _ (here : area.Heap) (outside : Outside Space) (names : List Reference) (writing : List Source) (directory : Option ℕ) (h : Meant) (unasked : h.asked ≡ false)
    (run : HoldsRun here outside names writing directory h) where
  no-directory : directory ≡ None
  no-directory = (run.unasked unasked).none

  no-numbers : map (λ source. source.number) writing ≡ []
  unfolding each_once
  no-numbers = run.sources.numbers ∙ ap open_for_writing (run.unasked unasked).openings

  none-written : (ws : List Source) → map (λ source. source.number) ws ≡ [] → ws ≡ []
  none-written [] is = refl
  none-written (w ∷ ws) is = absurd (cc)

  pub no-writing : writing ≡ []
  no-writing = none-written writing no-numbers

  pub run-unasked : HoldsRun here outside names [] None h
  run-unasked =
      subst (λ (d : Option ℕ). HoldsRun here outside names [] d h) no-directory
      (subst (λ (ws : List Source). HoldsRun here outside names ws directory h) no-writing run)
