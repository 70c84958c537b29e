-- What a run holds after operations on objects: what was read, made or written.
use Rattle.std.proofs.Common.{◌≡◌, ℕ, ◌+◌, Bool, List, Option, Some, sym, subst}
use Rattle.joint_ops.specs.ps_outside.Outside.{Outside}
use Rattle.joint_ops.specs.obj_layout.Stored.{Space}
use Rattle.joint_ops.specs.obj_layout.declared.reference.Reference.{Reference}
use Rattle.joint_ops.specs.swizzle.Heap as area
use Rattle.joint_ops.specs.swizzle.Joint.{name_at}
use Rattle.joint_ops.specs.heap_meaning.Paired.{and_name}
use Rattle.joint_ops.specs.Seeing.{Gains}
use Rattle.joint_ops.specs.World.{Rewritten}
use Rattle.joint_ops.specs.ps_heap.Values.{Value}
use Rattle.joint_ops.specs.ps_heap.Scopes.{scope_out, with_kept_name}
use Rattle.joint_ops.specs.ps_heap.Objects.{Heap, Object}
use Rattle.joint_ops.specs.ps_heap.Held.{Held, Place, Part, object_of, assigned_name, assigning, counting, made, places_with_name, touching, way_out}
use Rattle.joint_held.specs.reach_commit.commit_walk.declared.homes.Source.{Source}
use Rattle.joint_held.specs.Keeping.{GetsId}
use Rattle.joint_held.proofs.GainLaws.{holds as gained}
use Rattle.joint_held.proofs.IdLaws.{id-given}
use Rattle.joint_held.proofs.ValueLaws.{counted-run}
use Rattle.joint_held.proofs.WriteLaws.{written}
use Rattle.machine_core.specs.Holding.{HoldsStore, holding}

module _ (names : List Reference) (writing : List Source) (asked : Bool) (directory : Option ℕ) (h : Held) where
  abbrev Holds : area.Heap → Outside Space → Held → Type 0
  Holds here outside held = HoldsStore here outside names writing asked directory held

  -- what is counted, and which objects are touched
  pub run-counting : (here : area.Heap) (outside : Outside Space) (n : ℕ) → Holds here outside h → Holds here outside (counting n h)
  run-counting here outside n (holding is run) = holding is (counted-run here outside names writing directory h h.touched (h.counted + n) run)

  pub run-touching : (here : area.Heap) (outside : Outside Space) (ids : List ℕ) → Holds here outside h → Holds here outside (touching ids h)
  run-touching here outside ids (holding is run) =
      holding is (counted-run here outside names writing directory h (touching ids h).touched (touching ids h).counted run)

  module _ (here now : area.Heap) (before after : Outside Space) where
    pub run-gained : Gains here now before after → Holds here before h → Holds now after h
    run-gained g (holding is run) = holding is (gained here now before after names writing directory h g run)

    -- a place of the object of this id was written
    pub run-written : (place : Place) (later : Heap) → Rewritten here now before after (object_of place) h.objects later names
        → Holds here before h → Holds now after (assigning place later h)
    run-written place later r (holding is run) =
        holding is
        (written r.mid now after names writing directory h r.x place later r.gains.sound r.sound
        (record { write = r.write; of = record { held = r.write.held; named = r.named }; world = r.world; others = r.others; plain = r.plain })
        (gained here r.mid before after names writing directory h r.gains run))

  -- an object was made, which gets the next id
  pub run-made : (here now : area.Heap) (outside : Outside Space) (object : Object) (at : ℕ) → Gains here now outside outside
      → GetsId now outside names h at object → Holds here outside h
      → HoldsStore now outside (and_name names (name_at now at)) writing asked directory (made object h)
  run-made here now outside object at gains id (holding is run) =
      holding is (id-given now outside names writing directory h at object gains.sound id (gained here now outside outside names writing directory h gains run))

-- a kept name of the scope of this id was written
pub run-kept : (names : List Reference) (writing : List Source) (asked : Bool) (directory : Option ℕ) (h : Held) (here now : area.Heap) (before after : Outside Space)
    (scope : Option ℕ) (up n : ℕ) (v : Value) (id : ℕ) → scope_out h.objects scope up ≡ Some id
    → Rewritten here now before after id h.objects (with_kept_name h.objects scope up n v) names → HoldsStore here before names writing asked directory h
    → HoldsStore now after names writing asked directory (assigned_name scope up n v h)
run-kept names writing asked directory h here now before after scope up n v id is r run =
    let later = with_kept_name h.objects scope up n v in
    let touched = touching (way_out h.objects scope up) h in
    subst (λ (out : Option ℕ). HoldsStore now after names writing asked directory (record touched { objects = later; assigned = places_with_name h.homes out n h.assigned })) (sym is)
    (run-written names writing asked directory touched here now before after (Part id n) later r
    (run-touching names writing asked directory h here before (way_out h.objects scope up) run))
