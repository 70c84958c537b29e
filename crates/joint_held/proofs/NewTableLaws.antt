-- A new table, in the area and in what a run holds.
use Rattle.std.proofs.Common.{◌≡◌, ℕ, List, [], ◌∷◌, ◌++◌, refl, sym, ap, ◌∙◌, subst, Option}
use Rattle.joint_ops.specs.ps_outside.Outside.{Outside}
use Rattle.joint_ops.specs.obj_layout.Stored.{Space}
use Rattle.joint_ops.specs.obj_layout.Objects.{table}
use Rattle.joint_ops.proofs.of_heap_meaning.of_obj_layout.StoredLaws.{Holds-low}
use Rattle.joint_ops.specs.obj_layout.declared.kind.Kind.TheVariants as kind
use Rattle.joint_ops.specs.obj_layout.declared.header.Header.{Header}
use Rattle.joint_ops.specs.obj_layout.declared.reference.Reference.{Reference}
use Rattle.joint_ops.specs.obj_layout.declared.reference.Reference.TheVariants.{Nil, Local}
use Rattle.joint_ops.specs.swizzle.Objects.{Object}
use Rattle.joint_ops.specs.swizzle.Heap.{Heap, IsHeap, IsHeld, IsMade, blank, with_new, header_at}
use Rattle.joint_ops.specs.swizzle.Joint.{name_at}
use Rattle.swizzle.proofs.JointLaws.{joint-blank, name-fresh, held-top, object-top}
use Rattle.swizzle.proofs.KeptLaws.{inside_nil}
use Rattle.swizzle.proofs.NameLaws.{name-none}
use Rattle.joint_ops.specs.World.{IsStored, seen}
use Rattle.joint_ops.specs.heap_meaning.Paired.{StandsRow, and_name}
use Rattle.heap_meaning.proofs.PairedLaws.{row-made}
use Rattle.joint_ops.specs.ps_heap.Tables.{without_keys}
use Rattle.joint_ops.specs.ps_heap.Objects.{Keyed}
use Rattle.joint_ops.specs.ps_heap.Held.{Held, made}
use Rattle.commit_walk.specs.declared.homes.Source.{Source}
use Rattle.reach_commit.specs.commit_images.Stored.{IsWhole}
use Rattle.joint_held.specs.Held.{HoldsRun}
use Rattle.joint_held.specs.Keeping.{IsMaking}
use Rattle.joint_held.proofs.GainLaws.{holds}
use Rattle.joint_held.proofs.MadeLaws.{made-gains}
use Rattle.joint_held.proofs.IdLaws.{id-given}

abbrev new_table : Object
new_table = blank kind.Table 1 3 0

module _ (old new : Heap) (outside : Outside Space) (names : List Reference) (writing : List Source) (directory : Option ℕ) (h : Held) (at : ℕ) (was_sound : IsHeap old) (sound : IsHeap new)
    (m : IsMade old new at new_table) (run : HoldsRun old outside names writing directory h) where
  head : header_at new at ≡ new_table.header
  head = ap (λ (n : Heap). header_at n at) m.made ∙ (ap (header_at (with_new old new_table)) m.place ∙ ap (λ (o : Object). o.header) (object-top old new_table))

  held : IsHeld new at
  held = subst (λ (n : Heap). IsHeld n at) (sym m.made) (subst (IsHeld (with_new old new_table)) (sym m.place) (held-top old new_table))

  unstored : (header_at new at).pid ≡ 0
  unstored = ap (λ (g : Header). g.pid) head

  whole : IsWhole new at
  whole = record {
    contents = table;
    counts = record {
      kind = ap (λ (g : Header). g.kind) head;
      counted = ap (λ (g : Header). Rattle.joint_ops.specs.obj_layout.Objects.counts g.refs g.nums g.bytes) head;
      allowed = tt;
    };
  }

  making : IsMaking old new at new_table
  making = record { made = m; unstored = refl; inside = λ slot to e. inside_nil old 1 slot to e; whole = whole }

  name-is : name_at new at ≡ Local at
  name-is = name-none (header_at new at) at unstored

  row : StandsRow (seen new outside) (h.objects ++ Keyed without_keys ∷ []) (and_name names (name_at new at))
  row = subst (λ (n : Reference). StandsRow (seen new outside) (h.objects ++ Keyed without_keys ∷ []) (and_name names n)) (sym name-is)
      (row-made (seen old outside) (seen new outside) h.objects names (Local at) (record { kind = kind.Table; refs = Nil ∷ []; nums = 0 ∷ 0 ∷ 0 ∷ []; bytes = 0 }) (Keyed without_keys) run.world.row
      (λ it s. name-fresh old (IsStored outside) it was_sound (subst (λ i. seen old outside (Local i) it) m.place s))
      (joint-blank old new (IsStored outside) at kind.Table 1 3 0 was_sound m (λ pid words k. Holds-low outside pid words k.there))
      refl (refl, 0, refl))

  pub table-made : HoldsRun new outside (and_name names (name_at new at)) writing directory (made (Keyed without_keys) h)
  table-made =
      id-given new outside names writing directory h at (Keyed without_keys) sound
      (record { held = held; unstored = unstored; fresh = tt; world = record { row = row } })
      (holds old new outside outside names writing directory h (made-gains old new outside was_sound sound at new_table making) run)
