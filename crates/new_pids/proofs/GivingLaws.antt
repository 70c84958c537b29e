-- What new PIDs keep, and how they rename what is seen.
use Rattle.std.proofs.Common.{inl, inr, ◌≡◌, ℕ, ◌<◌, ◌≤◌, List, map, refl, sym, ap, ◌∙◌, subst, arith, Option, Some, None}
use Rattle.std.specs.Prelude.{unwrap_or}
use Rattle.std.proofs.lemmas.Bool.{cases_eq}
use Rattle.joint_ops.specs.obj_layout.declared.reference.Reference.{Reference}
use Rattle.joint_ops.specs.obj_layout.declared.reference.Reference.TheVariants.{Pid}
use Rattle.joint_ops.specs.swizzle.Heap.{Heap, IsHeap, IsHeld, nothing, object_at, header_at, local_of, with_object}
use Rattle.joint_ops.specs.swizzle.Joint.{Joint, name_at}
use Rattle.joint_ops.proofs.of_swizzle.HeapLaws.{local-is, held-replaced, find-replaced_other}
use Rattle.joint_ops.proofs.of_swizzle.KeptLaws.{held_is}
use Rattle.joint_ops.proofs.of_swizzle.JointLaws.{object-replaced, object-replaced_other}
use Rattle.renames.specs.Renames.{Renames}
use Rattle.joint_ops.specs.swizzle.Numbered.{numbered, with_pid, GivesPid}
use Rattle.renames.specs.Numbered.{renamed_at}
use Rattle.renames.proofs.RenameLaws.{renames-none, renames-then, stands-moved, scope-moved, unit-moved}
use Rattle.renames.proofs.RowLaws.{row-renamed, name_in-map}
use Rattle.joint_ops.specs.ps_outside.Outside.{Outside}
use Rattle.joint_ops.specs.obj_layout.Stored.{Space}
use Rattle.joint_ops.specs.swizzle.Touch.{Denotes}
use Rattle.joint_ops.specs.heap_meaning.Units.{IsUnitSeen}
use Rattle.joint_ops.specs.heap_meaning.Paired.{paired}
use Rattle.joint_ops.specs.World.{IsStored, seen}
use Rattle.renames.proofs.NumberedLaws.{joint-numbered, name-numbered}
use Rattle.new_pids.specs.Giving.{MayGive, GivesAll, done, passed, given, AreBelow, Renamed}

-- a PID that is above all others is no object's
pub above-fresh : (heap : Heap) (pid : ℕ) → AreBelow heap pid → local_of heap pid ≡ None
above-fresh heap pid below = go (local_of heap pid) refl
  where
    go : (r : Option ℕ) → local_of heap pid ≡ r → local_of heap pid ≡ None
    go None e = e
    go (Some at) e =
        let l = local-is 1 heap.objects pid at e in
        let lt = below at (record { object = l.object; is = l.is }) in
        let key = ap (λ o. (unwrap_or o nothing).header.pid) l.is ∙ l.pid_is in
        absurd (omega (arith, lt, key))

pub given-held : (old new : Heap) (at pid : ℕ) → GivesPid old new at pid → IsHeld old at → (x : ℕ) → IsHeld old x → IsHeld new x
given-held old new at pid g held x k =
    subst (λ h. IsHeld h x) (sym g.is) (held-replaced old at (object_at old at) (numbered (object_at old at) pid g.link) x (held_is old at held) refl k)

pub given-below : (old new : Heap) (at pid next : ℕ) → GivesPid old new at pid → IsHeld old at → AreBelow old pid → pid < next → AreBelow new next
given-below old new at pid next g held below lt x k =
    let o2 = numbered (object_at old at) pid g.link in
    elim (cases_eq x at) [
      | inl e ↦
          let is : (header_at new x).pid ≡ pid = ap (λ h. (header_at h x).pid) g.is ∙ (ap (λ z. (header_at (with_pid old at pid g.link) z).pid) e ∙ ap (λ o. o.header.pid) (object-replaced old at o2 held)) in
          omega (arith, is, lt)
      | inr ne ↦
          let same : (header_at new x).pid ≡ (header_at old x).pid = ap (λ h. (header_at h x).pid) g.is ∙ ap (λ o. o.header.pid) (object-replaced_other old at x o2 held refl ne) in
          let now : IsHeld (with_object old at o2) x = subst (λ h. IsHeld h x) g.is k in
          let was : IsHeld old x = record { object = now.object; is = sym (find-replaced_other 1 old.objects at x (object_at old at) o2 (held_is old at held) refl ne) ∙ now.is } in
          let b = below x was in
          omega (arith, same, b, lt)
    ]

-- All together they rename what is seen, at once.
pub record RenamesSeen (old new : Heap) (holds : ℕ → List ℕ → Type 0) : Type 0 where
  pub to : Reference → Reference
  pub renames : Renames (Joint old holds) (Joint new holds) to
  pub pids : (pid : ℕ) → to (Pid pid) ≡ Pid pid
  -- what an index of the area denotes has its new name: this is all that frames and stacks need
  pub names : (x : ℕ) → name_at new x ≡ to (name_at old x)

pub all-renamed : (old new : Heap) (xs : List ℕ) (first next : ℕ) (holds : ℕ → List ℕ → Type 0) → ((p : ℕ) (words : List ℕ) → holds p words → (1 ≤ p) × (p < first)) → GivesAll old xs first new next
    → RenamesSeen old new holds × (first ≤ next)
all-renamed old new xs first next holds range (done heap n) = (record { to = λ n. n; renames = renames-none (Joint heap holds); pids = λ pid. refl; names = λ x. refl }, omega arith)
all-renamed old new xs first next holds range (passed o n ys x f m before has) = all-renamed o n ys f m holds range before
all-renamed old new xs first next holds range (given o mid n ys x f m before may give) =
    let rest = all-renamed o mid ys f m holds range before in
    let step = joint-numbered mid holds x m give.link may.sound may.held may.none may.low may.fresh
    (λ words h. let r = range m words h in let le = rest.1 in omega (arith, r.1, le)) (λ p words h. (range p words h).0) in
    let named = subst (λ h. Renames (Joint mid holds) (Joint h holds) (renamed_at x m)) (sym give.is) step in
    (record { to = λ r. renamed_at x m (rest.0.to r); renames = renames-then (Joint o holds) (Joint mid holds) (Joint n holds) rest.0.to (renamed_at x m) rest.0.renames named; pids = λ pid. ap (renamed_at x m) (rest.0.pids pid); names = λ y. ap (λ h. name_at h y) give.is ∙ (name-numbered mid x m give.link y may.sound may.held may.none may.low ∙ ap (renamed_at x m) (rest.0.names y)) }, omega (arith, rest.1))

pub may_from : (heap : Heap) (at pid : ℕ) → IsHeap heap → IsHeld heap at → (header_at heap at).pid ≡ 0 → 1 ≤ pid → AreBelow heap pid → MayGive heap at pid
may_from heap at pid h held none low below = record { sound = h; held = held; none = none; low = low; fresh = above-fresh heap pid below }

pub given-list : (old new : Heap) (at pid : ℕ) → GivesPid old new at pid → new.reached ≡ old.reached
given-list old new at pid g = ap (λ h. h.reached) g.is

pub all-held : (old new : Heap) (xs : List ℕ) (first next : ℕ) → GivesAll old xs first new next → (x : ℕ) → IsHeld old x → IsHeld new x
all-held old new xs first next (done heap n) x k = k
all-held old new xs first next (passed o n ys y f m before has) x k = all-held o n ys f m before x k
all-held old new xs first next (given o mid n ys y f m before may give) x k = given-held mid n y m give may.held x (all-held o mid ys f m before x k)

-- What stands under the old names stands under the new ones.
module _ (old new : Heap) (outside : Outside Space) (r : RenamesSeen old new (IsStored outside)) (held : (x : ℕ) → IsHeld old x → IsHeld new x) where
  moved-denotes : (at : Option ℕ) (name : Reference) → Denotes old at name → Denotes new at (r.to name)
  moved-denotes None name d = ap r.to d ∙ r.renames.nil
  moved-denotes (Some x) name d = (held x d.0, r.names x ∙ ap r.to d.1)

  pub renamed-all : Renamed old new outside
  renamed-all = record {
    to = r.to;
    renames = r.renames;
    pids = r.pids;
    index = r.names;
    held = held;
    world = λ of names w. record { row = row-renamed (seen old outside) (seen new outside) r.to of names r.renames w.row };
    values = λ names at v d. record {
      name = r.to d.name;
      denotes = moved-denotes at d.name d.denotes;
      stands = stands-moved (seen old outside) (seen new outside) r.to (paired names) (paired (map r.to names)) d.name v r.renames (λ n id e. name_in-map r.to names n id e) d.stands;
    };
    scopes = λ names at scope d. record {
      name = r.to d.name;
      denotes = moved-denotes at d.name d.denotes;
      stands = scope-moved (seen old outside) (seen new outside) r.to (paired names) (paired (map r.to names)) d.name scope r.renames (λ n id e. name_in-map r.to names n id e) d.stands;
    };
    units = λ code u i. record {
      held = held code i.held;
      is = subst (λ n. IsUnitSeen (seen new outside) n u) (sym (r.names code)) (unit-moved (seen old outside) (seen new outside) r.to (name_at old code) u r.renames i.is);
    };
  }
