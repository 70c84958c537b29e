-- A value written to a place of an object of the area: what becomes of area and vault, and of the world.
use Rattle.std.proofs.Common.{arith, inl, inr, ◌≡◌, ℕ, ◌+◌, List, [], ◌∷◌, ◌++◌, set, slice_set, refl, sym, ap, ◌∙◌, subst, Bool, true, false, if◌then◌else◌, Some}
use Rattle.std.proofs.lemmas.Bool.{cases_eq}
use Rattle.std.proofs.lemmas.List.{map-set}
use Rattle.heap_meaning.specs.ps_outside.Outside.{Outside}
use Rattle.heap_meaning.specs.obj_layout.Stored.{Space}
use Rattle.heap_meaning.specs.obj_layout.declared.reference.Reference as reference
use Rattle.heap_meaning.specs.swizzle.Objects as area_objects
use Rattle.heap_meaning.specs.swizzle.Objects.{size_of, size_of_all, replace_from}
use Rattle.heap_meaning.specs.swizzle.Heap as area
use Rattle.heap_meaning.specs.swizzle.Heap.{IsHeap, IsHeld, header_at, object_at, top_of, reference_to, is_assigned, flagged, with_mark}
use Rattle.heap_meaning.specs.swizzle.Joint.{Shown, shown, shown_at, name_at, name_of}
use Rattle.heap_meaning.specs.swizzle.Changes.{Within, ChangedAt}
use Rattle.heap_meaning.specs.swizzle.Text.{HasBytes}
use Rattle.heap_meaning.proofs.of_swizzle.ObjectLaws.{here, elsewhere}
use Rattle.heap_meaning.proofs.of_swizzle.HeapLaws.{held-replaced, size-replaced}
use Rattle.heap_meaning.proofs.of_swizzle.KeptLaws.{held_is}
use Rattle.heap_meaning.proofs.of_swizzle.JointLaws.{IsLike, like_long, object-replaced, name-replaced, joint-replaced}
use Rattle.heap_meaning.specs.heap_places.Words.{int_word, flag_word}
use Rattle.heap_meaning.specs.heap_places.Places.{with_value, assigned_value}
use Rattle.heap_meaning.specs.heap_places.declared.value.Value as code
use Rattle.heap_meaning.specs.heap_places.declared.value.Value.TheVariants as held
use Rattle.heap_meaning.specs.ps_heap.Values.{Value}
use Rattle.heap_meaning.specs.ps_heap.Tables.{Table}
use Rattle.heap_meaning.specs.ps_heap.Objects.{Heap, Object, Structure, Elements, Scope, Keyed, with_object}
use Rattle.heap_meaning.specs.Standing as standing
use Rattle.heap_meaning.specs.Paired.{paired}
use Rattle.heap_meaning.proofs.StandingLaws.{IsFixed, not-fixed, fixed-changed, kinds-changed, like-more, object-set, object-set_other}
use Rattle.heap_meaning.proofs.PairedLaws.{row-written}
use Rattle.heap_meaning.proofs.GivenLaws.{shown_with}
use Rattle.heap_meaning.specs.proc_values.Loaded.{CodeStays}
use Rattle.heap_meaning.proofs.of_proc_values.StayLaws.{code-other}
use Rattle.joint_ops.specs.Writing.{IsWrite}
use Rattle.joint_ops.specs.World.{IsStored, seen, Carries, Stands, Rewritten, IsForIn}
use Rattle.joint_ops.proofs.SeenLaws.{seen-held, seen-one, Passes, carries-value, carries-scope, carries-unit}
use Rattle.joint_ops.proofs.GainLaws.{gains-then}

-- An object in another's place, twice.
replace-twice : (at : ℕ) (os : List area_objects.Object) (i : ℕ) (x y : area_objects.Object)
    → replace_from at (replace_from at os i x) i y ≡ replace_from at os i y
replace-twice at [] i x y = refl
replace-twice at (o ∷ os) i x y = elim (cases_eq i at) [
  | inl same ↦
      ap (λ (l : List area_objects.Object). replace_from at l i y) (here i at (x ∷ os) (o ∷ replace_from (at + size_of o) os i x) same)
      ∙ here i at (y ∷ os) (x ∷ replace_from (at + size_of x) os i y) same
      ∙ sym (here i at (y ∷ os) (o ∷ replace_from (at + size_of o) os i y) same)
  | inr apart ↦
      ap (λ (l : List area_objects.Object). replace_from at l i y) (elsewhere i at (x ∷ os) (o ∷ replace_from (at + size_of o) os i x) apart)
      ∙ elsewhere i at (y ∷ replace_from (at + size_of o) os i x) (o ∷ replace_from (at + size_of o) (replace_from (at + size_of o) os i x) i y) apart
      ∙ ap (λ (l : List area_objects.Object). o ∷ l) (replace-twice (at + size_of o) os i x y)
      ∙ sym (elsewhere i at (y ∷ os) (o ∷ replace_from (at + size_of o) os i y) apart)
]

-- An object was put in another's place, as long and of its kind.
pub record Replaced (mid new : area.Heap) (at : ℕ) (it : Shown) : Type 0 where
  pub object : area_objects.Object
  pub objects : new.objects ≡ replace_from 1 mid.objects at object
  pub size : new.size ≡ mid.size
  pub reached : new.reached ≡ mid.reached
  pub like : IsLike (object_at mid at) object
  pub shown_is : shown (name_of mid) object ≡ it

-- the object with a value in a place
value_object : area_objects.Object → ℕ → code.Value → area_objects.Object
value_object o index (held.Num z) = record o { nums = slice_set o.nums index (int_word z) }
value_object o index (held.Flag b) = record o { nums = slice_set o.nums index (flag_word b) }
value_object o index (held.Ref to) = record o { refs = set o.refs index (reference_to to) }

value-objects : (mid : area.Heap) (at index : ℕ) (c : code.Value)
    → with_value mid at index c ≡ area.with_object mid at (value_object (object_at mid at) index c)
unfolding value_object
value-objects mid at index (held.Num z) = refl
value-objects mid at index (held.Flag b) = refl
value-objects mid at index (held.Ref to) = refl

value-like : (o : area_objects.Object) (index : ℕ) (c : code.Value) → IsLike o (value_object o index c)
unfolding value_object
value-like o index (held.Num z) = record { kind = refl; refs = refl; nums = refl; bytes = refl; pid = refl }
value-like o index (held.Flag b) = record { kind = refl; refs = refl; nums = refl; bytes = refl; pid = refl }
value-like o index (held.Ref to) = record { kind = refl; refs = refl; nums = refl; bytes = refl; pid = refl }

value-shown : (mid : area.Heap) (at index : ℕ) (c : code.Value)
    → shown (name_of mid) (value_object (object_at mid at) index c) ≡ shown_with mid (shown_at mid at) index c
unfolding value_object
value-shown mid at index (held.Num z) = refl
value-shown mid at index (held.Flag b) = refl
value-shown mid at index (held.Ref to) =
    ap (λ (rs : List reference.Reference). record (shown_at mid at) { refs = rs })
    (map-set (name_of mid) (object_at mid at).refs index (reference_to to))

-- the mark after it
marked : (mid : area.Heap) (at : ℕ) (o : area_objects.Object) (it : Shown) (b : Bool) → IsHeap mid → IsHeld mid at → IsLike (object_at mid at) o
    → shown (name_of mid) o ≡ it
    → Replaced mid (if b then area.with_object mid at o else record (area.with_object mid at o) {
      objects = replace_from 1 (area.with_object mid at o).objects at (flagged (object_at (area.with_object mid at o) at));
      assigned = mid.assigned ++ at ∷ [];
    }) at it
marked mid at o it true h there like is = record { object = o; objects = refl; size = refl; reached = refl; like = like; shown_is = is }
marked mid at o it false h there like is = record {
  object = flagged o;
  objects = replace-twice 1 mid.objects at o (flagged (object_at (area.with_object mid at o) at))
      ∙ ap (λ (x : area_objects.Object). replace_from 1 mid.objects at (flagged x)) (object-replaced mid at o there);
  size = refl;
  reached = refl;
  like = record { kind = like.kind; refs = like.refs; nums = like.nums; bytes = like.bytes; pid = like.pid };
  shown_is = is;
}

pub rewritten : (mid new : area.Heap) (at index : ℕ) (c : code.Value) → IsHeap mid → IsHeld mid at → new ≡ assigned_value mid at index c
    → Replaced mid new at (shown_with mid (shown_at mid at) index c)
rewritten mid new at index c h there e =
    let o = value_object (object_at mid at) index c in
    let put = area.with_object mid at o in
    subst (λ (x : area.Heap). Replaced mid x at (shown_with mid (shown_at mid at) index c))
    (sym (e ∙ ap (λ (x : area.Heap). with_mark x at) (value-objects mid at index c)))
    (marked mid at o (shown_with mid (shown_at mid at) index c) (is_assigned (object_at put at)) h there (value-like (object_at mid at) index c)
    (value-shown mid at index c))

-- The heap with another list of the assigned.

relisted : area.Heap → List ℕ → area.Heap
relisted heap assigned = record heap { assigned = assigned }

as-relisted : (mid new : area.Heap) (at : ℕ) (it : Shown) → (r : Replaced mid new at it)
    → new ≡ relisted (area.with_object mid at r.object) new.assigned
unfolding relisted
as-relisted mid new at it r =
    ap (λ (os : List area_objects.Object). record new { objects = os }) r.objects
    ∙ ap (λ (n : ℕ). record (area.with_object mid at r.object) { size = n; assigned = new.assigned; reached = new.reached }) r.size
    ∙ ap (λ (xs : List ℕ). record (area.with_object mid at r.object) { assigned = new.assigned; reached = xs }) r.reached

names-relisted : (mid put : area.Heap) (assigned : List ℕ) → ((j : ℕ) → IsHeld mid j → IsHeld put j × (name_at put j ≡ name_at mid j)) → (j : ℕ)
    → IsHeld mid j → IsHeld (relisted put assigned) j × (name_at (relisted put assigned) j ≡ name_at mid j)
unfolding relisted
names-relisted mid put assigned f j there = let now = f j there in (record { object = now.0.object; is = now.0.is }, now.1)

pub rewritten-names : (mid new : area.Heap) (at : ℕ) (it : Shown) → IsHeld mid at → Replaced mid new at it → (j : ℕ) → IsHeld mid j
    → IsHeld new j × (name_at new j ≡ name_at mid j)
rewritten-names mid new at it there r j is =
    let put = area.with_object mid at r.object in
    subst (λ (x : area.Heap). IsHeld x j × (name_at x j ≡ name_at mid j)) (sym (as-relisted mid new at it r))
    (names-relisted mid put new.assigned (λ i held. (
      held-replaced mid at (object_at mid at) r.object i (held_is mid at there) (like_long (object_at mid at) r.object r.like) held,
      name-replaced mid at i r.object there r.like,
    )) j is)

code-relisted : (mid put : area.Heap) (assigned : List ℕ) → CodeStays mid put → CodeStays mid (relisted put assigned)
unfolding relisted
code-relisted mid put assigned stays at there bytes =
    let s = stays at there bytes in
    record {
      held = record { object = s.held.object; is = s.held.is };
      name = s.name;
      shown_as = s.shown_as;
      flags = s.flags;
      refs = s.refs;
      nums = s.nums;
    }

pub rewritten-code : (mid new : area.Heap) (at : ℕ) (it : Shown) → IsHeld mid at → (HasBytes (header_at mid at).kind → ⊥)
    → Replaced mid new at it → CodeStays mid new
rewritten-code mid new at it there none r =
    subst (CodeStays mid) (sym (as-relisted mid new at it r))
    (code-relisted mid (area.with_object mid at r.object) new.assigned (code-other mid at r.object there none r.like))

pub rewritten-top : (mid new : area.Heap) (at : ℕ) (it : Shown) → IsHeld mid at → Replaced mid new at it → top_of new ≡ top_of mid
rewritten-top mid new at it there r =
    ap (λ (os : List area_objects.Object). 1 + size_of_all os) r.objects
    ∙ ap (λ (n : ℕ). 1 + n)
    (size-replaced 1 mid.objects at (object_at mid at) r.object (held_is mid at there) (like_long (object_at mid at) r.object r.like))

-- code that stays, and stays again
code-then : (a b c : area.Heap) → CodeStays a b → CodeStays b c → CodeStays a c
code-then a b c first second at there bytes =
    let s = first at there bytes in
    let t = second at s.held (subst HasBytes (sym (ap (λ (x : Shown). x.kind) s.shown_as)) bytes) in
    record {
      held = t.held;
      name = t.name ∙ s.name;
      shown_as = t.shown_as ∙ s.shown_as;
      flags = t.flags ∙ s.flags;
      refs = t.refs ∙ s.refs;
      nums = t.nums ∙ s.nums;
    }

-- what is denoted, and denoted again
pub carries-then : (a b c : area.Heap) (start before after : Outside Space) (names more most : List reference.Reference)
    → Carries a b start before names more → Carries b c before after more most → Carries a c start after names most
carries-then a b c start before after names more most s t = record {
  values = λ to v d. t.values to v (s.values to v d);
  scopes = λ to scope d. t.scopes to scope (s.scopes to scope d);
  units = λ code u i. t.units code u (s.units code u i);
  code = code-then a b c s.code t.code;
  size = t.size ∙ s.size;
  top = omega (arith, t.top, s.top);
}

-- what stands, and stands again
pub stands-then : (a b c : area.Heap) (start before after : Outside Space) (of later : Heap) (names : List reference.Reference)
    → Stands a b start before of names → Stands b c before after later names → Stands a c start after later names
stands-then a b c start before after of later names s t = record {
  world = t.world;
  carries = carries-then a b c start before after names names names s.carries t.carries;
  gains = gains-then a b c start before after s.gains t.gains;
}

-- an object that was written, after a reading
pub rewritten-then : (a b c : area.Heap) (start before after : Outside Space) (id : ℕ) (of later : Heap) (names : List reference.Reference)
    → Stands a b start before of names → Rewritten b c before after id of later names → Rewritten a c start after id of later names
rewritten-then a b c start before after id of later names s t = record {
  mid = t.mid;
  gains = gains-then a b t.mid start before after s.gains t.gains;
  x = t.x;
  write = t.write;
  sound = t.sound;
  named = t.named;
  others = t.others;
  plain = t.plain;
  world = t.world;
  carries = carries-then a b c start before after names names names s.carries t.carries;
}

-- What was seen of area and vault, where the vault stays.

module _ (outside : Outside Space) where
  relisted-there : (heap : area.Heap) (assigned : List ℕ) → Within (seen heap outside) (seen (relisted heap assigned) outside)
  unfolding relisted
  relisted-there heap assigned n it (inl a) =
      inl (record { at = a.at; held = record { object = a.held.object; is = a.held.is }; name_is = a.name_is; shown_is = a.shown_is })
  relisted-there heap assigned n it (inr v) =
      inr (record { pid = v.pid; words = v.words; name_is = v.name_is; there = v.there; away = v.away; shown_is = v.shown_is })

  relisted-back : (heap : area.Heap) (assigned : List ℕ) → Within (seen (relisted heap assigned) outside) (seen heap outside)
  unfolding relisted
  relisted-back heap assigned n it (inl a) =
      inl (record { at = a.at; held = record { object = a.held.object; is = a.held.is }; name_is = a.name_is; shown_is = a.shown_is })
  relisted-back heap assigned n it (inr v) =
      inr (record { pid = v.pid; words = v.words; name_is = v.name_is; there = v.there; away = v.away; shown_is = v.shown_is })

  changed-relisted : (old heap : area.Heap) (assigned : List ℕ) (n : reference.Reference) (it : Shown)
      → ChangedAt (seen old outside) n it (seen heap outside) → ChangedAt (seen old outside) n it (seen (relisted heap assigned) outside)
  changed-relisted old heap assigned n it c = record {
    there = relisted-there heap assigned n it c.there;
    alone = λ other s. c.alone other (relisted-back heap assigned n other s);
    stays = λ m other ne s. relisted-there heap assigned m other (c.stays m other ne s);
    no_more = λ m other ne s. c.no_more m other ne (relisted-back heap assigned m other s);
  }

  pub rewritten-changed : (mid new : area.Heap) (at : ℕ) (it : Shown) → IsHeap mid → IsHeld mid at → Replaced mid new at it
      → ChangedAt (seen mid outside) (name_at mid at) it (seen new outside)
  rewritten-changed mid new at it h there r =
      let put = area.with_object mid at r.object in
      subst (λ (x : area.Heap). ChangedAt (seen mid outside) (name_at mid at) it (seen x outside)) (sym (as-relisted mid new at it r))
      (changed-relisted mid put new.assigned (name_at mid at) it
      (subst (λ (s : Shown). ChangedAt (seen mid outside) (name_at mid at) s (seen put outside)) r.shown_is
      (joint-replaced mid (IsStored outside) at r.object h there r.like)))

-- an object that is no table isn't one
plain-object : (object : Object) (table : Table) → standing.IsPlain object → Some object ≡ Some (Keyed table) → ⊥
plain-object (Keyed t) table plain e = plain
plain-object (Structure class fields) table plain e = let bad : Some (Structure class fields) ≡ Some (Keyed table) = e in cc
plain-object (Elements ty low elements) table plain e = let bad : Some (Elements ty low elements) ≡ Some (Keyed table) = e in cc
plain-object (Scope text parent values) table plain e = let bad : Some (Scope text parent values) ≡ Some (Keyed table) = e in cc

-- A write on both sides, after a reading: area and vault stand for the heap with the other object.
pub write-stands : (old mid new : area.Heap) (before after : Outside Space) (of : Heap) (names : List reference.Reference) (at id : ℕ) (it : Shown)
    (object : Object) → IsHeap mid → IsHeap new → ((a b : Space) → after.contents a → after.contents b → a ≡ b) → Stands old mid before after of names
    → IsHeld mid at → paired names (name_at mid at) id → (HasBytes (header_at mid at).kind → ⊥)
    → it.kind ≡ (shown_at mid at).kind → standing.IsLike (seen mid after) (paired names) it object → standing.IsPlain object → IsWrite mid new at
    → Replaced mid new at it → Rewritten old new before after id of (with_object of id object) names
write-stands old mid new before after of names at id it object h now is_one s there p none same like plain write r =
    let a = seen mid after in
    let b = seen new after in
    let one = seen-one mid after h is_one in
    let seen_now = seen-held mid after at there in
    let changed = rewritten-changed after mid new at it h there r in
    let written : IsFixed (shown_at mid at).kind → ⊥ = λ f. not-fixed a (paired names) it object like (subst IsFixed (sym same) f) in
    let fixed = fixed-changed a b (name_at mid at) (shown_at mid at) it one seen_now written changed in
    let kinds = kinds-changed a b (name_at mid at) (shown_at mid at) it one seen_now same changed in
    let passes : Passes mid new a b = record { names = rewritten-names mid new at it there r; fixed = fixed; kinds = kinds } in
    let was = s.world.row.stands.both (name_at mid at) id p in
    record {
      mid = mid;
      gains = s.gains;
      x = at;
      write = write;
      sound = now;
      named = p;
      others = λ i ne. object-set_other of id i object ne;
      plain = λ table e. plain-object object table plain (sym (object-set of id was.object object was.means) ∙ e);
      world = record {
        row = row-written a b of names (name_at mid at) id (shown_at mid at) it object one s.world.row p seen_now plain same changed
            (like-more a b (paired names) (paired names) it object fixed kinds (λ n i q. q) like);
      };
      carries = record {
        values = λ to v d. carries-value mid new a b (paired names) (paired names) to v passes (λ n i q. q) (s.carries.values to v d);
        scopes = λ to scope d. carries-scope mid new a b (paired names) (paired names) to scope passes (λ n i q. q) (s.carries.scopes to scope d);
        units = λ code u i. carries-unit mid new after after code u passes (s.carries.units code u i);
        code = code-then old mid new s.carries.code (rewritten-code mid new at it there none r);
        size = r.size ∙ s.carries.size;
        top = omega (arith, rewritten-top mid new at it there r, s.carries.top);
      };
    }

-- A value in code that denoted one denotes it still.
pub for-carried : (old new : area.Heap) (before after : Outside Space) (names more : List reference.Reference) (c : code.Value) (v : Value)
    → Carries old new before after names more → IsForIn old before names c v → IsForIn new after more c v
for-carried old new before after names more (held.Num z) v k i = i
for-carried old new before after names more (held.Flag b) v k i = i
for-carried old new before after names more (held.Ref to) v k i = k.values to v i
