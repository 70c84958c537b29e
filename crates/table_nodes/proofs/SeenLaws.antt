-- What is seen of area and vault as objects are fetched, and why an object that is seen wasn't.
use Rattle.std.proofs.Common.{◌≡◌, ◌≢◌, ℕ, ◌≤◌, List, Option, Some, None, Err, refl, sym, ◌∙◌, ap, subst, arith, inl, inr}
use Rattle.heap_places.specs.ps_outside.Outside.{Outside, SameContents}
use Rattle.heap_places.specs.obj_layout.Stored.{Space}
use Rattle.heap_places.proofs.of_swizzle.of_obj_layout.StoredLaws.{Holds-low}
use Rattle.heap_places.specs.obj_layout.declared.reference.Reference.{Reference}
use Rattle.heap_places.specs.obj_layout.declared.reference.Reference.TheVariants.{Pid}
use Rattle.heap_places.specs.obj_layout.declared.vault.VaultFault.TheVariants.{Device, Output, Full, NoPages, Damaged}
use Rattle.heap_places.specs.swizzle.declared.fault.SwizzleFault.{SwizzleFault}
use Rattle.heap_places.specs.swizzle.declared.fault.SwizzleFault.TheVariants.{AreaFull, Vault}
use Rattle.heap_places.specs.swizzle.Heap.{IsHeld, Heap, IsHeap, local_of}
use Rattle.heap_places.specs.swizzle.Joint.{Shown, InArea, InVault, name_of, shown_at}
use Rattle.heap_places.specs.swizzle.Changes.{IsKnown, Within}
use Rattle.heap_places.specs.swizzle.Reading.{joint}
use Rattle.heap_places.specs.swizzle.Touch.{IsTouchCall, IsTouchFault, Keeps}
use Rattle.heap_places.proofs.of_swizzle.DamageLaws.{far-held}
use Rattle.heap_places.proofs.of_swizzle.FetchedLaws.{local-place}
use Rattle.heap_places.proofs.of_swizzle.NameLaws.{not_away, pid_in}
use Rattle.table_nodes.specs.Nodes.{IsStored, IsAway, IsFetchFault, Grows, seen}
use Rattle.table_nodes.specs.Sparing.{Lasts}

-- What may come into the area is held.
pub seen_joint : (heap : Heap) (outside : Outside Space) → Within (seen heap outside) (joint heap outside)
seen_joint heap outside n it (inl a) = inl a
seen_joint heap outside n it (inr v) = inr (record { pid = v.pid; words = v.words; name_is = v.name_is; there = v.there.there; away = v.away; shown_is = v.shown_is })

-- what may come into the area may do so still, where what is held stays
pub stored_stays : (a b : Outside Space) (pid : ℕ) (words : List ℕ) → SameContents a b → IsStored a pid words → IsStored b pid words
stored_stays a b pid words same s = record {
  there = record { space = s.there.space; is = same.kept s.there.space s.there.is; has = s.there.has };
  header = s.header;
  far = s.far;
  clean = s.clean;
}

-- What is seen of the area is so still, where its objects stay.
area_stays : (old new : Heap) (n : Reference) (it : Shown) → Keeps old new → InArea old n it → InArea new n it
area_stays old new n it keeps a =
    let stays = keeps.objects a.at a.held in
    record { at = a.at; held = stays.held; name_is = a.name_is ∙ sym stays.name; shown_is = a.shown_is ∙ sym stays.shown_as }

-- Where objects of the area stay and none that is held is lost, nothing that is seen is lost.
pub seen_grows : (old new : Heap) (a b : Outside Space) → Keeps old new → Within (joint old a) (joint new b) → SameContents a b → Within (seen old a) (seen new b)
unfolding pid_in
seen_grows old new a b keeps grows same n it (inl k) = inl (area_stays old new n it keeps k)
seen_grows old new a b keeps grows same n it (inr v) =
    elim (grows n it (seen_joint old a n it (inr v))) [
      | inl k ↦ inl k
      | inr w ↦
          let pids : w.pid ≡ v.pid = ap pid_in (sym w.name_is ∙ v.name_is) in
          inr (record {
            pid = v.pid;
            words = v.words;
            name_is = v.name_is;
            there = stored_stays a b v.pid v.words same v.there;
            away = subst (λ (p : ℕ). local_of new p ≡ None) pids w.away;
            shown_is = v.shown_is;
          })
    ]

-- What was seen and is held under its name is seen, where objects of the area last.
pub seen_from : (old new : Heap) (a b : Outside Space) → IsHeap new → ((at : ℕ) → IsHeld old at → Lasts old new at) → SameContents a b → (n : Reference) (it : Shown) → seen old a n it → joint new b n it → seen new b n it
unfolding pid_in
seen_from old new a b h lasts same n it s (inl k) = inl k
seen_from old new a b h lasts same n it (inl k) (inr v) =
    let l = lasts k.at k.held in
    absurd (not_away new k.at v.pid h l.held (sym v.name_is ∙ (k.name_is ∙ sym l.name)) v.away)
seen_from old new a b h lasts same n it (inr w) (inr v) =
    let pids : v.pid ≡ w.pid = ap pid_in (sym v.name_is ∙ w.name_is) in
    inr (record {
      pid = w.pid;
      words = w.words;
      name_is = w.name_is;
      there = stored_stays a b w.pid w.words same w.there;
      away = subst (λ (p : ℕ). local_of new p ≡ None) pids v.away;
      shown_is = w.shown_is;
    })

pub grown_seen : (old new : Heap) (a b : Outside Space) → Grows old new a b → Within (seen old a) (seen new b)
grown_seen old new a b g = seen_grows old new a b g.keeps g.seen g.leaves.contents

-- An object that is seen and isn't in the area is stored.
seen_away : (heap : Heap) (outside : Outside Space) (n : Reference) (pid : ℕ) → IsHeap heap → IsKnown (seen heap outside) n → n ≡ Pid pid → local_of heap pid ≡ None → IsAway heap outside pid
unfolding pid_in
seen_away heap outside n pid h k e away = elim (k.is) [
  | inl a ↦ absurd (not_away heap a.at pid h a.held (sym e ∙ a.name_is) away)
  | inr v ↦
      let pids : v.pid ≡ pid = ap pid_in (sym v.name_is ∙ e) in
      record {
        words = v.words;
        stored = subst (λ (p : ℕ). IsStored outside p v.words) pids v.there;
        away = away;
      }
]

-- the object of a reference is seen, if it names one by a PID
abbrev pub IsSeen : Heap → Outside Space → Reference → Type 0
IsSeen heap outside n = (pid : ℕ) → n ≡ Pid pid → IsKnown (seen heap outside) n

-- A touch of an object that is seen fails for want of room, or since the device does.
touch_missed : (heap : Heap) (outside : Outside Space) (reference : Reference) (fault : SwizzleFault) → IsHeap heap → IsSeen heap outside (name_of heap reference) → IsTouchFault heap outside reference fault
    → fault ≢ Vault Output → ((used wanted capacity : ℕ) → fault ≢ Vault (Full used wanted capacity)) → ((held wanted pages : ℕ) → fault ≢ Vault (NoPages held wanted pages)) → IsFetchFault heap outside fault
touch_missed heap outside reference (AreaFull top wanted size) h k t other full pages =
    let named = ap (name_of heap) (t.3.1) in
    let a = seen_away heap outside (name_of heap reference) (t.3.0) h (k (t.3.0) named) named (t.3.2) in
    (omega (arith, t.0), t.1, t.2, (t.3.0, a, t.3.4 a.words a.stored.there))
touch_missed heap outside reference (Vault Device) h k t other full pages = tt
touch_missed heap outside reference (Vault Output) h k t other full pages = other refl
touch_missed heap outside reference (Vault (Full used wanted capacity)) h k t other full pages = full used wanted capacity refl
touch_missed heap outside reference (Vault (NoPages held wanted count)) h k t other full pages = pages held wanted count refl
touch_missed heap outside reference (Vault (Damaged at found wanted)) h k t other full pages =
    let named = ap (name_of heap) (t.1) in
    let a = seen_away heap outside (name_of heap reference) (t.0) h (k (t.0) named) named (t.2) in
    far-held outside t.0 (record { found = found; wanted = wanted }) a.words a.stored.header (t.3 at found wanted refl).1 a.stored.there a.stored.far

pub touch_failed_seen : {T : Type 0} (old new : Heap) (a b : Outside Space) (reference : Reference) (fault : SwizzleFault) → IsHeap old → IsSeen old a (name_of old reference) → IsTouchFault old a reference fault
    → IsTouchCall {T = T} old new a b (Err fault) → IsFetchFault old a fault
touch_failed_seen old new a b reference fault h k t call =
    touch_missed old a reference fault h k t (λ e. call.other (ap Err e)) (λ used wanted capacity e. call.full used wanted capacity (ap Err e)) (λ held wanted pages e. call.pages held wanted pages (ap Err e))

-- a PID that no object of the area has now, none had before others came
pub still_away : (old mid : Heap) (pid : ℕ) → IsHeap mid → Keeps old mid → 1 ≤ pid → local_of mid pid ≡ None → local_of old pid ≡ None
still_away old mid pid h keeps low away = cases (local_of old pid) refl
  where
    cases : (o : Option ℕ) → local_of old pid ≡ o → local_of old pid ≡ None
    cases None e = e
    cases (Some at) e =
        let l = local-place old pid at low e in
        let stays = keeps.objects at l.held in
        absurd (not_away mid at pid h stays.held (sym (stays.name ∙ l.name)) away)

-- A call failed that went on after touches: so did the whole.
pub fetch_back : (old mid : Heap) (a b : Outside Space) (fault : SwizzleFault) → Grows old mid a b → IsFetchFault mid b fault → IsFetchFault old a fault
fetch_back old mid a b (AreaFull top wanted size) g f =
    let w = f.3.1 in
    let back : SameContents b a = record { kept = g.leaves.contents.no_other; no_other = g.leaves.contents.kept } in (
      omega (arith, f.0, g.keeps.top),
      f.1 ∙ g.keeps.size,
      f.2,
      (
        f.3.0,
        record {
          words = w.words;
          stored = stored_stays b a (f.3.0) w.words back w.stored;
          away = still_away old mid (f.3.0) g.heap g.keeps (Holds-low b (f.3.0) w.words w.stored.there) w.away;
        },
        f.3.2,
      ),
    )
fetch_back old mid a b (Vault Device) g f = tt
fetch_back old mid a b (Vault Output) g f = f
fetch_back old mid a b (Vault (Full used wanted capacity)) g f = f
fetch_back old mid a b (Vault (NoPages held wanted pages)) g f = f
fetch_back old mid a b (Vault (Damaged at found wanted)) g f = f

-- what is known stays known, where objects of the area last and what is held stays held
pub known_lasts : (old new : Heap) (a b : Outside Space) → ((at : ℕ) → IsHeld old at → Lasts old new at) → SameContents a b → (n : Reference) → IsKnown (seen old a) n → IsKnown (seen new b) n
known_lasts old new a b lasts same n k = elim (k.is) [
  | inl w ↦
      let l = lasts w.at w.held in
      record { it = shown_at new w.at; is = inl (record { at = w.at; held = l.held; name_is = w.name_is ∙ sym l.name; shown_is = refl }) }
  | inr v ↦ cases v (local_of new v.pid) refl
]
  where
    cases : (v : InVault old (IsStored a) n k.it) (o : Option ℕ) → local_of new v.pid ≡ o → IsKnown (seen new b) n
    cases v None e =
        record { it = k.it; is = inr (record { pid = v.pid; words = v.words; name_is = v.name_is; there = stored_stays a b v.pid v.words same v.there; away = e; shown_is = v.shown_is }) }
    cases v (Some at) e =
        let l = local-place new v.pid at (Holds-low a v.pid v.words v.there.there) e in
        record { it = shown_at new at; is = inl (record { at = at; held = l.held; name_is = v.name_is ∙ sym l.name; shown_is = refl }) }
