-- What a directory refers to: texts and tables as they are touched, and after other touches.
use Rattle.std.proofs.Common.{arith, inl, inr, ◌≡◌, ℕ, zero, suc, ◌<◌, ◌≤◌, Bool, true, false, nat_eq, List, [], ◌∷◌, ◌++◌, length, Option, Some, None, Result, Ok, Err, IfErr, OnOk, refl, sym, ap, ◌∙◌, subst}
use Rattle.joint_ops.specs.ps_outside.Outside.{Outside}
use Rattle.joint_ops.specs.obj_layout.Stored.{Space, Holds}
use Rattle.joint_ops.specs.obj_layout.Kind.{kind_number}
use Rattle.joint_ops.specs.obj_layout.declared.kind.Kind.{Kind}
use Rattle.joint_ops.specs.obj_layout.declared.kind.Kind.TheVariants.{Text}
use Rattle.joint_ops.specs.obj_layout.declared.reference.Reference.{Reference}
use Rattle.joint_ops.specs.obj_layout.declared.reference.Reference.TheVariants.{Nil, Pid, Local}
use Rattle.joint_ops.specs.obj_layout.declared.vault.VaultFault.TheVariants.{Damaged}
use Rattle.joint_ops.specs.swizzle.declared.fault.SwizzleFault.{SwizzleFault}
use Rattle.joint_ops.specs.swizzle.declared.fault.SwizzleFault.TheVariants.{AreaFull, Vault}
use Rattle.joint_ops.specs.obj_layout.Reference.{IsReference}
use Rattle.joint_ops.specs.swizzle.Heap.{Heap, IsHeap, IsHeld, top_of, header_at, object_at, ref_at, local_of}
use Rattle.joint_ops.specs.swizzle.Text.{text_at}
use Rattle.joint_ops.specs.swizzle.Joint.{Shown, shown_at, name_at, name_of}
use Rattle.joint_ops.specs.swizzle.Changes.{Within, Touched}
use Rattle.joint_ops.specs.swizzle.Touch.{Denotes, Keeps, Only, IsNear, IsTouchCall, IsTouchFault}
use Rattle.joint_ops.specs.swizzle.Reading.{joint, FailsReading}
use Rattle.joint_ops.specs.heap_places.Shapes.{IsText, slot_of, shown_text}
use Rattle.joint_ops.specs.heap_places.Places.{FailsFetch}
use Rattle.joint_ops.specs.heap_meaning.Standing.{IsKindOf}
use Rattle.joint_ops.specs.World.{seen, BreaksOff}
use Rattle.joint_ops.proofs.of_swizzle.DamageLaws.{passes-same, reports-same}
use Rattle.joint_ops.proofs.of_swizzle.KeptLaws.{held_is}
use Rattle.joint_ops.proofs.of_swizzle.FetchedLaws.{local-place}
use Rattle.joint_ops.proofs.of_swizzle.NameLaws.{not_away, name-not_nil, name-none, name-pid}
use Rattle.joint_ops.proofs.of_swizzle.ObjectLaws.{AreReferences-at, split}
use Rattle.joint_ops.proofs.of_swizzle.ReadingLaws.{fails-then, reads-none, reads-then, texts-kept}
use Rattle.joint_ops.proofs.of_swizzle.TouchLaws.{keeps-trans}
use Rattle.joint_ops.proofs.of_heap_places.PlaceLaws.{slot-name, reads-slot, denotes-slot}
use Rattle.joint_ops.proofs.of_heap_places.TouchedLaws.{kinds-same, kinds-differ}
use Rattle.joint_ops.proofs.of_heap_ops.ClassLaws.{pid-kept}
use Rattle.joint_ops.proofs.of_heap_ops.FieldLaws.{fetch-fault}
use Rattle.joint_ops.proofs.SeenLaws.{seen-joint, joint-is, nil-unseen, Known, caused-fetch, breaks, shown-bytes}
use Rattle.joint_ops.specs.ps_heap.Texts.{is_same_text}
use Rattle.db_dir.specs.Entries.{ReadsSome, IsEntry, IsTextEntry, Compares, NoEntry, Misses, MissesText}

-- Readings, one after another.

pub some-none : (heap : Heap) (a : Outside Space) → ReadsSome heap heap a a
some-none heap a = record { names = []; reads = reads-none heap a [] }

pub some-then : (old mid new : Heap) (a b c : Outside Space) → ReadsSome old mid a b → ReadsSome mid new b c → ReadsSome old new a c
some-then old mid new a b c r s = record { names = r.names ++ s.names; reads = reads-then old mid new a b c r.names s.names r.reads s.reads }

pub some-fails : (old mid : Heap) (a b c : Outside Space) (fault : SwizzleFault) → ReadsSome old mid a b → FailsReading b c fault → FailsReading a c fault
some-fails old mid a b c fault r f = fails-then old mid a b c r.names fault r.reads f

-- what a call answers that was made after others
pub reads-after : {T : Type 0} (old mid new : Heap) (a b c : Outside Space) (result : Result T SwizzleFault) → ReadsSome old mid a b → OnOk result (ReadsSome mid new b c)
    → OnOk result (ReadsSome old new a c)
reads-after old mid new a b c (Ok x) r s = some-then old mid new a b c r s
reads-after old mid new a b c (Err fault) r s = tt

pub fails-after : {T : Type 0} (old mid : Heap) (a b c : Outside Space) (result : Result T SwizzleFault) → ReadsSome old mid a b → IfErr result (FailsReading b c)
    → IfErr result (FailsReading a c)
fails-after old mid a b c (Ok x) r f = tt
fails-after old mid a b c (Err fault) r f = some-fails old mid a b c fault r f

-- The object of a slot was touched.

pub entry-there : (old new : Heap) (at slot text : ℕ) (of : Kind) (to : Option ℕ) → to ≡ Some text → Denotes new to (name_of old (ref_at old at slot))
    → nat_eq (kind_number (header_at new text).kind) (kind_number of) ≡ true → IsEntry old new at slot of text
entry-there old new at slot text of to is denotes kind = record {
  denotes = denotes-slot old new at slot (Some text) (subst (λ (t : Option ℕ). Denotes new t (name_of old (ref_at old at slot))) is denotes);
  kind = kinds-same (header_at new text).kind of kind;
}

pub entry-reads : (old new : Heap) (a b : Outside Space) (at slot : ℕ) (to : Option ℕ) → Keeps old new → Touched (joint old a) (joint new b) (name_of old (ref_at old at slot))
    → (IsNear old (name_of old (ref_at old at slot)) → top_of new ≡ top_of old) → Only old new (name_of old (ref_at old at slot)) → IsTouchCall old new a b (Ok to) → ReadsSome old new a b
entry-reads old new a b at slot to keeps touched near only call = record {
  names = slot_of (shown_at old at) slot ∷ [];
  reads = reads-slot old new a b at slot to keeps touched near only call;
}

pub entry-other : (old new : Heap) (a b : Outside Space) (at slot other number wanted : ℕ) (of : Kind) (to : Option ℕ) (fault : SwizzleFault) → to ≡ Some other
    → Denotes new to (name_of old (ref_at old at slot)) → Keeps old new → Touched (joint old a) (joint new b) (name_of old (ref_at old at slot))
    → nat_eq (kind_number (header_at new other).kind) (kind_number of) ≡ false → number ≡ kind_number (header_at new other).kind
    → wanted ≡ kind_number of → fault ≡ Vault (Damaged (header_at new other).pid number wanted)
    → Misses old new a b at slot of fault
entry-other old new a b at slot other number wanted of to fault some denotes keeps touched kind is want named =
    let there : Denotes new (Some other) (name_of old (ref_at old at slot)) = subst (λ (t : Option ℕ). Denotes new t (name_of old (ref_at old at slot))) some denotes in
    let all = named ∙ ap (λ (n : ℕ). Vault (Damaged (header_at new other).pid n wanted)) is ∙ ap (λ (n : ℕ). Vault (Damaged (header_at new other).pid (kind_number (header_at new other).kind) n)) want in
    inl (inr (other, denotes-slot old new at slot (Some other) there, kinds-differ (header_at new other).kind of kind, keeps, touched.grows, all))

ref-nil : (heap : Heap) (r : Reference) → name_of heap r ≡ Nil → r ≡ Nil
ref-nil heap Nil e = refl
ref-nil heap (Pid pid) e = absurd (cc)
ref-nil heap (Local at) e = absurd (name-not_nil heap at e)

pub entry-nil : (old new : Heap) (a b : Outside Space) (at slot wanted : ℕ) (of : Kind) (to : Option ℕ) (fault : SwizzleFault) → to ≡ None
    → Denotes new to (name_of old (ref_at old at slot)) → (ref_at old at slot ≡ Nil → new ≡ old)
    → wanted ≡ kind_number of → fault ≡ Vault (Damaged (header_at new at).pid 0 wanted) → Misses old new a b at slot of fault
entry-nil old new a b at slot wanted of to fault none denotes still want named =
    let nil : name_of old (ref_at old at slot) ≡ Nil = subst (λ (t : Option ℕ). Denotes new t (name_of old (ref_at old at slot))) none denotes in
    let same = still (ref-nil old (ref_at old at slot) nil) in
    let all = named ∙ ap (λ (h : Heap). Vault (Damaged (header_at h at).pid 0 wanted)) same ∙ ap (λ (n : ℕ). Vault (Damaged (header_at old at).pid 0 n)) want in
    inl (inl (slot-name old at slot ∙ nil, all))

pub entry-unfetched : (old new : Heap) (a b : Outside Space) (at slot : ℕ) (of : Kind) (fault : SwizzleFault) → IsHeap old → IsHeld old at
    → IsTouchFault old a (ref_at old at slot) fault → Misses old new a b at slot of fault
entry-unfetched old new a b at slot of fault h held t = inr (fetch-fault old old a a at slot [] fault h held refl (reads-none old a []) t)

-- A text of another length is damaged.

pub short-text : (old new : Heap) (a b : Outside Space) (at slot text least most count : ℕ) (fault : SwizzleFault) → ReadsSome old new a b
    → IsEntry old new at slot Text text → count ≡ length (text_at new text) → count < least
    → fault ≡ Vault (Damaged (header_at new text).pid count least) → MissesText old new a b at slot least most fault
short-text old new a b at slot text least most count fault r e is lt named = inl (record {
  text = text;
  entry = e;
  keeps = r.reads.keeps;
  grows = r.reads.grows;
  why = inl (omega (arith, is, lt), named ∙ ap (λ (n : ℕ). Vault (Damaged (header_at new text).pid n least)) is);
})

pub long-text : (old new : Heap) (a b : Outside Space) (at slot text least most count : ℕ) (fault : SwizzleFault) → ReadsSome old new a b
    → IsEntry old new at slot Text text → count ≡ length (text_at new text) → most < count
    → fault ≡ Vault (Damaged (header_at new text).pid count most) → MissesText old new a b at slot least most fault
long-text old new a b at slot text least most count fault r e is lt named = inl (record {
  text = text;
  entry = e;
  keeps = r.reads.keeps;
  grows = r.reads.grows;
  why = inr (omega (arith, is, lt), named ∙ ap (λ (n : ℕ). Vault (Damaged (header_at new text).pid n most)) is);
})

pub compared : (old new : Heap) (at slot least most text : ℕ) (bytes own : List ℕ) (same : Bool) → IsTextEntry old new at slot least most text → own ≡ bytes
    → same ≡ is_same_text (text_at new text) own → Compares old new at slot least most bytes same
compared old new at slot least most text bytes own same e is same_is = record {
  text = text;
  is = e;
  same_is = same_is ∙ ap (is_same_text (text_at new text)) is;
}

-- What a call found is so still after others, and what it found after others is so of the object as it was before.

slot-kept : (old mid : Heap) (at slot : ℕ) → Keeps old mid → IsHeld old at → slot_of (shown_at mid at) slot ≡ slot_of (shown_at old at) slot
slot-kept old mid at slot keeps held = ap (λ (it : Shown). slot_of it slot) (keeps.objects at held).shown_as

entry-still : (old mid new : Heap) (at slot to : ℕ) (of : Kind) → IsEntry old mid at slot of to → Keeps mid new → IsEntry old new at slot of to
entry-still old mid new at slot to of e keeps =
    let stays = keeps.objects to e.denotes.0 in
    record { denotes = (stays.held, stays.name ∙ e.denotes.1); kind = ap (λ (it : Shown). it.kind) stays.shown_as ∙ e.kind }

pub entry-before : (old mid new : Heap) (at slot to : ℕ) (of : Kind) → Keeps old mid → IsHeld old at → IsEntry mid new at slot of to → IsEntry old new at slot of to
entry-before old mid new at slot to of keeps held e = record { denotes = (e.denotes.0, e.denotes.1 ∙ slot-kept old mid at slot keeps held); kind = e.kind }

pub compares-still : (old mid new : Heap) (at slot least most : ℕ) (bytes : List ℕ) (same : Bool) → Compares old mid at slot least most bytes same → Keeps mid new
    → Compares old new at slot least most bytes same
compares-still old mid new at slot least most bytes same c keeps =
    let is : text_at new c.text ≡ text_at mid c.text = (texts-kept mid new keeps c.text c.is.entry.denotes.0 c.is.entry.kind).bytes in
    let long : length (text_at new c.text) ≡ length (text_at mid c.text) = ap length is in
    record {
      text = c.text;
      is = record {
        entry = entry-still old mid new at slot c.text Text c.is.entry keeps;
        some = omega (arith, long, c.is.some);
        few = omega (arith, long, c.is.few);
      };
      same_is = c.same_is ∙ ap (λ (t : List ℕ). is_same_text t bytes) (sym is);
    }

pub compares-before : (old mid new : Heap) (at slot least most : ℕ) (bytes : List ℕ) (same : Bool) → Keeps old mid → IsHeld old at
    → Compares mid new at slot least most bytes same → Compares old new at slot least most bytes same
compares-before old mid new at slot least most bytes same keeps held c = record {
  text = c.text;
  is = record { entry = entry-before old mid new at slot c.text Text keeps held c.is.entry; some = c.is.some; few = c.is.few };
  same_is = c.same_is;
}

-- a PID in a slot is 1 at least
pid-low : (p pid : ℕ) (r : Reference) → r ≡ Pid p → p ≡ pid → IsReference r → 1 ≤ pid
pid-low p pid r e same it = let is : IsReference (Pid p) = subst IsReference e it in omega (arith, is.0, same)

name-low : (heap : Heap) (to pid p : ℕ) → name_at heap to ≡ Pid pid → (header_at heap to).pid ≡ p → 1 ≤ pid
name-low heap to pid zero n e = let bad : Local to ≡ Pid pid = sym (name-none (header_at heap to) to e) ∙ n in absurd (cc)
name-low heap to pid (suc p) n e =
    let same : Pid (header_at heap to).pid ≡ Pid pid = sym (name-pid (header_at heap to) to (omega (arith, e))) ∙ n in
    let pids : (header_at heap to).pid ≡ pid = cc in
    omega (arith, e, pids)

pid-named : (heap : Heap) (at slot pid : ℕ) (r : Reference) → IsHeap heap → IsHeld heap at → ref_at heap at slot ≡ r → name_of heap r ≡ Pid pid → 1 ≤ pid
pid-named heap at slot pid Nil h held e n = absurd (cc)
pid-named heap at slot pid (Pid p) h held e n =
    let fit = (split 1 heap.objects at (object_at heap at) h.fit (held_is heap at held)).fit in
    let same : p ≡ pid = cc in
    pid-low p pid (ref_at heap at slot) e same (AreReferences-at (object_at heap at).refs slot fit.references)
pid-named heap at slot pid (Local to) h held e n = name-low heap to pid (header_at heap to).pid n refl

-- a PID that no object of the area has now, none had before others came
still-away : (old mid : Heap) (pid : ℕ) → IsHeap mid → Keeps old mid → 1 ≤ pid → local_of mid pid ≡ None → local_of old pid ≡ None
still-away old mid pid h keeps low away = cases (local_of old pid) refl
  where
    cases : (o : Option ℕ) → local_of old pid ≡ o → local_of old pid ≡ None
    cases None e = e
    cases (Some at) e =
        let l = local-place old pid at low e in
        let stays = keeps.objects at l.held in
        absurd (not_away mid at pid h stays.held (sym (stays.name ∙ l.name)) away)

fetch-before : (old mid : Heap) (a b : Outside Space) (at slot : ℕ) (fault : SwizzleFault) → IsHeap mid → IsHeld old at → ReadsSome old mid a b
    → FailsFetch mid b (slot_of (shown_at mid at) slot) fault → FailsFetch old a (slot_of (shown_at old at) slot) fault
fetch-before old mid a b at slot (AreaFull top wanted size) h held r f =
    let keeps = r.reads.keeps in
    let same = r.reads.outside.contents in
    let pid = f.3.0 in
    let low = pid-named mid at slot pid (ref_at mid at slot) h (keeps.objects at held).held refl (sym (slot-name mid at slot) ∙ f.3.1) in (
      omega (arith, f.0, keeps.top),
      f.1 ∙ keeps.size,
      f.2,
      (
        pid,
        sym (slot-kept old mid at slot keeps held) ∙ f.3.1,
        still-away old mid pid h keeps low f.3.2,
        passes-same a b pid same f.3.3,
        λ words stored. f.3.4 words (record { space = stored.space; is = same.kept stored.space stored.is; has = stored.has }),
      ),
    )
fetch-before old mid a b at slot (Vault refused) h held r f =
    let keeps = r.reads.keeps in
    let low = pid-named mid at slot f.0 (ref_at mid at slot) h (keeps.objects at held).held refl (sym (slot-name mid at slot) ∙ f.1) in
    (f.0, sym (slot-kept old mid at slot keeps held) ∙ f.1, still-away old mid f.0 h keeps low f.2, reports-same a b f.0 refused r.reads.outside.contents f.3)

none-before : (old mid new : Heap) (a b c : Outside Space) (at slot : ℕ) (of : Kind) (fault : SwizzleFault) → IsHeld old at → ReadsSome old mid a b
    → NoEntry mid new b c at slot of fault → NoEntry old new a c at slot of fault
none-before old mid new a b c at slot of fault held r (inl nil) = inl (
  sym (slot-kept old mid at slot r.reads.keeps held) ∙ nil.0,
  nil.1 ∙ ap (λ (pid : ℕ). Vault (Damaged pid 0 (kind_number of))) (pid-kept old mid at r.reads.keeps held),
)
none-before old mid new a b c at slot of fault held r (inr o) = inr (
  o.0,
  (o.1.0, o.1.1 ∙ slot-kept old mid at slot r.reads.keeps held),
  o.2,
  keeps-trans old mid new r.reads.keeps o.3,
  λ n it j. o.4 n it (r.reads.grows n it j),
  o.5,
)

pub misses-before : (old mid new : Heap) (a b c : Outside Space) (at slot : ℕ) (of : Kind) (fault : SwizzleFault) → IsHeap mid → IsHeld old at → ReadsSome old mid a b
    → Misses mid new b c at slot of fault → Misses old new a c at slot of fault
misses-before old mid new a b c at slot of fault h held r (inl none) = inl (none-before old mid new a b c at slot of fault held r none)
misses-before old mid new a b c at slot of fault h held r (inr f) = inr (fetch-before old mid a b at slot fault h held r f)

pub misses-text-before : (old mid new : Heap) (a b c : Outside Space) (at slot least most : ℕ) (fault : SwizzleFault) → IsHeap mid → IsHeld old at → ReadsSome old mid a b
    → MissesText mid new b c at slot least most fault → MissesText old new a c at slot least most fault
misses-text-before old mid new a b c at slot least most fault h held r (inl w) = inl (record {
  text = w.text;
  entry = entry-before old mid new at slot w.text Text r.reads.keeps held w.entry;
  keeps = keeps-trans old mid new r.reads.keeps w.keeps;
  grows = λ n it j. w.grows n it (r.reads.grows n it j);
  why = w.why;
})
misses-text-before old mid new a b c at slot least most fault h held r (inr m) = inr (misses-before old mid new a b c at slot Text fault h held r m)

-- Where what the slot names is known.

-- the text that was touched is the one that was seen
pub entry-text : (old new : Heap) (a b : Outside Space) (at slot to : ℕ) (bytes : List ℕ) → IsHeap new → Within (joint old a) (joint new b)
    → IsText (seen old a) (slot_of (shown_at old at) slot) bytes → IsEntry old new at slot Text to → text_at new to ≡ bytes
entry-text old new a b at slot to bytes h grows t e =
    let n = slot_of (shown_at old at) slot in
    let is = joint-is new (Holds b) to n t.it h e.denotes.0 e.denotes.1 (grows n t.it (seen-joint old a n t.it t.there)) in
    shown-bytes new to e.kind ∙ ap shown_text (sym is) ∙ t.bytes_are

pub compares-is : (old new : Heap) (a b : Outside Space) (at slot least most : ℕ) (bytes name : List ℕ) (same : Bool) → IsHeap new
    → Within (joint old a) (joint new b) → IsText (seen old a) (slot_of (shown_at old at) slot) bytes → Compares old new at slot least most name same
    → is_same_text bytes name ≡ same
compares-is old new a b at slot least most bytes name same h grows t c =
    ap (λ (x : List ℕ). is_same_text x name) (sym (entry-text old new a b at slot c.text bytes h grows t c.is.entry)) ∙ sym c.same_is

-- there is something else nowhere
no-entry : (old new : Heap) (a b : Outside Space) (at slot : ℕ) (of : Kind) (fault : SwizzleFault) → IsHeap new
    → IsKindOf (seen old a) (slot_of (shown_at old at) slot) of → NoEntry old new a b at slot of fault → ⊥
no-entry old new a b at slot of fault h k (inl nil) = nil-unseen old a k.it (subst (λ (n : Reference). seen old a n k.it) (nil.0) k.there)
no-entry old new a b at slot of fault h k (inr o) =
    let n = slot_of (shown_at old at) slot in
    let is = joint-is new (Holds b) (o.0) n k.it h (o.1.0) (o.1.1) (o.4 n k.it (seen-joint old a n k.it k.there)) in
    o.2 (sym (ap (λ (x : Shown). x.kind) is) ∙ k.kind_is)

pub misses-breaks : (old new : Heap) (a b : Outside Space) (at slot : ℕ) (of : Kind) (fault : SwizzleFault) → IsHeap old → IsHeap new → FailsReading a b fault
    → IsKindOf (seen old a) (slot_of (shown_at old at) slot) of → Misses old new a b at slot of fault → BreaksOff old new a b fault
misses-breaks old new a b at slot of fault h later f k (inl none) = absurd (no-entry old new a b at slot of fault later k none)
misses-breaks old new a b at slot of fault h later f k (inr fetch) =
    let known : Known old a (slot_of (shown_at old at) slot) = inr (record { it = k.it; is = k.there }) in
    breaks old new a b fault f (caused-fetch old new a b (slot_of (shown_at old at) slot) fault h known fetch)

pub misses-text-breaks : (old new : Heap) (a b : Outside Space) (at slot least most : ℕ) (bytes : List ℕ) (fault : SwizzleFault) → IsHeap old → IsHeap new
    → FailsReading a b fault → IsText (seen old a) (slot_of (shown_at old at) slot) bytes → least ≤ length bytes → length bytes ≤ most
    → MissesText old new a b at slot least most fault → BreaksOff old new a b fault
misses-text-breaks old new a b at slot least most bytes fault h later f t low high (inl w) =
    let same : length (text_at new w.text) ≡ length bytes = ap length (entry-text old new a b at slot w.text bytes later w.grows t w.entry) in
    elim (w.why) [
      | inl short ↦ absurd (omega (arith, same, short.0, low))
      | inr long ↦ absurd (omega (arith, same, long.0, high))
    ]
misses-text-breaks old new a b at slot least most bytes fault h later f t low high (inr m) =
    misses-breaks old new a b at slot Text fault h later f (record { it = t.it; there = t.there; kind_is = t.kind }) m
