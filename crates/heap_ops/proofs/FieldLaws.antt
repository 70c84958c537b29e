-- A field, after the class of its object.
use Rattle.std.proofs.Common.{Bool, true, false, unwrap_or, inl, inr, ◌≡◌, ℕ, suc, ◌+◌, ◌<◌, ◌≤◌, ◌^◌, List, [], ◌∷◌, Option, Some, None, IfSome, refl, sym, ap, ◌∙◌, arith, add-one, subst}
use Rattle.std.specs.Prelude.{Result, Ok, Err, OnOk}
use Rattle.heap_places.specs.ps_outside.Outside.{Outside}
use Rattle.heap_places.specs.obj_layout.Stored.{Space}
use Rattle.heap_places.specs.obj_layout.declared.reference.Reference as reference
use Rattle.heap_places.specs.obj_layout.declared.reference.Reference.TheVariants.{Pid}
use Rattle.heap_places.specs.obj_layout.Reference.{IsReference}
use Rattle.heap_places.specs.swizzle.declared.fault.SwizzleFault.{SwizzleFault}
use Rattle.heap_places.specs.swizzle.declared.fault.SwizzleFault.TheVariants.{AreaFull, Vault}
use Rattle.heap_places.specs.swizzle.Objects.{Object}
use Rattle.heap_places.specs.swizzle.Heap.{Heap, IsHeap, IsHeld, Stands, object_at, header_at, ref_at, local_of, nothing}
use Rattle.heap_places.specs.swizzle.Joint.{Shown, shown_at, name_of}
use Rattle.heap_places.specs.swizzle.Touch.{Keeps, IsTouchFault}
use Rattle.heap_places.specs.swizzle.Reading.{joint, Reads}
use Rattle.heap_places.proofs.of_swizzle.ObjectLaws.{split, AreReferences-at}
use Rattle.heap_places.proofs.of_swizzle.HeapLaws.{local-is}
use Rattle.heap_places.proofs.of_swizzle.KeptLaws.{held_is}
use Rattle.heap_places.proofs.of_swizzle.NameLaws.{shown-counts}
use Rattle.heap_places.proofs.of_swizzle.DamageLaws.{passes-same, reports-same}
use Rattle.heap_places.proofs.of_swizzle.ReadingLaws.{reads-then, fails-then}
use Rattle.heap_places.specs.text_forms.declared.forms.Form.{Form}
use Rattle.heap_places.specs.text_forms.declared.forms.Form.TheVariants.{Number, Flag, Reference}
use Rattle.heap_places.specs.text_forms.declared.forms.Rows.{Rows}
use Rattle.heap_places.specs.text_forms.declared.forms.Located.{Located}
use Rattle.heap_places.specs.text_forms.Forms.{forms_of, count_in}
use Rattle.heap_places.proofs.of_text_forms.Places.{place-within}
use Rattle.heap_places.specs.heap_texts.declared.fault.OpFault.{OpFault}
use Rattle.heap_places.specs.heap_texts.declared.fault.OpFault.TheVariants as op
use Rattle.heap_places.specs.declared.value.Value.{Value}
use Rattle.heap_places.specs.declared.value.Value.TheVariants.{Num, Flag as Truth, Ref}
use Rattle.heap_places.specs.Shapes.{slot_of, word_in}
use Rattle.heap_places.specs.Words.{word_damage}
use Rattle.heap_places.specs.Places.{HasPlace, HasRow, Holds, IsNear, NamesDamage, FailsFetch, ReadsPlace, assigned_value, fit_damage, touched_by}
use Rattle.heap_places.proofs.PlaceLaws.{slot-name, fails-damage}
use Rattle.heap_ops.specs.Structures.{TellsClass, IsNamed, GetsField, SetsField, HasFields, FailsValue, structure_damage}
use Rattle.heap_ops.specs.inside.Opening.{IsOpened, OpensFields}
use Rattle.heap_ops.specs.Outcomes.{UnlessFault}
use Rattle.heap_ops.proofs.ClassLaws.{same-before, stands-kept, pid-kept, damage-kept, class-grows, HasShape, shaped}

-- The place of a field lies in the object.

row-place : (it : Shown) (f : Form) (index : ℕ) (rows : Rows) → index < count_in f rows → HasShape it rows → HasPlace it f (index + 1)
row-place it Number index rows below s = omega (arith, below, s.nums)
row-place it Flag index rows below s = omega (arith, below, s.nums)
row-place it Reference index rows below s = omega (arith, below, s.refs)

value-place : (it : Shown) (f : Form) (index : ℕ) (rows : Rows) (v : Value) → fit_damage f v ≡ None → index < count_in f rows → HasShape it rows
    → HasRow it (index + 1) v
unfolding fit_damage
value-place it Number index rows (Num z) fits below s = omega (arith, below, s.nums)
value-place it Number index rows (Truth b) fits below s = omega (arith, below, s.nums)
value-place it Number index rows (Ref to) fits below s = absurd (cc)
value-place it Flag index rows (Num z) fits below s = omega (arith, below, s.nums)
value-place it Flag index rows (Truth b) fits below s = omega (arith, below, s.nums)
value-place it Flag index rows (Ref to) fits below s = absurd (cc)
value-place it Reference index rows (Num z) fits below s = absurd (cc)
value-place it Reference index rows (Truth b) fits below s = absurd (cc)
value-place it Reference index rows (Ref to) fits below s = omega (arith, below, s.refs)

count-fits : (f : Form) (rows : Rows) → rows.refs < 2 ^ 32 → rows.nums < 2 ^ 32 → count_in f rows < 2 ^ 32
count-fits Number rows r n = n
count-fits Flag rows r n = n
count-fits Reference rows r n = r

held-opened : (old mid : Heap) (a b : Outside Space) (object : Option ℕ) (at : ℕ) (text : List ℕ) (rows : Rows) → IsOpened old mid a b object at text rows
    → IfSome object (IsHeld old) → IsHeld old at
held-opened old mid a b object at text rows o held = subst (λ (x : Option ℕ). IfSome x (IsHeld old)) o.is held

-- what is seen of the object where its class was found, and where it lies
pub record IsReached (old mid : Heap) (at : ℕ) (rows : Rows) : Type 0 where
  pub was : IsHeld old at
  pub held : IsHeld mid at
  pub same : shown_at mid at ≡ shown_at old at
  pub shape : HasShape (shown_at mid at) rows

pub reached : (old mid : Heap) (a b : Outside Space) (object : Option ℕ) (at : ℕ) (text : List ℕ) (rows : Rows) → IsOpened old mid a b object at text rows
    → IfSome object (IsHeld old) → IsReached old mid at rows
reached old mid a b object at text rows o held =
    let was = held-opened old mid a b object at text rows o held in
    let s = o.reads.keeps.objects at was in
    record {
      was = was;
      held = s.held;
      same = s.shown_as;
      shape = subst (λ (it : Shown). HasShape it rows) (sym s.shown_as)
          (shaped (shown_at old at) rows o.fields.class.kind o.fields.shape);
    }

pub place-there : (old mid : Heap) (at : ℕ) (text : List ℕ) (l : Located) → IsReached old mid at l.rows → IsNamed text l
    → HasPlace (shown_at mid at) l.place.form (l.place.index + 1)
place-there old mid at text l r named = row-place (shown_at mid at) l.place.form l.place.index l.rows (place-within (forms_of text) named.0 l named.1).index
    r.shape

pub row-there : (old mid : Heap) (at : ℕ) (text : List ℕ) (l : Located) (v : Value) → IsReached old mid at l.rows → IsNamed text l
    → fit_damage l.place.form v ≡ None → HasRow (shown_at mid at) (l.place.index + 1) v
row-there old mid at text l v r named fits = value-place (shown_at mid at) l.place.form l.place.index l.rows v fits
    (place-within (forms_of text) named.0 l named.1).index r.shape

pub index-fits : (old mid : Heap) (at : ℕ) (text : List ℕ) (l : Located) → IsHeap mid → IsReached old mid at l.rows → IsNamed text l
    → l.place.index + 1 < 2 ^ 32
index-fits old mid at text l h r named =
    let fields = (split 1 mid.objects at (object_at mid at) h.fit (held_is mid at r.held)).fit.fields in
    let counts = shown-counts mid at h r.held in
    let fits = count-fits l.place.form l.rows (omega (arith, counts.0, r.shape.refs, fields.refs)) (omega (arith, counts.1, r.shape.nums, fields.nums)) in
    omega (arith, fits, (place-within (forms_of text) named.0 l named.1).index)

-- The value was read.

reads-at : (mid new : Heap) (b c : Outside Space) (at index : ℕ) (f : Form) (r : Result Value SwizzleFault) → ReadsPlace mid new b c at f (index + 1) r
    → ReadsPlace mid new b c at f (suc index) r
reads-at mid new b c at index f r reads = subst (λ (n : ℕ). ReadsPlace mid new b c at f n r) (add-one index) reads

pub gets-value : (old mid new : Heap) (a b c : Outside Space) (object : Option ℕ) (at : ℕ) (text : List ℕ) (l : Located) (v : Value)
    → IsOpened old mid a b object at text l.rows → IfSome object (IsHeld old)
    → ReadsPlace mid new b c at l.place.form (l.place.index + 1) (Ok v) → GetsField old new a c object text l (Ok v)
gets-value old mid new a b c object at text l v o held reads =
    let r = reached old mid a b object at text l.rows o held in
    let now = reads-at mid new b c at l.place.index l.place.form (Ok v) reads in
    let seen : Holds new (shown_at old at) l.place.form (suc l.place.index) v
    × Reads mid new b c (touched_by (shown_at old at) l.place.form (suc l.place.index)) =
    subst (λ (it : Shown). Holds new it l.place.form (suc l.place.index) v × Reads mid new b c (touched_by it l.place.form (suc l.place.index))) r.same now in
    let fields : HasFields old new c at text l.rows = record
    { class = class-grows (joint mid b) (joint new c) (shown_at old at) text seen.1.grows o.fields.class; shape = o.fields.shape } in
    subst (λ (x : Option ℕ). GetsField old new a c x text l (Ok v)) (sym o.is) (
      fields,
      seen.0,
      reads-then old mid new a b c (slot_of (shown_at old at) 0 ∷ []) (touched_by (shown_at old at) l.place.form (suc l.place.index)) o.reads
          seen.1,
    )

-- The value couldn't be read.

away-some : (old mid : Heap) (pid i : ℕ) → Keeps old mid → IsHeap mid → 1 ≤ pid → local_of mid pid ≡ None → local_of old pid ≡ Some i → ⊥
away-some old mid pid i keeps h some none there =
    let l = local-is 1 old.objects pid i there in
    let held : IsHeld old i = record { object = l.object; is = l.is } in
    let now = (keeps.objects i held).held in
    let was : (header_at old i).pid ≡ pid = ap (λ (x : Option Object). (unwrap_or x nothing).header.pid) l.is ∙ l.pid_is in
    let is : (header_at mid i).pid ≡ pid = pid-kept old mid i keeps held ∙ was in
    let one : local_of mid pid ≡ Some i = ap (local_of mid) (sym is) ∙ h.one i (object_at mid i) (held_is mid i now) (omega (arith, is, some)) in
    let no : Some i ≡ None = sym one ∙ none in
    absurd (cc)

away-by : (old mid : Heap) (pid : ℕ) (o : Option ℕ) → Keeps old mid → IsHeap mid → 1 ≤ pid → local_of mid pid ≡ None → local_of old pid ≡ o
    → local_of old pid ≡ None
away-by old mid pid None keeps h some none is = is
away-by old mid pid (Some i) keeps h some none is = absurd (away-some old mid pid i keeps h some none is)

-- a PID that no object has after others have come was none of an object before
away-before : (old mid : Heap) (pid : ℕ) → Keeps old mid → IsHeap mid → 1 ≤ pid → local_of mid pid ≡ None → local_of old pid ≡ None
away-before old mid pid keeps h some none = away-by old mid pid (local_of old pid) keeps h some none refl

-- a PID in a slot is 1 at least
pid-from : (heap : Heap) (at slot pid : ℕ) → IsHeap heap → IsHeld heap at → ref_at heap at slot ≡ Pid pid → 1 ≤ pid
pid-from heap at slot pid h held e =
    let fit = (split 1 heap.objects at (object_at heap at) h.fit (held_is heap at held)).fit in
    let it : IsReference (Pid pid) = subst IsReference e (AreReferences-at (object_at heap at).refs slot fit.references) in
    it.0

slot-pid : (old mid : Heap) (at slot pid : ℕ) → shown_at mid at ≡ shown_at old at → ref_at mid at slot ≡ Pid pid → slot_of (shown_at old at) slot ≡ Pid pid
slot-pid old mid at slot pid same e = ap (λ (it : Shown). slot_of it slot) (sym same) ∙ slot-name mid at slot ∙ ap (name_of mid) e

pub fetch-fault : (old mid : Heap) (a b : Outside Space) (at slot : ℕ) (names : List reference.Reference) (fault : SwizzleFault) → IsHeap mid → IsHeld mid at
    → shown_at mid at ≡ shown_at old at → Reads old mid a b names
    → IsTouchFault mid b (ref_at mid at slot) fault → FailsFetch old a (slot_of (shown_at old at) slot) fault
fetch-fault old mid a b at slot names (AreaFull top wanted size) h held same reads t =
    let pid = t.3.0 in
    let away = away-before old mid pid reads.keeps h (pid-from mid at slot pid h held t.3.1) t.3.2 in (
      omega (arith, t.0, reads.keeps.top),
      t.1 ∙ reads.keeps.size,
      t.2,
      (
        pid,
        slot-pid old mid at slot pid same t.3.1,
        away,
        passes-same a b pid reads.outside.contents t.3.3,
        λ words stored. t.3.4 words
            (record { space = stored.space; is = reads.outside.contents.kept stored.space stored.is; has = stored.has }),
      ),
    )
fetch-fault old mid a b at slot names (Vault refused) h held same reads t = (
  t.0,
  slot-pid old mid at slot t.0 same t.1,
  away-before old mid t.0 reads.keeps h (pid-from mid at slot t.0 h held t.1) t.2,
  reports-same a b t.0 refused reads.outside.contents t.3,
)

pub damage-at : (old mid : Heap) (at index : ℕ) (f : Form) (fault : SwizzleFault) → Keeps old mid → IsHeld old at → shown_at mid at ≡ shown_at old at
    → NamesDamage mid at (word_damage f (word_in (shown_at mid at) index)) fault
    → NamesDamage old at (word_damage f (word_in (shown_at old at) index)) fault
damage-at old mid at index f fault keeps held same names =
    damage-kept old mid at (word_damage f (word_in (shown_at old at) index)) fault keeps held
    (subst (λ (it : Shown). NamesDamage mid at (word_damage f (word_in it index)) fault) same names)

pub gets-fault : (old mid new : Heap) (a b c : Outside Space) (object : Option ℕ) (at : ℕ) (text : List ℕ) (l : Located) (fault : SwizzleFault) → IsHeap mid
    → IsOpened old mid a b object at text l.rows → IfSome object (IsHeld old)
    → ReadsPlace mid new b c at l.place.form (l.place.index + 1) (Err fault) → GetsField old new a c object text l (Err (op.Swizzle fault))
gets-fault old mid new a b c object at text l fault h o held reads =
    let r = reached old mid a b object at text l.rows o held in
    let now = reads-at mid new b c at l.place.index l.place.form (Err fault) reads in
    let fails = fails-then old mid a b c (slot_of (shown_at old at) 0 ∷ []) fault o.reads now.0 in
    let why : FailsValue old a at text l.rows l.place.form (suc l.place.index) fault = record {
      mid = mid;
      heap = h;
      keeps = o.reads.keeps;
      grows = λ n it j. same-before mid a b o.reads.outside.contents n it (o.reads.grows n it j);
      class = class-grows (joint mid b) (joint mid a) (shown_at old at) text (same-before mid a b o.reads.outside.contents) o.fields.class;
      shape = o.fields.shape;
      why = elim (now.1) [
        | inl damaged ↦ inl (damage-at old mid at (suc l.place.index) l.place.form fault o.reads.keeps r.was r.same damaged)
        | inr touched ↦ inr (touched.0, fetch-fault old mid a b at (suc l.place.index) (slot_of (shown_at old at) 0 ∷ []) fault h r.held r.same o.reads touched.1)
      ];
    } in
    subst (λ (x : Option ℕ). GetsField old new a c x text l (Err (op.Swizzle fault))) (sym o.is) (fails, inr why)

-- The field was written.

pub near-kept : (old mid : Heap) (v : Value) → Keeps old mid → IsNear old v → IsNear mid v
near-kept old mid (Num z) keeps near = near
near-kept old mid (Truth b) keeps near = near
near-kept old mid (Ref None) keeps near = near
near-kept old mid (Ref (Some at)) keeps near = (keeps.objects at near).held

pub sets-value : (old mid new : Heap) (a b : Outside Space) (object : Option ℕ) (at : ℕ) (text : List ℕ) (l : Located) (v : Value)
    → IsHeap mid → IsOpened old mid a b object at text l.rows
    → new ≡ assigned_value mid at (l.place.index + 1) v → SetsField old new a b object text l v (Ok tt)
sets-value old mid new a b object at text l v h o written =
    subst (λ (x : Option ℕ). SetsField old new a b x text l v (Ok tt)) (sym o.is)
    (record { mid = mid; heap = h; fields = o.fields; reads = o.reads; written = written ∙ ap (λ (n : ℕ). assigned_value mid at n v) (add-one l.place.index) })

-- the shape is another than that of the class
pub opens-damaged : (old new : Heap) (a b : Outside Space) (object : Option ℕ) (at : ℕ) (text : List ℕ) (rows : Rows) (is : Bool) (fault : SwizzleFault)
    → object ≡ Some at → IfSome object (IsHeld old) → is ≡ true → TellsClass old new a b (Some at) text (Ok is)
    → NamesDamage new at (structure_damage (shown_at new at) rows) fault → OpensFields old new a b object text rows (Err (op.Swizzle fault))
opens-damaged old new a b object at text rows is fault e held answered told damaged =
    let t : TellsClass old new a b (Some at) text (Ok true) = subst (λ (x : Bool). TellsClass old new a b (Some at) text (Ok x)) answered told in
    let there : IsHeld old at = subst (λ (x : Option ℕ). IfSome x (IsHeld old)) e held in
    let stays = t.1.keeps.objects at there in
    let kept = damage-kept old new at (structure_damage (shown_at old at) rows) fault t.1.keeps there
    (subst (λ (it : Shown). NamesDamage new at (structure_damage it rows) fault) stays.shown_as damaged) in
    subst (λ (x : Option ℕ). OpensFields old new a b x text rows (Err (op.Swizzle fault))) (sym e)
    (fails-damage a b _ _ _ fault t.1.outside kept.2, inr (t.1.keeps, t.1.grows, t.0, kept))

-- no object was lost, unless the store refused one
pub opens-stands : (old new : Heap) (a b : Outside Space) (object : Option ℕ) (text : List ℕ) (rows : Rows) (fault : OpFault)
    → OpensFields old new a b object text rows (Err fault)
    → UnlessFault {T = Unit {0}} (Err fault) (Stands old new)
opens-stands old new a b None text rows (op.Trap t) o = stands-kept old new o.1.keeps
opens-stands old new a b (Some at) text rows (op.Trap t) o = stands-kept old new o.2.keeps
opens-stands old new a b None text rows (op.Swizzle fault) o = tt
opens-stands old new a b (Some at) text rows (op.Swizzle fault) o = tt

pub gets_stand : (old new : Heap) (a b : Outside Space) (object : Option ℕ) (text : List ℕ) (l : Located) (r : Result Value OpFault)
    → GetsField old new a b object text l r → UnlessFault r (Stands old new)
gets_stand old new a b None text l (Ok v) g = absurd g
gets_stand old new a b (Some at) text l (Ok v) g = stands-kept old new g.2.keeps
gets_stand old new a b None text l (Err (op.Trap t)) g = stands-kept old new g.1.keeps
gets_stand old new a b (Some at) text l (Err (op.Trap t)) g = stands-kept old new g.2.keeps
gets_stand old new a b object text l (Err (op.Swizzle fault)) g = tt

pub tells_stand : (old new : Heap) (a b : Outside Space) (object : Option ℕ) (text : List ℕ) (r : Result Bool SwizzleFault)
    → TellsClass old new a b object text r → OnOk r (Stands old new)
tells_stand old new a b None text (Ok is) g = stands-kept old new g.1.keeps
tells_stand old new a b (Some at) text (Ok true) g = stands-kept old new g.1.keeps
tells_stand old new a b (Some at) text (Ok false) g = stands-kept old new g.1.keeps
tells_stand old new a b object text (Err fault) g = tt
