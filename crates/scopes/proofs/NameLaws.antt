-- The place of a name of a scope, and what is read and written there.
use Rattle.std.proofs.Common.{inl, inr, ◌≡◌, ◌≢◌, ℕ, ◌+◌, ◌<◌, ◌^◌, List, [], ◌∷◌, length, Bool, true, false, nat_eq, Option, Some, None, sym, ap, ◌∙◌, arith, subst, if◌then◌else◌}
use Rattle.std.specs.Prelude.{Result, Ok, Err, OnOk}
use Rattle.closures.specs.ps_outside.Outside.{Outside}
use Rattle.closures.specs.obj_layout.Kind.{kind_number}
use Rattle.closures.specs.obj_layout.Stored.{Space, Damage, damage}
use Rattle.closures.specs.obj_layout.declared.kind.Kind.TheVariants.{Text, Scope}
use Rattle.closures.specs.obj_layout.declared.reference.Reference as reference
use Rattle.closures.specs.obj_layout.declared.vault.VaultFault.TheVariants.{Damaged}
use Rattle.closures.specs.swizzle.declared.fault.SwizzleFault.{SwizzleFault}
use Rattle.closures.specs.swizzle.declared.fault.SwizzleFault.TheVariants.{Vault}
use Rattle.closures.specs.swizzle.Heap.{Heap, IsHeap, IsHeld, object_at, header_at}
use Rattle.closures.specs.swizzle.Joint.{Shown, shown_at}
use Rattle.closures.specs.swizzle.Changes.{Within}
use Rattle.closures.specs.swizzle.Text.{text_at}
use Rattle.closures.specs.swizzle.Touch.{Keeps}
use Rattle.closures.specs.swizzle.Reading.{joint, Reads, TextsStay}
use Rattle.closures.proofs.of_swizzle.ObjectLaws.{split}
use Rattle.closures.proofs.of_swizzle.KeptLaws.{held_is}
use Rattle.closures.proofs.of_swizzle.NameLaws.{shown-counts}
use Rattle.closures.proofs.of_swizzle.ReadingLaws.{reads-then, leaves-none, fails-then, texts-kept}
use Rattle.closures.specs.text_forms.declared.forms.Form.{Form}
use Rattle.closures.specs.text_forms.declared.forms.Form.TheVariants as form
use Rattle.closures.specs.text_forms.declared.forms.Rows.{Rows}
use Rattle.closures.specs.text_forms.declared.forms.Located.{Located}
use Rattle.closures.specs.text_forms.Forms.{forms_of, rows_of, located_in, count_in}
use Rattle.closures.proofs.of_text_forms.Places.{place-within, counted}
use Rattle.closures.specs.heap_places.declared.value.Value.{Value}
use Rattle.closures.specs.heap_places.declared.value.Value.TheVariants.{Num, Flag, Ref}
use Rattle.closures.specs.heap_places.Shapes.{slot_of}
use Rattle.closures.specs.heap_places.Places.{FirstText, HasPlace, HasRow, Holds, NamesDamage, ReadsPlace, assigned_value, fit_damage, touched_by}
use Rattle.closures.proofs.of_heap_places.PlaceLaws.{names-damage, fails-damage}
use Rattle.closures.proofs.of_heap_places.TouchedLaws.{kinds-same, text-seen}
use Rattle.heap_ops.specs.declared.layouts.Entry.{Entry}
use Rattle.heap_ops.specs.Layouts.{AreSo}
use Rattle.heap_ops.specs.Vectors.{fitted}
use Rattle.heap_ops.proofs.ClassLaws.{damage-kept, text-grows, same-before}
use Rattle.heap_ops.proofs.FieldLaws.{damage-at, fetch-fault}
use Rattle.heap_ops.proofs.LayoutLaws.{stay_so}
use Rattle.closures.proofs.ShapeLaws.{HasShape, shaped}
use Rattle.scopes.specs.Names.{kind_damage, scope_damage, damage_by, name_damage, index_of, HasName, GetsKept, SetsKept}
use Rattle.scopes.specs.inside.Opening.{IsOpened, OpensName}
use Rattle.scopes.proofs.TextLaws.{texts-assigned}

-- The place of a name lies in the scope.

row-place : (it : Shown) (f : Form) (index : ℕ) (rows : Rows) → index < count_in f rows → HasShape it (2 + rows.refs) (1 + rows.nums)
    → HasPlace it f (index_of (record { form = f; index = index }))
row-place it form.Number index rows below s = omega (arith, below, s.nums_are)
row-place it form.Flag index rows below s = omega (arith, below, s.nums_are)
row-place it form.Reference index rows below s = omega (arith, below, s.refs_are)

place-in : (it : Shown) (text : List ℕ) (name : ℕ) (l : Located) → located_in (forms_of text) name ≡ Some l → scope_damage it l.rows ≡ None
    → HasPlace it l.place.form (index_of l.place)
place-in it text name l is shape =
    row-place it l.place.form l.place.index l.rows (place-within (forms_of text) name l is).index
    (shaped it Scope (2 + l.rows.refs) (1 + l.rows.nums) shape)

-- equal values that some hold
some_is : {v w : Value} → Some v ≡ Some w → v ≡ w
some_is e = cc

-- a value that a place of a form holds belongs into the row of that place
fitted-row : (it : Shown) (f : Form) (index : ℕ) (v w : Value) → fitted f v ≡ Some w → HasPlace it f index → HasRow it index w
unfolding fitted
fitted-row it form.Number index (Num z) w e h = subst (HasRow it index) (some_is e) h
fitted-row it form.Number index (Flag b) w e h = subst (HasRow it index) (some_is e) h
fitted-row it form.Number index (Ref to) w e h = absurd (cc)
fitted-row it form.Flag index (Num z) w e h = subst (HasRow it index) (some_is e) h
fitted-row it form.Flag index (Flag b) w e h = subst (HasRow it index) (some_is e) h
fitted-row it form.Flag index (Ref to) w e h = absurd (cc)
fitted-row it form.Reference index (Num z) w e h = absurd (cc)
fitted-row it form.Reference index (Flag b) w e h = absurd (cc)
fitted-row it form.Reference index (Ref to) w e h = subst (HasRow it index) (some_is e) h

count-below : (f : Form) (rows : Rows) (index : ℕ) → index < count_in f rows → index < rows.refs + rows.nums
count-below form.Number rows index below = omega (arith, below)
count-below form.Flag rows index below = omega (arith, below)
count-below form.Reference rows index below = omega (arith, below)

index-in : (heap : Heap) (at index : ℕ) (f : Form) (rows : Rows) → IsHeap heap → IsHeld heap at
    → HasShape (shown_at heap at) (2 + rows.refs) (1 + rows.nums) → index < count_in f rows → index + 2 < 2 ^ 32
index-in heap at index f rows h held s below =
    let fit = (split 1 heap.objects at (object_at heap at) h.fit (held_is heap at held)).fit in
    let counts = shown-counts heap at h held in
    omega (arith, fit.lengths.words, counts.0, counts.1, s.refs_are, s.nums_are, count-below f rows index below)

-- A scope that was opened.

was-shown : (old mid : Heap) (a b : Outside Space) (at name : ℕ) (l : Located) → IsHeld old at → IsOpened old mid a b at name l
    → shown_at mid at ≡ shown_at old at
was-shown old mid a b at name l held o = (o.reads.keeps.objects at held).shown_as

pub index-fits : (old mid : Heap) (a b : Outside Space) (at name : ℕ) (l : Located) → IsHeap mid → IsHeld old at → IsOpened old mid a b at name l
    → l.place.index + 2 < 2 ^ 32
index-fits old mid a b at name l h held o =
    let s = shaped (shown_at old at) Scope (2 + l.rows.refs) (1 + l.rows.nums) o.is.shape in
    index-in mid at l.place.index l.place.form l.rows h (o.reads.keeps.objects at held).held
    (subst (λ (it : Shown). HasShape it (2 + l.rows.refs) (1 + l.rows.nums)) (sym (was-shown old mid a b at name l held o)) s)
    (place-within (forms_of o.text) name l o.is.place).index

pub place-there : (old mid : Heap) (a b : Outside Space) (at name : ℕ) (l : Located) → IsHeld old at → IsOpened old mid a b at name l
    → HasPlace (shown_at mid at) l.place.form (index_of l.place)
place-there old mid a b at name l held o =
    subst (λ (it : Shown). HasPlace it l.place.form (index_of l.place)) (sym (was-shown old mid a b at name l held o))
    (place-in (shown_at old at) o.text name l o.is.place o.is.shape)

pub row-there : (old mid : Heap) (a b : Outside Space) (at name : ℕ) (l : Located) (v w : Value) → IsHeld old at → IsOpened old mid a b at name l
    → fitted l.place.form v ≡ Some w → HasRow (shown_at mid at) (index_of l.place) w
row-there old mid a b at name l v w held o fits =
    fitted-row (shown_at mid at) l.place.form (index_of l.place) v w fits (place-there old mid a b at name l held o)

has-grows : (seen now : reference.Reference → Shown → Type 0) (it : Shown) (text : List ℕ) (name : ℕ) (l : Located) → Within seen now
    → HasName seen it text name l → HasName now it text name l
has-grows seen now it text name l grows n =
    record { kind = n.kind; names = text-grows seen now (slot_of it 0) text grows n.names; place = n.place; shape = n.shape }

pub gets : (old mid new : Heap) (a b c : Outside Space) (at name : ℕ) (l : Located) (r : Result Value SwizzleFault) → IsHeap mid → IsHeld old at
    → IsOpened old mid a b at name l → ReadsPlace mid new b c at l.place.form (index_of l.place) r → GetsKept old new a c at name r
gets old mid new a b c at name l (Ok v) h held o read =
    let f = l.place.form in
    let k = index_of l.place in
    let same = was-shown old mid a b at name l held o in
    let seen : Holds new (shown_at old at) f k v × Reads mid new b c (touched_by (shown_at old at) f k) =
    subst (λ (it : Shown). Holds new it f k v × Reads mid new b c (touched_by it f k)) same read in
    record {
      text = o.text;
      located = l;
      is = has-grows (joint mid b) (joint new c) (shown_at old at) o.text name l seen.1.grows o.is;
      value = seen.0;
      reads = reads-then old mid new a b c (slot_of (shown_at old at) 0 ∷ []) (touched_by (shown_at old at) f k) o.reads seen.1;
    }
gets old mid new a b c at name l (Err fault) h held o read =
    let k = index_of l.place in
    let names = slot_of (shown_at old at) 0 ∷ [] in
    let stays = o.reads.keeps.objects at held in (
      fails-then old mid a b c names fault o.reads read.0,
      inr (record {
        mid = mid;
        text = o.text;
        located = l;
        heap = h;
        keeps = o.reads.keeps;
        grows = λ n it seen. same-before mid a b o.reads.outside.contents n it (o.reads.grows n it seen);
        is = has-grows (joint mid b) (joint mid a) (shown_at old at) o.text name l (same-before mid a b o.reads.outside.contents) o.is;
        why = elim (read.1) [
          | inl damaged ↦ inl (damage-at old mid at k l.place.form fault o.reads.keeps held stays.shown_as damaged)
          | inr touched ↦ inr (touched.0, fetch-fault old mid a b at k names fault h stays.held stays.shown_as o.reads touched.1)
        ];
      }),
    )

-- What was looked up stays so.

pub so-kept : (old new : Heap) (entries : List Entry) → Keeps old new → AreSo old entries → AreSo new entries
so-kept old new entries keeps so = stay_so old new entries so (texts-kept old new keeps)

pub so-read : (mid new : Heap) (b c : Outside Space) (at index : ℕ) (f : Form) (r : Result Value SwizzleFault) (entries : List Entry)
    → ReadsPlace mid new b c at f index r → AreSo mid entries → OnOk r (AreSo new entries)
so-read mid new b c at index f (Ok v) entries read so = so-kept mid new entries read.1.keeps so
so-read mid new b c at index f (Err fault) entries read so = tt

no-text : (old mid : Heap) (a b : Outside Space) (at name : ℕ) (l : Located) → IsHeld old at → IsOpened old mid a b at name l
    → (header_at mid at).kind ≢ Text
no-text old mid a b at name l held o is =
    let kind : Scope ≡ Text = sym o.is.kind ∙ ap (λ (it : Shown). it.kind) (sym (was-shown old mid a b at name l held o)) ∙ is in cc

pub so-written : (old mid new : Heap) (a b : Outside Space) (at name index : ℕ) (l : Located) (v : Value) (entries : List Entry) → IsHeld old at
    → IsOpened old mid a b at name l → AreSo mid entries → new ≡ assigned_value mid at index v → AreSo new entries
so-written old mid new a b at name index l v entries held o so written =
    let there = (o.reads.keeps.objects at held).held in
    stay_so mid new entries so (subst (TextsStay mid) (sym written) (texts-assigned mid at index v there (no-text old mid a b at name l held o)))

-- A value is written.

pub refuses : (old mid : Heap) (a b : Outside Space) (at name : ℕ) (l : Located) (v : Value) (fault : SwizzleFault) → IsHeld old at
    → IsOpened old mid a b at name l → fitted l.place.form v ≡ None → NamesDamage mid at (fit_damage l.place.form v) fault
    → SetsKept old mid a b at name v (Err fault)
refuses old mid a b at name l v fault held o none names =
    let kept = damage-kept old mid at (fit_damage l.place.form v) fault o.reads.keeps held names in (
      fails-damage a b _ _ _ fault o.reads.outside kept.2,
      inr (record { text = o.text; located = l; keeps = o.reads.keeps; grows = o.reads.grows; is = o.is; misfit = none; names = kept }),
    )

-- The name is looked for.

pub opens-other : (heap : Heap) (a : Outside Space) (at name : ℕ) (fault : SwizzleFault) → nat_eq (kind_number (header_at heap at).kind) 4 ≡ false
    → fault ≡ Vault (Damaged (header_at heap at).pid (kind_number (header_at heap at).kind) 4) → OpensName heap heap a a at name (Err fault)
opens-other heap a at name fault other named = (
  fails-damage a a _ _ _ fault (leaves-none a) named,
  inl (names-damage heap at (kind_damage (shown_at heap at)) (kind_number (header_at heap at).kind) 4 fault
      (ap (λ (x : Bool). if x then None else damage (kind_number (header_at heap at).kind) 4) other) named),
)

name-damaged : (old new : Heap) (a b : Outside Space) (at text name : ℕ) (fault : SwizzleFault) → IsHeld old at
    → nat_eq (kind_number (header_at old at).kind) 4 ≡ true → FirstText old new a b at text
    → NamesDamage new at (name_damage (shown_at new at) (forms_of (text_at new text)) name) fault → OpensName old new a b at name (Err fault)
name-damaged old new a b at text name fault held same first names =
    let shown_as = (first.reads.keeps.objects at held).shown_as in
    let now = subst (λ (it : Shown). NamesDamage new at (name_damage it (forms_of (text_at new text)) name) fault) shown_as names in
    let kept = damage-kept old new at (name_damage (shown_at old at) (forms_of (text_at new text)) name) fault first.reads.keeps held now in (
      fails-damage a b _ _ _ fault first.reads.outside kept.2,
      inr (inr (kinds-same (header_at old at).kind Scope same, first.reads.keeps, first.reads.grows, (text_at new text, text-seen old new a b at text first, kept))),
    )

pub opens-none : (old new : Heap) (a b : Outside Space) (at text name : ℕ) (fault : SwizzleFault) → IsHeld old at
    → nat_eq (kind_number (header_at old at).kind) 4 ≡ true → FirstText old new a b at text → located_in (forms_of (text_at new text)) name ≡ None
    → fault ≡ Vault (Damaged (header_at new at).pid name (length (forms_of (text_at new text)))) → OpensName old new a b at name (Err fault)
unfolding name_damage
opens-none old new a b at text name fault held same first none named =
    name-damaged old new a b at text name fault held same first
    (names-damage new at (name_damage (shown_at new at) (forms_of (text_at new text)) name) name (length (forms_of (text_at new text))) fault
    (ap (damage_by (shown_at new at) name (length (forms_of (text_at new text)))) none) named)

pub opens-misshapen : (old new : Heap) (a b : Outside Space) (at text name : ℕ) (l : Located) (fault : SwizzleFault) → IsHeld old at
    → nat_eq (kind_number (header_at old at).kind) 4 ≡ true → FirstText old new a b at text
    → located_in (forms_of (text_at new text)) name ≡ Some l → NamesDamage new at (scope_damage (shown_at new at) l.rows) fault
    → OpensName old new a b at name (Err fault)
unfolding name_damage
opens-misshapen old new a b at text name l fault held same first some names =
    name-damaged old new a b at text name fault held same first
    (subst (λ (d : Option Damage). NamesDamage new at d fault)
    (sym (ap (damage_by (shown_at new at) name (length (forms_of (text_at new text)))) some)) names)

pub opens : (old new : Heap) (a b : Outside Space) (at text name : ℕ) (l : Located) → IsHeld old at
    → nat_eq (kind_number (header_at old at).kind) 4 ≡ true → FirstText old new a b at text
    → located_in (forms_of (text_at new text)) name ≡ Some l → scope_damage (shown_at new at) l.rows ≡ None → OpensName old new a b at name (Ok l)
opens old new a b at text name l held same first some none =
    let shown_as = (first.reads.keeps.objects at held).shown_as in
    record {
      text = text_at new text;
      is = record {
        kind = kinds-same (header_at old at).kind Scope same;
        names = text-seen old new a b at text first;
        place = some;
        shape = ap (λ (it : Shown). scope_damage it l.rows) (sym shown_as) ∙ none;
      };
      reads = first.reads;
    }

-- how many names a text has
pub names-counted : (text : List ℕ) (rows : Rows) → rows ≡ rows_of (forms_of text) → rows.refs + rows.nums ≡ length (forms_of text)
names-counted text rows is = ap (λ (r : Rows). r.refs + r.nums) is ∙ sym (counted (forms_of text))
