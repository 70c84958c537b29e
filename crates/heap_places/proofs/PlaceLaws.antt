-- Places of objects of the area, and touches for them.
use Rattle.std.proofs.Common.{Bool, ℤ, ◌^◌, ◌≡◌, ℕ, ◌<◌, [], ◌∷◌, length, Option, None, sym, ap, ◌∙◌, arith, subst}
use Rattle.std.specs.Prelude.{Ok}
use Rattle.heap_texts.specs.ps_outside.Outside.{Outside}
use Rattle.heap_texts.specs.obj_layout.Stored.{Space, Damage, damage}
use Rattle.heap_texts.specs.obj_layout.declared.vault.VaultFault.TheVariants.{Damaged, Device, Output, Full, NoPages}
use Rattle.heap_texts.specs.obj_layout.declared.reference.Reference.{Reference}
use Rattle.heap_texts.specs.text_forms.declared.forms.Form.{Form}
use Rattle.heap_texts.specs.text_forms.declared.forms.Form.TheVariants as form
use Rattle.heap_texts.specs.swizzle.declared.fault.SwizzleFault.{SwizzleFault}
use Rattle.heap_texts.specs.swizzle.declared.fault.SwizzleFault.TheVariants.{Vault}
use Rattle.heap_texts.specs.swizzle.Heap.{Heap, IsHeap, IsHeld, Stands, top_of, object_at, header_at, ref_at}
use Rattle.heap_texts.specs.swizzle.Joint.{shown_at, name_of}
use Rattle.heap_texts.specs.swizzle.Changes.{Touched}
use Rattle.heap_texts.specs.swizzle.Touch.{Denotes, Keeps, Only, IsNear, IsTouchCall}
use Rattle.heap_texts.specs.swizzle.Reading.{joint, Reads, LeavesOutside, FailsReading}
use Rattle.heap_texts.proofs.of_swizzle.NameLaws.{shown-counts, names_at}
use Rattle.heap_texts.proofs.of_swizzle.ReadingLaws.{reads-touch}
use Rattle.heap_places.specs.declared.value.Value.TheVariants.{Ref}
use Rattle.heap_places.specs.Words.{int_in, flag_in, word_damage, unless}
use Rattle.heap_places.specs.Shapes.{slot_of, word_in}
use Rattle.heap_places.specs.Places.{NamesDamage, ReadsPlace}

pub nums_below : (heap : Heap) (at index : ℕ) → IsHeap heap → IsHeld heap at → index < length (shown_at heap at).nums → index < (header_at heap at).nums
nums_below heap at index h held lt = omega (arith, lt, (shown-counts heap at h held).1)

pub refs_below : (heap : Heap) (at slot : ℕ) → IsHeap heap → IsHeld heap at → slot < length (shown_at heap at).refs → slot < (header_at heap at).refs
refs_below heap at slot h held lt = omega (arith, lt, (shown-counts heap at h held).0)

-- the name in a slot
pub slot-name : (heap : Heap) (at slot : ℕ) → slot_of (shown_at heap at) slot ≡ name_of heap (ref_at heap at slot)
slot-name heap at slot = names_at heap (object_at heap at).refs slot

-- A slot was touched.
pub reads-slot : (old new : Heap) (a b : Outside Space) (at slot : ℕ) (to : Option ℕ) → Keeps old new
    → Touched (joint old a) (joint new b) (name_of old (ref_at old at slot))
    → (IsNear old (name_of old (ref_at old at slot)) → top_of new ≡ top_of old) → Only old new (name_of old (ref_at old at slot)) → IsTouchCall old new a b (Ok to)
    → Reads old new a b (slot_of (shown_at old at) slot ∷ [])
reads-slot old new a b at slot to keeps touched near only call =
    subst (λ (name : Reference). Reads old new a b (name ∷ [])) (sym (slot-name old at slot))
    (reads-touch old new a b (name_of old (ref_at old at slot)) to keeps touched near only call)

pub denotes-slot : (old new : Heap) (at slot : ℕ) (to : Option ℕ) → Denotes new to (name_of old (ref_at old at slot))
    → Denotes new to (slot_of (shown_at old at) slot)
denotes-slot old new at slot to d = subst (Denotes new to) (sym (slot-name old at slot)) d

-- a place of references was read
pub reads-reference : (old new : Heap) (a b : Outside Space) (at index : ℕ) (f : Form) (to : Option ℕ) → f ≡ form.Reference
    → Denotes new to (name_of old (ref_at old at index)) → Keeps old new → Touched (joint old a) (joint new b) (name_of old (ref_at old at index))
    → (IsNear old (name_of old (ref_at old at index)) → top_of new ≡ top_of old) → Only old new (name_of old (ref_at old at index)) → IsTouchCall old new a b (Ok to)
    → ReadsPlace old new a b at f index (Ok (Ref to))
reads-reference old new a b at index f to e denotes keeps touched near only call =
    subst (λ (g : Form). ReadsPlace old new a b at g index (Ok (Ref to))) (sym e)
    (denotes-slot old new at index to denotes, reads-slot old new a b at index to keeps touched near only call)

-- The damage that is named.

pub names-damage : (heap : Heap) (at : ℕ) (damaged : Option Damage) (found wanted : ℕ) (fault : SwizzleFault) → damaged ≡ damage found wanted
    → fault ≡ Vault (Damaged (header_at heap at).pid found wanted) → NamesDamage heap at damaged fault
names-damage heap at damaged found wanted fault is named = (record { found = found; wanted = wanted }, is, named)

pub names-int : (heap : Heap) (at index word : ℕ) (fault : SwizzleFault) → word ≡ word_in (shown_at heap at) index → int_in word ≡ None
    → fault ≡ Vault (Damaged (header_at heap at).pid word (2 ^ 31))
    → NamesDamage heap at (word_damage form.Number (word_in (shown_at heap at) index)) fault
unfolding word_damage
names-int heap at index word fault is none named =
    names-damage heap at (word_damage form.Number (word_in (shown_at heap at) index)) word (2 ^ 31) fault
    (ap (word_damage form.Number) (sym is) ∙ ap (λ (o : Option ℤ). unless o (damage word (2 ^ 31))) none) named

pub names-flag : (heap : Heap) (at index word : ℕ) (fault : SwizzleFault) → word ≡ word_in (shown_at heap at) index → flag_in word ≡ None
    → fault ≡ Vault (Damaged (header_at heap at).pid word 2)
    → NamesDamage heap at (word_damage form.Flag (word_in (shown_at heap at) index)) fault
unfolding word_damage
names-flag heap at index word fault is none named =
    names-damage heap at (word_damage form.Flag (word_in (shown_at heap at) index)) word 2 fault
    (ap (word_damage form.Flag) (sym is) ∙ ap (λ (o : Option Bool). unless o (damage word 2)) none) named

-- a damaged object is no failure of the store
pub fails-damage : (a b : Outside Space) (at found wanted : ℕ) (fault : SwizzleFault) → LeavesOutside a b → fault ≡ Vault (Damaged at found wanted)
    → FailsReading a b fault
fails-damage a b at found wanted fault leaves e = record {
  outside = leaves;
  cause = λ device. let no : Vault (Damaged at found wanted) ≡ Vault Device = sym e ∙ device in absurd (cc);
  other = λ output. let no : Vault (Damaged at found wanted) ≡ Vault Output = sym e ∙ output in cc;
  full = λ used most capacity full. let no : Vault (Damaged at found wanted) ≡ Vault (Full used most capacity) = sym e ∙ full in cc;
  pages = λ held lacked all full. let no : Vault (Damaged at found wanted) ≡ Vault (NoPages held lacked all) = sym e ∙ full in cc;
}

-- objects that stand twice
pub stands_then : (a b c : Heap) → Stands a b → Stands b c → Stands a c
stands_then a b c first second at held =
    let s = first at held in
    let t = second at s.held in
    record { held = t.held; kind = t.kind ∙ s.kind; refs = t.refs ∙ s.refs; nums = t.nums ∙ s.nums; bytes = t.bytes ∙ s.bytes; pid = t.pid ∙ s.pid }
