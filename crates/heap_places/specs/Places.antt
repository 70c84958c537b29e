-- Values in places: what is read of a place, what is written to it, and why a reading fails.
use Rattle.std.specs.Prelude.{◌≡◌, ◌≢◌, ◌⊎◌, ℕ, ◌+◌, ◌<◌, ◌≤◌, List, [], ◌∷◌, length, Option, Some, None, Result, Ok, Err}
use Rattle.heap_texts.specs.ps_outside.Outside.{Outside}
use Rattle.heap_texts.specs.obj_layout.Kind.{kind_number}
use Rattle.heap_texts.specs.obj_layout.Stored.{Space, Damage, damage}
use Rattle.heap_texts.specs.obj_layout.Stored.{Holds as Stored}
use Rattle.heap_texts.specs.obj_layout.declared.kind.Kind.TheVariants.{Text}
use Rattle.heap_texts.specs.obj_layout.declared.reference.Reference.{Reference}
use Rattle.heap_texts.specs.obj_layout.declared.reference.Reference.TheVariants.{Nil, Pid}
use Rattle.heap_texts.specs.obj_layout.declared.vault.VaultFault.TheVariants.{Damaged}
use Rattle.heap_texts.specs.text_forms.declared.forms.Form.{Form}
use Rattle.heap_texts.specs.text_forms.declared.forms.Form.TheVariants as form
use Rattle.heap_texts.specs.swizzle.declared.fault.SwizzleFault.{SwizzleFault}
use Rattle.heap_texts.specs.swizzle.declared.fault.SwizzleFault.TheVariants.{AreaFull, Vault}
use Rattle.heap_texts.specs.swizzle.Heap.{Heap, IsHeld, top_of, local_of, header_at, ref_at, with_num, with_ref, with_mark, reference_to}
use Rattle.heap_texts.specs.swizzle.Joint.{Shown, shown_at}
use Rattle.heap_texts.specs.swizzle.Touch.{Denotes, Keeps, IsTouchFault}
use Rattle.heap_texts.specs.swizzle.Changes.{Within}
use Rattle.heap_texts.specs.swizzle.Damaged.{PassesVault, ReportsDamage}
use Rattle.heap_texts.specs.swizzle.Reading.{joint, Reads, FailsReading}
use Rattle.heap_places.specs.declared.places.Misfit.{Misfit}
use Rattle.heap_places.specs.declared.value.Value.{Value}
use Rattle.heap_places.specs.declared.value.Value.TheVariants.{Num, Flag, Ref}
use Rattle.heap_places.specs.Words.{int_word, int_in, flag_word, flag_in, word_damage}
use Rattle.heap_places.specs.Shapes.{slot_of, word_in}

-- A place lies at an index of its row: of the references of the object, or of its number words.

-- what is seen of the object has such a place
abbrev pub HasPlace : Shown → Form → ℕ → Type 0
HasPlace it form.Reference index = index < length it.refs
HasPlace it _ index = index < length it.nums

-- this value is what the place holds, in an area where its object lies
abbrev pub Holds : Heap → Shown → Form → ℕ → Value → Type 0
Holds heap it form.Number index (Num z) = int_in (word_in it index) ≡ Some z
Holds heap it form.Flag index (Flag b) = flag_in (word_in it index) ≡ Some b
Holds heap it form.Reference index (Ref to) = Denotes heap to (slot_of it index)
Holds heap it _ index _ = ⊥

-- the object of a value lies in the area
abbrev pub IsNear : Heap → Value → Type 0
IsNear heap (Ref (Some at)) = IsHeld heap at
IsNear heap _ = Unit {0}

-- what is seen of the object has a place in the value's row
abbrev pub HasRow : Shown → ℕ → Value → Type 0
HasRow it index (Ref to) = index < length it.refs
HasRow it index _ = index < length it.nums

-- Why a value can't stand in a place of a form: it belongs into the other row, or its word is none of the form. An int that is 0 or 1 may
-- stand for a bool, and a bool for an int.
unfoldable pub fit_damage : Form → Value → Option Damage
fit_damage form.Reference (Ref to) = None
fit_damage form.Reference _ = damage 0 1
fit_damage _ (Ref to) = damage 1 0
fit_damage f (Num z) = word_damage f (int_word z)
fit_damage f (Flag b) = word_damage f (flag_word b)

-- the heap with a value in a place of an object
abbrev pub with_value : Heap → ℕ → ℕ → Value → Heap
with_value heap at index (Num z) = with_num heap at index (int_word z)
with_value heap at index (Flag b) = with_num heap at index (flag_word b)
with_value heap at index (Ref to) = with_ref heap at index (reference_to to)

-- and the object noted as assigned
abbrev pub assigned_value : Heap → ℕ → ℕ → Value → Heap
assigned_value heap at index v = with_mark (with_value heap at index v) at

-- the name that is touched where the place is read
abbrev pub touched_by : Shown → Form → ℕ → List Reference
touched_by it form.Reference index = slot_of it index ∷ []
touched_by it _ index = []

-- the fault names the object as damaged so
abbrev pub NamesDamage : Heap → ℕ → Option Damage → SwizzleFault → Type 0
NamesDamage heap at damaged fault = (d : Damage) × (damaged ≡ Some d) × (fault ≡ Vault (Damaged (header_at heap at).pid d.found d.wanted))

-- Why the object of a name couldn't be fetched, after others may have come: it is stored, passes the store's tests, and there was no room for
-- it; or the store refused it or gave no object, and the numbers are those of the first test that failed.
abbrev pub FailsFetch : Heap → Outside Space → Reference → SwizzleFault → Type 0
FailsFetch old before name (AreaFull top wanted size) =
    (top_of old ≤ top) × (size ≡ old.size) × (size < top + wanted)
    × ((pid : ℕ) × (name ≡ Pid pid) × (local_of old pid ≡ None) × PassesVault before pid
    × ((words : List ℕ) → Stored before pid words → length words ≡ wanted))
FailsFetch old before name (Vault refused) =
    (pid : ℕ) × (name ≡ Pid pid) × (local_of old pid ≡ None) × ReportsDamage before pid refused

-- A place was read, or its object couldn't be fetched, or its word stands for no value of the form.
abbrev pub ReadsPlace : Heap → Heap → Outside Space → Outside Space → ℕ → Form → ℕ → Result Value SwizzleFault → Type 0
ReadsPlace old new before after at f index (Ok v) =
    Holds new (shown_at old at) f index v × Reads old new before after (touched_by (shown_at old at) f index)
ReadsPlace old new before after at f index (Err fault) =
    FailsReading before after fault
    × (NamesDamage old at (word_damage f (word_in (shown_at old at) index)) fault
    ⊎ ((f ≡ form.Reference) × IsTouchFault old before (ref_at old at index) fault))

-- The text that an object refers to first was touched: this is it; or the object refers to none, or to what is no text.
pub record FirstText (old new : Heap) (before after : Outside Space) (at text : ℕ) : Type 0 where
  pub held : IsHeld new text
  pub kind : (header_at new text).kind ≡ Text
  pub denotes : Denotes new (Some text) (slot_of (shown_at old at) 0)
  pub reads : Reads old new before after (slot_of (shown_at old at) 0 ∷ [])

-- what stands in the place of a text
abbrev pub NoText : Heap → Heap → Outside Space → Outside Space → ℕ → SwizzleFault → Type 0
NoText old new before after at fault =
    ((slot_of (shown_at old at) 0 ≡ Nil) × (fault ≡ Vault (Damaged (header_at old at).pid 0 1)))
    ⊎ ((other : ℕ) × Denotes new (Some other) (slot_of (shown_at old at) 0) × ((header_at new other).kind ≢ Text)
    × Keeps old new × Within (joint old before) (joint new after) × (fault ≡ Vault (Damaged (header_at new other).pid (kind_number (header_at new other).kind) 1)))

abbrev pub TouchesText : Heap → Heap → Outside Space → Outside Space → ℕ → Result ℕ SwizzleFault → Type 0
TouchesText old new before after at (Ok text) = FirstText old new before after at text
TouchesText old new before after at (Err fault) =
    FailsReading before after fault × (NoText old new before after at fault ⊎ IsTouchFault old before (ref_at old at 0) fault)

-- what a test in code found, as damage
abbrev pub misfit_view : Option Misfit → Option Damage
misfit_view None = None
misfit_view (Some misfit) = damage misfit.found misfit.wanted
