-- The texts and the tables that an object refers to: how they are got, and why not. An object of `old` has the slot; what it refers to lies in the area `new`.
use Rattle.std.specs.Prelude.{◌≡◌, ◌≢◌, ◌⊎◌, ℕ, ◌<◌, ◌≤◌, Bool, List, length, Some}
use Rattle.joint_ops.specs.ps_outside.Outside.{Outside}
use Rattle.joint_ops.specs.obj_layout.Stored.{Space}
use Rattle.joint_ops.specs.obj_layout.Kind.{kind_number}
use Rattle.joint_ops.specs.obj_layout.declared.kind.Kind.{Kind}
use Rattle.joint_ops.specs.obj_layout.declared.kind.Kind.TheVariants.{Text}
use Rattle.joint_ops.specs.obj_layout.declared.reference.Reference.{Reference}
use Rattle.joint_ops.specs.obj_layout.declared.reference.Reference.TheVariants.{Nil}
use Rattle.joint_ops.specs.obj_layout.declared.vault.VaultFault.TheVariants.{Damaged}
use Rattle.joint_ops.specs.swizzle.declared.fault.SwizzleFault.{SwizzleFault}
use Rattle.joint_ops.specs.swizzle.declared.fault.SwizzleFault.TheVariants.{Vault}
use Rattle.joint_ops.specs.swizzle.Heap.{Heap, header_at}
use Rattle.joint_ops.specs.swizzle.Joint.{shown_at}
use Rattle.joint_ops.specs.swizzle.Text.{text_at}
use Rattle.joint_ops.specs.swizzle.Changes.{Within}
use Rattle.joint_ops.specs.swizzle.Touch.{Denotes, Keeps}
use Rattle.joint_ops.specs.swizzle.Reading.{joint, AreKnown, Reads}
use Rattle.joint_ops.specs.Seeing.{Gains, seen}
use Rattle.joint_ops.specs.heap_places.Shapes.{slot_of}
use Rattle.joint_ops.specs.heap_places.Places.{FailsFetch}
use Rattle.joint_ops.specs.ps_heap.Texts.{is_same_text}

-- what is read keeps the area's objects, and touches some names
pub record ReadsSome (old new : Heap) (before after : Outside Space) : Type 0 where
  pub names : List Reference
  pub reads : Reads old new before after names

-- where something is seen of each of these names, or they are nil, the area only gained objects
pub record GainsBy (old new : Heap) (before after : Outside Space) (names : List Reference) : Type 0 where
  pub gains : AreKnown (seen old before) names → Gains old new before after

-- this is the object that the slot refers to, and it is of this kind
pub record IsEntry (old new : Heap) (at slot : ℕ) (of : Kind) (to : ℕ) : Type 0 where
  pub denotes : Denotes new (Some to) (slot_of (shown_at old at) slot)
  pub kind : (header_at new to).kind ≡ of

-- It is a text of at least and at most so many bytes.
pub record IsTextEntry (old new : Heap) (at slot least most text : ℕ) : Type 0 where
  pub entry : IsEntry old new at slot Text text
  pub some : least ≤ length (text_at new text)
  pub few : length (text_at new text) ≤ most

-- The slot refers to a text of such a length, which has these bytes, or others.
pub record Compares (old new : Heap) (at slot least most : ℕ) (bytes : List ℕ) (same : Bool) : Type 0 where
  pub text : ℕ
  pub is : IsTextEntry old new at slot least most text
  pub same_is : same ≡ is_same_text (text_at new text) bytes

module _ (old new : Heap) (before after : Outside Space) (at slot : ℕ) where
  -- Another object than one of that kind stands there, or none: it is damaged, at its own PID, or at that of the object with the slot.
  abbrev pub NoEntry : Kind → SwizzleFault → Type 0
  NoEntry of fault =
      ((slot_of (shown_at old at) slot ≡ Nil) × (fault ≡ Vault (Damaged (header_at old at).pid 0 (kind_number of))))
      ⊎ ((other : ℕ) × Denotes new (Some other) (slot_of (shown_at old at) slot) × ((header_at new other).kind ≢ of)
      × Keeps old new × Within (joint old before) (joint new after)
      × (fault ≡ Vault (Damaged (header_at new other).pid (kind_number (header_at new other).kind) (kind_number of))))

  -- The object isn't got: there is none of that kind, or it couldn't be fetched.
  abbrev pub Misses : Kind → SwizzleFault → Type 0
  Misses of fault = NoEntry of fault ⊎ FailsFetch old before (slot_of (shown_at old at) slot) fault

  -- A text has too few bytes or too many: it is damaged, at its PID, with its length and the bound that it breaks.
  pub record HasWrongLength (least most : ℕ) (fault : SwizzleFault) : Type 0 where
    pub text : ℕ
    pub entry : IsEntry old new at slot Text text
    pub keeps : Keeps old new
    pub grows : Within (joint old before) (joint new after)
    pub why :
        ((length (text_at new text) < least) × (fault ≡ Vault (Damaged (header_at new text).pid (length (text_at new text)) least)))
        ⊎ ((most < length (text_at new text)) × (fault ≡ Vault (Damaged (header_at new text).pid (length (text_at new text)) most)))

  -- The text isn't got: it has a wrong length, or there is none, or it couldn't be fetched.
  abbrev pub MissesText : ℕ → ℕ → SwizzleFault → Type 0
  MissesText least most fault = HasWrongLength least most fault ⊎ Misses Text fault
