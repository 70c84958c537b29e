-- The class of an object, its shape, and what stays of both.
use Rattle.std.proofs.Common.{inl, inr, ◌≡◌, ◌≢◌, ℕ, ◌+◌, List, [], ◌∷◌, length, Bool, true, false, nat_eq, Option, Some, None, refl, sym, ap, ◌∙◌, arith, subst}
use Rattle.std.specs.Prelude.{Ok, Err}
use Rattle.std.proofs.lemmas.Bool.{cases_eq}
use Rattle.std.proofs.lemmas.Grind.{common_steps}
use Rattle.heap_places.specs.ps_outside.Outside.{Outside, SameContents}
use Rattle.heap_places.specs.obj_layout.Stored.{Space, Damage, damage}
use Rattle.heap_places.specs.obj_layout.Kind.{kind_number}
use Rattle.heap_places.specs.obj_layout.declared.kind.Kind.TheVariants.{Text, Structure}
use Rattle.heap_places.specs.obj_layout.declared.header.Header.{Header}
use Rattle.heap_places.specs.obj_layout.declared.reference.Reference.{Reference}
use Rattle.heap_places.specs.obj_layout.declared.reference.Reference.TheVariants as reference
use Rattle.heap_places.specs.obj_layout.declared.vault.VaultFault.TheVariants.{Damaged}
use Rattle.heap_places.specs.swizzle.declared.fault.SwizzleFault.{SwizzleFault}
use Rattle.heap_places.specs.swizzle.declared.fault.SwizzleFault.TheVariants.{Vault}
use Rattle.heap_places.specs.swizzle.Heap.{Heap, IsHeap, IsHeld, Stands, header_at}
use Rattle.heap_places.specs.swizzle.Joint.{Shown, shown_at, name_by}
use Rattle.heap_places.specs.swizzle.Changes.{Within}
use Rattle.heap_places.specs.swizzle.Text.{text_at}
use Rattle.heap_places.specs.swizzle.Touch.{Keeps}
use Rattle.heap_places.specs.swizzle.Reading.{joint}
use Rattle.heap_places.proofs.of_swizzle.NameLaws.{shown-counts, name-pid, name-none}
use Rattle.heap_places.proofs.of_swizzle.ReadingLaws.{reads-none, texts-kept}
use Rattle.heap_places.specs.text_forms.declared.forms.Rows.{Rows}
use Rattle.heap_places.specs.Shapes.{slot_of, IsText, shape_damage}
use Rattle.heap_places.specs.Places.{FirstText, NamesDamage, TouchesText}
use Rattle.heap_places.proofs.PlaceLaws.{names-damage}
use Rattle.heap_places.proofs.TouchedLaws.{kinds-differ, text-seen}
use Rattle.heap_ops.specs.Structures.{IsOfClass, TellsClass, structure_damage}

-- An object that stays keeps its PID.

pid-by : (h g : Header) (at : ℕ) → name_by h at ≡ name_by g at → h.pid ≡ g.pid
pid-by h g at e =
    elim (cases_eq h.pid 0) [
      | inl none ↦ elim (cases_eq g.pid 0) [
        | inl same ↦ none ∙ sym same
        | inr some ↦ let no : reference.Local at ≡ reference.Pid g.pid = sym (name-none h at none) ∙ e ∙ name-pid g at (omega arith) in absurd (cc)
      ]
      | inr some ↦ elim (cases_eq g.pid 0) [
        | inl none ↦ let no : reference.Pid h.pid ≡ reference.Local at = sym (name-pid h at (omega arith)) ∙ e ∙ name-none g at none in absurd (cc)
        | inr both ↦ let same : reference.Pid h.pid ≡ reference.Pid g.pid = sym (name-pid h at (omega arith)) ∙ e ∙ name-pid g at (omega arith) in cc
      ]
    ]

pub pid-kept : (old new : Heap) (at : ℕ) → Keeps old new → IsHeld old at → (header_at new at).pid ≡ (header_at old at).pid
pid-kept old new at keeps held = pid-by (header_at new at) (header_at old at) at ((keeps.objects at held).name)

-- what stays as it was seen stands
pub stands-kept : (old new : Heap) → Keeps old new → Stands old new
stands-kept old new keeps at held =
    let s = keeps.objects at held in
    record {
      held = s.held;
      kind = ap (λ (it : Shown). it.kind) s.shown_as;
      refs = s.refs;
      nums = s.nums;
      bytes = ap (λ (it : Shown). it.bytes) s.shown_as;
      pid = pid-kept old new at keeps held;
    }

-- damage of an object that stayed is the damage that it had
pub damage-kept : (old new : Heap) (at : ℕ) (damaged : Option Damage) (fault : SwizzleFault) → Keeps old new → IsHeld old at
    → NamesDamage new at damaged fault → NamesDamage old at damaged fault
damage-kept old new at damaged fault keeps held names =
    (names.0, names.1, names.2 ∙ ap (λ (n : ℕ). Vault (Damaged n names.0.found names.0.wanted)) (pid-kept old new at keeps held))

-- a text is still one in a map that has grown
pub text-grows : (seen now : Reference → Shown → Type 0) (name : Reference) (bytes : List ℕ) → Within seen now → IsText seen name bytes → IsText now name bytes
text-grows seen now name bytes grows t = record { it = t.it; there = grows name t.it t.there; kind = t.kind; bytes_are = t.bytes_are }

pub class-grows : (seen now : Reference → Shown → Type 0) (it : Shown) (bytes : List ℕ) → Within seen now → IsOfClass seen it bytes → IsOfClass now it bytes
class-grows seen now it bytes grows c = record { kind = c.kind; class = text-grows seen now (slot_of it 0) bytes grows c.class }

-- What was touched tells the class.

pub tells-none : (heap : Heap) (outside : Outside Space) (at : ℕ) (text : List ℕ) → nat_eq (kind_number (header_at heap at).kind) 2 ≡ false
    → TellsClass heap heap outside outside (Some at) text (Ok false)
tells-none heap outside at text differ = (
  inl (kinds-differ (header_at heap at).kind Structure differ),
  reads-none heap outside
      (slot_of (shown_at heap at) 0 ∷ []),
)

pub tells-compared : (old new : Heap) (a b : Outside Space) (at text class : ℕ) (same : Bool) → (header_at old at).kind ≡ Structure
    → FirstText old new a b at text → IsHeld old class → (header_at old class).kind ≡ Text
    → (same ≡ true → text_at new text ≡ text_at new class) → (same ≡ false → text_at new text ≢ text_at new class)
    → TellsClass old new a b (Some at) (text_at old class) (Ok same)
tells-compared old new a b at text class true kind f held is equal apart =
    let stays = (texts-kept old new f.reads.keeps class held is).bytes in
    (record { kind = kind; class = subst (IsText (joint new b) (slot_of (shown_at old at) 0)) (equal refl ∙ stays) (text-seen old new a b at text f) }, f.reads)
tells-compared old new a b at text class false kind f held is equal apart =
    let stays = (texts-kept old new f.reads.keeps class held is).bytes in
    (inr (text_at new text, text-seen old new a b at text f, λ e. apart refl (e ∙ sym stays)), f.reads)

pub tells-fault : (old new : Heap) (a b : Outside Space) (at : ℕ) (text : List ℕ) (fault : SwizzleFault) → (header_at old at).kind ≡ Structure
    → TouchesText old new a b at (Err fault) → TellsClass old new a b (Some at) text (Err fault)
tells-fault old new a b at text fault kind t = (t.0, (kind, t.1))

-- The shape.

shape-refs : (it : Shown) (rows : Rows) → it.kind ≡ Structure → length it.refs ≢ 1 + rows.refs
    → structure_damage it rows ≡ damage (length it.refs) (1 + rows.refs)
unfolding shape_damage
shape-refs it rows kind apart = let k = ap kind_number kind in grind (arith, common_steps)

shape-nums : (it : Shown) (rows : Rows) → it.kind ≡ Structure → length it.refs ≡ 1 + rows.refs → length it.nums ≢ 1 + rows.nums
    → structure_damage it rows ≡ damage (length it.nums) (1 + rows.nums)
unfolding shape_damage
shape-nums it rows kind same apart = let k = ap kind_number kind in grind (arith, common_steps)

shape-none : (it : Shown) (rows : Rows) → it.kind ≡ Structure → length it.refs ≡ 1 + rows.refs → length it.nums ≡ 1 + rows.nums
    → structure_damage it rows ≡ None
unfolding shape_damage
shape-none it rows kind same equal = let k = ap kind_number kind in grind (arith, common_steps)

-- its parts, where it has no damage
pub record HasShape (it : Shown) (rows : Rows) : Type 0 where
  pub refs : length it.refs ≡ 1 + rows.refs
  pub nums : length it.nums ≡ 1 + rows.nums

pub shaped : (it : Shown) (rows : Rows) → it.kind ≡ Structure → structure_damage it rows ≡ None → HasShape it rows
shaped it rows kind none =
    elim (cases_eq (length it.refs) (1 + rows.refs)) [
      | inl same ↦ elim (cases_eq (length it.nums) (1 + rows.nums)) [
        | inl equal ↦ record { refs = same; nums = equal }
        | inr apart ↦ let no = sym (shape-nums it rows kind same apart) ∙ none in absurd (cc)
      ]
      | inr apart ↦ let no = sym (shape-refs it rows kind apart) ∙ none in absurd (cc)
    ]

pub refs-damaged : (heap : Heap) (at refs wanted : ℕ) (rows : Rows) (fault : SwizzleFault) → IsHeap heap → IsHeld heap at
    → (header_at heap at).kind ≡ Structure → refs ≡ (header_at heap at).refs → wanted ≡ 1 + rows.refs → refs ≢ wanted
    → fault ≡ Vault (Damaged (header_at heap at).pid refs wanted) → NamesDamage heap at (structure_damage (shown_at heap at) rows) fault
refs-damaged heap at refs wanted rows fault h held kind is wants apart named =
    let count : length (shown_at heap at).refs ≡ refs = (shown-counts heap at h held).0 ∙ sym is in
    let found = shape-refs (shown_at heap at) rows kind (λ e. apart (sym count ∙ e ∙ sym wants)) in
    names-damage heap at (structure_damage (shown_at heap at) rows) refs wanted fault
    (found ∙ ap (λ (n : ℕ). damage n (1 + rows.refs)) count ∙ ap (damage refs) (sym wants)) named

pub nums-damaged : (heap : Heap) (at refs nums wanted : ℕ) (rows : Rows) (fault : SwizzleFault) → IsHeap heap → IsHeld heap at
    → (header_at heap at).kind ≡ Structure → refs ≡ (header_at heap at).refs → refs ≡ 1 + rows.refs
    → nums ≡ (header_at heap at).nums → wanted ≡ 1 + rows.nums → nums ≢ wanted → fault ≡ Vault (Damaged (header_at heap at).pid nums wanted)
    → NamesDamage heap at (structure_damage (shown_at heap at) rows) fault
nums-damaged heap at refs nums wanted rows fault h held kind is same numbered wants apart named =
    let counts = shown-counts heap at h held in
    let count : length (shown_at heap at).nums ≡ nums = counts.1 ∙ sym numbered in
    let found = shape-nums (shown_at heap at) rows kind (counts.0 ∙ sym is ∙ same) (λ e. apart (sym count ∙ e ∙ sym wants)) in
    names-damage heap at (structure_damage (shown_at heap at) rows) nums wanted fault
    (found ∙ ap (λ (n : ℕ). damage n (1 + rows.nums)) count ∙ ap (damage nums) (sym wants)) named

pub not-damaged : (heap : Heap) (at : ℕ) (rows : Rows) → IsHeap heap → IsHeld heap at → (header_at heap at).kind ≡ Structure
    → (header_at heap at).refs ≡ 1 + rows.refs → (header_at heap at).nums ≡ 1 + rows.nums
    → structure_damage (shown_at heap at) rows ≡ None
not-damaged heap at rows h held kind refs nums =
    let counts = shown-counts heap at h held in
    shape-none (shown_at heap at) rows kind (counts.0 ∙ refs) (counts.1 ∙ nums)

-- what is held stays, so what was seen is seen with the store as it was before
pub same-before : (mid : Heap) (a b : Outside Space) → SameContents a b → Within (joint mid b) (joint mid a)
same-before mid a b same n it (inl there) = inl there
same-before mid a b same n it (inr v) = inr (record { pid = v.pid; words = v.words; name_is = v.name_is; there = record { space = v.there.space; is = same.no_other v.there.space v.there.is; has = v.there.has }; away = v.away; shown_is = v.shown_is })
