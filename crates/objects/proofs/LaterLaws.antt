-- Operations that go on after the text of a class was fetched.
use Rattle.std.proofs.Common.{inl, inr, ◌≡◌, ℕ, List, [], sym, ap, ◌∙◌, subst, Option, Some, None, IfSome}
use Rattle.std.specs.Prelude.{Result, Ok, Err}
use Rattle.ps_base.specs.CodeUnit.{ConstantsView, unit, text}
use Rattle.ps_base.specs.declared.code_unit.Frame.{Frame}
use Rattle.joint_ops.specs.ps_outside.Outside.{Outside}
use Rattle.joint_ops.specs.obj_layout.Stored.{Space}
use Rattle.joint_ops.specs.obj_layout.declared.reference.Reference.{Reference}
use Rattle.joint_ops.specs.swizzle.declared.fault.SwizzleFault.{SwizzleFault}
use Rattle.joint_ops.specs.swizzle.Heap as area
use Rattle.joint_ops.specs.swizzle.Heap.{IsHeap, IsHeld, Stands as AllStand}
use Rattle.joint_ops.proofs.of_heap_ops.ClassLaws.{stands-kept}
use Rattle.joint_ops.proofs.of_heap_places.PlaceLaws.{stands_then}
use Rattle.joint_ops.specs.swizzle.Text.{text_at}
use Rattle.joint_ops.specs.swizzle.Reading.{LeavesOutside, FailsReading}
use Rattle.joint_ops.specs.swizzle.Touch.{Keeps}
use Rattle.joint_ops.proofs.of_swizzle.ReadingLaws.{leaves-then}
use Rattle.joint_ops.proofs.of_swizzle.TouchLaws.{keeps-trans, rose_more}
use Rattle.joint_ops.specs.text_forms.declared.forms.Located.{Located}
use Rattle.joint_ops.specs.text_forms.Forms.{forms_of, located_in}
use Rattle.joint_ops.specs.heap_texts.declared.fault.OpFault.{OpFault}
use Rattle.joint_ops.specs.heap_texts.declared.fault.OpFault.TheVariants as op
use Rattle.joint_ops.specs.heap_ops.Outcomes.{UnlessFault}
use Rattle.joint_ops.specs.proc_values.Loaded.{constant_numbered}
use Rattle.joint_ops.specs.ps_heap.Texts.{Attempt}
use Rattle.joint_ops.specs.heap_places.declared.value.Value as held
use Rattle.joint_ops.specs.ps_heap.Objects.{Heap, field_of, id_of, with_field, kept_as}
use Rattle.joint_ops.specs.ps_heap.Values.{Value, Text}
use Rattle.joint_ops.specs.World.{IsWorld, DenotesIn, IsForIn, IsOfForm, IsUnitIn, Stands, Answers, Writes, BreaksOff, BreaksAsReading}
use Rattle.joint_ops.specs.Code.{StandsBy}
use Rattle.joint_ops.proofs.SeenLaws.{breaks-earlier, text-denoted}
use Rattle.joint_ops.proofs.RewriteLaws.{stands-then, rewritten-then, for-carried}
use Rattle.objects.specs.Lasting.{Lasts, UnlessBroken}
use Rattle.objects.specs.Classes.{AnswersClass, NamesClass, LacksField}
use Rattle.objects.specs.Putting.{IsOfRow, kept_in, LacksPlace}
use Rattle.objects.proofs.LastingLaws.{keeps-lasts}
use Rattle.objects.proofs.PuttingLaws.{kept-for}

-- What was answered after a reading was answered from before it.
module _ (old mid new : area.Heap) (start before after : Outside Space) (of : Heap) (names : List Reference) (h : IsHeap mid) (keeps : Keeps old mid)
    (leaves : LeavesOutside start before) (s : Stands old mid start before of names) where
  pub answers-later : {A T : Type 0} (is : T → A → Type 0) (attempt : Attempt A) (result : Result T OpFault)
      → Answers mid new before after is of names attempt result → Answers old new start after is of names attempt result
  answers-later is attempt (Ok given) a = (a.0, a.1, a.2, stands-then old mid new start before after of of names s (a.3))
  answers-later is attempt (Err (op.Trap t)) a = (a.0, stands-then old mid new start before after of of names s (a.1))
  answers-later is attempt (Err (op.Swizzle fault)) a = breaks-earlier old mid new start before after fault h keeps leaves a

  pub writes-later : (operand : Value) (attempt : Attempt Heap) (result : Result (Unit {0}) OpFault) → Writes mid new before after operand of names attempt result
      → Writes old new start after operand of names attempt result
  writes-later operand attempt (Ok done) a = (a.0, a.1, rewritten-then old mid new start before after (id_of operand) of (a.0) names s (a.2))
  writes-later operand attempt (Err (op.Trap t)) a = (a.0, stands-then old mid new start before after of of names s (a.1))
  writes-later operand attempt (Err (op.Swizzle fault)) a = breaks-earlier old mid new start before after fault h keeps leaves a

-- The same whatever the vault.

pub keeps-later : {T : Type 0} (old mid new : area.Heap) (result : Result T OpFault) → Keeps old mid → UnlessFault result (Keeps mid new)
    → UnlessFault result (Keeps old new)
keeps-later old mid new (Ok given) first then = keeps-trans old mid new first then
keeps-later old mid new (Err (op.Trap t)) first then = keeps-trans old mid new first then
keeps-later old mid new (Err (op.Swizzle fault)) first then = tt

pub fails-later : (start before after : Outside Space) (fault : SwizzleFault) → LeavesOutside start before → FailsReading before after fault
    → FailsReading start after fault
fails-later start before after fault leaves f = record {
  outside = leaves-then start before after leaves f.outside;
  cause = λ e. rose_more start.device_faults before.device_faults after.device_faults leaves.counts (f.cause e);
  other = f.other;
  full = f.full;
  pages = f.pages;
}

pub breaks-later : {T : Type 0} (start before after : Outside Space) (result : Result T OpFault) → LeavesOutside start before
    → BreaksAsReading before after result → BreaksAsReading start after result
breaks-later start before after (Ok given) leaves b = tt
breaks-later start before after (Err (op.Trap t)) leaves b = tt
breaks-later start before after (Err (op.Swizzle fault)) leaves b = fails-later start before after fault leaves b

-- What a field that is written was, whatever the residence of its object and of its class.
abbrev pub SetsAll : area.Heap → area.Heap → Outside Space → Outside Space → ℕ → ℕ → ℕ → Option ℕ → held.Value → Result (Unit {0}) OpFault → Type 0
SetsAll old new before after code constant field object to result =
    (of : Heap) (names : List Reference) (class : List ℕ) (l : Located) (o v : Value) → IsWorld old before of names
    → NamesClass old before code constant class → located_in (forms_of class) field ≡ Some l → IsOfRow l.place.form to
    → DenotesIn old before names object o → IsForIn old before names to v
    → Writes old new before after o of names (with_field of o class field (kept_as (Some l.place.form) v)) result

pub held-later : (old new : area.Heap) (object : Option ℕ) → Keeps old new → IfSome object (IsHeld old) → IfSome object (IsHeld new)
held-later old new None keeps is = tt
held-later old new (Some at) keeps is = (keeps.objects at is).held

pub stands-later : {T : Type 0} (old mid new : area.Heap) (result : Result T OpFault) → Keeps old mid → UnlessFault result (AllStand mid new)
    → UnlessFault result (AllStand old new)
stands-later old mid new (Ok given) keeps then = stands_then old mid new (stands-kept old mid keeps) then
stands-later old mid new (Err (op.Trap t)) keeps then = stands_then old mid new (stands-kept old mid keeps) then
stands-later old mid new (Err (op.Swizzle fault)) keeps then = tt

-- The text of a class was got.

pub record IsGot (here : area.Heap) (outside : Outside Space) (class : List ℕ) (at : ℕ) : Type 0 where
  pub bytes : text_at here at ≡ class
  pub denotes : (names : List Reference) → DenotesIn here outside names (Some at) (Text class)

module _ (old new : area.Heap) (before after : Outside Space) (code constant : ℕ) where
  pub got-named : (row : ConstantsView) (class : List ℕ) (at : ℕ) → IsHeap new → constant_numbered row constant ≡ Some (text class)
      → AnswersClass old new before after code row constant (Ok at) → IsGot new after class at
  got-named row class at now is a =
      let both : Some (text (a.0)) ≡ Some (text class) = sym (a.1) ∙ is in
      let same : a.0 ≡ class = cc in
      let denotes : (names : List Reference) → DenotesIn new after names (Some at) (Text class) =
      λ names. subst (λ (x : List ℕ). DenotesIn new after names (Some at) (Text x)) same (a.2 names) in
      record { bytes = (text-denoted new after [] at class now (denotes [])).bytes_are; denotes = denotes }

  -- It broke off, where the unit has the class,
  pub failed-named : (row : ConstantsView) (class : List ℕ) (fault : SwizzleFault) → constant_numbered row constant ≡ Some (text class)
      → AnswersClass old new before after code row constant (Err fault) → BreaksOff old new before after fault
  failed-named row class fault is (inl a) = absurd (a.0 class is)
  failed-named row class fault is (inr b) = b

-- and the place that was found there is that of the class.

module _ (old mid new : area.Heap) (start before after : Outside Space) (code constant field at : ℕ) (object : Option ℕ) (found : Located) (h : IsHeap mid)
    (keeps : Keeps old mid) (leaves : LeavesOutside start before)
    (world : StandsBy old mid start before code)
    (given : (bytes : List ℕ) (row : ConstantsView) (frame : Frame) → IsUnitIn old start code (unit bytes row frame)
    → AnswersClass old mid start before code row constant (Ok at))
    (place : Some found ≡ located_in (forms_of (text_at mid at)) field) where
  class-of : (class : List ℕ) → NamesClass old start code constant class → IsGot mid before class at
  class-of class n = got-named old mid start before code constant n.row class at h n.class_is (given n.bytes n.row n.frame n.unit_is)

  found-is : (class : List ℕ) → NamesClass old start code constant class → located_in (forms_of class) field ≡ Some found
  found-is class n = ap (λ (x : List ℕ). located_in (forms_of x) field) (sym (class-of class n).bytes) ∙ sym place

  found-one : (class : List ℕ) (l : Located) → NamesClass old start code constant class → located_in (forms_of class) field ≡ Some l → found ≡ l
  found-one class l n is =
      let both : Some found ≡ Some l = sym (found-is class n) ∙ is in
      let same : found ≡ l = cc in
      same

  -- A field was read.

  abbrev Gives : Heap → List Reference → Located → Attempt Value → Result held.Value OpFault → area.Heap → Outside Space → Type 0
  Gives of names l attempt result from outside = Answers from new outside after (λ c v. IsOfForm l.place.form c × IsForIn new after names c v) of names attempt result

  pub field-answered : (result : Result held.Value OpFault)
      → ((of : Heap) (names : List Reference) (text : List ℕ) (n : ℕ) (o : Value) → IsWorld mid before of names → DenotesIn mid before names (Some at) (Text text)
      → DenotesIn mid before names object o → located_in (forms_of text) n ≡ Some found → Gives of names found (field_of of o text n) result mid before)
      → (of : Heap) (names : List Reference) (class : List ℕ) (l : Located) (o : Value) → IsWorld old start of names → NamesClass old start code constant class
      → located_in (forms_of class) field ≡ Some l → DenotesIn old start names object o → Gives of names l (field_of of o class field) result old start
  field-answered result got of names class l o w n is d =
      let s = world (unit n.bytes n.row n.frame) n.unit_is of names w in
      answers-later old mid new start before after of names h keeps leaves s (λ c v. IsOfForm l.place.form c × IsForIn new after names c v)
      (field_of of o class field) result
      (subst (λ (k : Located). Gives of names k (field_of of o class field) result mid before) (found-one class l n is)
      (got of names class field o s.world ((class-of class n).denotes names) (s.carries.values object o d) (found-is class n)))

  -- It isn't one that the unit lacks.
  pub found-lacks : LacksField old start code constant field → ⊥
  found-lacks lacks =
      let a = given lacks.bytes lacks.row lacks.frame lacks.unit_is in
      let g = got-named old mid start before code constant lacks.row (a.0) at h (a.1) a in
      lacks.none (a.0) found (a.1) (ap (λ (x : List ℕ). located_in (forms_of x) field) (sym g.bytes) ∙ sym place)

  -- A field was written.

  pub field-written : (to value : held.Value) (result : Result (Unit {0}) OpFault) → IsOfRow found.place.form to → value ≡ kept_in found.place.form to
      → ((of : Heap) (names : List Reference) (text : List ℕ) (n : ℕ) (o v : Value) → IsWorld mid before of names → DenotesIn mid before names (Some at) (Text text)
      → DenotesIn mid before names object o → located_in (forms_of text) n ≡ Some found → IsForIn mid before names value v
      → Writes mid new before after o of names (with_field of o text n v) result)
      → SetsAll old new start after code constant field object to result
  field-written to value result row is_kept set of names class l o v w n is of_row d for =
      let s = world (unit n.bytes n.row n.frame) n.unit_is of names w in
      let f = found.place.form in
      let there : IsForIn mid before names value (kept_as (Some f) v) =
      subst (λ (x : held.Value). IsForIn mid before names x (kept_as (Some f) v)) (sym is_kept)
      (kept-for mid before names f to v row (for-carried old mid start before names names to v s.carries for)) in
      subst (λ (k : Located). Writes old new start after o of names (with_field of o class field (kept_as (Some k.place.form) v)) result) (found-one class l n is)
      (writes-later old mid new start before after of names h keeps leaves s o (with_field of o class field (kept_as (Some f) v)) result
      (set of names class field o (kept_as (Some f) v) s.world ((class-of class n).denotes names) (s.carries.values object o d) (found-is class n) there))

  pub found-lacks-place : (to : held.Value) → IsOfRow found.place.form to → LacksPlace old start code constant field to → ⊥
  found-lacks-place to row lacks =
      let a = given lacks.bytes lacks.row lacks.frame lacks.unit_is in
      let g = got-named old mid start before code constant lacks.row (a.0) at h (a.1) a in
      lacks.none (a.0) found (a.1) (ap (λ (x : List ℕ). located_in (forms_of x) field) (sym g.bytes) ∙ sym place) row

  pub found-other : (to : held.Value) (class : List ℕ) (l : Located) → (IsOfRow found.place.form to → ⊥) → NamesClass old start code constant class
      → located_in (forms_of class) field ≡ Some l → IsOfRow l.place.form to → ⊥
  found-other to class l other n is row = other (subst (λ (k : Located). IsOfRow k.place.form to) (sym (found-one class l n is)) row)

-- No place was found of a field that the class has.
pub none-found : (old mid : area.Heap) (start before : Outside Space) (code constant field at : ℕ) → IsHeap mid
    → ((bytes : List ℕ) (row : ConstantsView) (frame : Frame) → IsUnitIn old start code (unit bytes row frame)
    → AnswersClass old mid start before code row constant (Ok at))
    → (class : List ℕ) (l : Located) → NamesClass old start code constant class → located_in (forms_of class) field ≡ Some l
    → located_in (forms_of (text_at mid at)) field ≡ None → ⊥
none-found old mid start before code constant field at h given class l n is none =
    let g = got-named old mid start before code constant n.row class at h n.class_is (given n.bytes n.row n.frame n.unit_is) in
    let bad : None ≡ Some l = sym none ∙ ap (λ (x : List ℕ). located_in (forms_of x) field) g.bytes ∙ is in
    absurd (cc)

-- What was looked up stays so, unless the operation broke off.
pub unless-broken : (T : Type 0) (old new : area.Heap) (fault : OpFault) → UnlessFault {T = T} (Err fault) (Keeps old new) → UnlessBroken fault (Lasts old new)
unless-broken T old new (op.Trap t) keeps = keeps-lasts old new keeps
unless-broken T old new (op.Swizzle fault) keeps = tt
