-- Fields that are read of what was popped.
use Rattle.std.proofs.Common.{◌≡◌, inl, inr, ℕ, List, Option, Some, refl, sym, ap, ◌∙◌, subst}
use Rattle.std.specs.Prelude.{Result, Ok, Err}
use Rattle.ps_base.specs.declared.line.Line.{Line}
use Rattle.ps_base.specs.declared.trap.Trap.{Trap}
use Rattle.machine_core.specs.ps_outside.Outside.{Outside}
use Rattle.machine_core.specs.obj_layout.Stored.{Space}
use Rattle.machine_core.specs.obj_layout.declared.reference.Reference.{Reference}
use Rattle.machine_core.specs.swizzle.Heap as area
use Rattle.machine_core.specs.swizzle.Reading.{LeavesOutside}
use Rattle.machine_core.specs.swizzle.Touch.{Keeps}
use Rattle.machine_core.specs.swizzle.declared.fault.SwizzleFault.{SwizzleFault}
use Rattle.machine_core.proofs.of_heap_ops.ClassLaws.{stands-kept}
use Rattle.machine_core.specs.text_forms.declared.forms.Form.{Form}
use Rattle.machine_core.specs.text_forms.declared.forms.Located.{Located}
use Rattle.machine_core.specs.text_forms.Forms.{forms_of, form_in, located_in}
use Rattle.machine_core.specs.heap_ops.Outcomes.{UnlessFault}
use Rattle.machine_core.specs.heap_places.declared.value.Value as code
use Rattle.machine_core.specs.heap_texts.declared.fault.OpFault.{OpFault}
use Rattle.machine_core.specs.heap_texts.declared.fault.OpFault.TheVariants as op
use Rattle.machine_core.specs.ps_heap.Ends.{Trapped}
use Rattle.machine_core.specs.ps_heap.Objects.{Heap, field_of}
use Rattle.machine_core.specs.ps_heap.Texts.{Attempt, Yields}
use Rattle.machine_core.specs.ps_heap.Values.{Value, Num, Flag, Text, Nil, Pointer, Vector, Procedure, Nothing}
use Rattle.machine_core.specs.ps_stepping.Config.{Config, constants_in, constant_at}
use Rattle.machine_core.specs.ps_stepping.Steps.{Step, Stops, attempted, pop_ref, text_in}
use Rattle.machine_core.specs.ps_stepping.Objects.{object_of, pop_object}
use Rattle.machine_core.specs.joint_ops.World.{Answers, DenotesIn, IsForIn, IsOfForm, IsUnitIn, IsWorld}
use Rattle.machine_core.specs.objects.Classes.{BreaksByCode, LacksField, NamesClass}
use Rattle.machine_core.specs.declared.machine.Machine.{Machine}
use Rattle.machine_core.specs.declared.stepped.Stepped.{Stepped}
use Rattle.machine_core.specs.declared.stepped.Stepped.TheVariants.{Breaks}
use Rattle.machine_core.specs.Holding.{HeldBy, HeldIn, world_in}
use Rattle.machine_core.specs.Stepped.{Does, Takes}
use Rattle.machine_core.specs.inside.Taking.{Leaves}
use Rattle.machine_core.proofs.Carrying.{does-behind, size-behind}
use Rattle.machine_operands.specs.Giving.{BreaksWith, EndsSoundly}
use Rattle.machine_operands.specs.Popping.{PopsAny}
use Rattle.machine_operands.proofs.Parts.{after-trap, broken-after, does-earlier, ends-after}
use Rattle.machine_structures.specs.declared.traps.Row.{Row}
use Rattle.machine_structures.specs.inside.Fields.{TrapsAt, trap_at, when_in_row}
use Rattle.machine_structures.proofs.ClassFields.{HasField, field-follows, field-or-none, lacks-field, names-class, no-field}

-- What has a field is a structure.

pub read-object : (heap : Heap) (v : Value) (class : List ℕ) (n : ℕ) (w : Value) → field_of heap v class n ≡ Yields w
    → (c : Config) (next : Value → Config → Step) → object_of v c next ≡ next v c
unfolding field_of
read-object heap Nil class n w is c next = refl
read-object heap (Pointer id) class n w is c next = refl
read-object heap (Num z) class n w is c next = absurd (cc)
read-object heap (Flag b) class n w is c next = absurd (cc)
read-object heap (Text b) class n w is c next = absurd (cc)
read-object heap (Vector id) class n w is c next = absurd (cc)
read-object heap (Procedure does scope) class n w is c next = absurd (cc)
read-object heap Nothing class n w is c next = absurd (cc)

-- what follows nil or a structure goes by what it does with that
pub object-same : (v : Value) (c : Config) (f g : Value → Config → Step) → f v c ≡ g v c → object_of v c f ≡ object_of v c g
object-same Nil c f g is = is
object-same (Pointer id) c f g is = is
object-same (Num z) c f g is = refl
object-same (Flag b) c f g is = refl
object-same (Text b) c f g is = refl
object-same (Vector id) c f g is = refl
object-same (Procedure does scope) c f g is = refl
object-same Nothing c f g is = refl

-- the step that reads a field, which is pushed
abbrev pub reads_field : Row → (Value → Config → Step) → ℕ → ℕ → Line → Config → Step
reads_field row push k n line c =
    text_in (constant_at (constants_in c.unit) k) (λ class. when_in_row row (form_in (forms_of class) n)
    (pop_object c (λ v d. attempted line (field_of d.store.held.objects v class n) (λ w. push w d))))

module _ (row : Row) (push : Value → Config → Step) (k n : ℕ) (line : Line) where
  abbrev gets : Config → List ℕ → Option Form → Step
  gets c class g = pop_object c (λ v d. attempted line (field_of d.store.held.objects v class n) (λ w. push w d))

  module _ (before after : Outside Space) (old mid : Machine) (now : area.Heap) (left : Leaves old mid) (object : Option ℕ)
      (pops : PopsAny before old mid (Some object)) where
    -- the read is what the meaning's is, where there is such a field, and finds the code damaged where there is none
    abbrev pub Got : Result code.Value OpFault → Type 0
    Got got = (of : Heap) (names : List Reference) (class : List ℕ) (l : Located) (o : Value) → IsWorld mid.objects before of names
        → NamesClass mid.objects before old.code k class → located_in (forms_of class) n ≡ Some l → DenotesIn mid.objects before names object o
        → Answers mid.objects now before after (λ c v. IsOfForm l.place.form c × IsForIn now after names c v) of names (field_of of o class n) got

    abbrev pub Lacked : Result code.Value OpFault → Type 0
    Lacked got = LacksField mid.objects before old.code k n → BreaksByCode mid.objects now before after old.code got

    module _ (names : List Reference) (c : Config) (h : HeldBy before names old c) where
      code-there : IsUnitIn mid.objects before old.code c.unit
      code-there = subst (λ (here : area.Heap). IsUnitIn here before old.code c.unit) (sym left.objects) h.unit_is

      abbrev next : List ℕ → Value → Config → Step
      next class v d = attempted line (field_of d.store.held.objects v class n) (λ w. push w d)

      -- the step, where there is such a field
      found : (f : HasField c.unit k n) (v : Value) (d : Config) → ((next : Value → Config → Step) → pop_ref c next ≡ next v d)
          → reads_field row push k n line c ≡ when_in_row row (Some f.located.place.form) (object_of v d (next f.named.class))
      found f v d pop =
          field-follows c.unit k n row (gets c) f
          ∙ ap (λ (s : Step). when_in_row row (Some f.located.place.form) s) (pop (λ v d. object_of v d (next f.named.class)))

      -- where there is no such field
      lacking : (f : HasField c.unit k n → ⊥) → LacksField mid.objects before old.code k n
      lacking none = lacks-field mid.objects before old.code k n c.unit code-there none

      got-there : (got : Result code.Value OpFault) → Got got → (f : HasField c.unit k n)
          → Answers mid.objects now before after (λ c v. IsOfForm f.located.place.form c × IsForIn now after names c v) (pops.gives names c h).0.store.held.objects
          names
          (field_of (pops.gives names c h).0.store.held.objects (pops.gives names c h).1 f.named.class n) got
      got-there got clause f =
          let p = pops.gives names c h in
          clause p.0.store.held.objects names f.named.class f.located p.1 (world_in p.3.run) (names-class mid.objects before old.code k c.unit code-there f.named) f.place p.4

      value-read : (value : code.Value) (new : Machine) (r : Stepped) → Got (Ok value) → Lacked (Ok value)
          → ((c : Config) (f : Form) (attempt : Attempt Value) → HeldIn mid.objects before names (record mid { objects = now }) c
          → Answers mid.objects now before after (λ k v. IsOfForm f k × IsForIn now after names k v) c.store.held.objects names attempt (Ok value)
          → Does before after mid.objects.size (attempted line attempt (λ w. when_in_row row (Some f) (push w c))) r new)
          → Does before after mid.objects.size (reads_field row push k n line c) r new
      value-read value new r got lacked does = elim (field-or-none c.unit k n) [
        | inl f ↦
            let p = pops.gives names c h in
            let d = p.0 in
            let v = p.1 in
            let class = f.named.class in
            let g = f.located.place.form in
            let a = got-there (Ok value) got f in
            let same : reads_field row push k n line c ≡ attempted line (field_of d.store.held.objects v class n) (λ w. when_in_row row (Some g) (push w d)) =
            found f v d p.2
            ∙ ap (λ (s : Step). when_in_row row (Some g) s) (read-object d.store.held.objects v class n a.0 a.1 d (next class))
            ∙ ap (λ (x : Attempt Value). when_in_row row (Some g) (attempted line x (λ w. push w d))) a.1
            ∙ sym (ap (λ (x : Attempt Value). attempted line x (λ w. when_in_row row (Some g) (push w d))) a.1) in
            subst (λ (s : Step). Does before after mid.objects.size s r new) (sym same) (does d g (field_of d.store.held.objects v class n) p.3 a)
        | inr none ↦ absurd (lacked (lacking none))
      ]

      read-broken : (fault : SwizzleFault) (new : Machine) (r : Stepped) → Got (Err (op.Swizzle fault)) → Lacked (Err (op.Swizzle fault))
          → BreaksWith before after (record mid { objects = now }) new r fault → Does before after mid.objects.size (reads_field row push k n line c) r new
      read-broken fault new r got lacked breaks = elim (field-or-none c.unit k n) [
        | inl f ↦ breaks.off mid.objects (reads_field row push k n line c) (got-there (Err (op.Swizzle fault)) got f)
        | inr none ↦
            elim (lacked (lacking none)) [
              | inl is ↦ breaks.damaged mid.objects old.code (reads_field row push k n line c) (no-field c.unit k n row (gets c) none) is
              | inr off ↦ breaks.off mid.objects (reads_field row push k n line c) off
            ]
      ]

      -- the operation's trap, told by whether the instruction has it
      trap-read : (last : Outside Space) (t : Trap) (new : Machine) (r : Stepped) → Got (Err (op.Trap t)) → Lacked (Err (op.Trap t))
          → LeavesOutside before after
          → now.size ≡ mid.objects.size → TrapsAt after last (record { code = old.code; constant = k; number = n }) row object t line
          (record mid { objects = now }) new r
          → Does before last mid.objects.size (reads_field row push k n line c) r new
      trap-read last t new r got lacked leaves size traps = elim (field-or-none c.unit k n) [
        | inl f ↦
            let p = pops.gives names c h in
            let d = p.0 in
            let v = p.1 in
            let class = f.named.class in
            let g = f.located.place.form in
            let a = got-there (Err (op.Trap t)) got f in
            let s = when_in_row row (Some g) (trap_at v t line d) in
            let same : reads_field row push k n line c ≡ s =
            found f v d p.2
            ∙ ap (λ (s : Step). when_in_row row (Some g) s)
            (object-same v d (next class) (λ o e. Stops (Trapped t line) 0) (ap (λ (x : Attempt Value). attempted line x (λ w. push w d)) a.0)) in
            let there = names-class now after old.code k c.unit (a.1.carries.units old.code c.unit code-there) f.named in
            subst (λ (x : Step). Does before last mid.objects.size x r new) (sym same)
            (does-behind before after last mid.objects.size now.size s r new leaves size
            (traps.does names d v class f.located there f.place (a.1.carries.values object v p.4)))
        | inr none ↦ absurd (lacked (lacking none))
      ]

    pub value-takes : (value : code.Value) (lies : code.Value → Type 0) (new : Machine) (r : Stepped) → Got (Ok value) → Lacked (Ok value)
        → Keeps mid.objects now → lies value → EndsSoundly (Ok value) lies (record mid { objects = now }) new r
        → ((names : List Reference) (c : Config) (f : Form) (attempt : Attempt Value) → HeldIn mid.objects before names (record mid { objects = now }) c
        → Answers mid.objects now before after (λ k v. IsOfForm f k × IsForIn now after names k v) c.store.held.objects names attempt (Ok value)
        → Does before after mid.objects.size (attempted line attempt (λ w. when_in_row row (Some f) (push w c))) r new)
        → Takes before after (reads_field row push k n line) old new r
    value-takes value lies new r got lacked keeps lie ends does =
        ends-after before after (reads_field row push k n line) old mid left (Ok value) lies now new r ends (stands-kept mid.objects now keeps) keeps.size lie
        (λ names c h. value-read names c h value new r got lacked (does names))

    pub broken-takes : (got : Result code.Value OpFault) (fault : SwizzleFault) (new : Machine) (r : Stepped) → got ≡ Err (op.Swizzle fault) → Got got
        → Lacked got
        → r ≡ Breaks → BreaksWith before after (record mid { objects = now }) new r fault → Takes before after (reads_field row push k n line) old new r
    broken-takes got fault new r is clause lacked answer breaks =
        broken-after before after (reads_field row push k n line) old mid left new r breaks.sound answer
        (λ names c h. read-broken names c h fault new r (subst Got is clause) (subst Lacked is lacked) breaks)

    pub trap-takes : (last : Outside Space) (got : Result code.Value OpFault) (t : Trap) (new : Machine) (r : Stepped) → got ≡ Err (op.Trap t) → Got got
        → Lacked got
        → LeavesOutside before after → UnlessFault got (Keeps mid.objects now)
        → TrapsAt after last (record { code = old.code; constant = k; number = n }) row object t line (record mid { objects = now }) new r
        → Takes before last (reads_field row push k n line) old new r
    trap-takes last got t new r is clause lacked leaves keeps traps =
        let size = (after-trap got t (Keeps mid.objects now) is keeps).size in
        record {
          sound = traps.sound;
          names = λ m. traps.names;
          size = size-behind r old.objects.size now.size new.objects.size (size ∙ ap (λ (here : area.Heap). here.size) left.objects) traps.size;
          does = λ c h.
              does-earlier before last old mid new (reads_field row push k n line c) r left
              (trap-read h.names c h.held last t new r (subst Got is clause) (subst Lacked is lacked) leaves size traps);
        }
