-- Fields of what was popped that are written.
use Rattle.std.proofs.Common.{◌≡◌, ◌⊎◌, inl, inr, ℕ, ℤ, List, [], Option, Some, refl, sym, ap, ◌∙◌, subst}
use Rattle.std.specs.Prelude.{Result, Ok, Err}
use Rattle.ps_base.specs.CodeUnit.{UnitView}
use Rattle.ps_base.specs.declared.line.Line.{Line}
use Rattle.ps_base.specs.declared.trap.Trap.{Trap}
use Rattle.machine_core.specs.ps_outside.Outside.{Outside}
use Rattle.machine_core.specs.obj_layout.Stored.{Space}
use Rattle.machine_core.specs.obj_layout.declared.reference.Reference.{Reference}
use Rattle.machine_core.specs.swizzle.Heap as area
use Rattle.machine_core.specs.swizzle.Heap.{Stands as AllStand}
use Rattle.machine_core.specs.swizzle.Reading.{LeavesOutside}
use Rattle.machine_core.specs.swizzle.declared.fault.SwizzleFault.{SwizzleFault}
use Rattle.machine_core.specs.text_forms.declared.forms.Form.{Form}
use Rattle.machine_core.specs.text_forms.declared.forms.Form.TheVariants as form
use Rattle.machine_core.specs.text_forms.declared.forms.Located.{Located}
use Rattle.machine_core.specs.text_forms.Forms.{forms_of, form_in, located_in}
use Rattle.machine_core.specs.heap_ops.Outcomes.{UnlessFault}
use Rattle.machine_core.specs.heap_places.declared.value.Value as code
use Rattle.machine_core.specs.heap_places.declared.value.Value.TheVariants as held
use Rattle.machine_core.specs.heap_texts.declared.fault.OpFault.{OpFault}
use Rattle.machine_core.specs.heap_texts.declared.fault.OpFault.TheVariants as op
use Rattle.machine_core.specs.proc_values.Reading.{IsDamaged}
use Rattle.machine_core.specs.ps_heap.Ends.{Trapped}
use Rattle.machine_core.specs.ps_meaning.Meaning.{on_held}
use Rattle.machine_core.specs.ps_heap.Held.{Part, assigning}
use Rattle.machine_core.specs.ps_heap.Objects.{Heap, with_field, kept_as, id_of}
use Rattle.machine_core.specs.ps_heap.Texts.{Attempt, Yields}
use Rattle.machine_core.specs.ps_heap.Values.{Value, Num, Flag, Text, Nil, Pointer, Vector, Procedure, Nothing}
use Rattle.machine_core.specs.ps_stepping.Config.{Config, constants_in, constant_at}
use Rattle.machine_core.specs.ps_stepping.Steps.{Step, Stops, Stuck, attempted, pop_num, pop_ref, text_in}
use Rattle.machine_core.specs.ps_stepping.Objects.{object_of, pop_object, changed, set_field_num, set_field_ref}
use Rattle.machine_core.specs.joint_ops.World.{Writes, BreaksOff, DenotesIn, IsForIn, IsUnitIn, IsWorld}
use Rattle.machine_core.specs.objects.Classes.{BreaksByCode, NamesClass}
use Rattle.machine_core.specs.objects.Putting.{IsOfRow, LacksPlace}
use Rattle.machine_core.specs.declared.machine.Machine.{Machine}
use Rattle.machine_core.specs.declared.stepped.Stepped.{Stepped}
use Rattle.machine_core.specs.declared.stepped.Stepped.TheVariants.{Quiet, Breaks}
use Rattle.machine_core.specs.Holding.{HeldBy, IsSound, words_of, world_in}
use Rattle.machine_core.specs.Naming.{NamesObjects}
use Rattle.machine_core.specs.Stepped.{Does, Takes, UnlessBroken}
use Rattle.machine_core.specs.inside.Taking.{Leaves, Taken}
use Rattle.machine_core.proofs.Carrying.{does-behind, held-more, size-behind, sound-kept}
use Rattle.machine_core.proofs.RunLaws.{run-written}
use Rattle.machine_operands.specs.Giving.{BreaksWith}
use Rattle.machine_operands.specs.Popping.{PopsAny}
use Rattle.machine_operands.proofs.Parts.{after-trap, does-earlier}
use Rattle.machine_operands.proofs.Reading.{names-stand}
use Rattle.machine_structures.specs.declared.traps.Field.{Field}
use Rattle.machine_structures.specs.declared.traps.Row.{Row}
use Rattle.machine_structures.specs.declared.traps.Row.TheVariants.{Numbers, References}
use Rattle.machine_structures.specs.inside.Fields.{PutsField, TrapsOf, trap_at, when_in_row}
use Rattle.machine_structures.proofs.ClassFields.{HasField, field-follows, field-or-none, lacks-place, names-class, no-field, one-field}
use Rattle.machine_structures.proofs.FieldReads.{object-same}

-- what has a field that is written is a structure
pub written-object : (heap later : Heap) (v : Value) (class : List ℕ) (n : ℕ) (w : Value) → with_field heap v class n w ≡ Yields later
    → (c : Config) (next : Value → Config → Step) → object_of v c next ≡ next v c
unfolding with_field
written-object heap later Nil class n w is c next = refl
written-object heap later (Pointer id) class n w is c next = refl
written-object heap later (Num z) class n w is c next = absurd (cc)
written-object heap later (Flag b) class n w is c next = absurd (cc)
written-object heap later (Text b) class n w is c next = absurd (cc)
written-object heap later (Vector id) class n w is c next = absurd (cc)
written-object heap later (Procedure does scope) class n w is c next = absurd (cc)
written-object heap later Nothing class n w is c next = absurd (cc)

-- A value that is put into a field of what is popped then.
module _ (field : Field) (to : code.Value) (line : Line) where
  abbrev puts : List ℕ → Value → Value → Config → Step
  puts class w o d = attempted line (with_field d.store.held.objects o class field.number w) (λ heap. changed (Part (id_of o) field.number) heap d)

  module _ (before after : Outside Space) (old mid : Machine) (now : area.Heap) (left : Leaves old mid) (object : Option ℕ)
      (pops : PopsAny before old mid (Some object)) where
    abbrev pub Set : Result (Unit {0}) OpFault → Type 0
    Set set = (of : Heap) (names : List Reference) (class : List ℕ) (l : Located) (o v : Value) → IsWorld mid.objects before of names
        → NamesClass mid.objects before field.code field.constant class → located_in (forms_of class) field.number ≡ Some l → IsOfRow l.place.form to
        → DenotesIn mid.objects before names object o → IsForIn mid.objects before names to v
        → Writes mid.objects now before after o of names (with_field of o class field.number (kept_as (Some l.place.form) v)) set

    abbrev pub Lacked : Result (Unit {0}) OpFault → Type 0
    Lacked set = LacksPlace mid.objects before field.code field.constant field.number to → BreaksByCode mid.objects now before after field.code set

    abbrev Popped : (names : List Reference) (c : Config) (v : Value) (class : List ℕ) (l : Located) → Step
    Popped names c v class l = pop_object c (puts class (kept_as (Some l.place.form) v))

    same-area : mid.objects ≡ old.objects
    same-area = left.objects

    lacks-there : LacksPlace old.objects before field.code field.constant field.number to
        → LacksPlace mid.objects before field.code field.constant field.number to
    lacks-there lacks = subst (λ (here : area.Heap). LacksPlace here before field.code field.constant field.number to) (sym left.objects) lacks

    module _ (names : List Reference) (c : Config) (v : Value) (class : List ℕ) (l : Located) (h : HeldBy before names old c)
        (named : NamesClass old.objects before field.code field.constant class) (place : located_in (forms_of class) field.number ≡ Some l)
        (row : IsOfRow l.place.form to) (for : IsForIn old.objects before names to v) where
      abbrev w : Value
      w = kept_as (Some l.place.form) v

      abbrev step : Step
      step = pop_object c (puts class w)

      written : (set : Result (Unit {0}) OpFault) → Set set
          → Writes mid.objects now before after (pops.gives names c h).1 (pops.gives names c h).0.store.held.objects names
          (with_field (pops.gives names c h).0.store.held.objects (pops.gives names c h).1 class field.number w) set
      written set clause =
          let p = pops.gives names c h in
          clause p.0.store.held.objects names class l p.1 v (world_in p.3.run)
          (subst (λ (here : area.Heap). NamesClass here before field.code field.constant class) (sym left.objects) named) place row p.4
          (subst (λ (here : area.Heap). IsForIn here before names to v) (sym left.objects) for)

      value-put : (unit : Unit {0}) → Set (Ok unit) → Does before after mid.objects.size step Quiet (record mid { objects = now })
      value-put unit clause =
          let p = pops.gives names c h in
          let d = p.0 in
          let o = p.1 in
          let a = written (Ok unit) clause in
          let store = on_held (assigning (Part (id_of o) field.number) a.0 d.store.held) d.store in (
            [],
            record d { store = store },
            p.2 (λ o d. object_of o d (puts class w))
                ∙ written-object d.store.held.objects a.0 o class field.number w a.1 d (puts class w)
                ∙ ap (λ (x : Attempt Heap). attempted line x (λ heap. changed (Part (id_of o) field.number) heap d)) a.1,
            refl,
            record {
              names = names;
              held = held-more mid.objects now before after names names (words_of mid) d store a.2.carries p.3
                  (run-written names (words_of mid).writing (words_of mid).asked (words_of mid).directory d.store.held mid.objects now before after (Part (id_of o) field.number) a.0 a.2 p.3.run)
                  refl refl;
            },
          )

      put-trapped : (t : Trap) (new : Machine) (r : Stepped) → Set (Err (op.Trap t)) → LeavesOutside before after
          → TrapsOf after after object t line (record mid { objects = now }) new r → Does before after mid.objects.size step r new
      put-trapped t new r clause leaves traps =
          let p = pops.gives names c h in
          let d = p.0 in
          let o = p.1 in
          let a = written (Err (op.Trap t)) clause in
          let s = trap_at o t line d in
          subst (λ (x : Step). Does before after mid.objects.size x r new)
          (sym (p.2 (λ o d. object_of o d (puts class w))
          ∙ object-same o d (puts class w) (λ o e. Stops (Trapped t line) 0) (ap (λ (x : Attempt Heap). attempted line x (λ heap. changed (Part (id_of o) field.number) heap d)) a.0)))
          (does-behind before after after mid.objects.size mid.objects.size s r new leaves refl
          (traps.does mid.objects.size names d o (a.1.carries.values object o p.4)))

    abbrev over : Machine
    over = record mid { objects = now }

    pub field-put : (set : Result (Unit {0}) OpFault) → set ≡ Ok tt → IsSound mid → NamesObjects mid → Set set → Lacked set
        → UnlessFault set (AllStand mid.objects now) → UnlessFault set (now.size ≡ mid.objects.size) → PutsField before after field to line old over Quiet
    field-put set is sound named clause lacked stand size = record {
      sound = sound-kept mid now sound;
      names = names-stand mid now (subst (λ (x : Result (Unit {0}) OpFault). UnlessFault x (AllStand mid.objects now)) is stand) named;
      size =
          subst (λ (x : Result (Unit {0}) OpFault). UnlessFault x (now.size ≡ mid.objects.size)) is size ∙ ap (λ (here : area.Heap). here.size) left.objects;
      does = λ ns c v class l h named place row for.
          does-earlier before after old mid over (step ns c v class l h named place row for) Quiet left
          (value-put ns c v class l h named place row for tt (subst Set is clause));
      damaged = λ s stuck lacks. absurd (subst Lacked is lacked (lacks-there lacks));
    }

    module _ (new : Machine) (r : Stepped) where
      pub field-broken : (set : Result (Unit {0}) OpFault) (fault : SwizzleFault) → set ≡ Err (op.Swizzle fault) → Set set → Lacked set → r ≡ Breaks
          → BreaksWith before after over new r fault → PutsField before after field to line old new r
      field-broken set fault is clause lacked answer breaks = record {
        sound = breaks.sound;
        names = subst (λ (x : Stepped). UnlessBroken x (NamesObjects new)) (sym answer) tt;
        size = subst (λ (x : Stepped). UnlessBroken x (new.objects.size ≡ old.objects.size)) (sym answer) tt;
        does = λ ns c v class l h named place row for.
            let s = step ns c v class l h named place row for in
            does-earlier before after old mid new s r left
            (breaks.off mid.objects s (written ns c v class l h named place row for (Err (op.Swizzle fault)) (subst Set is clause)));
        damaged = λ s stuck lacks. does-earlier before after old mid new s r left (by-code s stuck (subst Lacked is lacked (lacks-there lacks)));
      }
        where
          by-code : (s : Step) → s ≡ Stuck → (IsDamaged mid.objects field.code fault ⊎ BreaksOff mid.objects now before after fault)
              → Does before after mid.objects.size s r new
          by-code s stuck (inl is) = breaks.damaged mid.objects field.code s stuck is
          by-code s stuck (inr off) = breaks.off mid.objects s off

      pub field-trapped : (set : Result (Unit {0}) OpFault) (t : Trap) → set ≡ Err (op.Trap t) → NamesObjects mid → Set set → Lacked set
          → LeavesOutside before after
          → UnlessFault set (AllStand mid.objects now) → UnlessFault set (now.size ≡ mid.objects.size) → TrapsOf after after object t line over new r
          → PutsField before after field to line old new r
      field-trapped set t is named clause lacked leaves stand size traps = record {
        sound = traps.sound;
        names = traps.names (names-stand mid now (after-trap set t (AllStand mid.objects now) is stand) named);
        size =
            size-behind r old.objects.size now.size new.objects.size
            (after-trap set t (now.size ≡ mid.objects.size) is size ∙ ap (λ (here : area.Heap). here.size) left.objects) traps.size;
        does = λ ns c v class l h named place row for.
            does-earlier before after old mid new (step ns c v class l h named place row for) r left
            (put-trapped ns c v class l h named place row for t new r (subst Set is clause) leaves traps);
        damaged = λ s stuck lacks. absurd (subst Lacked is lacked (lacks-there lacks));
      }

-- The field lies in the row of what is put into it, or nothing follows.

abbrev IsPutIn : code.Value → Row → Form → Type 0
IsPutIn to row f = (IsOfRow f to × ((s : Step) → when_in_row row (Some f) s ≡ s)) ⊎ ((IsOfRow f to → ⊥) × ((s : Step) → when_in_row row (Some f) s ≡ Stuck))

number-in : (z : ℤ) (f : Form) → IsPutIn (held.Num z) Numbers f
number-in z form.Number = inl (tt, λ s. refl)
number-in z form.Flag = inl (tt, λ s. refl)
number-in z form.Reference = inr (λ bad. bad, λ s. refl)

reference-in : (to : Option ℕ) (f : Form) → IsPutIn (held.Ref to) References f
reference-in to form.Number = inr (λ bad. bad, λ s. refl)
reference-in to form.Flag = inr (λ bad. bad, λ s. refl)
reference-in to form.Reference = inl (tt, λ s. refl)

module _ (before after : Outside Space) (field : Field) (to : code.Value) (line : Line) (mid new : Machine) (r : Stepped) (row : Row)
    (puts_it : PutsField before after field to line mid new r) (in_it : (f : Form) → IsPutIn to row f) (u : UnitView)
    (there : IsUnitIn mid.objects before field.code u) (next : List ℕ → Option Form → Step)
    (does : (f : HasField u field.constant field.number) → IsOfRow f.located.place.form to
    → Does before after mid.objects.size (next f.named.class (Some f.located.place.form)) r new) where
  abbrev following : Step
  following = text_in (constant_at (constants_in u) field.constant)
      (λ class. when_in_row row (form_in (forms_of class) field.number) (next class (form_in (forms_of class) field.number)))

  -- no field of the unit keeps such a value
  none-keeps : (s : Step) → s ≡ Stuck → ((f : HasField u field.constant field.number) → IsOfRow f.located.place.form to → ⊥) → Does before after
      mid.objects.size s r new
  none-keeps s stuck none = puts_it.damaged s stuck (lacks-place mid.objects before field.code field.constant field.number u to there none)

  put-found : (f : HasField u field.constant field.number) → IsPutIn to row f.located.place.form → Does before after mid.objects.size following r new
  put-found f (inl is) =
      subst (λ (s : Step). Does before after mid.objects.size s r new)
      (sym (field-follows u field.constant field.number row next f ∙ is.1 (next f.named.class (Some f.located.place.form)))) (does f is.0)
  put-found f (inr other) =
      none-keeps following (field-follows u field.constant field.number row next f ∙ other.1 (next f.named.class (Some f.located.place.form)))
      (λ g row. other.0 (subst (λ (l : Located). IsOfRow l.place.form to) (one-field u field.constant field.number g f) row))

  pub put-follows : Does before after mid.objects.size following r new
  put-follows = elim (field-or-none u field.constant field.number) [
    | inl f ↦ put-found f (in_it f.located.place.form)
    | inr none ↦ none-keeps following (no-field u field.constant field.number row next none) (λ f row. none f)
  ]

-- The instructions.

abbrev number_next : ℕ → Line → Config → List ℕ → Option Form → Step
number_next n line c class g =
    pop_num c (λ z d. pop_object d (λ v e. attempted line (with_field e.store.held.objects v class n (kept_as g (Num z))) (λ heap. changed (Part (id_of v) n) heap e)))

abbrev reference_next : ℕ → Line → Config → List ℕ → Option Form → Step
reference_next n line c class g = pop_ref c (λ w d. pop_object d (λ v e. attempted line (with_field e.store.held.objects v class n w) (λ heap. changed (Part (id_of v) n) heap e)))

module _ (before after : Outside Space) (k n : ℕ) (line : Line) (old mid : Machine) (left : Leaves old mid) where
  abbrev named_field : Field
  named_field = record { code = old.code; constant = k; number = n }

  code-there : (names : List Reference) (c : Config) → HeldBy before names old c → IsUnitIn mid.objects before old.code c.unit
  code-there names c h = subst (λ (here : area.Heap). IsUnitIn here before old.code c.unit) (sym left.objects) h.unit_is

  pub number-set : (z : ℤ) (new : Machine) (r : Stepped) → Taken before pop_num old mid (Some z)
      → PutsField before after named_field (held.Num z) line mid new r → Takes before after (set_field_num k n line) old new r
  number-set z new r popped puts_it = record {
    sound = puts_it.sound;
    names = λ m. puts_it.names;
    size = subst (λ (here : area.Heap). UnlessBroken r (new.objects.size ≡ here.size)) left.objects puts_it.size;
    does = λ c h.
        let p = popped.gives h.names c h.held in
        does-earlier before after old mid new (set_field_num k n line c) r left
        (put-follows before after named_field (held.Num z) line mid new r Numbers puts_it (number-in z) c.unit (code-there h.names c h.held)
        (number_next n line c)
        (λ f row.
        let class = f.named.class in
        let g : Option Form = Some f.located.place.form in
        subst (λ (s : Step). Does before after mid.objects.size s r new)
        (sym (p.1 (λ y d. pop_object d (λ v e. attempted line (with_field e.store.held.objects v class n (kept_as g (Num y))) (λ heap. changed (Part (id_of v) n) heap e)))))
        (puts_it.does h.names p.0 (Num z) class f.located p.2 (names-class mid.objects before old.code k c.unit (code-there h.names c h.held) f.named) f.place
        row refl)));
  }

  pub reference-set : (to : Option ℕ) (new : Machine) (r : Stepped) → PopsAny before old mid (Some to)
      → PutsField before after named_field (held.Ref to) line mid new r → Takes before after (set_field_ref k n line) old new r
  reference-set to new r popped puts_it = record {
    sound = puts_it.sound;
    names = λ m. puts_it.names;
    size = subst (λ (here : area.Heap). UnlessBroken r (new.objects.size ≡ here.size)) left.objects puts_it.size;
    does = λ c h.
        let p = popped.gives h.names c h.held in
        does-earlier before after old mid new (set_field_ref k n line c) r left
        (put-follows before after named_field (held.Ref to) line mid new r References puts_it (reference-in to) c.unit (code-there h.names c h.held)
        (reference_next n line c)
        (λ f row.
        let class = f.named.class in
        let same : kept_as (Some f.located.place.form) p.1 ≡ p.1 = as-it-is f.located.place.form to p.1 row in
        subst (λ (s : Step). Does before after mid.objects.size s r new)
        (sym (p.2 (λ w d. pop_object d (λ v e. attempted line (with_field e.store.held.objects v class n w) (λ heap. changed (Part (id_of v) n) heap e)))
        ∙ ap (λ (w : Value). pop_object p.0 (λ v e. attempted line (with_field e.store.held.objects v class n w) (λ heap. changed (Part (id_of v) n) heap e))) (sym same)))
        (puts_it.does h.names p.0 p.1 class f.located p.3 (names-class mid.objects before old.code k c.unit (code-there h.names c h.held) f.named) f.place row
        p.4)));
  }
    where
      as-it-is : (f : Form) (to : Option ℕ) (v : Value) → IsOfRow f (held.Ref to) → kept_as (Some f) v ≡ v
      as-it-is form.Reference to v row = refl
      as-it-is form.Number to v row = absurd row
      as-it-is form.Flag to v row = absurd row
