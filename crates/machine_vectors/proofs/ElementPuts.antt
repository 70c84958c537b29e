-- Elements of vectors that are written.
use Rattle.std.proofs.Common.{◌≡◌, ℕ, ℤ, true, false, List, Option, Some, None, refl, sym, ap, ◌∙◌, subst}
use Rattle.std.specs.Prelude.{Result, Ok, Err, IfSome, length}
use Rattle.ps_base.specs.declared.line.Line.{Line}
use Rattle.ps_base.specs.declared.trap.Trap.{Trap}
use Rattle.ps_base.specs.declared.trap.Trap.TheVariants as trap
use Rattle.machine_core.specs.ps_outside.Outside.{Outside}
use Rattle.machine_core.specs.obj_layout.Stored.{Space}
use Rattle.machine_core.specs.obj_layout.declared.reference.Reference.{Reference}
use Rattle.machine_core.specs.swizzle.Heap as area
use Rattle.machine_core.specs.swizzle.Heap.{IsHeld, Stands as AllStand}
use Rattle.machine_core.specs.swizzle.Reading.{LeavesOutside}
use Rattle.machine_core.specs.swizzle.Touch.{Keeps}
use Rattle.machine_core.specs.swizzle.declared.fault.SwizzleFault.{SwizzleFault}
use Rattle.machine_core.specs.text_forms.declared.forms.Form.{Form}
use Rattle.machine_core.specs.text_forms.declared.forms.Form.TheVariants as form
use Rattle.machine_core.specs.text_forms.Forms.{element_of, is_number_form}
use Rattle.machine_core.specs.heap_places.Places.{IsNear}
use Rattle.machine_core.specs.heap_places.declared.value.Value as code
use Rattle.machine_core.specs.heap_places.declared.value.Value.TheVariants as held
use Rattle.machine_core.specs.heap_ops.Outcomes.{UnlessFault}
use Rattle.machine_core.specs.heap_ops.Vectors.{fitted}
use Rattle.machine_core.specs.heap_texts.declared.fault.OpFault.{OpFault}
use Rattle.machine_core.specs.heap_texts.declared.fault.OpFault.TheVariants as op
use Rattle.machine_core.specs.ps_heap.Operators.{is_int}
use Rattle.machine_core.specs.ps_heap.Values.{Value, Num, Vector, is_one}
use Rattle.machine_core.specs.ps_heap.Ends.{Trapped}
use Rattle.machine_core.specs.ps_heap.Held.{element_place}
use Rattle.machine_core.specs.ps_heap.Texts.{Attempt, Yields, Fails}
use Rattle.machine_core.specs.ps_heap.Objects.{Heap, Object, kept_as, with_element, object_at, low_in, elements_in, place_of, found_at, put_at, element_of as element_at}
use Rattle.machine_core.specs.ps_heap.Objects as meaning
use Rattle.machine_core.specs.ps_stepping.Config.{Config}
use Rattle.machine_core.specs.ps_stepping.Steps.{Step, Stops, Stuck, attempted, pop_num}
use Rattle.machine_core.specs.ps_stepping.Objects.{type_of, pop_vector, when_number, when_reference, changed, set_element_ref}
use Rattle.machine_core.specs.joint_ops.World.{IsWorld, DenotesIn, IsForIn, IsOfForm, Answers, Writes, Stands}
use Rattle.machine_core.specs.joint_ops.Operands.{form_in}
use Rattle.machine_core.specs.declared.machine.Machine.{Machine}
use Rattle.machine_core.specs.declared.stepped.Stepped.{Stepped}
use Rattle.machine_core.specs.declared.stepped.Stepped.TheVariants.{Breaks, Damaged}
use Rattle.machine_core.specs.Holding.{HeldBy, IsSound, words_of, world_in}
use Rattle.machine_core.specs.Naming.{NamesObjects}
use Rattle.machine_core.specs.Stepped.{Does, Takes, UnlessBroken}
use Rattle.machine_core.specs.inside.Taking.{Leaves, Taken}
use Rattle.machine_core.proofs.Carrying.{does-behind, read-holds, size-behind, sound-kept}
use Rattle.machine_operands.specs.Giving.{BreaksWith, Changes}
use Rattle.machine_operands.specs.Popping.{PopsAny, PopsVector, anything}
use Rattle.machine_operands.proofs.Reading.{names-kept, names-stand}
use Rattle.machine_vectors.specs.inside.Elements.{PutsReference, RefusesElement, TakesVector, OfNumbers, OfReferences, number_put, reference_put, refused}
use Rattle.machine_operands.proofs.Parts.{both-leave, unless-fault}
use Rattle.machine_vectors.proofs.Parts.{parts-taken, parts-stuck, does-as, unless-breaks, whatever}
use Rattle.machine_vectors.proofs.ElementReads.{typed-form, number-row, no-number-row, reference-row, no-reference-row, reference-fits}

-- what follows is the same wherever it goes on
pub attempted-then : {A : Type 0} (line : Line) (attempt : Attempt A) (f g : A → Step) → ((a : A) → f a ≡ g a) → attempted line attempt f ≡ attempted line attempt g
attempted-then line (Yields a) f g same = same a
attempted-then line (Fails t) f g same = refl

-- Where an element is there to be read one can be written, and where there is the trap of a subscript there it is too.
pub put-yields : (heap : Heap) (id : ℕ) (at : ℤ) (e w : Value) → element_at heap (Vector id) at ≡ Yields e
    → (later : Heap) × (with_element heap (Vector id) at w ≡ Yields later)
unfolding meaning.element_of with_element
put-yields heap id at e w is =
    let o = object_at heap id in
    of (place_of (low_in o) (length (elements_in o)) at) is
  where
    of : (n : Option ℕ) → found_at n (elements_in (object_at heap id)) ≡ Yields e → (later : Heap) × (put_at heap (Vector id) n w ≡ Yields later)
    of (Some n) is = (_, refl)
    of None is = absurd (cc)

pub put-fails : (heap : Heap) (id : ℕ) (at : ℤ) (t : Trap) (w : Value) → element_at heap (Vector id) at ≡ Fails t → with_element heap (Vector id) at w ≡ Fails t
unfolding meaning.element_of with_element
put-fails heap id at t w is =
    let o = object_at heap id in
    of (place_of (low_in o) (length (elements_in o)) at) is
  where
    of : (n : Option ℕ) → found_at n (elements_in (object_at heap id)) ≡ Fails t → put_at heap (Vector id) n w ≡ Fails t
    of (Some n) is = absurd (cc)
    of None is = ap Fails (let same : trap.Bounds ≡ t = cc in same)

-- a form of numbers keeps each number
number-fits : (f : Form) (z : ℤ) → is_number_form f ≡ true → (s : code.Value) × (fitted f (held.Num z) ≡ Some s)
unfolding fitted
number-fits form.Number z row = (held.Num z, refl)
number-fits form.Flag z row = (held.Flag (is_one z), refl)
number-fits form.Reference z row = absurd (cc)

pub ref-near : (here : area.Heap) (to : Option ℕ) → IfSome to (IsHeld here) → IsNear here (held.Ref to)
ref-near here None there = tt
ref-near here (Some at) there = there

-- A number or a reference was written, where the elements are of its row.
module _ (before after : Outside Space) (m new : Machine) (now : area.Heap) (r : Stepped) (vector : ℕ) (line : Line) (at : ℤ) (n : NamesObjects m)
    (set : Result (Unit {0}) OpFault) (stand : UnlessFault set (AllStand m.objects now)) (size : UnlessFault set (now.size ≡ m.objects.size))
    (g : Changes before after (record m { objects = now }) new r line set) where
  named : UnlessBroken r (NamesObjects new)
  named = g.ends.names (unless-fault set (λ s. names-stand m now s n) stand) (whatever set)

  pub number-written : (z : ℤ) → is_int z ≡ true
      → ((of : Heap) (names : List Reference) (id : ℕ) (v : Value) (stored : code.Value) → IsWorld m.objects before of names
      → DenotesIn m.objects before names (Some vector) (Vector id) → is_int z ≡ true → fitted (form_in of id) (held.Num z) ≡ Some stored
      → IsForIn m.objects before names (held.Num z) v
      → Writes m.objects now before after (Vector id) of names (with_element of (Vector id) at (kept_as (Some (form_in of id)) v)) set)
      → TakesVector before after OfNumbers (number_put line at z) vector m new r
  number-written z int kept = record {
    sound = g.ends.sound;
    names = named;
    size = g.ends.size m.objects.size size;
    does = λ names c id ty h d typed row.
        let heap = c.store.held.objects in
        let same = typed-form heap id ty typed in
        let s = number-fits (form_in heap id) z (ap is_number_form same ∙ row) in
        let wrote = kept heap names id (Num z) s.0 (world_in h.run) d int s.1 refl in
        let attempt = with_element heap (Vector id) at (kept_as (Some (element_of ty)) (Num z)) in
        does-as before after m.objects.size (number_put line at z ty (Vector id) c) (attempted line attempt (λ heap. changed (element_place c.store.held.objects (Vector id) at) heap c)) r new
        (attempted-then line attempt (λ heap. when_number (Some (element_of ty)) (changed (element_place c.store.held.objects (Vector id) at) heap c)) (λ heap. changed (element_place c.store.held.objects (Vector id) at) heap c)
        (λ later. number-row (element_of ty) row (changed (element_place c.store.held.objects (Vector id) at) later c)))
        (g.does m.objects names c (element_place c.store.held.objects (Vector id) at) (Vector id) attempt refl h
        (subst (λ (f : Form). Writes m.objects now before after (Vector id) heap names (with_element heap (Vector id) at (kept_as (Some f) (Num z))) set) same wrote));
  }

  pub reference-written : (to : Option ℕ)
      → ((of : Heap) (names : List Reference) (id : ℕ) (v : Value) → IsWorld m.objects before of names
      → DenotesIn m.objects before names (Some vector) (Vector id) → IsOfForm (form_in of id) (held.Ref to)
      → IsForIn m.objects before names (held.Ref to) v
      → Writes m.objects now before after (Vector id) of names (with_element of (Vector id) at v) set)
      → PutsReference before after OfReferences line at to vector m new r
  reference-written to put = record {
    sound = g.ends.sound;
    names = named;
    size = g.ends.size m.objects.size size;
    does = λ names c id ty w h d typed row denotes.
        let heap = c.store.held.objects in
        let same = typed-form heap id ty typed in
        let attempt = with_element heap (Vector id) at w in
        does-as before after m.objects.size (reference_put line at w ty (Vector id) c) (attempted line attempt (λ heap. changed (element_place c.store.held.objects (Vector id) at) heap c)) r new
        (attempted-then line attempt (λ heap. when_reference (Some (element_of ty)) (changed (element_place c.store.held.objects (Vector id) at) heap c)) (λ heap. changed (element_place c.store.held.objects (Vector id) at) heap c)
        (λ later. reference-row (element_of ty) row (changed (element_place c.store.held.objects (Vector id) at) later c)))
        (g.does m.objects names c (element_place c.store.held.objects (Vector id) at) (Vector id) attempt refl h
        (put heap names id w (world_in h.run) d (reference-fits (form_in heap id) to (ap is_number_form same ∙ row)) denotes));
  }

-- What was to be written is refused.
module _ (before after : Outside Space) (m : Machine) (now : area.Heap) (vector : ℕ) (line : Line) (at : ℤ) (sound : IsSound m) (n : NamesObjects m)
    (left : LeavesOutside before after) where
  abbrev pub Found : Result code.Value OpFault → Type 0
  Found got = (of : Heap) (names : List Reference) (id : ℕ) → IsWorld m.objects before of names → DenotesIn m.objects before names (Some vector) (Vector id)
      → Answers m.objects now before after (λ c v. IsOfForm (form_in of id) c × IsForIn now after names c v) of names (element_at of (Vector id) at) got

  -- the subscript is inside
  pub refused-inside : (k : code.Value) → Keeps m.objects now → Found (Ok k) → RefusesElement before after line at vector m (record m { objects = now }) Damaged
  refused-inside k keeps found = record {
    sound = sound-kept m now sound;
    names = names-kept m now keeps n;
    size = keeps.size;
    does = λ names c id w h d.
        let a = found c.store.held.objects names id (world_in h.run) d in
        ap (λ (x : Attempt Heap). attempted line x (λ heap. Stuck)) (put-yields c.store.held.objects id at a.0 w a.1).1;
  }

  -- it is outside
  pub refused-outside : (t : Trap) (new : Machine) (r : Stepped) → Keeps m.objects now → Found (Err (op.Trap t))
      → Takes after after (λ c. Stops (Trapped t line) 0) (record m { objects = now }) new r → RefusesElement before after line at vector m new r
  refused-outside t new r keeps found stop = record {
    sound = stop.sound;
    names = stop.names (names-kept m now keeps n);
    size = size-behind r m.objects.size now.size new.objects.size keeps.size stop.size;
    does = λ names c id w h d.
        let a = found c.store.held.objects names id (world_in h.run) d in
        does-as before after m.objects.size (refused line at w (Vector id) c) (Stops (Trapped t line) 0) r new
        (ap (λ (x : Attempt Heap). attempted line x (λ heap. Stuck)) (put-fails c.store.held.objects id at t w a.0))
        (does-behind before after after m.objects.size now.size (Stops (Trapped t line) 0) r new left keeps.size
        (stop.does c (record { names = names; held = read-holds m.objects now before after names (words_of m) c h a.1 })));
  }

  -- it couldn't be told
  pub refused-broken : (fault : SwizzleFault) (new : Machine) (r : Stepped) → r ≡ Breaks → Found (Err (op.Swizzle fault))
      → BreaksWith before after (record m { objects = now }) new r fault → RefusesElement before after line at vector m new r
  refused-broken fault new r answer found off = record {
    sound = off.sound;
    names = unless-breaks r (NamesObjects new) answer;
    size = unless-breaks r (new.objects.size ≡ m.objects.size) answer;
    does = λ names c id w h d. off.off m.objects (refused line at w (Vector id) c) (found c.store.held.objects names id (world_in h.run) d);
  }

-- The form of the elements was told first.
module _ (before : Outside Space) (m : Machine) (vector : ℕ) where
  abbrev pub Told : Outside Space → area.Heap → Result Form OpFault → Type 0
  Told mid now told = (of : Heap) (names : List Reference) (id : ℕ) → IsWorld m.objects before of names
      → DenotesIn m.objects before names (Some vector) (Vector id)
      → Answers m.objects now before mid (λ is wanted. is ≡ wanted) of names (Yields (form_in of id)) told

  told-row : (mid : Outside Space) (now : area.Heap) (f : Form) → Told mid now (Ok f) → (names : List Reference) (c : Config) (id : ℕ) (ty : List ℕ)
      → HeldBy before names m c → DenotesIn m.objects before names (Some vector) (Vector id) → type_of c.store.held.objects (Vector id) ≡ Some ty
      → (element_of ty ≡ f) × Stands m.objects now before mid c.store.held.objects names
  told-row mid now f told names c id ty h d typed =
      let a = told c.store.held.objects names id (world_in h.run) d in
      let same : form_in c.store.held.objects id ≡ a.0 = let e : Yields (form_in c.store.held.objects id) ≡ Yields a.0 = a.1 in cc in
      (sym (typed-form c.store.held.objects id ty typed) ∙ same ∙ sym a.2, a.3)

  module _ (line : Line) (at : ℤ) (mid after : Outside Space) (now : area.Heap) (new : Machine) (r : Stepped) (left : LeavesOutside before mid)
      (keeps : Keeps m.objects now) (f : Form) (told : Told mid now (Ok f)) where
    pub number-placed : (z : ℤ) → is_number_form f ≡ true → TakesVector mid after OfNumbers (number_put line at z) vector (record m { objects = now }) new r
        → TakesVector before after anything (number_put line at z) vector m new r
    number-placed z row t = record {
      sound = t.sound;
      names = t.names;
      size = size-behind r m.objects.size now.size new.objects.size keeps.size t.size;
      does = λ names c id ty h d typed such.
          let a = told-row mid now f told names c id ty h d typed in
          does-behind before mid after m.objects.size now.size (number_put line at z ty (Vector id) c) r new left keeps.size
          (t.does names c id ty (read-holds m.objects now before mid names (words_of m) c h a.1) (a.1.carries.values (Some vector) (Vector id) d) typed
          (ap is_number_form a.0 ∙ row));
    }

    pub reference-placed : (to : Option ℕ) → is_number_form f ≡ false
        → PutsReference mid after OfReferences line at to vector (record m { objects = now }) new r
        → PutsReference before after anything line at to vector m new r
    reference-placed to row t = record {
      sound = t.sound;
      names = t.names;
      size = size-behind r m.objects.size now.size new.objects.size keeps.size t.size;
      does = λ names c id ty w h d typed such denotes.
          let a = told-row mid now f told names c id ty h d typed in
          does-behind before mid after m.objects.size now.size (reference_put line at w ty (Vector id) c) r new left keeps.size
          (t.does names c id ty w (read-holds m.objects now before mid names (words_of m) c h a.1) (a.1.carries.values (Some vector) (Vector id) d) typed
          (ap is_number_form a.0 ∙ row) (a.1.carries.values to w denotes));
    }

    module _ (t : RefusesElement mid after line at vector (record m { objects = now }) new r) where
      refuses : (names : List Reference) (c : Config) (id : ℕ) (ty : List ℕ) (w : Value) (s : Step) → HeldBy before names m c
          → DenotesIn m.objects before names (Some vector) (Vector id) → type_of c.store.held.objects (Vector id) ≡ Some ty
          → s ≡ refused line at w (Vector id) c → Does before after m.objects.size s r new
      refuses names c id ty w s h d typed same =
          let a = told-row mid now f told names c id ty h d typed in
          does-as before after m.objects.size s (refused line at w (Vector id) c) r new same
          (does-behind before mid after m.objects.size now.size (refused line at w (Vector id) c) r new left keeps.size
          (t.does names c id w (read-holds m.objects now before mid names (words_of m) c h a.1) (a.1.carries.values (Some vector) (Vector id) d)))

      pub number-refused : (z : ℤ) → is_number_form f ≡ false → TakesVector before after anything (number_put line at z) vector m new r
      number-refused z row = record {
        sound = t.sound;
        names = t.names;
        size = size-behind r m.objects.size now.size new.objects.size keeps.size t.size;
        does = λ names c id ty h d typed such.
            let a = told-row mid now f told names c id ty h d typed in
            let w = kept_as (Some (element_of ty)) (Num z) in
            refuses names c id ty w (number_put line at z ty (Vector id) c) h d typed
            (attempted-then line (with_element c.store.held.objects (Vector id) at w) (λ heap. when_number (Some (element_of ty)) (changed (element_place c.store.held.objects (Vector id) at) heap c)) (λ heap. Stuck)
            (λ later. no-number-row (element_of ty) (ap is_number_form a.0 ∙ row) (changed (element_place c.store.held.objects (Vector id) at) later c)));
      }

      pub reference-refused : (to : Option ℕ) → is_number_form f ≡ true → PutsReference before after anything line at to vector m new r
      reference-refused to row = record {
        sound = t.sound;
        names = t.names;
        size = size-behind r m.objects.size now.size new.objects.size keeps.size t.size;
        does = λ names c id ty w h d typed such denotes.
            let a = told-row mid now f told names c id ty h d typed in
            refuses names c id ty w (reference_put line at w ty (Vector id) c) h d typed
            (attempted-then line (with_element c.store.held.objects (Vector id) at w) (λ heap. when_reference (Some (element_of ty)) (changed (element_place c.store.held.objects (Vector id) at) heap c)) (λ heap. Stuck)
            (λ later. no-reference-row (element_of ty) (ap is_number_form a.0 ∙ row) (changed (element_place c.store.held.objects (Vector id) at) later c)));
      }

  -- It couldn't be told.
  module _ (line : Line) (at : ℤ) (after : Outside Space) (now : area.Heap) (new : Machine) (r : Stepped) (fault : SwizzleFault) (answer : r ≡ Breaks)
      (told : Told after now (Err (op.Swizzle fault))) (off : BreaksWith before after (record m { objects = now }) new r fault) where
    pub number-untold : (z : ℤ) → TakesVector before after anything (number_put line at z) vector m new r
    number-untold z = record {
      sound = off.sound;
      names = unless-breaks r (NamesObjects new) answer;
      size = unless-breaks r (new.objects.size ≡ m.objects.size) answer;
      does = λ names c id ty h d typed such. off.off m.objects (number_put line at z ty (Vector id) c) (told c.store.held.objects names id (world_in h.run) d);
    }

    pub reference-untold : (to : Option ℕ) → PutsReference before after anything line at to vector m new r
    reference-untold to = record {
      sound = off.sound;
      names = unless-breaks r (NamesObjects new) answer;
      size = unless-breaks r (new.objects.size ≡ m.objects.size) answer;
      does = λ names c id ty w h d typed such denotes. off.off m.objects (reference_put line at w ty (Vector id) c) (told c.store.held.objects names id (world_in h.run) d);
    }

  -- Its telling has no trap.
  told-traps : (after : Outside Space) (now : area.Heap) (t : Trap) → Told after now (Err (op.Trap t)) → (of : Heap) (names : List Reference) (id : ℕ)
      → IsWorld m.objects before of names → DenotesIn m.objects before names (Some vector) (Vector id) → ⊥
  told-traps after now t told of names id w d = let e : Yields (form_in of id) ≡ Fails t = (told of names id w d).0 in cc

  module _ (line : Line) (at : ℤ) (after : Outside Space) (now : area.Heap) (t : Trap) (told : Told after now (Err (op.Trap t))) (sound : IsSound m)
      (n : NamesObjects m) (keeps : Keeps m.objects now) where
    pub number-never : (z : ℤ) → TakesVector before after anything (number_put line at z) vector m (record m { objects = now }) Damaged
    number-never z = record {
      sound = sound-kept m now sound;
      names = names-kept m now keeps n;
      size = keeps.size;
      does = λ names c id ty h d typed such. absurd (told-traps after now t told c.store.held.objects names id (world_in h.run) d);
    }

    pub reference-never : (to : Option ℕ) → PutsReference before after anything line at to vector m (record m { objects = now }) Damaged
    reference-never to = record {
      sound = sound-kept m now sound;
      names = names-kept m now keeps n;
      size = keeps.size;
      does = λ names c id ty w h d typed such denotes. absurd (told-traps after now t told c.store.held.objects names id (world_in h.run) d);
    }

-- The vector is known, so that its elements are of this form.
module _ (out after : Outside Space) (m new : Machine) (r : Stepped) (vector : ℕ) (line : Line) (at : ℤ) (f : Form)
    (known : (of : Heap) (names : List Reference) (id : ℕ) → IsWorld m.objects out of names → DenotesIn m.objects out names (Some vector) (Vector id)
    → f ≡ form_in of id) where
  known-row : (names : List Reference) (c : Config) (id : ℕ) (ty : List ℕ) → HeldBy out names m c → DenotesIn m.objects out names (Some vector) (Vector id)
      → type_of c.store.held.objects (Vector id) ≡ Some ty → element_of ty ≡ f
  known-row names c id ty h d typed = sym (known c.store.held.objects names id (world_in h.run) d ∙ typed-form c.store.held.objects id ty typed)

  pub number-put-known : (z : ℤ) → is_number_form f ≡ true → TakesVector out after OfNumbers (number_put line at z) vector m new r
      → TakesVector out after anything (number_put line at z) vector m new r
  number-put-known z row t = record {
    sound = t.sound;
    names = t.names;
    size = t.size;
    does = λ names c id ty h d typed such. t.does names c id ty h d typed (ap is_number_form (known-row names c id ty h d typed) ∙ row);
  }

  pub reference-put-known : (to : Option ℕ) → is_number_form f ≡ false → PutsReference out after OfReferences line at to vector m new r
      → PutsReference out after anything line at to vector m new r
  reference-put-known to row t = record {
    sound = t.sound;
    names = t.names;
    size = t.size;
    does = λ names c id ty w h d typed such denotes.
        t.does names c id ty w h d typed (ap is_number_form (known-row names c id ty h d typed) ∙ row) denotes;
  }

-- A reference was popped, and then a subscript and a vector.
module _ (before : Outside Space) (line : Line) where
  abbrev pub reference-next : Value → Config → Step
  reference-next w c = pop_num c (λ i d. pop_vector d (λ ty v e. reference_put line i w ty v e))

  module _ (old one : Machine) (first : Leaves old one) where
    pub no-reference : PopsAny before old one None → Takes before before (set_element_ref line) old one Damaged
    no-reference p = parts-stuck before before (set_element_ref line) old one first (λ names c h. p.gives names c h reference-next)

    module _ (to : Option ℕ) (p : PopsAny before old one (Some to)) where
      popped : (after : Outside Space) (last new : Machine) (r : Stepped) → Leaves one last → IsSound new → UnlessBroken r (NamesObjects new)
          → UnlessBroken r (new.objects.size ≡ last.objects.size)
          → ((names : List Reference) (c : Config) (w : Value) → HeldBy before names one c → DenotesIn one.objects before names to w
          → Does before after last.objects.size (reference-next w c) r new)
          → Takes before after (set_element_ref line) old new r
      popped after last new r then sound names size does =
          parts-taken before after (set_element_ref line) old last (both-leave old one last first then) new r sound names size
          (λ names c h.
          let x = p.gives names c h in
          does-as before after last.objects.size (set_element_ref line c) (reference-next x.1 x.0) r new (x.2 reference-next) (does names x.0 x.1 x.3 x.4))

      pub no-subscript : (two : Machine) → Leaves one two → NamesObjects two → Taken before pop_num one two None
          → Takes before before (set_element_ref line) old two Damaged
      no-subscript two second n q =
          popped before two two Damaged second second.sound n refl
          (λ names c w h d. q.gives names c h (λ i d. pop_vector d (λ ty v e. reference_put line i w ty v e)))

      module _ (two : Machine) (second : Leaves one two) (at : ℤ) (q : Taken before pop_num one two (Some at)) (last : Machine) (third : Leaves two last) where
        pub no-vector-put : NamesObjects last → PopsVector before two last None → Takes before before (set_element_ref line) old last Damaged
        no-vector-put n x =
            popped before last last Damaged (both-leave one two last second third) third.sound n refl
            (λ names c w h d.
            let i = q.gives names c h in
            i.1 (λ i d. pop_vector d (λ ty v e. reference_put line i w ty v e)) ∙ x.gives names i.0 i.2 (λ ty v e. reference_put line at w ty v e))

        pub reference-taken : (after : Outside Space) (new : Machine) (r : Stepped) (vector : ℕ) (place : ℤ) → place ≡ at
            → PopsVector before two last (Some vector) → PutsReference before after anything line place to vector last new r
            → Takes before after (set_element_ref line) old new r
        reference-taken after new r vector place same x t =
            let t = subst (λ (z : ℤ). PutsReference before after anything line z to vector last new r) same t in
            popped after last new r (both-leave one two last second third) t.sound t.names t.size
            (λ names c w h d.
            let i = q.gives names c h in
            let v = x.gives names i.0 i.2 in
            does-as before after last.objects.size (reference-next w c) (reference_put line at w v.2 (Vector v.1) v.0) r new
            (i.1 (λ i d. pop_vector d (λ ty v e. reference_put line i w ty v e)) ∙ v.3 (λ ty v e. reference_put line at w ty v e))
            (t.does names v.0 v.1 v.2 w v.5 v.6 v.4 tt
            (subst (λ (here : area.Heap). DenotesIn here before names to w) (sym (third.objects ∙ second.objects)) d)))
