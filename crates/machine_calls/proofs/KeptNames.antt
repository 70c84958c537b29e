-- Names of scopes that a machine reads and writes.
use Rattle.std.proofs.Common.{◌≡◌, ℕ, ℤ, Bool, List, [], Option, Some, None, inl, inr, refl, sym, ap, ◌∙◌, subst}
use Rattle.std.specs.Prelude.{◌++◌, IfSome, Result, Ok, Err}
use Rattle.machine_core.specs.ps_outside.Outside.{Outside}
use Rattle.machine_core.specs.obj_layout.Stored.{Space}
use Rattle.machine_core.specs.obj_layout.declared.reference.Reference.{Reference}
use Rattle.machine_core.specs.swizzle.Heap as area
use Rattle.machine_core.specs.swizzle.Heap.{IsHeld, Stands as AllStand}
use Rattle.machine_core.specs.swizzle.Reading.{LeavesOutside}
use Rattle.machine_core.specs.swizzle.Touch.{Keeps}
use Rattle.machine_core.specs.swizzle.declared.fault.SwizzleFault.{SwizzleFault}
use Rattle.machine_core.specs.text_forms.declared.forms.Form.{Form}
use Rattle.machine_core.specs.text_forms.declared.forms.Form.TheVariants as form
use Rattle.machine_core.specs.text_forms.Forms.{forms_of, form_in}
use Rattle.machine_core.specs.heap_places.Places.{IsNear}
use Rattle.machine_core.specs.heap_places.declared.value.Value as code
use Rattle.machine_core.specs.heap_places.declared.value.Value.TheVariants as held
use Rattle.machine_core.specs.ps_heap.Objects.{Heap, Object, Structure, Elements, Scope, Keyed}
use Rattle.machine_core.specs.ps_heap.Scopes.{scope_at, scope_out, kept_name}
use Rattle.machine_core.specs.ps_heap.Held.{reading_name, assigned_name, way_out, denoted}
use Rattle.machine_core.specs.ps_meaning.Meaning.{on_held}
use Rattle.machine_core.specs.ps_heap.Values.{Value, Num, Flag, word_of, number_of}
use Rattle.machine_core.specs.ps_heap.Values as value
use Rattle.machine_core.specs.ps_stepping.Config.{Config}
use Rattle.machine_core.specs.ps_stepping.Steps.{Step, Stuck, push_num, push_ref, pop_num, pop_ref}
use Rattle.machine_core.specs.ps_stepping.Objects.{having, when_number, when_reference}
use Rattle.machine_core.specs.ps_stepping.Procedures.{of_scope, kept_num, kept_ref, keep_num, keep_ref}
use Rattle.machine_core.specs.joint_ops.World.{IsWorld, DenotesScopeIn, IsForIn, IsOfForm}
use Rattle.joint_procedures.specs.Scopes.{HasName, IsOfRow, IsInt, ReadsKept, WritesKept}
use Rattle.joint_procedures.proofs.ScopeLaws.{out-none}
use Rattle.machine_core.specs.declared.machine.Machine.{Machine}
use Rattle.machine_core.specs.declared.stepped.Stepped.{Stepped}
use Rattle.machine_core.specs.declared.stepped.Stepped.TheVariants.{Quiet, Breaks, Damaged}
use Rattle.machine_core.specs.Holding.{IsSound, object_in, words_of, world_in}
use Rattle.machine_core.specs.Naming.{IsNamed, NamesObjects}
use Rattle.machine_core.specs.Stepped.{Takes, Does, UnlessBroken}
use Rattle.machine_core.specs.inside.Taking.{Leaves, Taken, TakenRef}
use Rattle.machine_core.proofs.RunLaws.{run-kept}
use Rattle.machine_core.proofs.Carrying.{held-more, read-holds, touched-holds, sound-kept, size-behind, broken-off}
use Rattle.machine_core.proofs.Naming.{names-last}
use Rattle.machine_calls.specs.inside.Names.{number_kept, reference_kept, row_kept, name_put, number_pushed, PushesReference, WritesName}
use Rattle.machine_calls.proofs.Current.{IsCurrent, no-current}
use Rattle.machine_calls.proofs.Fetching.{broken, sound-broken, names-kept, done-behind, breaks-takes, damage-breaks}

-- after a name was read, and what is touched by that
abbrev name_read : ℕ → ℕ → Config → Config
name_read up name c = having (reading_name c.scope up name) c

abbrev read_on_the_way : ℕ → ℕ → Config → List ℕ
read_on_the_way up name c = way_out c.store.held.objects c.scope up ++ denoted (kept_name c.store.held.objects c.scope up name)

-- What goes on where the name has a form.

number-formed : (up name : ℕ) (c : Config) (f : Form) → HasName c.store.held.objects c.scope up name f → (s : Step) → number_kept up name c s ≡ when_number (Some f) s
number-formed up name c f n s =
    ap (λ (o : Option Object). of_scope o (λ of parent. when_number (form_in (forms_of of) name) s)) n.level.is
    ∙ ap (λ (g : Option Form). when_number g s) n.place

reference-formed : (up name : ℕ) (c : Config) (f : Form) → HasName c.store.held.objects c.scope up name f → (s : Step) → reference_kept up name c s ≡ when_reference (Some f) s
reference-formed up name c f n s =
    ap (λ (o : Option Object). of_scope o (λ of parent. when_reference (form_in (forms_of of) name) s)) n.level.is
    ∙ ap (λ (g : Option Form). when_reference g s) n.place

-- Where there is no name of the row, nothing follows.
module _ (up name : ℕ) (c : Config) (s : Step) where
  abbrev Level : Option Object → Type 0
  Level o = scope_at c.store.held.objects (scope_out c.store.held.objects c.scope up) ≡ o

  name-at : (text : List ℕ) (parent : Option ℕ) (values : List Value) (f : Form) → Level (Some (Scope text parent values)) → form_in (forms_of text) name ≡ Some f
      → HasName c.store.held.objects c.scope up name f
  name-at text parent values f is place = record { text = text; parent = parent; level = record { values = values; is = is }; place = place }

  number-none : ((f : Form) → HasName c.store.held.objects c.scope up name f → when_number (Some f) s ≡ Stuck) → number_kept up name c s ≡ Stuck
  number-none never = at (scope_at c.store.held.objects (scope_out c.store.held.objects c.scope up)) refl
    where
      formed : (text : List ℕ) (parent : Option ℕ) (values : List Value) (f : Option Form) → Level (Some (Scope text parent values))
          → form_in (forms_of text) name ≡ f → when_number f s ≡ Stuck
      formed text parent values None is place = refl
      formed text parent values (Some f) is place = never f (name-at text parent values f is place)

      at : (o : Option Object) → Level o → of_scope o (λ of parent. when_number (form_in (forms_of of) name) s) ≡ Stuck
      at None is = refl
      at (Some (Structure class fields)) is = refl
      at (Some (Elements ty low elements)) is = refl
      at (Some (Keyed table)) is = refl
      at (Some (Scope text parent values)) is = formed text parent values (form_in (forms_of text) name) is refl

  reference-none : ((f : Form) → HasName c.store.held.objects c.scope up name f → when_reference (Some f) s ≡ Stuck) → reference_kept up name c s ≡ Stuck
  reference-none never = at (scope_at c.store.held.objects (scope_out c.store.held.objects c.scope up)) refl
    where
      formed : (text : List ℕ) (parent : Option ℕ) (values : List Value) (f : Option Form) → Level (Some (Scope text parent values))
          → form_in (forms_of text) name ≡ f → when_reference f s ≡ Stuck
      formed text parent values None is place = refl
      formed text parent values (Some f) is place = never f (name-at text parent values f is place)

      at : (o : Option Object) → Level o → of_scope o (λ of parent. when_reference (form_in (forms_of of) name) s) ≡ Stuck
      at None is = refl
      at (Some (Structure class fields)) is = refl
      at (Some (Elements ty low elements)) is = refl
      at (Some (Keyed table)) is = refl
      at (Some (Scope text parent values)) is = formed text parent values (form_in (forms_of text) name) is refl

-- outside of all scopes there is no name
name-outside : (up name : ℕ) (c : Config) (f : Form) → c.scope ≡ None → HasName c.store.held.objects c.scope up name f → ⊥
name-outside up name c f none n =
    let out : scope_out c.store.held.objects c.scope up ≡ None = ap (λ (s : Option ℕ). scope_out c.store.held.objects s up) none ∙ out-none c.store.held.objects up in
    let bad : None ≡ Some (Scope n.text n.parent n.level.values) = sym (ap (scope_at c.store.held.objects) out) ∙ n.level.is in
    cc

-- Reading: an int or a bool is pushed as a number, and a reference as it is.

number-read : (here : area.Heap) (outside : Outside Space) (names : List Reference) (k : code.Value) (f : Form) (v : Value) (c : Config) → IsOfForm f k
    → IsForIn here outside names k v → when_number (Some f) (push_num (word_of v) c) ≡ number_pushed k c
number-read here outside names (held.Num z) form.Number (Num w) c of is = ap (λ (y : ℤ). push_num y c) (sym is)
number-read here outside names (held.Num z) form.Number (Flag b) c of is = absurd is
number-read here outside names (held.Num z) form.Number (value.Text b) c of is = absurd is
number-read here outside names (held.Num z) form.Number value.Nil c of is = absurd is
number-read here outside names (held.Num z) form.Number (value.Pointer id) c of is = absurd is
number-read here outside names (held.Num z) form.Number (value.Vector id) c of is = absurd is
number-read here outside names (held.Num z) form.Number (value.Procedure body scope) c of is = absurd is
number-read here outside names (held.Num z) form.Number value.Nothing c of is = absurd is
number-read here outside names (held.Num z) form.Flag v c of is = absurd of
number-read here outside names (held.Num z) form.Reference v c of is = absurd of
number-read here outside names (held.Flag b) form.Flag (Flag d) c of is = ap (λ (x : Bool). push_num (number_of x) c) (sym is)
number-read here outside names (held.Flag b) form.Flag (Num z) c of is = absurd is
number-read here outside names (held.Flag b) form.Flag (value.Text t) c of is = absurd is
number-read here outside names (held.Flag b) form.Flag value.Nil c of is = absurd is
number-read here outside names (held.Flag b) form.Flag (value.Pointer id) c of is = absurd is
number-read here outside names (held.Flag b) form.Flag (value.Vector id) c of is = absurd is
number-read here outside names (held.Flag b) form.Flag (value.Procedure body scope) c of is = absurd is
number-read here outside names (held.Flag b) form.Flag value.Nothing c of is = absurd is
number-read here outside names (held.Flag b) form.Number v c of is = absurd of
number-read here outside names (held.Flag b) form.Reference v c of is = absurd of
number-read here outside names (held.Ref to) form.Reference v c of is = refl
number-read here outside names (held.Ref to) form.Number v c of is = absurd of
number-read here outside names (held.Ref to) form.Flag v c of is = absurd of

near-held : (here : area.Heap) (to : Option ℕ) → IsNear here (held.Ref to) → IfSome to (IsHeld here)
near-held here None near = tt
near-held here (Some at) near = near

-- what was popped lies in the area
pub popped-near : (here : area.Heap) (w : ℕ) → IsNamed here w → IsNear here (held.Ref (object_in w))
popped-near here w named = near (object_in w) named
  where
    near : (to : Option ℕ) → IfSome to (IsHeld here) → IsNear here (held.Ref to)
    near None there = tt
    near (Some at) there = there

module _ (before after : Outside Space) (up name : ℕ) (m : Machine) where
  pub number-outside : IsSound m → IsCurrent before m None → Takes before after (kept_num up name) m m Damaged
  number-outside sound in_it = record {
    sound = sound;
    names = λ n. n;
    size = refl;
    does = λ c h.
        number-none up name c (push_num (word_of (kept_name c.store.held.objects c.scope up name)) (name_read up name c))
        (λ f n. absurd (name-outside up name c f (no-current before m h.names c in_it h.held) n));
  }

  pub reference-outside : IsSound m → IsCurrent before m None → Takes before after (kept_ref up name) m m Damaged
  reference-outside sound in_it = record {
    sound = sound;
    names = λ n. n;
    size = refl;
    does = λ c h.
        reference-none up name c (push_ref (kept_name c.store.held.objects c.scope up name) (name_read up name c))
        (λ f n. absurd (name-outside up name c f (no-current before m h.names c in_it h.held) n));
  }

  pub written-outside : (to : code.Value) → IsSound m → NamesObjects m → IsCurrent before m None → WritesName before after up name to m m Damaged
  written-outside to sound names in_it = record {
    sound = sound;
    names = names;
    size = refl;
    does = λ ns c v h for. outside to ns c (no-current before m ns c in_it h) (name_put up name v c);
  }
    where
      outside : (to : code.Value) (ns : List Reference) (c : Config) → c.scope ≡ None → (s : Step) → row_kept to up name c s ≡ Stuck
      outside (held.Num z) ns c none s = number-none up name c s (λ f n. absurd (name-outside up name c f none n))
      outside (held.Flag b) ns c none s = number-none up name c s (λ f n. absurd (name-outside up name c f none n))
      outside (held.Ref to) ns c none s = reference-none up name c s (λ f n. absurd (name-outside up name c f none n))

  module _ (now : area.Heap) (at : ℕ) (in_it : IsCurrent before m (Some at)) where
    abbrev Got : Result code.Value SwizzleFault → Type 0
    Got r = (of : Heap) (names : List Reference) (within : Option ℕ) → IsWorld m.objects before of names → DenotesScopeIn m.objects before names (Some at) within
        → ReadsKept m.objects now before after of names within up name r

    pub number-got : (k : code.Value) (new : Machine) (r : Stepped) → LeavesOutside before after → Keeps m.objects now → Got (Ok k)
        → Takes after after (number_pushed k) (record m { objects = now }) new r → Takes before after (kept_num up name) m new r
    number-got k new r left keeps got push = record {
      sound = push.sound;
      names = λ n. push.names (names-kept m now keeps n);
      size = size-behind r m.objects.size now.size new.objects.size keeps.size push.size;
      does = λ c h.
          let g = got c.store.held.objects h.names c.scope (world_in h.held.run) (in_it h.names c h.held) in
          let v = kept_name c.store.held.objects c.scope up name in
          subst (λ (s : Step). Does before after m.objects.size s r new)
          (sym (number-formed up name c g.0 g.1 (push_num (word_of v) (name_read up name c)) ∙ number-read now after h.names k g.0 v (name_read up name c) g.2 g.3))
          (done-behind before after m now (number_pushed k (name_read up name c)) new r left keeps
          (push.does (name_read up name c) (record { names = h.names; held = touched-holds m.objects now before after h.names (words_of m) c (read_on_the_way up name c) h.held g.4 })));
    }

    pub number-failed : (fault : SwizzleFault) (new : Machine) (r : Stepped) → r ≡ Breaks → new ≡ broken m now fault → IsSound m → Got (Err fault)
        → Takes before after (kept_num up name) m new r
    number-failed fault new r answer is sound got =
        breaks-takes before after m now (kept_num up name) fault new r answer is sound
        (λ c h.
        let s = push_num (word_of (kept_name c.store.held.objects c.scope up name)) (name_read up name c) in
        elim (got c.store.held.objects h.names c.scope (world_in h.held.run) (in_it h.names c h.held)) [
          | inl a ↦ damage-breaks before after m.objects.size (kept_num up name c) fault (number-none up name c s (λ f n. absurd (a.0 f n))) a.1
          | inr b ↦ broken-off m.objects now before after (kept_num up name c) fault b
        ])

    -- it is kept in the other row
    other-row : (k : code.Value) (new : Machine) (r : Stepped) → LeavesOutside before after → Keeps m.objects now → Got (Ok k)
        → Takes after after (λ c. Stuck) (record m { objects = now }) new r → ((f : Form) → IsOfForm f k → (s : Step) → when_reference (Some f) s ≡ Stuck)
        → Takes before after (kept_ref up name) m new r
    other-row k new r left keeps got push row = record {
      sound = push.sound;
      names = λ n. push.names (names-kept m now keeps n);
      size = size-behind r m.objects.size now.size new.objects.size keeps.size push.size;
      does = λ c h.
          let g = got c.store.held.objects h.names c.scope (world_in h.held.run) (in_it h.names c h.held) in
          let s = push_ref (kept_name c.store.held.objects c.scope up name) (name_read up name c) in
          subst (λ (x : Step). Does before after m.objects.size x r new) (sym (reference-formed up name c g.0 g.1 s ∙ row g.0 g.2 s))
          (done-behind before after m now Stuck new r left keeps
          (push.does c (record { names = h.names; held = read-holds m.objects now before after h.names (words_of m) c h.held g.4 })));
    }

    pub reference-got : (k : code.Value) (new : Machine) (r : Stepped) → LeavesOutside before after → Keeps m.objects now → IsNear now k → Got (Ok k)
        → PushesReference after after k (record m { objects = now }) new r → Takes before after (kept_ref up name) m new r
    reference-got (held.Ref to) new r left keeps near got push = record {
      sound = push.sound;
      names = λ n. push.names (names-kept m now keeps n) (near-held now to near);
      size = size-behind r m.objects.size now.size new.objects.size keeps.size push.size;
      does = λ c h.
          let g = got c.store.held.objects h.names c.scope (world_in h.held.run) (in_it h.names c h.held) in
          let v = kept_name c.store.held.objects c.scope up name in
          subst (λ (s : Step). Does before after m.objects.size s r new)
          (sym (reference-formed up name c g.0 g.1 (push_ref v (name_read up name c)) ∙ row g.0 g.2 (push_ref v (name_read up name c))))
          (done-behind before after m now (push_ref v (name_read up name c)) new r left keeps
          (push.does h.names v (name_read up name c) (touched-holds m.objects now before after h.names (words_of m) c (read_on_the_way up name c) h.held g.4) g.3));
    }
      where
        row : (f : Form) → IsOfForm f (held.Ref to) → (s : Step) → when_reference (Some f) s ≡ s
        row form.Reference formed s = refl
        row form.Number formed s = absurd formed
        row form.Flag formed s = absurd formed
    reference-got (held.Num z) new r left keeps near got push = other-row (held.Num z) new r left keeps got push row
      where
        row : (f : Form) → IsOfForm f (held.Num z) → (s : Step) → when_reference (Some f) s ≡ Stuck
        row form.Number formed s = refl
        row form.Reference formed s = absurd formed
        row form.Flag formed s = absurd formed
    reference-got (held.Flag b) new r left keeps near got push = other-row (held.Flag b) new r left keeps got push row
      where
        row : (f : Form) → IsOfForm f (held.Flag b) → (s : Step) → when_reference (Some f) s ≡ Stuck
        row form.Flag formed s = refl
        row form.Reference formed s = absurd formed
        row form.Number formed s = absurd formed

    pub reference-failed : (fault : SwizzleFault) (new : Machine) (r : Stepped) → r ≡ Breaks → new ≡ broken m now fault → IsSound m → Got (Err fault)
        → Takes before after (kept_ref up name) m new r
    reference-failed fault new r answer is sound got =
        breaks-takes before after m now (kept_ref up name) fault new r answer is sound
        (λ c h.
        let s = push_ref (kept_name c.store.held.objects c.scope up name) (name_read up name c) in
        elim (got c.store.held.objects h.names c.scope (world_in h.held.run) (in_it h.names c h.held)) [
          | inl a ↦ damage-breaks before after m.objects.size (kept_ref up name c) fault (reference-none up name c s (λ f n. absurd (a.0 f n))) a.1
          | inr b ↦ broken-off m.objects now before after (kept_ref up name c) fault b
        ])

    -- Writing.
    abbrev Set : code.Value → Result (Unit {0}) SwizzleFault → Type 0
    Set to r = (of : Heap) (names : List Reference) (within : Option ℕ) (v : Value) → IsWorld m.objects before of names
        → DenotesScopeIn m.objects before names (Some at) within → IsInt to → IsForIn m.objects before names to v
        → WritesKept m.objects now before after of names within up name to v r

    row-formed : (to : code.Value) (f : Form) (c : Config) → IsOfRow f to → HasName c.store.held.objects c.scope up name f → (s : Step) → row_kept to up name c s ≡ s
    row-formed (held.Num z) form.Number c row n s = number-formed up name c form.Number n s
    row-formed (held.Num z) form.Flag c row n s = number-formed up name c form.Flag n s
    row-formed (held.Num z) form.Reference c row n s = absurd row
    row-formed (held.Flag b) form.Number c row n s = number-formed up name c form.Number n s
    row-formed (held.Flag b) form.Flag c row n s = number-formed up name c form.Flag n s
    row-formed (held.Flag b) form.Reference c row n s = absurd row
    row-formed (held.Ref to) form.Reference c row n s = reference-formed up name c form.Reference n s
    row-formed (held.Ref to) form.Number c row n s = absurd row
    row-formed (held.Ref to) form.Flag c row n s = absurd row

    row-none : (to : code.Value) (c : Config) → ((f : Form) → HasName c.store.held.objects c.scope up name f → IsOfRow f to → ⊥) → (s : Step) → row_kept to up name c s ≡ Stuck
    row-none (held.Num z) c never s = number-none up name c s other
      where
        other : (f : Form) → HasName c.store.held.objects c.scope up name f → when_number (Some f) s ≡ Stuck
        other form.Number n = absurd (never form.Number n tt)
        other form.Flag n = absurd (never form.Flag n tt)
        other form.Reference n = refl
    row-none (held.Flag b) c never s = number-none up name c s other
      where
        other : (f : Form) → HasName c.store.held.objects c.scope up name f → when_number (Some f) s ≡ Stuck
        other form.Number n = absurd (never form.Number n tt)
        other form.Flag n = absurd (never form.Flag n tt)
        other form.Reference n = refl
    row-none (held.Ref to) c never s = reference-none up name c s other
      where
        other : (f : Form) → HasName c.store.held.objects c.scope up name f → when_reference (Some f) s ≡ Stuck
        other form.Number n = refl
        other form.Flag n = refl
        other form.Reference n = absurd (never form.Reference n tt)

    pub name-written : (to : code.Value) → IsInt to → IsSound m → NamesObjects m → AllStand m.objects now → now.size ≡ m.objects.size → Set to (Ok tt)
        → WritesName before after up name to m (record m { objects = now }) Quiet
    name-written to int sound names stand size put = record {
      sound = sound-kept m now sound;
      names = names-last m.objects now stand (words_of m) m.writing.item names;
      size = size;
      does = λ ns c v h for.
          let w = put c.store.held.objects ns c.scope v (world_in h.run) (in_it ns c h) int for in
          let store = on_held (assigned_name c.scope up name v c.store.held) c.store in (
            [],
            record c { store = store },
            row-formed to w.0 c w.2 w.1 (name_put up name v c),
            refl,
            record {
              names = ns;
              held = held-more m.objects now before after ns ns (words_of m) c store w.3.2.carries h
                  (run-kept ns (words_of m).writing (words_of m).asked (words_of m).directory c.store.held m.objects now before after c.scope up name v w.3.0 w.3.1 w.3.2 h.run) refl refl;
            },
          );
    }

    pub name-unwritten : (to : code.Value) (fault : SwizzleFault) (new : Machine) (r : Stepped) → r ≡ Breaks → new ≡ broken m now fault → IsInt to → IsSound m
        → Set to (Err fault) → WritesName before after up name to m new r
    name-unwritten to fault new r answer is int sound put =
        let t : WritesName before after up name to m (broken m now fault) Breaks =
        record {
          sound = sound-broken m now fault sound;
          names = tt;
          size = tt;
          does = λ ns c v h for.
              let s = name_put up name v c in
              elim (put c.store.held.objects ns c.scope v (world_in h.run) (in_it ns c h) int for) [
                | inl a ↦ damage-breaks before after m.objects.size (row_kept to up name c s) fault (row-none to c a.0 s) a.1
                | inr b ↦ broken-off m.objects now before after (row_kept to up name c s) fault b
              ];
        } in
        subst (λ (x : Stepped). WritesName before after up name to m new x) (sym answer)
        (subst (λ (n : Machine). WritesName before after up name to m n Breaks) (sym is) t)

-- What was popped is kept.
module _ (before after : Outside Space) (up name : ℕ) (old mid new : Machine) (r : Stepped) (left : Leaves old mid) where
  size-there : UnlessBroken r (new.objects.size ≡ mid.objects.size) → UnlessBroken r (new.objects.size ≡ old.objects.size)
  size-there size = subst (λ (here : area.Heap). UnlessBroken r (new.objects.size ≡ here.size)) left.objects size

  does-there : (s : Step) → Does before after mid.objects.size s r new → Does before after old.objects.size s r new
  does-there s does = subst (λ (here : area.Heap). Does before after here.size s r new) left.objects does

  pub number-put : (z : ℤ) → Taken before pop_num old mid (Some z) → WritesName before after up name (held.Num z) mid new r
      → Takes before after (keep_num up name) old new r
  number-put z popped writes = record {
    sound = writes.sound;
    names = λ n. writes.names;
    size = size-there writes.size;
    does = λ c h.
        let g = popped.gives h.names c h.held in
        let s = name_put up name (Num z) g.0 in
        subst (λ (x : Step). Does before after old.objects.size x r new)
        (sym (g.1 (λ y d. number_kept up name d (name_put up name (Num y) d))))
        (does-there (number_kept up name g.0 s) (writes.does h.names g.0 (Num z) g.2 refl));
  }

  pub reference-put : (w : ℕ) → TakenRef before pop_ref old mid (Some w) → WritesName before after up name (held.Ref (object_in w)) mid new r
      → Takes before after (keep_ref up name) old new r
  reference-put w popped writes = record {
    sound = writes.sound;
    names = λ n. writes.names;
    size = size-there writes.size;
    does = λ c h.
        let g = popped.gives h.names c h.held in
        let s = name_put up name g.1 g.0 in
        subst (λ (x : Step). Does before after old.objects.size x r new)
        (sym (g.2 (λ v d. reference_kept up name d (name_put up name v d))))
        (does-there (reference_kept up name g.0 s) (writes.does h.names g.0 g.1 g.3 g.4));
  }
