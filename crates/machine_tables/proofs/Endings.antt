-- How calls on tables end after the operation.
use Rattle.std.proofs.Common.{◌≡◌, ◌≢◌, ◌⊎◌, ℕ, Bool, true, List, [], Option, Some, None, inl, inr, refl, sym, ap, ◌∙◌, subst}
use Rattle.std.specs.Prelude.{Result, Ok, Err, IfSome, if◌then◌else◌, pos}
use Rattle.ps_base.specs.declared.line.Line.{Line}
use Rattle.machine_core.specs.ps_outside.Outside.{Outside}
use Rattle.machine_core.specs.obj_layout.Stored.{Space}
use Rattle.machine_core.specs.obj_layout.declared.reference.Reference.{Reference}
use Rattle.machine_core.specs.swizzle.Heap as area
use Rattle.machine_core.specs.swizzle.Heap.{IsHeld}
use Rattle.machine_core.specs.swizzle.declared.fault.SwizzleFault.{SwizzleFault}
use Rattle.machine_core.specs.swizzle.declared.fault.SwizzleFault.TheVariants.{AreaFull, Vault}
use Rattle.machine_core.specs.text_forms.declared.forms.Form.TheVariants as form
use Rattle.machine_core.specs.heap_places.Places.{IsNear}
use Rattle.machine_core.specs.heap_places.declared.value.Value.TheVariants as held
use Rattle.machine_core.specs.heap_texts.declared.fault.OpFault.{OpFault}
use Rattle.machine_core.specs.heap_texts.declared.fault.OpFault.TheVariants as op
use Rattle.machine_core.specs.ps_heap.Calls.{answer_of, enter_call, number_answered, then_try}
use Rattle.machine_core.specs.ps_heap.Held.{Held, Under, assigning, reading}
use Rattle.ps_base.specs.declared.trap.Trap.TheVariants.{Overflow}
use Rattle.machine_core.specs.ps_heap.Operators.{is_int}
use Rattle.machine_core.specs.ps_heap.Objects.{Heap, id_of, value_of_object}
use Rattle.machine_core.specs.ps_heap.Tables.{Key, on_yield}
use Rattle.machine_core.specs.ps_heap.Texts.{Attempt, Yields, Fails}
use Rattle.machine_core.specs.ps_heap.Values.{Value, Nothing, Num}
use Rattle.machine_core.specs.ps_meaning.Meaning.{on_held}
use Rattle.machine_core.specs.ps_stepping.Config.{Config}
use Rattle.machine_core.specs.ps_stepping.Steps.{Goes, attempted, push_num, push_ref}
use Rattle.machine_core.specs.ps_stepping.Objects.{having, when_reference}
use Rattle.machine_core.specs.ps_stepping.Library.{gives_nothing, gives_num}
use Rattle.machine_core.specs.joint_ops.World.{BreaksOff, DenotesIn, IsForIn, IsOfForm, Answers}
use Rattle.machine_core.specs.declared.machine.Machine.{Machine}
use Rattle.machine_core.specs.declared.stepped.Stepped.{Stepped}
use Rattle.machine_core.specs.declared.stepped.Stepped.TheVariants.{Quiet, Breaks}
use Rattle.machine_core.specs.Full.{BreaksBy}
use Rattle.machine_core.specs.Holding.{HoldsStore, IsSound, asked_in, holding, words_of}
use Rattle.machine_core.specs.Stepped.{Does, Takes, UnlessBroken}
use Rattle.machine_core.proofs.Carrying.{held-more, node-full, unless-broken}
use Rattle.machine_core.proofs.RunLaws.{run-counting}
use Rattle.machine_operands.specs.Giving.{EndsSoundly, GivesReference, failed_in, failed_of}
use Rattle.machine_operands.proofs.Breaking.{failed-soundly, off-does, trap-does}
use Rattle.joint_tables.specs.Tables.{LacksNode, with_entry}
use Rattle.machine_tables.specs.inside.Ends.{EndsEnter, GivesCount, GivesFound, as_reference, count_pushed, found_given, pair_entered}
use Rattle.machine_tables.proofs.Calls.{alike-fails, alike-yields, enters-alike}
use Rattle.machine_tables.proofs.Parts.{does-as}

-- An object that was found, as a reference that is read.
near-to : (here : area.Heap) (to : Option ℕ) → IfSome to (IsHeld here) → IsNear here (held.Ref to)
near-to here None held = tt
near-to here (Some at) held = held

on-found : (line : Line) (c : Config) (attempt : Attempt (Option ℕ))
    → attempted line (on_yield attempt value_of_object) (λ w. when_reference (Some form.Reference) (push_ref w (having (reading w) c)))
    ≡ attempted line attempt (λ found. found_given found c)
on-found line c (Yields found) = refl
on-found line c (Fails trap) = refl

module _ (before after : Outside Space) (m new : Machine) (r : Stepped) (line : Line) where
  as-read : (got : Result (Option ℕ) OpFault) (here : area.Heap) (of : Heap) (names : List Reference) (attempt : Attempt (Option ℕ))
      → Answers here m.objects before after (λ to found. DenotesIn m.objects after names to (value_of_object found)) of names attempt got
      → Answers here m.objects before after (λ k v. IsOfForm form.Reference k × IsForIn m.objects after names k v) of names (on_yield attempt value_of_object)
      (as_reference got)
  as-read (Ok to) here of names attempt (found, is, denotes, stands) =
      (value_of_object found, ap (λ (a : Attempt (Option ℕ)). on_yield a value_of_object) is, (tt, denotes), stands)
  as-read (Err (op.Trap t)) here of names attempt (is, stands) = (ap (λ (a : Attempt (Option ℕ)). on_yield a value_of_object) is, stands)
  as-read (Err (op.Swizzle fault)) here of names attempt off = off

  found-ends : (got : Result (Option ℕ) OpFault) → EndsSoundly (as_reference got) (IsNear m.objects) m new r
      → EndsSoundly got (λ to. IfSome to (IsHeld m.objects)) m new r
  found-ends (Ok to) e = record { sound = e.sound; names = λ n lies. e.names n (near-to m.objects to lies); size = e.size; breaks = e.breaks }
  found-ends (Err (op.Trap t)) e = record { sound = e.sound; names = e.names; size = e.size; breaks = e.breaks }
  found-ends (Err (op.Swizzle fault)) e = record { sound = e.sound; names = e.names; size = e.size; breaks = e.breaks }

  pub found-given : (got : Result (Option ℕ) OpFault) → GivesReference before after m new r line (as_reference got) → GivesFound before after m new r line got
  found-given got g = record {
    ends = found-ends got g.ends;
    does = λ here names c attempt left h answers.
        does-as before after here.size (attempted line attempt (λ found. found_given found c))
        (attempted line (on_yield attempt value_of_object) (λ w. when_reference (Some form.Reference) (push_ref w (having (reading w) c)))) r new
        (sym (on-found line c attempt))
        (g.does here names c form.Reference (on_yield attempt value_of_object) left h (as-read got here c.store.held.objects names attempt answers));
  }

-- A pair was entered.
module _ (before after : Outside Space) (m : Machine) (line : Line) where
  entered-goes : (key : Key) (table v : Value) (c : Config) (h : Held) → enter_call key table v c.store.held ≡ Yields h
      → pair_entered line key table v c ≡ Goes [] (record c { store = on_held h c.store })
  entered-goes key table v c h is =
      ap (λ (a : Attempt Held). attempted line (on_yield a (answer_of Nothing)) (λ b. gives_nothing b c)) is

  pub enter-done : IsSound m → EndsEnter before after m m Quiet line (Ok tt)
  enter-done sound = record {
    ends = record { sound = sound; names = λ n lies. n; size = λ size is. is; breaks = λ bad. absurd (cc) };
    does = λ here names c key table v h done left.
        let was = c.store.held in
        let place = Under (id_of table) key in
        let e = alike-yields was place (enter_call key table v was) (with_entry was.objects table key v) done.0 (enters-alike key table v was) done.1 in
        let store = on_held e.0 c.store in
        let w = words_of m in
        let assigned = assigning place done.0 was in
        let counted = run-counting names w.writing w.asked w.directory assigned m.objects after e.2.0 (holding (asked_in h.run) done.2.run) in
        let run = subst (λ (held : Held). HoldsStore m.objects after names w.writing w.asked w.directory held) (sym e.2.1) counted in (
          [],
          record c { store = store },
          entered-goes key table v c e.0 e.1,
          refl,
          record {
            names = names;
            held = held-more here m.objects before after names names w c store done.2.carries h run refl refl;
          },
        );
  }

module _ (before after : Outside Space) (m new : Machine) (r : Stepped) (line : Line) where
  -- there was no room for a node of the table
  lacks-node : (here : area.Heap) (c : Config) (key : Key) (table v : Value) (h : Held) → enter_call key table v c.store.held ≡ Yields h
      → (fault : SwizzleFault) → LacksNode here fault → BreaksBy before after here.size (pair_entered line key table v c) fault
  lacks-node here c key table v h is (AreaFull top wanted size) (low, same, words, short) =
      node-full here m.objects before after (pair_entered line key table v c) c.store (record c { store = on_held h c.store }) key table v top wanted size
      (entered-goes before after m line key table v c h is) is words same short
  lacks-node here c key table v h is (Vault fault) lacks = absurd lacks

  pub enter-failed : (fault : OpFault) → IsSound new → r ≡ failed_of fault true → new ≡ failed_in fault line true m → EndsEnter before after m new r line (Err fault)
  enter-failed (op.Trap t) sound answer left = record {
    ends = failed-soundly m new r (λ unit. Unit {0}) line (op.Trap t) sound answer left;
    does = λ here names c key table v h done leaves.
        trap-does m new r before after line here.size t (on_yield (enter_call key table v c.store.held) (answer_of Nothing)) (λ a. gives_nothing a c) answer left
        (ap (λ (a : Attempt Held). on_yield a (answer_of Nothing))
        (alike-fails c.store.held (Under (id_of table) key) (enter_call key table v c.store.held) (with_entry c.store.held.objects table key v) t
        (enters-alike key table v c.store.held) done.0));
  }
  enter-failed (op.Swizzle fault) sound answer left = record {
    ends = failed-soundly m new r (λ unit. Unit {0}) line (op.Swizzle fault) sound answer left;
    does = λ here names c key table v h done leaves. broke here c key table v done;
  }
    where
      broke : (here : area.Heap) (c : Config) (key : Key) (table v : Value)
          → BreaksOff here m.objects before after fault ⊎ (LacksNode here fault × ((later : Heap) × (with_entry c.store.held.objects table key v ≡ Yields later)))
          → Does before after here.size (pair_entered line key table v c) r new
      broke here c key table v (inl off) = off-does m new r before after here (pair_entered line key table v c) fault answer left off
      broke here c key table v (inr (lacks, (later, is))) =
          let e = alike-yields c.store.held (Under (id_of table) key) (enter_call key table v c.store.held) (with_entry c.store.held.objects table key v) later
          (enters-alike key table v c.store.held) is in
          let s = pair_entered line key table v c in
          subst (λ (x : Stepped). Does before after here.size s x new) (sym answer)
          (subst (λ (n : Machine). BreaksBy before after here.size s n.fault) (sym left) (lacks-node here c key table v e.0 e.1 fault lacks))

-- a number that is an int is pushed
pub count-pushes : (line : Line) (count : ℕ) (c : Config) → is_int (pos count) ≡ true → count_pushed line count c ≡ push_num (pos count) c
count-pushes line count c low =
    ap (λ (b : Bool). attempted line (if b then Yields (answer_of (Num (pos count)) c.store.held) else Fails Overflow) (λ a. gives_num a c)) low

-- A number of pairs was told.
module _ (outside : Outside Space) (m new : Machine) (r : Stepped) (line : Line) where
  pub count-given : (count : ℕ) → r ≢ Breaks → Takes outside outside (count_pushed line count) m new r → GivesCount outside m new r line (Ok count)
  count-given count goes push = record {
    ends = record { sound = push.sound; names = λ n lies. push.names n; size = λ size is. size-then size is; breaks = goes };
    does = λ names c attempt h told.
        does-as outside outside m.objects.size (attempted line (then_try attempt (λ n. number_answered n c.store.held)) (λ a. gives_num a c))
        (count_pushed line count c) r new
        (ap (λ (a : Attempt ℕ). attempted line (then_try a (λ n. number_answered n c.store.held)) (λ b. gives_num b c)) told.1
        ∙ ap (λ (n : ℕ). count_pushed line n c) (sym told.2))
        (push.does c (record { names = names; held = h }));
  }
    where
      size-then : (size : ℕ) → m.objects.size ≡ size → UnlessBroken r (new.objects.size ≡ size)
      size-then size is = unless-broken r (λ e. e ∙ is) push.size

  pub count-failed : (fault : OpFault) → IsSound new → r ≡ failed_of fault true → new ≡ failed_in fault line true m → GivesCount outside m new r line (Err fault)
  count-failed (op.Trap t) sound answer left = record {
    ends = failed-soundly m new r (λ count. Unit {0}) line (op.Trap t) sound answer left;
    does = λ names c attempt h told.
        trap-does m new r outside outside line m.objects.size t (then_try attempt (λ n. number_answered n c.store.held)) (λ a. gives_num a c) answer left
        (ap (λ (a : Attempt ℕ). then_try a (λ n. number_answered n c.store.held)) told.0);
  }
  count-failed (op.Swizzle fault) sound answer left = record {
    ends = failed-soundly m new r (λ count. Unit {0}) line (op.Swizzle fault) sound answer left;
    does = λ names c attempt h off.
        off-does m new r outside outside m.objects (attempted line (then_try attempt (λ n. number_answered n c.store.held)) (λ a. gives_num a c)) fault answer left off;
  }
