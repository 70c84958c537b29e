-- One instruction that isn't of databases, and one step.
use Rattle.std.proofs.Common.{◌≡◌, ◌⊎◌, inl, inr, ℕ, ◌+◌, ◌≤◌, Bool, true, false, List, [], ◌∷◌, ◌++◌, refl, sym, ap, ◌∙◌, subst, arith}
use Rattle.std.specs.Prelude.{if◌then◌else◌, Some, None, Result, Ok, Err}
use Rattle.std.proofs.lemmas.List.{append-nil}
use Rattle.ps_base.specs.Instr.{width_of}
use Rattle.ps_base.specs.declared.instr.Instr.{Instr}
use Rattle.commit_moments.specs.Steps.{AreQuiet}
use Rattle.machine_core.specs.ps_outside.Outside.{Outside, SameContents, Rose, Telling}
use Rattle.ps_outside.proofs.PastMoments.{past_none, past_along, past_then}
use Rattle.machine_core.specs.obj_layout.Stored.{Space}
use Rattle.machine_core.specs.obj_layout.declared.vault.VaultFault.TheVariants.{Device, Output, Full, NoPages, Damaged}
use Rattle.machine_core.specs.obj_layout.Storing.{Access, Puts}
use Rattle.machine_core.specs.obj_layout.declared.vault.VaultFault.{VaultFault}
use Rattle.machine_core.specs.swizzle.Reading.{LeavesOutside, FailsReading}
use Rattle.machine_core.specs.swizzle.Heap.{IsHeap}
use Rattle.machine_core.specs.swizzle.Text.{text_at}
use Rattle.machine_core.specs.swizzle.declared.fault.SwizzleFault.{SwizzleFault}
use Rattle.machine_core.specs.swizzle.declared.fault.SwizzleFault.TheVariants.{AreaFull, Vault}
use Rattle.machine_core.specs.proc_values.Reading.{IsInstrIn}
use Rattle.machine_core.specs.ps_heap.Events.{Event, Turn, outputs}
use Rattle.machine_core.specs.ps_meaning.Meaning.{some_out}
use Rattle.machine_core.specs.ps_stepping.Config.{Config, IsAt, code_in}
use Rattle.machine_core.specs.ps_stepping.Machine.{Step, Goes, Stops, Stuck, Steps, at_instruction, at_nothing, acts, act, behind}
use Rattle.machine_core.specs.ps_stepping.Plain.{is_plain, acts_plainly, PlainSteps, at_plain}
use Rattle.machine_core.specs.declared.machine.Machine.{Machine}
use Rattle.machine_core.specs.declared.run_end.RunEnd.{RunEnd}
use Rattle.machine_core.specs.declared.stepped.Stepped.{Stepped}
use Rattle.machine_core.specs.declared.stepped.Stepped.TheVariants as stepped
use Rattle.machine_core.specs.Holding.{Holds}
use Rattle.machine_core.specs.Full.{BreaksBy}
use Rattle.machine_core.specs.Stepped.{Does as DoesStep, end_of, text_of, Takes}
use Rattle.machine_run.specs.Ran.{LeavesAll, TellsBut, FailsAfter}
use Rattle.machine_run.specs.inside.Advancing.{BlamesCode, SendsOn, Reports}
use Rattle.machine_run.proofs.Telling.{but-leaves, leaves-but, leaves-fails}
use Rattle.machine_run.proofs.Putting.{put-holds}
use Rattle.machine_run.proofs.Dispatch.{at_offset, at_machine, holds_after}
use Rattle.machine_run.proofs.Between.{outputs-append}
use Rattle.machine_commits.specs.Committing.{FailsBy, IsSilent}
use Rattle.database_steps.specs.Databases.{IsAlone}
use Rattle.database_steps.proofs.Steps.{is_quiet}
use Rattle.session_run.specs.Kept.{steps_of}
use Rattle.session_run.specs.Ran.{GoesOn, IsCause, HasDone, IsCut}
use Rattle.session_run.specs.inside.Advancing.{PlainlyTo, Plainly, ComesTo, Comes, Does, plainly, called, Advances, advanced_where, WhereFailed}
use Rattle.session_run.specs.declared.advanced.Advanced.{Advanced}
use Rattle.session_run.specs.declared.advanced.Advanced.TheVariants.{On, Ended, Broke, Failed}
use Rattle.session_run.proofs.Moments.{told-steps, quiet-steps, done-quietly, cut-quietly}

-- what an output tells
out_told : (bytes : List ℕ) (counted : ℕ) → outputs (some_out bytes counted) ≡ bytes
out_told [] counted = refl
out_told (b ∷ bytes) counted = append-nil (b ∷ bytes)

-- an instruction that isn't of databases does what it says
pub plain-is : (i : Instr) (own : ℕ) (c : Config) → is_plain i ≡ true → acts_plainly i own c ≡ acts i own c
plain-is i own c plain = ap (λ (b : Bool). if b then acts i own c else Stuck) plain

-- What came of the step of such an instruction.
module _ (old new : Outside Space) (owed : List ℕ) (i : Instr) (own : ℕ) (plain : is_plain i ≡ true) (m m' : Machine) (quiet : LeavesOutside old new) where
  abbrev Took : Stepped → Type 0
  Took r = Takes old new (acts_plainly i own) m m' r

  pub plain-quiet : Took stepped.Quiet → Plainly old new owed owed (acts i own) m m' On
  plain-quiet t = record {
    size = t.size;
    cleared = tt;
    by = λ c h.
        let d = t.does c h in (
          d.0,
          d.1,
          sym (plain-is i own c plain) ∙ d.2,
          d.4,
          subst (λ (bs : List ℕ). TellsBut old new bs owed) (sym (append-nil owed) ∙ ap (λ (bs : List ℕ). owed ++ bs) (sym d.3)) (but-leaves old new owed quiet),
        );
  }

  pub plain-halts : Took stepped.Halts → Plainly old new owed owed (acts i own) m m' Ended
  plain-halts t = record {
    size = tt;
    cleared = tt;
    by = λ c h. let d = t.does c h in (d.0, sym (plain-is i own c plain) ∙ d.1, but-leaves old new owed quiet);
  }

  pub plain-breaks : Took stepped.Breaks → Plainly old new owed owed (acts i own) m m' Broke
  plain-breaks t = record {
    size = tt;
    cleared = tt;
    by = λ c h. (
      subst (λ (s : Step). BreaksBy old new m.objects.size s m'.fault) (plain-is i own c plain) (t.does c h),
      but-leaves old new owed quiet,
    );
  }

  -- there is no step, and the code is blamed
  pub plain-damaged : (at : ℕ) (fault : SwizzleFault) → BlamesCode m' at fault → Took stepped.Damaged
      → Plainly old new owed owed (acts i own) m (record m' { fault = fault }) Broke
  plain-damaged at fault blames t = record {
    size = tt;
    cleared = tt;
    by = λ c h. (
      subst (λ (f : SwizzleFault). BreaksBy old new m.objects.size (acts i own c) f) (sym blames) (sym (plain-is i own c plain) ∙ t.does c h),
      but-leaves old new owed quiet,
    );
  }

  module _ (last : Outside Space) (left : List ℕ) (sound : IsHeap m'.objects) (same : SameContents new last) where
    pub plain-turned : (sent : Bool) → Took stepped.Turns → (sent ≡ false → left ≡ []) → SendsOn new last owed left sent
        → Plainly old last owed left (acts i own) m m' (advanced_where sent)
    plain-turned true t cleared told = record {
      size = t.size;
      cleared = tt;
      by = λ c h.
          let d = t.does c h in (
            Turn d.0 ∷ [],
            d.1,
            sym (plain-is i own c plain) ∙ d.2,
            put-holds m' new last d.1 sound same d.3,
            subst (λ (bs : List ℕ). TellsBut old last bs left) (sym (append-nil owed)) (leaves-but old new last owed left quiet told),
          );
    }
    plain-turned false t cleared told = record {
      size = tt;
      cleared = cleared refl;
      by = λ c h.
          let d = t.does c h in (
            Turn d.0 ∷ [],
            d.1,
            sym (plain-is i own c plain) ∙ d.2,
            subst (λ (bs : List ℕ). FailsAfter old last bs) (sym (append-nil owed)) (leaves-fails old new last owed quiet told),
          );
    }

    pub plain-wrote : (sent : Bool) → Took stepped.Writes → (sent ≡ false → left ≡ [])
        → SendsOn new last (owed ++ text_of m'.objects m'.writing) left sent → Plainly old last owed left (acts i own) m m' (advanced_where sent)
    plain-wrote true t cleared told = record {
      size = t.size;
      cleared = tt;
      by = λ c h.
          let d = t.does c h in
          let bytes = text_of m'.objects m'.writing in (
            some_out bytes d.0.store.held.counted,
            d.0,
            sym (plain-is i own c plain) ∙ d.1,
            put-holds m' new last d.0 sound same d.3,
            subst (λ (bs : List ℕ). TellsBut old last (owed ++ bs) left) (sym (out_told bytes d.0.store.held.counted)) (leaves-but old new last (owed ++ bytes) left quiet told),
          );
    }
    plain-wrote false t cleared told = record {
      size = tt;
      cleared = cleared refl;
      by = λ c h.
          let d = t.does c h in
          let bytes = text_of m'.objects m'.writing in (
            some_out bytes d.0.store.held.counted,
            d.0,
            sym (plain-is i own c plain) ∙ d.1,
            subst (λ (bs : List ℕ). FailsAfter old last (owed ++ bs)) (sym (out_told bytes d.0.store.held.counted)) (leaves-fails old new last (owed ++ bytes) quiet told),
          );
    }

-- What is seen of the moments before stays.

pub goes-none : (a : Outside Space) → GoesOn a a
goes-none a = record { told = past_none a.clock a.told; past = past_none a.clock a.images; device = omega arith; output = omega arith }

pub goes-then : (a b c : Outside Space) → GoesOn a b → GoesOn b c → GoesOn a c
goes-then a b c first next = record {
  told = past_then first.told next.told;
  past = past_then first.past next.past;
  device = let one = first.device in let two = next.device in omega (arith, one, two);
  output = let one = first.output in let two = next.output in omega (arith, one, two);
}

pub goes-leaves : (a b : Outside Space) → LeavesOutside a b → GoesOn a b
goes-leaves a b l = record { told = past_along l.told; past = past_along l.images; device = l.counts; output = let same = l.output in omega (arith, same) }

-- Causes.

pub cause-reading : {L : Type 0} (access : Access L) (old new : Outside Space) (f : SwizzleFault) → FailsReading old new f → IsCause old new access f
cause-reading access old new (AreaFull top wanted size) r = tt
cause-reading access old new (Vault Device) r = r.cause refl
cause-reading access old new (Vault Output) r = absurd (r.other refl)
cause-reading access old new (Vault (Full used wanted capacity)) r = absurd (r.full used wanted capacity refl)
cause-reading access old new (Vault (NoPages held wanted pages)) r = absurd (r.pages held wanted pages refl)
cause-reading access old new (Vault (Damaged at found wanted)) r = tt

pub rose-then : (a b c : ℕ) → a ≤ b → Rose b c → Rose a c
rose-then a b c le (inl rise) = inl (omega (arith, le, rise))
rose-then a b c le (inr last) = inr last

-- it has the same cause in a run that began before
pub cause-then : {L : Type 0} (access : Access L) (old now new : Outside Space) (f : SwizzleFault) → GoesOn old now → IsCause now new access f → IsCause old new access f
cause-then access old now new (AreaFull top wanted size) l r = tt
cause-then access old now new (Vault Device) l r = rose-then old.device_faults now.device_faults new.device_faults l.device r
cause-then access old now new (Vault Output) l r = rose-then old.output_faults now.output_faults new.output_faults l.output r
cause-then access old now new (Vault (Full used wanted capacity)) l r = r
cause-then access old now new (Vault (NoPages held wanted pages)) l r = r
cause-then access old now new (Vault (Damaged at found wanted)) l r = tt

-- The whole step.
module _ (old new : Outside Space) (owed left : List ℕ) (m m' : Machine) (heap : IsHeap m.objects) where
  -- events of a step that isn't of databases
  quietly : (c : Config) (i : Instr) (events : List Event) (next : Config) → IsAt (code_in c.unit) c.at i → is_plain i ≡ true → act i c ≡ Goes events next
      → AreQuiet (steps_of events)
  quietly c i events next at plain is = quiet-steps events (is_quiet c next events (subst (λ (s : Step). PlainSteps c s) is (at_plain at plain)))

  module _ (i : Instr) (own next : ℕ) (offset : own ≡ m.at) (spelled : IsInstrIn (text_at m.objects m.code) m.at (Some (i, next))) where
    -- the configuration after the instruction
    after-holds : (c : Config) → Holds old m c → Holds old (record m { at = next }) (behind i c)
    after-holds c h = holds_after old m c i next h spelled.next_is

    there : (c : Config) → Holds old m c → IsAt (code_in c.unit) c.at i
    there c h = at_offset old old m heap c i next h spelled

    plain-comes : (answer : Advanced) (c : Config) (at : IsAt (code_in c.unit) c.at i) → is_plain i ≡ true → (size : ℕ)
        → PlainlyTo old new owed left size (act i c) m' answer → (answer ≡ Failed → left ≡ []) → ComesTo old new owed left size (act i c) m' answer
    plain-comes On c at plain size p none =
        let quiet = quietly c i p.0 p.1 at plain p.2 in
        (p.0, p.1, p.2, p.3, done-quietly old new owed left (steps_of p.0) quiet (subst (λ (bs : List ℕ). TellsBut old new (owed ++ bs) left) (sym (told-steps p.0)) p.4))
    plain-comes Ended c at plain size p none =
        (p.0, p.1, done-quietly old new owed left [] tt (subst (λ (bs : List ℕ). TellsBut old new bs left) (sym (append-nil owed)) p.2))
    plain-comes Broke c at plain size p none =
        inl (inl p.0, done-quietly old new owed left [] tt (subst (λ (bs : List ℕ). TellsBut old new bs left) (sym (append-nil owed)) p.1))
    plain-comes Failed c at plain size p none =
        let quiet = quietly c i p.0 p.1 at plain p.2 in
        inr (p.0, p.1, p.2, cut-quietly old new owed left (steps_of p.0) quiet (subst (λ (bs : List ℕ). FailsAfter old new (owed ++ bs)) (sym (told-steps p.0)) p.3) (none refl))

    pub step-comes : (answer : Advanced) → Does old new owed left i own (record m { at = next }) m' answer → Advances old new owed left m m' answer
    step-comes answer (plainly plain p) = record {
      size = p.size;
      by = λ c h alone. (
        act i c,
        at_instruction (there c h),
        plain-comes answer c (there c h) plain m.objects.size
            (subst (λ (n : ℕ). PlainlyTo old new owed left m.objects.size (acts i n (behind i c)) m' answer) (offset ∙ sym h.held.at_is) (p.by (behind i c) (after-holds c h)))
            (cleared answer p.cleared),
      );
    }
      where
        cleared : (a : Advanced) → WhereFailed a (left ≡ []) → a ≡ Failed → left ≡ []
        cleared Failed so is = so
        cleared On so is = absurd (let bad : On ≡ Failed = is in cc)
        cleared Ended so is = absurd (let bad : Ended ≡ Failed = is in cc)
        cleared Broke so is = absurd (let bad : Broke ≡ Failed = is in cc)
    step-comes answer (called k) = record {
      size = k.size;
      by = λ c h alone. (
        act i c,
        at_instruction (there c h),
        subst (λ (n : ℕ). ComesTo old new owed left m.objects.size (acts i n (behind i c)) m' answer) (offset ∙ sym h.held.at_is) (k.by (behind i c) (after-holds c h) alone),
      );
    }

-- where there is no instruction, the run is stuck, and the code is blamed
pub nothing-comes : (old : Outside Space) (owed : List ℕ) (m : Machine) (heap : IsHeap m.objects) (at : ℕ) (fault : SwizzleFault) → BlamesCode m at fault
    → IsInstrIn (text_at m.objects m.code) m.at None → LeavesOutside old old → Advances old old owed owed m (record m { fault = fault }) Broke
nothing-comes old owed m heap at fault blames none quiet = record {
  size = tt;
  by = λ c h alone. (
    Stuck,
    at_nothing (λ i there. none i (m.at + width_of i) (at_machine old old m heap c i h there)),
    inl (
      inl (subst (λ (f : SwizzleFault). BreaksBy old old m.objects.size Stuck f) (sym blames) refl),
      done-quietly old old owed owed [] tt (subst (λ (bs : List ℕ). TellsBut old old bs owed) (sym (append-nil owed)) (but-leaves old old owed quiet)),
    ),
  );
}

-- What was sent, or failed to be.

pub goes-told : {P : List ℕ → Type 0} (a b : Outside Space) → Telling a b P → LeavesAll a b → GoesOn a b
goes-told a b told l = record { told = past_along told; past = past_along l.images; device = l.device; output = l.output }

pub goes-sent : (a b : Outside Space) (owed left : List ℕ) (sent : Bool) → SendsOn a b owed left sent → GoesOn a b
goes-sent a b owed left true t = goes-told a b t.tells.first.told t.tells.first.leaves
goes-sent a b owed left false f = goes-told a b f.first.told f.first.leaves

pub goes-reported : (a b : Outside Space) (owed left : List ℕ) (e : RunEnd) (r : Result RunEnd SwizzleFault) → Reports a b owed left e r → GoesOn a b
goes-reported a b owed left e (Ok answer) told = let t = told.1 in goes-told a b t.tells.first.told t.tells.first.leaves
goes-reported a b owed left e (Err fault) told = let f = told.1 in goes-told a b f.first.told f.first.leaves

-- the output failed in it
pub rose-sent : (a b : Outside Space) (owed left : List ℕ) → SendsOn a b owed left false → Rose a.output_faults b.output_faults
rose-sent a b owed left f = f.rose

pub goes-put : {T : Type 0} (a b : Outside Space) (bytes : List ℕ) (r : Result T VaultFault) → Puts a b bytes r → GoesOn a b
goes-put a b bytes r p = record {
  told = past_along p.told;
  past = past_along p.images;
  device = let same = p.device in omega (arith, same);
  output = p.counts;
}

pub goes-silent : (a b : Outside Space) → IsSilent a b → GoesOn a b
goes-silent a b s = record { told = past_along s.told; past = s.past; device = s.device; output = let same = s.output in omega (arith, same) }

-- why a commit broke off
pub cause-commit : {L : Type 0} (access : Access L) (old new : Outside Space) (f : SwizzleFault) → FailsBy old new access f → IsCause old new access f
cause-commit access old new (AreaFull top wanted size) r = tt
cause-commit access old new (Vault Device) r = r
cause-commit access old new (Vault Output) r = absurd r
cause-commit access old new (Vault (Full used wanted capacity)) r = r
cause-commit access old new (Vault (NoPages held wanted pages)) r = r
cause-commit access old new (Vault (Damaged at found wanted)) r = tt
