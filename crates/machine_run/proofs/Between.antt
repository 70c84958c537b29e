-- What is known of a run between two steps.
use Rattle.std.proofs.Common.{◌≡◌, ◌⊎◌, inl, inr, ℕ, Bool, true, false, ◌+◌, ◌*◌, ◌<◌, ◌≤◌, ◌^◌, List, [], ◌∷◌, ◌++◌, length, refl, sym, ap, ◌∙◌, subst, append_assoc, arith}
use Rattle.std.specs.Prelude.{Result, Ok, Err}
use Rattle.std.proofs.lemmas.List.{append-nil}
use Rattle.ps_port.specs.ps_outside.Outside.{Outside, SameContents, Rose}
use Rattle.vault_output.specs.obj_layout.Stored.{Space}
use Rattle.vault_output.specs.obj_layout.declared.vault.VaultFault.TheVariants.{Device, Output, Full, NoPages, Damaged}
use Rattle.machine_core.specs.swizzle.Reading.{LeavesOutside, FailsReading}
use Rattle.machine_core.specs.swizzle.Heap.{IsHeap, object_at}
use Rattle.machine_core.specs.swizzle.declared.fault.SwizzleFault.{SwizzleFault}
use Rattle.machine_core.specs.swizzle.declared.fault.SwizzleFault.TheVariants.{AreaFull, Vault}
use Rattle.machine_core.proofs.of_swizzle.KeptLaws.{held_is}
use Rattle.machine_core.proofs.of_swizzle.ObjectLaws.{split}
use Rattle.machine_core.proofs.of_swizzle.TextLaws.{length-text}
use Rattle.machine_core.specs.ps_heap.Ends.{End, report_of}
use Rattle.machine_core.specs.ps_heap.Events.{Event, Turn, outputs, output_of}
use Rattle.machine_core.specs.ps_meaning.Meaning.{some_out}
use Rattle.machine_core.specs.ps_stepping.Config.{Config, code_in}
use Rattle.machine_core.specs.ps_stepping.Machine.{Step, Goes, Stops, Stuck, Steps, at_instruction}
use Rattle.machine_core.specs.ps_stepping.Path.{Reaches, no_step, more}
use Rattle.machine_core.specs.declared.machine.Machine.{Machine}
use Rattle.machine_core.specs.declared.run_end.RunEnd.{RunEnd}
use Rattle.machine_core.specs.declared.stepped.Stepped.TheVariants as stepped
use Rattle.machine_core.specs.Holding.{Holds, IsSound}
use Rattle.machine_core.specs.Items.{IsItem}
use Rattle.machine_core.specs.Naming.{NamesObjects}
use Rattle.machine_core.specs.Full.{BreaksBy}
use Rattle.machine_core.specs.ps_stepping.Plain.{PlainSteps, at_plain, at_another, at_none}
use Rattle.machine_core.specs.Stepped.{text_of, end_of, TakesStep}
use Rattle.machine_core.proofs.Callers.{as-many}
use Rattle.machine_core.proofs.Carrying.{breaks-earlier}
use Rattle.machine_run.specs.Ran.{LeavesAll, IsCause, TellsBut, FailsAfter, Ran, ended, broke, cut, report_cut}
use Rattle.machine_run.specs.inside.Advancing.{Advances, SendsOn, advanced_where, Reports, BlamesCode}
use Rattle.machine_run.specs.declared.run.Advanced.TheVariants.{On, Ended, Broke, Failed}
use Rattle.machine_run.proofs.Telling.{all-then, all-none, but-leaves, but-then, but-fails, leaves-but, leaves-fails}
use Rattle.machine_run.proofs.Dispatch.{code_of}
use Rattle.machine_run.proofs.Putting.{put-holds}
use Rattle.machine_run.proofs.Progress.{Left, left, nearer, IsNearer, by_turns, by_callers, by_bytes}

pub outputs-append : (xs ys : List Event) → outputs (xs ++ ys) ≡ outputs xs ++ outputs ys
outputs-append [] ys = refl
outputs-append (x ∷ xs) ys = ap (λ (bs : List ℕ). output_of x ++ bs) (outputs-append xs ys) ∙ sym (append_assoc (output_of x) (outputs xs) (outputs ys))

-- what an output tells
out_told : (bytes : List ℕ) (counted : ℕ) → outputs (some_out bytes counted) ≡ bytes
out_told [] counted = refl
out_told (b ∷ bytes) counted = append-nil (b ∷ bytes)

-- one step more at the end of a way
pub and_step : {c last next : Config} {before events : List Event} → Reaches c before last → Steps last (Goes events next) → Reaches c (before ++ events) next
and_step {c = c} {next = next} {events = events} no_step steps = subst (λ (es : List Event). Reaches c es next) (append-nil events) (more steps no_step)
and_step {c = c} {next = next} {events = events} (more {events = first} {behind = behind} step way) steps =
    subst (λ (es : List Event). Reaches c es next) (sym (append_assoc first behind events)) (more step (and_step way steps))

-- a step of the machine that goes on or stops is one of the definition
pub goes_plainly : {c : Config} {s : Step} (events : List Event) (next : Config) → PlainSteps c s → s ≡ Goes events next → Steps c (Goes events next)
goes_plainly {c = c} events next (at_plain at plain) is = subst (λ (s : Step). Steps c s) is (at_instruction at)
goes_plainly events next (at_another at other) is = absurd (let both : Stuck ≡ Goes events next = is in cc)
goes_plainly events next (at_none none) is = absurd (let both : Stuck ≡ Goes events next = is in cc)

pub stops_plainly : {c : Config} {s : Step} (e : End) (touched : ℕ) → PlainSteps c s → s ≡ Stops e touched → Steps c (Stops e touched)
stops_plainly {c = c} e touched (at_plain at plain) is = subst (λ (s : Step). Steps c s) is (at_instruction at)
stops_plainly e touched (at_another at other) is = absurd (let both : Stuck ≡ Stops e touched = is in cc)
stops_plainly e touched (at_none none) is = absurd (let both : Stuck ≡ Stops e touched = is in cc)

-- How many steps a run may take within a turn at most: by the bodies that wait, which are no more than 2,000, and then by the bytes of its code, which are
-- fewer than 2 ^ 32.
abbrev pub steps_left : Left → ℕ
steps_left l = l.callers * 2 ^ 32 + l.bytes

-- a run that has so many steps left before it takes another turn than these
abbrev pub IsWithin : ℕ → ℕ → Config → Type 0
IsWithin turns steps c = (c.store.turns < turns) ⊎ ((c.store.turns ≡ turns) × (steps_left (left c) < steps))

-- the bodies that wait are few, and the code of the one that runs is small
pub record IsSmall (c : Config) : Type 0 where
  pub few : length c.callers ≤ 2000
  pub small : length (code_in c.unit) < 2 ^ 32

pub small-within : (c : Config) → IsSmall c → IsWithin c.store.turns (2 ^ 43) c
small-within c s = inr (refl, omega (arith, s.few, s.small))

pub goes-within : (turns steps : ℕ) (c next : Config) → IsSmall next → IsNearer (left c) (left next) → IsWithin turns (steps + 1) c → IsWithin turns steps next
goes-within turns steps c next s (by_turns t) (inl low) = inl (omega (arith, t, low))
goes-within turns steps c next s (by_turns t) (inr same) = inl (let is = same.0 in omega (arith, t, is))
goes-within turns steps c next s (by_callers t k) (inl low) = inl (omega (arith, t, low))
goes-within turns steps c next s (by_callers t k) (inr same) =
    inr (t ∙ same.0, let low = same.1 in let small = s.small in omega (arith, k, low, small))
goes-within turns steps c next s (by_bytes t k r) (inl low) = inl (omega (arith, t, low))
goes-within turns steps c next s (by_bytes t k r) (inr same) = inr (t ∙ same.0, let low = same.1 in omega (arith, k, r, low))

-- where no steps are left, a turn was taken
pub taken-turn : (turns : ℕ) (c : Config) → IsWithin turns 0 c → c.store.turns < turns
taken-turn turns c (inl low) = low
taken-turn turns c (inr same) = let low = same.1 in omega (arith, low)

pub is-small : (outside : Outside Space) (m : Machine) (c : Config) → IsHeap m.objects → IsSound m → Holds outside m c → IsSmall c
is-small outside m c heap sound h =
    let k = h.held in
    let many = as-many m.objects outside h.names m.callers.items m.nums.below m.refs.below c.callers k.callers_are in
    let fit = (split 1 m.objects.objects m.code (object_at m.objects m.code) heap.fit (held_is m.objects m.code k.unit_is.held)).fit in
    let fields = fit.fields in
    let long = length-text (object_at m.objects m.code) fit in
    let same = ap length (code_of outside m c heap h) in
    let few = sound.waiting.few in
    record { few = omega (arith, few, many, m.callers.ok.0); small = omega (arith, fields, long, same) }

-- From a configuration that the first machine holds some steps lead to one that the present machine holds, and what they output was output but for what
-- is pending.
pub record IsAway (old now : Outside Space) (owed rest : List ℕ) (c : Config) (m : Machine) (turns steps : ℕ) : Type 0 where
  pub events : List Event
  pub last : Config
  pub way : Reaches c events last
  pub holds : Holds now m last
  pub tells : TellsBut old now (owed ++ outputs events) rest
  pub within : IsWithin turns steps last

pub record IsBetween (old now : Outside Space) (owed rest : List ℕ) (m m' : Machine) (turns steps : ℕ) : Type 0 where
  pub size : m'.objects.size ≡ m.objects.size
  pub leaves : LeavesAll old now
  pub way : (c : Config) → Holds old m c → IsAway old now owed rest c m' turns steps

module _ (old : Outside Space) (owed : List ℕ) (m : Machine) where
  pub between_none : IsHeap m.objects → IsSound m → LeavesAll old old → IsBetween old old owed owed m m m.turns (2 ^ 43)
  between_none heap sound leaves = record {
    size = refl;
    leaves = leaves;
    way = λ c h. record {
      events = [];
      last = c;
      way = no_step;
      holds = h;
      tells = record { sent = []; due_is = append-nil owed; tells = all-none old };
      within = subst (λ (n : ℕ). IsWithin n (2 ^ 43) c) h.held.turns_are (small-within c (is-small old m c heap sound h));
    };
  }

module _ (old now new : Outside Space) (owed left rest : List ℕ) (m m' next : Machine) (turns : ℕ) where
  -- one step more
  pub between_more : (steps : ℕ) → IsHeap next.objects → IsSound next → LeavesAll old new → IsBetween old now owed left m m' turns (steps + 1)
      → Advances now new left rest m' next On → IsBetween old new owed rest m next turns steps
  between_more steps heap sound leaves b a = record {
    size = a.size ∙ b.size;
    leaves = leaves;
    way = λ c h.
        let w = b.way c h in
        let by = a.by w.last w.holds in
        let events = by.2.0 in
        let last = by.2.1 in
        let step = goes_plainly events last by.1 by.2.2 in
        record {
          events = w.events ++ events;
          last = last;
          way = and_step w.way step;
          holds = by.2.3;
          tells = subst (λ (bs : List ℕ). TellsBut old new bs rest)
              (append_assoc owed (outputs w.events) (outputs events) ∙ ap (λ (bs : List ℕ). owed ++ bs) (sym (outputs-append w.events events)))
              (but-then old now new (owed ++ outputs w.events) left (outputs events) rest w.tells by.2.4);
          within = goes-within turns steps w.last last (is-small new next last heap sound by.2.3) (nearer by.1 events last by.2.2).0 w.within;
        };
  }

  module _ {steps : ℕ} (b : IsBetween old now owed left m m' turns steps) where
    -- the output fails in a step
    pub between_fails : Advances now new left rest m' next Failed → (c : Config) → Holds old m c → Ran old new owed rest m.objects.size c (Err (Vault Output))
    between_fails a c h =
        let w = b.way c h in
        let by = a.by w.last w.holds in
        cut (and_step w.way (goes_plainly by.2.0 by.2.1 by.1 by.2.2))
        (subst (λ (bs : List ℕ). FailsAfter old new bs)
        (append_assoc owed (outputs w.events) (outputs by.2.0) ∙ ap (λ (bs : List ℕ). owed ++ bs) (sym (outputs-append w.events by.2.0)))
        (but-fails old now new (owed ++ outputs w.events) left (outputs by.2.0) w.tells by.2.3)) a.cleared

    -- what is pending after a step that output nothing
    still_owed : (due : List ℕ) → TellsBut old now due left → TellsBut now new left rest → TellsBut old new due rest
    still_owed due first then = record {
      sent = first.sent ++ then.sent;
      due_is = first.due_is ∙ ap (λ (xs : List ℕ). first.sent ++ xs) then.due_is ∙ sym (append_assoc first.sent then.sent rest);
      tells = all-then old now new first.sent then.sent first.tells then.tells;
    }

    -- the run breaks off
    pub between_breaks : Advances now new left rest m' next Broke → (c : Config) → Holds old m c → Ran old new owed rest m.objects.size c (Err next.fault)
    between_breaks a c h =
        let w = b.way c h in
        let by = a.by w.last w.holds in
        broke w.way by.1
        (breaks-earlier old now new m.objects.size by.0 next.fault b.leaves.contents b.leaves.device
        (subst (λ (n : ℕ). BreaksBy now new n by.0 next.fault) b.size by.2.0))
        (still_owed (owed ++ outputs w.events) w.tells by.2.1)

    -- the run stops, and the report is output, or the output fails in it
    pub between_ends : (final : Outside Space) (most : List ℕ) (r : Result RunEnd SwizzleFault) → Advances now new left rest m' next Ended
        → Reports new final rest most next.end r → (c : Config) → Holds old m c → Ran old final owed most m.objects.size c r
    between_ends final most (Ok answer) a report c h =
        let w = b.way c h in
        let by = a.by w.last w.holds in
        let told = still_owed (owed ++ outputs w.events) w.tells by.2.2 in
        subst (λ (x : RunEnd). Ran old final owed most m.objects.size c (Ok x)) (sym report.0)
        (ended w.way (stops_plainly (end_of next.end) by.2.0 by.1 by.2.1)
        (subst (λ (bs : List ℕ). TellsBut old final bs most) (append_assoc owed (outputs w.events) (report_of (end_of next.end)))
        (but-then old new final (owed ++ outputs w.events) rest (report_of (end_of next.end)) most told report.1)))
    between_ends final most (Err f) a report c h =
        let w = b.way c h in
        let by = a.by w.last w.holds in
        let told = still_owed (owed ++ outputs w.events) w.tells by.2.2 in
        subst (λ (x : SwizzleFault). Ran old final owed most m.objects.size c (Err x)) (sym report.0)
        (report_cut next.end w.way (stops_plainly (end_of next.end) by.2.0 by.1 by.2.1)
        (subst (λ (bs : List ℕ). FailsAfter old final bs) (append_assoc owed (outputs w.events) (report_of (end_of next.end)))
        (but-fails old new final (owed ++ outputs w.events) rest (report_of (end_of next.end)) told report.1)) report.2)

-- where all steps of a turn were taken, a turn was
pub between_turns : (old now : Outside Space) (owed owes : List ℕ) (m m' : Machine) (turns : ℕ) → turns ≤ m'.turns → IsBetween old now owed owes m m' turns 0
    → (c : Config) → Holds old m c → ⊥
between_turns old now owed owes m m' turns high b c h =
    let w = b.way c h in
    let low = taken-turn turns w.last w.within in
    let same = w.holds.held.turns_are in
    omega (arith, low, same, high)

-- and then as many are left of the next one
pub between_again : (old now : Outside Space) (owed left : List ℕ) (m m' : Machine) (turns : ℕ) → IsHeap m'.objects → IsSound m'
    → IsBetween old now owed left m m' turns 0 → IsBetween old now owed left m m' m'.turns (2 ^ 43)
between_again old now owed left m m' turns heap sound b = record {
  size = b.size;
  leaves = b.leaves;
  way = λ c h.
      let w = b.way c h in
      record {
        events = w.events;
        last = w.last;
        way = w.way;
        holds = w.holds;
        tells = w.tells;
        within = subst (λ (n : ℕ). IsWithin n (2 ^ 43) w.last) w.holds.held.turns_are (small-within w.last (is-small now m' w.last heap sound w.holds));
      };
}

-- what a write writes is an item of the machine
pub item-written : (m : Machine) → NamesObjects m → IsItem m.objects m.writing.item
item-written m n = n.item

-- What a step returns.
module _ (old new : Outside Space) (owed : List ℕ) (m m' : Machine) (quiet : LeavesOutside old new) where
  pub advance_quiet : TakesStep old new m m' stepped.Quiet → Advances old new owed owed m m' On
  advance_quiet t = record {
    size = t.size;
    cleared = tt;
    by = λ c h.
        let d = t.does c h in (
          d.0,
          d.1,
          (
            d.2.0,
            d.2.1,
            d.2.2,
            d.2.4,
            subst (λ (bs : List ℕ). TellsBut old new bs owed) (sym (append-nil owed) ∙ ap (λ (bs : List ℕ). owed ++ bs) (sym d.2.3))
                (but-leaves old new owed quiet),
          ),
        );
  }

  pub advance_halts : TakesStep old new m m' stepped.Halts → Advances old new owed owed m m' Ended
  advance_halts t = record { size = tt; cleared = tt; by = λ c h. let d = t.does c h in (d.0, d.1, (d.2.0, d.2.1, but-leaves old new owed quiet)) }

  pub advance_breaks : TakesStep old new m m' stepped.Breaks → Advances old new owed owed m m' Broke
  advance_breaks t = record { size = tt; cleared = tt; by = λ c h. let d = t.does c h in (d.0, d.1, (d.2, but-leaves old new owed quiet)) }

  -- there is no step, and the code is blamed
  pub advance_damaged : (at : ℕ) (fault : SwizzleFault) → BlamesCode m' at fault → TakesStep old new m m' stepped.Damaged
      → Advances old new owed owed m (record m' { fault = fault }) Broke
  advance_damaged at fault blames t = record {
    size = tt;
    cleared = tt;
    by = λ c h.
        let d = t.does c h in
        (d.0, d.1, (subst (λ (f : SwizzleFault). BreaksBy old new m.objects.size d.0 f) (sym blames) d.2, but-leaves old new owed quiet));
  }

  module _ (last : Outside Space) (left : List ℕ) (sound : IsHeap m'.objects) (same : SameContents new last) where
    pub advance_turned : (sent : Bool) → TakesStep old new m m' stepped.Turns → (sent ≡ false → left ≡ []) → SendsOn new last owed left sent
        → Advances old last owed left m m' (advanced_where sent)
    advance_turned true t cleared told = record {
      size = t.size;
      cleared = tt;
      by = λ c h.
          let d = t.does c h in (
            d.0,
            d.1,
            (
              Turn d.2.0 ∷ [],
              d.2.1,
              d.2.2,
              put-holds m' new last d.2.1 sound same d.2.3,
              subst (λ (bs : List ℕ). TellsBut old last bs left) (sym (append-nil owed)) (leaves-but old new last owed left quiet told),
            ),
          );
    }
    advance_turned false t cleared told = record {
      size = tt;
      cleared = cleared refl;
      by = λ c h.
          let d = t.does c h in (
            d.0,
            d.1,
            (
              Turn d.2.0 ∷ [],
              d.2.1,
              d.2.2,
              subst (λ (bs : List ℕ). FailsAfter old last bs) (sym (append-nil owed)) (leaves-fails old new last owed quiet told),
            ),
          );
    }

    pub advance_wrote : (sent : Bool) → TakesStep old new m m' stepped.Writes → (sent ≡ false → left ≡ [])
        → SendsOn new last (owed ++ text_of m'.objects m'.writing) left sent → Advances old last owed left m m' (advanced_where sent)
    advance_wrote true t cleared told = record {
      size = t.size;
      cleared = tt;
      by = λ c h.
          let d = t.does c h in
          let bytes = text_of m'.objects m'.writing in
          let out = some_out bytes d.2.0.store.held.counted in (
            d.0,
            d.1,
            (
              out,
              d.2.0,
              d.2.1,
              put-holds m' new last d.2.0 sound same d.2.3,
              subst (λ (bs : List ℕ). TellsBut old last (owed ++ bs) left) (sym (out_told bytes d.2.0.store.held.counted))
                  (leaves-but old new last (owed ++ bytes) left quiet told),
            ),
          );
    }
    advance_wrote false t cleared told = record {
      size = tt;
      cleared = cleared refl;
      by = λ c h.
          let d = t.does c h in
          let bytes = text_of m'.objects m'.writing in
          let out = some_out bytes d.2.0.store.held.counted in (
            d.0,
            d.1,
            (
              out,
              d.2.0,
              d.2.1,
              subst (λ (bs : List ℕ). FailsAfter old last (owed ++ bs)) (sym (out_told bytes d.2.0.store.held.counted))
                  (leaves-fails old new last (owed ++ bytes) quiet told),
            ),
          );
    }

-- Why a step broke off, whatever the machine stands for.
pub reading-cause : (old new : Outside Space) (f : SwizzleFault) → FailsReading old new f → IsCause old new f
reading-cause old new (AreaFull top wanted size) r = tt
reading-cause old new (Vault Device) r = r.cause refl
reading-cause old new (Vault Output) r = absurd (r.other refl)
reading-cause old new (Vault (Full used wanted capacity)) r = r.full used wanted capacity refl
reading-cause old new (Vault (NoPages held wanted pages)) r = r.pages held wanted pages refl
reading-cause old new (Vault (Damaged at found wanted)) r = tt

rose-then : (a b c : ℕ) → a ≤ b → Rose b c → Rose a c
rose-then a b c le (inl rise) = inl (omega (arith, le, rise))
rose-then a b c le (inr last) = inr last

-- it has the same cause in a run that began before
pub cause-then : (old now new : Outside Space) (f : SwizzleFault) → LeavesAll old now → IsCause now new f → IsCause old new f
cause-then old now new (AreaFull top wanted size) l r = tt
cause-then old now new (Vault Device) l r = rose-then old.device_faults now.device_faults new.device_faults l.device r
cause-then old now new (Vault Output) l r = rose-then old.output_faults now.output_faults new.output_faults l.output r
cause-then old now new (Vault (Full used wanted capacity)) l r = r
cause-then old now new (Vault (NoPages held wanted pages)) l r = r
cause-then old now new (Vault (Damaged at found wanted)) l r = tt
