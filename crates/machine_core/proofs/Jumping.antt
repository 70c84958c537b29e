-- Steps that change the offset and the turns alone.
use Rattle.std.proofs.Common.{◌≡◌, ℕ, suc, ◌+◌, ◌<◌, ◌≤◌, ℤ, pos, Bool, true, false, List, [], ◌∷◌, Some, None, refl, sym, ap, ◌∙◌, arith}
use Rattle.std.specs.Prelude.{◌+ℤ◌, if◌then◌else◌}
use Rattle.std.proofs.lemmas.Bool.{lt-ltb, le-ltb, ltb-false}
use Rattle.ps_base.specs.declared.line.Line.{Line}
use Rattle.ps_base.specs.declared.trap.Trap.TheVariants.{Bounds}
use Rattle.joint_ops.specs.ps_outside.Outside.{Outside}
use Rattle.joint_ops.specs.obj_layout.Stored.{Space}
use Rattle.ps_stepping.specs.ps_heap.Ends.{Trapped}
use Rattle.ps_stepping.specs.ps_heap.Events.{Event, Turn, outputs}
use Rattle.ps_stepping.specs.ps_meaning.Meaning.{Store, with_turns, spent}
use Rattle.ps_stepping.specs.ps_heap.Operators.{is_same}
use Rattle.ps_stepping.specs.ps_meaning.Loops.{goes_on}
use Rattle.ps_stepping.specs.Config.{Config, frame_in}
use Rattle.ps_stepping.specs.Machine.{Step, Goes, Stops, Stuck, on, forward, turn_to, started, for_start, counted, for_next, is_num_slot}
use Rattle.machine_core.specs.declared.machine.Machine.{Machine}
use Rattle.machine_core.specs.declared.stepped.Stepped.{Stepped}
use Rattle.machine_core.specs.declared.stepped.Stepped.TheVariants.{Damaged}
use Rattle.machine_core.specs.Holding.{Holds, Standing, IsSound, words_of}
use Rattle.machine_core.specs.Stepped.{Takes}
use Rattle.machine_core.specs.inside.Taking.{ReadsNum}
use Rattle.machine_core.proofs.Between.{same-held, stuck-there}

module _ (m : Machine) (outside : Outside Space) (c : Config) (h : Holds outside m c) where
  abbrev At : ℕ → ℕ → Config → Type 0
  At at turns d = Standing m.objects outside (record (words_of m) { at = at; turns = turns }) d

  -- at another offset
  pub stands_at : (to : ℕ) → At to m.turns (record c { at = to })
  stands_at to = record {
    names = h.names;
    held = record {
      unit_is = h.held.unit_is;
      fit = h.held.fit;
      frame_is = h.held.frame_is;
      at_is = refl;
      nums_are = h.held.nums_are;
      refs_are = h.held.refs_are;
      scope_is = h.held.scope_is;
      callers_are = h.held.callers_are;
      input_is = h.held.input_is;
      turns_are = h.held.turns_are;
      run = h.held.run;
    };
  }

  pub goes_forward : (own to : ℕ) → own < to → (events : List Event) × (next : Config) × (forward own to c ≡ Goes events next) × (outputs events ≡ []) × At to m.turns next
  goes_forward own to before =
      ([], record c { at = to }, ap (λ (b : Bool). if b then on (record c { at = to }) else Stuck) (lt-ltb own to before), refl, stands_at to)

  -- a turn is taken
  pub turns_to : (to left : ℕ) → m.turns ≡ suc left →
      (counted : ℕ) × (next : Config) × (turn_to (spent c.store) to c ≡ Goes (Turn counted ∷ []) next) × At to left next
  turns_to to left some =
      let store : Store = record (c.store) { turns = left } in (
        c.store.held.counted,
        record c { at = to; store = store },
        ap (λ (n : ℕ). turn_to (with_turns c.store n) to c) (h.held.turns_are ∙ some),
        record {
          names = h.names;
          held = record {
            unit_is = h.held.unit_is;
            fit = h.held.fit;
            frame_is = h.held.frame_is;
            at_is = refl;
            nums_are = h.held.nums_are;
            refs_are = h.held.refs_are;
            scope_is = h.held.scope_is;
            callers_are = h.held.callers_are;
            input_is = h.held.input_is;
            turns_are = refl;
            run = h.held.run;
          };
        },
      )

-- a loop by `for` that begins
pub starts_with_turn : (own to : ℕ) (line : Line) (control limit step : ℤ) (c : Config) (at : ℕ) → c.at ≡ at → is_same step (pos 0) ≡ false → goes_on limit step control ≡ true
    → turn_to (spent c.store) at c ≡ started own to line control limit step c
starts_with_turn own to line control limit step c at here moves goes =
    ap (λ (n : ℕ). turn_to (spent c.store) n c) (sym here)
    ∙ sym (ap (λ (b : Bool). if b then Stops (Trapped Bounds line) 0 else (if goes_on limit step control then turn_to (spent c.store) c.at c else forward own to c)) moves
    ∙ ap (λ (b : Bool). if b then turn_to (spent c.store) c.at c else forward own to c) goes)

pub starts_past : (own to : ℕ) (line : Line) (control limit step : ℤ) (c : Config) → is_same step (pos 0) ≡ false → goes_on limit step control ≡ false
    → forward own to c ≡ started own to line control limit step c
starts_past own to line control limit step c moves goes =
    sym (ap (λ (b : Bool). if b then Stops (Trapped Bounds line) 0 else (if goes_on limit step control then turn_to (spent c.store) c.at c else forward own to c)) moves
    ∙ ap (λ (b : Bool). if b then turn_to (spent c.store) c.at c else forward own to c) goes)

low-slot : (c : Config) (a b : ℕ) → a ≤ b → is_num_slot c a ≡ false → is_num_slot c b ≡ false
low-slot c a b low none = let past = ltb-false a (frame_in c.unit).nums none in le-ltb b (frame_in c.unit).nums (omega (arith, low, past))

-- The control, the limit and the step of a loop stand in three locals of the frame; or the last of them isn't one of the frame.
module _ (before after : Outside Space) (s : ℕ) where
  pub no-loop : (m : Machine) (slot : ℕ) (of : Config → Step) → slot ≤ s + 2 → IsSound m → ((c : Config) → Holds before m c → ReadsNum slot c None)
      → Takes before after (λ c. if is_num_slot c (s + 2) then of c else Stuck) m m Damaged
  no-loop m slot of low sound none =
      stuck-there before after m sound (λ c. if is_num_slot c (s + 2) then of c else Stuck) (λ c h.
      ap (λ (b : Bool). if b then of c else Stuck) (low-slot c slot (s + 2) low (none c h)))

  module _ (own to : ℕ) (old new : Machine) (r : Stepped) (control limit step : ℤ) (last : (c : Config) → Holds before old c → ReadsNum (s + 2) c (Some step))
      (next : (c : Config) → Holds before old c → ReadsNum (s + 1) c (Some limit)) (first : (c : Config) → Holds before old c → ReadsNum s c (Some control)) where
    pub loop-starts : (line : Line) → Takes before after (started own to line control limit step) old new r → Takes before after (for_start own s to line) old new r
    loop-starts line =
        same-held before after old new r (started own to line control limit step) (for_start own s to line) (λ c h.
        ap (λ (b : Bool). if b then started own to line (c.locals.nums s) (c.locals.nums (s + 1)) (c.locals.nums (s + 2)) c else Stuck) (last c h).0
        ∙ ap (λ (z : ℤ). started own to line z (c.locals.nums (s + 1)) (c.locals.nums (s + 2)) c) (first c h).1
        ∙ ap (λ (z : ℤ). started own to line control z (c.locals.nums (s + 2)) c) (next c h).1
        ∙ ap (λ (z : ℤ). started own to line control limit z c) (last c h).1)

    pub loop-goes-on : Takes before after (counted own s to limit step (control +ℤ step)) old new r → Takes before after (for_next own s to) old new r
    loop-goes-on =
        same-held before after old new r (counted own s to limit step (control +ℤ step)) (for_next own s to) (λ c h.
        ap (λ (b : Bool). if b then counted own s to (c.locals.nums (s + 1)) (c.locals.nums (s + 2)) (c.locals.nums s +ℤ c.locals.nums (s + 2)) c else Stuck) (last c h).0
        ∙ ap (λ (z : ℤ). counted own s to z (c.locals.nums (s + 2)) (c.locals.nums s +ℤ c.locals.nums (s + 2)) c) (next c h).1
        ∙ ap (λ (z : ℤ). counted own s to limit z (c.locals.nums s +ℤ z) c) (last c h).1
        ∙ ap (λ (z : ℤ). counted own s to limit step (z +ℤ step) c) (first c h).1)
