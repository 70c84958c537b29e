-- Lines that are read of the input.
use Rattle.std.proofs.Common.{◌≡◌, ℕ, true, false, List, [], ◌∷◌, refl, sym, ap, ◌∙◌}
use Rattle.ps_base.specs.declared.line.Line.{Line}
use Rattle.ps_base.specs.declared.trap.Trap.TheVariants.{NoInput}
use Rattle.machine_core.specs.ps_outside.Outside.{Outside}
use Rattle.machine_core.specs.obj_layout.Stored.{Space}
use Rattle.machine_core.specs.obj_layout.declared.reference.Reference.{Reference}
use Rattle.machine_core.specs.ps_heap.Ends.{Trapped}
use Rattle.machine_core.specs.ps_meaning.Meaning.{on_input}
use Rattle.machine_core.specs.ps_heap.Texts.{Attempt, Fails, line_of, behind_line, line_read, string_of, is_at_end}
use Rattle.machine_core.specs.ps_stepping.Config.{Config}
use Rattle.machine_core.specs.ps_stepping.Steps.{Stops, attempted}
use Rattle.machine_core.specs.ps_stepping.Objects.{holding, make_text}
use Rattle.machine_core.specs.ps_stepping.Library.{read_line}
use Rattle.machine_core.specs.declared.machine.Machine.{Machine}
use Rattle.machine_core.specs.declared.stepped.Stepped.{Stepped}
use Rattle.machine_core.specs.Holding.{HeldBy, IsSound}
use Rattle.machine_core.specs.Stepped.{Takes}
use Rattle.machine_core.specs.inside.Taking.{Leaves}
use Rattle.machine_core.proofs.Between.{same-held}

-- at the end there is no line
pub none-read : (input : List ℕ) → is_at_end input ≡ true → line_read input ≡ Fails NoInput
unfolding line_read
none-read [] is = refl
none-read (byte ∷ bytes) is = absurd (cc)

pub line-read : (input : List ℕ) → is_at_end input ≡ false → line_read input ≡ string_of (line_of input)
unfolding line_read
line-read [] is = absurd (cc)
line-read (byte ∷ bytes) is = refl

-- so the run ends in that trap
pub no-input : (out : Outside Space) (line : Line) (m new : Machine) (r : Stepped) → line_read m.input ≡ Fails NoInput
    → Takes out out (λ c. Stops (Trapped NoInput line) 0) m new r → Takes out out (read_line line) m new r
no-input out line m new r none t =
    same-held out out m new r (λ c. Stops (Trapped NoInput line) 0) (read_line line)
    (λ c h.
    ap (λ (a : Attempt (List ℕ)). attempted line a (λ bytes. make_text bytes (holding (on_input (behind_line c.store.input) c.store) c)))
    (ap line_read (sym h.held.input_is) ∙ none))
    t

module _ (m : Machine) (input : List ℕ) where
  -- the machine with this input
  abbrev pub line-passed : Machine
  line-passed = record m { input = input }

  -- the input is no part of what is said of the stacks, and names no object
  pub line-leaves : IsSound m → Leaves m line-passed
  line-leaves sound = record {
    sound = record {
      nums_fit = sound.nums_fit;
      refs_fit = sound.refs_fit;
      nums_below = sound.nums_below;
      refs_below = sound.refs_below;
      nums_room = sound.nums_room;
      refs_room = sound.refs_room;
      values_room = sound.values_room;
      waiting = sound.waiting;
    };
    objects = refl;
    values = refl;
    names = λ n. record { code = n.code; scope = n.scope; own = n.own; below = n.below; callers = n.callers; item = n.item; databases = n.databases };
  }

  pub held-passed : (out : Outside Space) (names : List Reference) (c : Config) → HeldBy out names m c → input ≡ behind_line m.input
      → HeldBy out names line-passed (holding (on_input (behind_line c.store.input) c.store) c)
  held-passed out names c h is = record {
    unit_is = h.unit_is;
    fit = h.fit;
    frame_is = h.frame_is;
    at_is = h.at_is;
    nums_are = h.nums_are;
    refs_are = h.refs_are;
    scope_is = h.scope_is;
    callers_are = h.callers_are;
    input_is = is ∙ ap behind_line h.input_is;
    turns_are = h.turns_are;
    run = h.run;
  }
