-- When clauses do the same but for ids: from frames and states that are the same but for ids, to such, with the same events.
use Rattle.std.specs.Prelude.{◌≡◌, ℕ}
use Rattle.std.specs.Option.{option_map}
use Rattle.ps_heap.specs.Values.{Value, Routine}
use Rattle.ps_heap.specs.References.{value_ids, scope_ids}
use Rattle.ps_meaning.specs.ps_program.Node.{BodyNode}
use Rattle.ps_meaning.specs.Meaning.{Frame, State}
use Rattle.ps_meaning.specs.Runs.{Given, events_with}
use Rattle.database_meaning.specs.Same.{renamed_value, IsSame}
use Rattle.database_meaning.specs.SameRuns.{Pairing, AreAmong, IsSameHeld, AreSameEvents, IsAllThere}

-- a value that refers to ids that go together, and the value that goes with it
pub record IsSameValue (p : Pairing) (v w : Value) : Type 0 where
  pub is : w ≡ renamed_value p.new v
  pub known : AreAmong (value_ids v) p.ids

pub record IsSameFrame (p : Pairing) (f g : Frame) : Type 0 where
  pub nums : (slot : ℕ) → IsSameValue p (f.nums slot) (g.nums slot)
  pub refs : (slot : ℕ) → IsSameValue p (f.refs slot) (g.refs slot)
  pub scope : g.scope ≡ option_map p.new f.scope
  pub scope_known : AreAmong (scope_ids f.scope) p.ids

pub record IsSameState (p : Pairing) (s t : State) : Type 0 where
  pub held : IsSameHeld p s.store.held t.store.held
  pub events : AreSameEvents s.events t.events
  pub turns : t.store.turns ≡ s.store.turns
  pub input : t.store.input ≡ s.store.input

-- A program over heaps that are the same but for ids has the same events but for ids, with the same counted bytes.
abbrev pub ProgramsGoTheSame : Type 0
ProgramsGoTheSame = (weigh : Routine → ℕ) (given other : Given) (program : BodyNode) → IsSame given.heap other.heap → IsAllThere given.heap → other.turns ≡ given.turns
    → other.input ≡ given.input → other.replies ≡ given.replies → AreSameEvents (events_with weigh given program) (events_with weigh other program)
