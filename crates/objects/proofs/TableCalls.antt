-- What the calls on tables answer, of each heap that area and vault stand for.
use Rattle.std.proofs.Common.{ℕ, ℤ, List, Option, Some}
use Rattle.std.specs.Prelude.{Result}
use Rattle.joint_ops.specs.ps_outside.Outside.{Outside}
use Rattle.joint_ops.specs.obj_layout.Stored.{Space}
use Rattle.joint_ops.specs.obj_layout.declared.reference.Reference.{Reference}
use Rattle.joint_ops.specs.swizzle.Heap.{Heap}
use Rattle.joint_ops.specs.heap_texts.declared.fault.OpFault.{OpFault}
use Rattle.joint_ops.specs.ps_heap.Objects as meaning
use Rattle.joint_ops.specs.ps_heap.Tables.{Key, string_key, int_key}
use Rattle.joint_ops.specs.ps_heap.Values as meant
use Rattle.joint_ops.specs.World.{IsWorld, DenotesIn}
use Rattle.joint_ops.specs.ps_heap.Held.{Held}
use Rattle.joint_held.specs.reach_commit.commit_walk.declared.homes.Source.{Source}
use Rattle.joint_held.specs.Held.{HoldsRun}
use Rattle.objects.specs.Entering.{EntersRun}
use Rattle.joint_tables.specs.Tables.{EntersKey, IsLastText, IsPntr, LooksUp, NextInt, NextText, last_int_key}

abbrev pub LooksUpText : Heap → Heap → Outside Space → Outside Space → ℕ → Option ℕ → Result (Option ℕ) OpFault → Type 0
LooksUpText old new before after key table result =
    (of : meaning.Heap) (names : List Reference) (bytes : List ℕ) (v : meant.Value) → IsWorld old before of names
    → DenotesIn old before names (Some key) (meant.Text bytes) → DenotesIn old before names table v
    → LooksUp old new before after of names v (string_key bytes) result

abbrev pub LooksUpInt : Heap → Heap → Outside Space → Outside Space → ℤ → Option ℕ → Result (Option ℕ) OpFault → Type 0
LooksUpInt old new before after key table result =
    (of : meaning.Heap) (names : List Reference) (v : meant.Value) → IsWorld old before of names → DenotesIn old before names table v
    → LooksUp old new before after of names v (int_key key) result

abbrev pub GoesOnText : Heap → Heap → Outside Space → Outside Space → Option ℕ → Option ℕ → Result (Option (ℕ × ℕ)) OpFault → Type 0
GoesOnText old new before after key table result =
    (of : meaning.Heap) (names : List Reference) (last : Option Key) (v : meant.Value) → IsWorld old before of names
    → IsLastText old before names key last → DenotesIn old before names table v → NextText old new before after of names v last result

abbrev pub GoesOnInt : Heap → Heap → Outside Space → Outside Space → Option ℤ → Option ℕ → Result (Option (ℤ × ℕ)) OpFault → Type 0
GoesOnInt old new before after key table result =
    (of : meaning.Heap) (names : List Reference) (v : meant.Value) → IsWorld old before of names → DenotesIn old before names table v
    → NextInt old new before after of names v (last_int_key key) result

abbrev pub EntersText : Heap → Heap → Outside Space → Outside Space → ℕ → Option ℕ → Option ℕ → Result (Unit {0}) OpFault → Type 0
EntersText old new before after key table to result =
    (of : meaning.Heap) (names : List Reference) (bytes : List ℕ) (v w : meant.Value) → IsWorld old before of names
    → DenotesIn old before names (Some key) (meant.Text bytes) → DenotesIn old before names table v → DenotesIn old before names to w → IsPntr w
    → EntersKey old new before after of names table v (string_key bytes) w result

abbrev pub EntersInt : Heap → Heap → Outside Space → Outside Space → ℤ → Option ℕ → Option ℕ → Result (Unit {0}) OpFault → Type 0
EntersInt old new before after key table to result =
    (of : meaning.Heap) (names : List Reference) (v w : meant.Value) → IsWorld old before of names → DenotesIn old before names table v
    → DenotesIn old before names to w → IsPntr w → EntersKey old new before after of names table v (int_key key) w result

-- and of each run that they hold
abbrev pub EntersTextRun : Heap → Heap → Outside Space → Outside Space → ℕ → Option ℕ → Option ℕ → Result (Unit {0}) OpFault → Type 0
EntersTextRun old new before after key table to result =
    (names : List Reference) (writing : List Source) (directory : Option ℕ) (h : Held) (bytes : List ℕ) (v w : meant.Value) → HoldsRun old before names writing directory h
    → DenotesIn old before names (Some key) (meant.Text bytes) → DenotesIn old before names table v → DenotesIn old before names to w → IsPntr w
    → EntersRun old new before after names writing directory h v (string_key bytes) w result

abbrev pub EntersIntRun : Heap → Heap → Outside Space → Outside Space → ℤ → Option ℕ → Option ℕ → Result (Unit {0}) OpFault → Type 0
EntersIntRun old new before after key table to result =
    (names : List Reference) (writing : List Source) (directory : Option ℕ) (h : Held) (v w : meant.Value) → HoldsRun old before names writing directory h
    → DenotesIn old before names table v → DenotesIn old before names to w → IsPntr w
    → EntersRun old new before after names writing directory h v (int_key key) w result
