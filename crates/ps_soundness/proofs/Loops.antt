-- Loops leave the locals in scope typed: what is repeated does, and the three numbers of a loop by `for` lie in free slots.
use Rattle.std.proofs.Common.{◌≡◌, ℕ, zero, suc, ◌+◌, ◌<◌, ◌≤◌, ℤ, pos, ◌+ℤ◌, Bool, true, false, List, Option, refl, arith}
use Rattle.std.specs.Prelude.{◌&&◌, int_le, if◌then◌else◌}
use Rattle.ps_meaning.specs.ps_base.TyView.{TyView}
use Rattle.ps_meaning.specs.ps_base.TyView as types
use Rattle.ps_meaning.specs.ps_base.declared.line.Line.{Line}
use Rattle.ps_meaning.specs.ps_program.declared.place.Place.{Place}
use Rattle.ps_meaning.specs.ps_program.declared.place.Place.TheVariants.{Plain}
use Rattle.ps_heap.specs.Operators.{is_int, is_same}
use Rattle.ps_heap.specs.Ends.{OutOfTurns}
use Rattle.ps_heap.specs.Values.{Value, Num, Nothing, word_of, flag_of}
use Rattle.ps_heap.specs.Objects.{Heap}
use Rattle.ps_meaning.specs.Meaning.{Meaning, ◌>>=◌, give, in_scope, set}
use Rattle.ps_meaning.specs.Loops.{while_turns, Counting, is_up, goes_on, for_turns, for_loop, for_meant}
use Rattle.ps_soundness.proofs.Notion.{Notion}
use Rattle.ps_soundness.proofs.Combining.{Sound, later, sound_then, sound_nothing, sound_stop, sound_choose, sound_if, sound_turn}

pub sound_while : (notion : Notion) {heap : Heap} {known : notion.Standing} {test clause : Meaning} (n : ℕ) → Sound notion heap known known types.Bool test →
    Sound notion heap known known types.Void clause → Sound notion heap known known types.Void (while_turns n test clause)
unfolding while_turns
sound_while notion zero h k = sound_then notion h (λ new v g is. sound_choose notion (flag_of v) (sound_stop notion OutOfTurns) (sound_nothing notion))
sound_while notion (suc n) h k =
    sound_then notion h (λ at_test v g is. sound_choose notion (flag_of v)
    (sound_then notion (sound_turn notion) (λ at_turn t k1 is_turn. sound_then notion (later notion at_turn k1 (later notion at_test g k))
    (λ new u k2 is_done. sound_while notion n (later notion new k2 (later notion at_turn k1 (later notion at_test g h))) (later notion new k2 (later notion at_turn k1 (later notion at_test g k))))))
    (sound_nothing notion))

first_true : (a b : Bool) → (a && b) ≡ true → a ≡ true
first_true true b e = refl
first_true false b e = e

pub goes_on_int : (limit step z : ℤ) → goes_on limit step z ≡ true → is_int z ≡ true
goes_on_int limit step z e = first_true (is_int z) (if is_up step then int_le z limit else int_le limit z) e

-- a number in a place leaves what is known, from each heap on
abbrev pub Settable : (notion : Notion) → notion.Standing → notion.Standing → Place → ℤ → Type 0
Settable notion first last place z = (heap : Heap) → Sound notion heap first last types.Void (set place types.Int (Num z))

-- a turn of a loop, from each heap on: what is known after it
abbrev pub Turns : (notion : Notion) → notion.Standing → notion.Standing → Option (List ℕ) → Place → Meaning → Type 0
Turns notion known own scope control clause =
    (z : ℤ) → is_int z ≡ true → (heap : Heap) → Sound notion heap known own types.Void (in_scope scope (set control types.Int (Num z) >>= λ u. clause))

pub sound_for_turns : (notion : Notion) {heap : Heap} {known own : notion.Standing} (n : ℕ) (loop : Counting) (clause : Meaning) → Turns notion known own loop.scope loop.control clause →
    ((z : ℤ) → Settable notion own known (Plain loop.slot) z) → ((new : Heap) → Sound notion new own known types.Void (give Nothing)) →
    (z : ℤ) → is_int z ≡ true → Sound notion heap known known types.Void (for_turns n loop clause z)
unfolding for_turns
sound_for_turns notion zero loop clause turns slot ends z is = sound_stop notion OutOfTurns
sound_for_turns notion (suc n) loop clause turns slot ends z is =
    let next = z +ℤ loop.step in
    sound_then notion (sound_turn notion) (λ h1 t g1 is1. sound_then notion (turns z is h1) (λ h3 w g3 is3.
    sound_if notion (goes_on loop.limit loop.step next)
    (λ e. sound_then notion (slot next h3)
    (λ h4 x g4 is4. sound_for_turns notion n loop clause turns slot ends next (goes_on_int loop.limit loop.step next e)))
    (ends h3)))

pub sound_for_loop : (notion : Notion) {heap : Heap} {known own : notion.Standing} (n : ℕ) (line : Line) (loop : Counting) (clause : Meaning) →
    Turns notion known own loop.scope loop.control clause →
    ((z : ℤ) → Settable notion own known (Plain loop.slot) z) → ((new : Heap) → Sound notion new own known types.Void (give Nothing)) →
    (z : ℤ) → Sound notion heap known known types.Void (for_loop n line loop clause z)
unfolding for_loop
sound_for_loop notion n line loop clause turns slot ends z =
    sound_choose notion (is_same loop.step (pos 0)) (sound_stop notion _)
    (sound_if notion (goes_on loop.limit loop.step z)
    (λ e. sound_for_turns notion n loop clause turns slot ends z (goes_on_int loop.limit loop.step z e)) (sound_nothing notion))

-- a value in a free slot leaves what is known, from each heap on
abbrev pub Spares : (notion : Notion) → notion.Standing → ℕ → Type 0
Spares notion known slot = (heap : Heap) (v : Value) → Sound notion heap known known types.Void (set (Plain slot) types.Int v)

pub sound_for : (notion : Notion) {heap : Heap} {known own : notion.Standing} {a b c : Meaning} (n : ℕ) (line : Line) (slot : ℕ) (scope : Option (List ℕ))
    (control : Place) (clause : Meaning) →
    ((at : ℕ) → slot ≤ at → at < slot + 3 → Spares notion known at) → Turns notion known own scope control clause → ((z : ℤ) → Settable notion own known (Plain slot) z) →
    ((new : Heap) → Sound notion new known known types.Int a) → ((new : Heap) → Sound notion new known known types.Int b) →
    ((new : Heap) → Sound notion new known known types.Int c) → ((new : Heap) → Sound notion new own known types.Void (give Nothing)) →
    Sound notion heap known known types.Void (for_meant n line slot scope control a b c clause)
unfolding for_meant
sound_for notion {heap = heap} n line slot scope control clause spares turns counts ha hb hc ends =
    sound_then notion (ha heap) (λ h1 start g1 is1. sound_then notion (spares slot (omega arith) (omega arith) h1 start) (λ h2 u g2 is2.
    sound_then notion (hb h2) (λ h3 limit g3 is3. sound_then notion (spares (slot + 1) (omega arith) (omega arith) h3 limit) (λ h4 v g4 is4.
    sound_then notion (hc h4) (λ h5 step g5 is5. sound_then notion (spares (slot + 2) (omega arith) (omega arith) h5 step) (λ h6 w g6 is6.
    sound_for_loop notion n line (record { slot = slot; scope = scope; control = control; limit = word_of limit; step = word_of step }) clause turns counts ends
    (word_of start)))))))
