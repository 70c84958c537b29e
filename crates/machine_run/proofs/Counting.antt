-- How many bytes are counted at the events of a run that are still to come.
use Rattle.std.proofs.Common.{◌≡◌, ℕ, zero, suc, ◌≤◌, List, [], ◌∷◌, ◌++◌, ap, ◌∙◌, append_assoc, arith}
use Rattle.std.proofs.lemmas.List.{append-nil}
use Rattle.machine_core.specs.ps_heap.Events.{Event, Finish, count_of}
use Rattle.machine_core.specs.ps_stepping.Config.{Config}
use Rattle.machine_core.specs.ps_stepping.Machine.{RunsBy, goes_by, stops_by, and_touched}
use Rattle.machine_core.specs.ps_stepping.Plain.{is_plain, at_plain}
use Rattle.machine_run.proofs.Progress.{nearer}

also_touched : (touched counted : ℕ) → counted ≤ and_touched touched counted
also_touched zero counted = omega arith
also_touched (suc touched) counted = omega arith

-- The next event of a run counts no fewer bytes than are counted now.
pub next_counted : (total : List Event) (c : Config) (so_far : List Event) → RunsBy is_plain total c so_far
    → (e : Event) × (rest : List Event) × (total ≡ so_far ++ e ∷ rest) × (c.store.held.counted ≤ count_of e)
next_counted total c so_far (goes_by {next = next} {events = []} at may s run) =
    let here = (nearer (at_plain at may) [] next s).1 in
    let later = next_counted total next (so_far ++ []) run in
    let there = later.3 in
    (later.0, later.1, later.2 ∙ ap (λ (es : List Event). es ++ later.0 ∷ later.1) (append-nil so_far), omega (arith, here, there))
next_counted total c so_far (goes_by {next = next} {events = x ∷ xs} at may s run) =
    let step = nearer (at_plain at may) (x ∷ xs) next s in
    let later = next_counted total next (so_far ++ x ∷ xs) run in
    (x, xs ++ later.0 ∷ later.1, later.2 ∙ append_assoc so_far (x ∷ xs) (later.0 ∷ later.1), step.2.0)
next_counted total c so_far (stops_by {e = e} {touched = touched} at may s is) =
    (Finish e (and_touched touched c.store.held.counted), [], is, also_touched touched c.store.held.counted)
