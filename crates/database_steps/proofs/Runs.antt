-- The events of a step are among those of the run.
use Rattle.std.proofs.Common.{◌≡◌, Bool, List, ◌++◌, ◌∙◌, append_assoc}
use Rattle.ps_code.specs.ps_base.declared.instr.Instr.{Instr}
use Rattle.ps_heap.specs.Events.{Event}
use Rattle.ps_stepping.specs.Config.{Config}
use Rattle.ps_stepping.specs.Machine.{Goes, Steps, Runs, RunsBy}
use Rattle.ps_stepping.specs.Path.{Reaches}
use Rattle.ps_stepping.proofs.Following.{follow, front_of_run}
use Rattle.ps_stepping.proofs.Paths.{on_the_way, runs_by}

pub among_events : (total so_far events more : List Event) (c last next : Config) → Runs total c so_far → Reaches c events last → Steps last (Goes more next) →
    (rest : List Event) × (total ≡ so_far ++ (events ++ (more ++ rest)))
among_events total so_far events more c last next run way step =
    let there : Runs total last (so_far ++ events) = on_the_way total c last so_far events run way in
    let found = front_of_run total next ((so_far ++ events) ++ more) (follow total last next (so_far ++ events) more there step) in
    (found.0, found.1 ∙ (append_assoc (so_far ++ events) more found.0 ∙ append_assoc so_far events (more ++ found.0)))

pub among_events_by : (may : Instr → Bool) (total so_far events more : List Event) (c last next : Config) → RunsBy may total c so_far → Reaches c events last →
    Steps last (Goes more next) → (rest : List Event) × (total ≡ so_far ++ (events ++ (more ++ rest)))
among_events_by may total so_far events more c last next run way step =
    among_events total so_far events more c last next (runs_by may total c so_far run) way step
