use Rattle.database_steps.proofs.Runs.{among_events, among_events_by}
use Rattle.database_steps.proofs.laws.steps_are_in_the_events_of_a_run.Goals as goal

pub returns-clause-run : goal.returns-clause-run
returns-clause-run _ = λ total so_far events more c last next run way step. among_events total so_far events more c last next run way step

pub returns-clause-by : goal.returns-clause-by
returns-clause-by _ = λ may total so_far events more c last next run way step. among_events_by may total so_far events more c last next run way step
