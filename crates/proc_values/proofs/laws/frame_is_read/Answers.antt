use Rattle.proc_values.proofs.StayLaws.{frame-nums, frame-refs, frame-num_params, frame-ref_params}
use Rattle.proc_values.proofs.laws.frame_is_read.Goals as goal

pub returns-clause-nums : goal.returns-clause-nums
returns-clause-nums c = frame-nums

pub returns-clause-refs : goal.returns-clause-refs
returns-clause-refs c = frame-refs

pub returns-clause-num_params : goal.returns-clause-num_params
returns-clause-num_params c = frame-num_params

pub returns-clause-ref_params : goal.returns-clause-ref_params
returns-clause-ref_params c = frame-ref_params
