use Rattle.std.proofs.Common.{refl}
use Rattle.database_meaning.proofs.GrownPairs.{counting-same, made-same}
use Rattle.database_meaning.proofs.SameStarts.{started-same}
use Rattle.database_meaning.proofs.SameTouches.{touching-same}
use Rattle.database_meaning.proofs.SamePlaces.{assigned-same}
use Rattle.database_meaning.proofs.SameCalls.{call-same}
use Rattle.database_meaning.proofs.laws.runs_over_the_same_heap_stay_the_same.Goals as goal

pub returns : goal.returns
returns c = record {
  starts = λ weigh replies counted a b s there. started-same weigh replies counted a b s there;
  makes = λ object p a b s known. made-same s object known;
  counts = λ bytes p a b s. counting-same bytes bytes refl s;
  touches = λ ids p a b s known. touching-same s ids known;
  assigns = λ id n v p a b s known among. assigned-same s id n v known among;
  calls = λ of args p a b s known. call-same s args known of;
}
