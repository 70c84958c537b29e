use Rattle.database_meaning.proofs.StepLaws.{refused-is, is-refused, nothing-is, is-nothing, saves-is}
use Rattle.database_meaning.proofs.laws.steps_of_a_commit.Goals as goal

pub returns : goal.returns
returns c = λ h. ((λ e. refused-is h e, λ r. is-refused h r), (λ e. nothing-is h e, λ n. is-nothing h n), λ w not. saves-is h w not)
