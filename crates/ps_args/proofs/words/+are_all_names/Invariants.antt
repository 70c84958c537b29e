use Rattle.std.proofs.Common.{length}
use Rattle.ps_args.proofs.words.+are_all_names.Given as goal

-- proposed from what the function passes where it calls itself
abbrev pub decreases-are_all_names : goal.decreases-are_all_names
decreases-are_all_names l = length l.words.now
