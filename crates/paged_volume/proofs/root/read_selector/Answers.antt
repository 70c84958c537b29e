use Rattle.std.proofs.Common.{ℕ, ◌%◌, sym, ap, nat_eq}
use Rattle.paged_volume.proofs.root.read_selector.Goals as goal

pub returns-clause-selected : goal.returns-clause-selected
returns-clause-selected g c = λ bytes now. ap (λ (b : ℕ). nat_eq (b % 2) 1) (sym (c.in_ok-byte.ensures.byte bytes now))
