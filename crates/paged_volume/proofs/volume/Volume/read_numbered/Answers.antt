use Rattle.std.proofs.Common.{ℕ, ◌∙◌, ap, take, drop, replicate}
use Rattle.paged_volume.proofs.volume.Volume.read_numbered.Goals as goal

pub returns-then-number-eq0-clause-zeros : goal.returns-then-number-eq0-clause-zeros
returns-then-number-eq0-clause-zeros g c = λ none. c.fill.ensures.after (λ y same. same) ∙ ap (λ (n : ℕ). replicate {A = ℕ} n 0) c.requires.size

pub returns-in-Ok-clause-read : goal.returns-in-Ok-clause-read
returns-in-Ok-clause-read g c = λ some bytes now. c.in-Ok.ensures.read bytes now ∙ (λ i. take (c.requires.size i) (drop (c.page_at.ensures i) bytes))
