use Rattle.std.proofs.Common.{ℕ, List, Some, subst}
use Rattle.ps_log.specs.inside.Kept.{Replaces}
use Rattle.ps_log.proofs.Kept.{replaced}
use Rattle.ps_log.proofs.last.put_place.Goals as goal

pub returns-clause-put : goal.returns-clause-put
returns-clause-put c =
    let updates = c.in_ok-before.ensures.updates in
    subst (λ (name : List ℕ). Replaces c.args.last.now c.insert.new.self name (Some c.args.place)) c.in_ok-key.ensures.items
    (replaced c.args.last.now c.insert.new.self c.in_ok-key.key.items (Some c.args.place) updates.1 updates.3)
