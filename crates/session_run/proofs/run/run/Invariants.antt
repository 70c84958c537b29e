-- Between two steps: what has happened so far was done, but for what is pending.
use Rattle.std.specs.Prelude.{◌≡◌, ◌+◌, ◌*◌, ◌^◌, ◌≤◌, vec_capacity}
use Rattle.machine_core.specs.Holding.{IsSound}
use Rattle.machine_core.specs.Naming.{NamesObjects}
use Rattle.session_run.specs.Ran.{SameLimits}
use Rattle.session_run.proofs.Between.{IsBetween}
use Rattle.session_run.proofs.run.run.Given as goal

abbrev pub invariant-loop-steps : goal.invariant-loop-steps
invariant-loop-steps g l =
    let vault = g.V.Vault in
    record {
      between : IsBetween (vault.outside l.initial.vault) (vault.outside l.vault) l.initial.output l.output l.initial.m l.m l.turns l.steps;
      sound : IsSound l.m;
      names : NamesObjects l.m;
      limits : SameLimits vault.most_words vault.access l.initial.vault l.vault;
      room : vec_capacity l.images ≡ vec_capacity l.initial.images;
      alive : vault.alive l.vault;
      few : 1 ≤ l.steps;
      most : l.steps ≤ 2 ^ 43;
    }

abbrev pub decreases-loop-steps : goal.decreases-loop-steps
decreases-loop-steps g l = l.turns * 2 ^ 43 + l.steps
