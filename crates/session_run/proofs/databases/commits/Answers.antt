use Rattle.std.proofs.Common.{List, ℕ, [], ◌≡◌, subst, sym, refl}
use Rattle.machine_core.specs.declared.machine.Machine.{Machine}
use Rattle.machine_core.specs.obj_layout.Storing.{Access, SameNumbers}
use Rattle.machine_commits.specs.Committing.{commits}
use Rattle.machine_run.proofs.Telling.{but-puts, fails-puts}
use Rattle.session_run.specs.declared.advanced.Advanced.TheVariants.{On, Broke}
use Rattle.session_run.specs.Ran.{IsCause}
use Rattle.session_run.specs.inside.Advancing.{Comes}
use Rattle.session_run.proofs.Stepping.{goes-put, goes-silent, goes-then, cause-commit, cause-then}
use Rattle.session_run.proofs.Calling.{commit-on, commit-breaks, commit-damaged, commit-cut}
use Rattle.session_run.proofs.databases.commits.Goals as goal

pub returns-in-Err-clause-comes : goal.returns-in-Err-clause-comes
returns-in-Err-clause-comes g c =
    let outside = g.V.Vault.outside in
    commit-cut (outside c.args.vault.now) (outside c.flush.new.vault) c.args.output.now c.flush.new.self c.args.m.now
    (fails-puts (outside c.args.vault.now) (outside c.flush.new.vault) c.args.output.now _ c.in-Err.ensures.fault c.in-Err.ensures.puts) c.in-Err.ensures.emptied

pub returns-in-Quiet-clause-comes : goal.returns-in-Quiet-clause-comes
returns-in-Quiet-clause-comes g c =
    let outside = g.V.Vault.outside in
    let old = outside c.args.vault.now in
    let mid = outside c.flush.new.vault in
    let new = outside c.commit.new.vault in
    let sent = but-puts old mid c.args.output.now [] tt c.in-Ok.ensures.puts refl in
    subst (λ (left : List ℕ). Comes old new c.args.output.now left commits c.args.m.now c.commit.new.m On) (sym c.in-Ok.ensures.emptied)
    (commit-on old mid new c.args.m.now c.commit.new.m c.args.output.now sent c.sound.ensures c.in-Quiet.ensures.silent c.in-Quiet.ensures.takes)

pub returns-in-Breaks-clause-comes : goal.returns-in-Breaks-clause-comes
returns-in-Breaks-clause-comes g c =
    let outside = g.V.Vault.outside in
    let old = outside c.args.vault.now in
    let mid = outside c.flush.new.vault in
    let new = outside c.commit.new.vault in
    let sent = but-puts old mid c.args.output.now [] tt c.in-Ok.ensures.puts refl in
    subst (λ (left : List ℕ). Comes old new c.args.output.now left commits c.args.m.now c.commit.new.m Broke) (sym c.in-Ok.ensures.emptied)
    (commit-breaks old mid new c.args.m.now c.commit.new.m c.args.output.now sent c.sound.ensures c.in-Breaks.ensures.silent c.in-Breaks.ensures.takes)

pub returns-in-Damaged-clause-comes : goal.returns-in-Damaged-clause-comes
returns-in-Damaged-clause-comes g c =
    let outside = g.V.Vault.outside in
    let old = outside c.args.vault.now in
    let mid = outside c.flush.new.vault in
    let new = outside c.commit.new.vault in
    let sent = but-puts old mid c.args.output.now [] tt c.in-Ok.ensures.puts refl in
    subst (λ (m : Machine). Comes old new c.args.output.now c.flush.new.self commits c.args.m.now m Broke) (sym c.blame_code.ensures.rest)
    (subst (λ (left : List ℕ). Comes old new c.args.output.now left commits c.args.m.now (record c.commit.new.m { fault = c.blame_code.new.m.fault }) Broke) (sym c.in-Ok.ensures.emptied)
    (commit-damaged old mid new c.args.m.now c.commit.new.m c.args.output.now sent c.sound.ensures c.args.own c.blame_code.new.m.fault c.commit.result c.in-Damaged.is c.blame_code.ensures.fault c.commit.ensures.takes))

pub returns-in-Err-clause-seen : goal.returns-in-Err-clause-seen
returns-in-Err-clause-seen g c = goes-put _ _ _ _ c.in-Err.ensures.puts

pub returns-in-Quiet-clause-seen : goal.returns-in-Quiet-clause-seen
returns-in-Quiet-clause-seen g c = goes-then _ _ _ (goes-put _ _ _ _ c.in-Ok.ensures.puts) (goes-silent _ _ c.in-Quiet.ensures.silent)

pub returns-in-Breaks-clause-seen : goal.returns-in-Breaks-clause-seen
returns-in-Breaks-clause-seen g c = goes-then _ _ _ (goes-put _ _ _ _ c.in-Ok.ensures.puts) (goes-silent _ _ c.in-Breaks.ensures.silent)

pub returns-in-Damaged-clause-seen : goal.returns-in-Damaged-clause-seen
returns-in-Damaged-clause-seen g c = goes-then _ _ _ (goes-put _ _ _ _ c.in-Ok.ensures.puts) (goes-silent _ _ c.commit.ensures.silent)

-- a flush leaves who uses the vault
access-stays : {V L : Type 0} (used directory most : V → ℕ) (access : V → Access L) (old new : V) → SameNumbers used directory most access old new → access new ≡ access old
access-stays used directory most access old new (words, at, bound, same) = same

pub returns-in-Breaks-clause-caused : goal.returns-in-Breaks-clause-caused
returns-in-Breaks-clause-caused g c =
    let outside = g.V.Vault.outside in
    let access = g.V.Vault.access in
    let old = c.args.vault.now in
    let mid = c.flush.new.vault in
    let new = c.commit.new.vault in
    let fault = c.commit.new.m.fault in
    subst (λ (a : Access _). IsCause (outside old) (outside new) a fault)
    (access-stays g.V.Vault.used_words g.V.Vault.directory_at g.V.Vault.most_words access old mid c.flush.ensures.numbers)
    (cause-then (access mid) (outside old) (outside mid) (outside new) fault (goes-put _ _ _ _ c.in-Ok.ensures.puts)
    (cause-commit (access mid) (outside mid) (outside new) fault c.in-Breaks.ensures.fails))
