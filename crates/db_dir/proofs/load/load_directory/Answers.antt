use Rattle.std.proofs.Common.{arith, ℕ, sym, subst}
use Rattle.joint_ops.specs.heap_meaning.Paired.{paired}
use Rattle.joint_ops.specs.World.{seen}
use Rattle.joint_ops.proofs.of_swizzle.ReadingLaws.{fails-touch}
use Rattle.joint_ops.proofs.SeenLaws.{reads-within}
use Rattle.db_dir.specs.Directories.{IsDirectoryUnder}
use Rattle.joint_ops.proofs.GainLaws.{gains-none}
use Rattle.db_dir.proofs.GainLaws.{load-gains}
use Rattle.db_dir.proofs.LoadLaws.{none-loaded, big-loaded, loaded-reads, loaded-touch, directory-there, directory-shaped, loading-breaks}
use Rattle.db_dir.proofs.EntryLaws.{some-none}
use Rattle.db_dir.proofs.load.load_directory.Goals as goal

pub returns-then-pid-eq0-clause-loaded : goal.returns-then-pid-eq0-clause-loaded
returns-then-pid-eq0-clause-loaded g c = λ databases row is. (
  none-loaded c.args.sw.now (g.V.Vault.outside c.args.vault.now) row (g.V.Vault.used_words c.args.vault.now) (g.V.Vault.directory_at c.args.vault.now) databases
      c.sound.ensures (g.met.V.Vault.space c.args.vault.now) (omega (arith, c.directory-pid.ensures, c.if-pid-eq0.true)) is,
  gains-none c.args.sw.now (g.V.Vault.outside c.args.vault.now) c.sound.ensures,
)

pub returns-then-pid-ge-PID_BOUND-clause-loaded : goal.returns-then-pid-ge-PID_BOUND-clause-loaded
returns-then-pid-ge-PID_BOUND-clause-loaded g c = λ databases row is.
    big-loaded c.args.sw.now (g.V.Vault.outside c.args.vault.now) row (g.V.Vault.used_words c.args.vault.now) (g.V.Vault.directory_at c.args.vault.now) databases
    c.sound.ensures (g.met.V.Vault.space c.args.vault.now) (omega (arith, c.directory-pid.ensures, c.if-pid-ge-PID_BOUND.true)) is

pub returns-then-pid-eq0-clause-reads : goal.returns-then-pid-eq0-clause-reads
returns-then-pid-eq0-clause-reads g c = some-none c.args.sw.now (g.V.Vault.outside c.args.vault.now)

pub returns-in-Some-clause-loaded : goal.returns-in-Some-clause-loaded
returns-in-Some-clause-loaded g c = λ databases row is.
    let a = g.V.Vault.outside c.args.vault.now in
    let b = g.V.Vault.outside c.touch_pid-touched.new.vault in
    let new = c.touch_pid-touched.new.self in
    let e = c.in-Ok.ensures in
    let reads = loaded-reads c.args.sw.now new a b c.directory-pid.result c.in-Ok.at c.sound.ensures e.keeps e.joint (λ to here. (e.near to here).0) e.only e.call in
    let there = directory-there c.args.sw.now new a b row c.directory-pid.result c.in-Ok.at databases c.sound-2.ensures
    (reads-within c.args.sw.now new a b reads.names reads.reads) e.place c.if-pid-eq0.false (subst (λ (n : ℕ). IsDirectoryUnder (seen c.args.sw.now a) (paired row) n databases) (sym c.directory-pid.ensures) is) in
    absurd (c.in-Some.ensures.shaped (directory-shaped new (seen new b) (paired row) c.in-Ok.at databases c.sound-2.ensures e.place.held there))

pub returns-in-None-clause-loaded : goal.returns-in-None-clause-loaded
returns-in-None-clause-loaded g c = λ databases row is.
    let a = g.V.Vault.outside c.args.vault.now in
    let b = g.V.Vault.outside c.touch_pid-touched.new.vault in
    let new = c.touch_pid-touched.new.self in
    let e = c.in-Ok.ensures in
    let reads = loaded-reads c.args.sw.now new a b c.directory-pid.result c.in-Ok.at c.sound.ensures e.keeps e.joint (λ to here. (e.near to here).0) e.only e.call in
    let under = subst (λ (n : ℕ). IsDirectoryUnder (seen c.args.sw.now a) (paired row) n databases) (sym c.directory-pid.ensures) is in (
      directory-there c.args.sw.now new a b row c.directory-pid.result c.in-Ok.at databases c.sound-2.ensures
          (reads-within c.args.sw.now new a b reads.names reads.reads) e.place c.if-pid-eq0.false under,
      load-gains c.args.sw.now new a b row c.directory-pid.result databases c.sound.ensures c.sound-2.ensures c.if-pid-eq0.false under
          (loaded-touch c.args.sw.now new a b c.directory-pid.result c.in-Ok.at c.sound.ensures e.keeps e.joint (λ to here. (e.near to here).0) e.only e.call),
    )

pub returns-in-None-clause-reads : goal.returns-in-None-clause-reads
returns-in-None-clause-reads g c =
    let e = c.in-Ok.ensures in
    loaded-reads c.args.sw.now c.touch_pid-touched.new.self (g.V.Vault.outside c.args.vault.now) (g.V.Vault.outside c.touch_pid-touched.new.vault) c.directory-pid.result
    c.in-Ok.at c.sound.ensures e.keeps e.joint (λ to here. (e.near to here).0) e.only e.call

pub returns-in-Err-clause-loaded : goal.returns-in-Err-clause-loaded
returns-in-Err-clause-loaded g c = λ databases row is.
    let a = g.V.Vault.outside c.args.vault.now in
    let b = g.V.Vault.outside c.touch_pid-touched.new.vault in
    let e = c.in-Err.ensures in
    loading-breaks c.args.sw.now c.touch_pid-touched.new.self a b row c.directory-pid.result databases c.in-Err.fault c.sound.ensures c.if-pid-eq0.false
    (fails-touch c.args.sw.now c.touch_pid-touched.new.self a b c.in-Err.fault e.call) e.fault
    (subst (λ (n : ℕ). IsDirectoryUnder (seen c.args.sw.now a) (paired row) n databases) (sym c.directory-pid.ensures) is)
