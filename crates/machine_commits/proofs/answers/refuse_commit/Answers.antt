use Rattle.std.proofs.Common.{rules}
use Rattle.std.specs.Prelude.{codes}
use Rattle.machine_core.specs.ps_heap.Databases.{NotWritable}
use Rattle.machine_databases.proofs.Refusing.{gives-record, names-lent}
use Rattle.machine_databases.proofs.Pushing.{object-pushed}
use Rattle.machine_commits.proofs.Refusing.{lacks-fails, refusal-given, refusal-lacks}
use Rattle.machine_commits.proofs.answers.refuse_commit.Goals as goal

pub returns-in-Ok-clause-refuses : goal.returns-in-Ok-clause-refuses
returns-in-Ok-clause-refuses g c =
    let outside = g.V.Vault.outside c.args.vault.now in
    let m = c.args.m.now in
    let now = c.refuse.new.sw in
    let refs = c.push_reserved.new.self in
    let n = names-lent outside (codes "commit") NotWritable m now c.requires.sound c.area.result.now c.area.ensures.same c.in-Ok.ensures.keeps c.requires.names in
    let pushed = object-pushed outside (record m { objects = now }) refs c.in-Ok.record c.sound.ensures (search rules) n c.requires.room c.in-Ok.ensures.held c.push_reserved.ensures.below c.push_reserved.ensures.own in
    refusal-given outside m (record m { objects = now; refs = refs }) c.requires.room
    (gives-record outside (codes "commit") NotWritable m now c.requires.sound c.area.result.now c.area.ensures.same c.in-Ok.record (record m { objects = now; refs = refs }) c.in-Ok.ensures.keeps c.in-Ok.ensures.run pushed)

pub returns-in-Err-clause-refuses : goal.returns-in-Err-clause-refuses
returns-in-Err-clause-refuses g c =
    refusal-lacks (g.V.Vault.outside c.args.vault.now) c.args.m.now c.area.result.now c.refuse.new.sw c.in-Err.fault c.area.ensures.same c.requires.sound c.requires.room c.in-Err.ensures.fails

pub returns-in-Err-clause-fails : goal.returns-in-Err-clause-fails
returns-in-Err-clause-fails g c =
    lacks-fails (g.V.Vault.access c.args.vault.now) (g.V.Vault.outside c.args.vault.now) (g.V.Vault.outside c.args.vault.now) c.area.result.now c.refuse.new.sw c.in-Err.fault c.in-Err.ensures.fails
