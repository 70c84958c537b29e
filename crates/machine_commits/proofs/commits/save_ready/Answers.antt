use Rattle.machine_commits.proofs.Committing.{by-fault, by-nothing, by-refusal, by-saving, names-forgotten, remains-of, roots-lent}
use Rattle.machine_commits.proofs.Silence.{fails-by, of-vault}
use Rattle.machine_commits.proofs.commits.save_ready.Goals as goal

pub commit-requires-clause-roots : goal.commit-requires-clause-roots
commit-requires-clause-roots g c =
    let v = c.args.vault.now in
    roots-lent (g.V.Vault.outside) v v c.args.m.now c.area.result.now c.area.result.now c.area.ensures.same c.deref.result.now c.deref.ensures.value c.requires.names

pub push_nil-requires-in-Ok-Saved-clause-names : goal.push_nil-requires-in-Ok-Saved-clause-names
push_nil-requires-in-Ok-Saved-clause-names g c =
    let o = g.V.Vault.outside in
    let v = c.args.vault.now in
    let w = c.commit.new.vault in
    let m = c.args.m.now in
    let was = c.area.result.now in
    let now = c.commit.new.sw in
    let ws = c.deref.result.now in
    let arm = c.in-Ok-Saved in
    let r = remains-of was now ws m.databases.directory (o v) (o w) (g.V.Vault.used_words v) (g.V.Vault.used_words w) (g.V.Vault.most_words v) (g.V.Vault.directory_at w)
    arm.field-0 arm.field-0-0 arm.field-0-1 arm.field-0-is arm.ensures.stores in
    names-forgotten o v w m was now c.area.ensures.same ws c.deref.ensures.value c.forget_roots.new.writing r c.forget_roots.ensures.none c.forget_roots.ensures.room c.requires.names

pub returns-in-Ok-NotWritable-clause-takes : goal.returns-in-Ok-NotWritable-clause-takes
returns-in-Ok-NotWritable-clause-takes g c =
    let arm = c.in-Ok-NotWritable in
    by-refusal g.V.Vault.outside c.args.vault.now c.commit.new.vault c.args.m.now c.area.result.now c.commit.new.sw c.area.ensures.same c.deref.result.now c.deref.ensures.value
    arm.field-0 arm.field-0-0 arm.field-0-1 c.refuse_commit.new.m c.refuse_commit.result arm.field-0-is arm.ensures.held arm.ensures.still c.refuse_commit.ensures.refuses

pub returns-in-Ok-Nothing-clause-takes : goal.returns-in-Ok-Nothing-clause-takes
returns-in-Ok-Nothing-clause-takes g c =
    let arm = c.in-Ok-Nothing in
    by-nothing g.V.Vault.outside c.args.vault.now c.commit.new.vault c.args.m.now c.area.result.now c.commit.new.sw c.area.ensures.same c.deref.result.now c.deref.ensures.value
    arm.field-0 c.push_nil.new.m arm.field-0-is arm.ensures.held arm.ensures.still (c.push_nil.ensures c.args.vault.now)

pub returns-in-Ok-Saved-clause-takes : goal.returns-in-Ok-Saved-clause-takes
returns-in-Ok-Saved-clause-takes g c =
    let o = g.V.Vault.outside in
    let v = c.args.vault.now in
    let w = c.commit.new.vault in
    let m = c.args.m.now in
    let was = c.area.result.now in
    let now = c.commit.new.sw in
    let ws = c.deref.result.now in
    let arm = c.in-Ok-Saved in
    let r = remains-of was now ws m.databases.directory (o v) (o w) (g.V.Vault.used_words v) (g.V.Vault.used_words w) (g.V.Vault.most_words v) (g.V.Vault.directory_at w)
    arm.field-0 arm.field-0-0 arm.field-0-1 arm.field-0-is arm.ensures.stores in
    by-saving o v w m was now c.area.ensures.same ws c.deref.ensures.value arm.field-0 arm.field-0-0 arm.field-0-1 c.forget_roots.new.writing c.push_nil-in-Ok-Saved.new.m
    arm.field-0-is c.forget_roots.ensures.none arm.ensures.held r (c.push_nil-in-Ok-Saved.ensures w)

pub returns-in-Err-clause-takes : goal.returns-in-Err-clause-takes
returns-in-Err-clause-takes g c =
    let v = c.args.vault.now in
    let w = c.commit.new.vault in
    by-fault g.V.Vault.outside v w c.args.m.now c.area.result.now c.commit.new.sw c.area.ensures.same c.deref.result.now c.deref.ensures.value c.in-Err.fault
    (of-vault g.V.Vault.outside v w c.area.result.now c.commit.new.sw c.deref.result.now c.args.m.now.databases.directory (g.V.Vault.used_words v) (g.V.Vault.used_words w)
    (g.V.Vault.most_words v) (g.V.Vault.directory_at w) c.in-Err.fault c.in-Err.ensures.stores)
    c.requires.sound c.requires.stack c.in-Err.ensures.held

pub returns-in-Err-clause-fails : goal.returns-in-Err-clause-fails
returns-in-Err-clause-fails g c =
    let v = c.args.vault.now in
    let w = c.commit.new.vault in
    fails-by g.V.Vault.outside v w c.area.result.now c.commit.new.sw c.deref.result.now c.args.m.now.databases.directory (g.V.Vault.used_words v) (g.V.Vault.used_words w)
    (g.V.Vault.most_words v) (g.V.Vault.directory_at w) (g.V.Vault.access v) c.in-Err.fault c.in-Err.ensures.stores c.in-Err.ensures.pages
