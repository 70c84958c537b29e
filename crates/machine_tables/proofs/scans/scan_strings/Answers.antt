use Rattle.std.proofs.Common.{Some, None}
use Rattle.machine_tables.proofs.Going.{scanned, scanned-empty}
use Rattle.machine_tables.proofs.Lasts.{none-text, some-text}
use Rattle.machine_tables.proofs.scans.scan_strings.Goals as goal

pub returns-in-None-clause-takes : goal.returns-in-None-clause-takes
returns-in-None-clause-takes g c =
    let v = c.args.vault.now in
    let did = c.next_string in
    scanned (g.V.Vault.outside v) (g.V.Vault.outside did.new.vault) c.args.m.now did.new.m did.result c.args.scan c.in-Some.table None did.ensures.follows
    (c.in-Some.ensures.reads v) (λ names conf h. none-text c.args.m.now.objects (g.V.Vault.outside v) names _ (c.in-None.ensures.is v names conf h))

pub returns-in-Text-clause-takes : goal.returns-in-Text-clause-takes
returns-in-Text-clause-takes g c =
    let v = c.args.vault.now in
    let did = c.next_string-in-Text in
    scanned (g.V.Vault.outside v) (g.V.Vault.outside did.new.vault) c.args.m.now did.new.m did.result c.args.scan c.in-Some.table (Some c.in-Text.at) did.ensures.follows
    (c.in-Some.ensures.reads v) (λ names conf h. some-text c.args.m.now.objects (g.V.Vault.outside v) names _ c.in-Text.at (c.in-Text.ensures.is v names conf h))

pub returns-in-Empty-clause-takes : goal.returns-in-Empty-clause-takes
returns-in-Empty-clause-takes g c =
    let v = c.args.vault.now in
    let did = c.string_after_empty in
    scanned-empty (g.V.Vault.outside v) (g.V.Vault.outside did.new.vault) c.args.m.now did.new.m did.result c.args.scan c.in-Some.table did.ensures.follows
    (c.in-Some.ensures.reads v) (λ names conf h. c.in-Empty.ensures.is v names conf h)
