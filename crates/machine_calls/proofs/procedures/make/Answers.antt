use Rattle.std.proofs.Common.{arith}
use Rattle.machine_calls.proofs.Fetching.{names-kept}
use Rattle.machine_calls.proofs.Making.{procedure-made, procedure-broken, procedure-full}
use Rattle.machine_calls.proofs.procedures.make.Goals as goal

pub returns-then-len-ge-FRAME_WORDS-clause-makes : goal.returns-then-len-ge-FRAME_WORDS-clause-makes
returns-then-len-ge-FRAME_WORDS-clause-makes g c =
    let v = c.args.vault.now in
    procedure-full (g.V.Vault.outside v) c.args.m.now c.make_procedure-made.new.self c.scope-within.result (c.scope-within.ensures.denotes v) c.args.code
    c.in-Err.ensures.keeps c.requires.sound c.requires.names (let full = c.if-len-ge-FRAME_WORDS.true in omega (arith, full, c.len.ensures))

pub returns-in-Ok-clause-makes : goal.returns-in-Ok-clause-makes
returns-in-Ok-clause-makes g c =
    let v = c.args.vault.now in
    let m = c.args.m.now in
    let now = c.make_procedure-made.new.self in
    procedure-made (g.V.Vault.outside v) m now c.scope-within.result (c.scope-within.ensures.denotes v) c.args.code c.in-Ok.at c.push_ref.new.m
    c.push_ref.result c.in-Ok.ensures.keeps c.in-Ok.ensures.held (names-kept m now c.in-Ok.ensures.keeps c.requires.names) c.in-Ok.ensures.made
    (c.push_ref.ensures.takes v)

pub returns-else-len-ge-FRAME_WORDS-clause-makes : goal.returns-else-len-ge-FRAME_WORDS-clause-makes
returns-else-len-ge-FRAME_WORDS-clause-makes g c =
    let v = c.args.vault.now in
    procedure-broken (g.V.Vault.outside v) c.args.m.now c.make_procedure-made.new.self c.scope-within.result (c.scope-within.ensures.denotes v) c.args.code
    c.in-Err.fault c.broke.new.m c.broke.result c.broke.ensures.answer c.broke.ensures.left c.requires.sound
    (let room = c.if-len-ge-FRAME_WORDS.false in omega (arith, room, c.len.ensures)) c.in-Err.ensures.made
