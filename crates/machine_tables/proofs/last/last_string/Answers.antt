use Rattle.std.proofs.Common.{◌≡◌, ◌+◌, true, false, rules}
use Rattle.machine_core.specs.ps_heap.Values.{is_one}
use Rattle.machine_tables.proofs.Lasts.{empty-last, last-none, last-some, num-local, string-last}
use Rattle.machine_tables.proofs.last.last_string.Goals as goal

pub returns-then-not-is_one-clause-is : goal.returns-then-not-is_one-clause-is
returns-then-not-is_one-clause-is g c v names conf h =
    let m = c.args.m.now in
    let out = g.V.Vault.outside v in
    let scan = c.args.scan in
    let z = c.word-is_there.result in
    let none : is_one z ≡ false = search rules in
    last-none true scan.refs scan.nums conf z (num-local out m names conf h (scan.nums + 2) z c.requires.locals.nums c.word-is_there.ensures) none

pub returns-in-Some-clause-is : goal.returns-in-Some-clause-is
returns-in-Some-clause-is g c v names conf h =
    let m = c.args.m.now in
    let out = g.V.Vault.outside v in
    let scan = c.args.scan in
    let z = c.word-is_there.result in
    let there : is_one z ≡ true = search rules in
    string-last out m names (conf.locals.refs (scan.refs + 2)) true c.in-Some.at _
    (last-some true scan.refs scan.nums conf z (num-local out m names conf h (scan.nums + 2) z c.requires.locals.nums c.word-is_there.ensures) there)
    (c.in-Some.ensures.is v names conf h)

pub returns-in-None-clause-is : goal.returns-in-None-clause-is
returns-in-None-clause-is g c v names conf h =
    let m = c.args.m.now in
    let out = g.V.Vault.outside v in
    let scan = c.args.scan in
    let z = c.word-is_there.result in
    let there : is_one z ≡ true = search rules in
    empty-last out m names (conf.locals.refs (scan.refs + 2)) _
    (last-some true scan.refs scan.nums conf z (num-local out m names conf h (scan.nums + 2) z c.requires.locals.nums c.word-is_there.ensures) there)
    (c.in-None.ensures.is v names conf h)
