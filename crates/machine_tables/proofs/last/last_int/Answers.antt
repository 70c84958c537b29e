use Rattle.machine_core.specs.ps_heap.Tables.{int_key}
use Rattle.std.proofs.Common.{◌≡◌, ◌+◌, ℤ, Some, w32, to_z, of_z, true, false, rules, sym, ap, ◌∙◌, arith}
use Rattle.machine_core.specs.ps_heap.Values.{is_one}
use Rattle.machine_tables.proofs.Lasts.{last-int, last-none, num-local}
use Rattle.machine_tables.proofs.last.last_int.Goals as goal

pub returns-then-not-is_one-clause-is : goal.returns-then-not-is_one-clause-is
returns-then-not-is_one-clause-is g c v names conf h =
    let outside = g.V.Vault.outside v in
    let m = c.args.m.now in
    let scan = c.args.scan in
    let z = c.word-is_there.result in
    let none : is_one z ≡ false = search rules in
    sym (last-none false scan.refs scan.nums conf z (num-local outside m names conf h (scan.nums + 2) z c.requires.locals.nums c.word-is_there.ensures) none)

pub returns-clause-is : goal.returns-clause-is
returns-clause-is g c v names conf h =
    let outside = g.V.Vault.outside v in
    let m = c.args.m.now in
    let scan = c.args.scan in
    let z = c.word-is_there.result in
    let k = c.word.result in
    let low = c.requires.locals.nums in
    let there : is_one z ≡ true = search rules in
    let same : to_z w32 (of_z w32 k) ≡ k = search rules in
    ap (λ (x : ℤ). Some (int_key x)) same
    ∙ last-int scan.refs scan.nums conf z k (num-local outside m names conf h (scan.nums + 2) z low c.word-is_there.ensures) there
    (num-local outside m names conf h (scan.nums + 1) k (omega (arith, low)) c.word.ensures)
