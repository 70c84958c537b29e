use Rattle.std.proofs.Common.{◌≡◌, suc, ◌-◌, ◌<◌, ◌≤◌, ap, sym, subst, refl, length, arith}
use Rattle.ps_stepping.specs.Steps.{Step}
use Rattle.ps_stepping.specs.ps_meaning.Evaluation.{most_calls}
use Rattle.machine_core.specs.declared.machine.Machine.{Machine}
use Rattle.machine_core.specs.Holding.{HeldBy}
use Rattle.machine_core.specs.Stepped.{Does}
use Rattle.machine_core.proofs.Handing.{taken-frame}
use Rattle.machine_core.proofs.Calling.{stuck-call, too-deep, out-of-turns, begun, goes-in, held-in}
use Rattle.machine_core.proofs.Naming.{names-entered}
use Rattle.machine_core.proofs.calls.call_body.Goals as goal

pub returns-then-len-m-clause-calls : goal.returns-then-len-m-clause-calls
returns-then-len-m-clause-calls g c =
    let m = c.args.m.now in
    let there = c.requires.there in
    let at = length m.refs.own - 1 - c.args.refs in
    λ v. record {
      sound = c.requires.sound;
      names = λ n there. n;
      size = refl;
      does = λ names conf of scope h is.
          stuck-call m (g.V.Vault.outside v) names conf h c.args.refs c.args.body.frame.num_params at (omega (arith, there)) (omega (arith, there)) c.args.line of scope
          (omega (arith, c.len.ensures, c.if-len-m.true));
    }

pub returns-then-len-ge-MOST_CALLERS-clause-calls : goal.returns-then-len-ge-MOST_CALLERS-clause-calls
returns-then-len-ge-MOST_CALLERS-clause-calls g c =
    let m = c.args.m.now in
    let there = c.requires.there in
    let at = length m.refs.own - 1 - c.args.refs in
    let low = length m.nums.own - c.args.body.frame.num_params in
    λ v.
    let out = g.V.Vault.outside v in
    let t = c.trapped.ensures.takes v in
    record {
      sound = t.sound;
      names = λ n there. t.names n;
      size = t.size;
      does = λ names conf of scope h is.
          subst (λ (s : Step). Does out out m.objects.size s c.trapped.result c.trapped.new.m)
          (sym (too-deep m (g.V.Vault.outside v) names conf h c.args.refs c.args.body.frame.num_params at (omega (arith, there)) (omega (arith, there)) c.args.line of scope low
          (omega (arith, c.len.ensures, c.if-len-m.false)) (omega (arith, c.len.ensures, c.if-len-m.false))
          (omega (arith, c.len-2.ensures, c.if-len-ge-MOST_CALLERS.true, m.callers.ok.0))))
          (t.does conf (record { names = names; held = h }));
    }

pub returns-then-m-eq0-clause-calls : goal.returns-then-m-eq0-clause-calls
returns-then-m-eq0-clause-calls g c =
    let m = c.args.m.now in
    let there = c.requires.there in
    let at = length m.refs.own - 1 - c.args.refs in
    let low = length m.nums.own - c.args.body.frame.num_params in
    λ v.
    let out = g.V.Vault.outside v in
    let t = c.halt.ensures.takes v in
    record {
      sound = t.sound;
      names = λ n there. t.names n;
      size = t.size;
      does = λ names conf of scope h is.
          subst (λ (s : Step). Does out out m.objects.size s c.halt.result c.halt.new.m)
          (sym (out-of-turns m (g.V.Vault.outside v) names conf h c.args.refs c.args.body.frame.num_params at (omega (arith, there)) (omega (arith, there)) c.args.line of scope low
          (omega (arith, c.len.ensures, c.if-len-m.false)) (omega (arith, c.len.ensures, c.if-len-m.false))
          (omega (arith, c.len-2.ensures, c.if-len-ge-MOST_CALLERS.false, m.callers.ok.0)) (omega (arith, c.if-m-eq0.true))))
          (t.does conf (record { names = names; held = h }));
    }

pub returns-clause-calls : goal.returns-clause-calls
returns-clause-calls g c =
    let m = c.args.m.now in
    let e = c.enter.ensures in
    let body = c.args.body in
    let there = c.requires.there in
    let f = taken-frame c.args.refs body.frame c.requires.takes in
    let t = m.turns - 1 in
    let some : m.turns ≡ suc t = omega (arith, c.if-m-eq0.false) in
    let refs_low : m.frame.refs ≤ e.low_refs = let is = e.refs_count in omega (arith, there, is) in
    let nums_low : m.frame.nums ≤ e.low_nums = let is = e.nums_count in omega (arith, is, c.len.ensures, c.if-len-m.false) in
    let few : length m.callers.items < most_calls = omega (arith, c.len-2.ensures, c.if-len-ge-MOST_CALLERS.false, m.callers.ok.0) in
    λ v.
    let out = g.V.Vault.outside v in
    record {
      sound = e.sound;
      names = λ n there. names-entered body c.args.refs (record m { turns = t }) c.enter.new.m e (record { code = n.code; scope = n.scope; own = n.own; below = n.below; callers = n.callers; item = n.item; databases = n.databases }) there;
      size = ap (λ (n : Machine). n.objects.size) e.new_is;
      does = λ names conf of scope h is. (
        conf.store.held.counted,
        begun m out names conf h c.args.refs body.frame.num_params e.low_refs e.refs_count refs_low c.args.line of scope e.low_nums e.nums_count nums_low few t some,
        goes-in m out names conf h c.args.refs body.frame.num_params e.low_refs e.refs_count refs_low c.args.line of scope e.low_nums e.nums_count nums_low few t some,
        record {
          names = names;
          held =
              subst (λ (n : Machine). HeldBy out names n (begun m out names conf h c.args.refs body.frame.num_params e.low_refs e.refs_count refs_low c.args.line of scope e.low_nums e.nums_count nums_low few t some)) (sym e.new_is)
              (held-in m out names conf h c.args.refs body.frame.num_params e.low_refs e.refs_count refs_low c.args.line of scope e.low_nums e.nums_count nums_low few t some body is f.nums_fit
              (let is_refs = f.refs_are in let fit = f.refs_fit in omega (arith, is_refs, fit)) e.nums e.refs e.callers e.own_nums e.own_refs e.callers_are e.nums_below e.refs_below);
        },
      );
    }
