use Rattle.std.proofs.Common.{◌≡◌, ◌≤◌, ◌+◌, ◌-◌, ◌^◌, min, Bool, true, rules, refl, sym, subst, ◌∙◌, ap, arith}
use Rattle.ps_port.specs.ps_outside.Outside.{LeavesSame, TellsNothing, counted, next_count}
use Rattle.memory_host.specs.Memory.{Memory, AllPast, is_told, after_counts, outside_of, contents_of}
use Rattle.memory_host.proofs.MemoryMoments.{contents_refused, images_refused, telling_refused, all_later, same_memory, twice}
use Rattle.memory_host.proofs.memory_host.MemoryHost.refuse.Goals as goal

pub returns-clause-after : goal.returns-clause-after
returns-clause-after c =
    let clock : c.saturating_add-self-inside.result ≡ next_count c.self.inside.clock = search rules in
    same_memory c.self.inside.first.items c.self.inside.failing.items c.self.inside.calls c.self.inside.room refl clock
    (c.count_if-self-inside.ensures ∙ ap (λ (b : Bool). counted b c.self.inside.device_calls) c.is_device-device.ensures)
    (c.count_if-self-inside-2.ensures ∙ ap (λ (b : Bool). counted b c.self.inside.device_faults) c.is_device-device.ensures)
    (c.count_if-self-inside-3.ensures ∙ ap (λ (b : Bool). counted b c.self.inside.output_faults) (twice true (is_told c.args.act) c.is_device-device.result c.is_device-device.ensures))
    ∙ ap (λ (h : Memory). after_counts h c.args.act true) c.self.view_is

pub invariant_of-self : goal.invariant_of-self
invariant_of-self c =
    let inv = c.self.invariant in
    let clock : c.saturating_add-self-inside.result ≡ next_count c.self.inside.clock = search rules in
    let later : c.self.inside.clock ≤ c.saturating_add-self-inside.result = omega arith in
    record {
      all_past = all_later c.self.inside.clock c.saturating_add-self-inside.result _ later inv.all_past;
      all_fit = inv.all_fit;
      contents_are = inv.contents_are;
      told_are = inv.told_are;
      taken_is = inv.taken_is;
      lens = inv.lens;
      in_room = inv.in_room;
      contents_within = inv.contents_within;
      told_within = inv.told_within;
      contents_taken = inv.contents_taken;
      told_taken = inv.told_taken;
      kept_taken = inv.kept_taken;
      log_taken = inv.log_taken;
    }

pub returns-clause-images : goal.returns-clause-images
returns-clause-images c =
    let all = subst (λ (m : Memory). AllPast m.clock m.events) c.self.view_is c.self.invariant.all_past in
    let later : c.self.inside.clock ≤ min (c.self.inside.clock + 1) (2 ^ 64 - 1) = omega arith in
    let later_now = subst (λ (m : Memory). m.clock ≤ min (m.clock + 1) (2 ^ 64 - 1)) c.self.view_is later in
    subst (λ (m : Memory). LeavesSame (outside_of c.args.self.now) (outside_of m)) (sym (returns-clause-after c)) (images_refused c.args.self.now c.args.act all later_now)

pub returns-clause-told : goal.returns-clause-told
returns-clause-told c =
    let all = subst (λ (m : Memory). AllPast m.clock m.events) c.self.view_is c.self.invariant.all_past in
    let later : c.self.inside.clock ≤ min (c.self.inside.clock + 1) (2 ^ 64 - 1) = omega arith in
    let later_now = subst (λ (m : Memory). m.clock ≤ min (m.clock + 1) (2 ^ 64 - 1)) c.self.view_is later in
    subst (λ (m : Memory). TellsNothing (outside_of c.args.self.now) (outside_of m)) (sym (returns-clause-after c)) (telling_refused c.args.self.now c.args.act all later_now)

pub returns-clause-contents : goal.returns-clause-contents
returns-clause-contents c =
    let all = subst (λ (m : Memory). AllPast m.clock m.events) c.self.view_is c.self.invariant.all_past in
    let later : c.self.inside.clock ≤ min (c.self.inside.clock + 1) (2 ^ 64 - 1) = omega arith in
    let later_now = subst (λ (m : Memory). m.clock ≤ min (m.clock + 1) (2 ^ 64 - 1)) c.self.view_is later in
    ap contents_of (returns-clause-after c) ∙ contents_refused c.args.self.now c.args.act all later_now
