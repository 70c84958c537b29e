use Rattle.std.proofs.Common.{◌≡◌, ℕ, ◌<◌, ◌≤◌, ◌+◌, ◌-◌, ◌^◌, ◌⊎◌, min, Bool, true, ◌&&◌, List, ◌∷◌, length, sum_by, reverse, rules, refl, sym, subst, ◌∙◌, ap, arith, length-append}
use Rattle.std.proofs.lemmas.Bool.Decides.{nat_tests}
use Rattle.std.proofs.lemmas.List.Sums.{fold_push}
use Rattle.memory_host.specs.declared.memory_host.Act.{Act}
use Rattle.memory_host.specs.declared.memory_host.Call.{Call}
use Rattle.ps_port.specs.ps_outside.Outside.{Leaves, Telling, counted, next_count}
use Rattle.memory_host.specs.Memory.{Event, Memory, AllPast, AllFit, FitsAct, IsImageAt, ImageStep, IsDurable, MayLeave, is_told, after_call, outside_of, contents_of, contents_after, content_step, told_at, told_step, told_after, has_room, taken}
use Rattle.memory_host.specs.MemoryView.{memory_of, events_of}
use Rattle.memory_host.proofs.MemoryMoments.{events_push, contents_call, told_call, images_call, all_images_call, telling_call, durable_call, past_all, same_memory, twice, content_grows, told_grows, taken_push}
use Rattle.memory_host.proofs.memory_host.MemoryHost.keep.Goals as goal

-- where there is room there is a number too
numbered : (host : Memory) (count : ℕ) → has_room host count ≡ true → host.clock < min (host.clock + 1) (2 ^ 64 - 1)
numbered host count room = grind (arith, nat_tests)

roomy : (host : Memory) (count : ℕ) → has_room host count ≡ true → taken host.events + 64 + count ≤ host.room
roomy host count room = grind (arith, nat_tests)

-- what is known where the invariant holds
fits : (h : Memory) (act : Act) (contents : List ℕ) → AllPast h.clock h.events → contents ≡ contents_after h.first h.events → FitsAct act (length (contents_of h)) → FitsAct act (length contents)
fits h act contents all is within =
    subst (λ (xs : List ℕ). FitsAct act (length xs)) (ap (λ (es : List Event). contents_after h.first es) (past_all h.clock h.clock h.events all (omega arith)) ∙ sym is) within

pub act_on-requires-clause-within : goal.act_on-requires-clause-within
act_on-requires-clause-within c =
    fits (memory_of c.self.inside) c.args.act c.self.inside.contents.items c.self.invariant.all_past c.self.invariant.contents_are
    (subst (λ (m : Memory). FitsAct c.args.act (length (contents_of m))) (sym c.self.view_is) c.requires.within)

pub returns-clause-after : goal.returns-clause-after
returns-clause-after c =
    let events : events_of (reverse c.push_call.new.log.items) c.append.new.bytes.items ≡ record { number = c.self.inside.clock; act = c.args.act; bytes = c.args.bytes.now } ∷ events_of (reverse c.self.inside.log.items) c.self.inside.kept.items =
    (λ i. events_of (reverse (c.push_call.ensures.items i)) (c.append.ensures.items i)) ∙ events_push c.self.inside.log.items c.self.inside.kept.items c.args.bytes.now _ refl in
    let clock : c.saturating_add-self-inside.result ≡ next_count c.self.inside.clock = search rules in
    same_memory c.self.inside.first.items c.self.inside.failing.items c.self.inside.calls c.self.inside.room events clock
    (c.count_if-self-inside.ensures ∙ ap (λ (b : Bool). counted b c.self.inside.device_calls) c.is_device-device.ensures)
    (c.count_if-self-inside-2.ensures ∙ ap (λ (b : Bool). counted b c.self.inside.device_faults) (c.both.ensures ∙ ap (λ (b : Bool). c.args.failed && b) c.is_device-device.ensures))
    (c.count_if-self-inside-3.ensures ∙ ap (λ (b : Bool). counted b c.self.inside.output_faults) (c.both-2.ensures ∙ twice c.args.failed (is_told c.args.act) c.is_device-device.result c.is_device-device.ensures))
    ∙ ap (λ (h : Memory). after_call h c.args.act c.args.bytes.now c.args.failed) c.self.view_is

pub invariant_of-self : goal.invariant_of-self
invariant_of-self c =
    let inv = c.self.invariant in
    let h = memory_of c.self.inside in
    let old = events_of (reverse c.self.inside.log.items) c.self.inside.kept.items in
    let event : Event = record { number = c.self.inside.clock; act = c.args.act; bytes = c.args.bytes.now } in
    let events : events_of (reverse c.push_call.new.log.items) c.append.new.bytes.items ≡ event ∷ old =
    (λ i. events_of (reverse (c.push_call.ensures.items i)) (c.append.ensures.items i)) ∙ events_push c.self.inside.log.items c.self.inside.kept.items c.args.bytes.now _ refl in
    let clock : c.saturating_add-self-inside.result ≡ next_count c.self.inside.clock = search rules in
    let room : has_room h (length c.args.bytes.now) ≡ true = subst (λ (m : Memory). has_room m (length c.args.bytes.now) ≡ true) (sym c.self.view_is) c.requires.room in
    let lt = numbered h (length c.args.bytes.now) room in
    let within = roomy h (length c.args.bytes.now) room in
    let fit = fits h c.args.act c.self.inside.contents.items inv.all_past inv.contents_are (subst (λ (m : Memory). FitsAct c.args.act (length (contents_of m))) (sym c.self.view_is) c.requires.within) in
    let log_size = ap length c.push_call.ensures.items ∙ length-append c.self.inside.log.items _ in
    let kept_size = ap length c.append.ensures.items ∙ length-append c.self.inside.kept.items c.args.bytes.now in
    let taken_is = ap taken events ∙ taken_push event old in
    let contents_size = ap length c.act_on.ensures.contents in
    let told_size = ap length c.act_on.ensures.told in
    let contents_grow = content_grows c.args.act c.args.bytes.now c.self.inside.contents.items fit in
    let told_grow = told_grows c.args.act c.args.bytes.now c.self.inside.told.items in
    record {
      all_past = subst (λ (es : List Event). AllPast c.saturating_add-self-inside.result es) (sym events) (let gt : c.self.inside.clock < c.saturating_add-self-inside.result = omega arith in (gt, inv.all_past));
      all_fit = subst (λ (es : List Event). AllFit c.self.inside.first.items es) (sym events) (subst (λ (xs : List ℕ). FitsAct c.args.act (length xs)) inv.contents_are fit, inv.all_fit);
      contents_are = c.act_on.ensures.contents ∙ ap (λ (xs : List ℕ). content_step c.args.act c.args.bytes.now xs) inv.contents_are ∙ sym (ap (λ (es : List Event). contents_after c.self.inside.first.items es) events);
      told_are = c.act_on.ensures.told ∙ ap (λ (xs : List ℕ). told_step c.args.act c.args.bytes.now xs) inv.told_are ∙ sym (ap told_after events);
      taken_is = omega (arith, taken_is, inv.taken_is, log_size, kept_size);
      lens = ap (λ (calls : List Call). sum_by (λ (call : Call). call.len) calls) c.push_call.ensures.items ∙ fold_push (λ (a : ℕ) (call : Call). a + call.len) 0 c.self.inside.log.items _ ∙ ap (λ (n : ℕ). n + length c.args.bytes.now) inv.lens ∙ sym kept_size;
      in_room = omega (arith, within, inv.taken_is, log_size, kept_size);
      contents_within = omega (arith, inv.contents_within, contents_size, contents_grow, kept_size);
      told_within = omega (arith, inv.told_within, told_size, told_grow, kept_size);
      contents_taken = omega (arith, inv.contents_taken, c.act_on.ensures.contents_capacity);
      told_taken = omega (arith, inv.told_taken, c.act_on.ensures.told_capacity);
      kept_taken = omega (arith, inv.kept_taken, c.append.ensures.capacity);
      log_taken = omega (arith, inv.log_taken, c.push_call.ensures.capacity);
    }

pub returns-clause-images : goal.returns-clause-images
returns-clause-images c =
    let all = subst (λ (m : Memory). AllPast m.clock m.events) c.self.view_is c.self.invariant.all_past in
    subst (λ (m : Memory). Leaves (outside_of c.args.self.now) (outside_of m) (MayLeave c.args.act (length c.args.bytes.now) (IsImageAt c.args.self.now c.args.self.now.clock))) (sym (returns-clause-after c))
    (images_call c.args.self.now c.args.act c.args.bytes.now c.args.failed all (numbered c.args.self.now _ c.requires.room))

pub returns-clause-durable : goal.returns-clause-durable
returns-clause-durable c =
    let all = subst (λ (m : Memory). AllPast m.clock m.events) c.self.view_is c.self.invariant.all_past in
    subst (λ (m : Memory). IsDurable c.args.act (outside_of m)) (sym (returns-clause-after c))
    (durable_call c.args.self.now c.args.act c.args.bytes.now c.args.failed all (numbered c.args.self.now _ c.requires.room))

pub returns-clause-contents : goal.returns-clause-contents
returns-clause-contents c =
    let all = subst (λ (m : Memory). AllPast m.clock m.events) c.self.view_is c.self.invariant.all_past in
    ap contents_of (returns-clause-after c)
    ∙ contents_call c.args.self.now c.args.act c.args.bytes.now c.args.failed all (numbered c.args.self.now _ c.requires.room)

pub returns-clause-told : goal.returns-clause-told
returns-clause-told c =
    let all = subst (λ (m : Memory). AllPast m.clock m.events) c.self.view_is c.self.invariant.all_past in
    subst (λ (m : Memory). Telling (outside_of c.args.self.now) (outside_of m) (λ told. (told ≡ told_at c.args.self.now c.args.self.now.clock) ⊎ (told ≡ told_step c.args.act c.args.bytes.now (told_at c.args.self.now c.args.self.now.clock)))) (sym (returns-clause-after c))
    (telling_call c.args.self.now c.args.act c.args.bytes.now c.args.failed all (numbered c.args.self.now _ c.requires.room))

pub returns-clause-told_all : goal.returns-clause-told_all
returns-clause-told_all c =
    let all = subst (λ (m : Memory). AllPast m.clock m.events) c.self.view_is c.self.invariant.all_past in
    ap (λ (m : Memory). told_at m m.clock) (returns-clause-after c)
    ∙ told_call c.args.self.now c.args.act c.args.bytes.now c.args.failed all (numbered c.args.self.now _ c.requires.room)

pub returns-clause-images_all : goal.returns-clause-images_all
returns-clause-images_all c =
    let all = subst (λ (m : Memory). AllPast m.clock m.events) c.self.view_is c.self.invariant.all_past in
    subst (λ (m : Memory). (image : List ℕ) → ImageStep c.args.act c.args.bytes.now (contents_of c.args.self.now) (IsImageAt c.args.self.now c.args.self.now.clock) image → IsImageAt m m.clock image) (sym (returns-clause-after c))
    (all_images_call c.args.self.now c.args.act c.args.bytes.now c.args.failed all (numbered c.args.self.now _ c.requires.room))
