use Rattle.std.proofs.Common.{◌≤◌, ◌+◌, ℕ, List, subst, ap, arith, refl, ◌∙◌}
use Rattle.std.proofs.lemmas.List.Sums.{count_by-le-length}
use Rattle.std.specs.Prelude.{not}
use Rattle.ps_port.specs.ps_outside.Outside.{Leaves}
use Rattle.paged_volume.specs.Standing.{logical_of, map_count}
use Rattle.paged_volume.specs.Switching.{IsSwitched, IsEither}
use Rattle.paged_volume.specs.Planning.{switched, wanted_pages, IsPlanned}
use Rattle.paged_volume.specs.Committing.{IsTurned}
use Rattle.paged_volume.specs.declared.committed.Committed.{Committed}
use Rattle.paged_volume.proofs.Bounds.{are_low}
use Rattle.paged_volume.proofs.Changed.{changed_most}
use Rattle.paged_volume.proofs.Room.{latest_room}
use Rattle.paged_volume.proofs.Committing.{follows_switched, seen_images, seen_kept, seen_holds, seen_stays, switched_alive, pinned_stay, takes_calls}
use Rattle.paged_volume.proofs.volume.Volume.switch.Goals as goal

pub overflow_add-held : goal.overflow_add-held
overflow_add-held g c =
    let t = c.args.self.now.table in
    let next = switched c.args.used c.args.directory t.committed in
    let follows = follows_switched t.committed c.args.used c.args.directory c.requires.alive.is_table.fit c.requires.used.0 c.requires.used.1 c.requires.directory in
    let low = are_low next follows.fit in
    let few = low.few in
    let pages = low.pages in
    let depth = follows.fit.depth.at_most_one in
    omega (arith, c.held-held.ensures, count_by-le-length not t.map.free, c.requires.alive.is_table.pages, c.wanted_pages-wanted.ensures, ap (λ (k : Committed). wanted_pages t.map k) c.next_committed-next.ensures, changed_most t.map (logical_of next) (map_count next))

pub returns-in-Ok-clause-switches : goal.returns-in-Ok-clause-switches
returns-in-Ok-clause-switches g c =
    let v = c.args.self.now in
    let t = v.table in
    let a = g.H.Host.outside v.host in
    let b = g.H.Host.outside c.switch_to.new.host in
    let follows = follows_switched t.committed c.args.used c.args.directory c.requires.alive.is_table.fit c.requires.used.0 c.requires.used.1 c.requires.directory in
    let plan = subst (λ (k : Committed). IsPlanned t k c.plan.new.table) c.next_committed-next.ensures c.plan.ensures in
    let images = subst (λ (k : Committed). Leaves a b (IsEither a c.plan.new.table k)) c.next_committed-next.ensures c.switch_to.ensures.images in
    let done = subst (λ (k : Committed). (image : List ℕ) → b.images b.clock image → IsSwitched a c.plan.new.table k image) c.next_committed-next.ensures c.in-Ok.ensures.switched in
    let turned = subst (λ (k : Committed). IsTurned c.plan.new.table k c.turn.new.table) c.next_committed-next.ensures c.turn.ensures in
    let works = c.in-Ok.ensures.works in
    record {
      told = works.told;
      counts = works.counts;
      output = works.output;
      images = seen_images a b t c.plan.new.table c.args.used c.args.directory c.requires.alive.is_table follows plan c.turn.new.table images;
      kept = seen_kept a b t c.plan.new.table c.args.used c.args.directory c.requires.alive.is_table follows plan c.turn.new.table done turned c.turn.new.table;
      holds = seen_holds a b t c.plan.new.table c.args.used c.args.directory c.requires.alive.is_table follows plan c.turn.new.table done turned (g.met.H.Host.is_image c.switch_to.new.host);
      stays = seen_stays a b t c.plan.new.table c.args.used c.args.directory c.requires.alive.is_table follows plan c.turn.new.table done turned (g.met.H.Host.is_image c.switch_to.new.host) (g.met.H.Host.one v.host) c.in-Ok.ensures.stays;
    }

pub returns-in-Ok-clause-calls : goal.returns-in-Ok-clause-calls
returns-in-Ok-clause-calls g c =
    let v = c.args.self.now in
    let a = g.H.Host.outside v.host in
    let b = g.H.Host.outside c.switch_to.new.host in
    let follows = follows_switched v.table.committed c.args.used c.args.directory c.requires.alive.is_table.fit c.requires.used.0 c.requires.used.1 c.requires.directory in
    let plan = subst (λ (k : Committed). IsPlanned v.table k c.plan.new.table) c.next_committed-next.ensures c.plan.ensures in
    takes_calls a b v.table c.plan.new.table c.args.used c.args.directory c.requires.alive.is_table follows plan
    (subst (λ (k : Committed). b.device_calls ≤ a.device_calls + (wanted_pages c.plan.new.table.map k + 5)) c.next_committed-next.ensures c.switch_to.ensures.calls)

pub returns-in-Ok-clause-pinned : goal.returns-in-Ok-clause-pinned
returns-in-Ok-clause-pinned g c =
    let v = c.args.self.now in
    let a = g.H.Host.outside v.host in
    let b = g.H.Host.outside c.switch_to.new.host in
    let follows = follows_switched v.table.committed c.args.used c.args.directory c.requires.alive.is_table.fit c.requires.used.0 c.requires.used.1 c.requires.directory in
    let plan = subst (λ (k : Committed). IsPlanned v.table k c.plan.new.table) c.next_committed-next.ensures c.plan.ensures in
    let done = subst (λ (k : Committed). (image : List ℕ) → b.images b.clock image → IsSwitched a c.plan.new.table k image) c.next_committed-next.ensures c.in-Ok.ensures.switched in
    let turned = subst (λ (k : Committed). IsTurned c.plan.new.table k c.turn.new.table) c.next_committed-next.ensures c.turn.ensures in
    pinned_stay a b v.table c.plan.new.table c.args.used c.args.directory c.requires.alive.is_table follows plan c.turn.new.table done turned (g.met.H.Host.is_image c.switch_to.new.host) (g.met.H.Host.one v.host) c.in-Ok.ensures.stays

pub returns-in-Ok-clause-alive : goal.returns-in-Ok-clause-alive
returns-in-Ok-clause-alive g c =
    let v = c.args.self.now in
    let a = g.H.Host.outside v.host in
    let b = g.H.Host.outside c.switch_to.new.host in
    let follows = follows_switched v.table.committed c.args.used c.args.directory c.requires.alive.is_table.fit c.requires.used.0 c.requires.used.1 c.requires.directory in
    let plan = subst (λ (k : Committed). IsPlanned v.table k c.plan.new.table) c.next_committed-next.ensures c.plan.ensures in
    let done = subst (λ (k : Committed). (image : List ℕ) → b.images b.clock image → IsSwitched a c.plan.new.table k image) c.next_committed-next.ensures c.in-Ok.ensures.switched in
    let turned = subst (λ (k : Committed). IsTurned c.plan.new.table k c.turn.new.table) c.next_committed-next.ensures c.turn.ensures in
    let alive = switched_alive a b v.table c.plan.new.table c.args.used c.args.directory c.requires.alive.is_table follows plan c.turn.new.table done turned in
    record { living = c.requires.alive.living; is_table = alive.is_table; says = alive.says }

pub returns-in-Err-clause-switches : goal.returns-in-Err-clause-switches
returns-in-Err-clause-switches g c =
    let v = c.args.self.now in
    let a = g.H.Host.outside v.host in
    let b = g.H.Host.outside c.switch_to.new.host in
    let follows = follows_switched v.table.committed c.args.used c.args.directory c.requires.alive.is_table.fit c.requires.used.0 c.requires.used.1 c.requires.directory in
    let plan = subst (λ (k : Committed). IsPlanned v.table k c.plan.new.table) c.next_committed-next.ensures c.plan.ensures in
    let images = subst (λ (k : Committed). Leaves a b (IsEither a c.plan.new.table k)) c.next_committed-next.ensures c.switch_to.ensures.images in
    let works = c.in-Err.ensures.works in
    record {
      told = works.told;
      counts = works.counts;
      output = works.output;
      images = seen_images a b v.table c.plan.new.table c.args.used c.args.directory c.requires.alive.is_table follows plan c.plan.new.table images;
      kept = tt;
      holds = tt;
      stays = tt;
    }

pub returns-in-Err-clause-calls : goal.returns-in-Err-clause-calls
returns-in-Err-clause-calls g c =
    let v = c.args.self.now in
    let a = g.H.Host.outside v.host in
    let b = g.H.Host.outside c.switch_to.new.host in
    let follows = follows_switched v.table.committed c.args.used c.args.directory c.requires.alive.is_table.fit c.requires.used.0 c.requires.used.1 c.requires.directory in
    let plan = subst (λ (k : Committed). IsPlanned v.table k c.plan.new.table) c.next_committed-next.ensures c.plan.ensures in
    takes_calls a b v.table c.plan.new.table c.args.used c.args.directory c.requires.alive.is_table follows plan
    (subst (λ (k : Committed). b.device_calls ≤ a.device_calls + (wanted_pages c.plan.new.table.map k + 5)) c.next_committed-next.ensures c.switch_to.ensures.calls)

pub returns-in-Err-clause-uncommitted : goal.returns-in-Err-clause-uncommitted
returns-in-Err-clause-uncommitted g c =
    (subst (λ (k : Committed). IsPlanned c.args.self.now.table k c.plan.new.table) c.next_committed-next.ensures c.plan.ensures).committed

pub returns-then-pages-held-clause-fault : goal.returns-then-pages-held-clause-fault
returns-then-pages-held-clause-fault g c =
    let t = c.args.self.now.table in
    let next = switched c.args.used c.args.directory t.committed in
    let wanted = c.wanted_pages-wanted.ensures ∙ ap (λ (k : Committed). wanted_pages t.map k) c.next_committed-next.ensures in
    let more = c.if-pages-held.true in
    let follows = follows_switched t.committed c.args.used c.args.directory c.requires.alive.is_table.fit c.requires.used.0 c.requires.used.1 c.requires.directory in
    (refl, refl, refl, c.held-held.ensures, wanted, refl, more, λ latest. let room = latest_room t c.requires.alive.is_table latest next follows in absurd (omega (arith, wanted, c.held-held.ensures)))

pub returns-in-Err-clause-kept : goal.returns-in-Err-clause-kept
returns-in-Err-clause-kept g c =
    (subst (λ (k : Committed). IsPlanned c.args.self.now.table k c.plan.new.table) c.next_committed-next.ensures c.plan.ensures).pins

pub returns-in-Ok-clause-lists : goal.returns-in-Ok-clause-lists
returns-in-Ok-clause-lists g c =
    let plan = subst (λ (k : Committed). IsPlanned c.args.self.now.table k c.plan.new.table) c.next_committed-next.ensures c.plan.ensures in
    c.turn.ensures.lists.1 ∙ plan.lists.1

pub returns-in-Err-clause-lists : goal.returns-in-Err-clause-lists
returns-in-Err-clause-lists g c =
    (subst (λ (k : Committed). IsPlanned c.args.self.now.table k c.plan.new.table) c.next_committed-next.ensures c.plan.ensures).lists.1
