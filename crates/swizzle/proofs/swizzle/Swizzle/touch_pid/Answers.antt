use Rattle.std.proofs.Common.{inl, inr, ◌≡◌, ◌<◌, ◌≤◌, ◌+◌, ◌%◌, ◌^◌, ◌++◌, ◌∷◌, [], ◌∙◌, ℕ, List, Ok, Err, None, sym, ap, arith, length, vec_capacity, refl, subst, get_or, set}
use Rattle.std.proofs.lemmas.List.{with_items_is}
use Rattle.std.specs.Vec.{with_items}
use Rattle.obj_area.specs.Area.{AreaView}
use Rattle.obj_layout.specs.declared.header.Header.{Header}
use Rattle.obj_layout.specs.Stored.{Holds}
use Rattle.obj_layout.proofs.StoredLaws.{Holds-same}
use Rattle.swizzle.specs.Objects.{size_of, size_of_all, object_words}
use Rattle.obj_layout.specs.declared.reference.Reference.TheVariants.{Pid}
use Rattle.swizzle.specs.Joint.{name_at}
use Rattle.swizzle.proofs.JointLaws.{held-cases}
use Rattle.swizzle.specs.Heap.{Heap, IsHeap, IsHeld, with_new, top_of, local_of}
use Rattle.swizzle.specs.Kept.{Beside}
use Rattle.swizzle.specs.View.{noted_of, beside_of}
use Rattle.swizzle.specs.Fetched.{near, IsNear, IsLocal}
use Rattle.swizzle.proofs.ObjectLaws.{length-object_words, size_of_all-append}
use Rattle.pid_map.proofs.ChainLaws.{bucket_below}
use Rattle.swizzle.proofs.ChainedLaws.{mapped-laid}
use Rattle.swizzle.proofs.KeptLaws.{heap_is, Again, kept_long, laid}
use Rattle.swizzle.proofs.TouchLaws.{touch-two}
use Rattle.swizzle.proofs.FetchedLaws.{local-place, Near, near_words, Came, came-place, came-keeps, came-touched, near-pid, near-plain, near-bare}
use Rattle.swizzle.specs.Damaged.{IsSound}
use Rattle.swizzle.proofs.NameLaws.{pid_in}
use Rattle.swizzle.proofs.DamageLaws.{reports-same, tested_damage}
use Rattle.swizzle.proofs.swizzle.Swizzle.touch_pid.Given
use Rattle.swizzle.proofs.swizzle.Swizzle.touch_pid.Goals as goal

pub returns-in-Some-clause-place : goal.returns-in-Some-clause-place
returns-in-Some-clause-place g c = local-place c.args.self.now c.args.pid c.in-Some.at c.requires.low (sym c.in-Some.ensures)

pub returns-then-count-size-clause-fault : goal.returns-then-count-size-clause-fault
returns-then-count-size-clause-fault g c =
    let long = kept_long c.self.inside _ c.self.view_is c.self.invariant in
    let size = ap (λ (h : Heap). h.size) c.self.view_is in
    let top : c.top-top.result ≡ top_of c.args.self.now = omega (arith, c.top-top.ensures.top, long) in (
      top,
      c.size-size.ensures.size ∙ size,
      omega (arith, c.if-count-size.true, c.size-size.ensures.within, c.top-top.ensures.top, c.size-size.ensures.size),
      (c.args.pid, refl, sym c.find.ensures ∙ c.in_default.is, c.in-Ok.ensures.tested.sound, c.in-Ok.ensures.told),
    )

-- the object has so many words as its place has
fetched_long : (words buffer : List ℕ) (count pid link : ℕ) (header : Header) → IsNear words buffer pid link header → count ≡ length buffer → pid < 2 ^ 63 → link < 2 ^ 64 → (count ≡ size_of (near pid link words)) × (5 ≤ count)
fetched_long words buffer count pid link header n is low linked =
    let it = near_words words header pid link n.far n.fits in
    let fit = it.fit low linked in
    let long : count ≡ size_of (near pid link words) = is ∙ ap length n.spelled ∙ length-object_words (near pid link words) fit in
    (long, omega (arith, fit.home))

buffer_long : (g : Given.Over) (c : goal.After-put g) → c.in-Ok.count ≡ length c.fetch_near.new.buffer
buffer_long g c = omega (arith, c.fetch_near.auto.buffer, ap length c.deref_mut.ensures.value, c.make_room.ensures.long)

-- the buffer after the fetch
buffer_is : (g : Given.Over) (c : goal.After-put g) → (with_items c.make_room.new.buffer c.fetch_near.new.buffer).items ≡ c.fetch_near.new.buffer
buffer_is g c = with_items_is c.make_room.new.buffer c.fetch_near.new.buffer (omega (arith, c.fetch_near.auto.buffer, c.deref_mut.ensures.len, ap length c.deref_mut.ensures.value, c.make_room.new.buffer.ok.0))

away : (g : Given.Over) (c : goal.After-put g) → local_of c.args.self.now c.args.pid ≡ None
away g c = sym c.find.ensures ∙ c.in_default.is

near_it : (g : Given.Over) (c : goal.After-put g) → Near c.in_default-fetch_near.ensures.near.words c.in_default-fetch_near.field-0 c.args.pid c.head-link.result
near_it g c = let n = c.in_default-fetch_near.ensures.near.near_is in near_words c.in_default-fetch_near.ensures.near.words c.in_default-fetch_near.field-0 c.args.pid c.head-link.result n.far n.fits

beside : (g : Given.Over) → goal.After-put g → Beside
beside g c = record {
  places = vec_capacity c.self.inside.assigned;
  stops = vec_capacity c.self.inside.reached;
  heads = c.put.new.self.heads.items;
  greatest = c.max-self-inside.result;
  room = vec_capacity (with_items c.make_room.new.buffer c.fetch_near.new.buffer);
}

made : (g : Given.Over) (c : goal.After-put g) → Again c.lay.new.area.words c.lay.new.area.size (noted_of c.self.inside) (beside g c) (with_new c.args.self.now (near c.args.pid c.head-link.result c.in_default-fetch_near.ensures.near.words))
unfolding beside
made g c =
    let f = c.in_default-fetch_near.ensures.near in
    let now = c.args.self.now in
    let o = near c.args.pid c.head-link.result f.words in
    let it = near_it g c in
    let long = kept_long c.self.inside _ c.self.view_is c.self.invariant in
    let size = ap (λ (h : Heap). h.size) c.self.view_is in
    let count = (fetched_long f.words c.fetch_near.new.buffer c.in-Ok.count c.args.pid c.head-link.result c.in_default-fetch_near.field-0 f.near_is (buffer_long g c) c.requires.high (omega arith)).0 in
    let pid = near-pid c.args.pid c.head-link.result f.words c.in_default-fetch_near.field-0 it in
    let words : c.lay.new.area.words ≡ c.self.inside.area.words ++ object_words o =
    ap (λ (a : AreaView). a.words) c.lay.ensures
    ∙ ap (λ (r : List ℕ). c.self.inside.area.words ++ r) (c.deref.ensures.value ∙ buffer_is g c ∙ f.near_is.spelled) in
    let place : c.top-top.result ≡ 1 + size_of_all now.objects = omega (arith, c.top-top.ensures.top, long) in
    laid c.self.inside c.lay.new.area (beside g c) now o c.self.view_is c.self.invariant words (ap (λ (a : AreaView). a.size) c.lay.ensures)
    (it.fit c.requires.high (omega arith)) (omega (arith, count, c.if-count-size.false, c.top-top.ensures.top, c.size-size.ensures.size, c.size-size.ensures.within))
    (near-plain c.args.pid c.head-link.result f.words c.in_default-fetch_near.field-0 it)
    (near-bare c.args.pid c.head-link.result f.words c.in_default-fetch_near.field-0 it)
    (λ some. ap (local_of now) pid ∙ away g c)
    (it.inside now) refl refl
    (λ m.
    let good : IsHeap now = subst IsHeap c.self.view_is c.self.invariant.heap in
    let heads = c.self.inside.map.heads.items in
    let at : o.header.pid % length heads ≡ c.args.pid % length heads = ap (λ (p : ℕ). p % length heads) pid in
    let below = bucket_below c.args.pid (length heads) (length heads) refl m.some in
    let link : o.header.chain ≡ c.head-link.result = ap (λ (h : Header). h.chain) it.header_is in
    mapped-laid now.objects now.size (beside_of c.self.inside) o c.top-top.result (vec_capacity (with_items c.make_room.new.buffer c.fetch_near.new.buffer)) c.max-self-inside.result c.put.new.self.heads.items good.one m
    (omega (arith, pid, c.requires.low)) (ap (local_of now) pid ∙ away g c) (omega (arith, at, below))
    (link ∙ c.head-link.ensures ∙ ap (λ (b : ℕ). get_or heads b 0) (sym at)) (omega (arith, link)) place
    (c.put.ensures ∙ ap (λ (b : ℕ). set heads b c.top-top.result) (sym at)) (omega (arith, c.max-self-inside.ensures, pid)) (omega (arith, m.for_fetch, c.make_room.ensures.capacity)))

came : (g : Given.Over) (c : goal.After-put g) → Came c.args.self.now (heap_is c.lay.new.area (noted_of c.self.inside)) c.args.pid c.head-link.result c.in_default-fetch_near.ensures.near.words
came g c = record {
  is = (made g c).seen;
  header = c.in_default-fetch_near.field-0;
  near_words = near_it g c;
  away = away g c;
  good = subst IsHeap c.self.view_is c.self.invariant.heap;
}

pub invariant_of-self-2 : goal.invariant_of-self-2
unfolding beside
invariant_of-self-2 g c = (made g c).kept

pub returns-clause-place : goal.returns-clause-place
returns-clause-place g c =
    let now = heap_is c.lay.new.area (noted_of c.self.inside) in
    let long = kept_long c.self.inside _ c.self.view_is c.self.invariant in
    let place : c.top-top.result ≡ top_of c.args.self.now = omega (arith, c.top-top.ensures.top, long) in
    subst (IsLocal now c.args.pid) (sym place) (came-place c.args.self.now now c.args.pid c.head-link.result c.in_default-fetch_near.ensures.near.words c.requires.low (came g c))

pub returns-clause-keeps : goal.returns-clause-keeps
returns-clause-keeps g c =
    came-keeps c.args.self.now (heap_is c.lay.new.area (noted_of c.self.inside)) c.args.pid c.head-link.result c.in_default-fetch_near.ensures.near.words (came g c)

pub returns-clause-joint : goal.returns-clause-joint
returns-clause-joint g c =
    let a = g.V.Vault.outside c.args.vault.now in
    let b = g.V.Vault.outside c.length.new.self in
    let d = g.V.Vault.outside c.fetch_near.new.vault in
    came-touched c.args.self.now (heap_is c.lay.new.area (noted_of c.self.inside)) c.args.pid c.head-link.result c.in_default-fetch_near.ensures.near.words (Holds a) (Holds d) c.requires.low (came g c)
    (λ list h. c.in_default-fetch_near.ensures.near.told list ((Holds-same a b c.in-Ok.ensures.same c.args.pid list).1 h))
    (λ p list. (λ h. (Holds-same a b c.in-Ok.ensures.same p list).0 ((Holds-same b d c.fetch_near.ensures.same p list).0 h), λ h. (Holds-same b d c.fetch_near.ensures.same p list).1 ((Holds-same a b c.in-Ok.ensures.same p list).1 h)))

pub returns-clause-call : goal.returns-clause-call
returns-clause-call g c =
    let f = c.in_default-fetch_near.ensures.near in
    let now = c.args.self.now in
    let new = heap_is c.lay.new.area (noted_of c.self.inside) in
    let o = near c.args.pid c.head-link.result f.words in
    let long_enough = fetched_long f.words c.fetch_near.new.buffer c.in-Ok.count c.args.pid c.head-link.result c.in_default-fetch_near.field-0 f.near_is (buffer_long g c) c.requires.high (omega arith) in
    let count = long_enough.0 in
    let top : top_of new ≡ top_of now + c.in-Ok.count = ap top_of (made g c).seen ∙ omega (arith, size_of_all-append now.objects (o ∷ []), count) in
    let long : length c.deref_mut.result.now ≡ c.in-Ok.count = omega (arith, ap length c.deref_mut.ensures.value, c.make_room.ensures.long) in
    touch-two now new (g.V.Vault.outside c.args.vault.now) (g.V.Vault.outside c.length.new.self) (g.V.Vault.outside c.fetch_near.new.vault) _ _ _ _ (Ok c.top-top.result)
    c.in-Ok.ensures.call c.in-Ok.ensures.same c.in_default-fetch_near.ensures.call c.fetch_near.ensures.same
    (λ e. absurd (cc)) (λ e. cc) (λ used wanted capacity e. cc) (λ held wanted pages e. cc)
    (inr (omega (arith, long_enough.1, top), omega (arith, c.in-Ok.ensures.call.calls, c.in_default-fetch_near.ensures.call.calls, top, long)))

pub returns-in-Err-clause-fault : goal.returns-in-Err-clause-fault
returns-in-Err-clause-fault g c = (
  c.args.pid,
  refl,
  sym c.find.ensures ∙ c.in_default.is,
  λ at found wanted e. tested_damage (g.V.Vault.outside c.args.vault.now) c.args.pid None _ c.in-Err.ensures.tested tt at found wanted (ap Err e),
)

pub returns-in-Err-fetch_near-clause-fault : goal.returns-in-Err-fetch_near-clause-fault
returns-in-Err-fetch_near-clause-fault g c = (
  c.args.pid,
  refl,
  sym c.find.ensures ∙ c.in_default.is,
  reports-same (g.V.Vault.outside c.args.vault.now) (g.V.Vault.outside c.length.new.self) c.args.pid c.in-Err-fetch_near.fault c.in-Ok.ensures.same
      c.in-Err-fetch_near.ensures.fault.damaged,
)

pub returns-clause-came : goal.returns-clause-came
returns-clause-came g c =
    let f = c.in_default-fetch_near.ensures.near in
    let now = c.args.self.now in
    let new = heap_is c.lay.new.area (noted_of c.self.inside) in
    let o = near c.args.pid c.head-link.result f.words in
    let count = (fetched_long f.words c.fetch_near.new.buffer c.in-Ok.count c.args.pid c.head-link.result c.in_default-fetch_near.field-0 f.near_is (buffer_long g c) c.requires.high (omega arith)).0 in
    let top : top_of new ≡ top_of now + c.in-Ok.count = ap top_of (made g c).seen ∙ omega (arith, size_of_all-append now.objects (o ∷ []), count) in
    inr (c.args.pid, refl, away g c, λ words held. omega (arith, top, c.in-Ok.ensures.told words held))

pub returns-clause-only : goal.returns-clause-only
returns-clause-only g c at held =
    let f = c.in_default-fetch_near.ensures.near in
    let now = c.args.self.now in
    let new = heap_is c.lay.new.area (noted_of c.self.inside) in
    let place = came-place now new c.args.pid c.head-link.result f.words c.requires.low (came g c) in
    elim (held-cases now (near c.args.pid c.head-link.result f.words) at (subst (λ (h : Heap). IsHeld h at) (made g c).seen held)) [
      | inl was ↦ inl was
      | inr top ↦ inr (subst (λ (i : ℕ). name_at new i ≡ Pid c.args.pid) (sym top) place.name)
    ]

pub returns-clause-sound : goal.returns-clause-sound
unfolding pid_in
returns-clause-sound g c pid is away = subst (IsSound (g.V.Vault.outside c.args.vault.now)) (ap pid_in is) (record {
  passes = c.in-Ok.ensures.tested.sound;
  fits = λ words held. c.in_default-fetch_near.ensures.sound words
      ((Holds-same (g.V.Vault.outside c.args.vault.now) (g.V.Vault.outside c.length.new.self) c.in-Ok.ensures.same c.args.pid words).1 held);
})
