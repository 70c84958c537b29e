-- Homes are given: every object is seen under its name as before, but for its home.
use Rattle.std.proofs.Common.{false, ◌≡◌, ℕ, zero, suc, ◌≤◌, List, [], ◌∷◌, length, map, refl, sym, ap, ◌∙◌, arith, Option, Some, None}
use Rattle.std.specs.Prelude.{slice_index, ◌==◌, if◌then◌else◌, unwrap_or}
use Rattle.std.proofs.lemmas.List.{ext_get_or}
use Rattle.swizzle.specs.obj_layout.declared.kind.Kind.{Kind}
use Rattle.swizzle.specs.obj_layout.declared.kind.Kind.TheVariants as kind
use Rattle.swizzle.specs.obj_layout.declared.header.Header.{Header}
use Rattle.swizzle.specs.obj_layout.declared.reference.Reference.TheVariants.{Nil, Pid, Local}
use Rattle.swizzle.specs.Objects.{Object}
use Rattle.swizzle.specs.Heap as area
use Rattle.swizzle.specs.Heap.{IsHeap, IsHeld, nothing, object_at, header_at, ref_at, num_at, local_of}
use Rattle.swizzle.specs.Joint.{shown_at, name_at, name_of}
use Rattle.swizzle.proofs.HeapLaws.{local-is}
use Rattle.swizzle.proofs.KeptLaws.{held_is}
use Rattle.swizzle.proofs.ImageLaws.{refs-long}
use Rattle.swizzle.proofs.NameLaws.{names_kept, shown-same}
use Rattle.swizzle.proofs.ObjectLaws.{split}
use Rattle.commit_walk.specs.Walk.{Steady, has_home}
use Rattle.commit_walk.specs.Homes.{PlainStay}
use Rattle.commit_walk.proofs.SteadyLaws.{alike, pid-alike}
use Rattle.joint_ops.proofs.of_heap_meaning.StandingLaws.{IsFixed}
use Rattle.renames.specs.Renames.{IsRehomed}

-- the number words of an object are as many as its header says, and there is one for its home
record HasNums (o : Object) : Type 0 where
  long : length o.nums ≡ o.header.nums
  some : 1 ≤ length o.nums

has-nums : (heap : area.Heap) (y : ℕ) → IsHeap heap → IsHeld heap y → HasNums (object_at heap y)
has-nums heap y h held =
    let fit = (split 1 heap.objects y (object_at heap y) h.fit (held_is heap y held)).fit in
    record { long = fit.nums; some = omega (arith, fit.nums, fit.home) }

-- the same list but for its first number
rest-same : (xs ys : List ℕ) → length xs ≡ length ys → 1 ≤ length xs → ((i : ℕ) → 1 ≤ i → slice_index ys i ≡ slice_index xs i)
    → (x : ℕ) × (y : ℕ) × (ws : List ℕ) × (xs ≡ x ∷ ws) × (ys ≡ y ∷ ws)
rest-same [] ys long some same = absurd (omega (arith, some))
rest-same (x ∷ xs) [] long some same = absurd (omega (arith, long))
rest-same (x ∷ xs) (y ∷ ys) long some same =
    let rest : ys ≡ xs = ext_get_or 0 ys xs (omega (arith, long)) (λ i lt. same (suc i) (omega arith)) in
    (x, y, xs, refl, ap (λ (r : List ℕ). y ∷ r) rest)

whole-same : (xs ys : List ℕ) → length xs ≡ length ys → ((i : ℕ) → slice_index ys i ≡ slice_index xs i) → ys ≡ xs
whole-same xs ys long same = ext_get_or 0 ys xs (sym long) (λ i lt. same i)

-- What two heaps show alike: the same objects under the same names, but for homes.
pub record Rehomes (old new : area.Heap) : Type 0 where
  pub held : (y : ℕ) → IsHeld old y → IsHeld new y
  pub names : (y : ℕ) → name_at new y ≡ name_at old y
  pub shown_as : (y : ℕ) → IsHeld old y → IsRehomed (shown_at old y) (shown_at new y)
  pub fixed : (y : ℕ) → IsHeld old y → IsFixed (header_at old y).kind → shown_at new y ≡ shown_at old y
  pub away : (pid : ℕ) → 1 ≤ pid → local_of old pid ≡ None → local_of new pid ≡ None

-- an object of the area with this PID is found by it
not-away : (old new : area.Heap) (pid : ℕ) → IsHeap old → ((y : ℕ) → IsHeld new y → IsHeld old y) → ((y : ℕ) → (header_at new y).pid ≡ (header_at old y).pid) → 1 ≤ pid
    → local_of old pid ≡ None → local_of new pid ≡ None
not-away old new pid h back pids low none = go (local_of new pid) refl
  where
    go : (r : Option ℕ) → local_of new pid ≡ r → local_of new pid ≡ None
    go None e = e
    go (Some at) e =
        let l = local-is 1 new.objects pid at e in
        let held = back at (record { object = l.object; is = l.is }) in
        let key : (header_at old at).pid ≡ pid = sym (pids at) ∙ (ap (λ o. (unwrap_or o nothing).header.pid) l.is ∙ l.pid_is) in
        let there : local_of old (header_at old at).pid ≡ Some at = h.one at (object_at old at) (held_is old at held) (omega (arith, key, low)) in
        let bad : None ≡ Some at = sym none ∙ (ap (local_of old) (sym key) ∙ there) in
        absurd (cc)

not-homed : (h : Header) → IsFixed h.kind → has_home h ≡ false
unfolding has_home
not-homed h f = go h.kind refl f
  where
    go : (k : Kind) → h.kind ≡ k → IsFixed k → has_home h ≡ false
    go kind.Text e t = ap (λ k. has_home (record h { kind = k })) e
    go kind.Code e t = ap (λ k. has_home (record h { kind = k })) e
    go kind.Closure e t = ap (λ k. has_home (record h { kind = k })) e
    go kind.Structure e t = absurd t
    go kind.Vector e t = absurd t
    go kind.Scope e t = absurd t
    go kind.Table e t = absurd t
    go kind.Node e t = absurd t
    go kind.Directory e t = absurd t

pub steady-rehomes : (old new : area.Heap) → IsHeap old → IsHeap new → Steady old new → PlainStay old new → Rehomes old new
steady-rehomes old new h k s plain =
    let pids : (y : ℕ) → (header_at new y).pid ≡ (header_at old y).pid = λ y. pid-alike old new (alike old new s) y in
    let names : (y : ℕ) → name_at new y ≡ name_at old y = λ y. ap (λ p. if p == 0 then Local y else Pid p) (pids y) in
    let refs : (y : ℕ) → IsHeld old y → map (name_of new) (object_at new y).refs ≡ map (name_of old) (object_at old y).refs = λ y held.
    let long : length (object_at new y).refs ≡ length (object_at old y).refs =
    refs-long new y k (s.held y held) ∙ (ap (λ x. x.refs) (s.headers y) ∙ sym (refs-long old y h held)) in
    let same : (object_at new y).refs ≡ (object_at old y).refs = ext_get_or Nil (object_at new y).refs (object_at old y).refs long (λ slot lt. s.refs y slot) in
    ap (map (name_of new)) same ∙ names_kept old new (object_at old y).refs (λ slot to e. names to) in
    let counts : (y : ℕ) → IsHeld old y → length (object_at old y).nums ≡ length (object_at new y).nums = λ y held.
    (has-nums old y h held).long ∙ (sym (ap (λ x. x.nums) (s.headers y)) ∙ sym (has-nums new y k (s.held y held)).long) in
    record {
      held = s.held;
      names = names;
      shown_as = λ y held.
          let r = rest-same (object_at old y).nums (object_at new y).nums (counts y held) (has-nums old y h held).some (λ i le. s.nums y i le) in
          record { kind = ap (λ x. x.kind) (s.headers y); refs = refs y held; bytes = ap (λ x. x.bytes) (s.headers y); first = r.0; second = r.1; words = r.2; before = r.3; after = r.4 };
      fixed = λ y held f.
          let home = plain y (not-homed (header_at old y) f) in
          let nums = whole-same (object_at old y).nums (object_at new y).nums (counts y held) (λ i. number y i home (s.nums y i)) in
          shown-same old new (object_at new y) (object_at old y) (ap (λ x. x.kind) (s.headers y)) (ap (λ x. x.bytes) (s.headers y)) nums (refs y held);
      away = λ pid low none. not-away old new pid h s.back pids low none;
    }
  where
    number : (y i : ℕ) → num_at new y 0 ≡ num_at old y 0 → (1 ≤ i → num_at new y i ≡ num_at old y i) → num_at new y i ≡ num_at old y i
    number y zero home others = home
    number y (suc i) home others = others (omega arith)
