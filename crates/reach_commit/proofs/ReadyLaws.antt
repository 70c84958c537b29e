-- What was listed and has got PIDs is ready to be stored.
use Rattle.std.proofs.Common.{Bool, true, false, inl, inr, ◌⊎◌, ◌≡◌, ℕ, zero, suc, ◌+◌, ◌<◌, ◌≤◌, List, [], ◌∷◌, length, get_or, refl, sym, ap, ◌∙◌, subst, arith, cond, Option, Some, None, nat_eq, IfSome}
use Rattle.std.specs.Prelude.{filter, slice_index, ◌||◌, ◌&&◌, nat_lt, ◌==◌, if◌then◌else◌, unwrap_or}
use Rattle.std.proofs.lemmas.Bool.{cases_Bool, true≢false, eq-eqb, eqb-true}
use Rattle.std.proofs.lemmas.Bool.Decides.{nat_tests}
use Rattle.swizzle.specs.obj_layout.Kind.{kind_number}
use Rattle.swizzle.specs.obj_layout.declared.kind.Kind.{Kind}
use Rattle.swizzle.specs.obj_layout.declared.kind.Kind.TheVariants as kind
use Rattle.swizzle.specs.obj_layout.declared.reference.Reference.{Reference}
use Rattle.swizzle.specs.obj_layout.declared.reference.Reference.TheVariants.{Nil, Local}
use Rattle.swizzle.specs.Heap.{Heap, IsHeap, IsHeld, IsListed, AreOnce, nothing, object_at, header_at, ref_at, num_at, is_reached}
use Rattle.swizzle.proofs.KeptLaws.{held_is, inside_kept}
use Rattle.swizzle.specs.Joint.{name_of}
use Rattle.swizzle.proofs.ImageLaws.{refs-long}
use Rattle.reaching.specs.Reaching.{IsIn, at_start}
use Rattle.commit_walk.specs.Walk.{Goes, May, IsAt, StartsAt, Finds, has_home}
use Rattle.commit_walk.specs.declared.homes.Source.{Source}
use Rattle.commit_walk.specs.Homes.{source_at}
use Rattle.commit_walk.proofs.FromLaws.{in-index}
use Rattle.commit_walk.proofs.SteadyLaws.{alike, pid-alike, in-listed, listed-held}
use Rattle.commit_walk.proofs.AllLaws.{found-may, may-not, listed-or}
use Rattle.new_pids.specs.Giving.{GivesAll, AreBelow}
use Rattle.commit_images.specs.Images.{words_of, is_new, new_in, is_changed, changed_in}
use Rattle.commit_images.specs.Staging.{AreReady}
use Rattle.commit_images.proofs.OneLaws.{in-filter, filter-in}
use Rattle.reach_commit.specs.Deciding.{AreWritable}
use Rattle.reach_commit.specs.Becoming.{with_directory, HaveHomes, Lists}
use Rattle.reach_commit.specs.Committing.{IsChanged, Remains, Commits, pid_of}
use Rattle.reach_commit.specs.Ready.{IsReady}
use Rattle.reach_commit.proofs.ReachLaws.{finds-left, walked-new}
use Rattle.reach_commit.proofs.GivenLaws.{Remade, ListsStay, Numbering, all-remade, all-lists, all-keep, all-others, all-have, all-from, all-numbering, new-by, new-is}

-- What is known when PIDs were given.
pub record Given (old mid new : Heap) (writing : List Source) (directory : Option ℕ) (first next : ℕ) : Type 0 where
  pub heap_old : IsHeap old
  pub heap_mid : IsHeap mid
  pub heap_new : IsHeap new
  pub lists : Lists old mid writing directory
  pub gives : GivesAll mid mid.reached first new next
  pub below : AreBelow old first
  pub last : AreBelow new next
  pub low : 1 ≤ first
  pub writable : AreWritable old writing
  pub named : IfSome directory (IsHeld old)

listed-in : (x : ℕ) (xs : List ℕ) → IsListed x xs → IsIn x xs
listed-in x [] l = absurd l
listed-in x (y ∷ ys) (inl e) = inl e
listed-in x (y ∷ ys) (inr l) = inr (listed-in x ys l)

listed-filter : (test : ℕ → Bool) (xs : List ℕ) (x : ℕ) → IsListed x (filter test xs) → IsListed x xs
listed-filter test xs x l = in-listed x xs (filter-in test xs x (listed-in x (filter test xs) l)).0

once-filter : (test : ℕ → Bool) (xs : List ℕ) → AreOnce xs → AreOnce (filter test xs)
once-filter test [] o = tt
once-filter test (x ∷ xs) o = by (test x) (once-filter test xs o.1)
  where
    by : (b : Bool) → AreOnce (filter test xs) → AreOnce (cond b (x ∷ filter test xs) (filter test xs))
    by true rest = (λ l. o.0 (listed-filter test xs x l), rest)
    by false rest = rest

-- an assigned object lies in the area
assigned-held : (heap : Heap) (x : ℕ) → IsHeap heap → IsIn x heap.assigned → IsHeld heap x
assigned-held heap x h l = let m = h.noted.marked x (in-listed x heap.assigned l) in record { object = m.object; is = m.is }

pub slot-below : (rs : List Reference) (slot to : ℕ) → get_or rs slot Nil ≡ Local to → slot < length rs
slot-below [] slot to e = absurd (let no : Nil ≡ Local to = e in cc)
slot-below (r ∷ rs) zero to e = omega arith
slot-below (r ∷ rs) (suc slot) to e = let rest = slot-below rs slot to e in omega (arith, rest)

pub none-or-some : (n : ℕ) → (n ≡ 0) ⊎ (1 ≤ n)
none-or-some zero = inl refl
none-or-some (suc n) = inr (omega arith)

eight-node : (k : Kind) → kind_number k ≡ 8 → k ≡ kind.Node
eight-node kind.Text e = absurd (omega (arith, e))
eight-node kind.Structure e = absurd (omega (arith, e))
eight-node kind.Vector e = absurd (omega (arith, e))
eight-node kind.Scope e = absurd (omega (arith, e))
eight-node kind.Closure e = absurd (omega (arith, e))
eight-node kind.Code e = absurd (omega (arith, e))
eight-node kind.Table e = absurd (omega (arith, e))
eight-node kind.Node e = refl
eight-node kind.Directory e = absurd (omega (arith, e))

-- What makes an object changed.
record Changing (heap : Heap) (first x : ℕ) : Type 0 where
  stored : 1 ≤ (header_at heap x).pid
  before : (header_at heap x).pid < first
  kind : (has_home (header_at heap x) ≡ true) ⊎ (((header_at heap x).kind ≡ kind.Node) × (is_reached (object_at heap x) ≡ true))

either-true : (a b c : Bool) → (a || (b && c)) ≡ true → (a ≡ true) ⊎ ((b ≡ true) × (c ≡ true))
either-true true b c e = inl refl
either-true false true c e = inr (refl, e)
either-true false false c e = absurd (true≢false (sym e))

either-home : (a b : Bool) → a ≡ true → (a || b) ≡ true
either-home true b e = refl
either-home false b e = absurd (true≢false (sym e))

either-node : (a b c : Bool) → b ≡ true → c ≡ true → (a || (b && c)) ≡ true
either-node true b c e f = refl
either-node false true c e f = f
either-node false false c e f = absurd (true≢false (sym e))

tested : (pid first : ℕ) (t : Bool) → (if pid == 0 then false else (if nat_lt pid first then t else false)) ≡ true → (1 ≤ pid) × (pid < first) × (t ≡ true)
tested pid first t e = (grind (arith, nat_tests), grind (arith, nat_tests), grind (arith, nat_tests))

passes : (pid first : ℕ) (t : Bool) → 1 ≤ pid → pid < first → t ≡ true → (if pid == 0 then false else (if nat_lt pid first then t else false)) ≡ true
passes pid first t low high e = grind (arith, nat_tests)

changing : (heap : Heap) (first x : ℕ) → is_changed heap first x ≡ true → Changing heap first x
unfolding is_changed
changing heap first x e =
    let h = header_at heap x in
    let t = tested h.pid first (has_home h || (nat_eq (kind_number h.kind) 8 && is_reached (object_at heap x))) e in
    record {
      stored = t.0;
      before = t.1;
      kind = elim (either-true (has_home h) (nat_eq (kind_number h.kind) 8) (is_reached (object_at heap x)) t.2) [
        | inl a ↦ inl a
        | inr b ↦ inr (eight-node h.kind (eqb-true (kind_number h.kind) 8 b.0), b.1)
      ];
    }

changed-by : (heap : Heap) (first x : ℕ) → Changing heap first x → is_changed heap first x ≡ true
unfolding is_changed
changed-by heap first x k =
    let h = header_at heap x in
    let node = nat_eq (kind_number h.kind) 8 in
    passes h.pid first (has_home h || (node && is_reached (object_at heap x))) k.stored k.before (elim k.kind [
      | inl a ↦ either-home (has_home h) (node && is_reached (object_at heap x)) a
      | inr b ↦ either-node (has_home h) node (is_reached (object_at heap x)) (eq-eqb (kind_number h.kind) 8 (ap kind_number b.0)) b.1
    ])

module _ (old mid new : Heap) (writing : List Source) (directory : Option ℕ) (first next : ℕ) (v : Given old mid new writing directory first next) where
  pid-mid : (y : ℕ) → (header_at mid y).pid ≡ (header_at old y).pid
  pid-mid y = pid-alike old mid (alike old mid v.lists.steady) y

  remade : Remade mid new
  remade = all-remade mid new mid.reached first next v.gives

  lists-stay : ListsStay mid new
  lists-stay = all-lists mid new mid.reached first next v.gives

  held-mid : (y : ℕ) → IsIn y mid.reached → IsHeld mid y
  held-mid y l = listed-held mid y v.heap_mid l

  below-mid : AreBelow mid first
  below-mid y h = subst (λ n. n < first) (sym (pid-mid y)) (v.below y (v.lists.steady.back y h))

  once : AreOnce mid.reached
  once = v.heap_mid.walked.once

  keeps : (y : ℕ) → 1 ≤ (header_at old y).pid → (header_at new y).pid ≡ (header_at old y).pid
  keeps y low = all-keep mid new mid.reached first next y v.gives (subst (λ n. 1 ≤ n) (sym (pid-mid y)) low) ∙ pid-mid y

  have : (y : ℕ) → IsIn y mid.reached → 1 ≤ (header_at new y).pid
  have y l = all-have mid new mid.reached first next y v.gives l

  unlisted : (y : ℕ) → (IsIn y mid.reached → ⊥) → (header_at new y).pid ≡ (header_at old y).pid
  unlisted y away = all-others mid new mid.reached first next y v.gives away ∙ pid-mid y

  high : (y : ℕ) → IsIn y mid.reached → (header_at old y).pid ≡ 0 → first ≤ (header_at new y).pid
  high y l none = all-from mid new mid.reached first next y v.gives once l (pid-mid y ∙ none)

  abbrev fresh : List ℕ
  fresh = new_in new first

  abbrev changed : List ℕ
  changed = changed_in new first

  to-new : (y : ℕ) → IsIn y mid.reached → IsIn y new.reached
  to-new y l = subst (IsIn y) (sym lists-stay.reached) l

  to-mid : (y : ℕ) → IsIn y new.reached → IsIn y mid.reached
  to-mid y l = subst (IsIn y) lists-stay.reached l

  fresh-in : (y : ℕ) → IsIn y mid.reached → (header_at old y).pid ≡ 0 → IsIn y fresh
  fresh-in y l none = in-filter (is_new new first) new.reached y (to-new y l) (new-by new first y (high y l none))

  -- a new object was listed and had no PID
  in-fresh : (y : ℕ) → IsIn y fresh → IsIn y mid.reached × ((header_at old y).pid ≡ 0)
  in-fresh y l =
      let k = filter-in (is_new new first) new.reached y l in
      let listed = to-mid y k.0 in
      let least = new-is new first y k.1 in (
        listed,
        elim (none-or-some (header_at old y).pid) [
          | inl none ↦ none
          | inr low ↦
              let same = keeps y low in
              let lt = v.below y (v.lists.steady.back y (held-mid y listed)) in
              absurd (omega (arith, same, lt, least))
        ],
      )

  others : (y : ℕ) → (IsIn y fresh → ⊥) → (header_at new y).pid ≡ (header_at old y).pid
  others y away =
      elim (none-or-some (header_at old y).pid) [
        | inr low ↦ keeps y low
        | inl none ↦ unlisted y (λ l. away (fresh-in y l none))
      ]

  -- Kinds stay.

  kind-new : (y : ℕ) → (header_at new y).kind ≡ (header_at old y).kind
  kind-new y = (remade.objects y).kind ∙ ap (λ h. h.kind) (v.lists.steady.headers y)

  home-new : (y : ℕ) → has_home (header_at new y) ≡ has_home (header_at old y)
  unfolding has_home
  home-new y = ap (λ k. has_home (record (header_at old y) { kind = k })) (kind-new y)

  -- what is written anew was assigned, and stored

  stored-before : (y : ℕ) → 1 ≤ (header_at new y).pid → (header_at new y).pid < first → 1 ≤ (header_at old y).pid
  stored-before y some lt =
      elim (none-or-some (header_at old y).pid) [
        | inr low ↦ low
        | inl none ↦ elim (listed-or y mid.reached) [
          | inl l ↦ let least = high y l none in absurd (omega (arith, least, lt))
          | inr away ↦ let same = unlisted y away in absurd (omega (arith, same, none, some))
        ]
      ]

  reached-flag : (y : ℕ) → is_reached (object_at new y) ≡ true → IsHeld new y → IsIn y mid.reached
  reached-flag y flag held =
      to-mid y (listed-in y new.reached (v.heap_new.walked.listed y (record { object = object_at new y; is = held_is new y held; flag = flag })))

  flag-reached : (y : ℕ) → IsIn y mid.reached → is_reached (object_at new y) ≡ true
  flag-reached y l =
      let m = v.heap_new.walked.marked y (in-listed y new.reached (to-new y l)) in
      ap is_reached (ap (λ o. unwrap_or o nothing) m.is) ∙ m.flag

  in-changed : (y : ℕ) → IsIn y changed → IsChanged old writing directory y
  in-changed y l =
      let k = filter-in (is_changed new first) new.assigned y l in
      let c = changing new first y k.1 in
      let assigned : IsIn y old.assigned = subst (IsIn y) (lists-stay.assigned ∙ v.lists.steady.assigned) k.0 in
      let held = assigned-held new y v.heap_new k.0 in
      record {
        assigned = assigned;
        stored = stored-before y c.stored c.before;
        kind = elim c.kind [
          | inl home ↦ inl (sym (home-new y) ∙ home)
          | inr node ↦ inr (sym (kind-new y) ∙ node.0, v.lists.only y (reached-flag y node.1 held))
        ];
      }

  changed-in : (y : ℕ) → IsChanged old writing directory y → IsIn y changed
  changed-in y c =
      let held : IsHeld old y = assigned-held old y v.heap_old c.assigned in
      let same = keeps y c.stored in
      let lt = v.below y held in
      let there : IsIn y new.assigned = subst (IsIn y) (sym (lists-stay.assigned ∙ v.lists.steady.assigned)) c.assigned in
      in-filter (is_changed new first) new.assigned y there (changed-by new first y (record {
        stored = omega (arith, same, c.stored);
        before = omega (arith, same, lt);
        kind = elim c.kind [
          | inl home ↦ inl (home-new y ∙ home)
          | inr node ↦ inr (kind-new y ∙ node.0, flag-reached y (v.lists.all y node.1))
        ];
      }))

  -- Objects remain.

  remains : Remains old new
  remains = record {
    size = remade.size ∙ v.lists.steady.size;
    top = remade.top ∙ v.lists.steady.top;
    held = λ y h. remade.held y (v.lists.steady.held y h);
    back = λ y h. v.lists.steady.back y (remade.back y h);
    kind = kind-new;
    refs_count = λ y. (remade.objects y).refs_count ∙ ap (λ h. h.refs) (v.lists.steady.headers y);
    nums_count = λ y. (remade.objects y).nums_count ∙ ap (λ h. h.nums) (v.lists.steady.headers y);
    bytes = λ y. (remade.objects y).bytes ∙ ap (λ h. h.bytes) (v.lists.steady.headers y);
    refs = λ y slot. ap (λ rs. get_or rs slot Nil) (remade.objects y).refs ∙ v.lists.steady.refs y slot;
    nums = λ y i le. ap (λ ns. slice_index ns i) (remade.objects y).nums ∙ v.lists.steady.nums y i le;
    pids = keeps;
  }

  num-new : (y : ℕ) → num_at new y 0 ≡ num_at mid y 0
  num-new y = ap (λ ns. slice_index ns 0) (remade.objects y).nums

  -- an object that was listed and was stored before has no home
  no-home : (y : ℕ) → IsIn y mid.reached → 1 ≤ (header_at old y).pid → has_home (header_at old y) ≡ false
  no-home y l low =
      let f = v.lists.only y l in
      elim (cases_Bool (has_home (header_at old y))) [
        | inl home ↦ absurd (may-not (header_at old y) (found-may old (source_at (with_directory writing directory) f.place).number (source_at (with_directory writing directory) f.place).root y f.finds) low home)
        | inr none ↦ none
      ]

  homes : HaveHomes old new writing directory fresh
  homes = record {
    root = λ place at below e. num-new at ∙ v.lists.homes.root place at below e;
    first = λ y l no.
        let f = v.lists.homes.first y (in-fresh y l).0 no in
        record { place = f.place; below = f.below; finds = f.finds; first = f.first; home = λ k. num-new y ∙ f.home k };
    others = λ y away. num-new y ∙ elim (listed-or y mid.reached) [
      | inr unlisted_is ↦ v.lists.homes.others y unlisted_is
      | inl l ↦ elim (none-or-some (header_at old y).pid) [
        | inl none ↦ absurd (away (fresh-in y l none))
        | inr low ↦ v.lists.homes.plain y (no-home y l low)
      ]
    ];
    plain = λ y none. num-new y ∙ v.lists.homes.plain y none;
  }

  numbering : Numbering new new.reached first next
  numbering = subst (λ xs. Numbering new xs first next) (sym lists-stay.reached) (all-numbering mid new mid.reached first next v.gives once below-mid held-mid)

  commits : Commits old new writing directory first fresh changed
  commits = record {
    fresh_only = λ y l. let k = in-fresh y l in (v.lists.only y k.0, k.1);
    fresh_all = λ y r none. fresh-in y (v.lists.all y r) none;
    fresh_once = once-filter (is_new new first) new.reached v.heap_new.walked.once;
    numbered = numbering.numbered;
    unstored = others;
    changed_only = in-changed;
    changed_all = changed-in;
    changed_once = once-filter (is_changed new first) new.assigned v.heap_new.noted.once;
    remains = remains;
    homes = homes;
  }

  -- All to which these refer has a PID.

  goes-there : (x slot to : ℕ) → IsHeld old x → get_or (object_at new x).refs slot Nil ≡ Local to → Goes old x to
  goes-there x slot to held e =
      let was : ref_at old x slot ≡ Local to = sym (remains.refs x slot) ∙ e in
      record { slot = slot; below = subst (λ n. slot < n) (refs-long old x v.heap_old held) (slot-below (object_at old x).refs slot to was); names = record { held = inside_kept old x v.heap_old held slot to was; is = ap (name_of old) was } }

  -- what the walk may go to is listed, and has a PID now
  has-pid : (to : ℕ) → (May old to → IsIn to mid.reached) → 1 ≤ (header_at new to).pid
  has-pid to listed =
      elim (none-or-some (header_at old to).pid) [
        | inl none ↦ have to (listed (walked-new (header_at old to) none))
        | inr low ↦ let same = keeps to low in omega (arith, same, low)
      ]

  fresh-ready : AreReady new fresh
  fresh-ready x l =
      let k = in-fresh x l in
      let held_old = v.lists.steady.back x (held-mid x k.0) in
      (remains.held x held_old, λ slot to e. has-pid to (λ may. v.lists.closed x to k.0 (goes-there x slot to held_old e) may))

  -- an assigned object is at home in a database that is open for writing, so that what it refers to was reached from there
  from-home : (x to : ℕ) → IsIn x old.assigned → 1 ≤ (header_at old x).pid → has_home (header_at old x) ≡ true → Goes old x to → May old to → IsIn to mid.reached
  from-home x to assigned stored home goes may =
      let w = v.writable x (record { listed = assigned; homed = record { stored = stored; kind = home } }) in
      let i = in-index old.assigned x assigned in
      let source = source_at writing w.place in
      let here : IsAt old source.number (get_or old.assigned i.place 0) = subst (IsAt old source.number) (sym i.is) (record { stored = stored; kind = home; home = sym w.is }) in
      let start : StartsAt old source.number old.assigned (length old.assigned) to = record { place = i.place; below = i.below; at = here; goes = subst (λ z. Goes old z to) (sym i.is) goes } in
      let finds : Finds old source.number source.root to = at_start to (inr start) may in
      v.lists.all to (record { place = w.place; below = (let b = w.below in omega (arith, b)); finds = finds-left old writing directory w.place to w.below finds })

  changed-ready : AreReady new changed
  changed-ready x l =
      let c = in-changed x l in
      let held_old : IsHeld old x = assigned-held old x v.heap_old c.assigned in (
        remains.held x held_old,
        λ slot to e. has-pid to (λ may. elim c.kind [
          | inl home ↦ from-home x to c.assigned c.stored home (goes-there x slot to held_old e) may
          | inr node ↦ v.lists.closed x to (v.lists.all x node.1) (goes-there x slot to held_old e) may
        ]),
      )

  named-below : (d : Option ℕ) → IfSome d (IsHeld old) → pid_of new d < first + words_of new fresh
  named-below None k = let low = v.low in omega (arith, low)
  named-below (Some at) k = let lt = v.last at (remains.held at k) in let is = numbering.next_is in omega (arith, lt, is)

  pub ready : IsReady old new writing directory first
  ready = record { commits = commits; new_ready = fresh-ready; changed_ready = changed-ready; named = named-below directory v.named }
