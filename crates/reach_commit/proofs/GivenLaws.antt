-- What giving PIDs to a list does to the objects of the area.
use Rattle.std.proofs.Common.{Bool, true, false, inl, inr, ◌≡◌, ◌≢◌, ℕ, ◌+◌, ◌<◌, ◌≤◌, List, [], ◌∷◌, ◌++◌, refl, sym, ap, ◌∙◌, subst, arith, cond}
use Rattle.std.specs.Prelude.{filter, not, nat_lt}
use Rattle.std.proofs.lemmas.Bool.{cases_eq}
use Rattle.std.proofs.lemmas.Bool.Decides.{nat_tests}
use Rattle.std.proofs.lemmas.List.{append-nil}
use Rattle.std.proofs.lemmas.List.Elements.{filter-append}
use Rattle.std.proofs.lemmas.List.Sums.{sum_by-cons}
use Rattle.swizzle.specs.Objects.{Object, size_of, size_of_all}
use Rattle.swizzle.specs.Heap.{Heap, IsHeld, IsListed, AreOnce, top_of, object_at, header_at}
use Rattle.swizzle.specs.Numbered.{numbered, GivesPid}
use Rattle.swizzle.proofs.HeapLaws.{size-replaced}
use Rattle.swizzle.proofs.KeptLaws.{held_is}
use Rattle.swizzle.proofs.JointLaws.{object-replaced, object-replaced_other, held-back}
use Rattle.reaching.specs.Reaching.{IsIn}
use Rattle.reaching.proofs.Lists.{in-append, in-front}
use Rattle.commit_walk.proofs.SteadyLaws.{in-listed}
use Rattle.new_pids.specs.Giving.{GivesAll, done, passed, given, AreBelow}
use Rattle.new_pids.proofs.GivingLaws.{given-held}
use Rattle.commit_images.specs.Images.{words_of, is_new}
use Rattle.commit_images.specs.Stored.{AreNumbered}
use Rattle.commit_images.proofs.OneLaws.{none-of, one-of, filter-in}
use Rattle.commit_images.proofs.StagingLaws.{words-append}

in-right : (x : ℕ) (ys zs : List ℕ) → IsIn x zs → IsIn x (ys ++ zs)
in-right x [] zs l = l
in-right x (y ∷ ys) zs l = inr (in-right x ys zs l)

-- An object stays but for its flags, its PID and its chain.
pub record IsBut (o new : Object) : Type 0 where
  pub kind : new.header.kind ≡ o.header.kind
  pub refs_count : new.header.refs ≡ o.header.refs
  pub nums_count : new.header.nums ≡ o.header.nums
  pub bytes : new.header.bytes ≡ o.header.bytes
  pub refs : new.refs ≡ o.refs
  pub nums : new.nums ≡ o.nums

pub but-same : (o new : Object) → new ≡ o → IsBut o new
but-same o new e = record {
  kind = ap (λ p. p.header.kind) e;
  refs_count = ap (λ p. p.header.refs) e;
  nums_count = ap (λ p. p.header.nums) e;
  bytes = ap (λ p. p.header.bytes) e;
  refs = ap (λ p. p.refs) e;
  nums = ap (λ p. p.nums) e;
}

pub but-then : (a b c : Object) → IsBut a b → IsBut b c → IsBut a c
but-then a b c s t = record {
  kind = t.kind ∙ s.kind;
  refs_count = t.refs_count ∙ s.refs_count;
  nums_count = t.nums_count ∙ s.nums_count;
  bytes = t.bytes ∙ s.bytes;
  refs = t.refs ∙ s.refs;
  nums = t.nums ∙ s.nums;
}

-- So do all.
pub record Remade (old new : Heap) : Type 0 where
  pub size : new.size ≡ old.size
  pub top : top_of new ≡ top_of old
  pub held : (y : ℕ) → IsHeld old y → IsHeld new y
  pub back : (y : ℕ) → IsHeld new y → IsHeld old y
  pub objects : (y : ℕ) → IsBut (object_at old y) (object_at new y)

pub remade-none : (heap : Heap) → Remade heap heap
remade-none heap = record { size = refl; top = refl; held = λ y h. h; back = λ y h. h; objects = λ y. but-same (object_at heap y) (object_at heap y) refl }

pub remade-then : (a b c : Heap) → Remade a b → Remade b c → Remade a c
remade-then a b c s t = record {
  size = t.size ∙ s.size;
  top = t.top ∙ s.top;
  held = λ y h. t.held y (s.held y h);
  back = λ y h. s.back y (t.back y h);
  objects = λ y. but-then (object_at a y) (object_at b y) (object_at c y) (s.objects y) (t.objects y);
}

-- One object gets a PID.

given-there : (old new : Heap) (at pid : ℕ) → (g : GivesPid old new at pid) → IsHeld old at → object_at new at ≡ numbered (object_at old at) pid g.link
given-there old new at pid g held = ap (λ h. object_at h at) g.is ∙ object-replaced old at (numbered (object_at old at) pid g.link) held

given-away : (old new : Heap) (at pid y : ℕ) → GivesPid old new at pid → IsHeld old at → y ≢ at → object_at new y ≡ object_at old y
given-away old new at pid y g held ne = ap (λ h. object_at h y) g.is ∙ object-replaced_other old at y (numbered (object_at old at) pid g.link) held refl ne

given-remade : (old new : Heap) (at pid : ℕ) → GivesPid old new at pid → IsHeld old at → Remade old new
given-remade old new at pid g held =
    let o = object_at old at in
    let o2 = numbered o pid g.link in
    record {
      size = ap (λ h. h.size) g.is;
      top = ap (λ h. 1 + size_of_all h.objects) g.is ∙ ap (λ n. 1 + n) (size-replaced 1 old.objects at o o2 (held_is old at held) refl);
      held = given-held old new at pid g held;
      back = λ y h. held-back old at y o2 held refl (subst (λ x. IsHeld x y) g.is h);
      objects = λ y. elim (cases_eq y at) [
        | inl e ↦
            let there : object_at new y ≡ numbered (object_at old y) pid g.link =
            ap (object_at new) e ∙ (given-there old new at pid g held ∙ ap (λ z. numbered (object_at old z) pid g.link) (sym e)) in
            record {
              kind = ap (λ p. p.header.kind) there;
              refs_count = ap (λ p. p.header.refs) there;
              nums_count = ap (λ p. p.header.nums) there;
              bytes = ap (λ p. p.header.bytes) there;
              refs = ap (λ p. p.refs) there;
              nums = ap (λ p. p.nums) there;
            }
        | inr ne ↦ but-same (object_at old y) (object_at new y) (given-away old new at pid y g held ne)
      ];
    }

-- The list gets PIDs.

pub all-remade : (old new : Heap) (xs : List ℕ) (first next : ℕ) → GivesAll old xs first new next → Remade old new
all-remade old new xs first next (done heap n) = remade-none heap
all-remade old new xs first next (passed o n ys y f m before has) = all-remade o n ys f m before
all-remade old new xs first next (given o mid n ys y f m before may give) = remade-then o mid n (all-remade o mid ys f m before) (given-remade mid n y m give may.held)

-- lists stay
pub record ListsStay (old new : Heap) : Type 0 where
  pub assigned : new.assigned ≡ old.assigned
  pub reached : new.reached ≡ old.reached

pub all-lists : (old new : Heap) (xs : List ℕ) (first next : ℕ) → GivesAll old xs first new next → ListsStay old new
all-lists old new xs first next (done heap n) = record { assigned = refl; reached = refl }
all-lists old new xs first next (passed o n ys y f m before has) = all-lists o n ys f m before
all-lists old new xs first next (given o mid n ys y f m before may give) =
    let rest = all-lists o mid ys f m before in
    record { assigned = ap (λ h. h.assigned) give.is ∙ rest.assigned; reached = ap (λ h. h.reached) give.is ∙ rest.reached }

-- an object that has a PID keeps it
pub all-keep : (old new : Heap) (xs : List ℕ) (first next y : ℕ) → GivesAll old xs first new next → 1 ≤ (header_at old y).pid → (header_at new y).pid ≡ (header_at old y).pid
all-keep old new xs first next y (done heap n) low = refl
all-keep old new xs first next y (passed o n ys x f m before has) low = all-keep o n ys f m y before low
all-keep old new xs first next y (given o mid n ys x f m before may give) low =
    let rest = all-keep o mid ys f m y before low in
    elim (cases_eq y x) [
      | inl e ↦ let none = ap (λ z. (header_at mid z).pid) e ∙ may.none in absurd (omega (arith, none, rest, low))
      | inr ne ↦ ap (λ p. p.header.pid) (given-away mid n x m y give may.held ne) ∙ rest
    ]

-- and so does one that isn't of the list
pub all-others : (old new : Heap) (xs : List ℕ) (first next y : ℕ) → GivesAll old xs first new next → (IsIn y xs → ⊥) → (header_at new y).pid ≡ (header_at old y).pid
all-others old new xs first next y (done heap n) away = refl
all-others old new xs first next y (passed o n ys x f m before has) away = all-others o n ys f m y before (λ l. away (in-front y ys (x ∷ []) l))
all-others old new xs first next y (given o mid n ys x f m before may give) away =
    ap (λ p. p.header.pid) (given-away mid n x m y give may.held (λ e. away (in-right y ys (x ∷ []) (inl e)))) ∙ all-others o mid ys f m y before (λ l. away (in-front y ys (x ∷ []) l))

-- each of the list has one
pub all-have : (old new : Heap) (xs : List ℕ) (first next y : ℕ) → GivesAll old xs first new next → IsIn y xs → 1 ≤ (header_at new y).pid
all-have old new xs first next y (done heap n) l = absurd l
all-have old new xs first next y (passed o n ys x f m before has) l =
    elim (in-append y ys (x ∷ []) l) [
      | inl b ↦ all-have o n ys f m y before b
      | inr s ↦ elim s [ inl e ↦ subst (λ z. 1 ≤ (header_at n z).pid) (sym e) has | inr none ↦ absurd none ]
    ]
all-have old new xs first next y (given o mid n ys x f m before may give) l =
    elim (cases_eq y x) [
      | inl e ↦
          let is = ap (λ z. (header_at n z).pid) e ∙ ap (λ p. p.header.pid) (given-there mid n x m give may.held) in
          let low = may.low in
          omega (arith, is, low)
      | inr ne ↦
          let same = ap (λ p. p.header.pid) (given-away mid n x m y give may.held ne) in
          elim (in-append y ys (x ∷ []) l) [
            | inl b ↦ let had = all-have o mid ys f m y before b in omega (arith, same, had)
            | inr s ↦ elim s [ inl e ↦ absurd (ne e) | inr none ↦ absurd none ]
          ]
    ]

-- Numbers are given from the first one on, and each one comes behind the words of the object before it.

numbered-append : (heap : Heap) (xs : List ℕ) (x used : ℕ) → AreNumbered heap xs used → (header_at heap x).pid ≡ used + words_of heap xs → AreNumbered heap (xs ++ x ∷ []) used
unfolding AreNumbered
numbered-append heap [] x used n e = (omega (arith, e), tt)
numbered-append heap (y ∷ ys) x used n e =
    (n.0, numbered-append heap ys x (used + size_of (object_at heap y)) n.1 (let sum = sum_by-cons (λ z. size_of (object_at heap z)) y ys in omega (arith, e, sum)))

-- Of the same objects with the same PIDs and sizes this is so too.
abbrev pub AreAlike : Heap → Heap → List ℕ → Type 0
AreAlike old new xs = (y : ℕ) → IsIn y xs → ((header_at new y).pid ≡ (header_at old y).pid) × (size_of (object_at new y) ≡ size_of (object_at old y))

pub numbered-alike : (old new : Heap) (xs : List ℕ) (used : ℕ) → AreAlike old new xs → AreNumbered old xs used → AreNumbered new xs used
unfolding AreNumbered
numbered-alike old new [] used a n = tt
numbered-alike old new (x ∷ xs) used a n =
    let here = a x (inl refl) in
    (here.0 ∙ n.0, numbered-alike old new xs (used + size_of (object_at new x)) (λ y l. a y (inr l)) (subst (λ k. AreNumbered old xs (used + k)) (sym here.1) n.1))

pub words-alike : (old new : Heap) (xs : List ℕ) → AreAlike old new xs → words_of new xs ≡ words_of old xs
words-alike old new [] a = refl
words-alike old new (x ∷ xs) a =
    let here = (a x (inl refl)).1 in
    let rest = words-alike old new xs (λ y l. a y (inr l)) in
    let s = sum_by-cons (λ z. size_of (object_at new z)) x xs in
    let t = sum_by-cons (λ z. size_of (object_at old z)) x xs in
    omega (arith, here, rest, s, t)

filter-alike : (p q : ℕ → Bool) (xs : List ℕ) → ((y : ℕ) → IsIn y xs → p y ≡ q y) → filter p xs ≡ filter q xs
filter-alike p q [] a = refl
filter-alike p q (x ∷ xs) a = ap (λ b. cond b (x ∷ filter p xs) (filter p xs)) (a x (inl refl)) ∙ ap (λ (r : List ℕ). cond (q x) (x ∷ r) r) (filter-alike p q xs (λ y l. a y (inr l)))

-- What the new objects of the list have, and the number behind the last.
pub record Numbering (heap : Heap) (xs : List ℕ) (first next : ℕ) : Type 0 where
  pub numbered : AreNumbered heap (filter (is_new heap first) xs) first
  pub next_is : next ≡ first + words_of heap (filter (is_new heap first) xs)

pub new-by : (heap : Heap) (first x : ℕ) → first ≤ (header_at heap x).pid → is_new heap first x ≡ true
unfolding is_new
new-by heap first x le = grind (arith, nat_tests)

old-by : (heap : Heap) (first x : ℕ) → (header_at heap x).pid < first → is_new heap first x ≡ false
unfolding is_new
old-by heap first x lt = grind (arith, nat_tests)

pub new-is : (heap : Heap) (first x : ℕ) → is_new heap first x ≡ true → first ≤ (header_at heap x).pid
unfolding is_new
new-is heap first x e = grind (arith, nat_tests)

listed-front : (y : ℕ) (xs ys : List ℕ) → IsListed y xs → IsListed y (xs ++ ys)
listed-front y [] ys l = absurd l
listed-front y (x ∷ xs) ys (inl e) = inl e
listed-front y (x ∷ xs) ys (inr l) = inr (listed-front y xs ys l)

once-front : (xs ys : List ℕ) → AreOnce (xs ++ ys) → AreOnce xs
once-front [] ys o = tt
once-front (x ∷ xs) ys o = (λ l. o.0 (listed-front x xs ys l), once-front xs ys o.1)

once-apart : (xs : List ℕ) (x : ℕ) → AreOnce (xs ++ x ∷ []) → IsIn x xs → ⊥
once-apart [] x o l = absurd l
once-apart (y ∷ ys) x o (inl e) = o.0 (in-listed y (ys ++ x ∷ []) (in-right y ys (x ∷ []) (inl (sym e))))
once-apart (y ∷ ys) x o (inr l) = once-apart ys x o.1 l

pub all-numbering : (old new : Heap) (xs : List ℕ) (first next : ℕ) → GivesAll old xs first new next → AreOnce xs → AreBelow old first → ((y : ℕ) → IsIn y xs → IsHeld old y) → Numbering new xs first next
unfolding AreNumbered is_new
all-numbering old new xs first next (done heap n) once below held = record { numbered = tt; next_is = omega arith }
all-numbering old new xs first next (passed o n ys x f m before has) once below held =
    let r = all-numbering o n ys f m before (once-front ys (x ∷ []) once) below (λ y l. held y (in-front y ys (x ∷ []) l)) in
    let same = all-others o n ys f m x before (once-apart ys x once) in
    let low = below x (held x (in-right x ys (x ∷ []) (inl refl))) in
    let no : is_new n f x ≡ false = old-by n f x (omega (arith, same, low)) in
    let is : filter (is_new n f) (ys ++ x ∷ []) ≡ filter (is_new n f) ys =
    filter-append (is_new n f) ys (x ∷ []) ∙ (ap (λ (r : List ℕ). filter (is_new n f) ys ++ r) (none-of (is_new n f) x no) ∙ append-nil (filter (is_new n f) ys)) in
    record {
      numbered = subst (λ l. AreNumbered n l f) (sym is) r.numbered;
      next_is = r.next_is ∙ ap (λ l. f + words_of n l) (sym is);
    }
all-numbering old new xs first next (given o mid n ys x f m before may give) once below held =
    let r = all-numbering o mid ys f m before (once-front ys (x ∷ []) once) below (λ y l. held y (in-front y ys (x ∷ []) l)) in
    let ms = filter (is_new mid f) ys in
    let away : (y : ℕ) → IsIn y ys → object_at n y ≡ object_at mid y = λ y l. given-away mid n x m y give may.held (λ e. once-apart ys x once (subst (λ z. IsIn z ys) e l)) in
    let alike : AreAlike mid n ms = λ y l. let k = (filter-in (is_new mid f) ys y l).0 in (ap (λ p. p.header.pid) (away y k), ap size_of (away y k)) in
    let same : filter (is_new n f) ys ≡ ms = filter-alike (is_new n f) (is_new mid f) ys (λ y l. ap (λ (p : Object). not (nat_lt p.header.pid f)) (away y l)) in
    let there = given-there mid n x m give may.held in
    let pid : (header_at n x).pid ≡ m = ap (λ p. p.header.pid) there in
    let from = r.next_is in
    let yes : is_new n f x ≡ true = new-by n f x (omega (arith, pid, from)) in
    let is : filter (is_new n f) (ys ++ x ∷ []) ≡ ms ++ x ∷ [] =
    filter-append (is_new n f) ys (x ∷ []) ∙ (ap (λ (r : List ℕ). r ++ filter (is_new n f) (x ∷ [])) same ∙ ap (λ (r : List ℕ). ms ++ r) (one-of (is_new n f) x yes)) in
    let words = words-alike mid n ms alike in
    let size : size_of (object_at n x) ≡ size_of (object_at mid x) = ap size_of there in
    record {
      numbered = subst (λ l. AreNumbered n l f) (sym is) (numbered-append n ms x f (numbered-alike mid n ms f alike r.numbered) (omega (arith, pid, from, words)));
      next_is = let whole = words-append n ms (x ∷ []) in omega (arith, from, words, whole, size) ∙ ap (λ l. f + words_of n l) (sym is);
    }

all-grow : (old new : Heap) (xs : List ℕ) (first next : ℕ) → GivesAll old xs first new next → first ≤ next
all-grow old new xs first next (done heap n) = omega arith
all-grow old new xs first next (passed o n ys x f m before has) = all-grow o n ys f m before
all-grow old new xs first next (given o mid n ys x f m before may give) = let rest = all-grow o mid ys f m before in omega (arith, rest)

-- what had no PID has one from the first on
pub all-from : (old new : Heap) (xs : List ℕ) (first next y : ℕ) → GivesAll old xs first new next → AreOnce xs → IsIn y xs → (header_at old y).pid ≡ 0 → first ≤ (header_at new y).pid
all-from old new xs first next y (done heap n) once l none = absurd l
all-from old new xs first next y (passed o n ys x f m before has) once l none =
    elim (in-append y ys (x ∷ []) l) [
      | inl b ↦ all-from o n ys f m y before (once-front ys (x ∷ []) once) b none
      | inr s ↦ elim s [
        | inl e ↦
            let same = all-others o n ys f m x before (once-apart ys x once) in
            let was = ap (λ z. (header_at o z).pid) (sym e) ∙ none in
            absurd (omega (arith, same, was, has))
        | inr none ↦ absurd none
      ]
    ]
all-from old new xs first next y (given o mid n ys x f m before may give) once l none =
    elim (cases_eq y x) [
      | inl e ↦
          let is = ap (λ z. (header_at n z).pid) e ∙ ap (λ p. p.header.pid) (given-there mid n x m give may.held) in
          let grows = all-grow o mid ys f m before in
          omega (arith, is, grows)
      | inr ne ↦
          let same = ap (λ p. p.header.pid) (given-away mid n x m y give may.held ne) in
          elim (in-append y ys (x ∷ []) l) [
            | inl b ↦ let rest = all-from o mid ys f m y before (once-front ys (x ∷ []) once) b none in omega (arith, same, rest)
            | inr s ↦ elim s [ inl e ↦ absurd (ne e) | inr none ↦ absurd none ]
          ]
    ]
