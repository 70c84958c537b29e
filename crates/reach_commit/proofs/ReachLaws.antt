-- What the walks of all databases and of the directory list together.
use Rattle.std.proofs.Common.{true, inl, ◌≡◌, ℕ, ◌<◌, List, [], ◌∷◌, length, refl, sym, ap, ◌∙◌, subst, arith, Option, Some, None, nat_eq}
use Rattle.std.proofs.lemmas.Bool.{eq-eqb}
use Rattle.std.proofs.lemmas.List.{get_or_append_left, get_or_at}
use Rattle.swizzle.specs.obj_layout.declared.kind.Kind.TheVariants.{Table}
use Rattle.swizzle.specs.obj_layout.declared.header.Header.{Header}
use Rattle.swizzle.specs.Heap.{Heap, header_at}
use Rattle.reaching.specs.Reaching.{IsIn, at_start}
use Rattle.reaching.proofs.Lists.{then_is}
use Rattle.commit_walk.specs.Walk.{Finds, IsClosed, is_walked, has_home}
use Rattle.commit_walk.specs.declared.homes.Source.{Source}
use Rattle.commit_walk.specs.Homes.{IsHomedOne, source_at, FindsFrom, IsHomed, OwnsRoots}
use Rattle.commit_walk.proofs.SteadyLaws.{alike, home-alike, steady-then}
use Rattle.commit_walk.proofs.AllLaws.{homed-more}
use Rattle.reach_commit.specs.Becoming.{AreNewRoots, with_directory, IsReached, Lists}

pub source-left : (writing : List Source) (directory : Option ℕ) (place : ℕ) → place < length writing → source_at (with_directory writing directory) place ≡ source_at writing place
source-left writing directory place below = get_or_append_left writing (record { number = 0; root = directory } ∷ []) (record { number = 0; root = None }) place below

source-last : (writing : List Source) (directory : Option ℕ) → source_at (with_directory writing directory) (length writing) ≡ record { number = 0; root = directory }
source-last writing directory = get_or_at writing (record { number = 0; root = directory }) [] (record { number = 0; root = None }) (length writing) refl

pub finds-left : (heap : Heap) (writing : List Source) (directory : Option ℕ) (place y : ℕ) → place < length writing → FindsFrom heap writing place y → FindsFrom heap (with_directory writing directory) place y
finds-left heap writing directory place y below f = subst (λ s. Finds heap s.number s.root y) (sym (source-left writing directory place below)) f

finds-back : (heap : Heap) (writing : List Source) (directory : Option ℕ) (place y : ℕ) → place < length writing → FindsFrom heap (with_directory writing directory) place y → FindsFrom heap writing place y
finds-back heap writing directory place y below f = subst (λ s. Finds heap s.number s.root y) (source-left writing directory place below) f

-- the databases alone are the first of all sources
homed-left : (old new : Heap) (writing : List Source) (directory : Option ℕ) (list : List ℕ) → IsHomed old new writing (length writing) list
    → IsHomed old new (with_directory writing directory) (length writing) list
homed-left old new writing directory list h = record {
  same = h.same;
  first = λ y l.
      let f = h.first y l in
      record {
        place = f.place;
        below = f.below;
        finds = finds-left old writing directory f.place y f.below f.finds;
        first = λ p lt g. f.first p lt (finds-back old writing directory p y (omega (arith, lt, f.below)) g);
        home = λ k. f.home k ∙ ap (λ s. s.number) (sym (source-left writing directory f.place f.below));
      };
  all = λ y f. h.all y (record { place = f.place; below = f.below; finds = finds-back old writing directory f.place y f.below f.finds });
  closed = h.closed;
  others = h.others;
  plain = h.plain;
}

pub table-homed : (h : Header) → h.kind ≡ Table → has_home h ≡ true
unfolding has_home
table-homed h e = subst (λ k. has_home (record h { kind = k }) ≡ true) (sym e) refl

pub walked-new : (h : Header) → h.pid ≡ 0 → is_walked h ≡ true
unfolding is_walked
walked-new h e = then_is (nat_eq h.pid 0) true _ (eq-eqb h.pid 0 e)

-- the root of a database that was made is reached
pub root-reached : (heap : Heap) (writing : List Source) (directory : Option ℕ) (place at : ℕ) → AreNewRoots heap writing → place < length writing → (source_at writing place).root ≡ Some at
    → IsReached heap writing directory at
root-reached heap writing directory place at roots below e = record {
  place = place;
  below = omega (arith, below);
  finds = finds-left heap writing directory place at below (at_start at (inl e) (walked-new (header_at heap at) (roots place at below e).unstored));
}

-- and so is the directory, where it is new
pub directory-reached : (heap : Heap) (writing : List Source) (directory : Option ℕ) (at : ℕ) → directory ≡ Some at → (header_at heap at).pid ≡ 0 → IsReached heap writing directory at
directory-reached heap writing directory at e new = record {
  place = length writing;
  below = omega arith;
  finds = subst (λ s. Finds heap s.number s.root at) (sym (source-last writing directory)) (at_start at (inl e) (walked-new (header_at heap at) new));
}

pub lists : (old a b new : Heap) (writing : List Source) (directory : Option ℕ) → AreNewRoots old writing → IsHomed old a writing (length writing) a.reached
    → IsHomedOne a b 0 directory a.reached b.reached → OwnsRoots b new writing (length writing) → Lists old new writing directory
lists old a b new writing directory roots homed one owns =
    let sources = with_directory writing directory in
    let last = source-last writing directory in
    let one_more : IsHomedOne a b (source_at sources (length writing)).number (source_at sources (length writing)).root a.reached b.reached =
    subst (λ s. IsHomedOne a b s.number s.root a.reached b.reached) (sym last) one in
    let h = homed-more old a b sources (length writing) a.reached b.reached (homed-left old a writing directory a.reached homed) one_more in
    let there = alike old b h.same in
    let back : (y : ℕ) → IsIn y new.reached → IsIn y b.reached = λ y l. subst (IsIn y) owns.reached l in
    let forth : (y : ℕ) → IsIn y b.reached → IsIn y new.reached = λ y l. subst (IsIn y) (sym owns.reached) l in
    record {
      steady = steady-then old b new h.same owns.same;
      only = λ y l. let f = h.first y (back y l) in record { place = f.place; below = f.below; finds = f.finds };
      all = λ y f. forth y (h.all y f);
      closed = subst (IsClosed old) (sym owns.reached) h.closed;
      homes = record {
        root = λ place at below e.
            let r = roots place at below e in
            owns.given place at below e (home-alike old b there at ∙ table-homed (header_at old at) r.kind) r.only;
        first = λ y l no.
            let f = h.first y (back y l) in
            record { place = f.place; below = f.below; finds = f.finds; first = f.first; home = λ k. owns.others y (λ place below e. no (record { place = place; below = below; is = e })) ∙ f.home k };
        others = λ y away.
            owns.others y (λ place below e. away (forth y (h.all y (root-reached old writing directory place y roots below e)))) ∙ h.others y (λ l. away (forth y l));
        plain = λ y no. owns.plain y (home-alike old b there y ∙ no) ∙ h.plain y no;
      };
    }
