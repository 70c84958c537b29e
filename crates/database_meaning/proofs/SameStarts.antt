-- Runs over heaps that are the same but for ids start with the same but for ids.
use Rattle.std.proofs.Common.{◌≡◌, ℕ, List, length, refl, sym, ap, ◌∙◌, arith}
use Rattle.std.specs.Option.{option_map}
use Rattle.reaching.specs.Reaching.{IsIn, is_in, at_start, by_step, ReachedIn}
use Rattle.reaching.proofs.Lists.{in-is_in}
use Rattle.reaching.proofs.WalkLaws.{least-in, in-least}
use Rattle.ps_heap.specs.Values.{Routine}
use Rattle.ps_heap.specs.Objects.{object_at}
use Rattle.ps_heap.specs.References.{next_in}
use Rattle.ps_heap.specs.Databases.{every_root}
use Rattle.ps_heap.specs.Held.{Reply, StoredHeap, home_at, home_if, row, every_id, reached_from_roots, started}
use Rattle.database_meaning.specs.Same.{renamed, IsInHeap, IsSame}
use Rattle.database_meaning.specs.SameRuns.{AreSameObjects, AreSameHomes, IsSameHeld, IsAllThere, pairing_of}
use Rattle.database_meaning.proofs.CommitLaws.{row-at, row-below}
use Rattle.database_meaning.proofs.KeptLaws.{in-row}
use Rattle.database_meaning.proofs.SameLaws.{reached-forth, reached-from}
use Rattle.database_meaning.proofs.GrownPairs.{object-there, there-object}

-- What the roots reach, and what is computed to be that.

module _ (stored : StoredHeap) where
  pub reached-heap : (id : ℕ) → IsIn id (reached_from_roots stored) → IsInHeap stored id
  unfolding reached_from_roots
  reached-heap id l = forget id (least-in (next_in stored.objects) (every_id stored.objects) (every_root stored.directory) id l)
    where
      forget : (y : ℕ) → ReachedIn (next_in stored.objects) (every_id stored.objects) (every_root stored.directory) y → IsInHeap stored y
      forget y (at_start x is allowed) = at_start y is tt
      forget y (by_step x z before is allowed) = by_step x y (forget x before) is tt

  module _ (there : IsAllThere stored) where
    listed : (id : ℕ) → IsInHeap stored id → IsIn id (every_id stored.objects)
    listed id r = in-row 0 (length stored.objects) id (omega arith) (omega (arith, there id r))

    pub heap-reached : (id : ℕ) → IsInHeap stored id → IsIn id (reached_from_roots stored)
    unfolding reached_from_roots
    heap-reached id r = in-least (next_in stored.objects) (every_id stored.objects) (every_root stored.directory) id (bound id r)
      where
        bound : (y : ℕ) → IsInHeap stored y → ReachedIn (next_in stored.objects) (every_id stored.objects) (every_root stored.directory) y
        bound y (at_start x is u) = at_start y is (listed y (at_start y is u))
        bound y (by_step x z before is u) = by_step x y (bound x before) is (listed y (by_step x y before is u))

    -- what is reached has its home at the start, and no other object has one
    pub home-kept : (id : ℕ) → IsInHeap stored id → home_at (row (λ k. home_if (is_in k (reached_from_roots stored)) (home_at stored.homes k)) 0 (length stored.objects)) id ≡ home_at stored.homes id
    home-kept id r =
        row-at (λ k. home_if (is_in k (reached_from_roots stored)) (home_at stored.homes k)) 0 (length stored.objects) id (there id r)
        ∙ (ap (λ k. home_if (is_in k (reached_from_roots stored)) (home_at stored.homes k)) (omega arith)
        ∙ ap (λ b. home_if b (home_at stored.homes id)) (in-is_in id (reached_from_roots stored) (heap-reached id r)))

module _ (weigh : Routine → ℕ) (replies : List Reply) (counted : ℕ) (a b : StoredHeap) (s : IsSame a b) (there : IsAllThere a) where
  also : IsAllThere b
  also id r =
      let f = reached-from a b s id r in
      let o = object-there a.objects f.old (there f.old f.there) in
      there-object b.objects id (renamed s.new o.0) (ap (object_at b.objects) f.is ∙ (s.objects f.old f.there ∙ ap (option_map (renamed s.new)) o.1))

  start-objects : AreSameObjects (pairing_of a b s) a.objects b.objects
  start-objects = record {
    one = λ id l. s.one id (reached-heap a id l);
    there = λ id l. there id (reached-heap a id l);
    closed = λ id l x m. heap-reached a there x (by_step id x (reached-heap a id l) m tt);
    same = λ id l. s.objects id (reached-heap a id l);
  }

  start-homes : AreSameHomes (pairing_of a b s) a.objects b.objects (started weigh replies counted a).homes (started weigh replies counted b).homes
  start-homes = record {
    same = λ id l.
        let r = reached-heap a id l in
        home-kept b also (s.new id) (reached-forth a b s id r) ∙ (s.homes id r ∙ sym (home-kept a there id r));
    first = λ id n e. row-below (λ k. home_if (is_in k (reached_from_roots a)) (home_at a.homes k)) 0 (length a.objects) id n e;
    second = λ id n e. row-below (λ k. home_if (is_in k (reached_from_roots b)) (home_at b.homes k)) 0 (length b.objects) id n e;
  }

  pub started-same : IsSameHeld (pairing_of a b s) (started weigh replies counted a) (started weigh replies counted b)
  unfolding is_in
  started-same = record {
    objects = start-objects;
    homes = start-homes;
    directory = record { is = s.databases; roots = λ x l. heap-reached a there x (at_start x l tt) };
    openings = refl;
    created = refl;
    assigned = record { are = refl; objects = λ place h. absurd h };
    touched = record { same = λ id l. refl; first = λ id l. absurd l; second = λ id l. absurd l };
    asked = refl;
    replies = refl;
    counted = refl;
    weigh = refl;
  }
