-- To be the same but for ids is an equivalence.
use Rattle.std.proofs.Common.{◌≡◌, ℕ, map, refl, sym, ap, ◌∙◌, subst}
use Rattle.std.specs.Option.{option_map}
use Rattle.reaching.specs.Reaching.{IsIn, at_start, by_step}
use Rattle.ps_heap.specs.Objects.{object_at}
use Rattle.ps_heap.specs.References.{object_ids, next_in}
use Rattle.ps_heap.specs.Databases.{every_root}
use Rattle.ps_heap.specs.Held.{home_at, StoredHeap}
use Rattle.database_meaning.specs.Same.{renamed, renamed_database, IsInHeap, IsSame}
use Rattle.database_meaning.proofs.RenamedObjects.{in-map, map-in, ids-renamed, object-twice, object-kept, roots-renamed, databases-twice, databases-kept}

-- The objects that are reached go together.

next-renamed : (a b : StoredHeap) (s : IsSame a b) (x : ℕ) → IsInHeap a x → next_in b.objects (s.new x) ≡ map s.new (next_in a.objects x)
unfolding next_in
next-renamed a b s x there = ap object_ids (s.objects x there) ∙ ids-renamed s.new (object_at a.objects x)

root-renamed : (a b : StoredHeap) (s : IsSame a b) → every_root b.directory ≡ map s.new (every_root a.directory)
root-renamed a b s = ap every_root s.databases ∙ roots-renamed s.new a.directory

pub reached-forth : (a b : StoredHeap) (s : IsSame a b) (x : ℕ) → IsInHeap a x → IsInHeap b (s.new x)
reached-forth a b s x (at_start y is u) = at_start (s.new x) (subst (IsIn (s.new x)) (sym (root-renamed a b s)) (in-map s.new x (every_root a.directory) is)) tt
reached-forth a b s x (by_step w y before goes u) =
    by_step (s.new w) (s.new x) (reached-forth a b s w before) (subst (IsIn (s.new x)) (sym (next-renamed a b s w before)) (in-map s.new x (next_in a.objects w) goes)) tt

-- the id that goes with one that is reached
pub record ReachedFrom (a b : StoredHeap) (s : IsSame a b) (z : ℕ) : Type 0 where
  pub old : ℕ
  pub there : IsInHeap a old
  pub is : z ≡ s.new old

pub reached-from : (a b : StoredHeap) (s : IsSame a b) (z : ℕ) → IsInHeap b z → ReachedFrom a b s z
reached-from a b s z (at_start y is u) =
    let r = map-in s.new z (every_root a.directory) (subst (IsIn z) (root-renamed a b s) is) in record { old = r.old; there = at_start r.old r.there tt; is = r.is }
reached-from a b s z (by_step w y before goes u) =
    let f = reached-from a b s w before in
    let r = map-in s.new z (next_in a.objects f.old) (subst (IsIn z) (ap (next_in b.objects) f.is ∙ next-renamed a b s f.old f.there) goes) in
    record { old = r.old; there = by_step f.old r.old f.there r.there tt; is = r.is }

step : (h : StoredHeap) (x y : ℕ) → IsIn y (object_ids (object_at h.objects x)) → IsIn y (next_in h.objects x)
unfolding next_in
step h x y l = l

-- The laws.

pub same-self : (a : StoredHeap) → IsSame a a
same-self a = record {
  new = λ x. x;
  back = λ x. x;
  databases = sym (databases-kept (λ x. x) a.directory (λ x l. refl));
  one = λ id l. refl;
  objects = λ id l. sym (object-kept (λ x. x) (object_at a.objects id) (λ x m. refl));
  homes = λ id l. refl;
}

pub same-back : (a b : StoredHeap) → IsSame a b → IsSame b a
same-back a b s = record {
  new = s.back;
  back = s.new;
  databases = sym (ap (map (renamed_database s.back)) s.databases ∙ (databases-twice s.new s.back a.directory
      ∙ databases-kept (λ x. s.back (s.new x)) a.directory (λ x l. s.one x (at_start x l tt))));
  one = λ z l. let f = reached-from a b s z l in ap (λ y. s.new (s.back y)) f.is ∙ (ap s.new (s.one f.old f.there) ∙ sym f.is);
  objects = λ z l.
      let f = reached-from a b s z l in
      let there : s.back z ≡ f.old = ap s.back f.is ∙ s.one f.old f.there in
      let here : option_map (renamed s.back) (object_at b.objects z) ≡ object_at a.objects f.old =
      ap (λ y. option_map (renamed s.back) (object_at b.objects y)) f.is
      ∙ (ap (option_map (renamed s.back)) (s.objects f.old f.there)
      ∙ (object-twice s.new s.back (object_at a.objects f.old)
      ∙ object-kept (λ x. s.back (s.new x)) (object_at a.objects f.old) (λ x m. s.one x (by_step f.old x f.there (step a f.old x m) tt)))) in
      ap (object_at a.objects) there ∙ sym here;
  homes = λ z l.
      let f = reached-from a b s z l in
      ap (home_at a.homes) (ap s.back f.is ∙ s.one f.old f.there) ∙ (sym (s.homes f.old f.there) ∙ ap (home_at b.homes) (sym f.is));
}

pub same-then : (a b c : StoredHeap) → IsSame a b → IsSame b c → IsSame a c
same-then a b c s t = record {
  new = λ x. t.new (s.new x);
  back = λ x. s.back (t.back x);
  databases = t.databases ∙ (ap (map (renamed_database t.new)) s.databases ∙ databases-twice s.new t.new a.directory);
  one = λ id l. ap s.back (t.one (s.new id) (reached-forth a b s id l)) ∙ s.one id l;
  objects = λ id l. t.objects (s.new id) (reached-forth a b s id l) ∙ (ap (option_map (renamed t.new)) (s.objects id l) ∙ object-twice s.new t.new (object_at a.objects id));
  homes = λ id l. t.homes (s.new id) (reached-forth a b s id l) ∙ s.homes id l;
}
