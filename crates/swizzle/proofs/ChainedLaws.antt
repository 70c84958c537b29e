-- The map of PIDs, as objects are replaced and come.
use Rattle.std.proofs.Common.{inl, inr, ◌≡◌, ◌≢◌, ℕ, zero, suc, ◌+◌, ◌%◌, ◌^◌, ◌<◌, ◌≤◌, List, [], ◌∷◌, ◌++◌, length, replicate, get_or, set, refl, sym, ap, ◌∙◌, subst, arith, Option, Some, None}
use Rattle.std.specs.Prelude.{unwrap_or, max}
use Rattle.std.proofs.lemmas.Bool.{cases_eq}
use Rattle.std.proofs.lemmas.List.{length-replicate}
use Rattle.pid_map.specs.Chains.{Belongs, IsInMap, IsFind, Relinked}
use Rattle.pid_map.specs.reaching.Reaching.{IsIn}
use Rattle.pid_map.proofs.ChainLaws.{chain_other, added}
use Rattle.pid_map.proofs.EmptyLaws.{empty_belongs, empty_has_none}
use Rattle.swizzle.specs.Objects.{Object, size_of, size_of_all, find_from, replace_from}
use Rattle.swizzle.specs.Heap.{local_from, nothing}
use Rattle.swizzle.specs.Mapped.{pid_at, link_at, IsLinked, AreChained}
use Rattle.swizzle.specs.Kept.{Beside, IsMapped, with_room}
use Rattle.swizzle.proofs.GreatestLaws.{greatest-none, greatest-replaced, greatest-new, greatest-laid}
use Rattle.swizzle.proofs.HeapLaws.{find-replaced, find-replaced_other, find-append, find-append_cases, find-new, local-is, same_object}

-- what stands at an object that is found
pub pid_is : (os : List Object) (at : ℕ) (o : Object) → find_from 1 os at ≡ Some o → pid_at os at ≡ o.header.pid
unfolding pid_at
pid_is os at o is = ap (λ (x : Option Object). (unwrap_or x nothing).header.pid) is

pub link_is : (os : List Object) (at : ℕ) (o : Object) → find_from 1 os at ≡ Some o → link_at os at ≡ o.header.chain
unfolding link_at
link_is os at o is = ap (λ (x : Option Object). (unwrap_or x nothing).header.chain) is

pub pid_same : (os new : List Object) (at : ℕ) → find_from 1 new at ≡ find_from 1 os at → pid_at new at ≡ pid_at os at
unfolding pid_at
pid_same os new at is = ap (λ (x : Option Object). (unwrap_or x nothing).header.pid) is

pub link_same : (os new : List Object) (at : ℕ) → find_from 1 new at ≡ find_from 1 os at → link_at new at ≡ link_at os at
unfolding link_at
link_same os new at is = ap (λ (x : Option Object). (unwrap_or x nothing).header.chain) is

pub set_long : (xs : List ℕ) (i v : ℕ) → length (set xs i v) ≡ length xs
set_long [] i v = refl
set_long (x ∷ xs) zero v = refl
set_long (x ∷ xs) (suc i) v = ap suc (set_long xs i v)

-- the chains of a map stay where the keys and the links of its places do
unfoldable pub carried : (heads : List ℕ) (key now next next_now : ℕ → ℕ) (P Q : ℕ → Type 0) (m : Belongs heads key next P) → ((x : ℕ) → IsInMap m x → now x ≡ key x) → ((x : ℕ) → IsInMap m x → next_now x ≡ next x)
    → ((x : ℕ) → P x → Q x) → Belongs heads now next_now Q
carried heads key now next next_now P Q m keys links more = record {
  places = m.places;
  chains = λ b lt. chain_other next next_now (get_or heads b 0) (m.places b) (λ x l. links x (record { bucket = b; below = lt; is = l })) (m.chains b lt);
  once = m.once;
  theirs = λ b x lt l. more x (m.theirs b x lt l);
  bucket = λ b x lt l. ap (λ k. k % length heads) (keys x (record { bucket = b; below = lt; is = l })) ∙ m.bucket b x lt l;
}

-- what is found in the map is where the object of a PID lies
pub chained-local : (os : List Object) (heads : List ℕ) (c : AreChained os heads) (pid : ℕ) (result : Option ℕ) → ((at : ℕ) (o : Object) → find_from 1 os at ≡ Some o → 1 ≤ o.header.pid → local_from 1 os o.header.pid ≡ Some at)
    → 1 ≤ pid → IsFind c.belongs pid result → result ≡ local_from 1 os pid
chained-local os heads c pid (Some at) one low f =
    let it = c.belongs.theirs f.0.bucket at f.0.below f.0.is in
    let key : it.object.header.pid ≡ pid = sym (pid_is os at it.object it.is) ∙ f.1 in
    let there = one at it.object it.is (omega (arith, low, key)) in
    sym there ∙ ap (local_from 1 os) key
chained-local os heads c pid None one low f = go (local_from 1 os pid) refl
  where
    go : (r : Option ℕ) → local_from 1 os pid ≡ r → None ≡ r
    go None e = refl
    go (Some at) e =
        let l = local-is 1 os pid at e in
        absurd (f at (c.all at l.object l.is (omega (arith, low, l.pid_is))) (pid_is os at l.object l.is ∙ l.pid_is))

-- one object in the place of another with its PID and its link
chained-replaced : (os : List Object) (heads : List ℕ) (at : ℕ) (o new : Object) → AreChained os heads → find_from 1 os at ≡ Some o → size_of new ≡ size_of o → new.header.pid ≡ o.header.pid → new.header.chain ≡ o.header.chain
    → AreChained (replace_from 1 os at new) heads
unfolding carried
chained-replaced os heads at o new c is long pid link =
    let now = replace_from 1 os at new in
    let there : find_from 1 now at ≡ Some new = find-replaced 1 os at o new is in
    let other : (x : ℕ) → x ≢ at → find_from 1 now x ≡ find_from 1 os x = λ x ne. find-replaced_other 1 os at x o new is long ne in
    let pids : (x : ℕ) → pid_at now x ≡ pid_at os x = λ x. elim (cases_eq x at) [
      | inl e ↦ ap (pid_at now) e ∙ (pid_is now at new there ∙ (pid ∙ (sym (pid_is os at o is) ∙ ap (pid_at os) (sym e))))
      | inr ne ↦ pid_same os now x (other x ne)
    ] in
    let links : (x : ℕ) → link_at now x ≡ link_at os x = λ x. elim (cases_eq x at) [
      | inl e ↦ ap (link_at now) e ∙ (link_is now at new there ∙ (link ∙ (sym (link_is os at o is) ∙ ap (link_at os) (sym e))))
      | inr ne ↦ link_same os now x (other x ne)
    ] in
    let linked : (x : ℕ) → IsLinked os x → IsLinked now x = λ x l. elim (cases_eq x at) [
      | inl e ↦
          let same : l.object ≡ o = same_object (find_from 1 os at) l.object o (ap (find_from 1 os) (sym e) ∙ l.is) is in
          let small : o.header.chain < 2 ^ 32 = subst (λ (p : Object). p.header.chain < 2 ^ 32) same l.small in
          record { object = new; is = ap (find_from 1 now) e ∙ there; small = subst (λ (n : ℕ). n < 2 ^ 32) (sym link) small }
      | inr ne ↦ record { object = l.object; is = other x ne ∙ l.is; small = l.small }
    ] in
    record {
      belongs = carried heads (pid_at os) (pid_at now) (link_at os) (link_at now) (IsLinked os) (IsLinked now) c.belongs (λ x i. pids x) (λ x i. links x) linked;
      all = λ x object found some. elim (cases_eq x at) [
        | inl e ↦
            let same : object ≡ new = same_object (find_from 1 now at) object new (ap (find_from 1 now) (sym e) ∙ found) there in
            let was = ap (λ (p : Object). p.header.pid) same ∙ pid in
            let i = c.all at o is (omega (arith, some, was)) in
            record { bucket = i.bucket; below = i.below; is = subst (λ (y : ℕ). IsIn y (c.belongs.places i.bucket)) (sym e) i.is }
        | inr ne ↦
            let i = c.all x object (sym (other x ne) ∙ found) some in
            record { bucket = i.bucket; below = i.below; is = i.is }
      ];
      only = λ x i. let le = c.only x (record { bucket = i.bucket; below = i.below; is = i.is }) in let same = pids x in omega (arith, le, same);
    }

pub mapped-replaced : (os : List Object) (size : ℕ) (b : Beside) (places stops at : ℕ) (o new : Object) → IsMapped os size b → find_from 1 os at ≡ Some o → size_of new ≡ size_of o → new.header.pid ≡ o.header.pid → new.header.chain ≡ o.header.chain
    → IsMapped (replace_from 1 os at new) size (with_room b places stops)
mapped-replaced os size b places stops at o new m is long pid link =
    record { some = m.some; chained = chained-replaced os b.heads at o new m.chained is long pid link; greatest = greatest-replaced os at o new b.greatest m.greatest is long pid; for_fetch = m.for_fetch }

-- an object that comes changes no other one
linked-more : (os : List Object) (o : Object) (x : ℕ) → IsLinked os x → IsLinked (os ++ o ∷ []) x
linked-more os o x l = record { object = l.object; is = find-append 1 os o x l.object l.is; small = l.small }

pid-more : (os : List Object) (o : Object) (x : ℕ) → IsLinked os x → pid_at (os ++ o ∷ []) x ≡ pid_at os x
pid-more os o x l = pid_is (os ++ o ∷ []) x l.object (find-append 1 os o x l.object l.is) ∙ sym (pid_is os x l.object l.is)

link-more : (os : List Object) (o : Object) (x : ℕ) → IsLinked os x → link_at (os ++ o ∷ []) x ≡ link_at os x
link-more os o x l = link_is (os ++ o ∷ []) x l.object (find-append 1 os o x l.object l.is) ∙ sym (link_is os x l.object l.is)

pub linked_in : (os : List Object) (heads : List ℕ) (c : AreChained os heads) (x : ℕ) → IsInMap c.belongs x → IsLinked os x
linked_in os heads c x i = c.belongs.theirs i.bucket x i.below i.is

-- an object without a PID comes
chained-new : (os : List Object) (heads : List ℕ) (o : Object) → AreChained os heads → o.header.pid ≡ 0 → AreChained (os ++ o ∷ []) heads
unfolding carried
chained-new os heads o c none =
    let now = os ++ o ∷ [] in
    record {
      belongs = carried heads (pid_at os) (pid_at now) (link_at os) (link_at now) (IsLinked os) (IsLinked now) c.belongs
          (λ x i. pid-more os o x (linked_in os heads c x i)) (λ x i. link-more os o x (linked_in os heads c x i)) (linked-more os o);
      all = λ x object found some. elim (find-append_cases 1 os o x object found) [
        | inl was ↦ let i = c.all x object was some in record { bucket = i.bucket; below = i.below; is = i.is }
        | inr new ↦ let zero = ap (λ (p : Object). p.header.pid) new.1 ∙ none in absurd (omega (arith, some, zero))
      ];
      only = λ x i.
          let j : IsInMap c.belongs x = record { bucket = i.bucket; below = i.below; is = i.is } in
          let le = c.only x j in let same = pid-more os o x (linked_in os heads c x j) in omega (arith, le, same);
    }

pub mapped-new : (os : List Object) (size : ℕ) (b : Beside) (o : Object) → IsMapped os size b → o.header.pid ≡ 0 → IsMapped (os ++ o ∷ []) size b
mapped-new os size b o m none = record { some = m.some; chained = chained-new os b.heads o m.chained none; greatest = greatest-new os o b.greatest m.greatest none; for_fetch = m.for_fetch }

-- An object comes with its PID: it is laid with the head of its bucket as its link, and is the head from then on.
chained-laid : (os : List Object) (heads : List ℕ) (o : Object) (top : ℕ) → ((at : ℕ) (p : Object) → find_from 1 os at ≡ Some p → 1 ≤ p.header.pid → local_from 1 os p.header.pid ≡ Some at) → AreChained os heads → 1 ≤ o.header.pid → local_from 1 os o.header.pid ≡ None
    → o.header.pid % length heads < length heads → o.header.chain ≡ get_or heads (o.header.pid % length heads) 0 → o.header.chain < 2 ^ 32 → top ≡ 1 + size_of_all os → AreChained (os ++ o ∷ []) (set heads (o.header.pid % length heads) top)
unfolding carried
chained-laid os heads o top one c some away lt link small place =
    let pid = o.header.pid in
    let bucket = pid % length heads in
    let now = os ++ o ∷ [] in
    let there : find_from 1 now top ≡ Some o = ap (find_from 1 now) place ∙ find-new 1 os o in
    let key_here : pid_at now top ≡ pid = pid_is now top o there in
    let mid : Belongs heads (pid_at now) (link_at os) (IsLinked now) =
    carried heads (pid_at os) (pid_at now) (link_at os) (link_at os) (IsLinked os) (IsLinked now) c.belongs
    (λ x i. pid-more os o x (linked_in os heads c x i)) (λ x i. refl) (linked-more os o) in
    let was : (x : ℕ) → IsInMap mid x → IsInMap c.belongs x = λ x i. record { bucket = i.bucket; below = i.below; is = i.is } in
    let fresh : (x : ℕ) → IsInMap mid x → pid_at now x ≢ pid_at now top = λ x i e.
    let l = linked_in os heads c x (was x i) in
    let key : l.object.header.pid ≡ pid = sym (pid_is os x l.object l.is) ∙ (sym (pid-more os o x l) ∙ (e ∙ key_here)) in
    let found = one x l.object l.is (omega (arith, some, key)) in
    let bad : None ≡ Some x = sym away ∙ (ap (local_from 1 os) (sym key) ∙ found) in
    cc in
    let relinked : Relinked (pid_at now) (link_at os) (IsLinked now) (pid_at now) (link_at now) (IsLinked now) top (get_or heads bucket 0) = record {
      there = link_is now top o there ∙ link;
      others = λ x l ne. elim (find-append_cases 1 os o x l.object l.is) [
        | inl before ↦ link_is now x l.object l.is ∙ sym (link_is os x l.object before)
        | inr new ↦ absurd (ne (new.0 ∙ sym place))
      ];
      keys = λ x l. refl;
      places = λ x l. l;
    } in
    let a = added heads (pid_at now) (link_at os) (IsLinked now) mid top bucket (pid_at now) (link_at now) (IsLinked now) (ap (λ k. k % length heads) (sym key_here)) lt
    (record { object = o; is = there; small = small }) (omega (arith, place)) relinked fresh in
    record {
      belongs = a.now;
      all = λ x object found le. elim (find-append_cases 1 os o x object found) [
        | inl before ↦ let i = c.all x object before le in a.grows x (record { bucket = i.bucket; below = i.below; is = i.is })
        | inr new ↦ subst (IsInMap a.now) (place ∙ sym new.0) a.has
      ];
      only = λ x i. elim (a.no_more x i) [
        | inl e ↦ let k = ap (pid_at now) e ∙ key_here in omega (arith, k, some)
        | inr j ↦ let l = linked_in os heads c x (was x j) in let le = c.only x (was x j) in let k = pid-more os o x l in omega (arith, le, k)
      ];
    }

pub mapped-laid : (os : List Object) (size : ℕ) (b : Beside) (o : Object) (top room greatest : ℕ) (heads : List ℕ) → ((at : ℕ) (p : Object) → find_from 1 os at ≡ Some p → 1 ≤ p.header.pid → local_from 1 os p.header.pid ≡ Some at) → IsMapped os size b → 1 ≤ o.header.pid
    → local_from 1 os o.header.pid ≡ None → o.header.pid % length b.heads < length b.heads → o.header.chain ≡ get_or b.heads (o.header.pid % length b.heads) 0 → o.header.chain < 2 ^ 32 → top ≡ 1 + size_of_all os
    → heads ≡ set b.heads (o.header.pid % length b.heads) top → greatest ≡ max b.greatest o.header.pid → size ≤ room + 1 → IsMapped (os ++ o ∷ []) size (record b { heads = heads; greatest = greatest; room = room })
mapped-laid os size b o top room greatest heads one m some away lt link small place is most fits = record {
  some = let long = ap length is ∙ set_long b.heads (o.header.pid % length b.heads) top in let had = m.some in omega (arith, long, had);
  chained = subst (AreChained (os ++ o ∷ [])) (sym is) (chained-laid os b.heads o top one m.chained some away lt link small place);
  greatest = greatest-laid os o b.greatest greatest m.greatest most;
  for_fetch = fits;
}

-- an area without objects has an empty map
pub mapped-none : (n size : ℕ) (b : Beside) → 1 ≤ n → b.heads ≡ replicate n 0 → b.greatest ≡ 0 → size ≤ b.room + 1 → IsMapped [] size b
mapped-none n size b some is none fits = record {
  some = let long = ap length is ∙ length-replicate {A = ℕ} n 0 in omega (arith, long, some);
  chained = subst (AreChained []) (sym is) (record {
    belongs = empty_belongs n (pid_at []) (link_at []) (IsLinked []);
    all = λ at object found some. absurd (let e : None ≡ Some object = found in cc);
    only = λ at i. absurd (empty_has_none n (pid_at []) (link_at []) (IsLinked []) at i);
  });
  greatest = greatest-none b.greatest none;
  for_fetch = fits;
}
