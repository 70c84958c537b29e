-- An object of the area gets a PID.
use Rattle.std.proofs.Common.{inl, inr, ◌≡◌, ◌≢◌, ℕ, ◌+◌, ◌-◌, ◌%◌, ◌^◌, ◌<◌, ◌≤◌, List, [], ◌∷◌, ◌++◌, length, map, take, drop, get_or, set, refl, sym, ap, ◌∙◌, subst, arith, append_assoc, length-append, Option, Some, None, if◌then◌else◌, ◌==◌, max}
use Rattle.std.proofs.lemmas.Bool.{cases_eq}
use Rattle.std.proofs.lemmas.List.{take_at, drop_at, drop-drop}
use Rattle.obj_area.specs.Words.{overwritten}
use Rattle.obj_area.specs.Area.{AreaView, with_words}
use Rattle.obj_area.proofs.WordLaws.{overwritten-inside}
use Rattle.obj_layout.specs.Header.{header_words}
use Rattle.obj_layout.specs.declared.reference.Reference.TheVariants.{Nil}
use Rattle.obj_layout.specs.Reference.{reference_word}
use Rattle.pid_map.specs.Chains.{Belongs, IsInMap, Relinked}
use Rattle.pid_map.proofs.ChainLaws.{added}
use Rattle.swizzle.specs.Objects.{Object, IsFit, words_of_all, objects_of, size_of, size_of_all, find_from, replace_from}
use Rattle.swizzle.specs.Heap.{Heap, IsHeap, IsInside, AreNoted, is_assigned, is_reached, found, object_at, local_from, local_of, with_object}
use Rattle.swizzle.specs.Mapped.{pid_at, link_at, IsLinked, AreChained}
use Rattle.swizzle.specs.Kept.{IsMapped, Noted, with_map}
use Rattle.swizzle.specs.View.{heap_of, beside_of, noted_of, IsKeptIn}
use Rattle.swizzle.specs.Numbered.{numbered}
use Rattle.swizzle.specs.declared.swizzle.Swizzle.TheInside.{Inside}
use Rattle.swizzle.proofs.ObjectLaws.{here, elsewhere, Split, split, length-words_of_all, words_of_all-append, fit_replaced}
use Rattle.swizzle.proofs.HeapLaws.{first_is, behind_is, find-replaced, find-replaced_other, held-replaced, size-replaced, same_object}
use Rattle.swizzle.proofs.NotedLaws.{both-replaced}
use Rattle.swizzle.proofs.GreatestLaws.{greatest-raised}
use Rattle.swizzle.proofs.ChainedLaws.{carried, pid_is, link_is, pid_same, link_same, linked_in, set_long}
use Rattle.swizzle.proofs.KeptLaws.{Again, again, Lies, lists_of, inside_kept}

pub local-numbered : (at : ℕ) (os : List Object) (i pid p : ℕ) (o new : Object) → find_from at os i ≡ Some o → size_of new ≡ size_of o → o.header.pid ≡ 0 → new.header.pid ≡ pid → local_from at os pid ≡ None → 1 ≤ p → local_from at (replace_from at os i new) p ≡ (if p == pid then Some i else local_from at os p)
local-numbered at [] i pid p o new e long none is away some = absurd (cc)
local-numbered at (q ∷ os) i pid p o new e long none is away some =
    elim (cases_eq i at) [
      | inl same ↦
          let it = first_is at q os i o e same in
          let size : size_of new ≡ size_of q = long ∙ ap size_of (sym it) in
          let zero_pid : q.header.pid ≡ 0 = ap (λ (x : Object). x.header.pid) it ∙ none in
          ap (λ (r : List Object). local_from at r p) (here i at (new ∷ os) (q ∷ replace_from (at + size_of q) os i new) same)
          ∙ ap (λ (n : ℕ). if p == n then Some at else local_from (at + size_of new) os p) is
          ∙ ap (λ (n : ℕ). if p == pid then Some n else local_from (at + size_of new) os p) (sym same)
          ∙ ap (λ (n : ℕ). if p == pid then Some i else local_from (at + n) os p) size
          ∙ ap (λ (r : Option ℕ). if p == pid then Some i else r) (sym (elsewhere p q.header.pid (Some at) (local_from (at + size_of q) os p) (λ w. omega arith)))
      | inr apart ↦
          let ne : pid ≢ q.header.pid = λ w. let bad = sym (here pid q.header.pid (Some at) (local_from (at + size_of q) os pid) w) ∙ away in cc in
          let behind = local-numbered (at + size_of q) os i pid p o new (behind_is at q os i o e apart) long none is (sym (elsewhere pid q.header.pid (Some at) (local_from (at + size_of q) os pid) ne) ∙ away) some in
          ap (λ (r : List Object). local_from at r p) (elsewhere i at (new ∷ os) (q ∷ replace_from (at + size_of q) os i new) apart)
          ∙ ap (λ (r : Option ℕ). if p == q.header.pid then Some at else r) behind
          ∙ elim (cases_eq p q.header.pid) [
            | inl w ↦
                let other : p ≢ pid = λ v. ne (sym v ∙ w) in
                here p q.header.pid (Some at) (if p == pid then Some i else local_from (at + size_of q) os p) w
                ∙ sym (here p q.header.pid (Some at) (local_from (at + size_of q) os p) w)
                ∙ sym (elsewhere p pid (Some i) (if p == q.header.pid then Some at else local_from (at + size_of q) os p) other)
            | inr w ↦
                elsewhere p q.header.pid (Some at) (if p == pid then Some i else local_from (at + size_of q) os p) w
                ∙ ap (λ (r : Option ℕ). if p == pid then Some i else r) (sym (elsewhere p q.header.pid (Some at) (local_from (at + size_of q) os p) w))
          ]
    ]

-- what is found of the PIDs after an object without one got this PID
module _ (os : List Object) (at : ℕ) (o new : Object) (is : find_from 1 os at ≡ Some o) (long : size_of new ≡ size_of o) where
  there : find_from 1 (replace_from 1 os at new) at ≡ Some new
  there = find-replaced 1 os at o new is

  other : (x : ℕ) → x ≢ at → find_from 1 (replace_from 1 os at new) x ≡ find_from 1 os x
  other x ne = find-replaced_other 1 os at x o new is long ne

  -- the object is put before the others of its bucket
  pub chained-given : (heads : List ℕ) (pid : ℕ) → ((x : ℕ) (p : Object) → find_from 1 os x ≡ Some p → 1 ≤ p.header.pid → local_from 1 os p.header.pid ≡ Some x) → AreChained os heads → o.header.pid ≡ 0 → new.header.pid ≡ pid → 1 ≤ pid → 1 ≤ at
      → local_from 1 os pid ≡ None → pid % length heads < length heads → new.header.chain ≡ get_or heads (pid % length heads) 0 → new.header.chain < 2 ^ 32 → AreChained (replace_from 1 os at new) (set heads (pid % length heads) at)
  unfolding carried
  chained-given heads pid one c none pids some low away lt link small =
      let now = replace_from 1 os at new in
      let bucket = pid % length heads in
      let key_here : pid_at now at ≡ pid = pid_is now at new there ∙ pids in
      let apart : (x : ℕ) → IsInMap c.belongs x → x ≢ at = λ x i e.
      let le = c.only x i in let zero = ap (pid_at os) e ∙ (pid_is os at o is ∙ none) in omega (arith, le, zero) in
      let keys : (x : ℕ) → IsInMap c.belongs x → pid_at now x ≡ pid_at os x = λ x i. pid_same os now x (other x (apart x i)) in
      let linked : (x : ℕ) → IsLinked os x → IsLinked now x = λ x l. elim (cases_eq x at) [
        | inl e ↦ record { object = new; is = ap (find_from 1 now) e ∙ there; small = small }
        | inr ne ↦ record { object = l.object; is = other x ne ∙ l.is; small = l.small }
      ] in
      let mid : Belongs heads (pid_at now) (link_at os) (IsLinked now) =
      carried heads (pid_at os) (pid_at now) (link_at os) (link_at os) (IsLinked os) (IsLinked now) c.belongs keys (λ x i. refl) linked in
      let was : (x : ℕ) → IsInMap mid x → IsInMap c.belongs x = λ x i. record { bucket = i.bucket; below = i.below; is = i.is } in
      let fresh : (x : ℕ) → IsInMap mid x → pid_at now x ≢ pid_at now at = λ x i e.
      let l = linked_in os heads c x (was x i) in
      let key : l.object.header.pid ≡ pid = sym (pid_is os x l.object l.is) ∙ (sym (keys x (was x i)) ∙ (e ∙ key_here)) in
      let found_it = one x l.object l.is (omega (arith, some, key)) in
      let bad : None ≡ Some x = sym away ∙ (ap (local_from 1 os) (sym key) ∙ found_it) in
      cc in
      let relinked : Relinked (pid_at now) (link_at os) (IsLinked now) (pid_at now) (link_at now) (IsLinked now) at (get_or heads bucket 0) = record {
        there = link_is now at new there ∙ link;
        others = λ x l ne. link_same os now x (other x ne);
        keys = λ x l. refl;
        places = λ x l. l;
      } in
      let a = added heads (pid_at now) (link_at os) (IsLinked now) mid at bucket (pid_at now) (link_at now) (IsLinked now) (ap (λ k. k % length heads) (sym key_here)) lt
      (record { object = new; is = there; small = small }) low relinked fresh in
      record {
        belongs = a.now;
        all = λ x object found_it le. elim (cases_eq x at) [
          | inl e ↦ subst (IsInMap a.now) (sym e) a.has
          | inr ne ↦ let i = c.all x object (sym (other x ne) ∙ found_it) le in a.grows x (record { bucket = i.bucket; below = i.below; is = i.is })
        ];
        only = λ x i. elim (a.no_more x i) [
          | inl e ↦ let k = ap (pid_at now) e ∙ key_here in omega (arith, k, some)
          | inr j ↦ let le = c.only x (was x j) in let k = keys x (was x j) in omega (arith, le, k)
        ];
      }

pub IsHeap-numbered : (heap : Heap) (at pid : ℕ) (o new : Object) → IsHeap heap → found heap at ≡ Some o → IsFit new → size_of new ≡ size_of o → o.header.pid ≡ 0 → new.header.pid ≡ pid → 1 ≤ pid → local_of heap pid ≡ None → AreNoted is_assigned (replace_from 1 heap.objects at new) heap.assigned → AreNoted is_reached (replace_from 1 heap.objects at new) heap.reached → IsInside heap new
    → IsHeap (with_object heap at new)
IsHeap-numbered heap at pid o new h e fit long none is low away noted walked refs = record {
  fit = fit_replaced 1 heap.objects at o new (split 1 heap.objects at o h.fit e) fit;
  within = omega (arith, h.within, size-replaced 1 heap.objects at o new e long);
  small = h.small;
  inside = λ j p there slot to r.
      elim (cases_eq j at) [
        | inl same ↦
            let it : new ≡ p = same_object (found (with_object heap at new) at) new p (find-replaced 1 heap.objects at o new e) (ap (λ (n : ℕ). found (with_object heap at new) n) (sym same) ∙ there) in
            held-replaced heap at o new to e long (refs slot to (ap (λ (x : Object). get_or x.refs slot Nil) it ∙ r))
        | inr apart ↦ held-replaced heap at o new to e long (h.inside j p (sym (find-replaced_other 1 heap.objects at j o new e long apart) ∙ there) slot to r)
      ];
  one = λ j p there some.
      let local = local-numbered 1 heap.objects at pid p.header.pid o new e long none is away some in
      elim (cases_eq j at) [
        | inl same ↦
            let it : new ≡ p = same_object (found (with_object heap at new) at) new p (find-replaced 1 heap.objects at o new e) (ap (λ (n : ℕ). found (with_object heap at new) n) (sym same) ∙ there) in
            local ∙ here p.header.pid pid (Some at) (local_from 1 heap.objects p.header.pid) (ap (λ (x : Object). x.header.pid) (sym it) ∙ is) ∙ ap (λ (n : ℕ). Some n) (sym same)
        | inr apart ↦
            let was = h.one j p (sym (find-replaced_other 1 heap.objects at j o new e long apart) ∙ there) some in
            let ne : p.header.pid ≢ pid = λ w. let bad : None ≡ Some j = sym away ∙ ap (local_of heap) (sym w) ∙ was in cc in
            local ∙ elsewhere p.header.pid pid (Some at) (local_from 1 heap.objects p.header.pid) ne ∙ was
      ];
  noted = noted;
  walked = walked;
}

-- another header over that of an object
header_words_over : (os : List Object) (at : ℕ) (o new : Object) → Split 1 os at o → new.refs ≡ o.refs → new.nums ≡ o.nums → overwritten (words_of_all os) (at - 1) (header_words new.header) ≡ words_of_all (replace_from 1 os at new)
header_words_over os at o new s refs nums =
    let front = words_of_all s.front in
    let back = words_of_all s.back in
    let body = map reference_word o.refs ++ o.nums in
    let long : length front ≡ size_of_all s.front = length-words_of_all s.front s.fit_front in
    let place : at - 1 ≡ length front = omega (arith, s.place) in
    let whole : words_of_all os ≡ front ++ (header_words o.header ++ (body ++ back)) =
    ap words_of_all s.is ∙ words_of_all-append s.front (o ∷ s.back) ∙ ap (λ (r : List ℕ). front ++ r) (append_assoc (header_words o.header) body back) in
    let around = front ++ (header_words o.header ++ (body ++ back)) in
    let count : length front + 4 ≤ length around = omega (arith, length-append front (header_words o.header ++ (body ++ back))) in
    let rest : drop (length front + 4) around ≡ body ++ back =
    sym (drop-drop 4 (length front) around) ∙ ap (drop 4) (drop_at front (header_words o.header ++ (body ++ back)) (length front) refl) in
    let same : body ≡ map reference_word new.refs ++ new.nums = ap (λ (rs : List _). map reference_word rs ++ o.nums) (sym refs) ∙ ap (λ (ns : List ℕ). map reference_word new.refs ++ ns) (sym nums) in
    ap (λ (ws : List ℕ). overwritten ws (at - 1) (header_words new.header)) whole
    ∙ ap (λ (n : ℕ). overwritten around n (header_words new.header)) place
    ∙ overwritten-inside around (length front) (header_words new.header) (omega (arith, count))
    ∙ ap (λ (r : List ℕ). take (length front) around ++ (header_words new.header ++ r)) rest
    ∙ ap (λ (r : List ℕ). r ++ (header_words new.header ++ (body ++ back))) (take_at front (header_words o.header ++ (body ++ back)) (length front) refl)
    ∙ ap (λ (r : List ℕ). front ++ r) (ap (λ (b : List ℕ). header_words new.header ++ (b ++ back)) same ∙ sym (append_assoc (header_words new.header) (map reference_word new.refs ++ new.nums) back))
    ∙ sym (ap words_of_all (s.replaced new) ∙ words_of_all-append s.front (new ∷ s.back))

IsFit-numbered : (o : Object) (pid link : ℕ) → IsFit o → pid < 2 ^ 63 → link < 2 ^ 64 → IsFit (numbered o pid link)
IsFit-numbered o pid link fit low linked = record {
  fields = record { flags = fit.fields.flags; refs = fit.fields.refs; nums = fit.fields.nums; bytes = fit.fields.bytes; pid = omega arith; chain = linked };
  lengths = record { bytes = fit.lengths.bytes; words = fit.lengths.words };
  pid = low;
  refs = fit.refs;
  nums = fit.nums;
  home = fit.home;
  bytes = fit.bytes;
  references = fit.references;
  words = fit.words;
}

-- the header with the PID was written, and the object put before the others of its bucket
pub given : (a : Inside) (new : AreaView) (heads : List ℕ) (heap : Heap) (at pid link greatest : ℕ) → heap_of a ≡ heap → IsKeptIn a → Lies a.area.words heap at → new ≡ with_words a.area at (header_words (numbered (object_at heap at) pid link).header)
    → (object_at heap at).header.pid ≡ 0 → 1 ≤ pid → pid < 2 ^ 63 → local_of heap pid ≡ None → link ≡ get_or a.map.heads.items (pid % length a.map.heads.items) 0 → link < 2 ^ 32 → pid % length a.map.heads.items < length a.map.heads.items
    → heads ≡ set a.map.heads.items (pid % length a.map.heads.items) at → greatest ≡ max a.greatest pid → Again new.words new.size (noted_of a) (with_map (beside_of a) heads greatest) (with_object heap at (numbered (object_at heap at) pid link))
given a new heads heap at pid link greatest e kept l written none low high away link_is_head small below put most =
    let o = object_at heap at in
    let it = numbered o pid link in
    let was : a.area.size ≡ heap.size = ap (λ (x : Heap). x.size) e in
    let size : new.size ≡ heap.size = ap (λ (x : AreaView). x.size) written ∙ was in
    let objects : objects_of a.area.words ≡ heap.objects = ap (λ (x : Heap). x.objects) e in
    let lists : noted_of a ≡ lists_of heap = ap lists_of e in
    let b = with_map (beside_of a) heads greatest in
    let words : new.words ≡ words_of_all (replace_from 1 heap.objects at it) =
    ap (λ (x : AreaView). x.words) written
    ∙ ap (λ (ws : List ℕ). overwritten ws (at - 1) (header_words it.header)) (sym l.cut)
    ∙ header_words_over heap.objects at o it l.split refl refl in
    let m : IsMapped heap.objects heap.size (beside_of a) =
    subst (λ (n : ℕ). IsMapped heap.objects n (beside_of a)) was (subst (λ (os : List Object). IsMapped os a.area.size (beside_of a)) objects kept.pids) in
    let chained = chained-given heap.objects at o it l.is refl a.map.heads.items pid l.heap_is.one m.chained none refl low l.from away below link_is_head small in
    let pids : IsMapped (replace_from 1 heap.objects at it) heap.size b = record {
      some = let long = ap length put ∙ set_long a.map.heads.items (pid % length a.map.heads.items) at in let had = m.some in omega (arith, long, had);
      chained = subst (AreChained (replace_from 1 heap.objects at it)) (sym put) chained;
      greatest = greatest-raised heap.objects at o it a.greatest greatest m.greatest l.is refl (omega (arith, none)) most;
      for_fetch = m.for_fetch;
    } in
    let both = both-replaced heap at o it l.heap_is.noted l.heap_is.walked l.is refl refl in
    let sound = IsHeap-numbered heap at pid o it l.heap_is l.is (IsFit-numbered o pid link l.split.fit high (omega arith)) refl none refl low away both.0 both.1 (inside_kept heap at l.heap_is (record { object = o; is = l.is })) in
    let all = again (replace_from 1 heap.objects at it) new.words heap.size (lists_of heap) b words sound (omega (arith, kept.for_assigned)) (omega (arith, kept.for_reached)) pids in
    subst (λ (n : ℕ). Again new.words n (noted_of a) b (with_object heap at it)) (sym size)
    (subst (λ (x : Noted). Again new.words heap.size x b (with_object heap at it)) (sym lists) all)
