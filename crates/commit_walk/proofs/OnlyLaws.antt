-- Homes are given.
use Rattle.std.proofs.Common.{true, false, inl, inr, ◌≡◌, ◌≢◌, ℕ, zero, suc, ◌+◌, ◌<◌, ◌≤◌, List, [], ◌∷◌, length, refl, sym, ap, ◌∙◌, subst, arith, Option, Some, get_or, length-append}
use Rattle.std.specs.Prelude.{unwrap_or, slice_index, slice_set}
use Rattle.std.proofs.lemmas.Bool.{true≢false, cases_eq}
use Rattle.std.proofs.lemmas.List.{get_or-append-add}
use Rattle.swizzle.specs.obj_layout.declared.reference.Reference.TheVariants.{Nil}
use Rattle.swizzle.specs.Objects.{Object, size_of_all}
use Rattle.swizzle.specs.Heap.{Heap, IsHeap, IsHeld, found, nothing, object_at, header_at, ref_at, num_at, with_num}
use Rattle.swizzle.proofs.HeapLaws.{size-replaced, held-replaced}
use Rattle.swizzle.proofs.JointLaws.{object-replaced, object-replaced_other, held-back}
use Rattle.reaching.specs.Reaching.{IsIn}
use Rattle.commit_walk.specs.Walk.{has_home, Searches}
use Rattle.commit_walk.specs.Walk.{bare}
use Rattle.commit_walk.specs.Homes.{GivesHome, GivesHomes, IsHomedOne}
use Rattle.commit_walk.proofs.HomeLaws.{fit_found}
use Rattle.commit_walk.proofs.FromLaws.{index-in, in-index, place-cases}
use Rattle.reaching.proofs.Lists.{in-append}
use Rattle.commit_walk.proofs.SteadyLaws.{alike, home-alike, steady-none, steady-then}

object_found : (heap : Heap) (x : ℕ) (h : IsHeld heap x) → object_at heap x ≡ h.object
object_found heap x h = ap (λ f. unwrap_or f nothing) h.is

pub gives-num : (old new : Heap) (x number : ℕ) → IsHeap old → IsHeld old x → has_home (header_at old x) ≡ true → new ≡ with_num old x 0 number → GivesHome old new x number
gives-num old new x number heap held home is =
    let o = object_at old x in
    let o2 : Object = record o { nums = slice_set o.nums 0 number } in
    let found_is : found old x ≡ Some o = held.is ∙ ap Some (sym (object_found old x held)) in
    let fit = fit_found 1 old.objects x o heap.fit found_is in
    let some : 0 < length o.nums = omega (arith, fit.home, fit.nums) in
    let there : object_at new x ≡ o2 = ap (λ h. object_at h x) is ∙ object-replaced old x o2 held in
    let away : (y : ℕ) → y ≢ x → object_at new y ≡ object_at old y = λ y ne. ap (λ h. object_at h y) is ∙ object-replaced_other old x y o2 held refl ne in
    record {
      same = record {
        size = ap (λ h. h.size) is;
        assigned = ap (λ h. h.assigned) is;
        top = ap (λ n. 1 + n) (ap (λ h. size_of_all h.objects) is ∙ size-replaced 1 old.objects x o o2 found_is refl);
        headers = λ y. elim (cases_eq y x) [ inl e ↦ ap (λ z. bare (header_at new z)) e ∙ (ap (λ p. bare p.header) there ∙ ap (λ z. bare (header_at old z)) (sym e)) | inr ne ↦ ap (λ p. bare p.header) (away y ne) ];
        refs = λ y slot. elim (cases_eq y x) [
          | inl e ↦ ap (λ z. ref_at new z slot) e ∙ (ap (λ p. get_or p.refs slot Rattle.swizzle.specs.obj_layout.declared.reference.Reference.TheVariants.Nil) there ∙ ap (λ z. ref_at old z slot) (sym e))
          | inr ne ↦ ap (λ p. get_or p.refs slot Rattle.swizzle.specs.obj_layout.declared.reference.Reference.TheVariants.Nil) (away y ne)
        ];
        nums = λ y i le. elim (cases_eq y x) [
          | inl e ↦
              let ne : i ≢ 0 = omega arith in
              ap (λ z. num_at new z i) e ∙ (ap (λ p. slice_index p.nums i) there ∙ (other_num o.nums i number le ∙ ap (λ z. num_at old z i) (sym e)))
          | inr ne ↦ ap (λ p. slice_index p.nums i) (away y ne)
        ];
        held = λ y h. subst (λ g. IsHeld g y) (sym is) (held-replaced old x o o2 y found_is refl h);
        back = λ y h. held-back old x y o2 held refl (subst (λ g. IsHeld g y) is h);
      };
      reached = ap (λ h. h.reached) is;
      given = λ k. ap (λ p. slice_index p.nums 0) there ∙ first_num o.nums number some;
      plain = λ no. absurd (true≢false (sym home ∙ no));
      others = λ y ne. ap (λ p. slice_index p.nums 0) (away y ne);
    }
  where
    first_num : (ns : List ℕ) (v : ℕ) → 0 < length ns → slice_index (slice_set ns 0 v) 0 ≡ v
    first_num [] v lt = omega arith
    first_num (n ∷ ns) v lt = refl

    other_num : (ns : List ℕ) (i v : ℕ) → 1 ≤ i → slice_index (slice_set ns 0 v) i ≡ slice_index ns i
    other_num [] i v le = refl
    other_num (n ∷ ns) zero v le = omega arith
    other_num (n ∷ ns) (suc i) v le = refl

pub gives-none : (heap : Heap) (x number : ℕ) → has_home (header_at heap x) ≡ false → GivesHome heap heap x number
gives-none heap x number none = record { same = steady-none heap; reached = refl; given = λ e. absurd (true≢false (sym e ∙ none)); plain = λ e. refl; others = λ y ne. refl }

pub homes-none : (heap : Heap) (list : List ℕ) (from number : ℕ) → GivesHomes heap heap list from from number
homes-none heap list from number = record { same = steady-none heap; reached = refl; given = λ place low high k. omega (arith, low, high); others = λ y ne. refl; plain = λ y no. refl }

pub homes-more : (old mid new : Heap) (list : List ℕ) (from to number : ℕ) → from ≤ to → GivesHomes old mid list from to number → GivesHome mid new (get_or list to 0) number
    → GivesHomes old new list from (to + 1) number
homes-more old mid new list from to number le g h =
    let x = get_or list to 0 in
    record {
      same = steady-then old mid new g.same h.same;
      reached = h.reached ∙ g.reached;
      given = λ place low high k.
          let z = get_or list place 0 in
          elim (cases_eq z x) [
            | inl e ↦ ap (λ w. num_at new w 0) e ∙ h.given (home-alike old mid (alike old mid g.same) x ∙ (ap (λ w. has_home (header_at old w)) (sym e) ∙ k))
            | inr ne ↦ h.others z ne ∙ g.given place low (before place to high (λ e. ne (ap (λ i. get_or list i 0) e))) k
          ];
      others = λ y ne. h.others y (ne to le (omega arith)) ∙ g.others y (λ place low high. ne place low (omega (arith, high)));
      plain = λ y no. elim (cases_eq y x) [
        | inl e ↦
            ap (λ z. num_at new z 0) e
            ∙ (h.plain (home-alike old mid (alike old mid g.same) x ∙ (ap (λ w. has_home (header_at old w)) (sym e) ∙ no)) ∙ (ap (λ z. num_at mid z 0) (sym e) ∙ g.plain y no))
        | inr ne ↦ h.others y ne ∙ g.plain y no
      ];
    }
  where
    before : (a b : ℕ) → a < b + 1 → a ≢ b → a < b
    before a b lt ne = omega arith

pub one-homed : (old mid new : Heap) (number from : ℕ) (root : Option ℕ) → from ≡ length old.reached → Searches old mid number root
    → GivesHomes mid new mid.reached from (length mid.reached) number → IsHomedOne old new number root old.reached new.reached
one-homed old mid new number from root e found g =
    let before = old.reached in
    let after = mid.reached in
    let s = found.searched in
    let there_is = alike old mid found.steady in
    let it : IsHomedOne old new number root before after = record {
      searched = s;
      same = steady-then old mid new found.steady g.same;
      given = λ y l away k.
          elim (in-append y before s.more (subst (IsIn y) s.is l)) [
            | inl b ↦ absurd (away b)
            | inr m ↦
                let i = in-index s.more y m in
                let place = length before + i.place in
                let there : get_or after place 0 ≡ y = ap (λ l. get_or l place 0) s.is ∙ (get_or-append-add before s.more i.place 0 ∙ i.is) in
                let long = ap length s.is ∙ length-append before s.more in
                ap (λ z. num_at new z 0) (sym there)
                ∙ g.given place (omega (arith, e)) (omega (arith, long, i.below)) (ap (λ z. has_home (header_at mid z)) there ∙ (home-alike old mid there_is y ∙ k))
          ];
      kept = λ y b. g.others y (λ place low high is.
          let there = ap (λ l. get_or l place 0) s.is in
          let long = ap length s.is in
          elim (place-cases before s.more place (omega (arith, high, long))) [
            | inl p ↦ omega (arith, p.0, low, e)
            | inr m ↦ s.fresh y (subst (λ z. IsIn z s.more) (sym (is ∙ there)) m) b
          ]) ∙ found.homes y;
      others = λ y away. g.others y (λ place low high is. away (subst (λ z. IsIn z after) (sym is) (index-in after place high))) ∙ found.homes y;
      plain = λ y no. g.plain y (home-alike old mid there_is y ∙ no) ∙ found.homes y;
    } in
    subst (IsHomedOne old new number root before) (sym g.reached) it
