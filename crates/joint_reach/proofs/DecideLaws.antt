-- Whether all may be written, and whether there is something to store.
use Rattle.std.proofs.Common.{Bool, true, false, inl, inr, ◌≡◌, ℕ, ◌<◌, List, [], ◌∷◌, length, refl, sym, ap, ◌∙◌, subst, Option, Some, None, if◌then◌else◌}
use Rattle.std.specs.Prelude.{◌&&◌, not, Result, Ok, Err}
use Rattle.std.proofs.lemmas.Bool.{cases_Bool, true≢false}
use Rattle.joint_ops.specs.ps_outside.Outside.{Outside}
use Rattle.joint_ops.specs.obj_layout.Stored.{Space}
use Rattle.joint_ops.specs.obj_layout.declared.reference.Reference.{Reference}
use Rattle.joint_ops.specs.swizzle.declared.fault.SwizzleFault.{SwizzleFault}
use Rattle.joint_ops.specs.swizzle.Heap as area
use Rattle.joint_ops.specs.swizzle.Heap.{IsHeap, IsHeld, IsListed, header_at, num_at}
use Rattle.joint_ops.specs.World.{seen}
use Rattle.joint_ops.specs.heap_meaning.Standing.{IsOne}
use Rattle.joint_ops.specs.ps_heap.Databases.{open_for_writing}
use Rattle.joint_ops.specs.ps_heap.Held.{Place, object_of, Held, home_at}
use Rattle.joint_ops.specs.ps_heap.Commit.{are_writable, is_writable, is_empty, decision, saved, NotWritable, NothingToDo, Saves}
use Rattle.reaching.specs.Reaching.{IsIn}
use Rattle.reaching.proofs.Lists.{then_is, else_is, is_in-in, in-is_in}
use Rattle.commit_walk.specs.Homes.{source_at}
use Rattle.commit_walk.specs.declared.homes.Source.{Source}
use Rattle.commit_walk.proofs.SteadyLaws.{in-listed}
use Rattle.reach_commit.specs.Deciding.{AreWritable, IsAssigned, IsWriting, IsRefused, IsMade, HasWork, IsIdle}
use Rattle.reach_commit.specs.declared.commit.CommitAnswer.{CommitAnswer}
use Rattle.reach_commit.specs.declared.commit.CommitAnswer.TheVariants as answer
use Rattle.reach_commit.specs.Answers.{Decides}
use Rattle.joint_held.specs.Held.{IsOf, IsNoted, HasPlace, HoldsRun}
use Rattle.joint_reach.specs.Meets.{MeetsDecision, DecidesAs}
use Rattle.joint_reach.proofs.TiedLaws.{stored-home}
use Rattle.joint_reach.proofs.SourceLaws.{listed-in, place-of, of-place, object-home}

all-writable : (homes : List (Option ℕ)) (numbers : List ℕ) (places : List Place) → ((id : ℕ) → HasPlace places id → is_writable numbers (home_at homes id) ≡ true) → are_writable homes numbers places ≡ true
unfolding are_writable
all-writable homes numbers [] each = refl
all-writable homes numbers (p ∷ ps) each =
    then_is (is_writable numbers (home_at homes (object_of p))) (are_writable homes numbers ps) false (each (object_of p) (inl refl))
    ∙ all-writable homes numbers ps (λ id k. each id (inr k))

writable-all : (homes : List (Option ℕ)) (numbers : List ℕ) (places : List Place) → are_writable homes numbers places ≡ true → (id : ℕ) → HasPlace places id → is_writable numbers (home_at homes id) ≡ true
unfolding are_writable
writable-all homes numbers [] e id k = absurd k
writable-all homes numbers (p ∷ ps) e id k =
    elim (cases_Bool (is_writable numbers (home_at homes (object_of p)))) [
      | inr no_more ↦ absurd (true≢false (sym e ∙ else_is (is_writable numbers (home_at homes (object_of p))) (are_writable homes numbers ps) false no_more))
      | inl here ↦
          elim k [
            | inl same ↦ subst (λ i. is_writable numbers (home_at homes i) ≡ true) same here
            | inr m ↦ writable-all homes numbers ps (sym (then_is (is_writable numbers (home_at homes (object_of p))) (are_writable homes numbers ps) false here) ∙ e) id m
          ]
    ]

module _ (here : area.Heap) (outside : Outside Space) (names : List Reference) (writing : List Source) (directory : Option ℕ) (h : Held) (sound : IsHeap here) (one : IsOne (seen here outside))
    (run : HoldsRun here outside names writing directory h) where
  abbrev Numbers : List ℕ
  Numbers = open_for_writing h.openings

  -- an assigned object of code has an assigned place
  assigned-place : (x : ℕ) → IsAssigned here x → (id : ℕ) × IsOf here names x id × HasPlace h.assigned id
  assigned-place x a =
      let noted : IsNoted here x = record { stored = a.homed.stored; listed = in-listed x here.assigned a.listed } in
      let k = run.assigned.known x noted a.homed.kind in
      (k.0, k.1, run.assigned.placed x k.0 k.1 noted)

  -- and back
  place-assigned : (id : ℕ) → HasPlace h.assigned id → (x : ℕ) × IsOf here names x id × IsAssigned here x
  place-assigned id k =
      let n = run.assigned.noted id k in
      (n.0, n.1, record { listed = listed-in n.0 here.assigned n.2.listed; homed = record { stored = n.2.stored; kind = object-home here outside names writing directory h sound one run n.0 id n.1 } })

  home-of : (x id : ℕ) → IsOf here names x id → IsAssigned here x → home_at h.homes id ≡ Some (num_at here x 0)
  home-of x id p a = stored-home here outside names writing directory h sound one run x id p a.homed.stored

  pub code-writable : AreWritable here writing → are_writable h.homes Numbers h.assigned ≡ true
  code-writable w = all-writable h.homes Numbers h.assigned (λ id k.
      let x = place-assigned id k in
      let p = w x.0 x.2 in
      let listed = subst (IsIn (source_at writing p.place).number) run.sources.numbers (of-place writing p.place p.below) in
      ap (is_writable Numbers) (home-of x.0 id x.1 x.2) ∙ in-is_in (num_at here x.0 0) Numbers (subst (λ n. IsIn n Numbers) p.is listed))

  pub writable-code : are_writable h.homes Numbers h.assigned ≡ true → AreWritable here writing
  writable-code e x a =
      let k = assigned-place x a in
      let there = sym (ap (is_writable Numbers) (home-of x k.0 k.1 a)) ∙ writable-all h.homes Numbers h.assigned e k.0 k.2 in
      place-of writing (num_at here x 0) (subst (IsIn (num_at here x 0)) (sym run.sources.numbers) (is_in-in (num_at here x 0) Numbers there))

  refused-code : (x home : ℕ) → IsRefused here writing x home → are_writable h.homes Numbers h.assigned ≡ false
  refused-code x home r =
      elim (cases_Bool (are_writable h.homes Numbers h.assigned)) [
        | inl all ↦ absurd (r.closed (subst (IsWriting writing) (sym r.home_is) (writable-code all x r.assigned)))
        | inr some ↦ some
      ]

  made-or : (place : ℕ) → place < length writing → IsIn (source_at writing place).number h.created → (r : Option ℕ) → (source_at writing place).root ≡ r → IsMade writing
  made-or place lt l None e = absurd ((run.sources.each place lt).other e l)
  made-or place lt l (Some at) e = record { place = place; below = lt; root = at; is = e }

  created-made : (n : ℕ) → IsIn n h.created → IsMade writing
  created-made n l =
      let w = place-of writing n (subst (IsIn n) (sym run.sources.numbers) (run.sources.made n l)) in
      made-or w.place w.below (subst (λ i. IsIn i h.created) (sym w.is) l) (source_at writing w.place).root refl

  none-place : (places : List Place) → ((id : ℕ) → HasPlace places id → ⊥) → is_empty places ≡ true
  none-place [] none = refl
  none-place (p ∷ ps) none = absurd (none (object_of p) (inl refl))

  none-number : (ns : List ℕ) → ((n : ℕ) → IsIn n ns → ⊥) → is_empty ns ≡ true
  none-number [] none = refl
  none-number (n ∷ ns) none = absurd (none n (inl refl))

  empty-place : (places : List Place) (id : ℕ) → is_empty places ≡ true → HasPlace places id → ⊥
  empty-place [] id e k = k
  empty-place (p ∷ ps) id e k = true≢false (sym e)

  empty-number : (ns : List ℕ) (n : ℕ) → is_empty ns ≡ true → IsIn n ns → ⊥
  empty-number [] n e k = k
  empty-number (m ∷ ns) n e k = true≢false (sym e)

  both-true : (a b : Bool) → (a && b) ≡ true → (a ≡ true) × (b ≡ true)
  both-true true b e = (refl, e)
  both-true false b e = absurd (true≢false (sym e))

  pub idle-code : IsIdle here writing → (is_empty h.assigned && is_empty h.created) ≡ true
  idle-code i =
      let a = none-place h.assigned (λ id k. let x = place-assigned id k in i.assigned x.0 x.2) in
      let c = none-number h.created (λ n l. i.made (created-made n l)) in
      ap (λ b. b && is_empty h.created) a ∙ c

  pub code-idle : (is_empty h.assigned && is_empty h.created) ≡ true → IsIdle here writing
  code-idle e =
      let b = both-true (is_empty h.assigned) (is_empty h.created) e in
      record {
        assigned = λ x a. let k = assigned-place x a in empty-place h.assigned k.0 b.0 k.2;
        made = λ m. empty-number h.created (source_at writing m.place).number b.1 ((run.sources.each m.place m.below).made m.root m.is).0;
      }

  work-code : HasWork here writing → (is_empty h.assigned && is_empty h.created) ≡ false
  work-code w =
      elim (cases_Bool (is_empty h.assigned && is_empty h.created)) [
        | inr some ↦ some
        | inl none ↦ let i = code-idle none in absurd (elim w [ inl a ↦ i.assigned a.0 a.1 | inr m ↦ i.made m ])
      ]

  pub meets-decision : MeetsDecision here writing h
  meets-decision = record { writable = (code-writable, writable-code); refused = refused-code; idle = (idle-code, code-idle); work = work-code }

  refused-decision : are_writable h.homes Numbers h.assigned ≡ false → decision h ≡ NotWritable
  unfolding decision
  refused-decision e =
      then_is (not (are_writable h.homes Numbers h.assigned)) NotWritable (if is_empty h.assigned && is_empty h.created then NothingToDo else Saves (saved h)) (ap not e)

  written-decision : are_writable h.homes Numbers h.assigned ≡ true → (b : Bool) → (is_empty h.assigned && is_empty h.created) ≡ b → decision h ≡ (if b then NothingToDo else Saves (saved h))
  unfolding decision
  written-decision e b f =
      else_is (not (are_writable h.homes Numbers h.assigned)) NotWritable (if is_empty h.assigned && is_empty h.created then NothingToDo else Saves (saved h)) (ap not e)
      ∙ ap (λ (c : Bool). if c then NothingToDo else Saves (saved h)) f

  pub decides-as : (result : Result CommitAnswer SwizzleFault) → Decides here writing result → DecidesAs h result
  decides-as (Ok (answer.NotWritable object home)) d = refused-decision (refused-code object home d)
  decides-as (Ok answer.Nothing) d = written-decision (code-writable d.0) true (idle-code d.1)
  decides-as (Ok (answer.Saved fresh rewritten)) d = written-decision (code-writable d.0) false (work-code d.1)
  decides-as (Err fault) d = written-decision (code-writable d.0) false (work-code d.1)
