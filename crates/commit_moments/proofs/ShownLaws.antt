-- How runs go on, one after another.
use Rattle.std.proofs.Common.{◌≡◌, ◌⊎◌, inl, inr, ⊎_elim, ℕ, ◌≤◌, List, [], ◌∷◌, ◌++◌, refl, sym, ◌∙◌, ap, subst, append_assoc, arith, Some}
use Rattle.std.proofs.lemmas.List.{append-nil}
use Rattle.ps_outside.specs.Outside.{Outside, Adds, IsPrefix}
use Rattle.ps_outside.proofs.PastMoments.{past_then}
use Rattle.commit_moments.specs.Steps.{Step, output_by, heap_of, heap_after, AreQuiet, output_next, commit_next, StandsForSome, Amid, broken, owing}
use Rattle.commit_moments.specs.Shown.{Shown, TellsBut, SoFar, BrokeOff, TellsAllOf}
use Rattle.commit_moments.proofs.StepLaws.{prefix-nil, told-append, heap-append, heap-quiet, quiet-append, quiet-prefix, cuts, none_prefix, next_more, amid_more, amid_fewer}

pub either : (m n : ℕ) → (m ≤ n) ⊎ (n ≤ m)
either m n = grind arith

-- told before, told then, told now
pub adds_then : (first next : List ℕ → Type 0) (xs ys bytes : List ℕ) → ((b : List ℕ) → next b → Adds first xs b) → Adds next ys bytes → Adds first (xs ++ ys) bytes
adds_then first next xs ys bytes step last =
    let one = step last.before last.was_told in
    record {
      before = one.before;
      was_told = one.was_told;
      bytes_are = last.bytes_are ∙ ap (λ (b : List ℕ). b ++ ys) one.bytes_are ∙ append_assoc one.before xs ys;
    }

pub adds_is : (told : List ℕ → Type 0) (xs ys bytes : List ℕ) → xs ≡ ys → Adds told xs bytes → Adds told ys bytes
adds_is told xs ys bytes e is = subst (λ (zs : List ℕ). Adds told zs bytes) e is

module _ {X H : Type 0} (stands : X → H → Type 0) (start : H) (a b c : Outside X) (steps more : List (Step H)) (owed : List ℕ) (first : SoFar stands start a b steps owed) where
  due : TellsBut stands a b steps owed
  due = first.due

  -- the heap after the steps is the one after those that were wholly told, and some more
  heap_is : (d r : List (Step H)) → due.late ≡ d ++ r → heap_after start steps ≡ heap_after start (due.whole ++ d)
  heap_is d r e =
      let late = heap-quiet (heap_after start due.whole) due.late due.quiet in
      let some = heap-quiet (heap_after start due.whole) d (quiet-prefix d r (subst (λ (xs : List (Step H)). AreQuiet xs) e due.quiet)) in
      ap (heap_after start) due.steps_are ∙ heap-append start due.whole due.late ∙ late ∙ sym some ∙ sym (heap-append start due.whole d)

  told_is : output_by steps ≡ output_by due.whole ++ (due.sent ++ owed)
  told_is = ap output_by due.steps_are ∙ told-append due.whole due.late ∙ ap (λ (xs : List ℕ). output_by due.whole ++ xs) due.late_is

  -- a moment at which some of what is owed was told
  amid_owed : (rest : List (Step H)) (front bytes : List ℕ) (images : X → Type 0) → owing owed ∷ more ≡ rest → IsPrefix front (output_next rest)
      → Adds (b.told b.clock) front bytes → ((x : X) → images x → stands x (heap_after start steps) ⊎ StandsForSome stands x (commit_next rest))
      → Amid stands start (steps ++ more) (a.told a.clock) bytes images
  amid_owed rest front bytes images e is_prefix told leaves =
      let some = subst (λ (r : List (Step H)). IsPrefix front (output_next r)) (sym e) is_prefix in
      let whole : output_by due.late ≡ (due.sent ++ front) ++ some.rest =
      due.late_is ∙ ap (λ (xs : List ℕ). due.sent ++ xs) some.whole_is ∙ sym (append_assoc due.sent front some.rest) in
      let is = cuts due.late (due.sent ++ front) some.rest whole in
      record {
        done = due.whole ++ is.done;
        rest = is.rest ++ more;
        steps_are =
            ap (λ (xs : List (Step H)). xs ++ more) (due.steps_are ∙ ap (λ (xs : List (Step H)). due.whole ++ xs) is.steps_are ∙ sym (append_assoc due.whole is.done is.rest))
            ∙ append_assoc (due.whole ++ is.done) is.rest more;
        front = is.cut;
        is_prefix = next_more is.rest more is.cut is.is_prefix;
        told = adds_is (a.told a.clock) ((output_by due.whole ++ due.sent) ++ front) (output_by (due.whole ++ is.done) ++ is.cut) bytes
            (append_assoc (output_by due.whole) due.sent front
            ∙ ap (λ (xs : List ℕ). output_by due.whole ++ xs) is.front_is
            ∙ sym (append_assoc (output_by due.whole) (output_by is.done) is.cut)
            ∙ ap (λ (xs : List ℕ). xs ++ is.cut) (sym (told-append due.whole is.done)))
            (adds_then (a.told a.clock) (b.told b.clock) (output_by due.whole ++ due.sent) front bytes due.told told);
        leaves = λ x at. ⊎_elim
            (λ old. inl (subst (λ (h : H). stands x h) (heap_is is.done is.rest is.steps_are) old))
            (λ next. absurd (subst (λ (r : List (Step H)). StandsForSome stands x (commit_next r)) (sym e) next))
            (leaves x at);
      }

  -- and one at which all of it was told
  amid_behind : (done rest : List (Step H)) (front bytes : List ℕ) (images : X → Type 0) → more ≡ done ++ rest → IsPrefix front (output_next rest)
      → Adds (b.told b.clock) ((owed ++ output_by done) ++ front) bytes → ((x : X) → images x → stands x (heap_after (heap_after start steps) done) ⊎ StandsForSome stands x (commit_next rest))
      → Amid stands start (steps ++ more) (a.told a.clock) bytes images
  amid_behind done rest front bytes images e is_prefix told leaves = record {
    done = steps ++ done;
    rest = rest;
    steps_are = ap (λ (xs : List (Step H)). steps ++ xs) e ∙ sym (append_assoc steps done rest);
    front = front;
    is_prefix = is_prefix;
    told = adds_is (a.told a.clock) ((output_by due.whole ++ due.sent) ++ ((owed ++ output_by done) ++ front)) (output_by (steps ++ done) ++ front) bytes
        (sym (append_assoc (output_by due.whole ++ due.sent) (owed ++ output_by done) front)
        ∙ ap (λ (xs : List ℕ). xs ++ front)
        (append_assoc (output_by due.whole) due.sent (owed ++ output_by done)
        ∙ ap (λ (xs : List ℕ). output_by due.whole ++ xs) (sym (append_assoc due.sent owed (output_by done)))
        ∙ sym (append_assoc (output_by due.whole) (due.sent ++ owed) (output_by done))
        ∙ ap (λ (xs : List ℕ). xs ++ output_by done) (sym told_is)
        ∙ sym (told-append steps done)))
        (adds_then (a.told a.clock) (b.told b.clock) (output_by due.whole ++ due.sent) ((owed ++ output_by done) ++ front) bytes due.told told);
    leaves = λ x at. ⊎_elim (λ old. inl (subst (λ (h : H). stands x h) (sym (heap-append start steps done)) old)) (λ next. inr next) (leaves x at);
  }

  amid_late : (done rest : List (Step H)) (front bytes : List ℕ) (images : X → Type 0) → owing owed ∷ more ≡ done ++ rest → IsPrefix front (output_next rest)
      → Adds (b.told b.clock) (output_by done ++ front) bytes → ((x : X) → images x → stands x (heap_after (heap_after start steps) done) ⊎ StandsForSome stands x (commit_next rest))
      → Amid stands start (steps ++ more) (a.told a.clock) bytes images
  amid_late [] rest front bytes images e is_prefix told leaves = amid_owed rest front bytes images e is_prefix told leaves
  amid_late (s ∷ done) rest front bytes images e is_prefix told leaves =
      let head : owing owed ≡ s = cc in
      let tail : more ≡ done ++ rest = cc in
      amid_behind done rest front bytes images tail is_prefix
      (subst (λ (t : Step H). Adds (b.told b.clock) ((t.output ++ output_by done) ++ front) bytes) (sym head) told)
      (subst (λ (t : Step H). (x : X) → images x → stands x (heap_after (heap_of (heap_after start steps) t.commits) done) ⊎ StandsForSome stands x (commit_next rest)) (sym head) leaves)

  pub shown_then : Shown stands (heap_after start steps) b c (owing owed ∷ more) → Shown stands start a c (steps ++ more)
  shown_then next = record {
    told_past = past_then first.shown.told_past next.told_past;
    past = past_then first.shown.past next.past;
    each = λ m bytes from until at. ⊎_elim
        (λ early. amid_more stands start steps more (a.told a.clock) bytes (c.images m)
        (amid_fewer stands start steps (a.told a.clock) bytes (b.images m) (c.images m)
        (first.shown.each m bytes from early (next.told_past.no_other m bytes early at)) (λ x is. next.past.no_other m x early is)))
        (λ late. let is = next.each m bytes late until at in amid_late is.done is.rest is.front bytes (c.images m) is.steps_are is.is_prefix is.told is.leaves)
        (either m b.clock);
  }

  -- what is owed in the end
  due_owed : (late : List (Step H)) (sent left : List ℕ) → owing owed ∷ more ≡ late → AreQuiet late → output_by late ≡ sent ++ left
      → ((bytes : List ℕ) → c.told c.clock bytes → Adds (b.told b.clock) sent bytes) → TellsBut stands a c (steps ++ more) left
  due_owed late sent left e quiet late_is told =
      let same = subst (λ (xs : List (Step H)). AreQuiet xs × (output_by xs ≡ sent ++ left)) (sym e) (quiet, late_is) in
      record {
        whole = due.whole;
        late = due.late ++ more;
        steps_are = ap (λ (xs : List (Step H)). xs ++ more) due.steps_are ∙ append_assoc due.whole due.late more;
        quiet = quiet-append due.late more due.quiet same.0.1;
        sent = due.sent ++ sent;
        late_is =
            told-append due.late more
            ∙ ap (λ (xs : List ℕ). xs ++ output_by more) due.late_is
            ∙ append_assoc due.sent owed (output_by more)
            ∙ ap (λ (xs : List ℕ). due.sent ++ xs) same.1
            ∙ sym (append_assoc due.sent sent left);
        told = λ bytes at. adds_is (a.told a.clock) ((output_by due.whole ++ due.sent) ++ sent) (output_by due.whole ++ (due.sent ++ sent)) bytes (append_assoc (output_by due.whole) due.sent sent)
            (adds_then (a.told a.clock) (b.told b.clock) (output_by due.whole ++ due.sent) sent bytes due.told (told bytes at));
      }

  due_behind : (whole late : List (Step H)) (sent left : List ℕ) → more ≡ whole ++ late → AreQuiet late → output_by late ≡ sent ++ left
      → ((bytes : List ℕ) → c.told c.clock bytes → Adds (b.told b.clock) ((owed ++ output_by whole) ++ sent) bytes) → TellsBut stands a c (steps ++ more) left
  due_behind whole late sent left e quiet late_is told = record {
    whole = steps ++ whole;
    late = late;
    steps_are = ap (λ (xs : List (Step H)). steps ++ xs) e ∙ sym (append_assoc steps whole late);
    quiet = quiet;
    sent = sent;
    late_is = late_is;
    told = λ bytes at. adds_is (a.told a.clock) ((output_by due.whole ++ due.sent) ++ ((owed ++ output_by whole) ++ sent)) (output_by (steps ++ whole) ++ sent) bytes
        (sym (append_assoc (output_by due.whole ++ due.sent) (owed ++ output_by whole) sent)
        ∙ ap (λ (xs : List ℕ). xs ++ sent)
        (append_assoc (output_by due.whole) due.sent (owed ++ output_by whole)
        ∙ ap (λ (xs : List ℕ). output_by due.whole ++ xs) (sym (append_assoc due.sent owed (output_by whole)))
        ∙ sym (append_assoc (output_by due.whole) (due.sent ++ owed) (output_by whole))
        ∙ ap (λ (xs : List ℕ). xs ++ output_by whole) (sym told_is)
        ∙ sym (told-append steps whole)))
        (adds_then (a.told a.clock) (b.told b.clock) (output_by due.whole ++ due.sent) ((owed ++ output_by whole) ++ sent) bytes due.told (told bytes at));
  }

  due_late : (whole late : List (Step H)) (sent left : List ℕ) → owing owed ∷ more ≡ whole ++ late → AreQuiet late → output_by late ≡ sent ++ left
      → ((bytes : List ℕ) → c.told c.clock bytes → Adds (b.told b.clock) (output_by whole ++ sent) bytes) → TellsBut stands a c (steps ++ more) left
  due_late [] late sent left e quiet late_is told = due_owed late sent left e quiet late_is told
  due_late (s ∷ whole) late sent left e quiet late_is told =
      let head : owing owed ≡ s = cc in
      let tail : more ≡ whole ++ late = cc in
      due_behind whole late sent left tail quiet late_is
      (subst (λ (t : Step H). (bytes : List ℕ) → c.told c.clock bytes → Adds (b.told b.clock) ((t.output ++ output_by whole) ++ sent) bytes) (sym head) told)

  pub due_then : (left : List ℕ) → TellsBut stands b c (owing owed ∷ more) left → TellsBut stands a c (steps ++ more) left
  due_then left next = due_late next.whole next.late next.sent left next.steps_are next.quiet next.late_is next.told

  -- A run after a run is one run of both.
  pub so_far_then : (left : List ℕ) → SoFar stands (heap_after start steps) b c (owing owed ∷ more) left → SoFar stands start a c (steps ++ more) left
  so_far_then left next = record {
    shown = shown_then next.shown;
    due = due_then left next.due;
    leaves = λ x at. subst (λ (h : H). stands x h) (sym (heap-append start steps more)) (next.leaves x at);
  }

-- all of what they tell was told, where nothing is owed
pub all_told : {X H : Type 0} (stands : X → H → Type 0) (a b : Outside X) (steps : List (Step H)) → TellsBut stands a b steps [] → TellsAllOf stands a b steps
all_told stands a b steps due = λ bytes at. adds_is (a.told a.clock) (output_by due.whole ++ due.sent) (output_by steps) bytes
    (ap (λ (xs : List ℕ). output_by due.whole ++ xs) (sym (append-nil due.sent) ∙ sym due.late_is) ∙ sym (told-append due.whole due.late) ∙ ap output_by (sym due.steps_are))
    (due.told bytes at)

-- One that breaks off in a commit after a run breaks off after both.
pub broke_off_then : {X H : Type 0} (stands : X → H → Type 0) (start : H) (a b c : Outside X) (steps more : List (Step H)) (owed : List ℕ) (heap : H)
    → SoFar stands start a b steps owed → BrokeOff stands (heap_after start steps) b c (owing owed ∷ more) heap → BrokeOff stands start a c (steps ++ more) heap
unfolding due
broke_off_then {H = H} stands start a b c steps more owed heap first is = record {
  shown = λ line. subst (λ (xs : List (Step H)). Shown stands start a c xs) (sym (append_assoc steps more (broken line (Some heap) ∷ [])))
      (shown_then stands start a b c steps (more ++ broken line (Some heap) ∷ []) owed first (is.shown line));
  told = λ bytes at.
      let due = first.due in
      adds_is (a.told a.clock) ((output_by due.whole ++ due.sent) ++ (owed ++ output_by more)) (output_by (steps ++ more)) bytes
      (append_assoc (output_by due.whole) due.sent (owed ++ output_by more)
      ∙ ap (λ (xs : List ℕ). output_by due.whole ++ xs) (sym (append_assoc due.sent owed (output_by more)))
      ∙ sym (append_assoc (output_by due.whole) (due.sent ++ owed) (output_by more))
      ∙ ap (λ (xs : List ℕ). xs ++ output_by more) (sym (told_is stands start a b b steps more owed first))
      ∙ sym (told-append steps more))
      (adds_then (a.told a.clock) (b.told b.clock) (output_by due.whole ++ due.sent) (owed ++ output_by more) bytes due.told (is.told bytes at));
  leaves = λ x at. ⊎_elim (λ old. inl (subst (λ (h : H). stands x h) (sym (heap-append start steps more)) old)) (λ new. inr new) (is.leaves x at);
}

-- A run whose first step tells and commits nothing is one of the others.
pub shown_begun : {X H : Type 0} (stands : X → H → Type 0) (start : H) (a b : Outside X) (steps : List (Step H)) → Shown stands start a b (owing [] ∷ steps) → Shown stands start a b steps
shown_begun {X = X} {H = H} stands start a b steps is = record {
  told_past = is.told_past;
  past = is.past;
  each = λ m bytes from until at. let here = is.each m bytes from until at in by m bytes here.done here.rest here.front here.steps_are here.is_prefix here.told here.leaves;
}
  where
    by : (m : ℕ) (bytes : List ℕ) (done rest : List (Step H)) (front : List ℕ) → owing [] ∷ steps ≡ done ++ rest → IsPrefix front (output_next rest) → Adds (a.told a.clock) (output_by done ++ front) bytes
        → ((x : X) → b.images m x → stands x (heap_after start done) ⊎ StandsForSome stands x (commit_next rest)) → Amid stands start steps (a.told a.clock) bytes (b.images m)
    by m bytes [] rest front e is_prefix told leaves =
        let none : front ≡ [] = prefix-nil front (subst (λ (r : List (Step H)). IsPrefix front (output_next r)) (sym e) is_prefix) in
        record {
          done = [];
          rest = steps;
          steps_are = refl;
          front = [];
          is_prefix = none_prefix (output_next steps);
          told = adds_is (a.told a.clock) front [] bytes none told;
          leaves = λ x at. ⊎_elim (λ old. inl old) (λ next. absurd (subst (λ (r : List (Step H)). StandsForSome stands x (commit_next r)) (sym e) next)) (leaves x at);
        }
    by m bytes (s ∷ done) rest front e is_prefix told leaves =
        let head : owing [] ≡ s = cc in
        record {
          done = done;
          rest = rest;
          steps_are = cc;
          front = front;
          is_prefix = is_prefix;
          told = subst (λ (t : Step H). Adds (a.told a.clock) ((t.output ++ output_by done) ++ front) bytes) (sym head) told;
          leaves = subst (λ (t : Step H). (x : X) → b.images m x → stands x (heap_after (heap_of start t.commits) done) ⊎ StandsForSome stands x (commit_next rest)) (sym head) leaves;
        }

-- More steps come behind.
pub shown_more : {X H : Type 0} (stands : X → H → Type 0) (start : H) (a b : Outside X) (steps more : List (Step H)) → Shown stands start a b steps → Shown stands start a b (steps ++ more)
shown_more stands start a b steps more is = record {
  told_past = is.told_past;
  past = is.past;
  each = λ m bytes from until at. amid_more stands start steps more (a.told a.clock) bytes (b.images m) (is.each m bytes from until at);
}
