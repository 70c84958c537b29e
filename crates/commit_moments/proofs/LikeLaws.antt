-- What is shown of steps is shown of those that are like them.
use Rattle.std.proofs.Common.{◌≡◌, inl, inr, ⊎_elim, ℕ, List, [], ◌∷◌, ◌++◌, refl, sym, ◌∙◌, ap, subst, Option, Some, None}
use Rattle.ps_outside.specs.Outside.{Outside, Adds, IsPrefix}
use Rattle.commit_moments.specs.Steps.{Step, output_by, heap_of, heap_after, AreQuiet, output_next, commit_next, StandsForSome, Amid, broken}
use Rattle.commit_moments.specs.Shown.{Shown, TellsBut, SoFar, BrokeOff}
use Rattle.commit_moments.specs.Like.{GoWith, AreLike}

module _ {H K : Type 0} (goes : H → K → Type 0) where
  pub output-like : (steps : List (Step H)) (others : List (Step K)) → AreLike goes steps others → output_by others ≡ output_by steps
  output-like [] [] like = refl
  output-like [] (other ∷ others) like = absurd like
  output-like (step ∷ steps) [] like = absurd like
  output-like (step ∷ steps) (other ∷ others) like =
      ap (λ (xs : List ℕ). xs ++ output_by others) like.0 ∙ ap (λ (xs : List ℕ). step.output ++ xs) (output-like steps others like.2)

  heap-step : (before : H) (known : K) → goes before known → (next : Option H) (other : Option K) → GoWith goes next other → goes (heap_of before next) (heap_of known other)
  heap-step before known so None None with_it = so
  heap-step before known so None (Some other) with_it = absurd with_it
  heap-step before known so (Some heap) None with_it = absurd with_it
  heap-step before known so (Some heap) (Some other) with_it = with_it

  pub heap-like : (start : H) (known : K) → goes start known → (steps : List (Step H)) (others : List (Step K)) → AreLike goes steps others
      → goes (heap_after start steps) (heap_after known others)
  heap-like start known so [] [] like = so
  heap-like start known so [] (other ∷ others) like = absurd like
  heap-like start known so (step ∷ steps) [] like = absurd like
  heap-like start known so (step ∷ steps) (other ∷ others) like =
      heap-like (heap_of start step.commits) (heap_of known other.commits) (heap-step start known so step.commits other.commits like.1) steps others like.2

  next-output : (steps : List (Step H)) (others : List (Step K)) → AreLike goes steps others → output_next others ≡ output_next steps
  next-output [] [] like = refl
  next-output [] (other ∷ others) like = absurd like
  next-output (step ∷ steps) [] like = absurd like
  next-output (step ∷ steps) (other ∷ others) like = like.0

  next-commit : (steps : List (Step H)) (others : List (Step K)) → AreLike goes steps others → GoWith goes (commit_next steps) (commit_next others)
  next-commit [] [] like = tt
  next-commit [] (other ∷ others) like = absurd like
  next-commit (step ∷ steps) [] like = absurd like
  next-commit (step ∷ steps) (other ∷ others) like = like.1

  none-like : (next : Option H) (other : Option K) → GoWith goes next other → next ≡ None → other ≡ None
  none-like None None with_it is = refl
  none-like None (Some other) with_it is = absurd with_it
  none-like (Some heap) other with_it is = absurd (let e = is in cc)

  quiet-like : (steps : List (Step H)) (others : List (Step K)) → AreLike goes steps others → AreQuiet steps → AreQuiet others
  quiet-like [] [] like quiet = tt
  quiet-like [] (other ∷ others) like quiet = absurd like
  quiet-like (step ∷ steps) [] like quiet = absurd like
  quiet-like (step ∷ steps) (other ∷ others) like quiet = (none-like step.commits other.commits like.1 quiet.0, quiet-like steps others like.2 quiet.1)

  pub like-append : (steps more : List (Step H)) (others rest : List (Step K)) → AreLike goes steps others → AreLike goes more rest → AreLike goes (steps ++ more) (others ++ rest)
  like-append [] more [] rest like next = next
  like-append [] more (other ∷ others) rest like next = absurd like
  like-append (step ∷ steps) more [] rest like next = absurd like
  like-append (step ∷ steps) more (other ∷ others) rest like next = (like.0, like.1, like-append steps more others rest like.2 next)

  -- steps that are like two parts are two parts
  pub record Parts (done rest : List (Step H)) (others : List (Step K)) : Type 0 where
    pub first : List (Step K)
    pub then : List (Step K)
    pub others_are : others ≡ first ++ then
    pub first_like : AreLike goes done first
    pub then_like : AreLike goes rest then

  pub parts : (done rest : List (Step H)) (others : List (Step K)) → AreLike goes (done ++ rest) others → Parts done rest others
  parts [] rest others like = record { first = []; then = others; others_are = refl; first_like = tt; then_like = like }
  parts (step ∷ done) rest [] like = absurd like
  parts (step ∷ done) rest (other ∷ others) like =
      let more = parts done rest others like.2 in
      record {
        first = other ∷ more.first;
        then = more.then;
        others_are = ap (λ (xs : List (Step K)). other ∷ xs) more.others_are;
        first_like = (like.0, like.1, more.first_like);
        then_like = more.then_like;
      }

  module _ {X : Type 0} (stands : X → H → Type 0) (other : X → K → Type 0) (seen : (x : X) (heap : H) (known : K) → goes heap known → stands x heap → other x known) where
    some-like : (x : X) (next : Option H) (known : Option K) → GoWith goes next known → StandsForSome stands x next → StandsForSome other x known
    some-like x None known with_it so = absurd so
    some-like x (Some heap) None with_it so = absurd with_it
    some-like x (Some heap) (Some known) with_it so = seen x heap known with_it so

    module _ (start : H) (known : K) (begins : goes start known) where
      amid_like : (steps : List (Step H)) (others : List (Step K)) → AreLike goes steps others → (before : List ℕ → Type 0) (bytes : List ℕ) (images : X → Type 0)
          → Amid stands start steps before bytes images → Amid other known others before bytes images
      amid_like steps others like before bytes images a =
          let split = parts a.done a.rest others (subst (λ (xs : List (Step H)). AreLike goes xs others) a.steps_are like) in
          record {
            done = split.first;
            rest = split.then;
            steps_are = split.others_are;
            front = a.front;
            is_prefix = subst (λ (xs : List ℕ). IsPrefix a.front xs) (sym (next-output a.rest split.then split.then_like)) a.is_prefix;
            told = subst (λ (xs : List ℕ). Adds before (xs ++ a.front) bytes) (sym (output-like a.done split.first split.first_like)) a.told;
            leaves = λ x at. ⊎_elim
                (λ old. inl (seen x (heap_after start a.done) (heap_after known split.first) (heap-like start known begins a.done split.first split.first_like) old))
                (λ new. inr (some-like x (commit_next a.rest) (commit_next split.then) (next-commit a.rest split.then split.then_like) new))
                (a.leaves x at);
          }

      module _ (old now : Outside X) where
        pub shown_like : (steps : List (Step H)) (others : List (Step K)) → AreLike goes steps others → Shown stands start old now steps → Shown other known old now others
        shown_like steps others like s = record {
          told_past = s.told_past;
          past = s.past;
          each = λ m bytes from until at. amid_like steps others like (old.told old.clock) bytes (now.images m) (s.each m bytes from until at);
        }

        due_like : (steps : List (Step H)) (others : List (Step K)) (owed : List ℕ) → AreLike goes steps others → TellsBut stands old now steps owed
            → TellsBut other old now others owed
        due_like steps others owed like t =
            let split = parts t.whole t.late others (subst (λ (xs : List (Step H)). AreLike goes xs others) t.steps_are like) in
            record {
              whole = split.first;
              late = split.then;
              steps_are = split.others_are;
              quiet = quiet-like t.late split.then split.then_like t.quiet;
              sent = t.sent;
              late_is = output-like t.late split.then split.then_like ∙ t.late_is;
              told = λ bytes at. subst (λ (xs : List ℕ). Adds (old.told old.clock) (xs ++ t.sent) bytes) (sym (output-like t.whole split.first split.first_like)) (t.told bytes at);
            }

        pub so_far_like : (steps : List (Step H)) (others : List (Step K)) (owed : List ℕ) → AreLike goes steps others → SoFar stands start old now steps owed
            → SoFar other known old now others owed
        so_far_like steps others owed like s = record {
          shown = shown_like steps others like s.shown;
          due = due_like steps others owed like s.due;
          leaves = λ x at. seen x (heap_after start steps) (heap_after known others) (heap-like start known begins steps others like) (s.leaves x at);
        }

        pub broke_off_like : (steps : List (Step H)) (others : List (Step K)) (heap : H) (next : K) → AreLike goes steps others → goes heap next
            → BrokeOff stands start old now steps heap → BrokeOff other known old now others next
        broke_off_like steps others heap next like so b = record {
          shown = λ line. shown_like (steps ++ broken line (Some heap) ∷ []) (others ++ broken line (Some next) ∷ [])
              (like-append steps (broken line (Some heap) ∷ []) others (broken line (Some next) ∷ []) like (refl, so, tt)) (b.shown line);
          told = λ bytes at. subst (λ (xs : List ℕ). Adds (old.told old.clock) xs bytes) (sym (output-like steps others like)) (b.told bytes at);
          leaves = λ x at. ⊎_elim
              (λ old. inl (seen x (heap_after start steps) (heap_after known others) (heap-like start known begins steps others like) old))
              (λ new. inr (seen x heap next so new))
              (b.leaves x at);
        }
