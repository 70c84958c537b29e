-- What the joint clause says of the bytes alone, and in numbers.
use Rattle.std.proofs.Common.{◌⊎◌, ⊎_elim, ℕ, ◌<◌, ◌≤◌, List, [], ◌∷◌, ◌++◌, sym, ◌∙◌, ap, append_assoc, arith}
use Rattle.std.proofs.lemmas.List.{append-nil}
use Rattle.ps_outside.specs.Outside.{Outside, IsPrefix, AddsPrefix, TellsPrefix}
use Rattle.commit_moments.specs.Steps.{Step, output_by, output_next, Amid}
use Rattle.commit_moments.specs.Shown.{Shown, ShowsSince}
use Rattle.commit_moments.proofs.StepLaws.{told-append, none_prefix}

next_prefix : {H : Type 0} (rest : List (Step H)) (front : List ℕ) → IsPrefix front (output_next rest) → IsPrefix front (output_by rest)
next_prefix [] front is = is
next_prefix (s ∷ rest) front is = record { rest = is.rest ++ output_by rest; whole_is = ap (λ (xs : List ℕ). xs ++ output_by rest) is.whole_is ∙ append_assoc front is.rest (output_by rest) }

amid_prefix : {X H : Type 0} (stands : X → H → Type 0) (start : H) (steps : List (Step H)) (before : List ℕ → Type 0) (bytes : List ℕ) (images : X → Type 0)
    → Amid stands start steps before bytes images → AddsPrefix before (output_by steps) bytes
amid_prefix stands start steps before bytes images here =
    let more = next_prefix here.rest here.front here.is_prefix in
    record {
      front = output_by here.done ++ here.front;
      is_front = record {
        rest = more.rest;
        whole_is =
            ap output_by here.steps_are
            ∙ told-append here.done here.rest
            ∙ ap (λ (xs : List ℕ). output_by here.done ++ xs) more.whole_is
            ∙ sym (append_assoc (output_by here.done) here.front more.rest);
      };
      adds = here.told;
    }

-- At each moment a prefix of what the steps output was output.
pub tells_prefix : {X H : Type 0} (stands : X → H → Type 0) (start : H) (a b : Outside X) (steps : List (Step H)) → Shown stands start a b steps → TellsPrefix a b (output_by steps)
tells_prefix stands start a b steps is = record {
  later = is.told_past.later;
  kept = is.told_past.kept;
  no_other = is.told_past.no_other;
  each = λ m bytes from until at. amid_prefix stands start steps (a.told a.clock) bytes (b.images m) (is.each m bytes from until at);
}

earlier : (m n : ℕ) → (m < n) ⊎ (n ≤ m)
earlier m n = grind arith

-- and so it is of a whole call
pub since_tells_prefix : {X H : Type 0} (stands : X → H → Type 0) (start : H) (a b : Outside X) (steps : List (Step H)) → ShowsSince stands start a b steps
    → TellsPrefix a b (output_by steps)
since_tells_prefix stands start a b steps is = record {
  later = is.told_past.later;
  kept = is.told_past.kept;
  no_other = is.told_past.no_other;
  each = λ m bytes from until at. ⊎_elim
      (λ early. record {
        front = [];
        is_front = none_prefix (output_by steps);
        adds = record { before = bytes; was_told = is.silent m bytes from early at; bytes_are = sym (append-nil bytes) };
      })
      (λ late. amid_prefix stands start steps (a.told a.clock) bytes (b.images m) (is.each m bytes late until at))
      (earlier m is.since);
}
