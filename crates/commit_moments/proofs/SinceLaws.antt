-- A whole call: attaching, and then a run.
use Rattle.std.proofs.Common.{inl, ⊎_elim, ℕ, ◌≤◌, List, [], ◌++◌, refl, sym, arith}
use Rattle.std.proofs.lemmas.List.{append-nil}
use Rattle.ps_outside.specs.Outside.{Outside, Adds, LeavesSame, TellsNothing, SettlesFrom}
use Rattle.ps_outside.proofs.PastMoments.{past_along, past_then}
use Rattle.ps_outside.proofs.Moments.{along_now}
use Rattle.commit_moments.specs.Steps.{Step, output_by, Amid}
use Rattle.commit_moments.specs.Shown.{LeavesOnly, Shown, ShowsSince, TellsAllOf}
use Rattle.commit_moments.proofs.ShownLaws.{either}
use Rattle.commit_moments.proofs.StepLaws.{none_prefix, amid_more}

module _ {X H : Type 0} (stands : X → H → Type 0) (start : H) (a b c : Outside X) (tells : TellsNothing a b) (leaves : LeavesSame a b) where
  adds_from : (xs bytes : List ℕ) → Adds (b.told b.clock) xs bytes → Adds (a.told a.clock) xs bytes
  adds_from xs bytes is = record { before = is.before; was_told = along_now tells is.before is.was_told; bytes_are = is.bytes_are }

  pub since_told : (steps : List (Step H)) → TellsAllOf stands b c steps → TellsAllOf stands a c steps
  since_told steps all = λ bytes at. adds_from (output_by steps) bytes (all bytes at)

  amid_from : (steps : List (Step H)) (bytes : List ℕ) (images : X → Type 0) → Amid stands start steps (b.told b.clock) bytes images → Amid stands start steps (a.told a.clock) bytes images
  amid_from steps bytes images is = record {
    done = is.done;
    rest = is.rest;
    steps_are = is.steps_are;
    front = is.front;
    is_prefix = is.is_prefix;
    told = adds_from (output_by is.done ++ is.front) bytes is.told;
    leaves = is.leaves;
  }

  pub since_attached : SettlesFrom a b → ((x : X) → a.contents x → stands x start) → (steps : List (Step H)) → Shown stands start b c steps → ShowsSince stands start a c steps
  since_attached settles starts steps run = record {
    told_past = past_then (past_along tells) run.told_past;
    past = past_then (past_along leaves) run.past;
    since = settles.since;
    from = settles.from;
    until = let one = settles.until in let two = run.past.later in omega arith;
    silent = λ m bytes from lt at.
        let le : m ≤ b.clock = let one = settles.until in omega arith in
        tells.each m bytes from le (run.told_past.no_other m bytes le at);
    before = λ m x from lt at.
        let le : m ≤ b.clock = let one = settles.until in omega arith in
        leaves.each m x from le (run.past.no_other m x le at);
    each = λ m bytes from until at. ⊎_elim
        (λ early. record {
          done = [];
          rest = steps;
          steps_are = refl;
          front = [];
          is_prefix = none_prefix _;
          told = record {
            before = bytes;
            was_told = tells.each m bytes (let one = settles.from in omega arith) early (run.told_past.no_other m bytes early at);
            bytes_are = sym (append-nil bytes);
          };
          leaves = λ x image. inl (starts x (settles.settled m x from early (run.past.no_other m x early image)));
        })
        (λ late. amid_from steps bytes (c.images m) (run.each m bytes late until at))
        (either m b.clock);
  }

  -- the images at its end
  pub since_settled : SettlesFrom a b → ((x : X) → a.contents x → stands x start) → LeavesOnly stands b start
  since_settled settles starts = λ x at. starts x (settles.settled b.clock x settles.until (omega arith) at)

-- More steps come after.
pub since_more : {X H : Type 0} (stands : X → H → Type 0) (start : H) (a b : Outside X) (steps more : List (Step H)) → ShowsSince stands start a b steps
    → ShowsSince stands start a b (steps ++ more)
since_more stands start a b steps more is = record {
  told_past = is.told_past;
  past = is.past;
  since = is.since;
  from = is.from;
  until = is.until;
  silent = is.silent;
  before = is.before;
  each = λ m bytes from until at. amid_more stands start steps more (a.told a.clock) bytes (b.images m) (is.each m bytes from until at);
}
