-- A whole call: a volume is attached, and then a run is shown over it.
use Rattle.std.proofs.Common.{◌≡◌, inl, ⊎_elim, ℕ, ◌≤◌, List, [], ◌++◌, refl, sym, arith}
use Rattle.std.proofs.lemmas.List.{append-nil}
use Rattle.ps_port.specs.ps_outside.Outside.{Outside, Adds, TellsNothing}
use Rattle.ps_port.specs.ps_outside.Past.{KeepsPast}
use Rattle.ps_outside.proofs.PastMoments.{past_along, past_then}
use Rattle.ps_outside.proofs.Moments.{along_now}
use Rattle.ps_volumes.specs.volume_next.Moving.{KeepsFrom}
use Rattle.ps_heap.specs.Held.{StoredHeap}
use Rattle.commit_moments.specs.Steps.{Step, output_by, Amid}
use Rattle.commit_moments.specs.Shown.{LeavesOnly, Shown, ShowsSince, TellsAllOf}
use Rattle.commit_moments.proofs.ShownLaws.{either}
use Rattle.commit_moments.proofs.StepLaws.{none_prefix}
use Rattle.volume_meaning.specs.Stands.{Stands}
use Rattle.volume_meaning.proofs.Volumes.{stands-kept}

module _ (heap : StoredHeap) (a b : Outside (List ℕ)) (from : KeepsFrom a b) (tells : TellsNothing a b) (past : KeepsPast a b) (starts : (bytes : List ℕ) → a.contents bytes → Stands bytes heap) where
  stands-from : (m : ℕ) (image : List ℕ) → from.since ≤ m → m ≤ b.clock → b.images m image → Stands image heap
  stands-from m image low high at = let is = from.settled m image low high at in stands-kept is.from image heap is.by (starts is.from is.was)

  -- what a crash leaves when it was attached
  pub attached-only : LeavesOnly Stands b heap
  attached-only = λ image at. stands-from b.clock image from.until (omega arith) at

  adds-from : (xs bytes : List ℕ) → Adds (b.told b.clock) xs bytes → Adds (a.told a.clock) xs bytes
  adds-from xs bytes is = record { before = is.before; was_told = along_now tells is.before is.was_told; bytes_are = is.bytes_are }

  module _ (c : Outside (List ℕ)) (steps : List (Step StoredHeap)) where
    pub told-since : TellsAllOf Stands b c steps → TellsAllOf Stands a c steps
    told-since all = λ bytes at. adds-from (output_by steps) bytes (all bytes at)

    amid-from : (bytes : List ℕ) (images : List ℕ → Type 0) → Amid Stands heap steps (b.told b.clock) bytes images → Amid Stands heap steps (a.told a.clock) bytes images
    amid-from bytes images is = record {
      done = is.done;
      rest = is.rest;
      steps_are = is.steps_are;
      front = is.front;
      is_prefix = is.is_prefix;
      told = adds-from (output_by is.done ++ is.front) bytes is.told;
      leaves = is.leaves;
    }

    pub shown-since : Shown Stands heap b c steps → ShowsSince Stands heap a c steps
    shown-since run = record {
      told_past = past_then (past_along tells) run.told_past;
      past = past_then past run.past;
      since = from.since;
      from = from.from;
      until = let one = from.until in let two = run.past.later in omega arith;
      silent = λ m bytes low lt at.
          let le : m ≤ from.since = omega arith in
          let until : m ≤ b.clock = let one = from.until in omega arith in
          from.untold m bytes low le (run.told_past.no_other m bytes until at);
      before = λ m image low lt at.
          let le : m ≤ from.since = omega arith in
          let until : m ≤ b.clock = let one = from.until in omega arith in
          from.before m image low le (run.past.no_other m image until at);
      each = λ m bytes low until at. ⊎_elim
          (λ early. record {
            done = [];
            rest = steps;
            steps_are = refl;
            front = [];
            is_prefix = none_prefix _;
            told = record {
              before = bytes;
              was_told = tells.each m bytes (let one = from.from in omega arith) early (run.told_past.no_other m bytes early at);
              bytes_are = sym (append-nil bytes);
            };
            leaves = λ image is. inl (stands-from m image low early (run.past.no_other m image early is));
          })
          (λ late. amid-from bytes (c.images m) (run.each m bytes late until at))
          (either m b.clock);
    }
