-- What is left of a device whose volume was moved, looked at or left alone.
use Rattle.std.proofs.Common.{◌⊎◌, inl, inr, ⊎_elim, ℕ, ◌≤◌, List, arith}
use Rattle.ps_port.specs.ps_outside.Outside.{Outside, LeavesSame}
use Rattle.ps_port.specs.ps_outside.Past.{KeepsPast, KeepsTold}
use Rattle.ps_port.proofs.of_ps_outside.PastMoments.{past_along, past_then}
use Rattle.ps_port.proofs.of_ps_outside.Moments.{along_then, along_now, along_weaker}
use Rattle.ps_port.specs.Telling.{LeavesDevice}
use Rattle.volume_next.specs.Moving.{KeepsFrom}
use Rattle.obj_store.specs.Store.{Store}
use Rattle.ps_reports.specs.Answering.{Answers, whole, cut}
use Rattle.ps_volumes.specs.Attaching.{Keeps, KeepsHeld, KeepsVolume, IsStored}

pub keeps_then : (a b c : Outside (List ℕ)) → Keeps a b → Keeps b c → Keeps a c
keeps_then a b c is next = record {
  images = along_then is.images next.images (along_now is.images);
  contents = λ bytes at. is.contents bytes (next.contents bytes at);
}

-- what is left as it is holds what it held
pub held_kept : (a b : Outside (List ℕ)) → Keeps a b → KeepsHeld a b
held_kept a b is = record { images = along_weaker is.images (λ image at. inl at); contents = λ bytes at. inl (is.contents bytes at) }

pub held_then : (a b c : Outside (List ℕ)) → KeepsHeld a b → Keeps b c → KeepsHeld a c
held_then a b c is next = record {
  images = along_then is.images next.images (along_now is.images);
  contents = λ bytes at. is.contents bytes (next.contents bytes at);
}

-- the output alone was called
pub device_kept : (a b : Outside (List ℕ)) → LeavesDevice a b → Keeps a b
device_kept a b is = record { images = is.images; contents = λ bytes at. is.contents.no_other bytes at }

-- what is answered adds nothing to what had been told before
pub answers_keep : (a b : Outside (List ℕ)) (due : List ℕ) (status answered : ℕ) → Answers a b due status answered → KeepsTold a b
answers_keep a b due status answered (whole is) = past_along is.front
answers_keep a b due status answered (cut is) = past_along is.front

either : (m n : ℕ) → (m ≤ n) ⊎ (n ≤ m)
either m n = grind arith

-- calls that leave what is told of the moments before leave it so
pub from_then : (a b c : Outside (List ℕ)) → KeepsFrom a b → LeavesSame b c → KeepsTold b c → KeepsFrom a c
from_then a b c is left told =
    let until = is.until in
    let later = left.later in
    record {
      since = is.since;
      from = is.from;
      until = omega arith;
      before = λ m image low high at. is.before m image low high (left.no_other m image (omega arith) at);
      settled = λ m image low high at. ⊎_elim
          (λ early. is.settled m image low early (left.no_other m image early at))
          (λ late. is.settled b.clock image until (omega arith) (left.each m image late high at))
          (either m b.clock);
      untold = λ m bytes low high at. is.untold m bytes low high (told.no_other m bytes (omega arith) at);
    }

-- where a read gives one of what a crash leaves, it gives a file that holds what was held
pub held_from : (a b : Outside (List ℕ)) → KeepsFrom a b → KeepsPast a b → ((bytes : List ℕ) → b.contents bytes → b.images b.clock bytes) → KeepsHeld a b
held_from a b is past is_image = record {
  images = record {
    later = past.later;
    kept = past.kept;
    no_other = past.no_other;
    each = λ m image low high at. ⊎_elim
        (λ early. inl (is.before m image low early at))
        (λ late. inr (is.settled m image late high at))
        (either m is.since);
  };
  contents = λ bytes at. inr (is.settled b.clock bytes is.until (omega arith) (is_image bytes at));
}

-- The device was left behind an attached store, and nothing was added to what had been told before; and at the end a read gives one of what a crash leaves.
pub volume_kept : {H : Type 0} (outside : H → Outside (List ℕ)) (old : Outside (List ℕ)) (store : Store H) (new : Outside (List ℕ)) → IsStored outside old store
    → LeavesSame (outside store.host) new → KeepsTold (outside store.host) new → ((bytes : List ℕ) → new.contents bytes → new.images new.clock bytes) → KeepsVolume old new
volume_kept outside old store new is left told is_image =
    let from = from_then old (outside store.host) new is.keeps.from left told in
    record { keeps = held_from old new from (past_then (past_along is.keeps.keeps.images) (past_along left)) is_image; from = from; found = is.keeps.found }
