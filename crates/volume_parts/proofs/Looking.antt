-- Calls that only look, one after the other.
use Rattle.std.proofs.Common.{inl, inr, ℕ, ◌+◌, ◌≤◌, Result, refl, ◌∙◌, arith}
use Rattle.ps_port.specs.ps_outside.Outside.{Outside, LeavesSame, SameContents, IsDeviceCall, Rose}
use Rattle.ps_port.proofs.of_ps_outside.Moments.{along_none, along_then, along_now}
use Rattle.volume_parts.specs.Calls.{Looks}

pub looks_none : {X : Type 0} (a : Outside X) (n : ℕ) → Looks a a n
looks_none a n = record {
  told = along_none a.clock a.told;
  images = along_none a.clock a.images;
  same = record { kept = λ x is. is; no_other = λ x is. is };
  counts = omega arith;
  output = refl;
  calls = omega arith;
}

pub looks_call : {X T E : Type 0} (a b : Outside X) (result : Result T E) → LeavesSame a b → SameContents a b → IsDeviceCall a b result → Looks a b 1
looks_call a b result images same call = record {
  told = call.told;
  images = images;
  same = same;
  counts = call.counts;
  output = call.output;
  calls = let is = call.calls in omega arith;
}

pub looks_then : {X : Type 0} (a b c : Outside X) (m n most : ℕ) → Looks a b m → Looks b c n → m + n ≤ most → Looks a c most
looks_then a b c m n most first next fits = record {
  told = along_then first.told next.told (along_now first.told);
  images = along_then first.images next.images (along_now first.images);
  same = record { kept = λ x is. next.same.kept x (first.same.kept x is); no_other = λ x is. first.same.no_other x (next.same.no_other x is) };
  counts = let one = first.counts in let two = next.counts in omega arith;
  output = next.output ∙ first.output;
  calls = let one = first.calls in let two = next.calls in omega arith;
}

pub rose_then : (a b c : ℕ) → a ≤ b → Rose b c → Rose a c
rose_then a b c le (inl lt) = inl (omega arith)
rose_then a b c le (inr last) = inr last
