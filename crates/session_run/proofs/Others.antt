-- Which calls of the library are of databases: the first three.
use Rattle.std.proofs.Common.{◌≡◌, ◌≤◌, ℕ, zero, suc, true, refl, arith}
use Rattle.machine_core.specs.ps_heap.Library.{library_procedure}
use Rattle.machine_core.specs.ps_stepping.Plain.{is_plain_call}

pub plain-call : (k : ℕ) → 3 ≤ k → is_plain_call (library_procedure k) ≡ true
unfolding library_procedure
plain-call zero low = absurd (omega (arith, low))
plain-call (suc zero) low = absurd (omega (arith, low))
plain-call (suc (suc zero)) low = absurd (omega (arith, low))
plain-call (suc (suc (suc zero))) low = refl
plain-call (suc (suc (suc (suc zero)))) low = refl
plain-call (suc (suc (suc (suc (suc zero))))) low = refl
plain-call (suc (suc (suc (suc (suc (suc zero)))))) low = refl
plain-call (suc (suc (suc (suc (suc (suc (suc zero))))))) low = refl
plain-call (suc (suc (suc (suc (suc (suc (suc (suc zero)))))))) low = refl
plain-call (suc (suc (suc (suc (suc (suc (suc (suc (suc zero))))))))) low = refl
plain-call (suc (suc (suc (suc (suc (suc (suc (suc (suc (suc zero)))))))))) low = refl
plain-call (suc (suc (suc (suc (suc (suc (suc (suc (suc (suc (suc zero))))))))))) low = refl
plain-call (suc (suc (suc (suc (suc (suc (suc (suc (suc (suc (suc (suc zero)))))))))))) low = refl
plain-call (suc (suc (suc (suc (suc (suc (suc (suc (suc (suc (suc (suc (suc n))))))))))))) low = refl
