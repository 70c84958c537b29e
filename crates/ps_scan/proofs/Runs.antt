-- Runs of bytes.
use Rattle.std.proofs.Common.{◌≡◌, ℕ, ◌<◌, Bool, List, length, get_or, get_or-take, ◌∙◌, ap, arith}
use Rattle.std.specs.List.{prefix_len, AllPass, take_while}
use Rattle.std.proofs.lemmas.List.Sums.{prefix_len_passes}
use Rattle.std.proofs.lemmas.List.Folds.{length-prefix_len}

-- each element of the run at the start passes the test
pub run_passes : (p : ℕ → Bool) (xs run : List ℕ) → run ≡ take_while p xs → AllPass p run
run_passes p xs run same = λ k d below.
    let size : length run ≡ prefix_len p xs = ap length same ∙ length-prefix_len p xs in
    let inside : k < prefix_len p xs = omega arith in
    ap (λ l. p (get_or l k d)) same ∙ ap p (get_or-take (prefix_len p xs) xs k d inside) ∙ prefix_len_passes p xs k d inside
