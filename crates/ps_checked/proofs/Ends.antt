-- The line of a program's last clause.
use Rattle.std.proofs.Common.{◌≡◌, ◌≤◌, ◌<◌, ◌-◌, ℕ, suc, List, [], ◌∷◌, length, get_or, arith, refl, sym, ap, ◌∙◌}
use Rattle.ps_base.specs.declared.line.Line.{Line}
use Rattle.ps_tree.specs.PhraseLists.{phrases_in}
use Rattle.ps_tree.specs.declared.rough.Rough.{Rough}
use Rattle.ps_declared.specs.ps_typing.Program.{last_line}

-- the line of the last item
pub last_is : (line : Line) (items : List Rough) (d : Rough) → 1 ≤ length items → last_line line (phrases_in items) ≡ (get_or items (length items - 1) d).line
last_is line [] d some = absurd (omega arith)
last_is line (t ∷ []) d some = refl
last_is line (t ∷ u ∷ ts) d some =
    let place : length (t ∷ u ∷ ts) - 1 ≡ suc (length (u ∷ ts) - 1) = omega arith in
    last_is t.line (u ∷ ts) d (omega arith) ∙ ap (λ (n : ℕ). (get_or (t ∷ u ∷ ts) n d).line) (sym place)

pub last_of_none : (line : Line) (items : List Rough) → length items < 1 → last_line line (phrases_in items) ≡ line
last_of_none line [] below = refl
last_of_none line (t ∷ ts) below = absurd (omega arith)
