-- The bytes of a unit are bytes, and its frames are fit, as its constants are gone through.
use Rattle.std.proofs.Common.{◌≡◌, ℕ, ◌+◌, ◌<◌, ◌≤◌, List, length, drop, get_or, sym, subst}
use Rattle.std.specs.Prelude.{Result, Ok, Err, OnOk}
use Rattle.std.proofs.lemmas.List.{drop_all}
use Rattle.ps_base.specs.CodeUnit.{literal, constant_view, constants_view, unit_view}
use Rattle.ps_base.specs.List.{items_of}
use Rattle.ps_base.specs.declared.code_unit.CodeUnit.{CodeUnit}
use Rattle.ps_base.specs.declared.code_unit.Constant.{Constant, Text}
use Rattle.heap_texts.specs.obj_area.Words.{AreBytes}
use Rattle.heap_texts.specs.swizzle.declared.fault.SwizzleFault.{SwizzleFault}
use Rattle.proc_values.specs.Loaded.{IsFitFrame, IsFitUnit, AreFitConstants, IsFitConstant}
use Rattle.proc_values.proofs.UnitLaws.{constants_from, view_text}

-- where the rest of the constants is fit, all are
pub fit_next : (xs : List Constant) (i : ℕ) (x d : Constant) → x ≡ get_or xs i d → i < length xs
    → (AreFitConstants (constants_view (drop i xs)) → AreFitConstants (constants_view xs)) → IsFitConstant (constant_view x)
    → AreFitConstants (constants_view (drop (i + 1) xs)) → AreFitConstants (constants_view xs)
unfolding AreFitConstants
fit_next xs i x d is below all one rest = all (subst AreFitConstants (sym (constants_from xs i x d is below)) (one, rest))

pub fit_ended : (xs : List Constant) (i : ℕ) → length xs ≤ i → (AreFitConstants (constants_view (drop i xs)) → AreFitConstants (constants_view xs))
    → AreFitConstants (constants_view xs)
unfolding AreFitConstants constants_view
fit_ended xs i h all = all (subst (λ (ys : List Constant). AreFitConstants (constants_view ys)) (sym (drop_all i xs h)) tt)

pub fit_text : {T : Type 0} (c : Constant) (bytes from : List ℕ) (result : Result T SwizzleFault) → c ≡ Text bytes → from ≡ bytes → AreBytes from
    → OnOk result (IsFitConstant (constant_view c))
unfolding IsFitConstant
fit_text c bytes from (Ok at) e f good = subst IsFitConstant (sym (view_text c bytes e)) (subst AreBytes f good)
fit_text c bytes from (Err fault) e f good = tt

pub fit_literal : {T : Type 0} (c : Constant) (u : CodeUnit) (result : Result T SwizzleFault) → constant_view c ≡ literal (unit_view u)
    → OnOk result (IsFitUnit (unit_view u)) → OnOk result (IsFitConstant (constant_view c))
unfolding IsFitConstant
fit_literal c u (Ok at) e fit = subst IsFitConstant (sym e) fit
fit_literal c u (Err fault) e fit = tt

pub fit_unit : {T : Type 0} (u : CodeUnit) (xs : List Constant) (result : Result T SwizzleFault) → xs ≡ items_of u.constants → AreBytes u.code
    → IsFitFrame u.frame → AreFitConstants (constants_view xs) → OnOk result (IsFitUnit (unit_view u))
unfolding IsFitUnit
fit_unit u xs (Ok at) e bytes frame fit = (bytes, frame, subst (λ (ys : List Constant). AreFitConstants (constants_view ys)) e fit)
fit_unit u xs (Err fault) e bytes frame fit = tt
