-- Classes whose rows are told, by their texts or by what is known of them.
use Rattle.std.proofs.Common.{◌≡◌, ℕ, List, sym, ap, ◌∙◌, subst, Option, Some, None, IfSome}
use Rattle.std.specs.Prelude.{Result, Ok, MatchOption}
use Rattle.ps_base.specs.CodeUnit.{ConstantsView, unit, text}
use Rattle.ps_base.specs.declared.code_unit.Frame.{Frame}
use Rattle.joint_ops.specs.ps_outside.Outside.{Outside}
use Rattle.joint_ops.specs.obj_layout.Stored.{Space}
use Rattle.joint_ops.specs.swizzle.declared.fault.SwizzleFault.{SwizzleFault}
use Rattle.joint_ops.specs.swizzle.Heap.{Heap, IsHeap}
use Rattle.joint_ops.specs.swizzle.Text.{text_at}
use Rattle.joint_ops.specs.text_forms.Forms.{forms_of}
use Rattle.joint_ops.specs.World.{IsUnitIn}
use Rattle.structure_rows.specs.Marks.{HasTooMany}
use Rattle.objects.specs.declared.class_rows.ClassRows.{ClassRows}
use Rattle.objects.specs.Classes.{AnswersClass}
use Rattle.objects.specs.Makes.{AnswersRows, HasRows, IsMadeBy}
use Rattle.objects.proofs.LaterLaws.{got-named}
use Rattle.objects.proofs.NamedLaws.{constant-is}

-- what was read of the text of a class
abbrev pub ReadsRows : Heap → ℕ → Option ClassRows → Type 0
ReadsRows here at result =
    MatchOption result (HasTooMany (forms_of (text_at here at))) (λ class. HasRows here class × (text_at here class.text ≡ text_at here at))

pub rows-told : (old new : Heap) (before after : Outside Space) (code constant at : ℕ) (row : ConstantsView) (result : Option ClassRows) → IsHeap new
    → AnswersClass old new before after code row constant (Ok at) → ReadsRows new at result → AnswersRows old new before after code row constant (Ok result)
rows-told old new before after code constant at row None h given many =
    let g = got-named old new before after code constant row given.0 at h given.1 given in
    (given.0, given.1, subst (λ (b : List ℕ). HasTooMany (forms_of b)) g.bytes many)
rows-told old new before after code constant at row (Some class) h given read =
    let g = got-named old new before after code constant row given.0 at h given.1 given in
    given.1 ∙ ap (λ (b : List ℕ). Some (text b)) (sym (read.1 ∙ g.bytes))

pub rows-has : (here : Heap) (at : ℕ) (result : Option ClassRows) → ReadsRows here at result → IfSome result (HasRows here)
rows-has here at None many = tt
rows-has here at (Some class) read = read.0

abbrev pub GotRows : Heap → Heap → Outside Space → Outside Space → ℕ → ℕ → Result (Option ClassRows) SwizzleFault → Type 0
GotRows old new before after code constant result =
    (bytes : List ℕ) (row : ConstantsView) (frame : Frame) → IsUnitIn old before code (unit bytes row frame)
    → AnswersRows old new before after code row constant result

pub rows-known : (here : Heap) (outside : Outside Space) (code constant : ℕ) (class : ClassRows) → IsHeap here → IsMadeBy here code constant class
    → GotRows here here outside outside code constant (Ok (Some class))
rows-known here outside code constant class h so bytes row frame u =
    constant-is here outside code constant so.named bytes row frame h u so.is ∙ ap (λ (b : List ℕ). Some (text b)) (sym so.same)
