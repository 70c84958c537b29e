-- Programs of which the laws speak: they are well typed, they run, and they have units; and one is fit alone.
use Rattle.std.proofs.Common.{ℕ, ◌^◌, ◌<◌, ◌≤◌, ◌≢◌, rules, Bool, FitsSigned, w32, List, [], ◌∷◌, inl, refl, pos, true, false, Some, None, arith}
use Rattle.std.specs.List.{AllByRecursion}
use Rattle.std.specs.Prelude.{codes}
use Rattle.std.proofs.lemmas.Int.{fits_signed_from_abs}
use Rattle.ps_gen.specs.ps_base.TyView.{TyView}
use Rattle.ps_gen.specs.ps_base.TyView as types
use Rattle.ps_gen.specs.ps_base.declared.line.Line.{Line}
use Rattle.ps_gen.specs.ps_program.declared.place.Place.TheVariants.{Plain, Kept}
use Rattle.ps_gen.specs.ps_program.Node.{Node, more, none, BodyNode, body}
use Rattle.ps_gen.specs.ps_program.Node as node
use Rattle.ps_type_text.specs.Texts.{Field, class_text, is_name_byte}
use Rattle.ps_typing_laws.specs.ps_typing.WellTyped.{IsTyped, IsWellTyped}
use Rattle.ps_typing_laws.specs.ps_typing.WellTyped as typed
use Rattle.ps_stepping.specs.ps_heap.Values.{Routine}
use Rattle.ps_soundness.specs.Running.{IsScopeText, BodyRuns}
use Rattle.ps_soundness.proofs.Telling.{Told}
use Rattle.ps_stepping.specs.ps_meaning.Runs.{Given}
use Rattle.ps_gen.specs.Units.{HasUnit}
use Rattle.ps_gen.specs.ps_program.Slots.{slot_count}
use Rattle.ps_stepping.specs.Config.{frame_words}
use Rattle.heap_fit.specs.Bodies.{IsFitBody}
use Rattle.heap_fit.specs.Bodies as fit
use Rattle.heap_fit.specs.Typed.{TypedBodiesAreFit}
use Rattle.heap_fit.proofs.TypedFits.{fits_body}
use Rattle.fit_soundness.specs.Laws.{program as of_nothing}
use Rattle.ps_stepping.specs.ps_heap.Held.{row, nothing_stored}
use Rattle.ps_gen.specs.ps_base.declared.instr.Instr.{Instr}
use Rattle.ps_code_laws.specs.Literals.{instrs_of}
use Rattle.ps_code_laws.specs.Compiled.{WeighsUnits}
use Rattle.ps_code_laws.specs.Meets.{IsFittingHeap}
use Rattle.ps_code_laws.proofs.Bodies.{RunsAsMeant, all_true, each_true, program_runs, typed_program_runs}

abbrev line : Line
line = record { 0 = 1 }

abbrev num : ℕ → Node
num n = node.Int (pos n)

-- let n = 3; for i = 1 to n do write i
abbrev program : BodyNode
program = body [] types.Void (node.Block None (more (node.Let (Plain 0) types.Int (num 3))
    (more (node.For 1 (num 1) (node.Name (Plain 0) types.Int) (num 1) None (Plain 4)
    (node.Write (node.Name (Plain 4) types.Int) node.Empty false types.Int line) line) none))) None line

is_typed : IsWellTyped program
is_typed = (
  refl,
  refl,
  typed.of_params typed.unscoped typed.no_more refl
      (typed.block typed.unscoped (typed.a_value refl (typed.as_local refl) (typed.by_rule typed.int typed.no_more)
      (typed.a_clause (typed.loop refl typed.unscoped (typed.as_local refl) refl
      (typed.one_more (typed.by_rule typed.int typed.no_more) (typed.one_more (typed.name (inl (refl, refl)))
      (typed.one_more (typed.by_rule typed.int typed.no_more) typed.no_more)))
      (typed.by_rule (typed.write refl) (typed.one_more (typed.name (inl (refl, refl)))
      (typed.one_more (typed.by_rule typed.empty typed.no_more) typed.no_more))))
      typed.at_end)) refl),
)

it_has_a_run : BodyRuns [] program
it_has_a_run = (tt, ((tt, refl), ((refl, tt, refl, tt, (tt, tt)), tt)))

fits : (n : ℕ) → n < 2 ^ 31 → FitsSigned w32 (pos n)
fits n h = fits_signed_from_abs w32 (pos n) h

one_word : (n : ℕ) → n < 2 ^ 32 → (n < 2 ^ 32) × Unit {0}
one_word n h = (h, tt)

has_unit : HasUnit program
has_unit = (
  fits 3 (omega arith),
  (
    one_word 0 (omega arith),
    (
      fits 1 (omega arith),
      (
        one_word 1 (omega arith),
        (
          one_word 0 (omega arith),
          (
            one_word 2 (omega arith),
            (
              fits 1 (omega arith),
              (
                one_word 3 (omega arith),
                (
                  (omega arith, (omega arith, (omega arith, tt))),
                  (
                    one_word 1 (omega arith),
                    (
                      one_word 4 (omega arith),
                      (
                        one_word 4 (omega arith),
                        (
                          (omega arith, (omega arith, tt)),
                          (
                            (omega arith, (omega arith, tt)),
                            (one_word 0 (omega arith), tt),
                          ),
                        ),
                      ),
                    ),
                  ),
                ),
              ),
            ),
          ),
        ),
      ),
    ),
  ),
)

-- a heap that holds nothing is such a one as the laws speak of
nothing_fits : (may : Instr → Bool) → IsFittingHeap may nothing_stored
nothing_fits may = search rules

-- typed bodies are fit
fitted : TypedBodiesAreFit
fitted = λ scopes wholes levels of is_body runs sm are. fits_body wholes levels is_body runs sm are

it_runs : Told → (weigh : Routine → ℕ) (given : Given) → WeighsUnits weigh → IsFittingHeap (λ i. true) given.heap → RunsAsMeant (λ i. true) weigh given program
it_runs told weigh given weighs heap = typed_program_runs told fitted (λ i. true) program weigh given weighs heap is_typed it_has_a_run ((tt, tt), tt) refl (has_unit, tt) (all_true (program ∷ []))

-- let v = @1 of string ["ab"]; write v(1) ++ "c"
abbrev strings : Node
strings = node.Elems (num 1) (more (node.Text (codes "ab")) none) (types.Vector types.Str) line

abbrev joined : Node
joined = node.Join (node.Element (node.Name (Plain 0) (types.Vector types.Str)) (num 1) types.Str line) (node.Text (codes "c")) line

abbrev of_strings : BodyNode
of_strings = body [] types.Void (node.Block None (more (node.Let (Plain 0) (types.Vector types.Str) strings)
    (more (node.Write joined node.Empty false types.Str line) none))) None line

strings_are_typed : IsWellTyped of_strings
strings_are_typed = (
  refl,
  refl,
  typed.of_params typed.unscoped typed.no_more refl
      (typed.block typed.unscoped (typed.a_value refl (typed.as_local refl)
      (typed.by_rule typed.elems (typed.one_more (typed.by_rule typed.int typed.no_more)
      (typed.one_more (typed.by_rule typed.text typed.no_more) typed.no_more)))
      (typed.a_clause (typed.by_rule (typed.write refl) (typed.one_more (typed.by_rule typed.join (typed.one_more
      (typed.by_rule typed.element (typed.one_more (typed.name (inl (refl, refl)))
      (typed.one_more (typed.by_rule typed.int typed.no_more) typed.no_more)))
      (typed.one_more (typed.by_rule typed.text typed.no_more) typed.no_more)))
      (typed.one_more (typed.by_rule typed.empty typed.no_more) typed.no_more)))
      typed.at_end)) refl),
)

strings_have_a_run : BodyRuns [] of_strings
strings_have_a_run = (tt, ((tt, (tt, refl, (refl, tt))), ((((tt, refl), refl), tt), tt)))

strings_run : Told → (weigh : Routine → ℕ) (given : Given) → WeighsUnits weigh → IsFittingHeap (λ i. true) given.heap → HasUnit of_strings →
    RunsAsMeant (λ i. true) weigh given of_strings
strings_run told weigh given weighs heap has = typed_program_runs told fitted (λ i. true) of_strings weigh given weighs heap strings_are_typed strings_have_a_run ((tt, tt), tt) refl (has, tt) (all_true (of_strings ∷ []))

-- let make = proc(int k -> proc( -> int)); proc( -> int); k
-- for i = 1 to 2 do write make(i)()
-- The parameter is kept in the scope of `make`, and the control in a scope of each turn.
abbrev k : List Field
k = record { ty = types.Int; name = codes "k" } ∷ []

abbrev i : List Field
i = record { ty = types.Int; name = codes "i" } ∷ []

abbrev gives_int : TyView
gives_int = types.Proc types.none types.Int

abbrev makes : TyView
makes = types.Proc (types.more types.Int types.none) gives_int

abbrev reads_k : BodyNode
reads_k = body [] types.Int (node.Name (Kept 0 0) types.Int) None line

abbrev make : BodyNode
make = body (record { ty = types.Int; place = Kept 0 0 } ∷ []) gives_int (node.Proc reads_k) (Some (class_text (codes "scope") k)) line

abbrev called : Node
called = node.Call (node.Call (node.Name (Plain 0) makes) (more (node.Name (Kept 0 0) types.Int) none) line) none line

abbrev of_procedures : BodyNode
of_procedures = body [] types.Void (node.Block None (more (node.Let (Plain 0) makes (node.Proc make))
    (more (node.For 0 (num 1) (num 2) (num 1) (Some (class_text (codes "scope") i)) (Kept 0 0)
    (node.Write called node.Empty false types.Int line) line) none))) None line

called_is_typed : IsTyped (record { locals = record { slot = 0; ty = makes } ∷ []; scopes = i ∷ [] }) (record { nums = 3; refs = 1 }) called types.Int
    (record { nums = 3; refs = 1 })
called_is_typed = typed.by_rule (typed.call typed.Arguments.no_more)
    (typed.one_more (typed.by_rule (typed.call (typed.Arguments.one_more typed.Arguments.no_more))
    (typed.one_more (typed.name (inl (refl, refl))) (typed.one_more (typed.name (inl (refl, inl (refl, refl)))) typed.no_more))) typed.no_more)

procedures_are_typed : IsWellTyped of_procedures
procedures_are_typed = (
  refl,
  refl,
  typed.of_params typed.unscoped typed.no_more refl
      (typed.block typed.unscoped (typed.a_literal (typed.as_local refl)
      (typed.literal (typed.of_params typed.scoped (typed.as_kept (codes "k") refl refl typed.no_more) refl
      (typed.literal (typed.of_params typed.unscoped typed.no_more refl (typed.name (inl (refl, inl (refl, refl))))))))
      (typed.a_clause (typed.loop refl typed.scoped (typed.as_kept (codes "i") refl refl) refl
      (typed.one_more (typed.by_rule typed.int typed.no_more) (typed.one_more (typed.by_rule typed.int typed.no_more)
      (typed.one_more (typed.by_rule typed.int typed.no_more) typed.no_more)))
      (typed.by_rule (typed.write refl) (typed.one_more called_is_typed
      (typed.one_more (typed.by_rule typed.empty typed.no_more) typed.no_more))))
      typed.at_end)) refl),
)

k_is_named : IsScopeText (class_text (codes "scope") k)
unfolding is_name_byte
k_is_named =
    record { fields = k; named = record { class = (refl, (refl, (refl, (refl, (refl, tt))))); each = ((refl, tt), tt) }; text_is = refl }

i_is_named : IsScopeText (class_text (codes "scope") i)
unfolding is_name_byte
i_is_named =
    record { fields = i; named = record { class = (refl, (refl, (refl, (refl, (refl, tt))))); each = ((refl, tt), tt) }; text_is = refl }

procedures_have_a_run : BodyRuns [] of_procedures
unfolding k_is_named i_is_named
procedures_have_a_run = (
  tt,
  (
    (tt, (k_is_named, (inl (refl, inl (refl, refl)), tt), (tt, inl (refl, inl (refl, refl))))),
    ((refl, refl, refl, (i_is_named, inl (refl, inl (refl, refl)), (((tt, (inl (refl, inl (refl, refl)), tt)), tt), tt))), tt),
  ),
)

procedures_run : Told → (weigh : Routine → ℕ) (given : Given) → WeighsUnits weigh → IsFittingHeap (λ i. true) given.heap →
    AllByRecursion HasUnit (of_procedures ∷ make ∷ reads_k ∷ []) → RunsAsMeant (λ i. true) weigh given of_procedures
procedures_run told weigh given weighs heap have =
    typed_program_runs told fitted (λ i. true) of_procedures weigh given weighs heap procedures_are_typed procedures_have_a_run ((tt, tt), (((tt, tt), (tt, tt)), ((tt, tt), tt))) refl have (all_true (of_procedures ∷ make ∷ reads_k ∷ []))

-- let n = 3; for i = 1 to n do write i
-- The slots are in another order than the typing rules give: so it is fit, and has no types by the rules.
abbrev turned : Node
turned = node.Block None (more (node.Let (Plain 4) types.Int (num 3))
    (more (node.For 0 (num 1) (node.Name (Plain 4) types.Int) (num 1) None (Plain 3)
    (node.Write (node.Name (Plain 3) types.Int) node.Empty false types.Int line) line) none))

others : (m n : ℕ) → m < n → n ≢ m
others m n low e = absurd (omega (arith, low, e))

turned_fits : IsFitBody [] (of_nothing types.Void turned line)
unfolding row
turned_fits = fit.of_params fit.unscoped fit.no_more
    (fit.block fit.unscoped (fit.a_value refl fit.as_local (fit.by_rule typed.int refl fit.no_more)
    (fit.a_clause (fit.loop fit.unscoped fit.as_local
    (fit.one_more (fit.by_rule typed.int refl fit.no_more) (fit.one_more (fit.name (inl (refl, refl)))
    (fit.one_more (fit.by_rule typed.int refl fit.no_more) fit.no_more)))
    (fit.by_rule (typed.write refl) tt (fit.one_more (fit.name (inl (refl, refl)))
    (fit.one_more (fit.by_rule typed.empty tt fit.no_more) fit.no_more))))
    fit.at_end)))
    (tt, tt)
    (record {
      nums_apart = (
        ((λ e. absurd (omega (arith, e))), ((λ e. absurd (omega (arith, e))), ((λ e. absurd (omega (arith, e))), ((λ e. absurd (omega (arith, e))), tt)))),
        (
          (others 0 1 (omega arith), (others 0 2 (omega arith), (others 0 3 (omega arith), tt))),
          ((others 1 2 (omega arith), (others 1 3 (omega arith), tt)), ((others 2 3 (omega arith), tt), (tt, tt))),
        ),
      );
      nums_in = (omega arith, (omega arith, (omega arith, (omega arith, (omega arith, tt)))));
      refs_apart = tt;
      refs_in = tt;
      few = omega arith;
    })

turned_runs : Told → (weigh : Routine → ℕ) (given : Given) → WeighsUnits weigh → IsFittingHeap (λ i. true) given.heap →
    HasUnit (of_nothing types.Void turned line) → RunsAsMeant (λ i. true) weigh given (of_nothing types.Void turned line)
turned_runs told weigh given weighs heap has =
    let few : slot_count (of_nothing types.Void turned line) ≤ frame_words = omega arith in
    program_runs told (λ i. true) types.Void turned line weigh given weighs heap turned_fits (
      record { fits = record { valued = (tt, tt); slots = few; unit = has }; each_may = each_true (instrs_of (of_nothing types.Void turned line)) },
      ((tt, tt), ((tt, tt, tt, (tt, tt)), tt)),
    )
