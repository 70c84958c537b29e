-- How many words the objects of a unit have, and how many references its code object.
use Rattle.std.proofs.Common.{◌≡◌, ℕ, zero, suc, ◌+◌, ◌*◌, ◌<◌, ◌≤◌, List, [], ◌∷◌, length, drop, get_or, refl, sym, ap, ◌∙◌, arith, drop-cons}
use Rattle.std.proofs.lemmas.List.{drop_all}
use Rattle.ps_base.specs.List.{items_of}
use Rattle.ps_base.specs.CodeUnit.{UnitView, unit, ConstantView, text, literal, ConstantsView, no_constants, constant_then, constant_view, constants_view, unit_view}
use Rattle.ps_base.proofs.Units.{constant_view-Unit}
use Rattle.std.specs.declared.boxed.Box.{Box}
use Rattle.std.specs.declared.alloc.Global.{Global}
use Rattle.ps_base.specs.declared.code_unit.CodeUnit.{CodeUnit}
use Rattle.ps_base.specs.declared.code_unit.Constant.{Constant, Text, Unit}
use Rattle.ps_base.specs.declared.code_unit.Frame.{Frame}
use Rattle.heap_texts.specs.obj_layout.declared.reference.Reference.{Reference}
use Rattle.heap_texts.specs.swizzle.Objects.{size_of, size_of_all}
use Rattle.heap_texts.proofs.of_swizzle.ObjectLaws.{size_of_all-append}
use Rattle.heap_texts.specs.Texts.{text_nums, text_object}
use Rattle.proc_values.specs.Units.{code_nums, code_object, count_of, unit_objects, constants_objects, constant_objects, constants_places, unit_words, constants_words, constant_words, constant_place, unit_place}

-- The constants from one on.

pub constants_from : (xs : List Constant) (i : ℕ) (x d : Constant) → x ≡ get_or xs i d → i < length xs
    → constants_view (drop i xs) ≡ constant_then (constant_view x) (constants_view (drop (i + 1) xs))
unfolding constants_view
constants_from xs i x d is below =
    let up : suc i ≡ i + 1 = omega arith in
    ap constants_view (drop-cons xs i d below) ∙ ap (λ (k : ℕ). constants_view (get_or xs i d ∷ drop k xs)) up
    ∙ ap (λ (c : Constant). constants_view (c ∷ drop (i + 1) xs)) (sym is)

pub words_then : (c : ConstantView) (cs : ConstantsView) → constants_words (constant_then c cs) ≡ constant_words c + constants_words cs
unfolding constants_words
words_then c cs = refl

pub words_from : (xs : List Constant) (i : ℕ) (x d : Constant) → x ≡ get_or xs i d → i < length xs
    → constants_words (constants_view (drop i xs)) ≡ constant_words (constant_view x) + constants_words (constants_view (drop (i + 1) xs))
words_from xs i x d is below = ap constants_words (constants_from xs i x d is below) ∙ words_then (constant_view x) (constants_view (drop (i + 1) xs))

words_drop-le : (xs : List Constant) (i : ℕ) → constants_words (constants_view (drop i xs)) ≤ constants_words (constants_view xs)
unfolding constants_words constants_view
words_drop-le [] zero = omega arith
words_drop-le [] (suc i) = omega arith
words_drop-le (x ∷ xs) zero = omega arith
words_drop-le (x ∷ xs) (suc i) = omega (arith, words_drop-le xs i)

-- a constant has no more words than all
pub words_at : (xs : List Constant) (i : ℕ) (x d : Constant) → x ≡ get_or xs i d → i < length xs
    → constant_words (constant_view x) ≤ constants_words (constants_view xs)
words_at xs i x d is below = omega (arith, words_from xs i x d is below, words_drop-le xs i)

pub words_none : constants_words (constants_view []) ≡ 0
unfolding constants_words constants_view
words_none = refl

pub count-view : (xs : List Constant) → count_of (constants_view xs) ≡ length xs
unfolding count_of constants_view
count-view [] = refl
count-view (x ∷ xs) = omega (arith, count-view xs)

-- The words of a unit.

pub words_unit : (code : List ℕ) (cs : ConstantsView) (frame : Frame)
    → unit_words (unit code cs frame) ≡ constants_words cs + (4 + count_of cs + code_nums (length code))
unfolding unit_words
words_unit code cs frame = refl

pub words_text : (bytes : List ℕ) → constant_words (text bytes) ≡ 4 + text_nums (length bytes)
unfolding constant_words
words_text bytes = refl

pub words_literal : (u : UnitView) → constant_words (literal u) ≡ unit_words u
unfolding constant_words
words_literal u = refl

-- Each object has its words.

pub length-places : (at : ℕ) (cs : ConstantsView) → length (constants_places at cs) ≡ count_of cs
unfolding constants_places count_of
length-places at no_constants = refl
length-places at (constant_then c cs) = omega (arith, length-places (at + constant_words c) cs)

pub size-text : (bytes : List ℕ) → size_of (text_object bytes) ≡ 4 + text_nums (length bytes)
unfolding text_object
size-text bytes = refl

pub size-code : (code : List ℕ) (frame : Frame) (places : List Reference)
    → size_of (code_object code frame places) ≡ 4 + length places + code_nums (length code)
unfolding code_object
size-code code frame places = refl

mutual
  unfolding unit_objects constants_objects constant_objects unit_words constants_words constant_words

  pub size-unit : (at : ℕ) (u : UnitView) → size_of_all (unit_objects at u) ≡ unit_words u
  size-unit at (unit code cs frame) =
      let last = code_object code frame (constants_places at cs) in
      omega (
        arith,
        size_of_all-append (constants_objects at cs) (last ∷ []),
        size-constants at cs,
        size-code code frame
            (constants_places at cs),
        length-places at cs,
      )

  pub size-constants : (at : ℕ) (cs : ConstantsView) → size_of_all (constants_objects at cs) ≡ constants_words cs
  size-constants at no_constants = refl
  size-constants at (constant_then c cs) =
      let behind = constants_objects (at + constant_words c) cs in
      omega (arith, size_of_all-append (constant_objects at c) behind, size-constant at c, size-constants (at + constant_words c) cs)

  pub size-constant : (at : ℕ) (c : ConstantView) → size_of_all (constant_objects at c) ≡ constant_words c
  size-constant at (text bytes) = omega (arith, size-text bytes)
  size-constant at (literal u) = size-unit at u

-- each constant has five words at least
five : (c : ConstantView) → 5 ≤ constant_words c
unfolding constant_words unit_words
five (text bytes) = omega arith
five (literal (unit code cs frame)) = omega arith

pub count-le : (cs : ConstantsView) → 5 * count_of cs ≤ constants_words cs
unfolding count_of constants_words
count-le no_constants = omega arith
count-le (constant_then c cs) = omega (arith, five c, count-le cs)

-- The view of a constant.

pub view_text : (c : Constant) (bytes : List ℕ) → c ≡ Text bytes → constant_view c ≡ text bytes
unfolding constant_view
view_text c bytes e = ap constant_view e

pub view_unit : (c : Constant) (box : Box CodeUnit Global) (u : CodeUnit) → c ≡ Unit box → u ≡ box.value → constant_view c ≡ literal (unit_view u)
view_unit c box u e f = ap constant_view e ∙ constant_view-Unit box ∙ ap (λ (v : CodeUnit). literal (unit_view v)) (sym f)

-- the view of a unit whose constants are these
pub view_words : (u : CodeUnit) (xs : List Constant) → xs ≡ items_of u.constants
    → unit_words (unit_view u) ≡ constants_words (constants_view xs) + (4 + length xs + code_nums (length u.code))
view_words u xs e =
    let cs = constants_view (items_of u.constants) in
    omega (
      arith,
      words_unit u.code cs u.frame,
      count-view (items_of u.constants),
      ap
          (λ (ys : List Constant). constants_words (constants_view ys)) e,
      ap length e,
    )

pub words_ended : (xs : List Constant) (i words : ℕ) → length xs ≤ i
    → words + constants_words (constants_view (drop i xs)) ≡ constants_words (constants_view xs) → words ≡ constants_words (constants_view xs)
words_ended xs i words h e =
    omega (arith, e, ap (λ (ys : List Constant). constants_words (constants_view ys)) (drop_all i xs h), words_none)

-- Where the code object of a unit lies, among its objects.

pub place_text : (at : ℕ) (c : Constant) (bytes : List ℕ) → c ≡ Text bytes → constant_place at (constant_view c) ≡ at
unfolding constant_place
place_text at c bytes e = ap (constant_place at) (view_text c bytes e)

pub place_unit : (at : ℕ) (c : Constant) (u : CodeUnit) (xs : List Constant) → constant_view c ≡ literal (unit_view u) → xs ≡ items_of u.constants
    → constant_place at (constant_view c) ≡ at + constants_words (constants_view xs)
unfolding constant_place unit_place
place_unit at c u xs e f = ap (constant_place at) e ∙ ap (λ (ys : List Constant). at + constants_words (constants_view ys)) (sym f)

-- the constants of a literal have fewer words than it
pub words_inside : (c : Constant) (u : CodeUnit) (xs : List Constant) → constant_view c ≡ literal (unit_view u) → xs ≡ items_of u.constants
    → constants_words (constants_view xs) ≤ constant_words (constant_view c)
words_inside c u xs e f = omega (arith, ap constant_words e, words_literal (unit_view u), view_words u xs f)
