-- The rows of the library, one after the other.
use Rattle.std.proofs.Common.{◌≡◌, ℕ, ◌+◌, ◌<◌, ◌≤◌, true, false, List, [], ◌∷◌, ◌++◌, length, map, reverse, take, slice_index_or, append_assoc, subst, refl, sym, ap, ◌∙◌}
use Rattle.std.proofs.lemmas.List.{take_more, take_all, map-append, length-map}
use Rattle.std.specs.Prelude.{codes}
use Rattle.std.specs.declared.alloc.Global.{Global}
use Rattle.std.specs.declared.rc.Rc.{Rc}
use Rattle.ps_base.specs.declared.bytes.Bytes.{Bytes}
use Rattle.ps_base.specs.TyView as ty
use Rattle.ps_typing.specs.Library.{procedures, error_class, three}
use Rattle.ps_scope.proofs.Content.{map-reverse}
use Rattle.ps_base.specs.TyView.{TyView, TyViews, more, and_type, ty_view, ty_views}
use Rattle.ps_base.specs.declared.ty.Ty.{Ty}
use Rattle.ps_base.proofs.TyLemmas.{ty_views-append}
use Rattle.ps_typing.specs.Names.{Declared, class, library, scan}
use Rattle.ps_scope.specs.declared.library.Simple.{Simple}
use Rattle.ps_scope.specs.declared.library.Routine.{Routine}
use Rattle.ps_scope.specs.declared.declaration.Declaration.{Declaration}
use Rattle.ps_scope.specs.Content.{declared_of}
use Rattle.ps_scope.specs.inside.Declarations.{simple_view, types_in, declared_routine}

types_in-append : (simple : List Simple) (last : Simple) → types_in (simple ++ last ∷ []) ≡ and_type (types_in simple) (simple_view last)
types_in-append [] last = refl
types_in-append (first ∷ simple) last = ap (λ (ts : TyViews). more (simple_view first) ts) (types_in-append simple last)

-- one type more
pub one_type : (simple : List Simple) (place : ℕ) (d : Simple) (before after : List Ty) (made : Ty) → place < length simple → ty_views before ≡ types_in (take place simple) → after ≡ before ++ made ∷ [] → ty_view made ≡ simple_view (slice_index_or simple place d) → ty_views after ≡ types_in (take (place + 1) simple)
one_type simple place d before after made inside same is one =
    ap ty_views is
    ∙ ty_views-append before made
    ∙ ap (λ ts. and_type ts (ty_view made)) same
    ∙ ap (λ t. and_type (types_in (take place simple)) t) one
    ∙ sym (ap types_in (take_more simple place d inside) ∙ types_in-append (take place simple) (slice_index_or simple place d))

-- one routine more
pub one_routine : (routines : List Routine) (place : ℕ) (d : Routine) (first : List Declared) (before after : List Declaration) (made : Declaration) → place < length routines → map declared_of before ≡ first ++ map declared_routine (take place routines) → after ≡ before ++ made ∷ [] → declared_of made ≡ declared_routine (slice_index_or routines place d) → map declared_of after ≡ first ++ map declared_routine (take (place + 1) routines)
one_routine routines place d first before after made inside same is one =
    ap (map declared_of) is
    ∙ map-append declared_of before (made ∷ [])
    ∙ ap (λ (l : List Declared). l ++ declared_of made ∷ []) same
    ∙ ap (λ x. (first ++ map declared_routine (take place routines)) ++ x ∷ []) one
    ∙ append_assoc first (map declared_routine (take place routines)) (declared_routine (slice_index_or routines place d) ∷ [])
    ∙ sym (ap (λ (l : List Declared). first ++ l) (ap (map declared_routine) (take_more routines place d inside) ∙ map-append declared_routine (take place routines) (slice_index_or routines place d ∷ [])))

-- the names of the library that are no rows, from the outermost to the innermost
abbrev others : List Declared
others =
    record { name = codes "error.record"; meaning = class error_class (three ty.Str ty.Str ty.Str) }
    ∷ record { name = codes "i.scan"; meaning = library (scan false) }
    ∷ record { name = codes "s.scan"; meaning = library (scan true) }
    ∷ []

pub three_first : (none first second all : List Declaration) (a b c : Declaration) (text : Rc Bytes Global) → none ≡ [] → first ≡ none ++ a ∷ [] → second ≡ first ++ b ∷ [] → all ≡ second ++ c ∷ []
    → declared_of a ≡ record { name = codes "error.record"; meaning = class text.value (three ty.Str ty.Str ty.Str) }
    → declared_of b ≡ record { name = codes "i.scan"; meaning = library (scan false) }
    → declared_of c ≡ record { name = codes "s.scan"; meaning = library (scan true) }
    → text.value ≡ error_class → map declared_of all ≡ others
three_first none first second all a b c text empty is_first is_second is_all is_a is_b is_c is_text =
    let items : all ≡ a ∷ b ∷ c ∷ [] = is_all ∙ ap (λ (l : List Declaration). l ++ c ∷ []) (is_second ∙ ap (λ (l : List Declaration). l ++ b ∷ []) (is_first ∙ ap (λ (l : List Declaration). l ++ a ∷ []) empty)) in
    ap (map declared_of) items
    ∙ ap (λ (d : Declared). d ∷ declared_of b ∷ declared_of c ∷ []) (is_a ∙ ap (λ (t : List ℕ). record { name = codes "error.record"; meaning = class t (three ty.Str ty.Str ty.Str) }) is_text)
    ∙ ap (λ (d : Declared). record { name = codes "error.record"; meaning = class error_class (three ty.Str ty.Str ty.Str) } ∷ d ∷ declared_of c ∷ []) is_b
    ∙ ap (λ (d : Declared). record { name = codes "error.record"; meaning = class error_class (three ty.Str ty.Str ty.Str) } ∷ record { name = codes "i.scan"; meaning = library (scan false) } ∷ d ∷ []) is_c

pub all_rows : (made first : List Declaration) (rows : List Routine) (place : ℕ) → map declared_of first ≡ others → map declared_of made ≡ map declared_of first ++ map declared_routine (take place rows) → map declared_routine rows ≡ reverse (take 13 procedures) → 13 ≤ place → map declared_of (reverse made) ≡ procedures
all_rows made first rows place is_first is_made is_rows past =
    map-reverse declared_of made
    ∙ ap reverse (is_made ∙ ap (λ (l : List Declared). l ++ map declared_routine (take place rows)) is_first
    ∙ ap (λ (l : List Declared). others ++ l) (ap (map declared_routine) (take_all place rows (subst (λ n. n ≤ place) (sym (sym (length-map rows declared_routine) ∙ ap length is_rows)) past)) ∙ is_rows))
