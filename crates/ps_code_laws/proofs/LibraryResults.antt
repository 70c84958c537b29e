-- The type that the generator takes for what a procedure of the library gives is the one that the library declares.
use Rattle.std.proofs.Common.{◌≡◌, ℕ, Bool, true, false, List, [], ◌∷◌, Option, Some, None, refl, subst, ap}
use Rattle.std.specs.Prelude.{if◌then◌else◌}
use Rattle.std.specs.Str.{bytes_eq}
use Rattle.std.specs.List.{AllByRecursion}
use Rattle.ps_gen.specs.ps_base.TyView.{TyView, TyViews}
use Rattle.ps_typing_laws.specs.ps_typing.Names.{Declared, lookup, plain, library}
use Rattle.ps_typing_laws.specs.ps_typing.Names as names
use Rattle.ps_typing_laws.specs.ps_typing.Library.{procedures}
use Rattle.ps_gen.specs.ps_emitter.Giving.{library_result}

abbrev Says : names.Meaning → Type 0
Says (library (plain code params gives)) = library_result procedures code ≡ gives
Says meaning = Unit {0}

meaning_or : names.Meaning → Option names.Meaning → names.Meaning
meaning_or here None = here
meaning_or here (Some meaning) = meaning

says_where : (here meaning : names.Meaning) (behind : Option names.Meaning) (b : Bool) → Says here → (behind ≡ Some meaning → Says meaning) →
    (if b then Some here else behind) ≡ Some meaning → Says meaning
unfolding meaning_or
says_where here meaning behind true h k e = subst Says (ap (meaning_or here) e) h
says_where here meaning behind false h k e = k e

says : (ds : List Declared) (name : List ℕ) (meaning : names.Meaning) → AllByRecursion (λ (d : Declared). Says d.meaning) ds →
    lookup ds name ≡ Some meaning → Says meaning
says [] name meaning h e = absurd cc
says (d ∷ ds) name meaning h e = says_where d.meaning meaning (lookup ds name) (bytes_eq d.name name) h.0 (λ k. says ds name meaning h.1 k) e

each_says : AllByRecursion (λ (d : Declared). Says d.meaning) procedures
each_says =
    (refl, (refl, (refl, (refl, (refl, (refl, (refl, (refl, (refl, (refl, (refl, (refl, (refl, (tt, (tt, (tt, tt))))))))))))))))

pub result_is : (code : ℕ) (tys : TyViews) (ty : TyView) (name : List ℕ) → lookup procedures name ≡ Some (library (plain code tys ty)) →
    library_result procedures code ≡ ty
result_is code tys ty name found = says procedures name (library (plain code tys ty)) each_says found
