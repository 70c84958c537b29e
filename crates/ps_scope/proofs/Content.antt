-- The names of a scope, which lie from the outermost to the innermost.
use Rattle.std.proofs.Common.{◌≡◌, ℕ, take, drop, List, [], ◌∷◌, ◌++◌, length, map, reverse, refl, sym, ap, ◌∙◌}
use Rattle.std.proofs.Math.Seq.{take-length, drop-length, take-append_seam, drop-append_seam}
use Rattle.std.proofs.lemmas.List.{reverse-append, reverse-reverse, length-reverse, take-append-drop, map-append, take-map, drop-map}
use Rattle.ps_type_text.specs.Members.{fields_of}
use Rattle.ps_type_text.specs.declared.classes.Member.{Member}
use Rattle.ps_typing.specs.Names.{Names, Declared, FieldOf, inside}
use Rattle.ps_scope.specs.Content.{Content, declared_of, names_of}
use Rattle.ps_scope.specs.Views.{field_of}
use Rattle.ps_scope.specs.declared.declaration.Declaration.{Declaration}
use Rattle.ps_scope.specs.declared.field.Field.{Field}

module _ {A B : Type 0} (f : A → B) where
  pub map-reverse : (xs : List A) → map f (reverse xs) ≡ reverse (map f xs)
  map-reverse [] = refl
  map-reverse (x ∷ xs) =
      ap (map f) (reverse-append (x ∷ []) xs) ∙ map-append f (reverse xs) (x ∷ []) ∙ ap (λ (l : List B). l ++ f x ∷ []) (map-reverse xs) ∙ sym (reverse-append (f x ∷ []) (map f xs))

  -- those of the block and those around it are all
  pub halves_reversed : (n : ℕ) (xs : List A) → map f (reverse (drop n xs)) ++ map f (reverse (take n xs)) ≡ map f (reverse xs)
  halves_reversed n xs = sym (map-append f (reverse (drop n xs)) (reverse (take n xs))) ∙ ap (map f) (sym (reverse-append (take n xs) (drop n xs)) ∙ ap reverse (take-append-drop n xs))

  -- where a block begins it has none, and all are around
  pub entered_here : (n : ℕ) (xs : List A) → n ≡ length xs → map f (reverse (drop n xs)) ≡ []
  entered_here n xs at = ap (λ (ys : List A). map f (reverse ys)) (ap (λ k. drop k xs) at ∙ drop-length xs)

  pub entered_around : (n block : ℕ) (xs : List A) → n ≡ length xs → map f (reverse (take n xs)) ≡ map f (reverse (drop block xs)) ++ map f (reverse (take block xs))
  entered_around n block xs at = ap (λ (ys : List A). map f (reverse ys)) (ap (λ k. take k xs) at ∙ take-length xs) ∙ sym (halves_reversed block xs)

  -- where a block has ended, those around it are parted as they were before it
  module _ (xs : List A) (k : ℕ) (here around : List B) (is : map f (reverse xs) ≡ here ++ around) (at : k ≡ length around) where
    whole : map f xs ≡ reverse around ++ reverse here
    whole = sym (reverse-reverse (map f xs)) ∙ ap reverse (sym (map-reverse xs) ∙ is) ∙ reverse-append here around

    place : k ≡ length (reverse around)
    place = at ∙ sym (length-reverse around)

    pub left_here : map f (reverse (drop k xs)) ≡ here
    left_here = map-reverse (drop k xs) ∙ ap reverse (sym (drop-map f k xs) ∙ ap (drop k) whole ∙ ap (λ n. drop n (reverse around ++ reverse here)) place ∙ drop-append_seam (reverse around) (reverse here)) ∙ reverse-reverse here

    pub left_around : map f (reverse (take k xs)) ≡ around
    left_around = map-reverse (take k xs) ∙ ap reverse (sym (take-map f k xs) ∙ ap (take k) whole ∙ ap (λ n. take n (reverse around ++ reverse here)) place ∙ take-append_seam (reverse around) (reverse here)) ∙ reverse-reverse around

abbrev pub content_of : List Declaration → List Field → List Member → ℕ → ℕ → Content
content_of names fields locals names_around fields_around = record { names = names; names_around = names_around; fields = fields; fields_around = fields_around; locals = locals }

abbrev names_with : List Declared → List Declared → List FieldOf → List FieldOf → List Member → Names
names_with here around fields_here fields_around locals = record { here = here; around = around; fields_here = fields_here; fields_around = fields_around; all = fields_of locals }

pub entered : (names : List Declaration) (fields : List Field) (locals : List Member) (block fields_block n m : ℕ) → n ≡ length names → m ≡ length fields
    → names_of (content_of names fields locals n m) ≡ inside (names_of (content_of names fields locals block fields_block))
entered names fields locals block fields_block n m at fields_at =
    ap (λ (h : List Declared). names_with h (map declared_of (reverse (take n names))) (map field_of (reverse (drop m fields))) (map field_of (reverse (take m fields))) locals) (entered_here declared_of n names at)
    ∙ ap (λ (a : List Declared). names_with [] a (map field_of (reverse (drop m fields))) (map field_of (reverse (take m fields))) locals) (entered_around declared_of n block names at)
    ∙ ap (λ (h : List FieldOf). names_with [] (map declared_of (reverse (drop block names)) ++ map declared_of (reverse (take block names))) h (map field_of (reverse (take m fields))) locals) (entered_here field_of m fields fields_at)
    ∙ ap (λ (a : List FieldOf). names_with [] (map declared_of (reverse (drop block names)) ++ map declared_of (reverse (take block names))) [] a locals) (entered_around field_of m fields_block fields fields_at)

pub left : (names : List Declaration) (fields : List Field) (locals : List Member) (k m : ℕ) (before : Names) → map declared_of (reverse names) ≡ before.here ++ before.around → map field_of (reverse fields) ≡ before.fields_here ++ before.fields_around
    → k ≡ length before.around → m ≡ length before.fields_around → names_of (content_of names fields locals k m) ≡ record before { all = fields_of locals }
left names fields locals k m before is fields_are at fields_at =
    ap (λ (h : List Declared). names_with h (map declared_of (reverse (take k names))) (map field_of (reverse (drop m fields))) (map field_of (reverse (take m fields))) locals) (left_here declared_of names k before.here before.around is at)
    ∙ ap (λ (a : List Declared). names_with before.here a (map field_of (reverse (drop m fields))) (map field_of (reverse (take m fields))) locals) (left_around declared_of names k before.here before.around is at)
    ∙ ap (λ (h : List FieldOf). names_with before.here before.around h (map field_of (reverse (take m fields))) locals) (left_here field_of fields m before.fields_here before.fields_around fields_are fields_at)
    ∙ ap (λ (a : List FieldOf). names_with before.here before.around before.fields_here a locals) (left_around field_of fields m before.fields_here before.fields_around fields_are fields_at)
