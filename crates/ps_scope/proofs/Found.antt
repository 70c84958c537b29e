-- What is found by its name is what the rules of scope look up.
use Rattle.std.proofs.Common.{◌≡◌, ℕ, Bool, true, false, Option, Some, None, is_some, option_map, List, [], ◌∷◌, map, if◌then◌else◌, refl, ap, ◌∙◌}
use Rattle.std.specs.Borrow.{Bor}
use Rattle.std.specs.Str.{bytes_eq}
use Rattle.ps_log.specs.First.{first_named}
use Rattle.ps_typing.specs.Names.{Meaning, lookup, lookup_field}
use Rattle.ps_scope.specs.Content.{declared_of}
use Rattle.ps_scope.specs.Views.{meaning_of, field_of}
use Rattle.ps_scope.specs.declared.declaration.Declaration.{Declaration}
use Rattle.ps_scope.specs.declared.field.Field.{Field}

abbrev meant_by : Declaration → Meaning
meant_by declaration = meaning_of declaration.meaning

pub looked_up : (declarations : List Declaration) (name : List ℕ)
    → option_map meant_by (first_named (λ d. d.name) declarations name) ≡ lookup (map declared_of declarations) name
looked_up [] name = refl
looked_up (d ∷ others) name = by (bytes_eq d.name name) (looked_up others name)
  where
    by : (b : Bool) → option_map meant_by (first_named (λ d. d.name) others name) ≡ lookup (map declared_of others) name
        → option_map meant_by (if b then Some d else first_named (λ d. d.name) others name)
        ≡ (if b then Some (meant_by d) else lookup (map declared_of others) name)
    by true found = refl
    by false found = found

pub field_looked_up : (fields : List Field) (name : List ℕ)
    → option_map field_of (first_named (λ f. f.name) fields name) ≡ lookup_field (map field_of fields) name
field_looked_up [] name = refl
field_looked_up (f ∷ others) name = by (bytes_eq f.name name) (field_looked_up others name)
  where
    by : (b : Bool) → option_map field_of (first_named (λ f. f.name) others name) ≡ lookup_field (map field_of others) name
        → option_map field_of (if b then Some f else first_named (λ f. f.name) others name)
        ≡ (if b then Some (field_of f) else lookup_field (map field_of others) name)
    by true found = refl
    by false found = found

still_some : {A B : Type 0} (f : A → B) (o : Option A) → is_some o ≡ is_some (option_map f o)
still_some f None = refl
still_some f (Some x) = refl

pub is_looked_up : (declarations : List Declaration) (name : List ℕ)
    → is_some (first_named (λ d. d.name) declarations name) ≡ is_some (lookup (map declared_of declarations) name)
is_looked_up declarations name = still_some meant_by (first_named (λ d. d.name) declarations name) ∙ ap is_some (looked_up declarations name)

pub is_field_looked_up : (fields : List Field) (name : List ℕ)
    → is_some (first_named (λ f. f.name) fields name) ≡ is_some (lookup_field (map field_of fields) name)
is_field_looked_up fields name = still_some field_of (first_named (λ f. f.name) fields name) ∙ ap is_some (field_looked_up fields name)

pub behind_loans : (o : Option (Bor Field)) → option_map (λ (f : Bor Field). field_of f.now) o ≡ option_map field_of (option_map (λ (f : Bor Field). f.now) o)
behind_loans None = refl
behind_loans (Some f) = refl
