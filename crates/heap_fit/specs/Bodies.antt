-- Which bodies are fit for the scopes round them: they have types, each name lies in a place of its own, whichever it is, and what is named is in scope.
use Rattle.std.specs.Prelude.{◌≡◌, ◌≢◌, ℕ, ◌+◌, ◌<◌, ◌≤◌, true, false, if◌then◌else◌, Option, Some, None, List, [], ◌∷◌, codes, length}
use Rattle.std.specs.List.{AllByRecursion}
use Rattle.ps_heap.specs.ps_base.TyView.{TyView}
use Rattle.ps_heap.specs.ps_base.TyView as types
use Rattle.ps_heap.specs.ps_base.Limits.{most_slots}
use Rattle.ps_heap.specs.ps_base.declared.line.Line.{Line}
use Rattle.ps_soundness.specs.ps_program.declared.place.Place.{Place}
use Rattle.ps_soundness.specs.ps_program.declared.place.Place.TheVariants.{Plain, Kept}
use Rattle.ps_soundness.specs.ps_program.Node.{Param, Node, Nodes, none, more, BodyNode, body}
use Rattle.ps_soundness.specs.ps_program.Node as node
use Rattle.ps_soundness.specs.ps_program.Slots.{slot_count}
use Rattle.ps_soundness.specs.ps_type_text.Texts.{Field, class_text, IsNamed}
use Rattle.ps_soundness.specs.ps_typing.Checking.{isnt_void}
use Rattle.ps_soundness.specs.ps_typing.Library.{caller}
use Rattle.ps_soundness.specs.ps_typing.Placing.{is_number}
use Rattle.ps_soundness.specs.ps_typing.WellTyped.{At, Some_is, Local, IsLocal, IsOfType, Claim, ◌has◌, Rule, types_of_params}
use Rattle.ps_heap.specs.Operators.{is_int}
use Rattle.ps_heap.specs.Texts.{is_string}
use Rattle.ps_soundness.specs.Running.{IsClassText, HasField, HasAsMany}
use Rattle.ps_soundness.specs.Valued.{IsValued}
use Rattle.ps_heap.specs.Held.{row}
use Rattle.ps_heap.specs.reaching.Reaching.{IsIn}
use Rattle.heap_fit.specs.Slots.{slots_of}

-- a scope round a clause: its names, and the positions of those whose declarations came before the clause
pub record Level : Type 0 where
  pub names : List Field
  pub declared : List ℕ

-- a scope that was made elsewhere: all of its names are in scope
abbrev pub whole : List Field → Level
whole names = record { names = names; declared = row (λ position. position) 0 (length names) }

-- what is in scope where a clause stands: the locals, and the scopes, innermost first
pub record InScope : Type 0 where
  pub locals : List Local
  pub levels : List Level

abbrev pub HasDeclared : ℕ → TyView → Level → Type 0
HasDeclared position ty level = At (IsOfType ty) level.names position × IsIn position level.declared

-- the name at this place is in scope and has this type
abbrev pub IsNameAt : InScope → Place → TyView → Type 0
IsNameAt env (Plain slot) ty = Some_is (IsLocal slot ty) env.locals
IsNameAt env (Kept up position) ty = At (HasDeclared position ty) env.levels up

abbrev pub with_local : ℕ → TyView → InScope → InScope
with_local slot ty env = record env { locals = record { slot = slot; ty = ty } ∷ env.locals }

abbrev pub with_levels : List Level → InScope → InScope
with_levels levels env = record env { levels = levels }

-- A name that is declared at this place is in scope afterwards. Where what declares it has a scope of its own, which is the innermost, that may keep it, as a
-- name of the type that its text says.
pub data Declares : Option (List ℕ) → InScope → Place → TyView → InScope → Type 0 where
  as_local : {own : Option (List ℕ)} {env : InScope} {slot : ℕ} {ty : TyView} → Declares own env (Plain slot) ty (with_local slot ty env)
  as_kept : {text : List ℕ} {env : InScope} {position : ℕ} {ty : TyView} (level : Level) (around : List Level) →
      env.levels ≡ level ∷ around → At (IsOfType ty) level.names position →
      Declares (Some text) env (Kept 0 position) ty (with_levels (record level { declared = position ∷ level.declared } ∷ around) env)

-- the scopes inside a clause that has a scope of this text, or none: at first none of its names is in scope
pub data Opens : Option (List ℕ) → List Level → List Level → Type 0 where
  unscoped : {around : List Level} → Opens None around around
  scoped : {around : List Level} {first : Field} {rest : List Field} → IsNamed (codes "scope") (first ∷ rest) →
      Opens (Some (class_text (codes "scope") (first ∷ rest))) around (record { names = first ∷ rest; declared = [] } ∷ around)

-- What a clause names by itself: an int, a string, a class whose name and fields have names of a text, and types of which there are values. The class has the
-- field that is named, and as many fields as a clause gives values: where names may be any bytes, its text can be read as that of other classes too.
abbrev pub NamesWell : Node → Type 0
NamesWell (node.Int value) = is_int value ≡ true
NamesWell (node.Text bytes) = is_string bytes ≡ true
NamesWell (node.Is e class) = IsClassText class
NamesWell (node.Make class args) = HasAsMany class args
NamesWell (node.Field e class index ty line) = HasField class index ty
NamesWell (node.SetField p class index ty e line) = HasField class index ty
NamesWell (node.Fill l u e ty line) = IsValued ty
NamesWell (node.Elems l items ty line) = IsValued ty
NamesWell _ = Unit {0}

-- The parameters stand in the first locals of each stack, in their order; those that the scope of the body keeps too.
pub data Takes : Option (List ℕ) → InScope → (nums refs : ℕ) → List Param → InScope → Type 0 where
  no_more : {own : Option (List ℕ)} {env : InScope} {nums refs : ℕ} → Takes own env nums refs [] env
  as_local : {own : Option (List ℕ)} {env last : InScope} {nums refs slot : ℕ} {ty : TyView} {rest : List Param} →
      slot ≡ (if is_number ty then nums else refs) →
      Takes own (with_local slot ty env) (if is_number ty then nums + 1 else nums) (if is_number ty then refs else refs + 1) rest last →
      Takes own env nums refs (record { ty = ty; place = Plain slot } ∷ rest) last
  as_kept : {own : Option (List ℕ)} {env with_name last : InScope} {nums refs up position : ℕ} {ty : TyView} {rest : List Param} →
      Declares own env (Kept up position) ty with_name →
      Takes own with_name (if is_number ty then nums + 1 else nums) (if is_number ty then refs else refs + 1) rest last →
      Takes own env nums refs (record { ty = ty; place = Kept up position } ∷ rest) last

-- no number stands twice
abbrev pub AreApart : List ℕ → Type 0
AreApart [] = Unit {0}
AreApart (x ∷ xs) = AllByRecursion (λ y. y ≢ x) xs × AreApart xs

-- On each stack each slot is that of one name, of one loop or of one scan, and lies in the frame, which has as many locals as these take.
pub record HasSlots (of : BodyNode) : Type 0 where
  pub nums_apart : AreApart (slots_of true of)
  pub nums_in : AllByRecursion (λ slot. slot < length (slots_of true of)) (slots_of true of)
  pub refs_apart : AreApart (slots_of false of)
  pub refs_in : AllByRecursion (λ slot. slot < length (slots_of false of)) (slots_of false of)
  pub few : slot_count of ≤ most_slots

mutual
  -- a clause with what is in scope
  pub data IsFit : InScope → Node → TyView → Type 0 where
    by_rule : {env : InScope} {clause : Node} {claims : List Claim} {ty : TyView} → Rule clause claims ty → NamesWell clause → AreFit env claims → IsFit env clause ty
    name : {env : InScope} {place : Place} {ty : TyView} → IsNameAt env place ty → IsFit env (node.Name place ty) ty
    set_name : {env : InScope} {place : Place} {ty : TyView} {e : Node} → IsNameAt env place ty → IsFit env e ty → IsFit env (node.SetName place ty e) types.Void
    block : {env last : InScope} {scope : Option (List ℕ)} {inside : List Level} {items : Nodes} {ty : TyView} →
        Opens scope env.levels inside → AreItems scope (with_levels inside env) types.Void items ty last → IsFit env (node.Block scope items) ty
    -- the control is in scope in what is repeated alone
    loop : {env own : InScope} {slot : ℕ} {a b c s : Node} {scope : Option (List ℕ)} {inside : List Level} {control : Place} {line : Line} →
        Opens scope env.levels inside → Declares scope (with_levels inside env) control types.Int own →
        AreFit env (a has types.Int ∷ b has types.Int ∷ c has types.Int ∷ []) → IsFit own s types.Void →
        IsFit env (node.For slot a b c scope control s line) types.Void
    scan : {env : InScope} {string : _} {a f : Node} {q s : ℕ} {line : Line} →
        AreFit env (a has types.Pntr ∷ f has caller (if string then types.Str else types.Int) ∷ []) → IsFit env (node.Scan string a f q s line) types.Int
    literal : {env : InScope} {params : List Param} {gives : TyView} {tree : Node} {scope : Option (List ℕ)} {line : Line} →
        IsFitBody env.levels (body params gives tree scope line) →
        IsFit env (node.Proc (body params gives tree scope line)) (types.Proc (types_of_params params) gives)

  pub data AreFit : InScope → List Claim → Type 0 where
    no_more : {env : InScope} → AreFit env []
    one_more : {env : InScope} {clause : Node} {ty : TyView} {rest : List Claim} → IsFit env clause ty → AreFit env rest → AreFit env (clause has ty ∷ rest)

  -- The items of a sequence, which may have a scope of its own, after an item of this type, and what is in scope at the end: each but the last is void. A `Let`
  -- is an item. The name of a literal is in scope inside it, any other name after its initial clause.
  pub data AreItems : Option (List ℕ) → InScope → TyView → Nodes → TyView → InScope → Type 0 where
    at_end : {scope : Option (List ℕ)} {env : InScope} {ty : TyView} → AreItems scope env ty none ty env
    a_clause : {scope : Option (List ℕ)} {env last : InScope} {item : Node} {rest : Nodes} {of ty : TyView} →
        IsFit env item of → AreItems scope env of rest ty last → AreItems scope env types.Void (more item rest) ty last
    a_value : {scope : Option (List ℕ)} {env own last : InScope} {place : Place} {e : Node} {rest : Nodes} {of ty : TyView} →
        isnt_void of ≡ true → Declares scope env place of own → IsFit env e of → AreItems scope own types.Void rest ty last →
        AreItems scope env types.Void (more (node.Let place of e) rest) ty last
    a_literal : {scope : Option (List ℕ)} {env own last : InScope} {place : Place} {procedure : BodyNode} {rest : Nodes} {of ty : TyView} →
        Declares scope env place of own → IsFit own (node.Proc procedure) of → AreItems scope own types.Void rest ty last →
        AreItems scope env types.Void (more (node.Let place of (node.Proc procedure)) rest) ty last

  -- a body inside these scopes: it has locals of its own, and takes and gives values
  pub data IsFitBody : List Level → BodyNode → Type 0 where
    of_params : {around inside : List Level} {params : List Param} {gives : TyView} {tree : Node} {scope : Option (List ℕ)} {line : Line} {env : InScope} →
        Opens scope around inside → Takes scope (record { locals = []; levels = inside }) 0 0 params env → IsFit env tree gives →
        IsValued (types.Proc (types_of_params params) gives) → HasSlots (body params gives tree scope line) → IsFitBody around (body params gives tree scope line)
