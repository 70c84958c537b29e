-- A typed tree whose names are told by their numbers, before they have places.
use Rattle.std.proofs.Common.{◌≡◌, ℕ, ◌+◌, ◌≤◌, Bool, true, List, [], ◌∷◌, arith}
use Rattle.std.specs.Prelude.{None, if◌then◌else◌}
use Rattle.ps_typing.specs.ps_base.TyView.{TyView}
use Rattle.ps_typing.specs.ps_base.TyView as types
use Rattle.ps_typing.specs.ps_base.declared.line.Line.{Line}
use Rattle.ps_typing.specs.ps_program.declared.place.Place.TheVariants.{Plain}
use Rattle.ps_typing.specs.ps_program.Node.{Param, Node, Nodes, none, more, BodyNode, body}
use Rattle.ps_typing.specs.ps_program.Node as node
use Rattle.ps_typing.specs.ps_type_text.Texts.{Field}
use Rattle.ps_typing.specs.Checking.{isnt_void}
use Rattle.ps_typing.specs.Library.{caller}
use Rattle.ps_typing.specs.Placing.{field_at}
use Rattle.ps_typing.specs.WellTyped.{Some_is, Claim, ◌has◌, Rule, types_of_params}

-- a local in scope: its number, its type, and inside how many literals it is declared
pub record Entry : Type 0 where
  pub number : ℕ
  pub ty : TyView
  pub depth : ℕ

abbrev pub entry : ℕ → TyView → ℕ → Entry
entry number ty depth = record { number = number; ty = ty; depth = depth }

abbrev pub IsEntry : ℕ → TyView → ℕ → Entry → Type 0
IsEntry number ty depth e = (e.number ≡ number) × (e.ty ≡ ty) × (e.depth ≡ depth)

-- a local with this number is in scope
abbrev pub IsIn : List Entry → ℕ → TyView → ℕ → Type 0
IsIn scope number ty depth = Some_is (IsEntry number ty depth) scope

abbrev pub HasType : List Field → ℕ → TyView → Type 0
HasType names number ty = (field_at names number).ty ≡ ty

pub data Params (names : List Field) : List Entry → ℕ → ℕ → List Param → List Entry → ℕ → Type 0 where
  no_params : {scope : List Entry} {depth n : ℕ} → Params names scope depth n [] scope n
  a_param : {scope last : List Entry} {depth n n' : ℕ} {ty : TyView} {rest : List Param} → HasType names n ty →
      Params names (entry n ty depth ∷ scope) depth (n + 1) rest last n' → Params names scope depth n (record { ty = ty; place = Plain n } ∷ rest) last n'

mutual
  -- a clause inside so many literals, and the next numbers before it and after it
  pub data Numbered (names : List Field) : List Entry → ℕ → ℕ → Node → TyView → ℕ → Type 0 where
    by_rule : {scope : List Entry} {depth n n' : ℕ} {clause : Node} {claims : List Claim} {ty : TyView} → Rule clause claims ty →
        AllNumbered names scope depth n claims n' → Numbered names scope depth n clause ty n'
    name : {scope : List Entry} {depth n k d : ℕ} {ty : TyView} → IsIn scope k ty d → d ≤ depth → Numbered names scope depth n (node.Name (Plain k) ty) ty n
    set_name : {scope : List Entry} {depth n n' k d : ℕ} {ty : TyView} {e : Node} → IsIn scope k ty d → d ≤ depth → Numbered names scope depth n e ty n' →
        Numbered names scope depth n (node.SetName (Plain k) ty e) types.Void n'
    block : {scope : List Entry} {depth n n' : ℕ} {items : Nodes} {ty : TyView} → ItemsNumbered names scope depth n types.Void items ty n' →
        Numbered names scope depth n (node.Block None items) ty n'
    loop : {scope : List Entry} {depth n k n' : ℕ} {a b c s : Node} {line : Line} →
        AllNumbered names scope depth n (a has types.Int ∷ b has types.Int ∷ c has types.Int ∷ []) k → HasType names k types.Int →
        Numbered names (entry k types.Int depth ∷ scope) depth (k + 1) s types.Void n' →
        Numbered names scope depth n (node.For 0 a b c None (Plain k) s line) types.Void n'
    scan : {scope : List Entry} {depth n n' : ℕ} {string : Bool} {a f : Node} {line : Line} →
        AllNumbered names scope depth n (a has types.Pntr ∷ f has caller (if string then types.Str else types.Int) ∷ []) n' →
        Numbered names scope depth n (node.Scan string a f 0 0 line) types.Int n'
    literal : {scope own : List Entry} {depth n m n' : ℕ} {params : List Param} {gives : TyView} {tree : Node} {line : Line} →
        Params names scope (depth + 1) n params own m → Numbered names own (depth + 1) m tree gives n' →
        Numbered names scope depth n (node.Proc (body params gives tree None line)) (types.Proc (types_of_params params) gives) n'

  pub data AllNumbered (names : List Field) : List Entry → ℕ → ℕ → List Claim → ℕ → Type 0 where
    no_more : {scope : List Entry} {depth n : ℕ} → AllNumbered names scope depth n [] n
    one_more : {scope : List Entry} {depth n m n' : ℕ} {clause : Node} {ty : TyView} {rest : List Claim} →
        Numbered names scope depth n clause ty m → AllNumbered names scope depth m rest n' → AllNumbered names scope depth n (clause has ty ∷ rest) n'

  pub data ItemsNumbered (names : List Field) : List Entry → ℕ → ℕ → TyView → Nodes → TyView → ℕ → Type 0 where
    at_end : {scope : List Entry} {depth n : ℕ} {ty : TyView} → ItemsNumbered names scope depth n ty none ty n
    a_clause : {scope : List Entry} {depth n m n' : ℕ} {item : Node} {rest : Nodes} {of ty : TyView} →
        Numbered names scope depth n item of m → ItemsNumbered names scope depth m of rest ty n' →
        ItemsNumbered names scope depth n types.Void (more item rest) ty n'
    a_value : {scope : List Entry} {depth n k n' : ℕ} {e : Node} {rest : Nodes} {of ty : TyView} → isnt_void of ≡ true →
        Numbered names scope depth n e of k → HasType names k of → ItemsNumbered names (entry k of depth ∷ scope) depth (k + 1) types.Void rest ty n' →
        ItemsNumbered names scope depth n types.Void (more (node.Let (Plain k) of e) rest) ty n'
    a_literal : {scope : List Entry} {depth k m n' : ℕ} {procedure : BodyNode} {rest : Nodes} {of ty : TyView} → HasType names k of →
        Numbered names (entry k of depth ∷ scope) depth (k + 1) (node.Proc procedure) of m →
        ItemsNumbered names (entry k of depth ∷ scope) depth m types.Void rest ty n' →
        ItemsNumbered names scope depth k types.Void (more (node.Let (Plain k) of (node.Proc procedure)) rest) ty n'

pub params_grow : {names : List Field} {scope own : List Entry} {depth n m : ℕ} {params : List Param} → Params names scope depth n params own m → n ≤ m
params_grow no_params = omega arith
params_grow (a_param is rest) = let h = params_grow rest in omega arith

mutual
  pub grows : {names : List Field} {scope : List Entry} {depth n m : ℕ} {tree : Node} {ty : TyView} → Numbered names scope depth n tree ty m → n ≤ m
  grows (by_rule rule claims) = all_grow claims
  grows (name is below) = omega arith
  grows (set_name is below e) = grows e
  grows (block items) = items_grow items
  grows (loop claims is s) = let h = all_grow claims in let k = grows s in omega arith
  grows (scan claims) = all_grow claims
  grows (literal params s) = let h = params_grow params in let k = grows s in omega arith

  pub all_grow : {names : List Field} {scope : List Entry} {depth n m : ℕ} {claims : List Claim} → AllNumbered names scope depth n claims m → n ≤ m
  all_grow no_more = omega arith
  all_grow (one_more first rest) = let h = grows first in let k = all_grow rest in omega arith

  pub items_grow : {names : List Field} {scope : List Entry} {depth n m : ℕ} {before ty : TyView} {items : Nodes} →
      ItemsNumbered names scope depth n before items ty m → n ≤ m
  items_grow at_end = omega arith
  items_grow (a_clause first rest) = let h = grows first in let k = items_grow rest in omega arith
  items_grow (a_value isnt e is rest) = let h = grows e in let k = items_grow rest in omega arith
  items_grow (a_literal is e rest) = let h = grows e in let k = items_grow rest in omega arith
