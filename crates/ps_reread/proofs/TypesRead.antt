-- A type, and groups, as they are laid out are read as they were.
use Rattle.std.proofs.Common.{◌≡◌, ℕ, ◌+◌, List, [], ◌∷◌, ◌++◌, Bool, true, false, Option, Some, None, is_some, option_map, refl, sym, subst, ap, ◌∙◌}
use Rattle.std.proofs.lemmas.List.{append-nil, append_assoc}
use Rattle.ps_layout.specs.ps_base.TyView.{TyView, TyViews, and_type}
use Rattle.ps_layout.specs.ps_base.TyView as ty
use Rattle.ps_parse.specs.ps_scan.Tokens.{line_of}
use Rattle.ps_parse.specs.ps_scan.declared.mark.TheConstants as mark
use Rattle.ps_layout.specs.ps_symbols.declared.kind.Kind.{Kind}
use Rattle.ps_layout.specs.ps_symbols.declared.kind.Kind.TheVariants as kind
use Rattle.ps_layout.specs.ps_symbols.declared.symbol.Symbol.{Symbol}
use Rattle.ps_layout.specs.ps_symbols.Kinds.{begins_type, type_start_of}
use Rattle.ps_layout.specs.ps_tree.Phrase.{GroupAt}
use Rattle.ps_parse.specs.ps_reader.Grammar.{Made, a_type, all_types, all_groups, Rule, Give, Go, Type_, a_type_inside, typed_as, Parameters, MoreGroups, Result, ParameterTypes, MoreTypes, inside, name_at, parameters, parameter_types, more_types, more_groups, result}
use Rattle.ps_parse.specs.ps_reader.Reading.{kind_at, Reads, gives, takes, goes, opens, joins}
use Rattle.ps_layout.specs.Lexemes.{Gap, nothing, blank, Lexeme}
use Rattle.ps_layout.specs.Layout.{the_mark, name_lexeme, type_lexemes, types_lexemes, more_types_lexemes, behind_arrow, groups_lexemes, more_groups_lexemes, close_round}
use Rattle.ps_reread.specs.Bare.{bare_group, bare_groups}
use Rattle.ps_reread.proofs.Canonical.{IsType, AreTypes, IsResult, AreGroups}
use Rattle.ps_reread.proofs.Canonical as is
use Rattle.ps_reread.proofs.Standing.{Stands, cut}
use Rattle.ps_reread.proofs.Heads.{head, ended}

-- what stands after the types between brackets: an arrow or a closing bracket
pub data ClosesTypes : Kind → Type 0 where
  arrow : {k : Kind} → k ≡ kind.Arrow → ClosesTypes k
  round : {k : Kind} → k ≡ kind.CloseRound → ClosesTypes k

abbrev pub append_types : TyViews → TyViews → TyViews
append_types ty.none behind = behind
append_types (ty.more first rest) behind = ty.more first (append_types rest behind)

types_again : (before : TyViews) (one : TyView) (rest : TyViews) → append_types (and_type before one) rest ≡ append_types before (ty.more one rest)
types_again ty.none one rest = refl
types_again (ty.more first before) one rest = ap (λ (ts : TyViews). ty.more first ts) (types_again before one rest)

types_whole : (types : TyViews) → append_types types ty.none ≡ types
types_whole ty.none = refl
types_whole (ty.more first rest) = ap (λ (ts : TyViews). ty.more first ts) (types_whole rest)

no_more_types : {k : Kind} (before : TyViews) → ClosesTypes k → more_types before k ≡ Give (all_types before)
no_more_types before (arrow is) = ap (λ (k : Kind). more_types before k) is
no_more_types before (round is) = ap (λ (k : Kind). more_types before k) is

no_type : {k : Kind} → ClosesTypes k → begins_type k ≡ false
no_type (arrow is) = ap begins_type is
no_type (round is) = ap begins_type is

is_shown : {room : ℕ} {t : TyView} (shown : List Lexeme) → IsType room t → behind_arrow t shown ≡ the_mark blank mark.ARROW ∷ shown
is_shown shown is.int = refl
is_shown shown is.bool = refl
is_shown shown is.str = refl
is_shown shown is.pntr = refl
is_shown shown (is.vector e) = refl
is_shown shown (is.proc ps g) = refl

some_mapped : {A B : Type 0} (f : A → B) (o : Option A) {b : B} → option_map f o ≡ Some b → is_some o ≡ true
some_mapped f (Some a) is = refl
some_mapped f None is = absurd (cc)

some_start : (k : Kind) {rule : Rule} → option_map typed_as (type_start_of k) ≡ Some rule → begins_type k ≡ true
some_start k {rule} is = some_mapped typed_as (type_start_of k) is

module _ {text : List ℕ} {symbols : List Symbol} where
  pub gives_at : {room from to : ℕ} {made : Made} → from ≡ to → Reads text symbols room (Give made) from made to
  gives_at {room} {from} {to} {made} same = subst (λ (p : ℕ). Reads text symbols room (Give made) from made p) same gives

  pub made_as : {room from to : ℕ} {rule : Rule} {one other : Made} → one ≡ other → Reads text symbols room rule from one to → Reads text symbols room rule from other to
  made_as {room} {from} {to} {rule} same = subst (λ (m : Made). Reads text symbols room rule from m to) same

  pub reads_at : {room from other to : ℕ} {rule : Rule} {made : Made} → from ≡ other → Reads text symbols room rule other made to → Reads text symbols room rule from made to
  reads_at {room} {from} {other} {to} {rule} {made} same = subst (λ (p : ℕ). Reads text symbols room rule p made to) (sym same)

  starts_type : {room from to : ℕ} {made : Made} → Reads text symbols room Type_ from made to → begins_type (kind_at symbols from) ≡ true
  starts_type {from = from} (opens is more) = some_start (kind_at symbols from) is

  mutual
    pub type_reads : {room : ℕ} {t : TyView} → IsType room t → (gap : Gap) (from to : ℕ) → Stands text symbols from (type_lexemes gap t) to → Reads text symbols room Type_ from (a_type t) to
    type_reads is.int gap from to st = let h = head st in opens (ap (λ (k : Kind). inside text a_type_inside k) h.kind) (takes h.here h.is (gives_at (ended h.more)))
    type_reads is.bool gap from to st = let h = head st in opens (ap (λ (k : Kind). inside text a_type_inside k) h.kind) (takes h.here h.is (gives_at (ended h.more)))
    type_reads is.str gap from to st = let h = head st in opens (ap (λ (k : Kind). inside text a_type_inside k) h.kind) (takes h.here h.is (gives_at (ended h.more)))
    type_reads is.pntr gap from to st = let h = head st in opens (ap (λ (k : Kind). inside text a_type_inside k) h.kind) (takes h.here h.is (gives_at (ended h.more)))
    type_reads (is.vector e) gap from to st =
        let h = head st in
        opens (ap (λ (k : Kind). inside text a_type_inside k) h.kind) (takes h.here h.is (joins (type_reads e nothing (from + 1) to h.more) gives))
    type_reads (is.proc {parameters = ps} {gives = g} are is) gap from to st =
        let h = head st in
        let b = head h.more in
        let c = cut (types_lexemes nothing ps ++ behind_arrow g (type_lexemes blank g)) (close_round ∷ []) b.more in
        let d = cut (types_lexemes nothing ps) (behind_arrow g (type_lexemes blank g)) c.1 in
        let e = head c.2 in
        let r = result_reads is d.0 c.0 d.2 e.kind in
        opens (ap (λ (k : Kind). inside text a_type_inside k) h.kind) (takes h.here h.is (takes b.here b.is (joins (types_read are nothing (from + 1 + 1) d.0 d.1 r.1) (joins r.0 (takes e.here e.is (gives_at (ended e.more)))))))

    pub result_reads : {room : ℕ} {t : TyView} → IsResult room t → (from to : ℕ) → Stands text symbols from (behind_arrow t (type_lexemes blank t)) to → kind_at symbols to ≡ kind.CloseRound → Reads text symbols room (Go Result) from (a_type t) to × ClosesTypes (kind_at symbols from)
    result_reads is.no_result from to Stands.no_more close = (goes (ap (λ (k : Kind). Some (result k)) close) gives, round close)
    result_reads (is.result {gives = t} is) from to st close =
        let h = head (subst (λ (ls : List Lexeme). Stands text symbols from ls to) (is_shown (type_lexemes blank t) is) st) in
        (goes (ap (λ (k : Kind). Some (result k)) h.kind) (takes h.here h.is (type_reads is blank (from + 1) to h.more)), arrow h.kind)

    types_read : {room : ℕ} {ts : TyViews} → AreTypes room ts → (gap : Gap) (from to : ℕ) → Stands text symbols from (types_lexemes gap ts) to → ClosesTypes (kind_at symbols to) → Reads text symbols room (Go ParameterTypes) from (all_types ts) to
    types_read is.no_types gap from to Stands.no_more closes = goes (ap (λ (b : Bool). Some (parameter_types b)) (no_type closes)) gives
    types_read (is.more_types {first = t} {rest = ts} first rest) gap from to st closes =
        let c = cut (type_lexemes gap t) (more_types_lexemes ts) st in
        let r = type_reads first gap from c.0 c.1 in
        goes (ap (λ (b : Bool). Some (parameter_types b)) (starts_type r)) (joins r (more_types_read rest (ty.more t ty.none) c.0 to c.2 closes))

    more_types_read : {room : ℕ} {ts : TyViews} → AreTypes room ts → (before : TyViews) (from to : ℕ) → Stands text symbols from (more_types_lexemes ts) to → ClosesTypes (kind_at symbols to) → Reads text symbols room (Go (MoreTypes before)) from (all_types (append_types before ts)) to
    more_types_read is.no_types before from to Stands.no_more closes = made_as (ap (λ (ts : TyViews). all_types ts) (sym (types_whole before))) (goes (ap (λ (r : Rule). Some r) (no_more_types before closes)) gives)
    more_types_read (is.more_types {first = t} {rest = ts} first rest) before from to st closes =
        let h = head st in
        let c = cut (type_lexemes blank t) (more_types_lexemes ts) h.more in
        goes (ap (λ (k : Kind). Some (more_types before k)) h.kind) (takes h.here h.is (joins (type_reads first blank (from + 1) c.0 c.1) (made_as (ap (λ (ts : TyViews). all_types ts) (types_again before t ts)) (more_types_read rest (and_type before t) c.0 to c.2 closes))))

-- groups
no_more_groups : {k : Kind} (t : TyView) (before : List GroupAt) → ClosesTypes k → more_groups t before k ≡ Give (all_groups before)
no_more_groups t before (arrow is) = ap (λ (k : Kind). more_groups t before k) is
no_more_groups t before (round is) = ap (λ (k : Kind). more_groups t before k) is

abbrev group_as : List ℕ → TyView → Symbol → GroupAt
group_as text t symbol = record { ty = t; name = name_at text symbol }

same_groups : (one other : GroupAt) (rest others : List GroupAt) → bare_group one ≡ bare_group other → bare_groups rest ≡ bare_groups others → bare_groups (one ∷ rest) ≡ bare_groups (other ∷ others)
same_groups one other rest others first more = ap (λ (g : GroupAt). g ∷ bare_groups rest) first ∙ ap (λ (gs : List GroupAt). bare_group other ∷ gs) more

pub record ReadsGroups (text : List ℕ) (symbols : List Symbol) (room : ℕ) (rule : Rule) (from : ℕ) (before groups : List GroupAt) (to : ℕ) : Type 0 where
  pub again : List GroupAt
  pub read : Reads text symbols room rule from (all_groups (before ++ again)) to
  pub same : bare_groups again ≡ bare_groups groups

module _ {text : List ℕ} {symbols : List Symbol} where
  more_groups_read : {room : ℕ} {gs : List GroupAt} → AreGroups room gs → (t : TyView) (before : List GroupAt) (from to : ℕ) → Stands text symbols from (more_groups_lexemes gs) to → ClosesTypes (kind_at symbols to) → ReadsGroups text symbols room (Go (MoreGroups t before)) from before gs to
  more_groups_read is.no_groups t before from to Stands.no_more closes = record { again = []; read = made_as (ap (λ (gs : List GroupAt). all_groups gs) (sym (append-nil before))) (goes (ap (λ (r : Rule). Some r) (no_more_groups t before closes)) gives); same = refl }
  more_groups_read (is.more_groups {group = g} {groups = gs} of_type of_name rest) t before from to st closes =
      let h = head st in
      let c = cut (type_lexemes blank g.ty ++ name_lexeme blank g.name.name ∷ []) (more_groups_lexemes gs) h.more in
      let d = cut (type_lexemes blank g.ty) (name_lexeme blank g.name.name ∷ []) c.1 in
      let n = head d.2 in
      let one = group_as text g.ty n.symbol in
      let r = more_groups_read rest g.ty (before ++ one ∷ []) c.0 to c.2 closes in
      record { again = one ∷ r.again; read = goes (ap (λ (k : Kind). Some (more_groups t before k)) h.kind) (takes h.here h.is (goes refl (joins (type_reads of_type blank (from + 1) d.0 d.1) (takes n.here n.is (made_as (ap (λ (gs : List GroupAt). all_groups gs) (append_assoc before (one ∷ []) r.again)) (reads_at (ended n.more) r.read)))))); same = same_groups one g r.again gs (ap (λ (bytes : List ℕ). bare_group (record { ty = g.ty; name = record { name = bytes; line = line_of 1 } })) n.spelled) r.same }

  -- the parameters of a procedure, or the fields of a structure
  pub groups_read : {room : ℕ} {gs : List GroupAt} → AreGroups room gs → (from to : ℕ) → Stands text symbols from (groups_lexemes gs) to → ClosesTypes (kind_at symbols to) → ReadsGroups text symbols room (Go Parameters) from [] gs to
  groups_read is.no_groups from to Stands.no_more closes = record { again = []; read = goes (ap (λ (b : Bool). Some (parameters b)) (no_type closes)) gives; same = refl }
  groups_read (is.more_groups {group = g} {groups = gs} of_type of_name rest) from to st closes =
      let c = cut (type_lexemes nothing g.ty ++ name_lexeme blank g.name.name ∷ []) (more_groups_lexemes gs) st in
      let d = cut (type_lexemes nothing g.ty) (name_lexeme blank g.name.name ∷ []) c.1 in
      let n = head d.2 in
      let one = group_as text g.ty n.symbol in
      let r = more_groups_read rest g.ty (one ∷ []) c.0 to c.2 closes in
      let t = type_reads of_type nothing from d.0 d.1 in
      record { again = one ∷ r.again; read = goes (ap (λ (b : Bool). Some (parameters b)) (starts_type t)) (goes refl (joins t (takes n.here n.is (reads_at (ended n.more) r.read)))); same = same_groups one g r.again gs (ap (λ (bytes : List ℕ). bare_group (record { ty = g.ty; name = record { name = bytes; line = line_of 1 } })) n.spelled) r.same }
