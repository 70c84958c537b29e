-- A header has the counts of at most one contents.
use Rattle.std.proofs.Common.{◌≡◌, ◌-◌, ◌/◌, refl, sym, ap, ◌∙◌, arith, eqb, cond}
use Rattle.std.proofs.lemmas.Grind.{common_steps}
use Rattle.obj_layout.specs.declared.kind.Kind.{Kind}
use Rattle.obj_layout.specs.declared.kind.Kind.TheVariants.{Text, Structure, Vector, Scope, Closure, Code, Table, Node, Directory}
use Rattle.obj_layout.specs.declared.header.Header.{Header}
use Rattle.obj_layout.specs.Objects.{Contents, text, structure, vector_of_references, vector_of_numbers, scope, closure, code, table, node, directory, kind_of, Counts, counts_of, IsAllowed, HasContents}

-- the contents that these counts can be of, at this kind
abbrev contents_in : Kind → Counts → Contents
contents_in Text n = text n.bytes
contents_in Structure n = structure (n.refs - 1) (n.nums - 1)
contents_in Vector n = cond (eqb n.refs 1) (vector_of_numbers (n.nums - 2)) (vector_of_references (n.refs - 1))
contents_in Scope n = scope (n.refs - 2) (n.nums - 1)
contents_in Closure n = closure
contents_in Code n = code n.refs n.bytes
contents_in Table n = table
contents_in Node n = node
contents_in Directory n = directory (n.refs / 3)

contents_in-counts_of : (c : Contents) → IsAllowed c → contents_in (kind_of c) (counts_of c) ≡ c
contents_in-counts_of (text bytes) h = refl
contents_in-counts_of (structure references numbers) h = grind arith
contents_in-counts_of (vector_of_references elements) h = grind (arith, common_steps)
contents_in-counts_of (vector_of_numbers elements) h = grind (arith, common_steps)
contents_in-counts_of (scope references numbers) h = grind arith
contents_in-counts_of closure h = refl
contents_in-counts_of (code constants bytes) h = refl
contents_in-counts_of table h = refl
contents_in-counts_of node h = refl
contents_in-counts_of (directory databases) h = grind arith

-- one header, one contents
pub HasContents-unique : (header : Header) (c d : Contents) → HasContents header c → HasContents header d → c ≡ d
HasContents-unique header c d h k =
    let kinds : kind_of c ≡ kind_of d = sym h.kind ∙ k.kind in
    let counted : counts_of c ≡ counts_of d = sym h.counted ∙ k.counted in
    sym (contents_in-counts_of c h.allowed)
    ∙ ap (λ (x : Kind). contents_in x (counts_of c)) kinds
    ∙ ap (contents_in (kind_of d)) counted
    ∙ contents_in-counts_of d k.allowed
