-- What stands for a value stands for it where objects have other homes.
use Rattle.std.proofs.Common.{inl, inr, ◌⊎◌, ◌≡◌, ℕ, List, [], ◌∷◌, ◌++◌, length, replicate, refl, sym, ap, ◌∙◌, subst, Option, Some, None}
use Rattle.heap_meaning.specs.obj_layout.declared.kind.Kind.{Kind}
use Rattle.heap_meaning.specs.obj_layout.declared.kind.Kind.TheVariants as kind
use Rattle.heap_meaning.specs.obj_layout.declared.reference.Reference.{Reference}
use Rattle.heap_meaning.specs.swizzle.Joint.{Shown}
use Rattle.heap_meaning.specs.text_forms.declared.forms.Form.{Form}
use Rattle.heap_meaning.specs.text_forms.Forms.{forms_of, element_of}
use Rattle.heap_meaning.specs.ps_heap.Values.{Value}
use Rattle.heap_meaning.specs.ps_heap.Objects.{Heap, Object, Structure, Elements, Scope, Keyed, object_at}
use Rattle.heap_meaning.specs.Standing.{Seen, Pairing, IsKindOf, IsAs, IsLike, Both, Stands}
use Rattle.heap_meaning.specs.Paired.{paired, StandsRow}
use Rattle.heap_meaning.proofs.StandingLaws.{Fixed, Kinds, kind-more, like-more}
use Rattle.renames.specs.Renames.{IsRehomed, Now}
use Rattle.renames.proofs.TableLaws.{table-rehomed}

tails_same : (a b : ℕ) (xs ys : List ℕ) → a ∷ xs ≡ b ∷ ys → xs ≡ ys
tails_same a b xs ys e = cc

as-rehomed : (seen : Seen) (pair : Pairing) (it now : Shown) (of : Kind) (text tail : List ℕ) (forms : List Form) (vs : List Value) → IsRehomed it now
    → IsAs seen pair it of text (λ home. home ∷ tail) forms vs → IsAs seen pair now of text (λ home. home ∷ tail) forms vs
as-rehomed seen pair it now of text tail forms vs r a = record {
  kind_is = r.kind ∙ a.kind_is;
  text_name = a.text_name;
  home = r.second;
  names = a.names;
  words = a.words;
  refs = r.refs ∙ a.refs;
  nums = r.after ∙ ap (λ ws. r.second ∷ ws) (tails_same r.first a.home r.words (tail ++ a.words) (sym r.before ∙ a.nums));
  is_text = a.is_text;
  are = a.are;
}

like-rehomed : (seen : Seen) (pair : Pairing) (it now : Shown) (object : Object) → IsRehomed it now → IsLike seen pair it object → IsLike seen pair now object
like-rehomed seen pair it now (Structure class fields) r l = as-rehomed seen pair it now kind.Structure class [] (forms_of class) fields r l
like-rehomed seen pair it now (Elements ty low elements) r l = record {
  bound = l.bound;
  bound_is = l.bound_is;
  fits = l.fits;
  rows = as-rehomed seen pair it now kind.Vector ty (l.bound ∷ []) (replicate (length elements) (element_of ty)) elements r l.rows;
}
like-rehomed seen pair it now (Scope text parent values) r l = record {
  kind_is = r.kind ∙ l.kind_is;
  text_name = l.text_name;
  parent_name = l.parent_name;
  home = r.second;
  names = l.names;
  words = l.words;
  refs = r.refs ∙ l.refs;
  nums = r.after ∙ ap (λ ws. r.second ∷ ws) (tails_same r.first l.home r.words l.words (sym r.before ∙ l.nums));
  is_text = l.is_text;
  is_parent = l.is_parent;
  are = l.are;
}
like-rehomed seen pair it now (Keyed table) r l = r.kind ∙ l

-- The heap stands under the same names, where texts, code and closures stay and all others may have other homes.
pub row-rehomed : (seen now : Seen) (heap : Heap) (names : List Reference) → Fixed seen now → ((n : Reference) (it : Shown) → seen n it → Now now n it) → StandsRow seen heap names → StandsRow now heap names
row-rehomed seen now heap names fixed homes s =
    let kinds : Kinds seen now = λ n it k. kind_of n it (homes n it k) in
    record {
      stands = record {
        both = λ n id e.
            let b = s.stands.both n id e in
            let more = like-more seen now (paired names) (paired names) b.it b.object fixed kinds (λ m i q. q) b.like in
            both_of n id b.it b.object b.means more (homes n b.it b.there);
        one_number = s.stands.one_number;
        one_name = s.stands.one_name;
        tables = record {
          nodes = s.stands.tables.nodes;
          each = λ n id table p is. table-rehomed seen now (paired names) n table (s.stands.tables.nodes id) fixed kinds homes (s.stands.tables.each n id table p is);
          are_nodes = λ id n a. kind-more seen now n kind.Node kinds (s.stands.tables.are_nodes id n a);
          apart = s.stands.tables.apart;
        };
      };
      long = s.long;
    }
  where
    kind_of : (n : Reference) (it : Shown) → Now now n it → IsKindOf now n it.kind
    kind_of n it h = record { it = h.now; there = h.there; kind_is = elim h.is [ inl e ↦ ap (λ s. s.kind) e | inr r ↦ r.kind ] }

    both_of : (n : Reference) (id : ℕ) (it : Shown) (object : Object) → object_at heap id ≡ Some object → IsLike now (paired names) it object → Now now n it → Both now heap (paired names) n id
    both_of n id it object means like h = record {
      it = h.now;
      object = object;
      there = h.there;
      means = means;
      like = elim h.is [ inl e ↦ subst (λ s. IsLike now (paired names) s object) (sym e) like | inr r ↦ like-rehomed now (paired names) it h.now object r like ];
    }
