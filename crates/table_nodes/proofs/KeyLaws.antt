-- Keys of nodes: a node has one, and it stays where other objects are seen more, or another node is written.
use Rattle.std.proofs.Common.{◌≡◌, ◌≢◌, sym, ap, ◌∙◌, subst, Some}
use Rattle.std.specs.Cmp.{IsTotalOrder}
use Rattle.std.proofs.lemmas.Cmp.{int_cmp_total, nat_list_cmp_total}
use Rattle.heap_places.specs.obj_layout.declared.kind.Kind.TheVariants.{Node}
use Rattle.heap_places.specs.obj_layout.declared.reference.Reference.{Reference}
use Rattle.heap_places.specs.swizzle.Joint.{Shown}
use Rattle.heap_places.specs.swizzle.Changes.{Within, ChangedAt}
use Rattle.heap_places.specs.Shapes.{slot_of, shown_text}
use Rattle.node_rows.specs.Keys.{Keys, by_ints, by_texts, KeyOf, order_by, Seen, IsKey}

pub total : (ks : Keys) → IsTotalOrder (order_by ks)
total by_ints = int_cmp_total
total by_texts = nat_list_cmp_total

-- a name has one object
abbrev pub AreSingle : Seen → Type 0
AreSingle seen = (n : Reference) (a b : Shown) → seen n a → seen n b → a ≡ b

pub key_one : (ks : Keys) (seen : Seen) (it : Shown) (a b : KeyOf ks) → AreSingle seen → IsKey ks seen it a → IsKey ks seen it b → a ≡ b
key_one by_ints seen it a b one p q = some_same (sym p ∙ q)
  where
    some_same : {A : Type 0} {x y : A} → Some x ≡ Some y → x ≡ y
    some_same e = cc
key_one by_texts seen it a b one p q = sym p.bytes_are ∙ (ap shown_text (one (slot_of it 2) p.it q.it p.there q.there) ∙ q.bytes_are)

pub key_grows : (ks : Keys) (old new : Seen) (it : Shown) (key : KeyOf ks) → Within old new → IsKey ks old it key → IsKey ks new it key
key_grows by_ints old new it key w k = k
key_grows by_texts old new it key w k = record { it = k.it; there = w (slot_of it 2) k.it k.there; kind = k.kind; bytes_are = k.bytes_are }

pub key_changed : (ks : Keys) (old new : Seen) (n : Reference) (it that : Shown) (key : KeyOf ks) → ((x : Shown) → old n x → x.kind ≡ Node) → ChangedAt old n it new
    → IsKey ks old that key → IsKey ks new that key
key_changed by_ints old new n it that key nodes c k = k
key_changed by_texts old new n it that key nodes c k =
    let other : slot_of that 2 ≢ n = λ e. (let kind = nodes k.it (subst (λ m. old m k.it) e k.there) in absurd (cc (kind, k.kind))) in
    record { it = k.it; there = c.stays (slot_of that 2) k.it other k.there; kind = k.kind; bytes_are = k.bytes_are }

pub key_back : (ks : Keys) (old new : Seen) (n : Reference) (it that : Shown) (key : KeyOf ks) → it.kind ≡ Node → ChangedAt old n it new
    → IsKey ks new that key → IsKey ks old that key
key_back by_ints old new n it that key is c k = k
key_back by_texts old new n it that key is c k =
    let other : slot_of that 2 ≢ n = λ e. (let kind = ap (λ x. x.kind) (c.alone k.it (subst (λ m. new m k.it) e k.there)) ∙ is in absurd (cc (kind, k.kind))) in
    record { it = k.it; there = c.no_more (slot_of that 2) k.it other k.there; kind = k.kind; bytes_are = k.bytes_are }
