use Rattle.std.proofs.Common.{◌≡◌, ◌+◌, ◌<◌, ℕ, ℤ, List, drop, length, sym, ap, ◌∙◌, subst, arith}
use Rattle.std.proofs.lemmas.List.Elements.{All-drop}
use Rattle.machine_core.specs.text_forms.declared.forms.Rows.{Rows}
use Rattle.machine_core.specs.text_forms.Forms.{forms_of, rows_of}
use Rattle.machine_core.specs.heap_places.Filling.{AreNear}
use Rattle.machine_core.specs.heap_places.declared.value.Value as code
use Rattle.machine_core.specs.Naming.{IsNamed}
use Rattle.machine_core.proofs.Failing.{failing-behind}
use Rattle.machine_operands.proofs.Parts.{fails-after, so-after}
use Rattle.machine_structures.specs.inside.Making.{AreLaid}
use Rattle.machine_structures.proofs.LaidFields.{near-laid}
use Rattle.machine_structures.proofs.Making.{few-nums, few-refs, made-by-text, stuck-by-text, too-full}
use Rattle.machine_structures.proofs.makes.make_by_text.Goals as goal

pub returns-in_default-clause-takes : goal.returns-in_default-clause-takes
returns-in_default-clause-takes g c =
    let v = c.args.vault.now in
    let w = c.text_constant.new.vault in
    let mid = g.V.Vault.outside w in
    let m = c.text_constant.new.m in
    let bytes = c.text_bytes-text.result.now in
    let given = c.in-Ok.ensures in
    let nums : c.count_places-refs.result.nums ≡ (rows_of (forms_of bytes)).nums = ap (λ (r : Rows). r.nums) c.count_places-refs.ensures in
    let few : length m.nums.own < m.frame.nums + (rows_of (forms_of bytes)).nums =
    (let few = c.in_default.ensures in omega (arith, few, nums, c.len.ensures)) in
    stuck-by-text (g.V.Vault.outside v) mid c.args.k c.args.m.now m c.in-Ok.class bytes given.leaves given.ends given.reads (c.text_bytes-text.ensures.value w)
    (λ names conf h. few-nums mid m bytes names conf h few)

pub returns-in_default-below_top-clause-takes : goal.returns-in_default-below_top-clause-takes
returns-in_default-below_top-clause-takes g c =
    let v = c.args.vault.now in
    let w = c.text_constant.new.vault in
    let mid = g.V.Vault.outside w in
    let m = c.text_constant.new.m in
    let bytes = c.text_bytes-text.result.now in
    let given = c.in-Ok.ensures in
    let refs : c.count_places-refs.result.refs ≡ (rows_of (forms_of bytes)).refs = ap (λ (r : Rows). r.refs) c.count_places-refs.ensures in
    let few : length m.refs.own < m.frame.refs + (rows_of (forms_of bytes)).refs =
    (let few = c.in_default-below_top.ensures in omega (arith, few, refs, c.len-2.ensures)) in
    stuck-by-text (g.V.Vault.outside v) mid c.args.k c.args.m.now m c.in-Ok.class bytes given.leaves given.ends given.reads (c.text_bytes-text.ensures.value w)
    (λ names conf h. few-refs mid m bytes names conf h few)

pub returns-then-first_ref-ge-FRAME_WORDS-clause-takes : goal.returns-then-first_ref-ge-FRAME_WORDS-clause-takes
returns-then-first_ref-ge-FRAME_WORDS-clause-takes g c =
    let v = c.args.vault.now in
    let w = c.text_constant.new.vault in
    let mid = g.V.Vault.outside w in
    let m = c.text_constant.new.m in
    let bytes = c.text_bytes-text.result.now in
    let given = c.in-Ok.ensures in
    let i = c.in-Some.first_num in
    let j = c.in-Some-below_top.first_ref in
    let nums : i + (rows_of (forms_of bytes)).nums ≡ length m.nums.own =
    ap (λ (r : Rows). i + r.nums) (sym c.count_places-refs.ensures) ∙ c.in-Some.ensures.0 ∙ c.len.ensures in
    let refs : j + (rows_of (forms_of bytes)).refs ≡ length m.refs.own =
    ap (λ (r : Rows). j + r.refs) (sym c.count_places-refs.ensures) ∙ c.in-Some-below_top.ensures.0 ∙ c.len-2.ensures in
    stuck-by-text (g.V.Vault.outside v) mid c.args.k c.args.m.now m c.in-Ok.class bytes given.leaves given.ends given.reads (c.text_bytes-text.ensures.value w)
    (λ names conf h.
    too-full mid m bytes names conf h i j c.in-Some.ensures.1 c.in-Some-below_top.ensures.1 nums refs c.if-first_ref-ge-FRAME_WORDS.true)

pub make_structure-made-requires-clause-near : goal.make_structure-made-requires-clause-near
make_structure-made-requires-clause-near g c =
    let m = c.text_constant.new.m in
    let j = c.in-Some-below_top.first_ref in
    let forms = forms_of c.text_bytes-text.result.now in
    let refs = c.top_refs.ensures ∙ ap (drop j) c.own-2.ensures in
    let laid = subst (λ (ws : List ℕ). AreLaid forms c.top_nums.result.now ws c.lay_fields.new.values.items) refs c.lay_fields.ensures.laid in
    subst (AreNear m.objects) (sym c.deref.ensures.value)
    (near-laid m.objects forms c.top_nums.result.now (drop j m.refs.own) c.lay_fields.new.values.items laid
    (All-drop (λ word. IsNamed m.objects word) j m.refs.own c.in-Ok.ensures.ends.names.own))

pub returns-clause-takes : goal.returns-clause-takes
returns-clause-takes g c =
    let v = c.args.vault.now in
    let w = c.text_constant.new.vault in
    let made = c.make_structure-made in
    let after = made.new.vault in
    let mid = g.V.Vault.outside w in
    let m = c.text_constant.new.m in
    let bytes = c.text_bytes-text.result.now in
    let forms = forms_of bytes in
    let given = c.in-Ok.ensures in
    let i = c.in-Some.first_num in
    let j = c.in-Some-below_top.first_ref in
    let fields = c.lay_fields.new.values.items in
    let nums : c.top_nums.result.now ≡ drop i m.nums.own = c.top_nums.ensures ∙ ap (drop i) c.own.ensures in
    let refs : c.top_refs.result.now ≡ drop j m.refs.own = c.top_refs.ensures ∙ ap (drop j) c.own-2.ensures in
    let laid : AreLaid forms (drop i m.nums.own) (drop j m.refs.own) c.deref.result.now =
    subst (λ (ks : List code.Value). AreLaid forms (drop i m.nums.own) (drop j m.refs.own) ks) (sym c.deref.ensures.value)
    (subst (λ (ws : List ℕ). AreLaid forms (drop i m.nums.own) ws fields) refs
    (subst (λ (zs : List ℤ). AreLaid forms zs c.top_refs.result.now fields) nums c.lay_fields.ensures.laid)) in
    made-by-text (g.V.Vault.outside v) mid c.args.k c.args.m.now m c.in-Ok.class bytes given.leaves given.ends given.reads (c.text_bytes-text.ensures.value w)
    (g.V.Vault.outside after) i j c.in-Some.ensures.1 c.in-Some-below_top.ensures.1
    (ap (λ (r : Rows). i + r.nums) (sym c.count_places-refs.ensures) ∙ c.in-Some.ensures.0 ∙ c.len.ensures)
    (ap (λ (r : Rows). j + r.refs) (sym c.count_places-refs.ensures) ∙ c.in-Some-below_top.ensures.0 ∙ c.len-2.ensures) made.new.self c.lay_fields.new.values
    c.truncate.new.self c.truncate-2.new.self c.truncate.ensures.own c.truncate-2.ensures.own c.truncate.ensures.below c.truncate-2.ensures.below
    c.deref.result.now made.result c.give_structure.new.m c.give_structure.result laid made.ensures.leaves made.ensures.keeps made.ensures.held
    made.ensures.made
    (c.give_structure.ensures w after)

pub returns-clause-fails : goal.returns-clause-fails
returns-clause-fails g c =
    let w = c.text_constant.new.vault in
    let made = c.make_structure-made in
    let give = c.give_structure in
    failing-behind (g.V.Vault.outside c.args.vault.now) (g.V.Vault.outside w) (g.V.Vault.outside made.new.vault) give.result give.new.m c.in-Ok.ensures.leaves
    (fails-after give.result give.new.m (g.V.Vault.outside w) (g.V.Vault.outside made.new.vault) made.result (give.ensures w made.new.vault).ends.breaks
    made.ensures.fails)

pub returns-clause-alive : goal.returns-clause-alive
returns-clause-alive g c =
    let w = c.text_constant.new.vault in
    let made = c.make_structure-made in
    let give = c.give_structure in
    so-after give.result give.new.m made.result (g.V.Vault.alive made.new.vault) (give.ensures w made.new.vault).ends.breaks made.ensures.alive
