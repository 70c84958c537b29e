use Rattle.std.proofs.Common.{w32, to_z, of_z, ◌≡◌, true, Some, Ok, Err, refl, ap, ◌∙◌, subst, sym}
use Rattle.heap_places.specs.ps_heap.Operators.{is_int}
use Rattle.heap_places.specs.swizzle.Heap.{num_at}
use Rattle.heap_places.specs.Words.{int_in}
use Rattle.table_nodes.specs.Sought.{keys_of}
use Rattle.table_nodes.specs.Spans.{ReadsKey}
use Rattle.table_nodes.specs.declared.keys.Key.TheVariants.{Int, Text}
use Rattle.table_nodes.specs.Steps.{place}
use Rattle.table_nodes.proofs.BringLaws.{brings_none}
use Rattle.table_nodes.proofs.SoughtLaws.{int_key_same, int_read, int_same, same_ok}
use Rattle.table_nodes.proofs.NodeLaws.{grows_none}
use Rattle.table_nodes.specs.Fetching.{FetchesKey}
use Rattle.table_nodes.proofs.FetchLaws.{arrives_none}
use Rattle.table_nodes.proofs.placing.key_of.Goals as goal

pub returns-in-Ok-clause-read : goal.returns-in-Ok-clause-read
returns-in-Ok-clause-read g c =
    let p = place c.args.sw.now (g.V.Vault.outside c.args.vault.now) in
    subst (λ k. ReadsKey (keys_of k) p c.args.sw.now c.args.at (Ok (Int (to_z w32 (of_z w32 c.in-Ok.value))))) (sym c.in-Ints.is) (λ n row named r.
    int_key_same c.args.sw.now (g.V.Vault.outside c.args.vault.now) c.args.at n row c.in-Ok.value c.sound.ensures named r (same_ok c.in-Ok.value row.entry.key (Ok c.in-Ok.value) refl (c.in-Ok.ensures.read n row named r)))

pub returns-in-Err-clause-read : goal.returns-in-Err-clause-read
returns-in-Err-clause-read g c =
    let p = place c.args.sw.now (g.V.Vault.outside c.args.vault.now) in
    subst (λ k. ReadsKey (keys_of k) p c.args.sw.now c.args.at (Err c.in-Err.fault)) (sym c.in-Ints.is) (λ n row named r. (let e = c.in-Err.ensures.read n row named r in absurd (cc)))

pub returns-in-Ok-text_key-clause-read : goal.returns-in-Ok-text_key-clause-read
returns-in-Ok-text_key-clause-read g c =
    let p = place c.args.sw.now (g.V.Vault.outside c.args.vault.now) in
    subst (λ k. ReadsKey (keys_of k) p c.text_key.new.sw c.args.at (Ok (Text c.in-Ok-text_key.text))) (sym c.in-Texts.is) c.in-Ok-text_key.ensures.read

pub returns-in-Err-text_key-clause-read : goal.returns-in-Err-text_key-clause-read
returns-in-Err-text_key-clause-read g c =
    let p = place c.args.sw.now (g.V.Vault.outside c.args.vault.now) in
    subst (λ k. ReadsKey (keys_of k) p c.text_key.new.sw c.args.at (Err c.in-Err-text_key.fault)) (sym c.in-Texts.is) c.in-Err-text_key.ensures.read

pub returns-in-Ok-clause-brings : goal.returns-in-Ok-clause-brings
returns-in-Ok-clause-brings g c = brings_none _ 0

pub returns-in-Err-clause-brings : goal.returns-in-Err-clause-brings
returns-in-Err-clause-brings g c = brings_none _ 1

pub returns-in-Err-clause-still : goal.returns-in-Err-clause-still
returns-in-Err-clause-still g c = grows_none c.args.sw.now (g.V.Vault.outside c.args.vault.now) c.sound.ensures

pub returns-in-Ok-clause-has : goal.returns-in-Ok-clause-has
returns-in-Ok-clause-has g c =
    let word : int_in (num_at c.args.sw.now c.args.at 1) ≡ Some c.in-Ok.value = c.in-Ok.ensures.word in
    let fits : is_int c.in-Ok.value ≡ true = int_read (num_at c.args.sw.now c.args.at 1) c.in-Ok.value word in
    let same = int_same c.in-Ok.value fits in
    record { node = c.requires.node; held = ap is_int same ∙ fits; shows = word ∙ ap Some (sym same) }

pub returns-in-Ok-text_key-clause-has : goal.returns-in-Ok-text_key-clause-has
returns-in-Ok-text_key-clause-has g c = record { node = c.in-Ok-text_key.ensures.grows.nodes c.args.at c.requires.node; held = c.in-Ok-text_key.ensures.held; shows = c.in-Ok-text_key.ensures.slot }

pub returns-in-Ok-clause-fetched : goal.returns-in-Ok-clause-fetched
returns-in-Ok-clause-fetched g c n row named r = arrives_none c.args.sw.now (g.V.Vault.outside c.args.vault.now)

pub returns-in-Ok-text_key-clause-fetched : goal.returns-in-Ok-text_key-clause-fetched
returns-in-Ok-text_key-clause-fetched g c =
    let p = place c.args.sw.now (g.V.Vault.outside c.args.vault.now) in
    subst (λ k. FetchesKey (keys_of k) p c.text_key.new.sw c.args.at (Ok (Text c.in-Ok-text_key.text))) (sym c.in-Texts.is) c.in-Ok-text_key.ensures.fetched
