-- What is staged in a volume, as a space.
use Rattle.std.proofs.Common.{◌≡◌, ℕ, ◌+◌, ◌<◌, ◌≤◌, List, length, get_or, take, drop, refl, sym, ◌∙◌, ap, subst, arith, length-drop, length-take, Option, Some, Result, Ok, Err}
use Rattle.std.specs.Option.{option_map}
use Rattle.std.proofs.lemmas.Option.{same_Some}
use Rattle.std.proofs.lemmas.Grind.{same_number_lists}
use Rattle.std.proofs.lemmas.List.{get_or-take, get_or-drop}
use Rattle.std.proofs.lemmas.List.FromFn.{get_or-map-range_with_len}
use Rattle.obj_layout.specs.ps_outside.Outside.{Outside, SameContents, TellsPrefix, ToldAll, IsPutCall, Rose}
use Rattle.obj_layout.proofs.of_ps_outside.Moments.{same_as}
use Rattle.obj_layout.specs.Storing.{Puts}
use Rattle.volume_parts.specs.Holding.{Held}
use Rattle.paged_volume.specs.Standing.{seen}
use Rattle.paged_volume.specs.declared.table.Table.{Table}
use Rattle.obj_layout.specs.Stored.{Space}
use Rattle.obj_layout.specs.declared.vault.VaultFault.TheVariants.{Output}
use Rattle.obj_store.specs.declared.source.Source.{Source}
use Rattle.obj_store.specs.declared.source.Source.TheVariants.{Staged}
use Rattle.obj_store.specs.Spaces.{word_at, words_of, space_of, space_filed, shown_in, shown, directory_in, IsInOrder, IsUsable, spaces, spaces_at}
use Rattle.obj_store.specs.StoreLaws.{length_words}
use Rattle.obj_store.proofs.ReadLaws.{shown_kept}

pub word_of : (count : ℕ) (bytes : List ℕ) (index : ℕ) → index < count → get_or (words_of count bytes) index 0 ≡ word_at bytes index
unfolding words_of
word_of count bytes index lt = get_or-map-range_with_len (word_at bytes) 0 count index index 0 lt (omega arith)

-- words that were read are those of the space
pub part_is : (used at : ℕ) (bytes xs : List ℕ) → at + length xs ≤ used → ((k : ℕ) → k < length xs → get_or xs k 0 ≡ word_at bytes (at + k)) → take (length xs) (drop at (words_of used bytes)) ≡ xs
part_is used at bytes xs within read =
    same_number_lists (take (length xs) (drop at (words_of used bytes))) xs
    (omega (arith, length-take (length xs) (drop at (words_of used bytes)), length-drop at (words_of used bytes), length_words used bytes))
    (λ k lt.
    let inside : k < length xs = omega (arith, length-take (length xs) (drop at (words_of used bytes))) in
    get_or-take (length xs) (drop at (words_of used bytes)) k 0 inside ∙ get_or-drop at (words_of used bytes) k 0 ∙ word_of used bytes (at + k) (omega arith) ∙ sym (read k inside))

-- what a volume holds, of which a space tells
pub record Stood (used : ℕ) (volume : Outside (Option Held)) (space : Space) : Type 0 where
  pub held : Held
  pub now : volume.contents (Some held)
  pub is : space_of used held ≡ space

pub stood_at : (source : Source) (used : ℕ) (table : Table) (outside : Outside (List ℕ)) (space : Space) → (spaces_at source used table outside).contents space →
    Stood used (shown source table outside) space
stood_at source used table outside space told =
    let was = told.staged.was in
    let held = shown_in source table was.from in
    record {
      held = held;
      now = record { from = was.from; was = was.was; by = refl };
      is = same_Some (space_of used held) space (ap (λ (o : Option Held). option_map (space_of used) o) was.by ∙ told.staged.by);
    }

pub stood : (used : ℕ) (table : Table) (outside : Outside (List ℕ)) (space : Space) → (spaces used table outside).contents space →
    Stood used (seen table outside) space
stood used table outside space told = stood_at Staged used table outside space told

pub told_of : (used : ℕ) (table : Table) (outside : Outside (List ℕ)) (held : Held) → IsInOrder used table.committed → (seen table outside).contents (Some held) →
    (spaces used table outside).contents (space_of used held)
told_of used table outside held order now = record { order = order; staged = record { from = Some held; was = now; by = refl } }

-- the words of a space are as many as are used
pub long_space : (source : Source) (used : ℕ) (table : Table) (outside : Outside (List ℕ)) (space : Space) → (spaces_at source used table outside).contents space → length space.words ≡ used
long_space source used table outside space told =
    let is = stood_at source used table outside space told in
    ap (λ (s : Space). length s.words) (sym is.is) ∙ length_words used is.held.bytes

-- words that were read from what is held, where that is a space
pub words_read : (source : Source) (used at count : ℕ) (table : Table) (outside : Outside (List ℕ)) (xs : List ℕ) → length xs ≡ count → at + count ≤ used →
    ((held : Held) → (shown source table outside).contents (Some held) → (k : ℕ) → k < count → get_or xs k 0 ≡ word_at held.bytes (at + k)) →
    (space : Space) → (spaces_at source used table outside).contents space → take count (drop at space.words) ≡ xs
words_read source used at count table outside xs long within read space told =
    let is = stood_at source used table outside space told in
    ap (λ (s : Space). take count (drop at s.words)) (sym is.is)
    ∙ ap (λ (n : ℕ). take n (drop at (words_of used is.held.bytes))) (sym long)
    ∙ part_is used at is.held.bytes xs (omega arith) (λ k lt. read is.held is.now k (omega arith))

-- what calls leave that only look
pub same_spaces : (source : Source) (used : ℕ) (p q : Table) (a b : Outside (List ℕ)) → q ≡ p → SameContents a b → SameContents (spaces_at source used p a) (spaces_at source used q b)
same_spaces source used p q a b is_q same = record {
  kept = λ space told. record {
    order = subst (λ (t : Table). IsUsable used (directory_in source t) t.committed) (sym is_q) told.order;
    staged = record { from = told.staged.from; was = shown_kept source p q a b is_q same told.staged.from told.staged.was; by = told.staged.by };
  };
  no_other = λ space told. record {
    order = subst (λ (t : Table). IsUsable used (directory_in source t) t.committed) is_q told.order;
    staged = record {
      from = told.staged.from;
      was = shown_kept source q p b a (sym is_q) (record { kept = same.no_other; no_other = same.kept }) told.staged.from told.staged.was;
      by = told.staged.by;
    };
  };
}

-- bytes that were put leave what is shown
module _ (source : Source) (used : ℕ) (p q : Table) (a b : Outside (List ℕ)) (bytes : List ℕ) (is_q : q ≡ p) (cut : TellsPrefix a b bytes) where
  pub puts_done : {T E : Type 0} (result : Result T E) (done : Unit {0}) → ToldAll a b bytes →
      b.output_faults ≡ a.output_faults → IsPutCall a b result → Puts {T = Unit {0}} (spaces_at source used p a) (spaces_at source used q b) bytes (Ok done)
  puts_done result done all calm call = record {
    told = cut;
    all = all;
    images = same_as a b space_filed call.images;
    contents = same_spaces source used p q a b is_q call.contents;
    counts = call.counts;
    calm = calm;
    device = call.device;
    cause = λ e. absurd (cc);
    other = λ e. cc;
    calls = call.calls;
  }

  pub puts_cut : {T E : Type 0} (result : Result T E) → (Rose a.output_faults b.output_faults) → IsPutCall a b result → Puts {T = Unit {0}} (spaces_at source used p a) (spaces_at source used q b) bytes (Err Output)
  puts_cut result rose call = record {
    told = cut;
    all = tt;
    images = same_as a b space_filed call.images;
    contents = same_spaces source used p q a b is_q call.contents;
    counts = call.counts;
    calm = tt;
    device = call.device;
    cause = λ e. rose;
    other = λ e. cc;
    calls = call.calls;
  }
