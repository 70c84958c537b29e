-- The tests of an object, in order.
use Rattle.std.proofs.Common.{◌≡◌, ℕ, ◌+◌, ◌≤◌, List, length, take, drop, Option, Some, None, IfSome, sym, ap, ◌∙◌, arith}
use Rattle.std.proofs.lemmas.Bool.Decides.{nat_tests}
use Rattle.obj_layout.specs.declared.header.Header.{Header}
use Rattle.obj_layout.specs.declared.header.LayoutFault.{LayoutFault}
use Rattle.obj_layout.specs.Header.{HasFitFields, HasFitLengths, header_fault, header_words, object_length}
use Rattle.obj_layout.specs.Stored.{damage_at, length_in, of_length, of_words}
use Rattle.obj_layout.proofs.HeaderLaws.{length_spelled}
use Rattle.memory_vault.specs.Tested.{IsTested}

-- where four words stand there, they and their length are tested
four_stand : (words : List ℕ) (pid : ℕ) (wanted : Option ℕ) → 1 ≤ pid → pid + 4 ≤ length words
    → damage_at words pid wanted ≡ of_words pid (length words) (take 4 (drop pid words)) (header_fault (take 4 (drop pid words))) wanted
four_stand words pid wanted low high = grind (arith, nat_tests)

-- an object that isn't damaged by its length ends within the words, and is as long as is wanted
length_fits : (pid used long : ℕ) (wanted : Option ℕ) → of_length pid used long wanted ≡ None → (pid + long ≤ used) × IfSome wanted (λ count. long ≡ count)
length_fits pid used long None is = grind (arith, nat_tests)
length_fits pid used long (Some count) is = grind (arith, nat_tests)

pub passes : (words : List ℕ) (pid : ℕ) (wanted : Option ℕ) (header : Header) (long : ℕ)
    → 1 ≤ pid → pid + 4 ≤ length words → take 4 (drop pid words) ≡ header_words header
    → HasFitFields header → HasFitLengths header → header_fault (take 4 (drop pid words)) ≡ None
    → long ≡ object_length header → of_length pid (length words) long wanted ≡ None
    → IsTested words pid wanted header
passes words pid wanted header long low high spelled fields lengths sound is fits =
    let told : length_in (take 4 (drop pid words)) ≡ object_length header = ap length_in spelled ∙ length_spelled header fields in
    let fits_header : of_length pid (length words) (object_length header) wanted ≡ None =
    ap (λ (n : ℕ). of_length pid (length words) n wanted) (sym is) ∙ fits in
    let within = length_fits pid (length words) (object_length header) wanted fits_header in
    record {
      fields = fields;
      lengths = lengths;
      spelled = spelled;
      low = low;
      within = within.0;
      as_wanted = within.1;
      whole =
          four_stand words pid wanted low high
          ∙ ap (λ (f : Option LayoutFault). of_words pid (length words) (take 4 (drop pid words)) f wanted) sound
          ∙ ap (λ (n : ℕ). of_length pid (length words) n wanted) told
          ∙ fits_header;
    }
