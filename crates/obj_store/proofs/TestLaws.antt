-- The tests of an object, in order.
use Rattle.std.proofs.Common.{◌≡◌, ℕ, ◌+◌, ◌≤◌, List, length, take, drop, Option, None, ap, ◌∙◌, arith, Result, Ok, Err, OnOk, IfOk, IfErr}
use Rattle.std.proofs.lemmas.Bool.Decides.{nat_tests}
use Rattle.obj_layout.specs.ps_outside.Outside.{Outside}
use Rattle.obj_layout.specs.declared.header.Header.{Header}
use Rattle.obj_layout.specs.declared.vault.VaultFault.{VaultFault}
use Rattle.obj_layout.specs.Header.{header_fault, header_words}
use Rattle.obj_layout.specs.Stored.{Space, damage_at, of_words}
use Rattle.obj_store.specs.Tested.{HasFour, TellsDamage, AreHeld, IsObjectHeader, IsDamageAt}

-- where four words stand at a PID, they and their length are tested
four_stand : (words : List ℕ) (pid : ℕ) (wanted : Option ℕ) → 1 ≤ pid → pid + 4 ≤ length words →
    damage_at words pid wanted ≡ of_words pid (length words) (take 4 (drop pid words)) (header_fault (take 4 (drop pid words))) wanted
four_stand words pid wanted low high = grind (arith, nat_tests)

pub four_tested : (used pid : ℕ) (wanted : Option ℕ) (four words : List ℕ) → 1 ≤ pid → pid + 4 ≤ used → HasFour used pid four words →
    damage_at words pid wanted ≡ of_words pid used four (header_fault four) wanted
four_tested used pid wanted four words low high has =
    four_stand words pid wanted low (let long = has.long in omega arith)
    ∙ (λ i. of_words pid (has.long i) (has.there i) (header_fault (has.there i)) wanted)

-- a refusal of the four words tells the damage
pub four_damaged : (used pid : ℕ) (wanted : Option ℕ) (four : List ℕ) (fault : VaultFault) → 1 ≤ pid → pid + 4 ≤ used → IsDamageAt pid (of_words pid used four (header_fault four) wanted) fault →
    TellsDamage pid wanted (HasFour used pid four) fault
four_damaged used pid wanted four fault low high is = record {
  damage = is.damage;
  fault_is = is.fault_is;
  is = λ words has. four_tested used pid wanted four words low high has ∙ is.is;
}

pub damage_weaker : (pid : ℕ) (wanted : Option ℕ) (P Q : List ℕ → Type 0) (fault : VaultFault) → ((words : List ℕ) → Q words → P words) → TellsDamage pid wanted P fault → TellsDamage pid wanted Q fault
damage_weaker pid wanted P Q fault weaker is = record { damage = is.damage; fault_is = is.fault_is; is = λ words could. is.is words (weaker words could) }

-- the four words of what is held
pub held_four : (outside : Outside Space) (used pid : ℕ) (four words : List ℕ) → ((space : Space) → outside.contents space → length space.words ≡ used) →
    ((space : Space) → outside.contents space → take 4 (drop pid space.words) ≡ four) → AreHeld outside words → HasFour used pid four words
held_four outside used pid four words long there are = record {
  long = ap (λ (xs : List ℕ). length xs) are.are ∙ long are.space are.held;
  there = ap (λ (xs : List ℕ). take 4 (drop pid xs)) are.are ∙ there are.space are.held;
}

-- four words that pass are the header of the object
pub four_header : (outside : Outside Space) (used pid : ℕ) (wanted : Option ℕ) (four : List ℕ) (header : Header) → 1 ≤ pid → pid + 4 ≤ used →
    ((space : Space) → outside.contents space → length space.words ≡ used) → ((space : Space) → outside.contents space → take 4 (drop pid space.words) ≡ four) →
    four ≡ header_words header → of_words pid used four (header_fault four) wanted ≡ None → IsObjectHeader outside pid wanted header
four_header outside used pid wanted four header low high long there spelled sound = record {
  spelled = λ space held. there space held ∙ spelled;
  whole = λ space held. four_tested used pid wanted four space.words low high (record { long = long space held; there = there space held }) ∙ sound;
}

-- what follows of an answer, and of a refusal
pub if_ok_both : {T E : Type 0} (P R : T → Type 0) (Q : Type 0) (r : Result T E) → ((x : T) → P x → Q → R x) → IfOk r P → OnOk r Q → IfOk r R
if_ok_both P R Q (Ok x) f p q = f x p q
if_ok_both P R Q (Err e) f p q = tt

pub if_err : {T E : Type 0} (P R : E → Type 0) (r : Result T E) → ((e : E) → P e → R e) → IfErr r P → IfErr r R
if_err P R (Ok x) f p = tt
if_err P R (Err e) f p = f e p

pub on_ok_of : {T E P : Type 0} (r : Result T E) → P → OnOk r P
on_ok_of (Ok x) p = p
on_ok_of (Err e) p = tt
