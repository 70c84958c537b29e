-- Words that are a run, computed.
use Rattle.std.proofs.Common.{◌≡◌, ℕ, refl, codes, replicate, List, [], ◌∷◌, Option, Some, None}
use Rattle.std.specs.Prelude.{◌^◌}
use Rattle.ps_args.specs.Words.{CommandOf, a_run, command_of}

abbrev runs : ℕ → ℕ → Option (List ℕ) → List ℕ → List (List ℕ) → Option CommandOf
runs area turns input file further = Some (a_run (record { area = area; turns = turns; input = input; file = file; further = further }))

row_1 : command_of (codes "run" ∷ codes "v" ∷ codes "a" ∷ []) ≡ runs 16384 (10 ^ 8) None (codes "a") ([])
row_1 = refl

row_2 : command_of (codes "run" ∷ codes "v" ∷ codes "--turns" ∷ codes "5" ∷ codes "a" ∷ []) ≡ runs 16384 5 None (codes "a") ([])
row_2 = refl

row_3 : command_of (codes "run" ∷ codes "v" ∷ codes "--turns=5" ∷ codes "a" ∷ []) ≡ runs 16384 5 None (codes "a") ([])
row_3 = refl

row_4 : command_of (codes "run" ∷ codes "v" ∷ codes "a" ∷ codes "--turns" ∷ codes "5" ∷ []) ≡ runs 16384 5 None (codes "a") ([])
row_4 = refl

row_5 : command_of (codes "run" ∷ codes "v" ∷ codes "a" ∷ codes "--turns=5" ∷ []) ≡ runs 16384 5 None (codes "a") ([])
row_5 = refl

row_6 : command_of (codes "run" ∷ codes "v" ∷ codes "--area" ∷ codes "16" ∷ codes "--turns" ∷ codes "5" ∷ codes "--input" ∷ codes "in" ∷ codes "a" ∷ []) ≡ runs 16 5 (Some (codes "in")) (codes "a") ([])
row_6 = refl

row_7 : command_of (codes "run" ∷ codes "v" ∷ codes "--turns" ∷ codes "5" ∷ codes "--area" ∷ codes "16" ∷ codes "a" ∷ []) ≡ runs 16 5 None (codes "a") ([])
row_7 = refl

row_8 : command_of (codes "run" ∷ codes "v" ∷ codes "--input=in" ∷ codes "a" ∷ codes "--area=16" ∷ []) ≡ runs 16 (10 ^ 8) (Some (codes "in")) (codes "a") ([])
row_8 = refl

row_9 : command_of (codes "run" ∷ codes "v" ∷ codes "a" ∷ codes "b" ∷ []) ≡ runs 16384 (10 ^ 8) None (codes "a") (codes "b" ∷ [])
row_9 = refl

row_10 : command_of (codes "run" ∷ codes "v" ∷ codes "a" ∷ codes "--turns" ∷ codes "5" ∷ codes "b" ∷ []) ≡ runs 16384 5 None (codes "a") (codes "b" ∷ [])
row_10 = refl

row_11 : command_of (codes "run" ∷ codes "v" ∷ codes "a" ∷ codes "b" ∷ codes "--turns=5" ∷ codes "c" ∷ codes "--input" ∷ codes "in" ∷ []) ≡ runs 16384 5 (Some (codes "in")) (codes "a") (codes "b" ∷ codes "c" ∷ [])
row_11 = refl

row_12 : command_of (codes "run" ∷ codes "v" ∷ codes "--" ∷ codes "a" ∷ []) ≡ runs 16384 (10 ^ 8) None (codes "a") ([])
row_12 = refl

row_13 : command_of (codes "run" ∷ codes "v" ∷ codes "--" ∷ codes "-" ∷ []) ≡ runs 16384 (10 ^ 8) None (codes "-") ([])
row_13 = refl

row_14 : command_of (codes "run" ∷ codes "v" ∷ codes "a" ∷ codes "--" ∷ codes "b" ∷ []) ≡ runs 16384 (10 ^ 8) None (codes "a") (codes "b" ∷ [])
row_14 = refl

row_15 : command_of (codes "run" ∷ codes "v" ∷ codes "--turns" ∷ codes "1000000000000" ∷ codes "a" ∷ []) ≡ runs 16384 (10 ^ 12) None (codes "a") ([])
row_15 = refl

row_16 : command_of (codes "run" ∷ codes "v" ∷ codes "--turns" ∷ codes "0" ∷ codes "a" ∷ []) ≡ runs 16384 0 None (codes "a") ([])
row_16 = refl

row_17 : command_of (codes "run" ∷ codes "v" ∷ codes "--turns" ∷ codes "0000000000005" ∷ codes "a" ∷ []) ≡ runs 16384 5 None (codes "a") ([])
row_17 = refl

row_18 : command_of (codes "run" ∷ codes "v" ∷ codes "--area" ∷ codes "1" ∷ codes "a" ∷ []) ≡ runs 1 (10 ^ 8) None (codes "a") ([])
row_18 = refl

row_19 : command_of (codes "run" ∷ codes "v" ∷ codes "--area" ∷ codes "262144" ∷ codes "a" ∷ []) ≡ runs 262144 (10 ^ 8) None (codes "a") ([])
row_19 = refl

row_20 : command_of (codes "run" ∷ codes "v" ∷ codes "--area" ∷ codes "000016" ∷ codes "a" ∷ []) ≡ runs 16 (10 ^ 8) None (codes "a") ([])
row_20 = refl

row_21 : command_of (codes "run" ∷ codes "v" ∷ codes "--input" ∷ codes "-" ∷ codes "a" ∷ []) ≡ runs 16384 (10 ^ 8) (Some (codes "-")) (codes "a") ([])
row_21 = refl

row_22 : command_of (codes "run" ∷ codes "v" ∷ codes "--input=" ∷ codes "a" ∷ []) ≡ runs 16384 (10 ^ 8) (Some (codes "")) (codes "a") ([])
row_22 = refl

row_23 : command_of (codes "run" ∷ codes "v" ∷ codes "--input" ∷ codes "" ∷ codes "a" ∷ []) ≡ runs 16384 (10 ^ 8) (Some (codes "")) (codes "a") ([])
row_23 = refl

row_24 : command_of (codes "run" ∷ codes "v" ∷ codes "--input=a=b" ∷ codes "c" ∷ []) ≡ runs 16384 (10 ^ 8) (Some (codes "a=b")) (codes "c") ([])
row_24 = refl

row_25 : command_of (codes "run" ∷ codes "v" ∷ codes "--input" ∷ codes "a=b" ∷ codes "c" ∷ []) ≡ runs 16384 (10 ^ 8) (Some (codes "a=b")) (codes "c") ([])
row_25 = refl

row_26 : command_of (codes "run" ∷ codes "v" ∷ codes "--input" ∷ codes "help" ∷ codes "help" ∷ []) ≡ runs 16384 (10 ^ 8) (Some (codes "help")) (codes "help") ([])
row_26 = refl

row_27 : command_of (codes "run" ∷ codes "v" ∷ codes "-" ∷ []) ≡ runs 16384 (10 ^ 8) None (codes "-") ([])
row_27 = refl

row_28 : command_of (codes "run" ∷ codes "v" ∷ codes "" ∷ []) ≡ runs 16384 (10 ^ 8) None (codes "") ([])
row_28 = refl

row_29 : command_of (codes "run" ∷ codes "v" ∷ codes "5" ∷ []) ≡ runs 16384 (10 ^ 8) None (codes "5") ([])
row_29 = refl

row_30 : command_of (codes "run" ∷ codes "v" ∷ codes "é.ps" ∷ []) ≡ runs 16384 (10 ^ 8) None (codes "é.ps") ([])
row_30 = refl

-- 64 texts
row_31 : command_of (codes "run" ∷ codes "v" ∷ replicate 64 (codes "a")) ≡ runs 16384 (10 ^ 8) None (codes "a") (replicate 63 (codes "a"))
row_31 = refl
