-- Words behind the volume that are no run, computed.
use Rattle.std.proofs.Common.{◌≡◌, refl, codes, replicate, [], ◌∷◌, None}
use Rattle.ps_args.specs.Words.{command_of}

row_1 : command_of (codes "run" ∷ codes "v" ∷ []) ≡ None
row_1 = refl

row_2 : command_of (codes "run" ∷ codes "v" ∷ codes "--turns" ∷ codes "a" ∷ []) ≡ None
row_2 = refl

row_3 : command_of (codes "run" ∷ codes "v" ∷ codes "--turns" ∷ codes "5" ∷ []) ≡ None
row_3 = refl

row_4 : command_of (codes "run" ∷ codes "v" ∷ codes "a" ∷ codes "--turns" ∷ []) ≡ None
row_4 = refl

row_5 : command_of (codes "run" ∷ codes "v" ∷ codes "a" ∷ codes "--turns" ∷ codes "--" ∷ codes "5" ∷ []) ≡ None
row_5 = refl

row_6 : command_of (codes "run" ∷ codes "v" ∷ codes "--turns" ∷ codes "5" ∷ codes "--turns" ∷ codes "5" ∷ codes "a" ∷ []) ≡ None
row_6 = refl

row_7 : command_of (codes "run" ∷ codes "v" ∷ codes "--turns=5" ∷ codes "a" ∷ codes "--turns" ∷ codes "6" ∷ []) ≡ None
row_7 = refl

row_8 : command_of (codes "run" ∷ codes "v" ∷ codes "--input" ∷ codes "x" ∷ codes "--input=x" ∷ codes "a" ∷ []) ≡ None
row_8 = refl

row_9 : command_of (codes "run" ∷ codes "v" ∷ codes "--area=16" ∷ codes "--area=16" ∷ codes "a" ∷ []) ≡ None
row_9 = refl

row_10 : command_of (codes "run" ∷ codes "v" ∷ codes "--turns" ∷ codes "-5" ∷ codes "a" ∷ []) ≡ None
row_10 = refl

row_11 : command_of (codes "run" ∷ codes "v" ∷ codes "--turns=-5" ∷ codes "a" ∷ []) ≡ None
row_11 = refl

row_12 : command_of (codes "run" ∷ codes "v" ∷ codes "--turns=" ∷ codes "a" ∷ []) ≡ None
row_12 = refl

row_13 : command_of (codes "run" ∷ codes "v" ∷ codes "--turns" ∷ codes "" ∷ codes "a" ∷ []) ≡ None
row_13 = refl

row_14 : command_of (codes "run" ∷ codes "v" ∷ codes "--turns" ∷ codes "+5" ∷ codes "a" ∷ []) ≡ None
row_14 = refl

row_15 : command_of (codes "run" ∷ codes "v" ∷ codes "--turns" ∷ codes "5x" ∷ codes "a" ∷ []) ≡ None
row_15 = refl

row_16 : command_of (codes "run" ∷ codes "v" ∷ codes "--turns" ∷ codes "1000000000001" ∷ codes "a" ∷ []) ≡ None
row_16 = refl

row_17 : command_of (codes "run" ∷ codes "v" ∷ codes "--turns" ∷ codes "00000000000005" ∷ codes "a" ∷ []) ≡ None
row_17 = refl

row_18 : command_of (codes "run" ∷ codes "v" ∷ codes "--turns=5=6" ∷ codes "a" ∷ []) ≡ None
row_18 = refl

row_19 : command_of (codes "run" ∷ codes "v" ∷ codes "--area" ∷ codes "0" ∷ codes "a" ∷ []) ≡ None
row_19 = refl

row_20 : command_of (codes "run" ∷ codes "v" ∷ codes "--area" ∷ codes "262145" ∷ codes "a" ∷ []) ≡ None
row_20 = refl

row_21 : command_of (codes "run" ∷ codes "v" ∷ codes "--area=0000016" ∷ codes "a" ∷ []) ≡ None
row_21 = refl

row_22 : command_of (codes "run" ∷ codes "v" ∷ codes "--area" ∷ codes "--turns" ∷ codes "5" ∷ codes "a" ∷ []) ≡ None
row_22 = refl

row_23 : command_of (codes "run" ∷ codes "v" ∷ codes "--input" ∷ codes "-x" ∷ codes "a" ∷ []) ≡ None
row_23 = refl

row_24 : command_of (codes "run" ∷ codes "v" ∷ codes "--input" ∷ codes "--" ∷ codes "a" ∷ []) ≡ None
row_24 = refl

row_25 : command_of (codes "run" ∷ codes "v" ∷ codes "--input" ∷ []) ≡ None
row_25 = refl

row_26 : command_of (codes "run" ∷ codes "v" ∷ codes "--" ∷ []) ≡ None
row_26 = refl

row_27 : command_of (codes "run" ∷ codes "v" ∷ codes "-a" ∷ []) ≡ None
row_27 = refl

row_28 : command_of (codes "run" ∷ codes "v" ∷ codes "--a" ∷ []) ≡ None
row_28 = refl

row_29 : command_of (codes "run" ∷ codes "v" ∷ codes "--tur" ∷ codes "5" ∷ codes "a" ∷ []) ≡ None
row_29 = refl

row_30 : command_of (codes "run" ∷ codes "v" ∷ codes "-t" ∷ codes "5" ∷ codes "a" ∷ []) ≡ None
row_30 = refl

row_31 : command_of (codes "run" ∷ codes "v" ∷ codes "--turns5" ∷ codes "a" ∷ []) ≡ None
row_31 = refl

row_32 : command_of (codes "run" ∷ codes "v" ∷ codes "---turns" ∷ codes "5" ∷ codes "a" ∷ []) ≡ None
row_32 = refl

row_33 : command_of (codes "run" ∷ codes "v" ∷ codes "--=5" ∷ codes "a" ∷ []) ≡ None
row_33 = refl

row_34 : command_of (codes "run" ∷ codes "v" ∷ codes "--help" ∷ codes "a" ∷ []) ≡ None
row_34 = refl

row_35 : command_of (codes "run" ∷ codes "v" ∷ codes "-h" ∷ codes "a" ∷ []) ≡ None
row_35 = refl

row_36 : command_of (codes "run" ∷ codes "v" ∷ codes "a" ∷ codes "--help" ∷ []) ≡ None
row_36 = refl

row_37 : command_of (codes "run" ∷ codes "v" ∷ codes "--version" ∷ codes "a" ∷ []) ≡ None
row_37 = refl

row_38 : command_of (codes "run" ∷ codes "v" ∷ codes "a" ∷ codes "-5" ∷ []) ≡ None
row_38 = refl

-- 65 texts, and 65 with an option between them
row_39 : command_of (codes "run" ∷ codes "v" ∷ replicate 65 (codes "a")) ≡ None
row_39 = refl

row_40 : command_of (codes "run" ∷ codes "v" ∷ codes "a" ∷ codes "--turns=5" ∷ replicate 64 (codes "a")) ≡ None
row_40 = refl

-- names that begin with `-`, where no word is an option
row_41 : command_of (codes "run" ∷ codes "v" ∷ codes "--" ∷ codes "-a" ∷ []) ≡ None
row_41 = refl

row_42 : command_of (codes "run" ∷ codes "v" ∷ codes "--turns" ∷ codes "5" ∷ codes "--" ∷ codes "--area" ∷ []) ≡ None
row_42 = refl

row_43 : command_of (codes "run" ∷ codes "v" ∷ codes "--" ∷ codes "--" ∷ []) ≡ None
row_43 = refl

row_44 : command_of (codes "run" ∷ codes "v" ∷ codes "a" ∷ codes "--" ∷ codes "--turns" ∷ codes "5" ∷ []) ≡ None
row_44 = refl

row_45 : command_of (codes "run" ∷ codes "v" ∷ codes "--input=-x" ∷ codes "a" ∷ []) ≡ None
row_45 = refl
