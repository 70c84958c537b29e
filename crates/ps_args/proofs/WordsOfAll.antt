-- Words of the other commands, words that ask for a text, and words that are neither, computed.
use Rattle.std.proofs.Common.{◌≡◌, ℕ, refl, codes, List, [], ◌∷◌, Option, Some, None}
use Rattle.std.specs.Prelude.{◌^◌}
use Rattle.ps_args.specs.Words.{CommandOf, a_run, a_text, a_volume, command_of}
use Rattle.ps_args.specs.declared.help.TheConstants.{FORMAT_HELP, HELP, RUN_HELP, VERSION}

abbrev runs : ℕ → ℕ → Option (List ℕ) → List ℕ → List (List ℕ) → Option CommandOf
runs area turns input file further = Some (a_run (record { area = area; turns = turns; input = input; file = file; further = further }))

row_1 : command_of (codes "format" ∷ codes "v" ∷ codes "32" ∷ []) ≡ Some (a_volume 32)
row_1 = refl

row_2 : command_of (codes "format" ∷ codes "v" ∷ codes "1048576" ∷ []) ≡ Some (a_volume 1048576)
row_2 = refl

row_3 : command_of (codes "format" ∷ codes "v" ∷ codes "0000064" ∷ []) ≡ Some (a_volume 64)
row_3 = refl

row_4 : command_of (codes "format" ∷ codes "v" ∷ codes "--" ∷ codes "64" ∷ []) ≡ Some (a_volume 64)
row_4 = refl

row_5 : command_of (codes "format" ∷ codes "v" ∷ []) ≡ None
row_5 = refl

row_6 : command_of (codes "format" ∷ codes "v" ∷ codes "31" ∷ []) ≡ None
row_6 = refl

row_7 : command_of (codes "format" ∷ codes "v" ∷ codes "1048577" ∷ []) ≡ None
row_7 = refl

row_8 : command_of (codes "format" ∷ codes "v" ∷ codes "00000064" ∷ []) ≡ None
row_8 = refl

row_9 : command_of (codes "format" ∷ codes "v" ∷ codes "+64" ∷ []) ≡ None
row_9 = refl

row_10 : command_of (codes "format" ∷ codes "v" ∷ codes "" ∷ []) ≡ None
row_10 = refl

row_11 : command_of (codes "format" ∷ codes "v" ∷ codes "64" ∷ codes "64" ∷ []) ≡ None
row_11 = refl

row_12 : command_of (codes "format" ∷ codes "v" ∷ codes "-64" ∷ []) ≡ None
row_12 = refl

row_13 : command_of (codes "format" ∷ codes "v" ∷ codes "--" ∷ codes "-64" ∷ []) ≡ None
row_13 = refl

row_14 : command_of (codes "format" ∷ codes "v" ∷ codes "--pages" ∷ codes "64" ∷ []) ≡ None
row_14 = refl

row_15 : command_of (codes "format" ∷ codes "v" ∷ codes "--area" ∷ codes "64" ∷ codes "64" ∷ []) ≡ None
row_15 = refl

row_16 : command_of (codes "format" ∷ codes "v" ∷ codes "64x" ∷ []) ≡ None
row_16 = refl

row_17 : command_of (codes "format" ∷ codes "-v" ∷ codes "64" ∷ []) ≡ None
row_17 = refl

row_18 : command_of (codes "format" ∷ codes "v" ∷ codes "--help" ∷ []) ≡ None
row_18 = refl

row_19 : command_of ([]) ≡ None
row_19 = refl

row_20 : command_of (codes "" ∷ []) ≡ None
row_20 = refl

row_21 : command_of (codes "run" ∷ []) ≡ None
row_21 = refl

row_22 : command_of (codes "format" ∷ []) ≡ None
row_22 = refl

row_23 : command_of (codes "run" ∷ codes "-v" ∷ codes "a" ∷ []) ≡ None
row_23 = refl

row_24 : command_of (codes "run" ∷ codes "--" ∷ codes "a" ∷ []) ≡ None
row_24 = refl

row_25 : command_of (codes "run" ∷ codes "-" ∷ codes "a" ∷ []) ≡ None
row_25 = refl

row_26 : command_of (codes "run" ∷ codes "" ∷ codes "a" ∷ []) ≡ runs 16384 (10 ^ 8) None (codes "a") ([])
row_26 = refl

row_27 : command_of (codes "walk" ∷ codes "v" ∷ codes "a" ∷ []) ≡ None
row_27 = refl

row_28 : command_of (codes "Run" ∷ codes "v" ∷ codes "a" ∷ []) ≡ None
row_28 = refl

row_29 : command_of (codes "demo" ∷ codes "v" ∷ codes "3" ∷ []) ≡ None
row_29 = refl

row_30 : command_of (codes "mix" ∷ codes "v" ∷ codes "s" ∷ codes "a" ∷ codes "b" ∷ []) ≡ None
row_30 = refl

row_31 : command_of (codes "dump" ∷ codes "v" ∷ codes "f" ∷ []) ≡ None
row_31 = refl

row_32 : command_of (codes "--help" ∷ []) ≡ Some (a_text HELP.now)
row_32 = refl

row_33 : command_of (codes "help" ∷ []) ≡ Some (a_text HELP.now)
row_33 = refl

row_34 : command_of (codes "--version" ∷ []) ≡ Some (a_text VERSION.now)
row_34 = refl

row_35 : command_of (codes "run" ∷ codes "--help" ∷ []) ≡ Some (a_text RUN_HELP.now)
row_35 = refl

row_36 : command_of (codes "format" ∷ codes "--help" ∷ []) ≡ Some (a_text FORMAT_HELP.now)
row_36 = refl

row_37 : command_of (codes "-h" ∷ []) ≡ None
row_37 = refl

row_38 : command_of (codes "-V" ∷ []) ≡ None
row_38 = refl

row_39 : command_of (codes "version" ∷ []) ≡ None
row_39 = refl

row_40 : command_of (codes "--help" ∷ codes "run" ∷ []) ≡ None
row_40 = refl

row_41 : command_of (codes "help" ∷ codes "run" ∷ []) ≡ None
row_41 = refl

row_42 : command_of (codes "--version" ∷ codes "v" ∷ []) ≡ None
row_42 = refl

row_43 : command_of (codes "walk" ∷ codes "--help" ∷ []) ≡ None
row_43 = refl

row_44 : command_of (codes "demo" ∷ codes "--help" ∷ []) ≡ None
row_44 = refl

row_45 : command_of (codes "run" ∷ codes "--help" ∷ codes "a" ∷ []) ≡ None
row_45 = refl

row_46 : command_of (codes "run" ∷ codes "-h" ∷ []) ≡ None
row_46 = refl

row_47 : command_of (codes "run" ∷ codes "--version" ∷ []) ≡ None
row_47 = refl

row_48 : command_of (codes "run" ∷ codes "help" ∷ []) ≡ None
row_48 = refl
