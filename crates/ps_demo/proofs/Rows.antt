-- Texts of the demo program, computed.
use Rattle.std.proofs.Common.{◌≡◌, refl, codes}
use Rattle.std.specs.Fmt.{digits}
use Rattle.ps_demo.specs.Demo.{entry_line, opening_lines, entry_lines, closing_lines, text_of_lines, demo_text}

-- the entry 9,999 of 10,000
row_1 : entry_line 10000 9999 ≡ codes "s.enter(\"k10009999\", d, entry(\"town9999\", 19999))"
unfolding digits entry_line
row_1 = refl

-- one entry
row_2 : demo_text 1 ≡
    codes "structure entry(string town; int code)\nlet d := open.database(\"demo\", \"demo\", \"write\")\nif d is error.record do d := create.database(\"demo\", \"demo\")\ns.enter(\"k1001\", d, entry(\"town1\", 2))\nlet sum := 0\nlet count = s.scan(d, proc(string k; pntr p -> bool); { sum := sum + p(code); true })\nlet e = commit()\nwrite 1, \" \", count, \" \", cardinality(d), \" \", sum, \"'n\"\n"
unfolding digits entry_line opening_lines entry_lines closing_lines text_of_lines demo_text
row_2 = refl

-- three entries
row_3 : demo_text 3 ≡
    codes "structure entry(string town; int code)\nlet d := open.database(\"demo\", \"demo\", \"write\")\nif d is error.record do d := create.database(\"demo\", \"demo\")\ns.enter(\"k3001\", d, entry(\"town1\", 4))\ns.enter(\"k3002\", d, entry(\"town2\", 5))\ns.enter(\"k3003\", d, entry(\"town3\", 6))\nlet sum := 0\nlet count = s.scan(d, proc(string k; pntr p -> bool); { sum := sum + p(code); true })\nlet e = commit()\nwrite 3, \" \", count, \" \", cardinality(d), \" \", sum, \"'n\"\n"
unfolding digits entry_line opening_lines entry_lines closing_lines text_of_lines demo_text
row_3 = refl
