-- A loop over a range, and what its view says of it.
use Rattle.std.proofs.Common.{◌≡◌, refl}
use Rattle.std.specs.declared.alloc.Global.{Global}
use Rattle.std.specs.declared.boxed.Box.{Box}
use Rattle.ps_tree.specs.declared.rough.Rough.{Rough}
use Rattle.ps_tree.specs.declared.rough.RoughRange.{RoughRange, out-RoughRange}
use Rattle.ps_tree.specs.declared.rough.RoughForm.TheBlock.{struct-RoughRange, RoughItem-w-None', RoughItem-w-Some'}
use Rattle.ps_tree.specs.declared.rough.RoughForm.TheVariants as code
use Rattle.ps_tree.specs.Phrase.{at, named, form_of, phrase_of}
use Rattle.ps_tree.specs.Phrase as form
use Rattle.ps_tree.specs.PhraseLists.{maybe_in}

for_parts : (name : _) (range : RoughRange) (o r s s_line : _) → form_of (code.For' name o range r s s_line) ≡ form.For (named name.value) (phrase_of (out-RoughRange range).a) (phrase_of (out-RoughRange range).b) (maybe_in (out-RoughRange range).c) (at (form_of s) s_line)
unfolding out-RoughRange denote.Hole.Carrier.out
for_parts name (struct-RoughRange p a a_line q b b_line RoughItem-w-None') o r s s_line = refl
for_parts name (struct-RoughRange p a a_line q b b_line (RoughItem-w-Some' t c c_line)) o r s s_line = refl

-- a loop over a range
pub form_of-For : (name : _) (range : Box RoughRange Global) (s : Rough) → form_of (code.For name range s) ≡ form.For (named name.value) (phrase_of (out-RoughRange range.value).a) (phrase_of (out-RoughRange range.value).b) (maybe_in (out-RoughRange range.value).c) (phrase_of s)
form_of-For name range s = for_parts name range.value record { ptr = range.ptr; alloc = range.alloc; value = tt } record { ptr = s.form.ptr; alloc = s.form.alloc; value = tt } s.form.value s.line
