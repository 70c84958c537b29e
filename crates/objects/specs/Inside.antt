-- What is so of all objects beside the area: what was looked up of it.
use Rattle.joint_ops.specs.swizzle.Heap.{Heap}
use Rattle.objects.specs.Known as known
use Rattle.objects.specs.declared.objects.Objects.TheInside.{Inside}

abbrev pub heap_of : Inside → Heap
heap_of o = o.sw

abbrev pub IsRight : Inside → Type 0
IsRight o = known.IsRight o.sw o.known
