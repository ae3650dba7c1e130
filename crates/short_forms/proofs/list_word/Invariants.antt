-- The loop has listed the bits before number c.
use Prim.Native.Nat.{◌+◌, ◌-◌}
use Rattle.short_forms.proofs.Sides.{WordListed}
use Rattle.short_forms.proofs.list_word.Given as goal

abbrev pub invariant-loop-rest : goal.invariant-loop-rest
invariant-loop-rest l = WordListed l.word l.first l.initial.buffer l.buffer l.rest l.c l.at

abbrev pub decreases-loop-rest : goal.decreases-loop-rest
decreases-loop-rest l = l.first + 64 - l.c
