use Rattle.std.proofs.Common.{◌+◌, ◌-◌, length}
use Rattle.runs.proofs.making.items_of.Given as goal

abbrev pub decreases-loop-next : goal.decreases-loop-next
decreases-loop-next l =
    (length l.declared - l.d) + (length l.log.commits - l.c) + (length l.log.entries - l.e)
