use Rattle.std.proofs.Common.{◌+◌, ◌*◌, length}
use Rattle.gc_workers.proofs.fan_out.+fn-play_all-join+arg3+play_all.Given as goal

-- a pass less each time; the closure stands between two calls
abbrev pub decreases-join+arg3 : goal.decreases-join+arg3
decreases-join+arg3 g l = 2 * length l.passes.items + 1

abbrev pub decreases-play_all : goal.decreases-play_all
decreases-play_all g l = 2 * length l.passes.items
