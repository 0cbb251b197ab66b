use Rattle.std.proofs.Common.{length}
use Rattle.gc_bay.proofs.tests.the_grey_list_is_filled_and_emptied.Given as goal

-- each turn takes one address off
abbrev pub decreases-loop-a : goal.decreases-loop-a
decreases-loop-a g l = length l.bay.grey
