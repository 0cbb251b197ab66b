use Rattle.std.proofs.Common.{◌≡◌, take}
use Rattle.gc_cli.specs.Summary.{tally_of}
use Rattle.gc_cli.proofs.summary.Tally.of.Given as goal

-- the replies so far are counted
abbrev pub invariant-loop-reply : goal.invariant-loop-reply
invariant-loop-reply l = l.tally ≡ tally_of (take l.reply-index l.replies)
