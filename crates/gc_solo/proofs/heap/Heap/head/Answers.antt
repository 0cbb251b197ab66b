use Rattle.std.proofs.Common.{rules, ◌≡◌, ◌<◌, arith}
use Rattle.gc_layout.specs.Head.{head_word}
use Rattle.gc_placement.specs.Headers.{head_of}
use Rattle.gc_solo.proofs.heap.Heap.head.Goals as goal

pub unwrap-requires : goal.unwrap-requires
unwrap-requires c =
    let word = c.word.result in
    let below : (head_of word).ty.0 < 256 = omega arith in
    let is : head_word (head_of word) ≡ word = rw c.word.ensures c.requires.header.1.header in
    rw (c.of_word.ensures.exact (head_of word) below is) (search rules)
