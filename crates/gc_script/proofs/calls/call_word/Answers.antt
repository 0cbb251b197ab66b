use Rattle.std.proofs.Common.{◌≡◌, refl, rules, arith, codes}
use Rattle.std.proofs.lemmas.Slice.Eq.{text_from_reads}
use Rattle.gc_script.specs.Calls.{call_word}
use Rattle.gc_script.proofs.calls.call_word.Goals as goal

pub returns-in-unblock : goal.returns-in-unblock
unfolding call_word
returns-in-unblock c =
    let is : c.args.word.now ≡ codes "unblock" = text_from_reads _ (codes "unblock") (omega arith) (search rules) in
    rw is refl

pub returns-in-safepoint : goal.returns-in-safepoint
unfolding call_word
returns-in-safepoint c =
    let is : c.args.word.now ≡ codes "safepoint" = text_from_reads _ (codes "safepoint") (omega arith) (search rules) in
    rw is refl

pub returns-in-collect : goal.returns-in-collect
unfolding call_word
returns-in-collect c =
    let is : c.args.word.now ≡ codes "collect" = text_from_reads _ (codes "collect") (omega arith) (search rules) in
    rw is refl
