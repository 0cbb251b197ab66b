-- The printed text, one line after another.
use Rattle.std.proofs.Common.{◌≡◌, ℕ, suc, ◌+◌, List, ◌++◌, drop, Some, slice_get, refl, ap, arith}
use Rattle.std.proofs.Math.Numerals.{add-one}
use Rattle.gc_model.specs.declared.entry.RunReport.{RunReport}
use Rattle.gc_model.specs.declared.reply.Reply.{Reply}
use Rattle.gc_script.specs.Script.{Script, number_of_line}
use Rattle.gc_cli.specs.declared.opts.Opts.{Opts}
use Rattle.gc_cli.specs.Text.{lines_text, printed_text, reply_line, report_line, reports_from}
use Rattle.gc_cli.proofs.Lists.{drop-at}

-- the text of the replies that are left begins with the line of the next
pub lines_text-next : (script : Script) (replies : List Reply) (i : ℕ) (reply : Reply) → slice_get replies i ≡ Some reply
    → lines_text (number_of_line script i) (drop i replies) ≡ reply_line (number_of_line script i) reply ++ lines_text
    (number_of_line script (i + 1)) (drop (i + 1) replies)
lines_text-next script replies i reply h =
    rw (drop-at replies i reply h, add-one i) (ap (λ (n : ℕ). reply_line (number_of_line script i) reply ++ lines_text n
    (drop (suc i) replies)) (omega arith))

-- the text of the reports that are left begins with the line of the next
pub reports_from-next : (number : ℕ) (reports : List RunReport) (i : ℕ) (report : RunReport) → slice_get reports i ≡ Some report
    → reports_from number (drop i reports) ≡ report_line number report ++ reports_from (number + 1) (drop (i + 1) reports)
reports_from-next number reports i report h = rw (drop-at reports i report h, add-one i) refl

-- the text of the same script, replies and reports
pub same-text : (opts : Opts) (one other : Script) (replies own : List Reply) (reports all : List RunReport) → one ≡ other
    → replies ≡ own → reports ≡ all → printed_text opts one replies reports ≡ printed_text opts other own all
same-text opts one other replies own reports all same answered reported i = printed_text opts (same i) (answered i) (reported i)
