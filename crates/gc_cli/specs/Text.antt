-- The printed text.
use Rattle.std.specs.Prelude.{ℕ, ◌+◌, List, [], ◌∷◌, ◌++◌, if◌then◌else◌, codes, decimal}
use Rattle.gc_model.specs.declared.entry.RunReport.{RunReport}
use Rattle.gc_model.specs.declared.entry.RunReport.TheVariants as report
use Rattle.gc_model.specs.declared.reply.Reply.{Reply}
use Rattle.gc_model.specs.declared.reply.Reply.TheVariants.{Done, Full, Number, Yes, No, Found, Nil, NilBase, Range, Blocked, NotBlocked}
use Rattle.gc_model.specs.History.{History, replies_by_line}
use Rattle.gc_script.specs.Script.{Script, number_of_line}
use Rattle.gc_solo.specs.Reports.{reports_of}
use Rattle.gc_cli.specs.Summary.{summary_text}
use Rattle.gc_cli.specs.declared.opts.Opts.{Opts}

-- the text of a reply
abbrev pub reply_text : Reply → List ℕ
reply_text Done = codes "done"
reply_text Full = codes "full"
reply_text (Number number) = decimal number
reply_text Yes = codes "yes"
reply_text No = codes "no"
reply_text (Found number) = codes "no " ++ decimal number
reply_text Nil = codes "nil"
reply_text NilBase = codes "nil base"
reply_text Range = codes "range"
reply_text Blocked = codes "blocked"
reply_text NotBlocked = codes "not blocked"

-- a line of the output: the line's number, a space, the reply's text
abbrev pub reply_line : ℕ → Reply → List ℕ
reply_line number reply = decimal number ++ codes " " ++ reply_text reply ++ codes "\n"

-- the replies to the lines from this number on
abbrev pub lines_text : ℕ → List Reply → List ℕ
lines_text number [] = []
lines_text number (reply ∷ replies) = reply_line number reply ++ lines_text (number + 1) replies

-- the replies to a script's lines, by line number
abbrev pub replies_text : Script → List Reply → List ℕ
replies_text script replies = lines_text (number_of_line script 0) replies

-- the text of a collection's report
abbrev pub report_text : RunReport → List ℕ
report_text report.Minor = codes "minor"
report_text (report.Full objects words) = codes "full objects " ++ decimal objects ++ codes " words " ++ decimal words

-- a line of the reports: `run`, the collection's number, the report's text
abbrev pub report_line : ℕ → RunReport → List ℕ
report_line number report = codes "run " ++ decimal number ++ codes " " ++ report_text report ++ codes "\n"

-- the reports of the collections from this number on
abbrev pub reports_from : ℕ → List RunReport → List ℕ
reports_from number [] = []
reports_from number (report ∷ reports) = report_line number report ++ reports_from (number + 1) reports

-- the reports of collections, which are counted from 1
abbrev pub reports_text : List RunReport → List ℕ
reports_text reports = reports_from 1 reports

-- the summary of the replies where it is asked for, and else the replies to a script's lines
abbrev pub summary_or_replies : Opts → Script → List Reply → List ℕ
summary_or_replies opts script replies = if opts.summary then summary_text replies else replies_text script replies

-- the printed text of replies and reports, by the options: the reports stand behind the replies or their summary, where they
-- are asked for
unfoldable pub printed_text : Opts → Script → List Reply → List RunReport → List ℕ
printed_text opts script replies reports =
    summary_or_replies opts script replies ++ (if opts.reports then reports_text reports else [])

-- the printed text of a script and its history: the replies to its lines or their summary, and the reports of the collections
abbrev pub text_of : Opts → Script → History → List ℕ
text_of opts script history = printed_text opts script (replies_by_line history [] script.lines) (reports_of history)
