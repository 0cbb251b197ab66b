-- The summary of replies: how many there are of each kind, and the sum of the numbers.
use Rattle.std.specs.Prelude.{ℕ, ◌^◌, ◌%◌, List, length, ◌++◌, Bool, true, false, count_by, sum_by, codes, decimal}
use Rattle.gc_model.specs.declared.reply.Reply.{Reply}
use Rattle.gc_model.specs.declared.reply.Reply.TheVariants.{Full, Number, Yes, No, Found, Nil, NilBase, Range, Blocked, NotBlocked}
use Rattle.gc_model.specs.History.{is_done}
use Rattle.gc_cli.specs.declared.summary.Tally.{Tally}

-- whether there was no place for a new object
abbrev pub is_full : Reply → Bool
is_full Full = true
is_full reply = false

-- whether a number was asked for
abbrev pub is_number : Reply → Bool
is_number (Number number) = true
is_number reply = false

-- whether the answer is yes
abbrev pub is_yes : Reply → Bool
is_yes Yes = true
is_yes reply = false

-- whether the answer is no, with or without the number that stands there
abbrev pub is_no : Reply → Bool
is_no No = true
is_no (Found number) = true
is_no reply = false

-- whether the call was refused
abbrev pub is_refusal : Reply → Bool
is_refusal Nil = true
is_refusal NilBase = true
is_refusal Range = true
is_refusal Blocked = true
is_refusal NotBlocked = true
is_refusal reply = false

-- the number that was asked for; 0 where none was
abbrev pub asked_number : Reply → ℕ
asked_number (Number number) = number
asked_number reply = 0

-- how many replies there are, and how many of each kind; and the sum of the numbers modulo 2^64
abbrev pub tally_of : List Reply → Tally
tally_of replies =
    record {
      calls = length replies;
      done = count_by is_done replies;
      full = count_by is_full replies;
      numbers = count_by is_number replies;
      sum = sum_by asked_number replies % 2 ^ 64;
      yes = count_by is_yes replies;
      no = count_by is_no replies;
      refused = count_by is_refusal replies;
    }

-- the line of a tally: each number behind its word
abbrev pub tally_text : Tally → List ℕ
tally_text tally =
    codes "calls " ++ decimal tally.calls ++ codes " done " ++ decimal tally.done ++ codes " full " ++ decimal tally.full
    ++ codes " numbers " ++ decimal tally.numbers ++ codes " sum " ++ decimal tally.sum ++ codes " yes " ++ decimal tally.yes
    ++ codes " no " ++ decimal tally.no ++ codes " refused " ++ decimal tally.refused ++ codes "\n"

-- the summary of replies
abbrev pub summary_text : List Reply → List ℕ
summary_text replies = tally_text (tally_of replies)
