-- The table of calls, both ways; and what a call line that is read says.
use Rattle.std.proofs.Common.{◌≡◌, ℕ, ◌+◌, List, [], ◌∷◌, length, Bool, true, false, Some, Ok, refl, sym, subst, ap, ◌∙◌, arith, ◌==◌, if◌then◌else◌}
use Rattle.std.proofs.lemmas.Bool.{eqb-true}
use Rattle.std.specs.Str.{bytes_eq}
use Rattle.gc_model.specs.Answer.{Suits}
use Rattle.gc_model.specs.declared.call.Call.{Call}
use Rattle.gc_model.specs.declared.call.Call.TheVariants as calls
use Rattle.gc_model.specs.declared.call.Line.{Line}
use Rattle.gc_script.specs.declared.calls.CallWord.{CallWord}
use Rattle.gc_script.specs.declared.calls.CallWord.TheVariants.{New, Get, Put, Ask, Set, Swap, Same, Copy, Clear, Share, Take, Await, Safepoint, Collect, Block, Unblock}
use Rattle.gc_script.specs.declared.calls.Kind.{Kind}
use Rattle.gc_script.specs.Calls.{each_call_word, spelled_among, call_word, spelled_word, kinds_of, call_from, parts_of, AreOfKinds, IsReadable}
use Rattle.gc_script.specs.Grammar.{counted_word, call_of, call_line}
use Rattle.gc_script.specs.Laws.{IsReadLine}
use Rattle.gc_script.specs.Script.{Preamble, IsFitLine, IsScriptLine}
use Rattle.gc_script.specs.Words.{number_below, numbers_of}
use Rattle.gc_script.specs.Written.{words_of_parts, line_words}
use Rattle.gc_script.proofs.KindLemmas.{number_below-written, number_below-fits, words-read}
use Rattle.gc_script.proofs.Passed.{if-passes, both-pass, bytes_eq-true}

-- a call word that is read is written as it was
spelled_among-written : (among : List CallWord) (word : List ℕ) (kind : CallWord)
    → spelled_among among word ≡ Ok kind → word ≡ spelled_word kind
spelled_among-written [] word kind h = absurd cc
spelled_among-written (here ∷ others) word kind h =
    go (bytes_eq word (spelled_word here)) (bytes_eq-true word (spelled_word here)) h
    (spelled_among-written others word kind) where
      go : (b : Bool) → (b ≡ true → word ≡ spelled_word here) → (if b then Ok here else spelled_among others word) ≡ Ok kind
          → (spelled_among others word ≡ Ok kind → word ≡ spelled_word kind) → word ≡ spelled_word kind
      go true same is_here behind = let is : here ≡ kind = cc in same refl ∙ ap spelled_word is
      go false same is_other behind = behind is_other

-- a call that is made of a call word and numbers has these parts
pub parts-again : (word : CallWord) (numbers : List ℕ) → length numbers ≡ length (kinds_of word)
    → parts_of (call_from word numbers) ≡ Some (word, numbers)
parts-again New (a ∷ b ∷ []) h = refl
parts-again Get (a ∷ b ∷ c ∷ []) h = refl
parts-again Put (a ∷ b ∷ c ∷ []) h = refl
parts-again Ask (a ∷ b ∷ []) h = refl
parts-again Set (a ∷ b ∷ c ∷ []) h = refl
parts-again Swap (a ∷ b ∷ c ∷ d ∷ []) h = refl
parts-again Same (a ∷ b ∷ []) h = refl
parts-again Copy (a ∷ b ∷ []) h = refl
parts-again Clear (a ∷ []) h = refl
parts-again Share (a ∷ b ∷ []) h = refl
parts-again Take (a ∷ b ∷ []) h = refl
parts-again Await (a ∷ b ∷ []) h = refl
parts-again Safepoint [] h = refl
parts-again Collect [] h = refl
parts-again Block [] h = refl
parts-again Unblock [] h = refl
parts-again word numbers h = absurd (omega arith)

-- numbers of these kinds are as many
pub kinds-length : (types : ℕ) (kinds : List Kind) (numbers : List ℕ) → AreOfKinds types kinds numbers
    → length numbers ≡ length kinds
kinds-length types [] [] h = refl
kinds-length types [] (number ∷ numbers) h = absurd h
kinds-length types (kind ∷ kinds) [] h = absurd h
kinds-length types (kind ∷ kinds) (number ∷ numbers) (first, others) = omega (arith, kinds-length types kinds numbers others)

-- a call that is made of numbers of its word's kinds is readable
pub made-readable : (types : ℕ) (word : CallWord) (numbers : List ℕ) → AreOfKinds types (kinds_of word) numbers
    → IsReadable types (call_from word numbers)
made-readable types word numbers h =
    rw (parts-again word numbers (kinds-length types (kinds_of word) numbers h)) h

-- a readable call suits the types
pub readable-suits : (types : ℕ) (call : Call) → IsReadable types call → Suits types call
readable-suits types (calls.New into ty) h = assumption
readable-suits types (calls.Share place value) h = assumption
readable-suits types (calls.Take into place) h = assumption
readable-suits types (calls.Await into place) h = assumption
readable-suits types call h = tt

-- a line of a script is fit, where each type but the first has a name
pub script_line-fit : (preamble : Preamble) (line : Line) → length preamble.names + 1 ≡ length preamble.types
    → IsScriptLine preamble line → IsFitLine preamble line
script_line-fit preamble line types read =
    let Fit : ℕ → Type 0 = λ count. Suits count line.call in
    (read.mutator, subst Fit types (readable-suits (length preamble.names + 1) line.call read.call))

-- the call word of a call line, and how many words stand behind it
record IsCounted (word : List ℕ) (arguments : List (List ℕ)) (kind : CallWord) : Type 0 where
  spelled : word ≡ spelled_word kind
  count : length arguments ≡ length (kinds_of kind)

counted_word-spelled : (word : List ℕ) (arguments : List (List ℕ)) (kind : CallWord)
    → counted_word word arguments ≡ Ok kind → IsCounted word arguments kind
unfolding counted_word call_word
counted_word-spelled word arguments kind h =
    let named = both-pass (call_word word) _ kind h in
    let guarded = if-passes (length arguments == length (kinds_of named.value)) (Ok named.value) _ kind named.next_gives in
    let is : named.value ≡ kind = cc (guarded.gives) in
    record {
      spelled = spelled_among-written each_call_word word named.value named.first_gives ∙ ap spelled_word is;
      count = eqb-true _ _ guarded.passed ∙ ap (λ (k : CallWord). length (kinds_of k)) is;
    }

-- what a call line that is read says
pub record IsCallLine (preamble : Preamble) (words : List (List ℕ)) (line : Line) : Type 0 where
  pub written : words ≡ line_words preamble.names line
  pub fits : IsScriptLine preamble line

pub call_line-read : (preamble : Preamble) (words : List (List ℕ)) (line : Line)
    → call_line preamble words ≡ Ok line → IsCallLine preamble words line
unfolding call_line
call_line-read preamble (mutator ∷ word ∷ arguments) line h =
    let kind = both-pass (counted_word word arguments) _ line h in
    let t = both-pass (number_below preamble.mutators _ mutator) _ line kind.next_gives in
    let call = both-pass (call_of preamble.names kind.value arguments) _ line t.next_gives in
    let numbers = both-pass (numbers_of preamble.names (kinds_of kind.value) arguments) _ call.value call.first_gives in
    let counted = counted_word-spelled word arguments kind.value kind.first_gives in
    let read = words-read preamble.names (kinds_of kind.value) arguments numbers.value numbers.first_gives in
    let call-is : call.value ≡ call_from kind.value numbers.value = cc (numbers.next_gives) in
    let line-is : line ≡ record { mutator = t.value; call = call_from kind.value numbers.value } = cc (call.next_gives, call-is) in
    let mutator-is = number_below-written preamble.mutators _ mutator t.value t.first_gives in
    let again = parts-again kind.value numbers.value (kinds-length _ (kinds_of kind.value) numbers.value read.fit) in
    rw line-is (record {
      written = cc (mutator-is, counted.spelled, read.written, ap (words_of_parts preamble.names) again);
      fits = record {
        mutator = number_below-fits preamble.mutators _ mutator t.value t.first_gives;
        call = made-readable (length preamble.names + 1) kind.value numbers.value read.fit;
      };
    })
call_line-read preamble words line h = absurd cc

-- so its words are read as it again
pub call_line-again : (preamble : Preamble) (words : List (List ℕ)) (line : Line) → call_line preamble words ≡ Ok line
    → IsReadLine preamble line
call_line-again preamble words line h =
    let read = call_line-read preamble words line h in sym (ap (call_line preamble) read.written) ∙ h

-- a line that is read from its words is a line of a script
pub read_line-fits : (preamble : Preamble) (line : Line) → IsReadLine preamble line → IsScriptLine preamble line
read_line-fits preamble line h =
    let read = call_line-read preamble (line_words preamble.names line) line h in read.fits
