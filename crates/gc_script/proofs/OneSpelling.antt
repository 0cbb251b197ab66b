-- An accepted text has one spelling, but for its last newline.
use Rattle.std.proofs.Common.{◌≡◌, ℕ, suc, ◌+◌, ◌<◌, All, List, [], ◌∷◌, ◌++◌, length, flat_map, Bool, true, false, cond, not, ◌&&◌, nat_lt, nat_le, if◌then◌else◌, eqb, Ok, Err, codes, decimal, refl, ap, ap₂, sym, subst, ◌∙◌, inl, inr, append_assoc, append-nil, arith}
use Rattle.std.proofs.lemmas.Bool.{eqb-true}
use Rattle.std.proofs.lemmas.List.Elements.{All-nil, All-cons, All-weaker}
use Rattle.std.specs.Str.{bytes_eq}
use Rattle.gc_layout.specs.declared.shape.Shape.{Shape}
use Rattle.gc_layout.specs.Shape.{size_of}
use Rattle.gc_model.specs.declared.call.Line.{Line}
use Rattle.gc_script.proofs.CallLemmas.{call_line-read, call_line-again, read_line-fits, script_line-fit}
use Rattle.gc_script.proofs.KindLemmas.{number_below-written}
use Rattle.gc_script.proofs.Passed.{if-passes, both-pass, at_line-ok, not_refused-ok, bytes_eq-true}
use Rattle.gc_script.specs.declared.fault.Cause.TheVariants.{«Type» as TypeCause, Mutator}
use Rattle.gc_script.specs.Fault.{◌>>=◌, at_line}
use Rattle.gc_script.specs.Grammar.{mutators_line, is_type_line, is_in_use, with_type, shape_of, type_line, call_line, call_lines, script_with_calls, body, after_version, script_of_lines, IsScript}
use Rattle.gc_script.specs.Laws.{IsEnded, IsReadBack, IsReadLine}
use Rattle.gc_script.specs.Script.{Preamble, Script, IsFitLine, IsScriptLine, first_preamble}
use Rattle.gc_script.specs.Text.{with_first, lines_of, words_of}
use Rattle.gc_script.specs.Words.{small, number, is_type_name}
use Rattle.gc_script.specs.Written.{joined, spelled_line, call_text, type_text, types_text, declared_shapes, written}

-- lines behind one another, each with its newline
abbrev pub ended : List (List ℕ) → List ℕ
ended lines = flat_map (λ line. line ++ 10 ∷ []) lines

-- with a byte at the front of the first piece there is a piece
with_first-some : (byte : ℕ) (pieces : List (List ℕ)) → 0 < length (with_first byte pieces)
with_first-some byte [] = omega arith
with_first-some byte (piece ∷ pieces) = omega arith

-- a line has a word, which may be empty
words_of-some : (line : List ℕ) → 0 < length (words_of line)
words_of-some [] = omega arith
words_of-some (byte ∷ bytes) = go (eqb byte 32) where
  go : (b : Bool) → 0 < length (cond b ([] ∷ words_of bytes) (with_first byte (words_of bytes)))
  go true = omega arith
  go false = with_first-some byte (words_of bytes)

-- a text with a byte has a line
lines_of-some : (byte : ℕ) (bytes : List ℕ) → 0 < length (lines_of (byte ∷ bytes))
lines_of-some byte bytes = go (eqb byte 10) where
  go : (b : Bool) → 0 < length (cond b ([] ∷ lines_of bytes) (with_first byte (lines_of bytes)))
  go true = omega arith
  go false = with_first-some byte (lines_of bytes)

-- a byte at the front of the first word stands at the front
joined-first : (byte : ℕ) (words : List (List ℕ)) → joined (with_first byte words) ≡ byte ∷ joined words
joined-first byte [] = refl
joined-first byte (word ∷ []) = refl
joined-first byte (word ∷ next ∷ words) = refl

-- an empty word at the front puts a space there
joined-empty : (words : List (List ℕ)) → 0 < length words → joined ([] ∷ words) ≡ 32 ∷ joined words
joined-empty [] some = absurd (omega arith)
joined-empty (word ∷ words) some = refl

-- the words of a line make it again
pub words-joined : (line : List ℕ) → joined (words_of line) ≡ line
words-joined [] = refl
words-joined (byte ∷ bytes) = go (eqb byte 32) refl (words-joined bytes) where
  go : (b : Bool) → eqb byte 32 ≡ b → joined (words_of bytes) ≡ bytes
      → joined (cond b ([] ∷ words_of bytes) (with_first byte (words_of bytes))) ≡ byte ∷ bytes
  go true space rest = cc (joined-empty (words_of bytes) (words_of-some bytes), eqb-true byte 32 space)
  go false space rest = joined-first byte (words_of bytes) ∙ ap (λ l. byte ∷ l) rest

-- a byte at the front of the first line stands at the front
ended-first : (byte : ℕ) (lines : List (List ℕ)) → 0 < length lines → ended (with_first byte lines) ≡ byte ∷ ended lines
ended-first byte [] some = absurd (omega arith)
ended-first byte (line ∷ lines) some = refl

-- one more byte stands at the front of both
IsEnded-cons : (byte : ℕ) (text bytes : List ℕ) → IsEnded text bytes → IsEnded (byte ∷ text) (byte ∷ bytes)
IsEnded-cons byte text bytes (inl same) = inl (ap (λ l. byte ∷ l) same)
IsEnded-cons byte text bytes (inr more) = inr (ap (λ l. byte ∷ l) more)

-- the lines of a text make it again, but for its last newline
pub lines-joined : (bytes : List ℕ) → IsEnded (ended (lines_of bytes)) bytes
lines-joined [] = inl refl
lines-joined (byte ∷ []) = go (eqb byte 10) refl where
  go : (b : Bool) → eqb byte 10 ≡ b → IsEnded (ended (cond b ([] ∷ []) ((byte ∷ []) ∷ []))) (byte ∷ [])
  go true newline = inl (cc (eqb-true byte 10 newline))
  go false newline = inr refl
lines-joined (byte ∷ next ∷ bytes) = go (eqb byte 10) refl (lines-joined (next ∷ bytes)) where
  rest : List (List ℕ)
  rest = lines_of (next ∷ bytes)

  go : (b : Bool) → eqb byte 10 ≡ b → IsEnded (ended rest) (next ∷ bytes)
      → IsEnded (ended (cond b ([] ∷ rest) (with_first byte rest))) (byte ∷ next ∷ bytes)
  go true newline h =
      let Ends : ℕ → Type 0 = λ first. IsEnded (10 ∷ ended rest) (first ∷ next ∷ bytes) in
      subst Ends (sym (eqb-true byte 10 newline)) (IsEnded-cons 10 (ended rest) (next ∷ bytes) h)
  go false newline h =
      rw (ended-first byte rest (lines_of-some next bytes)) (IsEnded-cons byte (ended rest) (next ∷ bytes) h)

-- the text that the lines make has the same lines
pub lines-again : (bytes : List ℕ) → lines_of (ended (lines_of bytes)) ≡ lines_of bytes
lines-again [] = refl
lines-again (byte ∷ []) = go (eqb byte 10) refl where
  go : (b : Bool) → eqb byte 10 ≡ b → lines_of (ended (cond b ([] ∷ []) ((byte ∷ []) ∷ []))) ≡ cond b ([] ∷ []) ((byte ∷ []) ∷ [])
  go true newline = refl
  go false newline = rw newline refl
lines-again (byte ∷ next ∷ bytes) = go (eqb byte 10) refl (lines-again (next ∷ bytes)) where
  rest : List (List ℕ)
  rest = lines_of (next ∷ bytes)

  go : (b : Bool) → eqb byte 10 ≡ b → lines_of (ended rest) ≡ rest
      → lines_of (ended (cond b ([] ∷ rest) (with_first byte rest))) ≡ cond b ([] ∷ rest) (with_first byte rest)
  go true newline h = ap (λ l. [] ∷ l) h
  go false newline h = rw (ended-first byte rest (lines_of-some next bytes), newline) (ap (with_first byte) h)

-- a newline that ends the last line begins none
pub newline-ends : (bytes : List ℕ) → ended (lines_of bytes) ≡ bytes ++ 10 ∷ [] → lines_of (bytes ++ 10 ∷ []) ≡ lines_of bytes
newline-ends bytes h = ap lines_of (sym h) ∙ lines-again bytes

-- a line with its newline is what its words spell
line-spelled : (line : List ℕ) (words : List (List ℕ)) → words_of line ≡ words → line ++ 10 ∷ [] ≡ spelled_line words
line-spelled line words h = ap (λ l. l ++ 10 ∷ []) (sym (words-joined line) ∙ ap joined h)

-- the call lines are the texts of their calls, and are read from them
pub record AreCallLines (preamble : Preamble) (lines : List (List ℕ)) (calls : List Line) : Type 0 where
  pub text : ended lines ≡ flat_map (call_text preamble.names) calls
  pub again : All (IsReadLine preamble) calls

pub call_lines-read : (preamble : Preamble) (line_number : ℕ) (lines : List (List ℕ)) (calls : List Line)
    → call_lines preamble line_number lines ≡ Ok calls → AreCallLines preamble lines calls
unfolding call_lines
call_lines-read preamble line_number [] [] h = record { text = refl; again = All-nil (IsReadLine preamble) }
call_lines-read preamble line_number [] (call ∷ calls) h = absurd cc
call_lines-read preamble line_number (line ∷ lines) [] h =
    let first = both-pass (at_line line_number (call_line preamble (words_of line))) _ _ h in
    let others = both-pass (call_lines preamble (line_number + 1) lines) _ _ first.next_gives in
    absurd (cc (others.next_gives))
call_lines-read preamble line_number (line ∷ lines) (call ∷ calls) h =
    let first = both-pass (at_line line_number (call_line preamble (words_of line))) _ _ h in
    let others = both-pass (call_lines preamble (line_number + 1) lines) _ _ first.next_gives in
    let head : first.value ≡ call = cc (others.next_gives) in
    let tail : others.value ≡ calls = cc (others.next_gives) in
    let line_gives = at_line-ok line_number (call_line preamble (words_of line)) first.value first.first_gives in
    let call_gives = line_gives ∙ ap Ok head in
    let read = call_line-read preamble (words_of line) call call_gives in
    let rest = call_lines-read preamble (line_number + 1) lines calls (others.first_gives ∙ ap Ok tail) in
    record {
      text = ap₂ ◌++◌ (line-spelled line _ read.written) rest.text;
      again = All-cons (IsReadLine preamble) call calls (call_line-again preamble (words_of line) call call_gives) rest.again;
    }

-- the words of a type line, and what is declared behind it
pub record IsTypeLine (preamble : Preamble) (words : List (List ℕ)) (next : Preamble) : Type 0 where
  pub name : List ℕ
  pub shape : Shape
  pub spelled : words ≡ codes "type" ∷ name ∷ decimal shape.slots ∷ decimal shape.numbers ∷ []
  pub declared : next ≡ record preamble { names = preamble.names ++ name ∷ []; types = preamble.types ++ shape ∷ [] }

-- the words of a shape are its numbers
record IsShape (slots numbers : List ℕ) (shape : Shape) : Type 0 where
  slots_word : slots ≡ decimal shape.slots
  numbers_word : numbers ≡ decimal shape.numbers

shape-written : (slots numbers : List ℕ) (shape : Shape) → shape_of slots numbers ≡ Ok shape → IsShape slots numbers shape
unfolding shape_of
shape-written slots numbers shape h =
    let first = both-pass (small slots) _ shape h in
    let second = both-pass (small numbers) _ shape first.next_gives in
    let is : record { slots = first.value; numbers = second.value } ≡ shape = cc (second.next_gives) in
    record {
      slots_word = number_below-written _ _ slots first.value first.first_gives ∙ ap (λ (s : Shape). decimal s.slots) is;
      numbers_word = number_below-written _ _ numbers second.value second.first_gives ∙ ap (λ (s : Shape). decimal s.numbers) is;
    }

-- what is declared has the one more type
with_type-declared : (preamble : Preamble) (name : List ℕ) (shape : Shape) (next : Preamble)
    → with_type preamble name shape ≡ Ok next
    → next ≡ record preamble { names = preamble.names ++ name ∷ []; types = preamble.types ++ shape ∷ [] }
unfolding with_type
with_type-declared preamble name shape next h =
    let declared : Preamble = record preamble { names = preamble.names ++ name ∷ []; types = preamble.types ++ shape ∷ [] } in
    let guarded = if-passes (nat_le (size_of shape) 64 && nat_lt (length preamble.types) 256) (Ok declared) TypeCause next h in
    cc (guarded.gives)

-- a type line that is read is spelled in one way
pub type_line-written : (preamble : Preamble) (words : List (List ℕ)) (next : Preamble) → type_line preamble words ≡ Ok next
    → is_type_line words ≡ true → IsTypeLine preamble words next
unfolding type_line
type_line-written preamble [] next h typed = absurd cc
type_line-written preamble (keyword ∷ []) next h typed = absurd cc
type_line-written preamble (keyword ∷ name ∷ []) next h typed = absurd cc
type_line-written preamble (keyword ∷ name ∷ slots ∷ []) next h typed = absurd cc
type_line-written preamble (keyword ∷ name ∷ slots ∷ numbers ∷ []) next h typed =
    let named = not_refused-ok (not (is_type_name name)) _ _ next h in
    let new = not_refused-ok (is_in_use preamble.names name) _ _ next named in
    let shaped = both-pass (shape_of slots numbers) (with_type preamble name) next new in
    let counts = shape-written slots numbers shaped.value shaped.first_gives in
    let word = bytes_eq-true keyword (codes "type") typed in
    record {
      name = name;
      shape = shaped.value;
      spelled = cc (counts.slots_word, counts.numbers_word);
      declared = with_type-declared preamble name shaped.value next shaped.next_gives;
    }
type_line-written preamble (keyword ∷ name ∷ slots ∷ numbers ∷ more ∷ words) next h typed = absurd cc

-- a script whose lines, behind a preamble, declare these further types and then make its calls
pub record IsSpelled (preamble : Preamble) (lines : List (List ℕ)) (script : Script) : Type 0 where
  pub names : List (List ℕ)
  pub types : List Shape
  pub same_mutators : script.preamble.mutators ≡ preamble.mutators
  pub names_behind : script.preamble.names ≡ preamble.names ++ names
  pub types_behind : script.preamble.types ≡ preamble.types ++ types
  pub counted : length names ≡ length types
  pub again : All (IsReadLine script.preamble) script.lines
  pub text : ended lines ≡ types_text names types ++ flat_map (call_text script.preamble.names) script.lines

-- lines that are calls alone declare no type
calls-spelled : (preamble : Preamble) (line_number : ℕ) (lines : List (List ℕ)) (script : Script)
    → script_with_calls preamble line_number lines ≡ Ok script → IsSpelled preamble lines script
calls-spelled preamble line_number lines script h =
    let calls = both-pass (call_lines preamble line_number lines) _ script h in
    let read = call_lines-read preamble line_number lines calls.value calls.first_gives in
    let is : record { preamble = preamble; lines = calls.value } ≡ script = cc (calls.next_gives) in
    let Spelled : Script → Type 0 = λ whole. IsSpelled preamble lines whole in
    subst Spelled is (record {
      names = [];
      types = [];
      same_mutators = refl;
      names_behind = sym (append-nil preamble.names);
      types_behind = sym (append-nil preamble.types);
      counted = refl;
      again = read.again;
      text = read.text;
    })

-- a type line declares one more type, before the further ones
type-spelled : (preamble next : Preamble) (line : List ℕ) (lines : List (List ℕ)) (script : Script)
    → IsTypeLine preamble (words_of line) next → IsSpelled next lines script → IsSpelled preamble (line ∷ lines) script
type-spelled preamble next line lines script ty rest = record {
  names = ty.name ∷ rest.names;
  types = ty.shape ∷ rest.types;
  same_mutators = rest.same_mutators ∙ ap (λ (p : Preamble). p.mutators) ty.declared;
  names_behind = rest.names_behind ∙ ap (λ (p : Preamble). p.names ++ rest.names) ty.declared
      ∙ append_assoc preamble.names (ty.name ∷ []) rest.names;
  types_behind = rest.types_behind ∙ ap (λ (p : Preamble). p.types ++ rest.types) ty.declared
      ∙ append_assoc preamble.types (ty.shape ∷ []) rest.types;
  counted = ap suc rest.counted;
  again = rest.again;
  text = ap₂ ◌++◌ (line-spelled line _ ty.spelled) rest.text
      ∙ sym (append_assoc (type_text ty.name ty.shape) (types_text rest.names rest.types)
      (flat_map (call_text script.preamble.names) script.lines));
}

-- what stands behind the line of the mutators is spelled in one way
pub body-spelled : (preamble : Preamble) (line_number : ℕ) (lines : List (List ℕ)) (script : Script)
    → body preamble line_number lines ≡ Ok script → IsSpelled preamble lines script
unfolding body
body-spelled preamble line_number [] script h = calls-spelled preamble line_number [] script h
body-spelled preamble line_number (line ∷ lines) script h =
    go (is_type_line (words_of line)) refl h (λ next. body-spelled next (line_number + 1) lines script) where
      go : (b : Bool) → is_type_line (words_of line) ≡ b
          → cond b (at_line line_number (type_line preamble (words_of line))
          >>= λ next. body next (line_number + 1) lines) (script_with_calls preamble line_number (line ∷ lines))
          ≡ Ok script
          → ((next : Preamble) → body next (line_number + 1) lines ≡ Ok script → IsSpelled next lines script)
          → IsSpelled preamble (line ∷ lines) script
      go true typed read rest =
          let first = both-pass (at_line line_number (type_line preamble (words_of line)))
          (λ next. body next (line_number + 1) lines) script read in
          let declares = at_line-ok line_number (type_line preamble (words_of line)) first.value first.first_gives in
          let ty = type_line-written preamble (words_of line) first.value declares typed in
          type-spelled preamble first.value line lines script ty (rest first.value first.next_gives)
      go false typed read rest = calls-spelled preamble line_number (line ∷ lines) script read

-- the line of the mutators is spelled in one way
mutators_line-written : (words : List (List ℕ)) (mutators : ℕ) → mutators_line words ≡ Ok mutators
    → words ≡ codes "mutators" ∷ decimal mutators ∷ []
unfolding mutators_line
mutators_line-written [] mutators h = absurd cc
mutators_line-written (keyword ∷ []) mutators h = absurd cc
mutators_line-written (keyword ∷ count ∷ []) mutators h =
    let worded = if-passes (bytes_eq keyword (codes "mutators")) _ _ mutators h in
    let counted = both-pass (number count) (λ n. if nat_lt 0 n && nat_le n 8 then Ok n else Err Mutator) mutators worded.gives in
    let few = if-passes (nat_lt 0 counted.value && nat_le counted.value 8) (Ok counted.value) Mutator mutators counted.next_gives in
    let word = bytes_eq-true keyword (codes "mutators") worded.passed in
    let value = number_below-written _ _ count counted.value counted.first_gives in
    cc (few.gives)
mutators_line-written (keyword ∷ count ∷ more ∷ words) mutators h = absurd cc

-- a script is written as its first two lines, and what stands behind them
written-parts : (mutators : ℕ) (lines : List (List ℕ)) (script : Script) → IsSpelled (first_preamble mutators) lines script
    → written script ≡ spelled_line (codes "moar-gc 1" ∷ []) ++ spelled_line (codes "mutators" ∷ decimal mutators ∷ []) ++ ended lines
written-parts mutators lines script rest = ap (λ l. version ++ l) behind where
  version : List ℕ
  version = spelled_line (codes "moar-gc 1" ∷ [])

  second : List ℕ
  second = spelled_line (codes "mutators" ∷ decimal script.preamble.mutators ∷ [])

  types : List ℕ
  types = types_text script.preamble.names (declared_shapes script.preamble.types)

  calls : List ℕ
  calls = flat_map (call_text script.preamble.names) script.lines

  declared : types ≡ types_text rest.names rest.types
  declared = ap₂ (λ names shapes. types_text names (declared_shapes shapes)) rest.names_behind rest.types_behind

  behind : (second ++ types) ++ calls ≡ spelled_line (codes "mutators" ∷ decimal mutators ∷ []) ++ ended lines
  behind =
      append_assoc second types calls
      ∙ ap₂ ◌++◌ (ap (λ n. spelled_line (codes "mutators" ∷ decimal n ∷ [])) rest.same_mutators)
      (ap (λ l. l ++ calls) declared ∙ sym rest.text)

-- what is known of a script whose lines are read
pub record IsReadFrom (lines : List (List ℕ)) (script : Script) : Type 0 where
  pub text : written script ≡ ended lines
  pub types : length script.preamble.names + 1 ≡ length script.preamble.types
  pub again : All (IsReadLine script.preamble) script.lines

-- one type is there before the type lines, and one more with each of them
types-counted : (mutators : ℕ) (lines : List (List ℕ)) (script : Script) → IsSpelled (first_preamble mutators) lines script
    → length script.preamble.names + 1 ≡ length script.preamble.types
types-counted mutators lines script rest =
    let names : length script.preamble.names ≡ length rest.names = ap length rest.names_behind in
    let types : length script.preamble.types ≡ suc (length rest.types) = ap length rest.types_behind in
    omega (arith, names, types, rest.counted)

-- a script is written as its lines, each with its newline
lines-read : (lines : List (List ℕ)) (script : Script) → script_of_lines lines ≡ Ok script → IsReadFrom lines script
unfolding script_of_lines after_version
lines-read [] script h = absurd cc
lines-read (version ∷ []) script h =
    let versioned = if-passes (bytes_eq version (codes "moar-gc 1")) _ _ script h in
    absurd (cc (versioned.gives))
lines-read (version ∷ second ∷ lines) script h =
    let versioned = if-passes (bytes_eq version (codes "moar-gc 1")) _ _ script h in
    let mutators = both-pass (at_line 2 (mutators_line (words_of second)))
    (λ count. body (first_preamble count) 3 lines) script versioned.gives in
    let count = at_line-ok 2 (mutators_line (words_of second)) mutators.value mutators.first_gives in
    let rest = body-spelled (first_preamble mutators.value) 3 lines script mutators.next_gives in
    let one : version ++ 10 ∷ [] ≡ spelled_line (codes "moar-gc 1" ∷ []) =
    ap (λ l. l ++ 10 ∷ []) (bytes_eq-true version (codes "moar-gc 1") versioned.passed) in
    let two = line-spelled second _ (mutators_line-written (words_of second) mutators.value count) in
    record {
      text = written-parts mutators.value lines script rest ∙ sym (ap₂ ◌++◌ one (ap (λ l. l ++ ended lines) two));
      types = types-counted mutators.value lines script rest;
      again = rest.again;
    }

-- an accepted text is what its script is written as, but for its last newline
pub one-spelling : (bytes : List ℕ) (script : Script) → IsScript bytes script → IsEnded (written script) bytes
one-spelling bytes script h =
    let Ends : List ℕ → Type 0 = λ text. IsEnded text bytes in
    let read = lines-read (lines_of bytes) script h in
    subst Ends (sym read.text) (lines-joined bytes)

-- a script that a text is read as is read back from what it is written as
pub read-back : (bytes : List ℕ) (script : Script) → IsScript bytes script → IsReadBack script
unfolding IsReadBack
read-back bytes script h =
    let read = lines-read (lines_of bytes) script h in
    ap script_of_lines (ap lines_of read.text ∙ lines-again bytes) ∙ h

-- and so is one that is read behind the version line
pub version-read : (bytes version : List ℕ) (lines : List (List ℕ)) (script : Script) → lines_of bytes ≡ version ∷ lines
    → bytes_eq version (codes "moar-gc 1") ≡ true → after_version lines ≡ Ok script → IsReadBack script
unfolding script_of_lines
version-read bytes version lines script cut versioned read = read-back bytes script (rw (cut, versioned) read)

-- two scripts that are written as one text are one script
pub texts-differ : (script another : Script) → IsReadBack script → IsReadBack another → written script ≡ written another
    → script ≡ another
unfolding IsReadBack
texts-differ script another one two same =
    let both : Ok script ≡ script_of_lines (lines_of (written another)) = sym one ∙ ap (λ text. script_of_lines (lines_of text)) same in
    cc

-- each line of a script that is read back is read from its words
pub read_back-again : (script : Script) → IsReadBack script → All (IsReadLine script.preamble) script.lines
unfolding IsReadBack
read_back-again script h = let read = lines-read (lines_of (written script)) script h in read.again

-- so it is a line of a script
pub read_back-lines : (script : Script) → IsReadBack script → All (IsScriptLine script.preamble) script.lines
read_back-lines script h =
    All-weaker (IsReadLine script.preamble) (IsScriptLine script.preamble) (read_line-fits script.preamble) script.lines
    (read_back-again script h)

-- and each type of it but the first has a name
pub read_back-types : (script : Script) → IsReadBack script → length script.preamble.names + 1 ≡ length script.preamble.types
unfolding IsReadBack
read_back-types script h = let read = lines-read (lines_of (written script)) script h in read.types

-- so each line is fit
pub read_back-fit : (script : Script) → IsReadBack script → All (IsFitLine script.preamble) script.lines
read_back-fit script h = All-weaker (IsScriptLine script.preamble) (IsFitLine script.preamble) fit script.lines
    (read_back-lines script h) where
      fit : (line : Line) → IsScriptLine script.preamble line → IsFitLine script.preamble line
      fit line read = script_line-fit script.preamble line (read_back-types script h) read
