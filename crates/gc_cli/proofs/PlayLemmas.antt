-- One call after another, behind a history.
use Rattle.std.proofs.Common.{◌≡◌, ◌∙◌, ℕ, zero, suc, map, sum_by, List, [], ◌∷◌, ◌++◌, append_assoc, filter, length, length-append, take, refl, sym, ap, subst, arith}
use Rattle.std.proofs.lemmas.List.{append-nil}
use Rattle.std.proofs.lemmas.List.Sums.{sum_by_push}
use Rattle.std.proofs.lemmas.List.Elements.{filter-append, filter_map-append}
use Rattle.gc_model.specs.declared.call.Call.TheVariants.{End}
use Rattle.gc_model.specs.declared.call.Line.{Line}
use Rattle.gc_model.specs.declared.entry.Entry.TheVariants.{Made, Run}
use Rattle.gc_model.specs.declared.entry.RunReport.{RunReport}
use Rattle.gc_model.specs.declared.reply.Reply.{Reply}
use Rattle.gc_model.specs.History.{Configuration, History, allowance_of, ends_of, is_collection, lines_in, made_line, made_reply, replies_by_line, replies_in}
use Rattle.gc_model.specs.Legal.{IsLegal}
use Rattle.gc_model.proofs.Scripts.{fits-in_order, replies_by_line-front}
use Rattle.gc_script.specs.Script.{Script}
use Rattle.gc_solo.specs.Kept.{Kept}
use Rattle.gc_solo.specs.Stands.{HasCalled, StandsFor, configuration_of}
use Rattle.gc_cli.specs.declared.opts.Opts.{Opts}
use Rattle.gc_cli.specs.Played.{HasMade, HasPlayed, IsHeapOf, IsHistoryOf, IsInOrder, heap_for}

-- no call was made
pub made-none : (kept : Kept) (history : History) → StandsFor kept history → HasMade kept history [] []
made-none kept history stands = record {
  stands = subst (StandsFor kept) (sym (append-nil history)) stands;
  in_order = refl;
  collections = omega arith;
}

-- ---- the entries of a call: the collections that it brought, and the call with its reply

-- the entries of a call
abbrev pub entries_of : List RunReport → Line → Reply → History
entries_of brought line reply = map Run brought ++ Made line.mutator line.call reply ∷ []

-- they have one line
entries-lines : (brought : List RunReport) (line : Line) (reply : Reply) → lines_in (entries_of brought line reply) ≡ line ∷ []
entries-lines [] line reply = refl
entries-lines (each ∷ brought) line reply = entries-lines brought line reply

-- and one reply
entries-replies : (brought : List RunReport) (line : Line) (reply : Reply) → replies_in (entries_of brought line reply) ≡ reply ∷ []
entries-replies [] line reply = refl
entries-replies (each ∷ brought) line reply = entries-replies brought line reply

-- and the collections
entries-collections : (brought : List RunReport) (line : Line) (reply : Reply)
    → length (filter is_collection (entries_of brought line reply)) ≡ length brought
entries-collections [] line reply = refl
entries-collections (each ∷ brought) line reply = ap suc (entries-collections brought line reply)

-- one more call was made
pub made-next : (old new : Kept) (history more : History) (lines : List Line) (line : Line) (reply : Reply) → HasMade old history more lines
    → (called : HasCalled old new (history ++ more) line.mutator line.call reply)
    → HasMade new history (more ++ entries_of called.runs line reply) (lines ++ line ∷ [])
made-next old new history more lines line reply made called =
    let brought = called.runs in
    let entries : History = entries_of brought line reply in
    let weight : Line → ℕ = λ each. allowance_of each.call in
    record {
      stands = subst (StandsFor new) (append_assoc history more entries) called.stands;
      in_order =
          filter_map-append made_line more entries
          ∙ ap (λ (back : List Line). lines_in more ++ back) (entries-lines brought line reply)
          ∙ ap (λ (before : List Line). before ++ line ∷ []) made.in_order;
      collections =
          let both = ap length (filter-append is_collection more entries) in
          omega (
            arith,
            both,
            length-append (filter is_collection more) (filter is_collection entries),
            entries-collections brought line reply,
            made.collections,
            called.allowed,
            sum_by_push weight lines line,
          );
    }

-- so one more reply stands there
pub replies-next : (more : History) (line : Line) (reply : Reply) (brought : List RunReport) (replies : List Reply)
    → replies_in more ≡ replies → replies_in (more ++ entries_of brought line reply) ≡ replies ++ reply ∷ []
replies-next more line reply brought replies same =
    filter_map-append made_reply more (entries_of brought line reply)
    ∙ ap (λ (back : List Reply). replies_in more ++ back) (entries-replies brought line reply)
    ∙ ap (λ (before : List Reply). before ++ reply ∷ []) same

-- the first elements of two lists together are those of the first list, where it has as many
take-front : {X : Type 0} (front back : List X) (n : ℕ) → n ≡ length front → take n (front ++ back) ≡ front
take-front [] back n same = rw same refl
take-front {X = X} (x ∷ front) back n same = rw same (ap (λ (rest : List X). x ∷ rest) (take-front front back (length front) refl))

-- the Ends of mutators allow no collection
ends-allow : (mutators : ℕ) → sum_by (λ (line : Line). allowance_of line.call) (ends_of mutators) ≡ 0
ends-allow zero = refl
ends-allow (suc mutators) =
    sum_by_push (λ (line : Line). allowance_of line.call) (ends_of mutators) (record { mutator = mutators; call = End })
    ∙ omega (arith, ends-allow mutators)

-- the lines and then the Ends were made
pub played-ends : (mid new : Kept) (script : Script) (replies : List Reply) (history lines ends : History)
    → HasMade mid history lines script.lines → replies_in lines ≡ replies → length replies ≡ length script.lines
    → HasMade new (history ++ lines) ends (ends_of script.preamble.mutators) → HasPlayed new script replies history (lines ++ ends)
played-ends mid new script replies history lines ends first same count last = record {
  stands = subst (StandsFor new) (append_assoc history lines ends) last.stands;
  in_order =
      filter_map-append made_line lines ends
      ∙ ap (λ (front : List Line). front ++ lines_in ends) first.in_order ∙ ap (λ (back : List Line). script.lines ++ back) last.in_order;
  replies_are =
      sym (take-front replies (replies_in ends) (length script.lines) (sym count))
      ∙ ap (λ (front : List Reply). take (length script.lines) (front ++ replies_in ends)) (sym same)
      ∙ ap (take (length script.lines)) (sym (filter_map-append made_reply lines ends));
  collections =
      let both = ap length (filter-append is_collection lines ends) in
      omega (
        arith,
        both,
        length-append (filter is_collection lines) (filter is_collection ends),
        first.collections,
        last.collections,
        ends-allow script.preamble.mutators,
      );
}

-- what a heap has played that stood for no entry is a history of the script, for which it stands
pub played-history : (kept : Kept) (opts : Opts) (script : Script) (replies : List Reply) (more : History)
    → configuration_of kept ≡ heap_for opts script → HasPlayed kept script replies [] more
    → IsHistoryOf opts script more × IsHeapOf kept (heap_for opts script) more × IsInOrder script more
    × (replies ≡ replies_by_line more [] script.lines)
played-history kept opts script replies more same played = (
  record {
    legal = subst (λ (heap : Configuration). IsLegal heap more) same played.stands.legal;
    fits = fits-in_order script.preamble.mutators script.lines more played.in_order played.collections;
  },
  record { configuration_is = same; stands = played.stands },
  played.in_order,
  played.replies_are ∙ sym (replies_by_line-front more script.lines (ends_of script.preamble.mutators) played.in_order),
)
