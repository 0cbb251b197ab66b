use Rattle.std.proofs.Common.{◌≡◌, ◌∙◌, ◌++◌, ◌∷◌, [], ap, inl, inr, sym, true}
use Rattle.std.proofs.lemmas.Bool.{not-false, not-true}
use Rattle.gc_bay.specs.Bay.{Bay}
use Rattle.gc_layout.specs.declared.head.Head.{Head}
use Rattle.gc_layout.specs.Head.{head_word}
use Rattle.gc_solo.specs.Kept.{kept_of}
use Rattle.gc_solo.proofs.PutNames.{IsSettled, IsStored, IsToRemember, named-stored, object-stored, put-inside, remembered-fits, shown-barrier, shown-settled, stored-bay}
use Rattle.gc_solo.proofs.heap.Heap.put_name.Goals as goal
use Rattle.gc_solo.proofs.heap.Heap.put_name.Goals.{else-head-via-then-head+then-not-head+then-name-ne0+else-not-head-2, else-head-via-then-head+then-not-head+else-name-ne0, else-head-via-then-head+else-not-head, else-head-via-else-head}

pub store-requires : goal.store-requires
store-requires c =
    let some = c.requires.ready in
    put-inside (kept_of c.args.self.now) some.0 some.1 c.args.t c.args.object c.args.slot c.args.name some.2 some.3 some.4 some.5 some.6

pub head-head-requires-clause-there : goal.head-head-requires-clause-there
head-head-requires-clause-there c =
    let some = c.requires.ready in
    let kept = kept_of c.args.self.now in
    let mid = kept_of c.store.new.self in
    let stored : IsStored kept mid c.args.t c.args.object c.args.slot c.args.name = record {
      placement = some.0;
      world = some.1;
      number = some.2;
      place = some.3;
      named = some.4;
      ready = some.5;
      put = some.6;
      same = ap kept_of c.store.ensures.rest;
      count = c.store.ensures.count;
      stores = c.store.ensures.stored;
    } in
    (object-stored kept mid c.args.t c.args.object c.args.slot c.args.name stored).1

pub head-requires-clause-header : goal.head-requires-clause-header
head-requires-clause-header c =
    let some = c.requires.ready in
    let kept = kept_of c.args.self.now in
    let mid = kept_of c.store.new.self in
    let stored : IsStored kept mid c.args.t c.args.object c.args.slot c.args.name = record {
      placement = some.0;
      world = some.1;
      number = some.2;
      place = some.3;
      named = some.4;
      ready = some.5;
      put = some.6;
      same = ap kept_of c.store.ensures.rest;
      count = c.store.ensures.count;
      stores = c.store.ensures.stored;
    } in
    (named-stored kept mid c.args.t c.args.object c.args.slot c.args.name stored c.if-name-ne0.true).0

pub head-requires-clause-there : goal.head-requires-clause-there
head-requires-clause-there c =
    let some = c.requires.ready in
    let kept = kept_of c.args.self.now in
    let mid = kept_of c.store.new.self in
    let stored : IsStored kept mid c.args.t c.args.object c.args.slot c.args.name = record {
      placement = some.0;
      world = some.1;
      number = some.2;
      place = some.3;
      named = some.4;
      ready = some.5;
      put = some.6;
      same = ap kept_of c.store.ensures.rest;
      count = c.store.ensures.count;
      stores = c.store.ensures.stored;
    } in
    (named-stored kept mid c.args.t c.args.object c.args.slot c.args.name stored c.if-name-ne0.true).1

pub remember-requires-clause-absent : goal.remember-requires-clause-absent
remember-requires-clause-absent c =
    let some = c.requires.ready in
    let kept = kept_of c.args.self.now in
    let mid = kept_of c.store.new.self in
    let stored : IsStored kept mid c.args.t c.args.object c.args.slot c.args.name = record {
      placement = some.0;
      world = some.1;
      number = some.2;
      place = some.3;
      named = some.4;
      ready = some.5;
      put = some.6;
      same = ap kept_of c.store.ensures.rest;
      count = c.store.ensures.count;
      stores = c.store.ensures.stored;
    } in
    let is : IsToRemember mid c.args.object = record {
      old = ap (λ (head : Head). head.old) (sym c.head-head.ensures) ∙ c.if-head.true;
      unset = ap (λ (head : Head). head.remembered) (sym c.head-head.ensures) ∙ not-true c.head-head.result.remembered c.if-not-head.true;
    } in
    let next = kept_of c.store-then-not-head-2.new.self in
    let same : next ≡ record mid { words = next.words } = ap kept_of c.store-then-not-head-2.ensures.rest in
    let read = stored-bay kept mid next c.args.t c.args.object c.args.slot c.args.name c.from.result c.index_mut.result.now stored same
    c.from.ensures c.index_mut.ensures.value in
    (remembered-fits kept mid c.args.t c.args.object c.args.slot c.args.name c.index_mut.result.now stored is read).0

pub remember-requires-clause-room : goal.remember-requires-clause-room
remember-requires-clause-room c =
    let some = c.requires.ready in
    let kept = kept_of c.args.self.now in
    let mid = kept_of c.store.new.self in
    let stored : IsStored kept mid c.args.t c.args.object c.args.slot c.args.name = record {
      placement = some.0;
      world = some.1;
      number = some.2;
      place = some.3;
      named = some.4;
      ready = some.5;
      put = some.6;
      same = ap kept_of c.store.ensures.rest;
      count = c.store.ensures.count;
      stores = c.store.ensures.stored;
    } in
    let is : IsToRemember mid c.args.object = record {
      old = ap (λ (head : Head). head.old) (sym c.head-head.ensures) ∙ c.if-head.true;
      unset = ap (λ (head : Head). head.remembered) (sym c.head-head.ensures) ∙ not-true c.head-head.result.remembered c.if-not-head.true;
    } in
    let next = kept_of c.store-then-not-head-2.new.self in
    let same : next ≡ record mid { words = next.words } = ap kept_of c.store-then-not-head-2.ensures.rest in
    let read = stored-bay kept mid next c.args.t c.args.object c.args.slot c.args.name c.from.result c.index_mut.result.now stored same
    c.from.ensures c.index_mut.ensures.value in
    (remembered-fits kept mid c.args.t c.args.object c.args.slot c.args.name c.index_mut.result.now stored is read).1

pub returns-then-not-head-2-clause-put : goal.returns-then-not-head-2-clause-put
returns-then-not-head-2-clause-put c placement world number place named ready put =
    let kept = kept_of c.args.self.now in
    let mid = kept_of c.store.new.self in
    let stored : IsStored kept mid c.args.t c.args.object c.args.slot c.args.name = record {
      placement = placement;
      world = world;
      number = number;
      place = place;
      named = named;
      ready = ready;
      put = put;
      same = ap kept_of c.store.ensures.rest;
      count = c.store.ensures.count;
      stores = c.store.ensures.stored;
    } in
    let is : IsToRemember mid c.args.object = record {
      old = ap (λ (head : Head). head.old) (sym c.head-head.ensures) ∙ c.if-head.true;
      unset = ap (λ (head : Head). head.remembered) (sym c.head-head.ensures) ∙ not-true c.head-head.result.remembered c.if-not-head.true;
    } in
    let next = kept_of c.store-then-not-head-2.new.self in
    let same : next ≡ record mid { words = next.words } = ap kept_of c.store-then-not-head-2.ensures.rest in
    let read = stored-bay kept mid next c.args.t c.args.object c.args.slot c.args.name c.from.result c.index_mut.result.now stored same
    c.from.ensures c.index_mut.ensures.value in
    let header = c.word.ensures ∙ ap (λ (head : Head). head_word (record head { remembered = true })) c.head-head.ensures in
    rw c.from.ensures (shown-barrier kept mid next c.args.t c.args.object c.args.slot c.args.name c.word.result c.remember.new.self stored
    is same c.store-then-not-head-2.ensures.count c.store-then-not-head-2.ensures.stored header
    (c.remember.ensures.list ∙ ap (λ (each : Bay). record each { remembered = each.remembered ++ c.args.object ∷ [] }) read)
    c.remember.ensures.bay)

pub returns-else-head-clause-put : goal.returns-else-head-clause-put
returns-else-head-clause-put c placement world number place named ready put =
    let kept = kept_of c.args.self.now in
    let mid = kept_of c.store.new.self in
    let stored : IsStored kept mid c.args.t c.args.object c.args.slot c.args.name = record {
      placement = placement;
      world = world;
      number = number;
      place = place;
      named = named;
      ready = ready;
      put = put;
      same = ap kept_of c.store.ensures.rest;
      count = c.store.ensures.count;
      stores = c.store.ensures.stored;
    } in
    let settled : IsSettled mid c.args.object c.args.name = elim c.else-head.branch [
      | else-head-via-then-head+then-not-head+then-name-ne0+else-not-head-2 w ↦
          inr (inr (inr (ap (λ (head : Head). head.old) (sym w.head.ensures) ∙ not-false w.head.result.old w.if-not-head-2.false)))
      | else-head-via-then-head+then-not-head+else-name-ne0 w ↦ inr (inr (inl w.if-name-ne0.false))
      | else-head-via-then-head+else-not-head w ↦
          inr (inl (ap (λ (head : Head). head.remembered) (sym c.head-head.ensures)
          ∙ not-false c.head-head.result.remembered w.if-not-head.false))
      | else-head-via-else-head w ↦ inl (ap (λ (head : Head). head.old) (sym c.head-head.ensures) ∙ w.if-head.false)
    ] in
    shown-settled kept mid c.args.t c.args.object c.args.slot c.args.name stored settled
