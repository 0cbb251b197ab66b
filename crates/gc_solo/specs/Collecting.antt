-- What holds of a heap of one thread while a collection is under way.
use Rattle.std.specs.Prelude.{◌≡◌, ◌⊎◌, ℕ, ◌+◌, ◌-◌, ◌*◌, ◌<◌, ◌≤◌, Bool, true, false, List, length, sum_by, slice_index, Option, None, Some, IfSome, [], if◌then◌else◌}
use Rattle.gc_bay.specs.Bay.{Bay}
use Rattle.gc_bay.specs.Room.{remembered_room}
use Rattle.gc_layout.specs.Places.{cell_address, word_count}
use Rattle.gc_model.specs.Laws.{IsSound, IsWellTyped}
use Rattle.gc_model.specs.Reach.{Tracing, is_reachable, is_reached, live}
use Rattle.gc_model.specs.World.{World}
use Rattle.gc_model.specs.declared.entry.RunKind.{RunKind}
use Rattle.gc_model.specs.declared.entry.RunReport.{RunReport}
use Rattle.gc_placement.specs.Extents.{IsInAPage}
use Rattle.gc_placement.specs.Full.{IsFullCollection}
use Rattle.gc_placement.specs.Headers.{head_of, is_full}
use Rattle.gc_placement.specs.Holders.{Done, IsGrey, IsListedFrom}
use Rattle.gc_placement.specs.Marks.{AreMarkedIn, IsNameFoundIn, Marks, WaitsForMark}
use Rattle.gc_placement.specs.Memory.{Memory}
use Rattle.gc_placement.specs.Minor.{IsMinorCollection}
use Rattle.gc_placement.specs.Placement.{IsNamePlaced, IsPlaced, Placement, name_address}
use Rattle.gc_placement.specs.Rest.{IsAtRest}
use Rattle.gc_placement.specs.Sums.{is_young}
use Rattle.gc_placement.specs.Sweeping.{IsSweeping}
use Rattle.gc_placement.specs.Tidying.{AreTidyBefore, OnlyYoungAreRemembered}
use Rattle.gc_placement.specs.Tracings.{is_remembered, tracing_of}
use Rattle.gc_placement.specs.UnderWay.{IsCollectionUnderWay}
use Rattle.gc_solo.specs.Kept.{Kept, ShowsBy, bay_at, memory_of}

-- how a collection began: its kind, the memory and the placement before it, and the world, which it doesn't change
pub record Beginning : Type 0 where
  pub kind : RunKind
  pub memory : Memory
  pub placement : Placement
  pub world : World

-- a beginning of these
abbrev pub beginning : RunKind → Memory → Placement → World → Beginning
beginning kind memory placement world = record { kind = kind; memory = memory; placement = placement; world = world }

-- what the collection traces
abbrev pub traced_by : Beginning → Tracing
traced_by start = tracing_of start.kind start.memory start.placement start.world

-- so many objects stood on each mutator's remembered list
abbrev pub HasCounts : Beginning → List ℕ → Type 0
HasCounts start counts =
    (t : ℕ) → t < start.memory.layout.mutators → slice_index counts t ≡ length (start.memory.bay t).remembered

-- where a collection stands: in a minor one the remembered lists are to be gone through from this index of this mutator's on, and of an
-- object in hand the slots from this place on
pub record Stage : Type 0 where
  pub mutator : ℕ
  pub index : ℕ
  pub in_hand : Option ℕ
  pub place : ℕ

-- nothing is in hand
abbrev pub at_list : ℕ → ℕ → Stage
at_list mutator index = record { mutator = mutator; index = index; in_hand = None; place = 0 }

-- the stage at which roots are gone through: a minor collection goes through remembered lists behind them, and a full one doesn't
abbrev pub first_stage : Beginning → Stage
first_stage start = if is_full start.kind then at_list start.memory.layout.mutators 0 else at_list 0 0

-- an object is in hand
abbrev pub with_in_hand : Stage → ℕ → ℕ → Stage
with_in_hand stage number place = record stage { in_hand = Some number; place = place }

-- an object stood on a remembered list that is still to be gone through, as a minor collection does
abbrev pub IsToScan : Beginning → Stage → ℕ → Type 0
IsToScan start stage number =
    (start.kind ≡ RunKind.Minor)
    × IsListedFrom start.memory.layout.mutators start.memory.bay start.placement stage.mutator stage.index number

-- an object in a page waits for its mark
abbrev pub IsUnmarked : Beginning → Marks → ℕ → Type 0
IsUnmarked start marks number = WaitsForMark start.kind start.memory.layout start.placement marks number

-- a slot waits for being done
abbrev pub Waits : Beginning → Marks → Stage → ℕ → ℕ → Type 0
Waits start marks stage number place =
    IsToScan start stage number ⊎ (((stage.in_hand ≡ Some number) × (stage.place ≤ place)) ⊎ IsUnmarked start marks number)

-- an object is kept, and it isn't grey
pub record IsAside (mutators : ℕ) (bay : ℕ → Bay) (after : Placement) (number : ℕ) : Type 0 where
  pub address : ℕ
  pub at : after number ≡ Some address
  pub not_grey : ¬ IsGrey mutators bay address

-- the object in hand is kept: it isn't grey, and waits for no mark
pub record IsInHand (kept : Kept) (start : Beginning) (after : Placement) (marks : Marks) (number : ℕ) : Type 0 where
  pub aside : IsAside start.memory.layout.mutators (bay_at kept.bays) after number
  pub marked : ¬ IsUnmarked start marks number

-- a collection is under way on a heap
pub record IsCollecting (kept : Kept) (start : Beginning) (after : Placement) (done : Done) (stage : Stage) : Type 0 where
  pub rest : IsAtRest start.memory start.placement start.world
  pub sound : IsSound start.world
  pub typed : IsWellTyped start.memory.types start.world
  pub types : kept.types ≡ start.memory.types
  pub layout : kept.layout ≡ start.memory.layout
  pub words : length kept.words ≡ 1 + word_count start.memory.layout
  pub bays : length kept.bays ≡ start.memory.layout.mutators
  pub marks : Marks
  pub under_way : IsCollectionUnderWay start.kind start.memory start.placement start.world (memory_of kept).word (memory_of kept).bay
      after done (Waits start marks stage)
  pub marked : AreMarkedIn start.kind start.memory.layout start.placement start.world (memory_of kept).word (memory_of kept).bay after
      done marks
  pub in_hand : IfSome stage.in_hand (IsInHand kept start after marks)

-- some collection of a kind is, and nothing is in hand
pub record IsUnderWay (kind : RunKind) (kept : Kept) : Type 0 where
  pub start : Beginning
  pub kind_is : start.kind ≡ kind
  pub after : Placement
  pub done : Done
  pub stage : Stage
  pub idle : stage.in_hand ≡ None
  pub collecting : IsCollecting kept start after done stage

-- an object that belongs to a collection is reached by it
abbrev pub IsReachedBy : Beginning → ℕ → Type 0
IsReachedBy start number = (traced_by start).belongs number ≡ true → is_reached (traced_by start) number ≡ true

-- a word that isn't done yet holds this name: its address before, and what it names is reached
pub record Holds (start : Beginning) (name : Option ℕ) (address : ℕ) : Type 0 where
  pub address_is : address ≡ name_address start.placement name
  pub placed : IsNamePlaced start.placement name
  pub reached : IfSome name (IsReachedBy start)

-- an object in a half that isn't kept so far, and is reached, lies at this address
pub record IsToCopy (start : Beginning) (after : Placement) (number address : ℕ) : Type 0 where
  pub at : start.placement number ≡ Some address
  pub young : is_young start.memory.layout start.placement number ≡ true
  pub unkept : after number ≡ None
  pub reached : is_reached (traced_by start) number ≡ true

-- an object in a page that isn't marked so far, and is reachable, lies at this address, in a full collection
pub record IsToMark (kept : Kept) (start : Beginning) (after : Placement) (number address : ℕ) : Type 0 where
  pub full : start.kind ≡ RunKind.Full
  pub at : after number ≡ Some address
  pub page : IsInAPage start.memory.layout address
  pub unmarked : (head_of (slice_index kept.words address)).marked ≡ false
  pub reached : is_reachable start.world number ≡ true

-- an object is marked
pub record HasMarked (kept : Kept) (start : Beginning) (after : Placement) (done : Done) (stage : Stage) (number : ℕ) : Type 0 where
  pub collecting : IsCollecting kept start after done stage
  pub marked : collecting.marks number ≡ true

-- what a name says is kept, by the kind of the collection
abbrev pub IsNameKept : Beginning → Placement → Marks → Option ℕ → Type 0
IsNameKept start after marks name = IsNameFoundIn start.kind start.memory.layout start.placement after marks name

-- what was kept is kept where it was
abbrev pub KeepsMore : Placement → Placement → Type 0
KeepsMore before after = (number address : ℕ) → before number ≡ Some address → after number ≡ Some address

-- a name is kept, at this address
pub record IsForwarded (kept : Kept) (start : Beginning) (after : Placement) (done : Done) (stage : Stage) (name : Option ℕ) (address : ℕ)
    : Type 0 where
  pub placement : Placement
  pub collecting : IsCollecting kept start placement done stage
  pub more : KeepsMore after placement
  pub address_is : address ≡ name_address placement name
  pub placed : IsNamePlaced placement name
  pub found : IsNameKept start placement collecting.marks name

-- the collection went on to this stage
pub record HasGoneOn (kept : Kept) (start : Beginning) (after : Placement) (done : Done) (stage : Stage) : Type 0 where
  pub placement : Placement
  pub now_done : Done
  pub collecting : IsCollecting kept start placement now_done stage
  pub more : KeepsMore after placement
  pub registers : (t reg : ℕ) → now_done.registers t reg ≡ done.registers t reg
  pub common : now_done.common ≡ done.common

-- an object whose slots are roots or that is reached itself: so what it names is reached
abbrev pub IsTracedObject : RunKind → Beginning → ℕ → Type 0
IsTracedObject RunKind.Minor start number =
    (is_young start.memory.layout start.placement number ≡ true) ⊎ (is_remembered start.memory.word start.placement number ≡ true)
IsTracedObject RunKind.Full start number = is_reachable start.world number ≡ true

-- an object that is traced is kept at this address, and it isn't to be scanned any more but for its being in hand
pub record IsToTreat (start : Beginning) (after : Placement) (stage : Stage) (number address : ℕ) : Type 0 where
  pub at : after number ≡ Some address
  pub traced : IsTracedObject start.kind start number
  pub scanned : IsToScan start stage number → ⊥

-- how much a collection can still do on a bay: words of the half to take, objects in pages to promote or to mark, each of which
-- is put on the remembered list, and grey objects to scan
abbrev pub bay_work_left : Bay → ℕ
bay_work_left bay =
    (bay.layout.nursery - bay.used) + 2 * (remembered_room bay.layout - length bay.remembered) + length bay.grey

-- and on all bays: it falls by each copy, by each mark and by each grey object that is taken
abbrev pub work_left : List Bay → ℕ
work_left bays = sum_by bay_work_left bays

-- the registers are done up to this one of this mutator's
abbrev pub AreDoneTo : Done → ℕ → ℕ → Type 0
AreDoneTo done t reg =
    ((u other : ℕ) → (u < t) ⊎ ((u ≡ t) × (other < reg)) → done.registers u other ≡ true)
    × ((u other : ℕ) → (t < u) ⊎ ((u ≡ t) × (reg ≤ other)) → done.registers u other ≡ false)

-- the registers are treated up to this one of this mutator's
pub record AreTraced (kept : Kept) (start : Beginning) (t reg : ℕ) (stage : Stage) : Type 0 where
  pub placement : Placement
  pub done : Done
  pub collecting : IsCollecting kept start placement done stage
  pub registers : AreDoneTo done t reg
  pub common : done.common ≡ true

-- a collection has begun on a heap that was at rest: the halves are flipped, and nothing is done but what needs nothing, and in a
-- full one the mark of the common object
abbrev pub HasBegun : Kept → Beginning → Type 0
HasBegun kept start = AreTraced kept start 0 0 (first_stage start)

-- a full collection has begun but for the mark of the common object
pub record IsFlippedFull (kept : Kept) (start : Beginning) : Type 0 where
  pub placement : Placement
  pub done : Done
  pub collecting : IsCollecting kept start placement done (first_stage start)
  pub registers : AreDoneTo done 0 0
  pub common : IsToMark kept start placement 0 (cell_address start.memory.layout 0 0)

-- all that a full collection reaches is kept
pub record HasTracedAll (kept : Kept) (start : Beginning) : Type 0 where
  pub full : start.kind ≡ RunKind.Full
  pub traced : AreTraced kept start start.memory.layout.mutators 0 (first_stage start)
  pub no_grey : (t : ℕ) → t < start.memory.layout.mutators → (bay_at kept.bays t).grey ≡ []

-- and the cells are to be swept from this offset of this mutator's on
pub record IsSwept (kept : Kept) (start : Beginning) (after : Placement) (t offset : ℕ) : Type 0 where
  pub full : start.kind ≡ RunKind.Full
  pub rest : IsAtRest start.memory start.placement start.world
  pub sound : IsSound start.world
  pub typed : IsWellTyped start.memory.types start.world
  pub types : kept.types ≡ start.memory.types
  pub words : length kept.words ≡ 1 + word_count start.memory.layout
  pub bays : length kept.bays ≡ start.memory.layout.mutators
  pub traced : ℕ → Bay
  pub sweeping : IsSweeping start.memory traced start.placement after start.world (memory_of kept) t offset

-- some full collection is swept up to there
pub record IsSweptIn (kept : Kept) (t offset : ℕ) : Type 0 where
  pub start : Beginning
  pub after : Placement
  pub swept : IsSwept kept start after t offset

-- what a collection of a kind does to a memory
abbrev pub IsCollection : RunKind → Memory → Memory → Placement → Placement → World → Type 0
IsCollection RunKind.Minor old new before after world = IsMinorCollection old new before after world
IsCollection RunKind.Full old new before after world = IsFullCollection old new before after world

-- a collection has kept all that it reaches, and the heap shows the world again
pub record HasTraced (kept : Kept) (start : Beginning) (after : Placement) : Type 0 where
  pub rest : IsAtRest start.memory start.placement start.world
  pub sound : IsSound start.world
  pub typed : IsWellTyped start.memory.types start.world
  pub types : kept.types ≡ start.memory.types
  pub layout : kept.layout ≡ start.memory.layout
  pub words : length kept.words ≡ 1 + word_count start.memory.layout
  pub bays : length kept.bays ≡ start.memory.layout.mutators
  pub collection : IsCollection start.kind start.memory (memory_of kept) start.placement after start.world

-- some collection has
pub record IsTraced (kept : Kept) : Type 0 where
  pub start : Beginning
  pub after : Placement
  pub traced : HasTraced kept start after

-- the objects on the remembered lists name some in halves: on the lists before this mutator's, and on its own before an index
abbrev pub IsTidyTo : Kept → Beginning → Placement → ℕ → ℕ → Type 0
IsTidyTo kept start after t index = AreTidyBefore kept.layout (bay_at kept.bays) after start.world t index

-- a collection as a whole: the heap shows the same world by the placement after, and the remembered objects are those that name
-- an object in a half
pub record HasCollectedTo (kind : RunKind) (old new : Kept) (before after : Placement) (world : World) : Type 0 where
  pub collection : IsCollection kind (memory_of old) (memory_of new) before after world
  pub exact : OnlyYoungAreRemembered (memory_of new) after world

-- so it does by some placement
pub record HasCollected (kind : RunKind) (old new : Kept) (before : Placement) (world : World) : Type 0 where
  pub after : Placement
  pub shown : ShowsBy new after world
  pub collected : HasCollectedTo kind old new before after world

-- the report of a collection of a kind: a full one counts what is reachable
abbrev pub IsReportOf : RunKind → World → RunReport → Type 0
IsReportOf RunKind.Minor world report = report ≡ RunReport.Minor
IsReportOf RunKind.Full world report = report ≡ RunReport.Full ((live world).objects) ((live world).words)
