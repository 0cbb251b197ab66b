-- How a bay stands in its fields.
use Rattle.std.specs.Prelude.{◌≡◌, ◌≤◌, vec_capacity}
use Rattle.gc_layout.specs.Places.{address_of}
use Rattle.gc_layout.specs.declared.places.Part.TheVariants.{Half}
use Rattle.gc_bay.specs.declared.bay.Bay.TheInside.{Inside}
use Rattle.gc_bay.specs.Bay.{Bay, IsBay}
use Rattle.gc_bay.specs.Room.{grey_room, remembered_room}

-- the bay that the fields stand for
abbrev pub bay_of : Inside → Bay
bay_of b =
    record {
      layout = b.places;
      mutator = b.mutator;
      registers = b.registers;
      half = b.half;
      used = b.used;
      remembered = b.remembered.items;
      grey = b.grey.items;
      pages = b.gen2;
      given = b.given;
      batches = b.batches.items;
      tally = record { objects = b.objects; words = b.words };
    }

-- it is a bay, the lists have their memory, and the address of the current half is at hand
pub record IsInOrder (b : Inside) : Type 0 where
  pub bay : IsBay (bay_of b)
  pub remembered : remembered_room b.places ≤ vec_capacity b.remembered
  pub grey : grey_room b.places ≤ vec_capacity b.grey
  pub start : b.start ≡ address_of b.places b.mutator (Half b.half 0)
