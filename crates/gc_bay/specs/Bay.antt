-- What one mutator owns beside the words of the heap.
use Rattle.std.specs.Prelude.{◌≡◌, ℕ, ◌+◌, ◌<◌, ◌≤◌, ◌^◌, List, [], length, replicate}
use Rattle.gc_gen2.specs.Cells.{IsWellFormed, free_pages}
use Rattle.gc_gen2.specs.Page.{Page, free_page}
use Rattle.gc_layout.specs.Places.{Layout, IsWithinLimits}
use Rattle.gc_layout.specs.Sizes.{register_count}
use Rattle.gc_bay.specs.Room.{grey_room, remembered_room}

-- how many objects a collection keeps, and their words
pub record Tally : Type 0 where
  pub objects : ℕ
  pub words : ℕ

-- whose it is and in which layout; the addresses in the registers, 0 for nothing; which half is the current one,
-- and how many words of it are used; the lists; the pages, and how many of them were given a class since that count
-- was reset; for each owner the batch of slots that wait to be posted to it; and the tally
pub record Bay : Type 0 where
  pub layout : Layout
  pub mutator : ℕ
  pub registers : List ℕ
  pub half : ℕ
  pub used : ℕ
  pub remembered : List ℕ
  pub grey : List ℕ
  pub pages : List Page
  pub given : ℕ
  pub batches : List (List ℕ)
  pub tally : Tally

-- what holds of every bay
pub record IsBay (bay : Bay) : Type 0 where
  pub limits : IsWithinLimits bay.layout
  pub mutator : bay.mutator < bay.layout.mutators
  pub registers : length bay.registers ≡ register_count
  pub half : bay.half < 2
  pub used : bay.used ≤ bay.layout.nursery
  pub remembered : length bay.remembered ≤ remembered_room bay.layout
  pub grey : length bay.grey ≤ grey_room bay.layout
  pub pages : IsWellFormed bay.pages
  pub page_count : length bay.pages ≡ bay.layout.pages
  pub given : bay.given + free_pages bay.pages ≤ bay.layout.pages
  pub batches : length bay.batches ≡ bay.layout.mutators
  pub objects : bay.tally.objects < 2 ^ 32
  pub words : bay.tally.words < 2 ^ 32

-- a tally of nothing
abbrev pub no_tally : Tally
no_tally = record { objects = 0; words = 0 }

-- a bay that was just made: nothing is named, used or listed
abbrev pub fresh_bay : Layout → ℕ → Bay
fresh_bay layout m =
    record {
      layout = layout;
      mutator = m;
      registers = replicate register_count 0;
      half = 0;
      used = 0;
      remembered = [];
      grey = [];
      pages = replicate layout.pages free_page;
      given = 0;
      batches = replicate layout.mutators [];
      tally = no_tally;
    }
