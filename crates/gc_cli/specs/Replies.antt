-- The list of replies.
use Rattle.std.specs.Prelude.{◌≤◌, ℕ, List, length, vec_capacity}
use Rattle.gc_model.specs.declared.reply.Reply.{Reply}
use Rattle.gc_cli.specs.declared.replies.Replies.TheInside.{Inside}

-- replies in their order, and for how many there is room
pub record ReplyList : Type 0 where
  pub list : List Reply
  pub room : ℕ

-- the list that the fields stand for
abbrev pub list_of : Inside → ReplyList
list_of replies = record { list = replies.items.items; room = replies.room }

-- there are no more replies than there is room for, and the room has its memory
pub record HasItsRoom (replies : Inside) : Type 0 where
  pub within : length replies.items.items ≤ replies.room
  pub memory : replies.room ≤ vec_capacity replies.items
