-- The table of calls: how each call word is spelled, the kinds of the words behind it, and the call that it makes of
-- their numbers. The grammar and the written text both go by it.
use Rattle.std.specs.Prelude.{ℕ, ◌<◌, ◌^◌, List, [], ◌∷◌, slice_index, Option, None, Some, Result, Ok, Err, if◌then◌else◌, codes}
use Rattle.std.specs.Str.{bytes_eq}
use Rattle.gc_layout.specs.Sizes.{common_slots, register_count}
use Rattle.gc_model.specs.declared.call.Call.{Call}
use Rattle.gc_model.specs.declared.call.Call.TheVariants as calls
use Rattle.gc_script.specs.declared.calls.CallWord.{CallWord}
use Rattle.gc_script.specs.declared.calls.CallWord.TheVariants.{New, Get, Put, Ask, Set, Swap, Same, Copy, Clear, Share, Take, Await, Safepoint, Collect, Block, Unblock}
use Rattle.gc_script.specs.declared.calls.Kind.{Kind}
use Rattle.gc_script.specs.declared.calls.Kind.TheVariants.{Register, Small, CommonPlace, Number, TypeName}
use Rattle.gc_script.specs.declared.fault.Cause.{Cause}
use Rattle.gc_script.specs.declared.fault.Cause.TheVariants.{Word}

-- the call words
abbrev pub each_call_word : List CallWord
each_call_word =
    New ∷ Get ∷ Put ∷ Ask ∷ Set ∷ Swap ∷ Same ∷ Copy ∷ Clear ∷ Share ∷ Take ∷ Await ∷ Safepoint ∷ Collect ∷ Block ∷ Unblock ∷ []

-- how a call word is spelled
abbrev pub spelled_word : CallWord → List ℕ
spelled_word New = codes "new"
spelled_word Get = codes "get"
spelled_word Put = codes "put"
spelled_word Ask = codes "ask"
spelled_word Set = codes "set"
spelled_word Swap = codes "swap"
spelled_word Same = codes "same"
spelled_word Copy = codes "copy"
spelled_word Clear = codes "clear"
spelled_word Share = codes "share"
spelled_word Take = codes "take"
spelled_word Await = codes "await"
spelled_word Safepoint = codes "safepoint"
spelled_word Collect = codes "collect"
spelled_word Block = codes "block"
spelled_word Unblock = codes "unblock"

-- the first of these call words that is spelled so
abbrev pub spelled_among : List CallWord → List ℕ → Result CallWord Cause
spelled_among [] word = Err Word
spelled_among (here ∷ others) word = if bytes_eq word (spelled_word here) then Ok here else spelled_among others word

-- the call word that is spelled so
unfoldable pub call_word : List ℕ → Result CallWord Cause
call_word word = spelled_among each_call_word word

-- the kinds of the words behind a call word, from left to right
abbrev pub kinds_of : CallWord → List Kind
kinds_of New = Register ∷ TypeName ∷ []
kinds_of Get = Register ∷ Register ∷ Small ∷ []
kinds_of Put = Register ∷ Small ∷ Register ∷ []
kinds_of Ask = Register ∷ Small ∷ []
kinds_of Set = Register ∷ Small ∷ Number ∷ []
kinds_of Swap = Register ∷ Small ∷ Number ∷ Number ∷ []
kinds_of Same = Register ∷ Register ∷ []
kinds_of Copy = Register ∷ Register ∷ []
kinds_of Clear = Register ∷ []
kinds_of Share = CommonPlace ∷ Register ∷ []
kinds_of Take = Register ∷ CommonPlace ∷ []
kinds_of Await = Register ∷ CommonPlace ∷ []
kinds_of Safepoint = []
kinds_of Collect = []
kinds_of Block = []
kinds_of Unblock = []

-- the call of a call word and the numbers behind it, from left to right
abbrev pub call_from : CallWord → List ℕ → Call
call_from New numbers = calls.New (slice_index numbers 0) (record { 0 = slice_index numbers 1 })
call_from Get numbers = calls.Get (slice_index numbers 0) (slice_index numbers 1) (slice_index numbers 2)
call_from Put numbers = calls.Put (slice_index numbers 0) (slice_index numbers 1) (slice_index numbers 2)
call_from Ask numbers = calls.Ask (slice_index numbers 0) (slice_index numbers 1)
call_from Set numbers = calls.Set (slice_index numbers 0) (slice_index numbers 1) (slice_index numbers 2)
call_from Swap numbers =
    calls.SwapIf (slice_index numbers 0) (slice_index numbers 1) (slice_index numbers 2) (slice_index numbers 3)
call_from Same numbers = calls.Same (slice_index numbers 0) (slice_index numbers 1)
call_from Copy numbers = calls.CopyReg (slice_index numbers 0) (slice_index numbers 1)
call_from Clear numbers = calls.ClearReg (slice_index numbers 0)
call_from Share numbers = calls.Share (slice_index numbers 0) (slice_index numbers 1)
call_from Take numbers = calls.Take (slice_index numbers 0) (slice_index numbers 1)
call_from Await numbers = calls.Await (slice_index numbers 0) (slice_index numbers 1)
call_from Safepoint numbers = calls.Safepoint
call_from Collect numbers = calls.Collect
call_from Block numbers = calls.Block
call_from Unblock numbers = calls.Unblock

-- the call word of a call and the numbers behind it; no line of a script makes an End
abbrev pub parts_of : Call → Option (CallWord × List ℕ)
parts_of (calls.New into ty) = Some (New, into ∷ ty.0 ∷ [])
parts_of (calls.Get into base place) = Some (Get, into ∷ base ∷ place ∷ [])
parts_of (calls.Put base place value) = Some (Put, base ∷ place ∷ value ∷ [])
parts_of (calls.Ask base place) = Some (Ask, base ∷ place ∷ [])
parts_of (calls.Set base place number) = Some (Set, base ∷ place ∷ number ∷ [])
parts_of (calls.SwapIf base place expected replacement) = Some (Swap, base ∷ place ∷ expected ∷ replacement ∷ [])
parts_of (calls.Same left right) = Some (Same, left ∷ right ∷ [])
parts_of (calls.CopyReg into source) = Some (Copy, into ∷ source ∷ [])
parts_of (calls.ClearReg reg) = Some (Clear, reg ∷ [])
parts_of (calls.Share place value) = Some (Share, place ∷ value ∷ [])
parts_of (calls.Take into place) = Some (Take, into ∷ place ∷ [])
parts_of (calls.Await into place) = Some (Await, into ∷ place ∷ [])
parts_of calls.Safepoint = Some (Safepoint, [])
parts_of calls.Collect = Some (Collect, [])
parts_of calls.Block = Some (Block, [])
parts_of calls.Unblock = Some (Unblock, [])
parts_of calls.End = None

-- a number that a word of a kind can give, where there are so many types
abbrev pub IsOfKind : ℕ → Kind → ℕ → Type 0
IsOfKind types Register number = number < register_count
IsOfKind types Small number = number < 256
IsOfKind types CommonPlace number = number < common_slots
IsOfKind types Number number = number < 2 ^ 64
IsOfKind types TypeName number = (0 < number) × (number < types)

-- numbers that words of these kinds can give, one by one
abbrev pub AreOfKinds : ℕ → List Kind → List ℕ → Type 0
AreOfKinds types [] [] = Unit {0}
AreOfKinds types [] (number ∷ numbers) = ⊥
AreOfKinds types (kind ∷ kinds) [] = ⊥
AreOfKinds types (kind ∷ kinds) (number ∷ numbers) = IsOfKind types kind number × AreOfKinds types kinds numbers

-- a call word, and numbers that the words behind it can give
abbrev pub AreReadable : ℕ → Option (CallWord × List ℕ) → Type 0
AreReadable types None = ⊥
AreReadable types (Some parts) = AreOfKinds types (kinds_of parts.0) parts.1

-- a call that a call line can make, where there are so many types
abbrev pub IsReadable : ℕ → Call → Type 0
IsReadable types call = AreReadable types (parts_of call)
