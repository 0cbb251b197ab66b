-- The cause of each status, from the reading of the source to the writing of the text.
use Rattle.std.specs.Prelude.{◌≡◌, ◌⊎◌, ℕ, List, Option, Some}
use Rattle.gc_io.specs.Faults.{HasRisen}
use Rattle.gc_cli.specs.declared.status.Status.{Status}
use Rattle.gc_cli.specs.declared.status.Status.TheVariants.{Bad, Long, ReadFault, NoMemory}
use Rattle.gc_cli.specs.Played.{IsTooLong, IsNoScript, BreaksOff}

-- why no script came from a source, by what it has left and its count of faults before and after
abbrev pub HasNoScript : Status → Option (List ℕ) → Option (List ℕ) → ℕ → ℕ → Type 0
HasNoScript ReadFault rest_old rest_new faults_old faults_new = (bytes : List ℕ) × BreaksOff rest_old rest_new faults_old faults_new bytes
HasNoScript Long rest_old rest_new faults_old faults_new = (bytes : List ℕ) × IsTooLong rest_old rest_new bytes
HasNoScript (Bad line cause) rest_old rest_new faults_old faults_new = (bytes : List ℕ) × IsNoScript rest_old rest_new bytes line cause
HasNoScript NoMemory rest_old rest_new faults_old faults_new = Unit {0}
HasNoScript status rest_old rest_new faults_old faults_new = ⊥

-- this status, or want of memory in its place
abbrev pub IsOrNoMemory : Status → Status → Type 0
IsOrNoMemory expected status = (status ≡ expected) ⊎ (status ≡ NoMemory)

-- the source told what it had to give, these bytes, and no fault of it was counted
pub record Tells (rest : Option (List ℕ)) (faults_old faults_new : ℕ) (bytes : List ℕ) : Type 0 where
  pub told : rest ≡ Some bytes
  pub quiet : ¬ HasRisen faults_old faults_new
