-- What the program answers of a run that begins with a carry, or hands one on.
use Rattle.std.specs.Prelude.{◌≡◌, ◌⊎◌, ℕ, Bool, true, false, ◌+◌, ◌<◌, ◌≤◌, List, Option, Some, None, Result, Ok, Err, String, string_bytes, ⊤}
use Rattle.std.specs.declared.alloc.Global.{Global}
use Rattle.devices.specs.Devices.{moved_by, failures_of, stops_of}
use Rattle.audit.specs.declared.plain.Verdict.{Verdict}
use Rattle.audit.specs.declared.plain.Verdict.TheVariants.{Clean, Dirty}
use Rattle.follow.specs.Carried.{RunsFirst, RunsFrom, SayNoFirstRun, SayNoRunFrom}
use Rattle.follow.specs.declared.carried.CarryRefusal.{CarryRefusal}
use Rattle.follow.specs.declared.carried.CarryRefusal.TheVariants as refusal
use Rattle.follow.specs.declared.carried.RunFault.{RunFault}
use Rattle.follow.specs.declared.carried.RunFault.TheVariants as fault
use Rattle.follow.specs.declared.handing.RunEnd.{RunEnd}
use Rattle.new_enemy.specs.Opened.{file_of, path_of}
use Rattle.new_enemy.specs.Run.{IsStatus, OfEveryInput}
use Rattle.new_enemy.specs.declared.carrying.Handed.{Handed}
use Rattle.new_enemy.specs.declared.carrying.Handed.TheVariants as handed
use Rattle.new_enemy.specs.declared.opened.Opened.{Opened}

-- ---- exit statuses

-- 5 where its reader failed, 4 for out of memory, and else 2
abbrev pub IsStatusOfRefusal : CarryRefusal → ℕ → Type 0
IsStatusOfRefusal refusal.Read s = s ≡ 5
IsStatusOfRefusal refusal.OutOfMemory s = s ≡ 4
IsStatusOfRefusal _ s = s ≡ 2

-- 1 where something was told, and else 0 where the run is whole
abbrev pub status_of_end : Verdict → Bool → ℕ
status_of_end Dirty whole = 1
status_of_end Clean true = 0
status_of_end Clean false = 6

-- ---- what a run hands on

-- the carry went to its file whole
abbrev pub IsWritten : {F : Type 0} → RunEnd → Opened F → Type 0
IsWritten end made = (text : String Global) × (end.carry ≡ Some text) × (moved_by (file_of made) ≡ string_bytes text)
    × (failures_of (file_of made) ≡ 0) × (stops_of (file_of made) ≡ 0)

-- a carry is handed on to the file of this path, which is made; status 2 says that the run has none
abbrev pub HandsOn : {F : Type 0} → List ℕ → RunEnd → ℕ → Handed F → Type 0
HandsOn path end s handed.Nothing = (end.carry ≡ None) × (s ≡ 2)
HandsOn path end s handed.NotMade = s ≡ 5
HandsOn path end s (handed.Made made) = (path_of made ≡ path)
    × (((s ≡ status_of_end end.verdict end.whole) × IsWritten end made)
    ⊎ ((s ≡ 5) × (0 < failures_of (file_of made) + stops_of (file_of made))))

-- so it is where a path is given, and the run ended
abbrev pub IsHandedOn : {F : Type 0} → Option (List ℕ) → Result RunEnd RunFault → ℕ → Handed F → Type 0
IsHandedOn (Some path) (Ok end) s to = HandsOn path end s to
IsHandedOn None (Ok end) s to = (to ≡ handed.Nothing) × (s ≡ status_of_end end.verdict end.whole)
IsHandedOn path (Err (fault.Carry f)) s to = (to ≡ handed.Nothing) × IsStatusOfRefusal f s
IsHandedOn path (Err (fault.Run f)) s to = (to ≡ handed.Nothing) × (2 ≤ s) × IsStatus f s

-- ---- what went out

-- All that the trace's file gave, to its end, was followed as a run of which this is the end, behind the log of the carry
-- that the other file gave, to its end, or behind none.
abbrev pub RunsOn : {F : Type 0} → Option (Opened F) → Opened F → List ℕ → List ℕ → RunEnd → Type 0
RunsOn None trace old new end = (stops_of (file_of trace) ≡ 1) × RunsFirst (moved_by (file_of trace)) old new end
RunsOn (Some from) trace old new end = (stops_of (file_of from) ≡ 1) × (stops_of (file_of trace) ≡ 1)
    × RunsFrom (moved_by (file_of from)) (moved_by (file_of trace)) old new end

-- where a carry was handed on, it went to its file whole
abbrev pub IsHanded : {F : Type 0} → RunEnd → Handed F → Type 0
IsHanded end handed.Nothing = ⊤
IsHanded end handed.NotMade = ⊥
IsHanded end (handed.Made made) = IsWritten end made

-- a run ended with this verdict, and was whole, or not
abbrev pub IsRunTold : {F : Type 0} → Verdict → (Bool → Type 0) → Opened F → Option (Opened F) → Handed F → List ℕ → List ℕ
    → Type 0
IsRunTold v Whole trace from to old new = (end : RunEnd) × RunsOn from trace old new end × (end.verdict ≡ v)
    × Whole end.whole × IsHanded end to

-- nothing was found, and all was audited, or goes on in the carry
abbrev pub IsCleanRunTold : {F : Type 0} → Opened F → Option (Opened F) → Handed F → List ℕ → List ℕ → Type 0
IsCleanRunTold = IsRunTold Clean (λ b. b ≡ true)

-- nothing was found, and some entry was not audited
abbrev pub IsIncompleteRunTold : {F : Type 0} → Opened F → Option (Opened F) → Handed F → List ℕ → List ℕ → Type 0
IsIncompleteRunTold = IsRunTold Clean (λ b. b ≡ false)

abbrev pub IsDirtyRunTold : {F : Type 0} → Opened F → Option (Opened F) → Handed F → List ℕ → List ℕ → Type 0
IsDirtyRunTold = IsRunTold Dirty (λ b. ⊤)

-- no run begins with what the files gave
abbrev pub IsNoRun : {F : Type 0} → Option (Opened F) → Opened F → Type 0
IsNoRun None trace = OfEveryInput (file_of trace) SayNoFirstRun
IsNoRun (Some from) trace = OfEveryInput (file_of from) (λ b. OfEveryInput (file_of trace) (λ a. SayNoRunFrom b a))

-- or the run has no carry to hand on
abbrev pub HasNoCarry : {F : Type 0} → Option (Opened F) → Opened F → Type 0
HasNoCarry from trace = (old : List ℕ) × (new : List ℕ) × (end : RunEnd) × RunsOn from trace old new end × (end.carry ≡ None)
