-- A file that was opened: what it gave so far, and by which path.
use Rattle.std.specs.Prelude.{◌≡◌, ℕ, List, []}
use Rattle.devices.specs.Devices.{moved_by, failures_of, stops_of}
use Rattle.devices.specs.declared.counted.Counted.{Counted}
use Rattle.new_enemy.specs.declared.opened.Opened.{Opened}

abbrev pub path_of : {F : Type 0} → Opened F → List ℕ
path_of o = o.path.numbers

abbrev pub file_of : {F : Type 0} → Opened F → Counted F
file_of o = o.file

-- it has given nothing yet
abbrev pub IsUnused : {F : Type 0} → Counted F → Type 0
IsUnused file = (moved_by file ≡ []) × (stops_of file ≡ 0) × (failures_of file ≡ 0)

abbrev pub IsUnread : {F : Type 0} → Opened F → Type 0
IsUnread o = IsUnused (file_of o)
