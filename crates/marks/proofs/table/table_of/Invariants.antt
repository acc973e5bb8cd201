use Rattle.std.proofs.Common.{◌≡◌, ℕ, nat_eq}
use Rattle.marks.specs.Links.{IsTable, newest_of}
use Rattle.marks.specs.Placed.{last_place}
use Rattle.marks.proofs.table.table_of.Given as goal

abbrev pub invariant-loop-index : goal.invariant-loop-index
invariant-loop-index l = record {
  table : IsTable l.marks l.table;
  so_far : (m : ℕ) → newest_of l.marks l.table m ≡ last_place (nat_eq m) l.marks l.index;
}
